-- What is in flight, counted in larger units.
use Prim.Native.Nat.{◌∣◌}
use Rattle.std.specs.Prelude.{◌≡◌, ℕ, ◌/◌, ◌<◌, List, Some, slice_get}
use Rattle.std.specs.List.{AllZip}
use Rattle.link_flights.specs.declared.flight.Flight.{Flight}

-- a number above zero that divides what is left of a message, and its rate
pub record IsFactorOf {P : Type 0} (f : Flight P) (by : ℕ) : Type 0 where
  pub some : 0 < by
  pub left : by ∣ f.left
  pub rate : by ∣ f.rate

-- it divides so those of all messages
abbrev pub IsFactorOfAll : {P : Type 0} → List (Flight P) → ℕ → Type 0
IsFactorOfAll {P} fs by =
    (i : ℕ) (f : Flight P) → slice_get fs i ≡ Some f → IsFactorOf f by

-- it divides the scale and those of all messages
pub record IsCommonFactor {P : Type 0} (scale : ℕ) (fs : List (Flight P)) (by : ℕ) : Type 0 where
  pub some : 0 < by
  pub units : by ∣ scale
  pub all : IsFactorOfAll fs by

-- the same message, counted in units so many times as large
pub record IsCountedBy {P : Type 0} (by : ℕ) (old new : Flight P) : Type 0 where
  pub id : new.id ≡ old.id
  pub message : new.message.value ≡ old.message.value
  pub left : new.left ≡ old.left / by
  pub rate : new.rate ≡ old.rate / by
  pub since : new.since ≡ old.since
  pub finish : new.finish ≡ old.finish
  pub rated : new.rated ≡ old.rated

-- the same messages, all counted so
abbrev pub AreCountedBy : {P : Type 0} → ℕ → (old new : List (Flight P)) → Type 0
AreCountedBy by old new = AllZip (IsCountedBy by) old new
