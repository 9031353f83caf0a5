-- Room for what is known by number.
use Rattle.std.specs.Prelude.{◌≡◌, ℕ, ◌+◌, ◌-◌, ◌≤◌, List, ◌++◌, length, replicate}
use Rattle.std.specs.declared.cmp.Ordering.{Ordering}
use Rattle.undo_list.specs.Versions.{Versions}
use Rattle.link_pairs.specs.declared.known_pairs.Known.{Known}
use Rattle.link_pairs.specs.Pairs.Entries.{link_of, arrival_of, known_by_pair, AreInNumbers, HaveNoCap}

-- the list has got that item, some times, and none behind that place
pub record IsFilledUp {X : Type 0} (old : List X) (item : X) (place : ℕ) (new : List X) : Type 0 where
  pub count : ℕ
  pub is : new ≡ old ++ replicate count item
  pub few : count ≤ (place + 1) - length old

-- with other numbers and room the same is known of each pair
pub record IsStillKnown {P : Type 0} (cmp : P → P → Ordering) (pairs : List (P × P)) (known : Versions Known)
    (new_pairs : List (P × P)) (new : Versions Known) : Type 0 where
  pub link : link_of cmp (known_by_pair new_pairs new.items) ≡ link_of cmp (known_by_pair pairs known.items)
  pub arrival : arrival_of cmp (known_by_pair new_pairs new.items) ≡ arrival_of cmp (known_by_pair pairs known.items)
  pub before : known_by_pair new_pairs new.before ≡ known_by_pair pairs known.before
  pub numbers : AreInNumbers new_pairs new
  pub no_cap_now : HaveNoCap known.items → HaveNoCap new.items
  pub no_cap_before : HaveNoCap known.before → HaveNoCap new.before
