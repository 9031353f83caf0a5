-- Where a rate stands.
use Rattle.std.specs.Prelude.{ℕ}
use Rattle.link_flights.specs.declared.rate.Held.{Held}
use Rattle.link_flights.specs.declared.rate.Held.TheVariants.{InPlace, Shared}

-- the number, wherever it stands
abbrev pub number_of : Held → ℕ
number_of (InPlace number) = number
number_of (Shared large) = large.value.number
