-- Caps change, once what they are about is loose.
use Rattle.link_flights.proofs.Common.{◌≡◌, Bool, true, false, not, Contains, sym, ap, ◌∙◌, ◌⊎◌, inl, inr, subst}
use Rattle.link_flights.proofs.Common.{list_all, Ordering, cap_of, limits, Caps, Subject, by_bool, In, all_pass}
use Rattle.link_flights.proofs.Common.{all_passed, from_filter, from_map, in_from_contains, contains_from_in, Message}
use Rattle.link_flights.proofs.Common.{is_unlimited, message_of, Flights, UnitFlight, flights_at, in_units, loose_in}
use Rattle.link_flights.proofs.Common.{WereRatedUnder, IsLoose, DifferWhereLoose, are_limited, rated_ones}
use Rattle.link_flights.proofs.Common.{flow_in_flight, AreStillLoose}
use Rattle.link_pairs.specs.declared.message.Message as code

module _ {P : Type 0} {a : _} {b : _} {c : _} (cmp : P → P → Ordering) (test : Message P → Bool) (old new : Flights P a b c)
    (still : AreStillLoose old new)
    (all : (u : UnitFlight P) → Contains (in_units new) u → u.rated ≡ true → test (message_of u.message) ≡ true
    → IsLoose (loose_in new) new.floor u)
    (caps now : Caps P)
    (changed : (s : Subject P) → (cap_of caps s ≡ cap_of now s)
    ⊎ ((u : UnitFlight P) → limits cmp s (flow_in_flight cmp u) ≡ true → test (message_of u.message) ≡ true))
    (unlike : (m : Message P) → test m ≡ false → is_unlimited cmp now m ≡ is_unlimited cmp caps m)
    (limited : list_all (λ m. not (is_unlimited cmp now (message_of m))) new.loose ≡ true)
    (were : WereRatedUnder cmp caps old) where
  units : in_units new ≡ in_units old
  units = λ i. flights_at (still.at i) (still.list i)

  still_there : (u : UnitFlight P) → Contains (in_units new) u → Contains (in_units old) u
  still_there u h = subst (λ us. Contains us u) units h

  differ : DifferWhereLoose cmp were.was now (loose_in new) new.floor (in_units new)
  differ s = elim (were.differ s) [
    | inl same ↦ elim (changed s) [
      | inl unchanged ↦ inl (same ∙ unchanged)
      | inr passes ↦ inr (λ u h rated l. all u h rated (passes u l))
    ]
    | inr loose ↦ inr (λ u h rated l. still.still u (loose u (still_there u h) rated l))
  ]

  -- the message of one that is loose uses a capped side
  loose_limited : (u : UnitFlight P) → IsLoose (loose_in new) new.floor u
      → not (is_unlimited cmp now (message_of u.message)) ≡ true
  loose_limited u (listed, above) =
      let m = from_map (λ (m : code.Message P). message_of m) new.loose (message_of u.message)
      (in_from_contains (loose_in new) (message_of u.message) listed) in
      ap (λ n. not (is_unlimited cmp now n)) (sym m.2)
      ∙ all_pass (λ m. not (is_unlimited cmp now (message_of m))) new.loose limited m.0 m.1

  all_limited : are_limited cmp now (rated_ones (in_units new)) ≡ true
  all_limited =
      all_passed (λ u. not (is_unlimited cmp now (message_of u.message))) (rated_ones (in_units new)) (λ u among.
      let here = from_filter (λ (v : UnitFlight P). v.rated) (in_units new) u among in
      by_bool (test (message_of u.message))
      (λ passes. loose_limited u (all u (contains_from_in (in_units new) u here.0) here.1 passes))
      (λ fails. ap not (unlike (message_of u.message) fails)
      ∙ all_pass (λ v. not (is_unlimited cmp caps (message_of v.message))) (rated_ones (in_units old)) were.limited u
      (subst (λ us. In (rated_ones us) u) units among)))

  pub rated_under_new : WereRatedUnder cmp now new
  rated_under_new = record {
    was = were.was;
    of_peers = were.of_peers;
    fair = rw (still.list, still.scale, still.at) were.fair;
    differ = differ;
    limited = all_limited;
    timed = rw still.list were.timed;
  }
