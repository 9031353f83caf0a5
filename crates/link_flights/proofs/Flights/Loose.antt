-- What is loose, step by step.
use Rattle.link_flights.proofs.Common.{◌≡◌, ℕ, ◌+◌, ◌<◌, true, List, [], ◌∷◌, Option, Some, None, length, get_or, ◌++◌}
use Rattle.link_flights.proofs.Common.{Contains, refl, sym, ap, ◌∙◌, subst, arith, inl, inr, map, IsTotalOrder}
use Rattle.link_flights.proofs.Common.{Ordering, false≢true, cases_lt, eq_by_cmp_equiv, In, in_from_contains}
use Rattle.link_flights.proofs.Common.{contains_from_in, in_left, in_right, get_in, get_from_map, map-append, Message}
use Rattle.link_flights.proofs.Common.{message_of, Flight, Flights, End, Origin, Recipient, UnitFlight, flight_at}
use Rattle.link_flights.proofs.Common.{flights_at, in_units, loose_in, IsNextPlace, PassesFirstAt, IsLoose, share}
use Rattle.link_flights.proofs.Common.{number_of, slice_get_within, get_or_from_slice_get, AreStillLoose}
use Rattle.std.specs.Prelude.{slice_get}
use Rattle.link_pairs.specs.declared.message.Message as code
use Rattle.link_flights.specs.Flights.Loose.{is_at_end, IsLooseAt, LoosensAt}
use Rattle.link_flights.proofs.Flights.Places.{one_there}
use Rattle.link_flights.proofs.Flights.Rows.{end_of}
use Rattle.link_flights.proofs.Flights.Search.{each_more, behind}

-- a message that has the peer at both ends
abbrev pub letter : {P : Type 0} → P → code.Message P
letter p = record { origin = p; recipient = p; channel = 0; bytes = []; latency = 0; should_deliver = true }

module _ {P : Type 0} (cmp : P → P → Ordering) where
  -- so the next place is the same
  pub next_has_end : (end : End) (p : P) (list : List (Flight P)) (from : ℕ) (next : Option ℕ)
      → IsNextPlace (λ one. share cmp end (letter p) one.message.value) list from next
      → IsNextPlace (λ one. is_at_end cmp end p one.message.value) list from next
  next_has_end Origin p list from next is = is
  next_has_end Recipient p list from next is = is

  end_alike : IsTotalOrder cmp → (end : End) (p : P) (n other : code.Message P) → is_at_end cmp end p n ≡ true
      → is_at_end cmp end p other ≡ share cmp end n other
  end_alike order Origin p n other same = (eq_by_cmp_equiv order).congr p n.origin other.origin same
  end_alike order Recipient p n other same = (eq_by_cmp_equiv order).congr p n.recipient other.recipient same

  -- those that share an end with one that has the peer there have it there
  next_of_end : IsTotalOrder cmp → (end : End) (p : P) (list : List (Flight P)) (from : ℕ)
      (next : Option ℕ) (n : code.Message P) → is_at_end cmp end p n ≡ true
      → IsNextPlace (λ other. share cmp end n other.message.value) list from next
      → IsNextPlace (λ other. is_at_end cmp end p other.message.value) list from next
  next_of_end order end p list from next n same =
      subst (λ test. IsNextPlace test list from next)
      (λ i (other : Flight P). sym (end_alike order end p n other.message.value same) i)

-- the number of such a message's peer
pub number_of_letter : {P : Type 0} (cmp : P → P → Ordering) (total : IsTotalOrder cmp) (peers : List P) (end : End) (p : P)
    → number_of cmp peers (end_of cmp total end (letter p)) ≡ number_of cmp peers p
number_of_letter cmp total peers Origin p = refl
number_of_letter cmp total peers Recipient p = refl

-- one more message is listed, and those that were still are
module _ {P : Type 0} (loose new : List (code.Message P)) (m : code.Message P) (is : new ≡ loose ++ m ∷ []) where
  abbrev messages : List (code.Message P) → List (Message P)
  messages ms = map (λ n. message_of n) ms

  read : messages new ≡ messages loose ++ message_of m ∷ []
  read = ap messages is ∙ map-append (λ (n : code.Message P). message_of n) loose (m ∷ [])

  pub listed_with : Contains (messages new) (message_of m)
  listed_with =
      contains_from_in (messages new) (message_of m)
      (subst (λ (ms : List (Message P)). In ms (message_of m)) (sym read)
      (in_right (messages loose) (message_of m ∷ []) (message_of m) (inl refl)))

  pub still_listed : (n : Message P) → Contains (messages loose) n → Contains (messages new) n
  still_listed n has =
      contains_from_in (messages new) n
      (subst (λ (ms : List (Message P)). In ms n) (sym read)
      (in_left (messages loose) (message_of m ∷ []) n (in_from_contains (messages loose) n has)))

module _ {P : Type 0} {a : _} {b : _} {c : _} where
  pub still_all : (flights : Flights P a b c) → AreStillLoose flights flights
  still_all flights = record { list = refl; scale = refl; at = refl; still = λ u h. h }

  pub still_then : (old mid new : Flights P a b c) → AreStillLoose old mid → AreStillLoose mid new
      → AreStillLoose old new
  still_then old mid new s t = record {
    list = t.list ∙ s.list;
    scale = t.scale ∙ s.scale;
    at = t.at ∙ s.at;
    still = λ u h. t.still u (s.still u h);
  }

  module _ (cmp : P → P → Ordering) (end : End) (p : P) (old : Flights P a b c) where
    -- those before some place that have the peer at that end are loose, and the next is known
    pub record HasLoosened (now : Flights P a b c) (next : Option ℕ) : Type 0 where
      pub from : ℕ
      pub is_next : IsNextPlace (λ one. is_at_end cmp end p one.message.value) old.list.items from next
      pub loose : AreStillLoose old now
      pub so_far : (i : ℕ) (one : Flight P) → i < from → slice_get old.list.items i ≡ Some one
          → is_at_end cmp end p one.message.value ≡ true → one.rated ≡ true
          → IsLoose (loose_in now) now.floor (flight_at old.at one)

    pub none_loosened : (next : Option ℕ) → IsNextPlace (λ one. is_at_end cmp end p one.message.value) old.list.items 0 next
        → HasLoosened old next
    none_loosened next is = record {
      from = 0;
      is_next = is;
      loose = still_all old;
      so_far = λ i one below. absurd (omega (arith, below));
    }

    module _ (now : Flights P a b c) (next : Option ℕ) (has : HasLoosened now next) where
      first_there : (at : ℕ) → next ≡ Some at
          → PassesFirstAt (λ one. is_at_end cmp end p one.message.value) old.list.items has.from at
      first_there at is =
          subst (IsNextPlace (λ one. is_at_end cmp end p one.message.value) old.list.items has.from) is has.is_next

      pub loosened_inside : (at : ℕ) → next ≡ Some at → at < length now.list.items
      loosened_inside at is = rw has.loose.list (first_there at is).high

      -- the next one that has the peer at that end
      next_there : IsTotalOrder cmp → (at : ℕ) → next ≡ Some at → (following : Option ℕ) (new : Flights P a b c)
          → ((d : Flight P) → IsNextPlace
          (λ other. share cmp end (get_or new.list.items at d).message.value other.message.value)
          new.list.items (at + 1) following)
          → AreStillLoose now new
          → IsNextPlace (λ one. is_at_end cmp end p one.message.value) old.list.items (at + 1) following
      next_there order at is following new further still =
          let there = first_there at is in
          let one = (one_there old.list.items at there.high).0 in
          next_of_end cmp order end p old.list.items (at + 1) following (get_or old.list.items at one).message.value
          (there.here one)
          (subst (λ l. IsNextPlace (λ other. share cmp end (get_or l at one).message.value other.message.value)
          l (at + 1) following) (still.list ∙ has.loose.list) (further one))

      -- the one there is loose, too, and the next one is known
      pub loosened_more : IsTotalOrder cmp → (at : ℕ) → next ≡ Some at → (following : Option ℕ) (new : Flights P a b c)
          → ((d : Flight P) → IsNextPlace
          (λ other. share cmp end (get_or new.list.items at d).message.value other.message.value)
          new.list.items (at + 1) following)
          → AreStillLoose now new → IsLooseAt at new → HasLoosened new following
      loosened_more order at is following new further still here =
          let there = first_there at is in
          let all = still_then old now new has.loose still in record {
            from = at + 1;
            is_next = next_there order at is following new further still;
            loose = all;
            so_far = each_more
                (λ i f. is_at_end cmp end p f.message.value ≡ true → f.rated ≡ true
                → IsLoose (loose_in new) new.floor (flight_at old.at f)) old.list.items at
                (λ i f below get ends rated. elim (cases_lt i has.from) [
                  | inl less ↦ still.still (flight_at old.at f) (has.so_far i f less get ends rated)
                  | inr past ↦ absurd (false≢true
                      (sym (there.before i past below f) ∙ ap (λ (g : Flight P). is_at_end cmp end p g.message.value)
                      (get_or_from_slice_get old.list.items i f f get) ∙ ends))
                ])
                (λ f get ends rated.
                let same : get_or new.list.items at f ≡ f =
                ap (λ l. get_or l at f) all.list ∙ get_or_from_slice_get old.list.items at f f get in
                subst (λ n. IsLoose (loose_in new) new.floor (flight_at n f)) all.at
                (subst (λ (g : Flight P). IsLoose (loose_in new) new.floor (flight_at new.at g)) same
                (here f (ap (λ (g : Flight P). g.rated) same ∙ rated))));
          }

      -- fewer stand behind the next one
      pub fewer_loosened : IsTotalOrder cmp → (at : ℕ) → next ≡ Some at → (following : Option ℕ) (new : Flights P a b c)
          → ((d : Flight P) → IsNextPlace
          (λ other. share cmp end (get_or new.list.items at d).message.value other.message.value)
          new.list.items (at + 1) following)
          → AreStillLoose now new → behind new.list.items following < behind now.list.items next
      fewer_loosened order at is following new further still =
          let there = first_there at is in
          by_next following (next_there order at is following new further still) (ap length (still.list ∙ has.loose.list)) (ap length has.loose.list) there.high
        where
          by_next : (following : Option ℕ)
              → IsNextPlace (λ one. is_at_end cmp end p one.message.value) old.list.items (at + 1) following
              → length new.list.items ≡ length old.list.items → length now.list.items ≡ length old.list.items
              → at < length old.list.items → behind new.list.items following < behind now.list.items next
          by_next None ahead same was high = omega (arith, same, was, high, ap (behind now.list.items) is)
          by_next (Some to) ahead same was high =
              omega (arith, same, was, high, ap (behind now.list.items) is, ahead.low, ahead.high)

      all_so : next ≡ None → (u : UnitFlight P) → Contains (in_units now) u → u.rated ≡ true
          → is_at_end cmp end p u.message ≡ true → IsLoose (loose_in now) now.floor u
      all_so is u listed rated ends =
          let units : in_units now ≡ in_units old = λ i. flights_at (has.loose.at i) (has.loose.list i) in
          let h = in_from_contains (in_units old) u (subst (λ us. Contains us u) units listed) in
          let at = get_in (in_units old) u h in
          let f = get_from_map (λ (g : Flight P). flight_at old.at g) old.list.items at.0 u at.1 in
          let none = subst (IsNextPlace (λ one. is_at_end cmp end p one.message.value) old.list.items has.from) is has.is_next in
          elim (cases_lt at.0 has.from) [
            | inl less ↦ subst (IsLoose (loose_in now) now.floor) f.2
                (has.so_far at.0 f.0 less f.1 (ap (λ (v : UnitFlight P). is_at_end cmp end p v.message) f.2 ∙ ends)
                (ap (λ (v : UnitFlight P). v.rated) f.2 ∙ rated))
            | inr past ↦ absurd (false≢true
                (sym (none at.0 past (slice_get_within old.list.items at.0 f.0 f.1) f.0)
                ∙ ap (λ (g : Flight P). is_at_end cmp end p g.message.value)
                (get_or_from_slice_get old.list.items at.0 f.0 f.0 f.1)
                ∙ ap (λ (v : UnitFlight P). is_at_end cmp end p v.message) f.2 ∙ ends))
          ]

  -- where there is no next one, all are loose
  pub loosened_all : (cmp : P → P → Ordering) (end : End) (p : P) (old now : Flights P a b c) (next : Option ℕ)
      → HasLoosened cmp end p old now next → next ≡ None → LoosensAt cmp end p old now
  loosened_all cmp Origin p old now next has is = record {
    loose = has.loose;
    all = λ u listed rated ends. all_so cmp Origin p old now next has is u listed rated ends;
  }
  loosened_all cmp Recipient p old now next has is = record {
    loose = has.loose;
    all = λ u listed rated ends. all_so cmp Recipient p old now next has is u listed rated ends;
  }
