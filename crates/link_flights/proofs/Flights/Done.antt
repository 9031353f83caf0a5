-- Which messages in flight are done.
use Rattle.link_flights.proofs.Common.{◌≡◌, ℕ, zero, suc, ◌-◌, ◌*◌, ◌<◌, ◌≤◌, nat_le, Bool, true, false, not, ◌||◌}
use Rattle.link_flights.proofs.Common.{if◌then◌else◌, List, [], ◌∷◌, length, get_or, refl, sym, ap, ap₂, ◌∙◌, arith}
use Rattle.link_flights.proofs.Common.{inl, inr, ◌==◌, Ordering, eqb-true, false≢true, le-leb, leb-true, billion, Caps}
use Rattle.link_flights.proofs.Common.{by_bool, In, in_map, in_filter, all_pass, is_unlimited, last_moment, Flight}
use Rattle.link_flights.proofs.Common.{UnitFlight, left_by, flight_at, flights_at, has_come, IsTimed, is_out}
use Rattle.link_flights.proofs.Common.{are_limited, rated_ones, message_of, eq-eqb}
use Rattle.link_flights.proofs.Flights.Units.{units_positive, no_units_left, nothing_left}

-- two tests that pass in the same cases
same_tests : (a b : Bool) → (a ≡ true → b ≡ true) → (b ≡ true → a ≡ true) → a ≡ b
same_tests true b there back = sym (there refl)
same_tests false true there back = back refl
same_tests false false there back = refl

-- what tells that a number is zero
pub as_test : (t : Bool) (n : ℕ) → (t ≡ true → n ≡ 0) → (n ≡ 0 → t ≡ true) → t ≡ (n == 0)
as_test t n there back = same_tests t (n == 0) (λ e. eq-eqb n 0 (there e)) (λ e. back (eqb-true n 0 e))

module _ {P : Type 0} (cmp : P → P → Ordering) (caps : Caps P) (scale : ℕ) (some : 0 < scale) where
  pub out_is : (u : UnitFlight P)
      → is_out cmp caps scale u ≡ ((u.left == 0) || is_unlimited cmp caps (message_of u.message))
  out_is u = ap (λ b. b || is_unlimited cmp caps (message_of u.message)) (same_tests _ (u.left == 0)
      (λ none. eq-eqb u.left 0 (no_units_left u.left (scale * billion) (units_positive scale some) (eqb-true _ 0 none)))
      (λ none. eq-eqb _ 0 (nothing_left u.left (scale * billion) (units_positive scale some) (eqb-true u.left 0 none))))

  -- nothing is left of what drains where as much drains
  nothing_of : (left drained : ℕ) → (left - drained == 0) ≡ nat_le left drained
  nothing_of left drained = same_tests (left - drained == 0) (nat_le left drained)
      (λ none. let z : left - drained ≡ 0 = eqb-true _ 0 none in le-leb left drained (omega arith))
      (λ all. let le : left ≤ drained = leb-true left drained all in eq-eqb _ 0 (omega arith))

  -- the limited one is done just where its finish has come
  pub out_by_finish : (at : ℕ) (f : Flight P) → f.rated ≡ true → f.since ≤ at → at ≤ last_moment → IsTimed f
      → is_unlimited cmp caps (message_of f.message.value) ≡ false
      → has_come at f.finish ≡ is_out cmp caps scale (flight_at at f)
  out_by_finish at f rated since fits timed limited =
      sym (timed at since fits) ∙ sym (nothing_of f.left (f.rate * (at - f.since)))
      ∙ sym
      (out_is (flight_at at f)
      ∙ ap₂ (λ n b. (n == 0) || b) (ap (λ b. if b then left_by at f else f.left) rated) limited
      ∙ or_false _)
    where
      or_false : (b : Bool) → (b || false) ≡ b
      or_false true = refl
      or_false false = refl

  pub out_by_left : (at : ℕ) (f : Flight P) (t : Bool) → f.rated ≡ true → t ≡ (left_by at f == 0)
      → (t || is_unlimited cmp caps (message_of f.message.value)) ≡ is_out cmp caps scale (flight_at at f)
  out_by_left at f t rated is = sym (out_is (flight_at at f)
      ∙ ap (λ n. (n == 0) || is_unlimited cmp caps (message_of f.message.value))
      (ap (λ b. if b then left_by at f else f.left) rated)
      ∙ ap (λ b. b || is_unlimited cmp caps (message_of f.message.value)) (sym is))

  pub out_unrated : (at : ℕ) (f : Flight P) (t : Bool) → f.rated ≡ false → t ≡ (f.left == 0)
      → (t || is_unlimited cmp caps (message_of f.message.value)) ≡ is_out cmp caps scale (flight_at at f)
  out_unrated at f t rated is = sym (out_is (flight_at at f)
      ∙ ap (λ n. (n == 0) || is_unlimited cmp caps (message_of f.message.value))
      (ap (λ b. if b then left_by at f else f.left) rated)
      ∙ ap (λ b. b || is_unlimited cmp caps (message_of f.message.value)) (sym is))

  -- one that has a rate is limited, where all such are
  pub limited_there : (at : ℕ) (fs : List (Flight P)) (i : ℕ) (x : Flight P)
      → are_limited cmp caps (rated_ones (flights_at at fs)) ≡ true → i < length fs → x ≡ get_or fs i x
      → x.rated ≡ true
      → is_unlimited cmp caps (message_of x.message.value) ≡ false
  limited_there at fs i x all lt is rated =
      by_bool (is_unlimited cmp caps (message_of x.message.value))
      (λ free. absurd
      (false≢true
      (sym (ap not free) ∙ all_pass (λ (u : UnitFlight P). not (is_unlimited cmp caps (message_of u.message)))
      (rated_ones (flights_at at fs)) all (flight_at at x) among))) (λ e. e)
    where
      there : (fs : List (Flight P)) (i : ℕ) → i < length fs → x ≡ get_or fs i x → In fs x
      there [] i lt is = absurd (omega arith)
      there (f ∷ fs) zero lt is = inl (sym is)
      there (f ∷ fs) (suc i) lt is = inr (there fs i (omega arith) is)

      among : In (rated_ones (flights_at at fs)) (flight_at at x)
      among = in_filter (λ (u : UnitFlight P). u.rated) (flights_at at fs) (flight_at at x)
          (in_map (λ (f : Flight P). flight_at at f) fs x (there fs i lt is)) rated
