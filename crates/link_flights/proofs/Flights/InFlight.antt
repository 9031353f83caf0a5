-- The messages in flight: what is read of them, and those that leave.
use Rattle.link_flights.proofs.Common.{◌≡◌, ℕ, zero, suc, ◌+◌, ◌-◌, ◌<◌, ◌≤◌, Bool, true, false, not, cond, ◌||◌, List}
use Rattle.link_flights.proofs.Common.{[], ◌∷◌, ◌++◌, length, map, get_or, refl, sym, ◌∙◌, ap, subst, arith, remove}
use Rattle.link_flights.proofs.Common.{filter, ◌==◌, Message, length-append, append-nil, PassesNowhere, append_assoc}
use Rattle.link_flights.proofs.Common.{get_or-seam}

-- ---- a list of what is read

pub read_at : {X Y : Type 0} (f : X → Y) (xs : List X) (at : ℕ) (x : X) (d : Y) → at < length xs → x ≡ get_or xs at x
    → get_or (map f xs) at d ≡ f x
read_at f [] at x d lt is = absurd (omega (arith, lt))
read_at f (y ∷ xs) zero x d lt is = ap f (sym is)
read_at f (y ∷ xs) (suc at) x d lt is = read_at f xs at x d (omega (arith, lt)) is

-- what is read of those that pass a test
pub read_filter : {X Y : Type 0} (f : X → Y) (test : Y → Bool) (xs : List X)
    → filter test (map f xs) ≡ map f (filter (λ x. test (f x)) xs)
read_filter f test [] = refl
read_filter {X} {Y} f test (x ∷ xs) = by_test (test (f x)) (read_filter f test xs)
  where
    by_test : (b : Bool) → filter test (map f xs) ≡ map f (filter (λ x. test (f x)) xs)
        → cond b (f x ∷ filter test (map f xs)) (filter test (map f xs))
        ≡ map f (cond b (x ∷ filter (λ x. test (f x)) xs) (filter (λ x. test (f x)) xs))
    by_test true ih = ap (λ l. f x ∷ l) ih
    by_test false ih = ih

remove-seam : {X : Type 0} (xs ys : List X) (y : X) → remove (xs ++ y ∷ ys) (length xs) ≡ xs ++ ys
remove-seam [] ys y = refl
remove-seam (x ∷ xs) ys y = ap (λ l. x ∷ l) (remove-seam xs ys y)

-- ---- those that are done leave

pub filter_yes : {X : Type 0} (t : X → Bool) (x : X) (xs : List X) → t x ≡ true → filter t (x ∷ xs) ≡ x ∷ filter t xs
filter_yes t x xs h = rw h refl

pub filter_no : {X : Type 0} (t : X → Bool) (x : X) (xs : List X) → t x ≡ false → filter t (x ∷ xs) ≡ filter t xs
filter_no t x xs h = rw h refl

-- what holds at a place holds so much later, if at each place before that it goes on to the next
pub goes_on : (Q : ℕ → Type 0) (from n : ℕ) → Q from → ((i : ℕ) → from ≤ i → i < from + n → Q i → Q (i + 1))
    → Q (from + n)
goes_on Q from zero here step =
    let same : from ≡ from + 0 = omega arith in
    subst Q same here
goes_on Q from (suc n) here step =
    let next : from + n + 1 ≡ from + suc n = omega arith in
    subst Q next
    (step (from + n) (omega arith) (omega arith)
    (goes_on Q from n here (λ i after before. step i after (omega (arith, before)))))

module _ {P X : Type 0} (message : X → Message P) (spent : X → Bool) where
  -- so far, up to a place: some have left, and the rest is to be looked at
  pub record HaveLeft (old now : List X) (left : List (Message P)) (at : ℕ) : Type 0 where
    pub before : List X
    pub rest : List X
    pub split : now ≡ before ++ rest
    pub is_at : at ≡ length before
    pub leavers : left ++ map message (filter spent rest) ≡ map message (filter spent old)
    pub stay : before ++ filter (λ f. not (spent f)) rest ≡ filter (λ f. not (spent f)) old

  pub none_left : (old : List X) → HaveLeft old old [] 0
  none_left old = record { before = []; rest = old; split = refl; is_at = refl; leavers = refl; stay = refl }

  module _ (old now : List X) (left : List (Message P)) (at : ℕ) (h : HaveLeft old now left at) where
    pub step_leaves : (m : Message P) (t : Bool) → at < length now → t ≡ true → ((d : X) → t ≡ spent (get_or now at d))
        → ((d : X) → m ≡ message (get_or now at d)) → HaveLeft old (remove now at) (left ++ m ∷ []) at
    step_leaves m t lt holds test is = by_rest h.rest h.split h.leavers h.stay
      where
        by_rest : (rest : List X) → now ≡ h.before ++ rest
            → left ++ map message (filter spent rest) ≡ map message (filter spent old)
            → h.before ++ filter (λ f. not (spent f)) rest ≡ filter (λ f. not (spent f)) old
            → HaveLeft old (remove now at) (left ++ m ∷ []) at
        by_rest [] split leavers stay = absurd (omega (arith, h.is_at, ap length split, length-append h.before []))
        by_rest (f ∷ tail) split leavers stay =
            let here : get_or now at f ≡ f =
            ap (λ l. get_or l at f) split ∙ ap (λ n. get_or (h.before ++ f ∷ tail) n f) h.is_at
            ∙ get_or-seam h.before tail f f in
            let passes : spent f ≡ true = ap spent (sym here) ∙ sym (test f) ∙ holds in
            record {
              before = h.before;
              rest = tail;
              is_at = h.is_at;
              split =
                  ap (λ l. remove l at) split ∙ ap (remove (h.before ++ f ∷ tail)) h.is_at
                  ∙ remove-seam h.before tail f;
              leavers =
                  append_assoc left (m ∷ []) (map message (filter spent tail))
                  ∙ ap (λ x. left ++ x ∷ map message (filter spent tail)) (is f ∙ ap message here)
                  ∙ ap (λ l. left ++ map message l) (sym (filter_yes spent f tail passes)) ∙ leavers;
              stay = ap (λ l. h.before ++ l) (sym (filter_no (λ g. not (spent g)) f tail (ap not passes))) ∙ stay;
            }

    step_stays : at < length now → ((d : X) → spent (get_or now at d) ≡ false) → HaveLeft old now left (at + 1)
    step_stays lt test = by_rest h.rest h.split h.leavers h.stay
      where
        by_rest : (rest : List X) → now ≡ h.before ++ rest
            → left ++ map message (filter spent rest) ≡ map message (filter spent old)
            → h.before ++ filter (λ f. not (spent f)) rest ≡ filter (λ f. not (spent f)) old
            → HaveLeft old now left (at + 1)
        by_rest [] split leavers stay = absurd (omega (arith, h.is_at, ap length split, length-append h.before []))
        by_rest (f ∷ tail) split leavers stay =
            let here : get_or now at f ≡ f =
            ap (λ l. get_or l at f) split ∙ ap (λ n. get_or (h.before ++ f ∷ tail) n f) h.is_at
            ∙ get_or-seam h.before tail f f in
            let fails : spent f ≡ false = ap spent (sym here) ∙ test f in
            record {
              before = h.before ++ f ∷ [];
              rest = tail;
              split = split ∙ sym (append_assoc h.before (f ∷ []) tail);
              is_at = ap (λ n. n + 1) h.is_at ∙ sym (length-append h.before (f ∷ []));
              leavers = ap (λ l. left ++ map message l) (sym (filter_no spent f tail fails)) ∙ leavers;
              stay =
                  append_assoc h.before (f ∷ []) (filter (λ g. not (spent g)) tail)
                  ∙ ap (λ l. h.before ++ l) (sym (filter_yes (λ g. not (spent g)) f tail (ap not fails))) ∙ stay;
            }

    -- it is no further than the end
    pub within : at ≤ length now
    within = omega (arith, h.is_at, ap length h.split, length-append h.before h.rest)

    pub all_looked_at : length now ≤ at
        → record { leavers : left ≡ map message (filter spent old); stay : now ≡ filter (λ f. not (spent f)) old }
    all_looked_at le = by_rest h.rest h.split h.leavers h.stay
      where
        by_rest : (rest : List X) → now ≡ h.before ++ rest
            → left ++ map message (filter spent rest) ≡ map message (filter spent old)
            → h.before ++ filter (λ f. not (spent f)) rest ≡ filter (λ f. not (spent f)) old
            → record { leavers : left ≡ map message (filter spent old); stay : now ≡ filter (λ f. not (spent f)) old }
        by_rest [] split leavers stay = record { leavers = sym (append-nil left) ∙ leavers; stay = split ∙ stay }
        by_rest (f ∷ tail) split leavers stay =
            absurd (omega (arith, h.is_at, ap length split, length-append h.before (f ∷ tail)))

  -- those from a place on stay, up to another
  pub steps_stay : (old now : List X) (left : List (Message P)) (at to : ℕ) → HaveLeft old now left at → at ≤ to
      → to ≤ length now → PassesNowhere spent now at to → HaveLeft old now left to
  steps_stay old now left at to h later inside stay =
      let there : at + (to - at) ≡ to = omega (arith, later) in
      subst (HaveLeft old now left) there
      (goes_on (HaveLeft old now left) at (to - at) h
      (λ i after before left_so. step_stays old now left i left_so (omega (arith, before, there, inside))
      (stay i after (omega (arith, before, there)))))

pub nothing_is_done : (n : ℕ) (b : Bool) → n ≡ 0 → ((n == 0) || b) ≡ true
nothing_is_done n b h = rw h refl
