-- The parts of the event rule's steps are the same on planned worlds that are the same up to equal peers.
use Rattle.link_simulation.proofs.Common.{arith, ◌≡◌, ℕ, zero, suc, length, ◌≤◌, List, [], ◌∷◌, Bool, true}
use Rattle.link_simulation.proofs.Common.{not, Option, Some, None, refl, sym, ap, ◌∙◌, subst, slice_get, filter, find}
use Rattle.link_simulation.proofs.Common.{AllZip, Ordering, IsTotalOrder, without_first, Error, same_peer, Message}
use Rattle.link_simulation.proofs.Common.{Caps, CapsAlike, PairsAlike, SameMessage, same_pair, Completed, Course, goes}
use Rattle.link_simulation.proofs.Common.{meets, raised, fronts, limited_by, linked_by, SameCompletion, Planned}
use Rattle.link_simulation.proofs.Common.{RatedFlight, IsLeastMoment, SomeSpentAt, SomeReadyAt, next_event}
use Rattle.link_simulation.proofs.Common.{rated_messages, left_at, drained_to, next_of, queued, may_launch, is_spent}
use Rattle.link_simulation.proofs.Common.{launched, landed, with_queued, completed_at_once, IsSameRatedFlight}
use Rattle.link_simulation.proofs.Common.{IsSamePlanned, Amount, whole, zip-filter, zip-append}
use Rattle.fairness.proofs.Lists.Zips.{zip-if}
use Rattle.link_simulation.proofs.Simulation.InOrder.{before_alike}
use Rattle.link_simulation.specs.Rule.SamePlanned.{IsSameCourse}
use Rattle.link_simulation.proofs.Simulation.AlikeMessages.{peers_alike, pairs_alike, message_itself, any_alike}
use Rattle.link_simulation.proofs.Simulation.AlikeMessages.{unlimited_alike}
use Rattle.link_simulation.proofs.Simulation.SettlingEnds.{find_like}
use Rattle.link_simulation.proofs.Rule.Launch.{OptionsAlike}
use Rattle.link_simulation.proofs.Simulation.Queue.{find_passes}
use Rattle.link_simulation.proofs.Rule.Settling.{arrival_alike}

-- ---- lists

pub find_same : {X Y : Type 0} (R : X → Y → Type 0) (f : X → Bool) (g : Y → Bool)
    → ((x : X) (y : Y) → R x y → f x ≡ g y) → (xs : List X) (ys : List Y)
    → AllZip R xs ys → OptionsAlike R (find f xs) (find g ys)
find_same R f g alike [] [] all = tt
find_same R f g alike [] (y ∷ ys) all = absurd all
find_same R f g alike (x ∷ xs) [] all = absurd all
find_same R f g alike (x ∷ xs) (y ∷ ys) all = grind (arith, (find_same R f g alike xs ys))

pub without_same : {X Y : Type 0} (R : X → Y → Type 0) (f : X → Bool) (g : Y → Bool)
    → ((x : X) (y : Y) → R x y → f x ≡ g y) → (xs : List X) (ys : List Y)
    → AllZip R xs ys → AllZip R (without_first f xs) (without_first g ys)
without_same R f g alike [] [] all = tt
without_same R f g alike [] (y ∷ ys) all = absurd all
without_same R f g alike (x ∷ xs) [] all = absurd all
without_same R f g alike (x ∷ xs) (y ∷ ys) all = grind (arith, (without_same R f g alike xs ys))

-- the item at a place has one that is the same
pub at_same : {X Y : Type 0} (R : X → Y → Type 0) (xs : List X) (ys : List Y) (i : ℕ) (x : X) → AllZip R xs ys
    → slice_get xs i ≡ Some x → (y : Y) × (slice_get ys i ≡ Some y) × R x y
at_same R [] ys i x all at = cc
at_same R (z ∷ zs) [] i x all at = absurd all
at_same {X = X} R (z ∷ zs) (y ∷ ys) zero x all at = grind arith
at_same R (z ∷ zs) (y ∷ ys) (suc i) x all at = at_same R zs ys i x all.1 at

pub none_same : {X Y : Type 0} (R : X → Y → Type 0) (xs : List X) (ys : List Y) → AllZip R xs ys → xs ≡ [] → ys ≡ []
none_same R [] [] all e = refl
none_same R [] (y ∷ ys) all e = absurd all
none_same R (x ∷ xs) ys all e = cc

pub some_same : {X Y : Type 0} (R : X → Y → Type 0) (xs : List X) (ys : List Y) → AllZip R xs ys → ¬ (xs ≡ [])
    → ¬ (ys ≡ [])
some_same R [] [] all some e = some refl
some_same R [] (y ∷ ys) all some e = absurd all
some_same R (x ∷ xs) [] all some e = absurd all
some_same R (x ∷ xs) (y ∷ ys) all some e = cc

-- ---- moments

-- the least moment of one predicate is that of another that holds at the same moments
pub least_same : (Q R : ℕ → Type 0) (o : Option ℕ) → ((t : ℕ) → Q t → R t) → ((t : ℕ) → R t → Q t) → IsLeastMoment Q o
    → IsLeastMoment R o
least_same Q R None there back least = λ t within r. least t within (back t r)
least_same Q R (Some t) there back least = (least.0, there t least.1, λ s r. least.2 s (back s r))

module _ {P : Type 0} (cmp : P → P → Ordering) (order : IsTotalOrder cmp) where
  -- ---- courses

  -- the same leavers, and the same planned world after them; or the same fault
  abbrev pub IsSameLaunch : Course (Message P) (Planned P) → Course (Message P) (Planned P) → Type 0
  IsSameLaunch (goes ms p) (goes ns q) = AllZip (SameMessage cmp) ms ns × IsSamePlanned cmp p q
  IsSameLaunch (goes ms p) (meets fault) = ⊥
  IsSameLaunch (meets fault) (goes ns q) = ⊥
  IsSameLaunch (meets fault) (meets other) = fault ≡ other

  pub course_went : (Q : Course (Completed P) (Planned P) → Type 0) (cs : List (Completed P)) (p : Planned P)
      → (c : Course (Completed P) (Planned P)) × Q c × IsSameCourse cmp (goes cs p) c
      → (ds : List (Completed P)) × (q : Planned P) × Q (goes ds q) × AllZip (SameCompletion cmp) cs ds
      × IsSamePlanned cmp p q
  course_went Q cs p (goes ds q, holds, same) = (ds, q, holds, same.0, same.1)
  course_went Q cs p (meets fault, holds, same) = absurd same

  pub course_met : (Q : Course (Completed P) (Planned P) → Type 0) (fault : Error)
      → (c : Course (Completed P) (Planned P)) × Q c × IsSameCourse cmp (meets fault) c → Q (meets fault)
  course_met Q fault (goes ds q, holds, same) = absurd same
  course_met Q fault (meets other, holds, same) = subst (λ (e : Error). Q (meets e)) (sym same) holds

  pub launch_went : (Q : Course (Message P) (Planned P) → Type 0) (ms : List (Message P)) (p : Planned P)
      → (c : Course (Message P) (Planned P)) × Q c × IsSameLaunch (goes ms p) c
      → (ns : List (Message P)) × (q : Planned P) × Q (goes ns q) × AllZip (SameMessage cmp) ms ns
      × IsSamePlanned cmp p q
  launch_went Q ms p (goes ns q, holds, same) = (ns, q, holds, same.0, same.1)
  launch_went Q ms p (meets fault, holds, same) = absurd same

  pub launch_met : (Q : Course (Message P) (Planned P) → Type 0) (fault : Error)
      → (c : Course (Message P) (Planned P)) × Q c × IsSameLaunch (meets fault) c → Q (meets fault)
  launch_met Q fault (goes ns q, holds, same) = absurd same
  launch_met Q fault (meets other, holds, same) = subst (λ (e : Error). Q (meets e)) (sym same) holds

  -- ---- caps and last arrivals

  pub limited_by_same : (caps others : Caps P) (peer other : P) (egress ingress : Option ℕ) → CapsAlike cmp caps others
      → same_peer cmp peer other ≡ true
      → CapsAlike cmp (limited_by cmp caps peer egress ingress) (limited_by cmp others other egress ingress)
  limited_by_same caps others peer other egress ingress same peers = grind (arith, peers_alike)

  pub linked_by_same : (caps others : Caps P) (origin recipient o r : P) (cap : Option ℕ) → CapsAlike cmp caps others
      → same_peer cmp origin o ≡ true → same_peer cmp recipient r ≡ true
      → CapsAlike cmp (linked_by cmp caps origin recipient cap) (linked_by cmp others o r cap)
  linked_by_same caps others origin recipient o r cap same origins recipients = record {
    egress = same.egress;
    ingress = same.ingress;
    link = λ p q s t e f.
        rw (peers_alike cmp order origin o p q origins e, peers_alike cmp order recipient r s t recipients f, same.link p q s t e f)
        refl;
  }

  pub raised_same : (last others : P → P → Option ℕ) (m n : Message P) (at : ℕ) → PairsAlike cmp last others
      → SameMessage cmp m n → PairsAlike cmp (raised cmp last m at) (raised cmp others n at)
  raised_same last others m n at same messages p q r s e f =
      rw (
        peers_alike cmp order m.origin n.origin p q messages.origin e,
        peers_alike cmp order m.recipient n.recipient r s messages.recipient f,
        same p q r s e f,
      )
      refl

  -- ---- messages

  pub queued_same : (m n : Message P) (ms ns : List (Message P)) → SameMessage cmp m n → AllZip (SameMessage cmp) ms ns
      → AllZip (SameMessage cmp) (queued cmp m ms) (queued cmp n ns)
  queued_same m n [] [] e all = (e, tt)
  queued_same m n [] (l ∷ ls) e all = absurd all
  queued_same m n (k ∷ ks) [] e all = absurd all
  queued_same m n (k ∷ ks) (l ∷ ls) e all =
      zip-if _ _ _ _ _ _ _ (before_alike cmp order m n k l e all.0) (e, all) (all.0, queued_same m n ks ls e all.1)

  pub fronts_same : (ms ns : List (Message P)) → AllZip (SameMessage cmp) ms ns
      → AllZip (SameMessage cmp) (fronts cmp ms) (fronts cmp ns)
  fronts_same [] [] all = tt
  fronts_same [] (n ∷ ns) all = absurd all
  fronts_same (m ∷ ms) [] all = absurd all
  fronts_same (m ∷ ms) (n ∷ ns) all = (
    all.0,
    zip-filter (SameMessage cmp) (λ k. not (same_pair cmp m k)) (λ k. not (same_pair cmp n k))
        (λ k l e. ap not (pairs_alike cmp order m n k l all.0 e)) (fronts cmp ms) (fronts cmp ns)
        (fronts_same ms ns all.1),
  )

  -- ---- what is in flight

  pub flows_same : (fs gs : List (RatedFlight P)) → AllZip (IsSameRatedFlight cmp) fs gs
      → AllZip (SameMessage cmp) (rated_messages fs) (rated_messages gs)
  flows_same [] [] all = tt
  flows_same [] (g ∷ gs) all = absurd all
  flows_same (f ∷ fs) [] all = absurd all
  flows_same (f ∷ fs) (g ∷ gs) all = (all.0.message, flows_same fs gs all.1)

  pub left_same : (t : ℕ) (f g : RatedFlight P) → IsSameRatedFlight cmp f g → left_at t f ≡ left_at t g
  left_same t f g e = rw (e.rate, e.updated, e.left) refl

  pub drained_same : (t : ℕ) (fs gs : List (RatedFlight P)) → AllZip (IsSameRatedFlight cmp) fs gs
      → AllZip (IsSameRatedFlight cmp) (drained_to t fs) (drained_to t gs)
  drained_same t [] [] all = tt
  drained_same t [] (g ∷ gs) all = absurd all
  drained_same t (f ∷ fs) [] all = absurd all
  drained_same t (f ∷ fs) (g ∷ gs) all = grind (arith, (drained_same t fs gs))

  pub some_spent_same : (fs gs : List (RatedFlight P)) (t : ℕ) → AllZip (IsSameRatedFlight cmp) fs gs → SomeSpentAt fs t
      → SomeSpentAt gs t
  some_spent_same fs gs t all (i, f, at, before, spent) =
      let found = at_same (IsSameRatedFlight cmp) fs gs i f all at in (
        i,
        found.0,
        found.1,
        subst (λ (n : ℕ). n ≤ t) found.2.updated before,
        ap (λ (a : Amount). a.num) (sym (left_same t f found.0 found.2)) ∙ spent,
      )

  abbrev launching : ℕ → ℕ → Message P → RatedFlight P
  launching id t m = record { id = id; message = m; left = whole (length m.bytes); rate = Some (whole 0); updated = t }

  launching_same : (i j t : ℕ) (m n : Message P) → i ≡ j → SameMessage cmp m n
      → IsSameRatedFlight cmp (launching i t m) (launching j t n)
  launching_same i j t m n same e = grind arith

  module _ (p q : Planned P) (same : IsSamePlanned cmp p q) where
    pub spent_same : (f g : RatedFlight P) → IsSameRatedFlight cmp f g → is_spent cmp p.caps f ≡ is_spent cmp q.caps g
    spent_same f g e = rw (e.left, unlimited_alike cmp order p.caps q.caps same.caps f.message g.message e.message) refl

    -- those that an account finds done, and the others
    pub leaving_same : (t : ℕ) → AllZip (IsSameRatedFlight cmp) (filter (is_spent cmp p.caps) (drained_to t p.sending))
        (filter (is_spent cmp q.caps) (drained_to t q.sending))
    leaving_same t = grind (arith, zip-filter, spent_same, drained_same)

    pub staying_same : (t : ℕ) → AllZip (IsSameRatedFlight cmp)
        (filter (λ f. not (is_spent cmp p.caps f)) (drained_to t p.sending))
        (filter (λ f. not (is_spent cmp q.caps f)) (drained_to t q.sending))
    staying_same t = grind (arith, zip-filter, spent_same, drained_same)

    -- ---- what waits

    pub may_same : (t : ℕ) (m n : Message P) → SameMessage cmp m n → may_launch cmp t p m ≡ may_launch cmp t q n
    may_same t m n e = grind (arith, any_alike, same_pair, pairs_alike, flows_same)

    pub next_same : (m n : Message P) → SameMessage cmp m n
        → OptionsAlike (SameMessage cmp) (next_of cmp p m) (next_of cmp q n)
    next_same m n e = grind (arith, find_same, pairs_alike)

    -- the pairs that a wake at t finds ready
    pub ready_same : (t : ℕ) → AllZip (SameMessage cmp) (filter (may_launch cmp t p) (fronts cmp p.waiting))
        (filter (may_launch cmp t q) (fronts cmp q.waiting))
    ready_same t = grind (arith, zip-filter, may_same, fronts_same)

    pub some_ready_same : (t : ℕ) → SomeReadyAt cmp p t → SomeReadyAt cmp q t
    some_ready_same t (m, own, may) =
        by_next _ refl (subst (λ (o : Option (Message P)). OptionsAlike (SameMessage cmp) o (next_of cmp q m)) own
        (next_same m m (message_itself cmp order m)))
      where
        by_next : (o : Option (Message P)) → next_of cmp q m ≡ o → OptionsAlike (SameMessage cmp) (Some m) o
            → SomeReadyAt cmp q t
        by_next None found e = absurd e
        by_next (Some n) found e = (
          n,
          find_like cmp order m n q.waiting (find_passes (same_pair cmp m) n q.waiting found) ∙ found,
          sym (may_same t m n e) ∙ may,
        )

    -- ---- planned worlds

    pub next_event_same : next_event p ≡ next_event q
    next_event_same = rw (same.finish, same.start) refl

    pub recapped_same : (caps others : Caps P) → CapsAlike cmp caps others
        → IsSamePlanned cmp (record p { caps = caps; limited = true }) (record q { caps = others; limited = true })
    recapped_same caps others alike = grind arith

    -- with other flows, accounted for at a moment, and another moment when the first of them is done
    pub accounted_same : (t : ℕ) (fs gs : List (RatedFlight P)) (finish : Option ℕ)
        → AllZip (IsSameRatedFlight cmp) fs gs
        → IsSamePlanned cmp (record p { sending = fs; accounted = t; finish = finish })
        (record q { sending = gs; accounted = t; finish = finish })
    accounted_same t fs gs finish sending = grind arith

    -- with another moment when the first may start
    pub planned_same : (start : Option ℕ) → IsSamePlanned cmp (record p { start = start }) (record q { start = start })
    planned_same start = grind arith

    pub no_finish_same : IsSamePlanned cmp (record p { finish = None }) (record q { finish = None })
    no_finish_same = grind arith

    pub no_start_same : IsSamePlanned cmp (record p { start = None }) (record q { start = None })
    no_start_same = planned_same None

    pub launched_same : (t : ℕ) (m n : Message P) → SameMessage cmp m n
        → IsSamePlanned cmp (launched cmp t p m) (launched cmp t q n)
    launched_same t m n e = grind (arith, zip-append, launching_same, without_same, pairs_alike)

    arrived_same : (last others : P → P → Option ℕ) → PairsAlike cmp last others
        → IsSamePlanned cmp (record p { last_arrival = last }) (record q { last_arrival = others })
    arrived_same last others alike = grind arith

    pub landed_same : (t : ℕ) (m n : Message P) → SameMessage cmp m n
        → IsSamePlanned cmp (landed cmp t p m) (landed cmp t q n)
    landed_same t m n e = grind (arith, arrived_same, arrival_alike, raised_same)

    pub with_queued_same : (m n : Message P) → SameMessage cmp m n
        → IsSamePlanned cmp (with_queued cmp p m) (with_queued cmp q n)
    with_queued_same m n e = grind (arith, queued_same)

    pub at_once_same : (now : ℕ) (m n : Message P) → SameMessage cmp m n
        → IsSameCourse cmp (completed_at_once cmp now p m) (completed_at_once cmp now q n)
    at_once_same now m n e = grind arith
