-- The events of an advance, one after another.
use Rattle.link_events.proofs.Common.{◌≡◌, ℕ, ◌+◌, ◌<◌, Bool, true, false, cond, List, [], ◌∷◌, ◌++◌, Some, refl, sym}
use Rattle.link_events.proofs.Common.{ap, ◌∙◌, subst, arith, filter, find, Each, IsTotalOrder, Ordering, Error, Event}
use Rattle.link_events.proofs.Common.{Finish, Start, Completed, Course, fronts, goes, meets, preceded, Message}
use Rattle.link_events.proofs.Common.{same_pair, Planned, SomeReadyAt, may_launch, PlansStart, Wakes, WakesEach}
use Rattle.link_events.proofs.Common.{all_started, IsDue, Happens, IsRefusedFor, refused_more, fronts_are_first}
use Rattle.std.proofs.Common.{IfSome}
use Rattle.link_simulation.specs.Rule.Planned.{next_event}
use Rattle.link_simulation.specs.Rule.Events.{Advances, no_more, at_finish}
use Rattle.link_simulation.specs.Rule.Events.{at_start, finish_stops, start_stops}
use Rattle.link_events.specs.Steps.AsPlanned.{HasNothingDue}
use Rattle.link_events.proofs.Steps.SoFar.{preceded_both}

module _ {P : Type 0} (cmp : P → P → Ordering) where
  -- so far so many events happened, and this came out
  pub record AdvancesSo (now : ℕ) (p : Planned P) (here : Planned P) (out : List (Completed P)) (events : ℕ) : Type 0
    where
      pub advances : (n : ℕ) (course : Course (Completed P) (Planned P)) → Advances cmp now here n course
          → Advances cmp now p (n + events) (preceded out course)

  one_event : (now n : ℕ) (event : Event) (p q : Planned P) (cs : List (Completed P))
      (rest : Course (Completed P) (Planned P))
      → IsDue now p (Some event) → Happens cmp event p (goes cs q) → Advances cmp now q n rest
      → Advances cmp now p (n + 1) (preceded cs rest)
  one_event now n (Finish t) p q cs rest due h more = at_finish due.0 due.1 due.2 h more
  one_event now n (Start t) p q cs rest due h more = at_start due.0 due.1 due.2 h more

  pub advances_step : (now : ℕ) (p here next : Planned P) (out after cs : List (Completed P)) (events : ℕ)
      (event : Event)
      → AdvancesSo now p here out events → IsDue now here (Some event) → Happens cmp event here (goes cs next)
      → after ≡ out ++ cs
      → AdvancesSo now p next after (events + 1)
  advances_step now p here next out after cs events event so due h is = record {
    advances = λ n course more.
        let count : (n + 1) + events ≡ n + (events + 1) = omega arith in
        subst (λ (k : ℕ). Advances cmp now p k (preceded after course)) count
        (subst (Advances cmp now p ((n + 1) + events))
        (preceded_both out cs course ∙ ap (λ (l : List (Completed P)). preceded l course) (sym is))
        (so.advances (n + 1) (preceded cs course) (one_event now n event here next cs course due h more)));
  }

  pub advances_end : (now : ℕ) (p here new : Planned P) (out after cs : List (Completed P)) (events : ℕ)
      → AdvancesSo now p here out events → IfSome (next_event here) (λ t. now < t) → Wakes cmp now here (goes cs new)
      → after ≡ out ++ cs → Advances cmp now p events (goes after new)
  advances_end now p here new out after cs events so none w is =
      let count : 0 + events ≡ events = omega arith in
      subst (λ (k : ℕ). Advances cmp now p k (goes after new)) count
      (subst (λ (l : List (Completed P)). Advances cmp now p (0 + events) (goes l new)) (sym is)
      (so.advances 0 (goes cs new) (no_more none w)))

  event_stops : (now : ℕ) (event : Event) (p : Planned P) (fault : Error) → IsDue now p (Some event)
      → Happens cmp event p (meets fault) → Advances cmp now p 1 (meets fault)
  event_stops now (Finish t) p fault due h = finish_stops due.0 due.1 due.2 h
  event_stops now (Start t) p fault due h = start_stops due.0 due.1 due.2 h

  pub event_refused : (now : ℕ) (p here : Planned P) (out : List (Completed P)) (events : ℕ) (event : Event)
      → AdvancesSo now p here out events → IsDue now here (Some event) → (e : Error)
      → IsRefusedFor (λ fault. Happens cmp event here (meets fault)) e
      → IsRefusedFor (λ fault. (n : ℕ) × Advances cmp now p n (meets fault)) e
  event_refused now p here out events event so due =
      refused_more (λ fault. Happens cmp event here (meets fault))
      (λ fault. (n : ℕ) × Advances cmp now p n (meets fault))
      (λ fault h. (1 + events, so.advances 1 (meets fault) (event_stops now event here fault due h)))

  pub wake_refused : (now : ℕ) (p here : Planned P) (out : List (Completed P)) (events : ℕ)
      → AdvancesSo now p here out events → IfSome (next_event here) (λ t. now < t) → (e : Error)
      → IsRefusedFor (λ fault. Wakes cmp now here (meets fault)) e
      → IsRefusedFor (λ fault. (n : ℕ) × Advances cmp now p n (meets fault)) e
  wake_refused now p here out events so none =
      refused_more (λ fault. Wakes cmp now here (meets fault)) (λ fault. (n : ℕ) × Advances cmp now p n (meets fault))
      (λ fault h. (0 + events, so.advances 0 (meets fault) (no_more none h)))

  -- where no message may start, none starts
  module _ (order : IsTotalOrder cmp) where
    none_pass : (t : ℕ) (p : Planned P) (ms : List (Message P))
        → Each (λ (m : Message P). find (same_pair cmp m) p.waiting ≡ Some m) ms → ¬ SomeReadyAt cmp p t
        → filter (may_launch cmp t p) ms ≡ []
    none_pass t p [] firsts none = refl
    none_pass t p (m ∷ ms) firsts none = by_test (may_launch cmp t p m) refl (none_pass t p ms firsts.1 none)
      where
        by_test : (may : Bool) → may_launch cmp t p m ≡ may → filter (may_launch cmp t p) ms ≡ []
            → cond may (m ∷ filter (may_launch cmp t p) ms) (filter (may_launch cmp t p) ms) ≡ []
        by_test true is rest = absurd (none (m, firsts.0, is))
        by_test false is rest = rest

    pub none_wake : (now : ℕ) (p q : Planned P) → ¬ SomeReadyAt cmp p now → PlansStart cmp now p q
        → Wakes cmp now p (goes [] q)
    none_wake now p q none looks =
        subst (λ (ms : List (Message P)). WakesEach cmp now ms p (goes [] q))
        (sym (none_pass now p (fronts cmp p.waiting) (fronts_are_first cmp order p.waiting) none)) (all_started looks)

    pub rests : (now : ℕ) (p q : Planned P) → HasNothingDue cmp p now → PlansStart cmp now p q
        → Advances cmp now p 0 (goes [] q)
    rests now p q quiet looks = no_more quiet.none_due (none_wake now p q quiet.none_ready looks)
