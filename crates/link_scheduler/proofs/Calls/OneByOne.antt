-- Messages that are sent one after another at one moment.
use Rattle.link_scheduler.proofs.Common.{◌≡◌, ◌≢◌, ℕ, ◌<◌, ◌^◌, List, [], ◌∷◌, ◌++◌, map, length, refl, sym, ap, subst}
use Rattle.link_scheduler.proofs.Common.{AllZip, Ordering, IsTotalOrder, ∥∥₁_map, Error, Message, Completed, goes, Call}
use Rattle.link_scheduler.proofs.Common.{call_enqueue_all, Planned, Obeys, IsSamePlanned, GoesByRule, IsOrderly}
use Rattle.link_scheduler.proofs.Common.{obeys_orderly, obeys_same, same_turned, same_chain, course_went, IsAnswered}
use Rattle.std.proofs.Common.{inl, inr}
use Rattle.std.specs.Bool.{⊤}
use Rattle.fairness.specs.declared.error.Error.TheVariants.{OutOfMemory, NumberTooLarge, MomentTooLate, FlowIdsUsedUp}
use Rattle.link_simulation.specs.Simulation.Replies.{SameCompletion}
use Rattle.link_simulation.specs.Simulation.RefusalCauses.{IsRefusedFor}
use Rattle.link_simulation.specs.Simulation.World.{Course, meets, preceded}
use Rattle.link_simulation.specs.Simulation.Calls.{call_enqueue}
use Rattle.link_simulation.specs.Rule.Events.{Enqueues}
use Rattle.link_simulation.specs.Rule.Events.{EnqueuesEach, all_enqueued, one_stops, enqueues_one}
use Rattle.link_simulation.proofs.Rule.SameRefusals.{call_itself}
use Rattle.link_scheduler.specs.Calls.State.{MakesEach, RefusesOne}
use Rattle.link_scheduler.proofs.Calls.Answered.{made_after}
use Rattle.link_scheduler.proofs.Calls.Promises.{promised_if, cause_of}

-- what goes beside two lists, one behind the other, is two lists too
zip_parts : {X Y : Type 0} (R : X → Y → Type 0) (xs : List X) (ys zs : List Y) → AllZip R xs (ys ++ zs)
    → (us vs : List X) × (xs ≡ us ++ vs) × AllZip R us ys × AllZip R vs zs
zip_parts R xs [] zs all = ([], xs, refl, tt, all)
zip_parts R [] (y ∷ ys) zs all = absurd all
zip_parts R (x ∷ xs) (y ∷ ys) zs all =
    let rest = zip_parts R xs ys zs all.1 in (x ∷ rest.0, rest.1, ap (λ l. x ∷ l) rest.2, (all.0, rest.3), rest.4)

-- nothing goes beside nothing
zip_none : {X Y : Type 0} (R : X → Y → Type 0) (xs : List X) → AllZip R xs [] → xs ≡ []
zip_none R [] all = refl
zip_none R (x ∷ xs) all = absurd all

module _ {P : Type 0} (cmp : P → P → Ordering) where
  -- no messages are sent
  pub none_answered : (now : ℕ) (p : Planned P) (ms : List (Message P)) → ms ≡ []
      → IsAnswered cmp p (call_enqueue_all now ms) 0 [] p
  none_answered now p ms none =
      subst (λ (l : List (Message P)). IsAnswered cmp p (call_enqueue_all now l) 0 [] p) (sym none)
      (record { completed = []; obeys = all_enqueued; same = tt })

  module _ (order : IsTotalOrder cmp) (now : ℕ) (fits : now < 2 ^ 64) where
    -- a message goes, up to equal peers
    goes_on : (m : Message P) (p mid : Planned P) (first : List (Completed P))
        → Enqueues cmp now m p (goes first mid) → IsSamePlanned cmp p p
        → GoesByRule cmp p (call_enqueue now m) first mid
    goes_on m p mid first h itself =
        let call = call_enqueue now m in
        let went =
        course_went cmp order (Obeys cmp p call) first mid
        (obeys_same cmp order p p call call (goes first mid) itself (call_itself cmp order call) h) in
        record {
          answers = went.0;
          after = went.1;
          obeys = went.2;
          same_answers = went.3;
          same_after = same_turned cmp order mid went.1 went.4;
        }

    -- where it led is the same as itself
    itself_after : (m : Message P) (p mid : Planned P) (first : List (Completed P))
        → Enqueues cmp now m p (goes first mid) → IsSamePlanned cmp p p → IsSamePlanned cmp mid mid
    itself_after m p mid first h itself =
        let went = goes_on m p mid first h itself in
        same_chain cmp order mid went.after mid (same_turned cmp order went.after mid went.same_after) went.same_after

    orderly_on : (m : Message P) (p mid : Planned P) (first : List (Completed P))
        → Enqueues cmp now m p (goes first mid) → ∥ IsOrderly cmp p ∥₁ → ∥ IsOrderly cmp mid ∥₁
    orderly_on m p mid first h orderly =
        ∥∥₁_map orderly (obeys_orderly cmp order p mid (call_enqueue now m) first h)

    -- what is promised where a course of them goes
    abbrev pub IsPromised : Planned P → List (Call P) → Course (Completed P) (Planned P) → Type 0
    IsPromised p calls (goes cs q) =
        (ds : List (Completed P)) → AllZip (SameCompletion cmp) ds cs → MakesEach cmp p calls ds q
    IsPromised p calls (meets fault) = ⊤

    one_promised : (m : Message P) (calls : List (Call P)) (p mid : Planned P) (first : List (Completed P))
        (rest : Course (Completed P) (Planned P)) → Enqueues cmp now m p (goes first mid) → IsSamePlanned cmp p p
        → ∥ IsOrderly cmp p ∥₁ → IsPromised mid calls rest
        → IsPromised p (call_enqueue now m ∷ calls) (preceded first rest)
    one_promised m calls p mid first (goes es q) h itself orderly ih =
        λ ds answers.
        let parts = zip_parts (SameCompletion cmp) ds first es answers in (
          parts.0,
          parts.1,
          mid,
          parts.2,
          made_after cmp order p (call_enqueue now m) 0 parts.0 mid
              (record { completed = first; obeys = h; same = parts.3 }) now refl fits orderly
              (itself_after m p mid first h itself).caps (itself_after m p mid first h itself).last_arrival,
          ih parts.1 parts.4,
        )
    one_promised m calls p mid first (meets fault) h itself orderly ih = tt

    pub each_promised : {ms : List (Message P)} {p : Planned P} {course : Course (Completed P) (Planned P)}
        → EnqueuesEach cmp now ms p course → IsSamePlanned cmp p p → ∥ IsOrderly cmp p ∥₁
        → IsPromised p (map (λ m. call_enqueue now m) ms) course
    each_promised all_enqueued itself orderly = λ ds answers. (zip_none (SameCompletion cmp) ds answers, refl)
    each_promised (one_stops h) itself orderly = tt
    each_promised (enqueues_one {m = m} {ms = ms} {p = p} {q = mid} {cs = first} {rest = rest} h more) itself orderly =
        one_promised m (map (λ m. call_enqueue now m) ms) p mid first rest h itself orderly
        (each_promised more (itself_after m p mid first h itself) (orderly_on m p mid first h orderly))

    each_refused : {ms : List (Message P)} {p : Planned P} {course : Course (Completed P) (Planned P)}
        → EnqueuesEach cmp now ms p course → (fault : Error)
        → ((Q : Error → Type 0) → Q fault → IsRefusedFor Q fault) → course ≡ meets fault
        → IsSamePlanned cmp p p → ∥ IsOrderly cmp p ∥₁
        → RefusesOne cmp p (map (λ m. call_enqueue now m) ms) fault
    each_refused all_enqueued fault to is itself orderly = cc
    each_refused (one_stops {m = m} {p = p} {fault = met} h) fault to is itself orderly =
        let there : met ≡ fault = cc in
        inl (cause_of cmp order p (call_enqueue now m) now fault refl fits
        (to (λ e. Enqueues cmp now m p (meets e)) (subst (λ (e : Error). Enqueues cmp now m p (meets e)) there h)))
    each_refused (enqueues_one {m = m} {ms = ms} {p = p} {q = mid} {cs = first} {rest = rest} h more) fault to is
        itself orderly =
        inr (
          first,
          mid,
          promised_if cmp order p mid (call_enqueue now m) now first refl fits orderly
              (goes_on m p mid first h itself),
          each_refused more fault to (faulted rest is) (itself_after m p mid first h itself)
              (orderly_on m p mid first h orderly),
        )
      where
        faulted : (rest : Course (Completed P) (Planned P)) → preceded first rest ≡ meets fault → rest ≡ meets fault
        faulted (goes es r) e = cc
        faulted (meets other) e = cc

    -- why a list of messages is refused
    pub some_refused : (ms : List (Message P)) (p : Planned P) (why : Error) → length ms ≢ 0
        → IsRefusedFor (λ fault. EnqueuesEach cmp now ms p (meets fault)) why → IsSamePlanned cmp p p
        → ∥ IsOrderly cmp p ∥₁ → RefusesOne cmp p (map (λ m. call_enqueue now m) ms) why
    some_refused [] p why some h itself orderly = absurd (some refl)
    some_refused (m ∷ ms) p OutOfMemory some h itself orderly =
        inl (cause_of cmp order p (call_enqueue now m) now OutOfMemory refl fits tt)
    some_refused (m ∷ ms) p NumberTooLarge some h itself orderly = absurd h
    some_refused (m ∷ ms) p MomentTooLate some h itself orderly =
        each_refused h MomentTooLate (λ Q q. q) refl itself orderly
    some_refused (m ∷ ms) p FlowIdsUsedUp some h itself orderly =
        each_refused h FlowIdsUsedUp (λ Q q. q) refl itself orderly
