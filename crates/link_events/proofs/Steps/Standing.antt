-- The way through a list of messages, with one account for those that only start.
use Rattle.link_events.proofs.Common.{◌≡◌, ℕ, ◌*◌, ◌<◌, List, [], ◌∷◌, ◌++◌, Bool, true, false, Option, Some, None}
use Rattle.link_events.proofs.Common.{refl, sym, ap, ◌∙◌, subst, is_none, list_any, Ordering, IsTotalOrder, Message}
use Rattle.link_events.proofs.Common.{same_pair, Completed, goes, meets, Planned, next_of, may_launch, Accounts}
use Rattle.link_events.proofs.Common.{PlansStart, Enqueues, launched, with_queued, AreLowest, IsStanding, UnitFlight}
use Rattle.link_events.proofs.Common.{sending_of, is_sending, IsRefusedFor, Error}
use Rattle.std.specs.Prelude.{◌&&◌}
use Rattle.fairness.specs.Numbers.Amount.{billion}
use Rattle.fairness.specs.Numbers.LowestTerms.{reduced_positive}
use Rattle.link_events.specs.declared.batch.Standing.{Standing}
use Rattle.link_events.specs.declared.batch.Standing.TheVariants.{Open, Accounted, Due}
use Rattle.link_simulation.proofs.Rule.OneAccount.{ArePositive, IsAccountedAt, accounted, enqueue_accounted}
use Rattle.link_simulation.proofs.Rule.OneAccount.{enqueue_starts, account_again, messages_stay, planned_alike}
use Rattle.link_simulation.proofs.Rule.OneAccount.{one_starts}
use Rattle.link_simulation.proofs.Rule.OneCourse.{account_is_one}
use Rattle.link_simulation.proofs.Simulation.LowestTerms.{reduced_lowest}
use Rattle.link_events.specs.Steps.Standing.{OnlyStarts, is_accounted, does_start}
use Rattle.link_events.specs.Steps.Standing.{standing_after}
use Rattle.link_simulation.specs.Rule.Events.{EnqueuesEach, all_enqueued, one_stops, enqueues_one}
use Rattle.link_events.proofs.Steps.SoFar.{SoFar, none_so_far, step_so_far, all_so_far, refused_so_far}
use Rattle.link_events.proofs.Steps.OnlyWaiting.{enqueue_waits}
use Rattle.link_events.proofs.Steps.Starting.{starts_unspent}
use Rattle.link_flights.proofs.Flights.Units.{units_positive}
use Rattle.link_waiting.proofs.Idle.Starting.{first_joined}

-- what is in flight, as it is read, has numbers over numbers above zero
pub read_positive : {P : Type 0} (scale : ℕ) (us : List (UnitFlight P)) → 0 < scale → ArePositive (sending_of scale us)
read_positive scale [] some = tt
read_positive scale (u ∷ us) some = (
  (reduced_positive u.left (scale * billion) (units_positive scale some), reduced_positive u.rate scale some),
  read_positive scale us some,
)

-- and in lowest terms
pub read_lowest : {P : Type 0} (scale : ℕ) (us : List (UnitFlight P)) → 0 < scale → AreLowest (sending_of scale us)
read_lowest scale [] some = tt
read_lowest scale (u ∷ us) some =
    (reduced_lowest u.left (scale * billion) (units_positive scale some), read_lowest scale us some)

module _ {P : Type 0} (cmp : P → P → Ordering) (order : IsTotalOrder cmp) where
  -- ---- an account that is due

  pub account_due : (now : ℕ) (here w new : Planned P) (ls : List (Message P)) → Accounts cmp now here [] w
      → Accounts cmp now here ls new → w ≡ new
  account_due now here w new ls a b = the_world (account_is_one cmp order now here w new [] ls a b)
    where
      the_world : goes [] w ≡ goes ls new → w ≡ new
      the_world e = cc

  pub accounted_standing : (now : ℕ) (standing : Standing) (here w : Planned P) → is_accounted standing ≡ true
      → IsStanding cmp now standing here w → IsAccountedAt cmp order now w
  accounted_standing now Open here w is h = cc
  accounted_standing now Accounted here w is h =
      subst (IsAccountedAt cmp order now) (sym h.0) (accounted cmp order now here here [] h.1)
  accounted_standing now Due here w is h = accounted cmp order now here w [] h

  -- ---- a message that waits

  abbrev Goes : ℕ → Message P → Standing → Planned P → Planned P → Type 0
  Goes now m standing next w = (v : Planned P) × Enqueues cmp now m w (goes [] v) × IsStanding cmp now standing next v

  waits_accounted : (now : ℕ) (m : Message P) (here next : Planned P) → PlansStart cmp now (with_queued cmp here m) next
      → Accounts cmp now here [] here → Accounts cmp now next [] next
  waits_accounted now m here next looks a =
      subst (λ (q : Planned P). Accounts cmp now q [] q) (sym looks.same) (record {
        per = a.per;
        rates = a.rates;
        left = a.left;
        stayed = a.stayed;
        fair = a.fair;
        rated = a.rated;
        finish = a.finish;
        same =
            let at : here.accounted ≡ now = ap (λ (q : Planned P). q.accounted) a.same in
            λ i. record (with_queued cmp here m) { accounted = at i; start = next.start };
      })

  waits_due : (now : ℕ) (m : Message P) (here next w : Planned P) → here.limited ≡ true
      → is_sending cmp here m.origin m.recipient ≡ true → PlansStart cmp now (with_queued cmp here m) next
      → Accounts cmp now here [] w → Goes now m Due next w
  waits_due now m here next w limited busy looks a = (
    record (with_queued cmp w m) { start = next.start },
    enqueue_waits cmp order now m w (with_queued cmp w m) (record (with_queued cmp w m) { start = next.start })
        (ap (λ (q : Planned P). q.limited) a.same ∙ limited)
        (ap (list_any (same_pair cmp m)) (messages_stay cmp order now here w a) ∙ busy) refl
        (planned_alike cmp order now (with_queued cmp here m) (with_queued cmp w m) next looks
        (ap (λ (q : Planned P). (with_queued cmp q m).waiting) a.same)
        (ap (λ (q : Planned P). q.last_arrival) a.same) (messages_stay cmp order now here w a)),
    subst (λ (q : Planned P). Accounts cmp now q [] (record (with_queued cmp w m) { start = next.start }))
        (sym looks.same) (record {
          per = a.per;
          rates = a.rates;
          left = a.left;
          stayed = a.stayed;
          fair = a.fair;
          rated = a.rated;
          finish = a.finish;
          same = ap (λ (q : Planned P). record (with_queued cmp q m) { start = next.start }) a.same;
        }),
  )

  pub goes_waiting : (now : ℕ) (m : Message P) (standing : Standing) (here next w : Planned P) → here.limited ≡ true
      → is_sending cmp here m.origin m.recipient ≡ true → PlansStart cmp now (with_queued cmp here m) next
      → Enqueues cmp now m here (goes [] next) → IsStanding cmp now standing here w → Goes now m standing next w
  goes_waiting now m Open here next w limited busy looks h is =
      (next, subst (λ (q : Planned P). Enqueues cmp now m q (goes [] next)) (sym is) h, refl)
  goes_waiting now m Accounted here next w limited busy looks h is = (
    next,
    subst (λ (q : Planned P). Enqueues cmp now m q (goes [] next)) (sym is.0) h,
    (refl, waits_accounted now m here next looks is.1),
  )
  goes_waiting now m Due here next w limited busy looks h is = waits_due now m here next w limited busy looks is

  -- ---- a message that only starts

  found_alone : (p : Planned P) (m : Message P) → next_of cmp p m ≡ None
      → next_of cmp (with_queued cmp p m) m ≡ Some m
  found_alone p m alone = first_joined cmp order m p.waiting alone

  -- what it is to start at once
  pub record StartsAtOnce (now : ℕ) (p : Planned P) (m : Message P) : Type 0 where
    pub limited : p.limited ≡ true
    pub alone : next_of cmp p m ≡ None
    pub may : may_launch cmp now p m ≡ true

  pub starts_so : (now : ℕ) (p : Planned P) (m : Message P) → does_start cmp now p m ≡ true → StartsAtOnce now p m
  starts_so now p m e =
      let three = parts p.limited (is_none (next_of cmp p m)) (may_launch cmp now p m) e in
      record { limited = three.0; alone = none (next_of cmp p m) three.1; may = three.2 }
    where
      parts : (a b c : Bool) → (a && (b && c)) ≡ true → (a ≡ true) × (b ≡ true) × (c ≡ true)
      parts true true true e = (refl, refl, refl)
      parts true true false e = cc
      parts true false c e = cc
      parts false b c e = cc

      none : (first : Option (Message P)) → is_none first ≡ true → first ≡ None
      none None e = refl
      none (Some n) e = cc

  starts_from : (now : ℕ) (m : Message P) (here mid next w : Planned P) → OnlyStarts cmp now here m
      → mid ≡ launched cmp now (with_queued cmp here m) m → PlansStart cmp now mid next → ArePositive here.sending
      → Accounts cmp now here [] w → Goes now m Due next w
  starts_from now m here mid next w h is looks positive a =
      let so = starts_so now here m h.starts in
      one_starts cmp order now m here next w a positive so.limited (found_alone here m so.alone) so.may h.id
      (starts_unspent cmp here.caps m here.next_id now h.some_bytes h.capped)
      (subst (λ (q : Planned P). PlansStart cmp now q next) is looks)

  pub goes_starting : (now : ℕ) (m : Message P) (standing : Standing) (here mid next w : Planned P)
      → is_accounted standing ≡ true → OnlyStarts cmp now here m → mid ≡ launched cmp now (with_queued cmp here m) m
      → PlansStart cmp now mid next → ArePositive here.sending → IsStanding cmp now standing here w
      → Goes now m Due next w
  goes_starting now m Open here mid next w after h is looks positive stands = cc
  goes_starting now m Accounted here mid next w after h is looks positive stands =
      starts_from now m here mid next w h is looks positive
      (subst (λ (q : Planned P). Accounts cmp now here [] q) (sym stands.0) stands.1)
  goes_starting now m Due here mid next w after h is looks positive stands =
      starts_from now m here mid next w h is looks positive stands

  -- ---- any other message

  pub goes_otherwise : (now : ℕ) (m : Message P) (standing : Standing) (starts : Bool) (here there new w : Planned P)
      (cs : List (Completed P)) → IsStanding cmp now standing here w → w ≡ there
      → starts ≡ does_start cmp now there m → Enqueues cmp now m there (goes cs new) → AreLowest new.sending
      → Enqueues cmp now m w (goes cs new) × IsStanding cmp now (standing_after standing starts) new new
  goes_otherwise now m standing starts here there new w cs stands is starts_is h low = (
    subst (λ (q : Planned P). Enqueues cmp now m q (goes cs new)) (sym is) h,
    by_case standing starts starts_is before,
  )
    where
      stays : IsAccountedAt cmp order now new → (new ≡ new) × Accounts cmp now new [] new
      stays at = (refl, account_again cmp order now new at low)

      before : is_accounted standing ≡ true → IsAccountedAt cmp order now there
      before e = subst (IsAccountedAt cmp order now) is (accounted_standing now standing here w e stands)

      started : true ≡ does_start cmp now there m → IsAccountedAt cmp order now new
      started e =
          let so = starts_so now there m (sym e) in
          enqueue_starts cmp order h so.limited (found_alone there m so.alone) so.may

      by_case : (s : Standing) (b : Bool) → b ≡ does_start cmp now there m
          → (is_accounted s ≡ true → IsAccountedAt cmp order now there)
          → IsStanding cmp now (standing_after s b) new new
      by_case Open false e f = refl
      by_case Open true e f = stays (started e)
      by_case Accounted b e f = stays (enqueue_accounted cmp order h (f refl))
      by_case Due b e f = stays (enqueue_accounted cmp order h (f refl))

  -- ---- the way through the list

  -- so far this came out, and the planned world that was reached stands for the one reached one by one
  pub record StandsSo (now : ℕ) (ms : List (Message P)) (p : Planned P) (rest : List (Message P)) (here : Planned P)
      (standing : Standing) (out : List (Completed P)) : Type 0 where
    pub there : Planned P
    pub so : SoFar (EnqueuesEach cmp now ms p) (EnqueuesEach cmp now rest there) [] out
    pub stands : IsStanding cmp now standing here there

  pub stands_start : (now : ℕ) (ms : List (Message P)) (p : Planned P) → StandsSo now ms p ms p Open []
  stands_start now ms p = record { there = p; so = none_so_far (EnqueuesEach cmp now ms p) []; stands = refl }

  pub stands_step : (now : ℕ) (ms : List (Message P)) (p : Planned P) (m : Message P) (rest : List (Message P))
      (here next : Planned P) (standing after : Standing) (out more : List (Completed P))
      → StandsSo now ms p (m ∷ rest) here standing out
      → ((w : Planned P) → IsStanding cmp now standing here w
      → (cs : List (Completed P)) × (v : Planned P) × (more ≡ out ++ cs) × Enqueues cmp now m w (goes cs v)
      × IsStanding cmp now after next v)
      → StandsSo now ms p rest next after more
  stands_step now ms p m rest here next standing after out more so step =
      let one = step so.there so.stands in
      record {
        there = one.1;
        so = step_so_far so.so (EnqueuesEach cmp now rest one.1) one.0 more one.2 (λ course h. enqueues_one one.3 h);
        stands = one.4;
      }

  pub stands_refused : (now : ℕ) (ms : List (Message P)) (p : Planned P) (m : Message P) (rest : List (Message P))
      (here : Planned P) (standing : Standing) (out : List (Completed P)) (e : Error)
      → StandsSo now ms p (m ∷ rest) here standing out
      → ((w : Planned P) → IsStanding cmp now standing here w
      → IsRefusedFor (λ fault. Enqueues cmp now m w (meets fault)) e)
      → IsRefusedFor (λ fault. EnqueuesEach cmp now ms p (meets fault)) e
  stands_refused now ms p m rest here standing out e so refused =
      refused_so_far so.so (λ fault. Enqueues cmp now m so.there (meets fault)) (λ fault h. one_stops h) e
      (refused so.there so.stands)

  pub stands_end : (now : ℕ) (ms : List (Message P)) (p : Planned P) (rest : List (Message P)) (here new : Planned P)
      (standing : Standing) (out : List (Completed P)) → StandsSo now ms p rest here standing out → rest ≡ []
      → ((w : Planned P) → IsStanding cmp now standing here w → w ≡ new) → EnqueuesEach cmp now ms p (goes out new)
  stands_end now ms p rest here new standing out so none is =
      subst (λ (l : List (Completed P)). EnqueuesEach cmp now ms p (goes l new)) (sym so.so.out)
      (all_so_far so.so new
      (subst (λ (q : Planned P). EnqueuesEach cmp now rest q (goes [] new)) (sym (is so.there so.stands))
      (subst (λ (l : List (Message P)). EnqueuesEach cmp now l new (goes [] new)) (sym none) all_enqueued)))
