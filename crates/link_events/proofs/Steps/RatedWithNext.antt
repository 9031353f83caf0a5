-- The rates of an account, once a message that is done has landed, and the next one of its pair starts or waits.
use Rattle.link_events.proofs.Common.{◌≡◌, ℕ, ◌<◌, true, false, not, List, [], Some, refl, sym, ap, ◌∙◌, subst, filter}
use Rattle.link_events.proofs.Common.{Ordering, IsTotalOrder, Error, Message, Course, goes, meets, last_moment}
use Rattle.link_events.proofs.Common.{IsRefusedFor, Planned, RatedFlight, rated_messages, next_of, may_launch, is_spent}
use Rattle.link_events.proofs.Common.{drained_to, Accounts, Launches, landed, launched, Leaves, stayed_messages}
use Rattle.link_events.proofs.Common.{AreLowest, refused_more, first_of, idle_from, UnitFlight, sending_of}
use Rattle.link_events.proofs.Common.{left_updated}
use Rattle.link_simulation.proofs.Rule.Following.{lands, none_leaves_again, follows}
use Rattle.link_simulation.proofs.Rule.OneAccount.{starting}
use Rattle.link_flights.proofs.Flights.Joining.{still_as_read}
use Rattle.link_events.proofs.Steps.Finishing.{launches_landed}
use Rattle.link_events.proofs.Steps.Standing.{read_lowest}

module _ {P : Type 0} (cmp : P → P → Ordering) (order : IsTotalOrder cmp) (t : ℕ) where
  -- ---- the next message waits

  -- who leaves does not hang on what has landed
  pub leaves_landed : (old here there : Planned P) (m : Message P) (ls : List (Message P)) → Leaves cmp t old ls here
      → there ≡ landed cmp t here m → Leaves cmp t (landed cmp t old m) ls there
  leaves_landed old here there m ls lv is =
      subst (Leaves cmp t (landed cmp t old m) ls) (sym is)
      (record { left = lv.left; is = ap (λ (p : Planned P). landed cmp t p m) lv.is })

  same_idle : (p q : Planned P) → q.waiting ≡ p.waiting → q.last_arrival ≡ p.last_arrival
      → rated_messages q.sending ≡ rated_messages p.sending → (o r : P) → idle_from cmp q o r ≡ idle_from cmp p o r
  same_idle p q waits arrived flies o r = rw (waits, arrived, flies) refl

  -- the same pairs are idle once those in flight have their rates
  pub idle_rated : (old here new : Planned P) (ls : List (Message P)) → Leaves cmp t old ls here
      → Accounts cmp t old ls new → (o r : P) → idle_from cmp here o r ≡ idle_from cmp new o r
  idle_rated old here new ls lv a o r =
      same_idle new here
      (ap (λ (p : Planned P). p.waiting) lv.is ∙ sym (ap (λ (p : Planned P). p.waiting) a.same))
      (ap (λ (p : Planned P). p.last_arrival) lv.is ∙ sym (ap (λ (p : Planned P). p.last_arrival) a.same))
      (ap (λ (p : Planned P). rated_messages p.sending) lv.is
      ∙ sym (stayed_messages t (filter (λ f. not (is_spent cmp old.caps f)) (drained_to t old.sending)) new.sending
      a.stayed)) o r

  -- the launch that follows is one after the account
  pub launched_rated : (old new : Planned P) (m : Message P) (ls : List (Message P))
      (course : Course (Message P) (Planned P)) → Accounts cmp t (landed cmp t old m) ls new
      → Launches cmp t new (first_of cmp new.waiting m.origin m.recipient) course
      → (mid : Planned P) × Accounts cmp t old ls mid × Launches cmp t (landed cmp t mid m) (next_of cmp mid m) course
  launched_rated old new m ls course a launch =
      let l = lands cmp order t old new m ls a in
      (l.0, l.1, launches_landed cmp t m l.0 new course (sym l.2) launch)

  pub refused_rated : (old new : Planned P) (m : Message P) (ls : List (Message P)) (e : Error)
      → Accounts cmp t (landed cmp t old m) ls new
      → IsRefusedFor (λ fault. Launches cmp t new (first_of cmp new.waiting m.origin m.recipient) (meets fault)) e
      → (mid : Planned P) × Accounts cmp t old ls mid
      × IsRefusedFor (λ fault. Launches cmp t (landed cmp t mid m) (next_of cmp mid m) (meets fault)) e
  refused_rated old new m ls e a refused =
      let l = lands cmp order t old new m ls a in (
        l.0,
        l.1,
        refused_more (λ fault. Launches cmp t new (first_of cmp new.waiting m.origin m.recipient) (meets fault))
            (λ fault. Launches cmp t (landed cmp t l.0 m) (next_of cmp l.0 m) (meets fault))
            (λ fault h. launches_landed cmp t m l.0 new (meets fault) (sym l.2) h) e refused,
      )

  -- ---- the next message starts

  module _ (old here there : Planned P) (m next : Message P) (ls : List (Message P)) (scale : ℕ)
      (us : List (UnitFlight P)) (some : 0 < scale) (read : there.sending ≡ sending_of scale us)
      (is : there ≡ landed cmp t here m) (lv : Leaves cmp t old ls here)
      (stays : is_spent cmp there.caps (starting cmp order there.next_id t next) ≡ false) where
    kept : here.sending ≡ sending_of scale us
    kept = sym (ap (λ (p : Planned P). p.sending) is) ∙ read

    still : drained_to t here.sending ≡ here.sending
    still =
        subst (λ (fs : List (RatedFlight P)). drained_to t fs ≡ fs) (sym kept)
        (still_as_read scale t us some
        (left_updated scale t (λ f. not (is_spent cmp old.caps f)) us old.sending
        (sym kept ∙ ap (λ (p : Planned P). p.sending) lv.is)))

    stays_here : is_spent cmp here.caps (starting cmp order here.next_id t next) ≡ false
    stays_here =
        subst (λ (p : Planned P). is_spent cmp p.caps (starting cmp order p.next_id t next) ≡ false) is stays

    -- nothing more leaves
    pub leaves_started : (started : Planned P) → started ≡ launched cmp t there next
        → Leaves cmp t (launched cmp t (landed cmp t here m) next) [] started
    leaves_started started e =
        subst (Leaves cmp t (launched cmp t (landed cmp t here m) next) [])
        (sym (e ∙ ap (λ (p : Planned P). launched cmp t p next) is))
        (none_leaves_again cmp order t old here m next ls lv still stays_here)

    -- and the account is one of those that left, and of the start
    pub started_rated : (new : Planned P) → first_of cmp there.waiting m.origin m.recipient ≡ Some next
        → may_launch cmp t there next ≡ true → there.next_id < last_moment
        → Accounts cmp t (launched cmp t (landed cmp t here m) next) [] new
        → (mid : Planned P) × Accounts cmp t old ls mid
        × Launches cmp t (landed cmp t mid m) (next_of cmp mid m) (goes [] new)
    started_rated new found may id a =
        follows cmp order t old here new m next ls lv
        (subst (λ (fs : List (RatedFlight P)). AreLowest fs) (sym kept) (read_lowest scale us some)) still
        (subst (λ (p : Planned P). next_of cmp p m ≡ Some next) is found)
        (subst (λ (p : Planned P). may_launch cmp t p next ≡ true) is may)
        (subst (λ (p : Planned P). p.next_id < last_moment) is id) stays_here a
