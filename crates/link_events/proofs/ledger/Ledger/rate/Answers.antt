use Rattle.link_events.proofs.Common.{◌≡◌, length, not, true, sym, ap, ap₂, ◌∙◌, subst, Result, Ok, Err, OnOk, AllZip}
use Rattle.link_events.proofs.Common.{false≢true, eq-eqb, Caps, OneForEachPair, Accounts, Planned, rated_messages}
use Rattle.link_events.proofs.Common.{drained_to, is_spent, UnitFlight, flights_at, in_flight, in_units, AreFairlyRated}
use Rattle.link_events.proofs.Common.{IsFloorOf, is_out, rated_ones, caps_of, ∥∥₁_elim, ∥∥₁_map, props, left_updated}
use Rattle.link_events.proofs.Common.{since_of, same_flights_index}
use Rattle.std.proofs.Common.{◌≢◌, All}
use Rattle.link_flights.specs.Flights.Rated.{IsRatedFrom, are_limited}
use Rattle.link_flights.proofs.Flights.Accounted.{all_have_rates, rated_limited}
use Rattle.link_flights.proofs.Flights.Rated.{rated_under}
use Rattle.link_pairs.proofs.Pairs.LookedUp.{looked_up}
use Rattle.link_flights.proofs.Flights.Accounts.{accounts_so, some_units_left}
use Rattle.link_flights.proofs.Flights.Joining.{left_limited}
use Rattle.link_flights.proofs.Flights.Standing.{messages_read, messages_kept}
use Rattle.link_events.proofs.Steps.OneEach.{one_if_so}
use Rattle.link_events.proofs.ledger.Ledger.rate.Goals as goal
use Rattle.link_events.proofs.ledger.Ledger.rate.Goals.{then-were_fair, else-were_fair}

-- what follows from what an answer ensures
if_ok : {X E A B : Type 0} (r : Result X E) → OnOk r A → (A → B) → OnOk r B
if_ok (Ok x) a f = f a
if_ok (Err e) a f = tt

pub rate-rated-requires-clause-left : goal.rate-rated-requires-clause-left
rate-rated-requires-clause-left g c =
    let lv = c.requires.leaves in
    let flying = c.renew_units.new.self in
    some_units_left g.P.Ord.cmp lv.0.caps flying.scale flying.scaled (in_units flying)
    (drained_to c.args.now lv.0.sending)
    (c.renew_units.ensures.sending ∙ ap (λ (p : Planned g.row.P.Denot). p.sending) lv.2.is)

pub rate-rated-requires-clause-updated : goal.rate-rated-requires-clause-updated
rate-rated-requires-clause-updated g c =
    let lv = c.requires.leaves in
    let flying = c.renew_units.new.self in
    subst (λ at. All (λ (u : UnitFlight g.row.P.Denot). u.updated ≡ at) (in_units flying))
    (sym (c.renew_units.ensures.at ∙ c.requires.moment))
    (left_updated flying.scale c.args.now (λ f. not (is_spent g.P.Ord.cmp lv.0.caps f))
    (in_units flying) lv.0.sending
    (c.renew_units.ensures.sending ∙ ap (λ (p : Planned g.row.P.Denot). p.sending) lv.2.is))

pub rate-rated-requires-clause-before : goal.rate-rated-requires-clause-before
rate-rated-requires-clause-before g c e =
    let old = c.args.self.now in
    let cmp = g.P.Ord.cmp in
    let caps = caps_of cmp old.peers.entries old.pairs.entries in
    let flying = c.renew_units.new.self in
    let same : in_units flying ≡ in_units old.flights =
    ap₂ flights_at c.renew_units.ensures.at c.renew_units.ensures.list in
    elim c.if-were_fair.branch [
      | then-were_fair w ↦
          let some : length flying.list.items ≢ 0 = λ none. absurd (false≢true
          (sym
          (ap not
          (w.is_empty.ensures
          ∙ eq-eqb (length old.flights.list.items) 0
          (sym (ap length c.renew_units.ensures.list) ∙ none)))
          ∙ sym w.stay_fair-is ∙ e)) in
          let scale = c.renew_units.ensures.scale some in
          ∥∥₁_map (c.requires.fair w.if-were_fair.true) (λ h. record {
            before = h.before;
            is_done = is_out cmp caps old.flights.scale;
            parted = record { left = h.parted.left; stay = same ∙ h.parted.stay };
            was = h.was;
            of_peers = h.of_peers;
            fair = subst (λ n. AreFairlyRated cmp h.was n (rated_ones h.before)) (sym scale) h.fair;
            differ = rw (c.renew_units.ensures.loose, c.renew_units.ensures.floor, same) h.differ;
            no_less =
                subst (IsFloorOf (is_out cmp caps old.flights.scale) h.before) (sym c.renew_units.ensures.floor)
                h.no_less;
          })
      | else-were_fair w ↦ absurd (false≢true (sym w.if-were_fair.false ∙ sym w.stay_fair-is ∙ e))
    ]

pub rate-rated-requires-clause-timed : goal.rate-rated-requires-clause-timed
rate-rated-requires-clause-timed g c e =
    elim c.if-were_fair.branch [
      | then-were_fair w ↦
          rw c.renew_units.ensures.list (∥∥₁_elim (c.requires.fair w.if-were_fair.true) (hlevel props) (λ h. h.timed))
      | else-were_fair w ↦ absurd (false≢true (sym w.if-were_fair.false ∙ sym w.stay_fair-is ∙ e))
    ]

pub rate-rated-requires-clause-one_each : goal.rate-rated-requires-clause-one_each
rate-rated-requires-clause-one_each g c =
    let old = c.args.self.now in
    let cmp = g.P.Ord.cmp in
    let flying = c.renew_units.new.self in
    subst (OneForEachPair cmp)
    (sym (ap rated_messages c.renew_units.ensures.sending) ∙ messages_read flying.scale (in_units flying))
    (one_if_so cmp (rated_messages (in_flight old.flights)) old.one_each)

pub invariant_of-self : goal.invariant_of-self
invariant_of-self g c =
    let old = c.args.self.now in
    let cmp = g.P.Ord.cmp in
    let caps = caps_of cmp old.peers.entries old.pairs.entries in
    let lv = c.requires.leaves in
    let flying = c.renew_units.new.self in
    let new = c.rate-rated.new.self in
    let h = c.in-Ok.ensures.rated in
    let all = all_have_rates flying.at h.times (in_units flying) (in_units new) h.each in
    let limited : are_limited cmp caps (in_units flying) ≡ true =
    subst (λ (k : Caps g.row.P.Denot). are_limited cmp k (in_units flying) ≡ true)
    (sym (ap (λ (p : Planned g.row.P.Denot). p.caps) lv.2.is))
    (left_limited cmp lv.0.caps flying.scale (in_units flying) (drained_to c.args.now lv.0.sending)
    (c.renew_units.ensures.sending ∙ ap (λ (p : Planned g.row.P.Denot). p.sending) lv.2.is)) in
    let messages_same = messages_read new.scale (in_units new)
    ∙ messages_kept flying.at h.times (in_units flying) (in_units new) h.each
    ∙ sym (messages_read flying.scale (in_units flying)) ∙ ap rated_messages c.renew_units.ensures.sending in
    record {
      indexed =
          same_flights_index cmp g.met.P.Ord.total old.pairs.entries old.waiting.messages (in_flight old.flights)
          (in_flight new) (since_of g.P.Ord.cmp old.waiting.told) messages_same old.indexed;
      one_each = subst (λ ms. ∥ OneForEachPair cmp ms ∥₁) (sym messages_same) old.one_each;
      rated = λ e. ∣ rated_under cmp caps new (looked_up cmp g.met.P.Ord.total old.peers.entries old.pairs.entries)
          (record {
            fair = rw all h.fair;
            limited = rw all (rated_limited cmp caps flying.at h.times (in_units flying) (in_units new) h.each limited);
            timed = h.timed;
          }) ∣₁;
    }

pub returns-in-Ok-clause-accounts : goal.returns-in-Ok-clause-accounts
returns-in-Ok-clause-accounts g c =
    let here = c.args.self.now in
    let cmp = g.P.Ord.cmp in
    let flying = c.renew_units.new.self in
    let new = c.rate-rated.new.self in
    let h = c.in-Ok.ensures.rated in
    let moment : flying.at ≡ c.args.now = c.renew_units.ensures.at ∙ c.requires.moment in
    let at : new.at ≡ c.args.now = h.at ∙ moment in
    if_ok c.enlarge_units.result c.enlarge_units.ensures.same (λ same old leavers lv.
    let caps = ap (λ (p : Planned g.row.P.Denot). p.caps) lv.is in
    subst (λ (p : Planned g.row.P.Denot). Accounts cmp c.args.now old leavers p)
    (sym (same
    ∙ (λ i. record (lv.is i) { sending = in_flight new; accounted = at i; finish = c.in-Ok.finish })))
    (accounts_so cmp c.args.now old flying.scale new.scale h.times flying.scaled new.scaled h.scale (in_units flying)
    (in_units new)
    (c.renew_units.ensures.sending ∙ ap (λ (p : Planned g.row.P.Denot). p.sending) lv.is)
    (subst (λ n. AllZip (IsRatedFrom n h.times) (in_units flying) (in_units new)) moment h.each)
    (subst (λ (k : Caps g.row.P.Denot). AreFairlyRated cmp k new.scale (in_units new)) caps h.fair)
    leavers c.in-Ok.finish lv.left c.in-Ok.ensures.finish))
