use Rattle.link_events.proofs.Common.{◌≡◌, ℕ, not, map, Result, Ok, Err, IfOk, OnOk, ap, sym, ◌∙◌, subst, filter}
use Rattle.link_events.proofs.Common.{AllZip, Ordering, Flights, drained_to, is_spent, rated_messages, in_flight}
use Rattle.link_events.proofs.Common.{in_units, is_out, IsFloorOf, AreFairlyRated, rated_ones, sending_of, messages}
use Rattle.link_events.proofs.Common.{message_of, caps_of, ∥∥₁_map}
use Rattle.fairness.proofs.Lists.Zips.{zip_weaker}
use Rattle.link_flights.specs.Flights.Flight.{DrainsTo}
use Rattle.link_flights.specs.Flights.InFlight.{loose_in}
use Rattle.link_flights.specs.Flights.Rated.{IsAsRated, ArePartedBy}
use Rattle.link_flights.specs.Flights.Rated.{DifferWhereLoose}
use Rattle.link_flights.proofs.Flights.Rated.{drained_as_rated, drained_sending, still_fair_after, still_limited, still_differ}
use Rattle.link_flights.proofs.Flights.Rated.{limited_if_so, timed_if_so}
use Rattle.fairness.proofs.Lists.Members.{In, from_filter}
use Rattle.link_flights.proofs.Flights.Rated.{out_as_read, stay_as_read}
use Rattle.link_events.proofs.Steps.OneEach.{one_if_so, one_stays}
use Rattle.link_events.proofs.leave.part.Goals as goal

-- ---- what has drained

module _ {P : Type 0} {a : _} {b : _} {c : _} (cmp : P → P → Ordering) (now : ℕ) (old drained : Flights P a b c)
    (scale : drained.scale ≡ old.scale) (all : AllZip (DrainsTo now) (in_units old) (in_units drained)) where
  -- as it is read
  drained_so : in_flight drained ≡ drained_to now (in_flight old)
  drained_so =
      ap (λ n. sending_of n (in_units drained)) scale
      ∙ drained_sending old.scale now (in_units old) (in_units drained) old.scaled all

pub take_done-requires-clause-limited : goal.take_done-requires-clause-limited
take_done-requires-clause-limited g c e =
    let caps = caps_of g.P.Ord.cmp c.args.peers.now.entries c.args.pairs.now.entries in
    still_limited g.P.Ord.cmp caps (in_units c.args.flights.now) (in_units c.drain.new.self)
    (zip_weaker (DrainsTo c.args.now) IsAsRated (drained_as_rated c.args.now) (in_units c.args.flights.now)
    (in_units c.drain.new.self) c.in_ok-drain.ensures.drained)
    (limited_if_so g.P.Ord.cmp caps c.args.flights.now (c.requires.rated e))

pub take_done-requires-clause-timed : goal.take_done-requires-clause-timed
take_done-requires-clause-timed g c e =
    let caps = caps_of g.P.Ord.cmp c.args.peers.now.entries c.args.pairs.now.entries in
    c.in_ok-drain.ensures.timed (c.requires.later e)
    (timed_if_so g.P.Ord.cmp caps c.args.flights.now (c.requires.rated e))

-- ---- what is done

-- what three facts about an answer make of it
if_ok_all : {X E S T L : Type 0} {A B C : X → Type 0} (r : Result X E)
    → ((x : X) → A x → B x → (S → T) → L → C x) → IfOk r A → IfOk r B → (S → OnOk r T) → OnOk r L → IfOk r C
if_ok_all (Ok x) f a b c d = f x a b c d
if_ok_all (Err e) f a b c d = tt

pub returns-clause-parted : goal.returns-clause-parted
returns-clause-parted g c =
    let cmp = g.P.Ord.cmp in
    let caps = caps_of cmp c.args.peers.now.entries c.args.pairs.now.entries in
    let old = c.args.flights.now in
    let drained = c.drain.new.self in
    let left = c.take_done.new.self in
    let scale = c.take_done.ensures.scale in
    let drains = drained_so cmp c.args.now old drained c.drain.ensures.scale c.in_ok-drain.ensures.drained in
    if_ok_all c.take_done.result (λ done parted floor timed lower.
    let stays : in_flight left ≡ filter (λ f. not (is_spent cmp caps f)) (drained_to c.args.now (in_flight old)) =
    ap (λ n. sending_of n (in_units left)) scale
    ∙ ap (sending_of drained.scale) parted.stay
    ∙ sym (stay_as_read cmp caps drained.scale (in_units drained))
    ∙ ap (filter (λ f. not (is_spent cmp caps f))) drains in
    record {
      left =
          parted.left ∙ sym (out_as_read cmp caps drained.scale (in_units drained))
          ∙ ap (λ fs. rated_messages (filter (is_spent cmp caps) fs)) drains;
      stays = stays;
      one_each =
          ∣ one_stays cmp g.met.P.Ord.total c.args.now (is_spent cmp caps) (in_flight old) (in_flight left)
          (one_if_so cmp (rated_messages (in_flight old)) c.requires.one_each) stays ∣₁;
      fair = λ e.
          let alike = zip_weaker (DrainsTo c.args.now) IsAsRated (drained_as_rated c.args.now) (in_units old)
          (in_units drained) c.in_ok-drain.ensures.drained in
          ∥∥₁_map (c.requires.rated e) (λ rated. record {
            before = in_units drained;
            parted =
                subst (λ n. ArePartedBy (is_out cmp caps n) (in_units drained) (messages done.items) (in_units left))
                (sym scale) parted;
            was = rated.was;
            of_peers = rated.of_peers;
            fair =
                subst (λ n. AreFairlyRated cmp rated.was n (rated_ones (in_units drained)))
                (sym (scale ∙ c.drain.ensures.scale))
                (still_fair_after cmp rated.was old.scale (in_units old) (in_units drained) alike rated.fair);
            differ =
                subst (λ ms. DifferWhereLoose cmp rated.was caps (map (λ m. message_of m) ms) left.floor (in_units left))
                (sym (c.take_done.ensures.loose ∙ c.drain.ensures.loose))
                (still_differ cmp caps rated.was (in_units old) (in_units drained) (in_units left) alike
                (λ w h. (from_filter (λ u. not (is_out cmp caps drained.scale u)) (in_units drained) w
                (subst (λ us. In us w) parted.stay h)).0)
                (loose_in old) old.floor left.floor (λ rate no_more. lower rate (rw c.drain.ensures.floor no_more))
                rated.differ);
            no_less = subst (λ n. IsFloorOf (is_out cmp caps n) (in_units drained) left.floor) (sym scale) floor;
            timed = timed (c.in_ok-drain.ensures.timed (c.requires.later e) rated.timed);
          });
      moment = c.take_done.ensures.at ∙ c.in_ok-drain.ensures.at;
    }) c.take_done.ensures.parted c.take_done.ensures.floor c.take_done.ensures.timed c.take_done.ensures.lower
