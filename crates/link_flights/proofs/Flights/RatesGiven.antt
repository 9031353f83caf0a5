-- Rates that are given to what is in flight.
use Rattle.link_flights.proofs.Common.{◌≡◌, ◌≢◌, ℕ, zero, suc, ◌-◌, ◌*◌, ◌<◌, ◌≤◌, List, [], ◌∷◌, All, IfSome, length}
use Rattle.link_flights.proofs.Common.{map, refl, sym, ap, not, cond, sum_by, option_map, zero-add, ◌∙◌, subst, arith}
use Rattle.link_flights.proofs.Common.{true, AllZip, filter, IsTotalOrder, Ordering, Arc, Global, le-leb, All-contains}
use Rattle.link_flights.proofs.Common.{AreShared, shared_from, capped_sides, product, IsFair, In, all_pass}
use Rattle.link_flights.proofs.Common.{All-from_contains, Caps, Subject, sent_by, received_by, sent_between, AreOfPeers}
use Rattle.link_flights.proofs.Common.{cap_of, limits, sides_under, Component, messages, Flights, UnitFlight, AreTimed}
use Rattle.link_flights.proofs.Common.{flights_at, in_units, loose_in, is_of, those_of, has_both, is_closed, AreTied}
use Rattle.link_flights.proofs.Common.{rates_found, rerated, AreFairlyRated, WereRated, AreRatedBeside, IsRatedFrom}
use Rattle.link_flights.proofs.Common.{HaveFairRates, sent_messages, rates_of, flow_in_flight, kept_load, left_of}
use Rattle.link_flights.proofs.Common.{left_caps, flows_of, FairParts, product_none}
use Rattle.std.proofs.Common.{slice_index}
use Rattle.std.specs.Prelude.{nat_le}
use Rattle.std.proofs.Math.Logic.{∥∥₁_map}
use Rattle.fairness.proofs.Fairness.Decided.{fair_if_so}
use Rattle.fairness.proofs.Fairness.SharedBeside.{whole_shared}
use Rattle.fairness.specs.Sides.Caps.{times_caps}
use Rattle.link_pairs.specs.declared.message.Message as code
use Rattle.link_flights.specs.Flights.Rated.{AreFairOn}
use Rattle.link_flights.proofs.Flights.AllSides.{of_left}
use Rattle.link_flights.proofs.Flights.Components.{flow_of, parts_of, flow_for, shares, flows_are, stand_from, fair}
use Rattle.link_flights.proofs.Flights.Components.{found_each, whole_rerated}
use Rattle.link_flights.proofs.Flights.Components.{component_rerated}
use Rattle.link_flights.proofs.Flights.ComponentFlows.{is_of_whole, all_of_whole}
use Rattle.link_flights.proofs.Flights.InFlight.{filter_no}
use Rattle.link_flights.proofs.Flights.Restarting.{restart_fair, flows_again, rates_again}

-- ---- of all

module _ {P : Type 0} (cmp : P → P → Ordering) (caps : Caps P) (component : Component P) (whole : component.whole ≡ true)
    (level : component.level ≡ 0) where
  -- none keeps its rate
  none_kept : (us : List (UnitFlight P)) → filter (λ u. not (is_of cmp component u)) us ≡ []
  none_kept [] = refl
  none_kept (u ∷ us) =
      filter_no (λ v. not (is_of cmp component v)) u us (ap not (is_of_whole cmp component whole level u)) ∙ none_kept us

  nothing_taken : (us : List (UnitFlight P)) (s : Subject P) → kept_load cmp component us s ≡ 0
  nothing_taken us s = ap (sum_by (λ u. cond (limits cmp s (flow_in_flight cmp u)) u.rate 0)) (none_kept us)

  -- so all of each cap is left
  all_left : (scale : ℕ) (us : List (UnitFlight P)) (s : Subject P)
      → left_of cmp caps scale component us s ≡ option_map (λ cap. cap * scale) (cap_of caps s)
  all_left scale us s =
      λ i. option_map (λ cap. nothing_less (cap * scale) (kept_load cmp component us s) (nothing_taken us s) i)
      (cap_of caps s)
    where
      nothing_less : (n k : ℕ) → k ≡ 0 → n - k ≡ n
      nothing_less n k none = omega (arith, none)

  caps_left : (scale : ℕ) (us : List (UnitFlight P)) → left_caps cmp caps scale component us ≡ times_caps scale caps
  caps_left scale us = λ i. record {
    egress = λ p. all_left scale us (sent_by p) i;
    ingress = λ p. all_left scale us (received_by p) i;
    link = λ p q. all_left scale us (sent_between p q) i;
  }

  module _ (order : IsTotalOrder cmp) (of : AreOfPeers cmp caps) (scale : ℕ) (some : 0 < scale)
      (us : List (UnitFlight P)) (found : FairParts) (fair_on : AreFairOn cmp caps scale component us found)
      (now times : ℕ) where
    abbrev rates : List ℕ
    rates = rates_found found

    abbrev news : List (UnitFlight P)
    news = rerated cmp component now times rates us

    one_each : length rates ≡ length (those_of cmp component us)
    one_each = found_each cmp component caps scale us found fair_on.one_each

    reach : (rate : ℕ) → In rates rate → nat_le component.level rate ≡ true
    reach rate h = ap (λ n. nat_le n rate) level ∙ le-leb 0 rate (omega arith)

    flows : map (flow_for cmp) news ≡ flows_of cmp component us
    flows =
        ap (map (flow_for cmp)) (sym (all_of_whole cmp component whole level news))
        ∙ flows_again cmp component now times rates us one_each reach

    given : rates_of news ≡ rates
    given =
        ap rates_of (sym (all_of_whole cmp component whole level news))
        ∙ rates_again cmp component now times rates us one_each reach

    pub whole_fair : AreFairlyRated cmp caps (scale * found.scale) news
    whole_fair =
        let left = left_caps cmp caps scale component us in
        let own = of_left cmp order caps of scale component us in
        let shares_fair : AreShared cmp left flow_of parts_of found.scale (shares cmp news) =
        shared_from cmp left flow_of parts_of order own (shares cmp news) (slice_index rates) found.scale
        (stand_from cmp (slice_index rates) 0 news
        (λ i. ap (slice_index rates) (zero-add i) ∙ ap (λ rs. slice_index rs i) (sym given)))
        (subst (λ fs. IsFair (sides_under cmp left fs) found.scale (slice_index rates))
        (sym (flows_are cmp news ∙ flows)) fair_on.fair) in
        fair cmp order caps of (scale * found.scale) news
        (whole_shared cmp caps flow_of parts_of scale found.scale some (shares cmp news)
        (subst (λ cs. AreShared cmp cs flow_of parts_of found.scale (shares cmp news)) (caps_left scale us) shares_fair))

module _ {P : Type 0} (cmp : P → P → Ordering) (caps : Caps P) (component : Component P) (found : FairParts) where
  -- where something is left, so there is in smaller units
  pub left_given : (scale : ℕ) (us : List (UnitFlight P)) → AreFairOn cmp caps scale component us found
      → All (λ u. u.left ≢ 0) us → All (λ u. u.left * product found.growth.items ≢ 0) us
  left_given scale us fair_on left =
      All-from_contains (λ u. u.left * product found.growth.items ≢ 0) us (λ u listed none.
      no_part u.left (product found.growth.items) (All-contains (λ u. u.left ≢ 0) us u left listed) none
      (subst (λ n. 0 < n) fair_on.grown fair_on.fair.some_part))
    where
      no_part : (n times : ℕ) → n ≢ 0 → n * times ≡ 0 → 0 < times → ⊥
      no_part zero times some none grows = some refl
      no_part (suc n) times some none grows =
          let gone : times ≡ 0 = product_none (suc n) times (omega arith) none in omega (arith, grows, gone)

  pub whole_given : {a : _} {b : _} {c : _} (old new : Flights P a b c) → IsTotalOrder cmp → AreOfPeers cmp caps
      → 0 < old.scale → AreFairOn cmp caps old.scale component (in_units old) found
      → in_units new ≡ rerated cmp component old.at (product found.growth.items) (rates_found found) (in_units old)
      → new.scale ≡ old.scale * product found.growth.items → new.at ≡ old.at → AreTimed new.list.items
      → component.whole ≡ true → component.level ≡ 0 → HaveFairRates cmp caps old new
  whole_given old new order of some fair_on given scaled still timed whole level =
      let times = product found.growth.items in
      let each : AllZip (IsRatedFrom old.at times) (in_units old)
      (rerated cmp component old.at times (rates_found found) (in_units old)) =
      whole_rerated cmp component whole level old.at times (rates_found found) (in_units old)
      (found_each cmp component caps old.scale (in_units old) found fair_on.one_each) in
      let fairly : AreFairlyRated cmp caps (old.scale * times)
      (rerated cmp component old.at times (rates_found found) (in_units old)) =
      subst (λ n. AreFairlyRated cmp caps (old.scale * n)
      (rerated cmp component old.at times (rates_found found) (in_units old))) fair_on.grown
      (whole_fair cmp caps component whole level order of old.scale some (in_units old) found fair_on old.at times) in
      record {
        times = times;
        scale = scaled;
        at = still;
        each = subst (AllZip (IsRatedFrom old.at times) (in_units old)) (sym given) each;
        fair = rw (scaled, given) fairly;
        timed = timed;
      }

-- rates that are fair beside those that others keep are fair for all
module _ {P : Type 0} (cmp : P → P → Ordering) (caps : Caps P) (component : Component P) where
  pub beside_given : {a : _} {b : _} {c : _} (old new : Flights P a b c)
      → AreRatedBeside cmp caps component old new → IsTotalOrder cmp → AreOfPeers cmp caps
      → (done : List (Arc (code.Message P) Global)) → is_closed cmp component done (in_units old) ≡ true
      → All (λ m. has_both cmp component m ≡ true) old.loose
      → AreTied caps component
      → ∥ WereRated cmp caps old.scale (in_units old) (messages done) (loose_in old) old.floor ∥₁
      → IfSome old.floor (λ f. component.level ≤ f)
      → All (λ u. u.updated ≡ old.at) (in_units old) → HaveFairRates cmp caps old new
  beside_given old new r order of done closed loose tied were low updated =
      let us = in_units old in
      let reached = all_pass (λ rate. nat_le component.level rate) r.rates r.reach in
      let each : AllZip (IsRatedFrom old.at 1) us (rerated cmp component old.at 1 r.rates us) =
      component_rerated cmp component done us closed old.at 1 r.rates refl updated r.fair.one_each in
      let fairly : AreFairlyRated cmp caps old.scale (rerated cmp component old.at 1 r.rates us) =
      fair_if_so (capped_sides cmp caps (sent_messages (rerated cmp component old.at 1 r.rates us))) old.scale
      (slice_index (rates_of (rerated cmp component old.at 1 r.rates us)))
      (∥∥₁_map were (λ w.
      restart_fair cmp component done old.loose us closed loose order caps of old.scale old.floor w tied low old.at 1
      r.rates r.fair.one_each reached r.fair.fair)) in
      record {
        times = 1;
        scale = omega (arith, r.scale);
        at = r.at;
        each = subst (AllZip (IsRatedFrom old.at 1) us) (sym r.given) each;
        fair = rw (r.scale, r.given) fairly;
        timed = r.timed;
      }

module _ {P : Type 0} (cmp : P → P → Ordering) (caps : Caps P) where
  -- what follows changes none of it
  pub still_given : {a : _} {b : _} {c : _} (old new last : Flights P a b c) → last.list.items ≡ new.list.items
      → last.scale ≡ new.scale → last.at ≡ new.at → HaveFairRates cmp caps old new → HaveFairRates cmp caps old last
  still_given old new last list scale at h =
      let same : in_units last ≡ in_units new =
      ap (λ n. flights_at n last.list.items) at ∙ ap (flights_at new.at) list in
      record {
        times = h.times;
        scale = scale ∙ h.scale;
        at = at ∙ h.at;
        each = subst (AllZip (IsRatedFrom old.at h.times) (in_units old)) (sym same) h.each;
        fair = rw (scale, same) h.fair;
        timed = subst AreTimed (sym list) h.timed;
      }
