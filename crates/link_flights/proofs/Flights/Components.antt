-- Fair rates of a component, beside those that others keep.
use Rattle.link_flights.proofs.Common.{◌≡◌, ℕ, suc, ◌+◌, ◌*◌, ◌≤◌, Bool, true, false, cond, if◌then◌else◌, not, ◌&&◌}
use Rattle.link_flights.proofs.Common.{◌||◌, List, [], ◌∷◌, Option, Some, None, IfSome, All, map, length, sum_by, refl}
use Rattle.link_flights.proofs.Common.{◌⊎◌, sym, ap, ap₂, ◌∙◌, subst, inl, inr, arith, zero-add, slice_index, AllZip}
use Rattle.link_flights.proofs.Common.{filter, list_all, list_any, IsTotalOrder, Ordering, Arc, Global, false≢true}
use Rattle.link_flights.proofs.Common.{le-leb, eq_by_cmp_equiv, length-map, All-contains, sum_by-cons}
use Rattle.link_flights.proofs.Common.{All-from_contains, Flow, Caps, Subject, sent_by, received_by, sent_between}
use Rattle.link_flights.proofs.Common.{same_peer, Side, IsFair, AreOfPeers, cap_of, limits, sides_under, parts_of_level}
use Rattle.link_flights.proofs.Common.{In, in_map, from_map, in_filter, contains_from_in, in_from_contains, all_pass}
use Rattle.link_flights.proofs.Common.{AreShared, shared_from, Message, is_delivered, capped_sides, Component, messages}
use Rattle.link_flights.proofs.Common.{message_of, UnitFlight, is_sender, is_receiver, keeps, is_of, those_of, has_both}
use Rattle.link_flights.proofs.Common.{suits, is_closed, sent_messages, rates_of, rated_ones, rates_found, rerated}
use Rattle.link_flights.proofs.Common.{rated_anew, AreFairlyRated, WereRated, IsRatedFrom, IsNoMore, IsLoose}
use Rattle.link_flights.proofs.Common.{flow_in_flight, by_bool, first_of_both, second_of_both, same_peer_itself}
use Rattle.link_flights.proofs.Common.{FairParts, load, still_fair, Joined, AreTied, IsTied, joins, have_end, Origin, Recipient}
use Rattle.std.specs.Prelude.{nat_le}
use Rattle.fairness.specs.Fairness.Fair.{HasBottleneck}
use Rattle.fairness.proofs.Fairness.Sharing.{StandsAt, fair_from}
use Rattle.link_pairs.specs.declared.message.Message as code
use Rattle.link_flights.proofs.Flights.FairMessages.{StandsForMessage, same_sides}
use Rattle.link_flights.proofs.Flights.ComponentFlows.{is_of_whole}
use Rattle.link_flights.proofs.Flights.InFlight.{filter_yes, filter_no}

-- ---- parts that are the same

module _ (g h : ℕ → ℕ) (same : (i : ℕ) → g i ≡ h i) where
  same_sum : (users : List ℕ) → sum_by g users ≡ sum_by h users
  same_sum [] = refl
  same_sum (i ∷ users) = omega (arith, same i, same_sum users, sum_by-cons g i users, sum_by-cons h i users)

  same_load : (side : Side) → load g side ≡ load h side
  same_load side = same_sum side.users

  same_bottleneck : (sides : List Side) (per flow : ℕ) → HasBottleneck sides per g flow → HasBottleneck sides per h flow
  same_bottleneck sides per flow b = record {
    side = b.side;
    uses = b.uses;
    full = sym (same_load b.side) ∙ b.full;
    greatest = All-from_contains (λ other. h other ≤ h flow) b.side.users (λ other among.
        let most : g other ≤ g flow = All-contains (λ other. g other ≤ g flow) b.side.users other b.greatest among in
        omega (arith, most, same other, same flow));
  }

  pub fair_alike : (sides : List Side) (per : ℕ) → IsFair sides per g → IsFair sides per h
  fair_alike sides per f = record {
    some_part = f.some_part;
    within = All-from_contains (λ side. load h side ≤ side.cap * per) sides (λ side listed.
        let below : load g side ≤ side.cap * per =
        All-contains (λ side. load g side ≤ side.cap * per) sides side f.within listed in
        omega (arith, below, same_load side));
    held = λ flow limited. same_bottleneck sides per flow (f.held flow limited);
  }

-- ---- shares: flows with their parts

-- a flow and its parts
pub record Share (P : Type 0) : Type 0 where
  pub flow : Flow P
  pub parts : ℕ

abbrev pub flow_of : {P : Type 0} → Share P → Flow P
flow_of x = x.flow

abbrev pub parts_of : {P : Type 0} → Share P → ℕ
parts_of x = x.parts

module _ {P : Type 0} (cmp : P → P → Ordering) where
  -- the flow of a message in flight
  abbrev pub flow_for : UnitFlight P → Flow P
  flow_for u = record {
    id = 0;
    origin = u.message.origin;
    recipient = u.message.recipient;
    delivered = is_delivered cmp (message_of u.message);
  }

  abbrev pub share_of : UnitFlight P → Share P
  share_of u = record { flow = flow_for u; parts = u.rate }

  -- each with its rate
  abbrev pub shares : List (UnitFlight P) → List (Share P)
  shares us = map share_of us

  pub flows_are : (us : List (UnitFlight P)) → map flow_of (shares us) ≡ map flow_for us
  flows_are [] = refl
  flows_are (u ∷ us) = ap (λ (fs : List (Flow P)). flow_for u ∷ fs) (flows_are us)

  pub stand_from : (g : ℕ → ℕ) (place : ℕ) (us : List (UnitFlight P))
      → ((i : ℕ) → g (place + i) ≡ slice_index (rates_of us) i) → StandsAt flow_of parts_of g place (shares us)
  stand_from g place [] h = tt
  stand_from g place (u ∷ us) h = (ap g here ∙ h 0, stand_from g (place + 1) us (λ i. ap g (next i) ∙ h (suc i)))
    where
      here : place ≡ place + 0
      here = omega arith

      next : (i : ℕ) → place + 1 + i ≡ place + suc i
      next i = omega arith

  -- each flow stands for its message
  pub own : IsTotalOrder cmp → (us : List (UnitFlight P))
      → AllZip (StandsForMessage cmp) (map flow_for us) (sent_messages us)
  own order [] = tt
  own order (u ∷ us) = (
    record {
      origin = same_peer_itself cmp order u.message.origin;
      recipient = same_peer_itself cmp order u.message.recipient;
      delivered = refl;
    },
    own order us,
  )

  module _ (order : IsTotalOrder cmp) (caps : Caps P) (of : AreOfPeers cmp caps) (scale : ℕ) where
    abbrev pub AreFairShares : List (Share P) → Type 0
    AreFairShares xs = AreShared cmp caps flow_of parts_of scale xs

    -- from fairness on the sides of the messages, and back
    pub shared : (us : List (UnitFlight P)) → AreFairlyRated cmp caps scale us → AreFairShares (shares us)
    shared us f =
        let g : ℕ → ℕ = slice_index (rates_of us) in
        let sides = same_sides cmp order caps of (map flow_for us) (sent_messages us) (own order us) in
        let there : IsFair (sides_under cmp caps (map flow_for us)) scale g =
        still_fair (capped_sides cmp caps (sent_messages us)) (sides_under cmp caps (map flow_for us))
        (λ side. ((sides side).1, (sides side).0)) scale g f in
        shared_from cmp caps flow_of parts_of order of (shares us) g scale (stand_from g 0 us (λ i. ap g (zero-add i)))
        (subst (λ (fs : List (Flow P)). IsFair (sides_under cmp caps fs) scale g) (sym (flows_are us)) there)

    pub fair : (us : List (UnitFlight P)) → AreFairShares (shares us) → AreFairlyRated cmp caps scale us
    fair us f =
        let g : ℕ → ℕ = slice_index (rates_of us) in
        let there =
        fair_from cmp caps flow_of parts_of order of (shares us) g scale
        (stand_from g 0 us (λ i. ap g (zero-add i))) f in
        still_fair (sides_under cmp caps (map flow_for us)) (capped_sides cmp caps (sent_messages us))
        (same_sides cmp order caps of (map flow_for us) (sent_messages us) (own order us)) scale g
        (subst (λ (fs : List (Flow P)). IsFair (sides_under cmp caps fs) scale g) (flows_are us) there)

-- ---- lists

-- two tests that agree where a third passes
module _ {X : Type 0} (p q r : X → Bool) where
  either_way : (b : Bool) (x : X) (ys zs : List X) → filter p ys ≡ filter p zs
      → filter p (cond b (x ∷ ys) ys) ≡ filter p (cond b (x ∷ zs) zs)
  either_way true x ys zs e = ap (λ l. cond (p x) (x ∷ l) l) e
  either_way false x ys zs e = e

  dropped : (b : Bool) (x : X) (ys : List X) → p x ≡ false → filter p (cond b (x ∷ ys) ys) ≡ filter p ys
  dropped true x ys h = filter_no p x ys h
  dropped false x ys h = refl

  filters_agree : (xs : List X) → ((x : X) → In xs x → p x ≡ true → q x ≡ r x)
      → filter p (filter q xs) ≡ filter p (filter r xs)
  filters_agree [] h = refl
  filters_agree (x ∷ xs) h = by_test (p x) refl (filters_agree xs (λ y among. h y (inr among)))
    where
      by_test : (b : Bool) → p x ≡ b → filter p (filter q xs) ≡ filter p (filter r xs)
          → filter p (filter q (x ∷ xs)) ≡ filter p (filter r (x ∷ xs))
      by_test true is ih =
          either_way (q x) x (filter q xs) (filter r xs) ih
          ∙ ap (λ b. filter p (cond b (x ∷ filter r xs) (filter r xs))) (h x (inl refl) is)
      by_test false is ih = dropped (q x) x (filter q xs) is ∙ ih ∙ sym (dropped (r x) x (filter r xs) is)

-- ---- the component and the rest

pub not_twice : (b : Bool) → not (not b) ≡ b
not_twice true = refl
not_twice false = refl

module _ {P : Type 0} (cmp : P → P → Ordering) (component : Component P) where
  abbrev pub others_of : List (UnitFlight P) → List (UnitFlight P)
  others_of us = filter (λ u. not (is_of cmp component u)) us

  -- whether the flow with these parts is rated anew
  abbrev pub is_open : Share P → Bool
  is_open x = is_sender cmp component x.flow.origin x.flow.recipient && nat_le component.level x.parts

  -- that of a message in flight that has a rate tells whether it is of the component
  pub open_if_of : (u : UnitFlight P) → u.rated ≡ true → is_open (share_of cmp u) ≡ is_of cmp component u
  open_if_of u rated =
      ap (λ b. is_sender cmp component u.message.origin u.message.recipient && b)
      (sym (not_twice (nat_le component.level u.rate))
      ∙ ap (λ r. not (r && not (nat_le component.level u.rate))) (sym rated))

  -- one that has got no rate and goes from one of the senders is of it
  of_if_new : (u : UnitFlight P) → u.rated ≡ false → is_of cmp component u ≡ is_sender cmp component u.message.origin u.message.recipient
  of_if_new u new = ap (λ r. is_sender cmp component u.message.origin u.message.recipient && not (r && not (nat_le component.level u.rate)))
      new
      ∙ and_true (is_sender cmp component u.message.origin u.message.recipient)
    where
      and_true : (b : Bool) → (b && true) ≡ b
      and_true true = refl
      and_true false = refl

  -- one that is of it goes from one of the senders
  pub sender_of : (u : UnitFlight P) → is_of cmp component u ≡ true → is_sender cmp component u.message.origin u.message.recipient ≡ true
  sender_of u is = first_of_both (is_sender cmp component u.message.origin u.message.recipient) (not (keeps component u)) is

  -- and keeps no rate
  keeps_none : (u : UnitFlight P) → is_of cmp component u ≡ true → keeps component u ≡ false
  keeps_none u is =
      sym (not_twice (keeps component u))
      ∙ ap not (second_of_both (is_sender cmp component u.message.origin u.message.recipient) (not (keeps component u)) is)

  -- ---- at the rates that are given

  module _ (now times : ℕ) where
    abbrev pub again : List ℕ → List (UnitFlight P) → List (UnitFlight P)
    again rates us = rerated cmp component now times rates us

    abbrev anew : ℕ → UnitFlight P → UnitFlight P
    anew rate u = rated_anew now times rate u

    none_given : (us : List (UnitFlight P)) → again [] us ≡ us
    none_given [] = refl
    none_given (u ∷ us) = refl

    -- of the same messages
    pub same_messages : (rates : List ℕ) (us : List (UnitFlight P)) → sent_messages (again rates us) ≡ sent_messages us
    same_messages rates [] = refl
    same_messages [] (u ∷ us) = refl
    same_messages (rate ∷ rates) (u ∷ us) = by_test (is_of cmp component u) (λ rates. same_messages rates us)
      where
        by_test : (b : Bool) → ((rates : List ℕ) → sent_messages (again rates us) ≡ sent_messages us)
            → sent_messages (cond b (anew rate u ∷ again rates us) (u ∷ again (rate ∷ rates) us))
            ≡ sent_messages (u ∷ us)
        by_test true ih = ap (λ l. message_of u.message ∷ l) (ih rates)
        by_test false ih = ap (λ l. message_of u.message ∷ l) (ih (rate ∷ rates))

    -- what one comes from: the same message in flight, anew at one of the rates or as it was
    pub record ComesFrom (rates : List ℕ) (us : List (UnitFlight P)) (v : UnitFlight P) : Type 0 where
      pub u : UnitFlight P
      pub among : In us u
      pub message : v.message ≡ u.message
      pub given : is_of cmp component u ≡ true → (rate : ℕ) × In rates rate × (v ≡ anew rate u)
      pub as_it_was : is_of cmp component u ≡ false → v ≡ u

    later : (rates : List ℕ) (u : UnitFlight P) (us : List (UnitFlight P)) (v : UnitFlight P) → ComesFrom rates us v
        → ComesFrom rates (u ∷ us) v
    later rates u us v h = record {
      u = h.u;
      among = inr h.among;
      message = h.message;
      given = h.given;
      as_it_was = h.as_it_was;
    }

    more_rates : (rate : ℕ) (rates : List ℕ) (us : List (UnitFlight P)) (v : UnitFlight P) → ComesFrom rates us v
        → ComesFrom (rate ∷ rates) us v
    more_rates rate rates us v h = record {
      u = h.u;
      among = h.among;
      message = h.message;
      given = λ is. let r = h.given is in (r.0, inr r.1, r.2);
      as_it_was = h.as_it_was;
    }

    comes_anew : (rate : ℕ) (rates : List ℕ) (u : UnitFlight P) (us : List (UnitFlight P)) (v : UnitFlight P)
        → is_of cmp component u ≡ true → anew rate u ≡ v → ComesFrom (rate ∷ rates) (u ∷ us) v
    comes_anew rate rates u us v is e = record {
      u = u;
      among = inl refl;
      message = ap (λ (x : UnitFlight P). x.message) (sym e);
      given = λ of. (rate, inl refl, sym e);
      as_it_was = λ out. absurd (false≢true (sym out ∙ is));
    }

    comes_as_it_is : (rates : List ℕ) (u : UnitFlight P) (us : List (UnitFlight P)) (v : UnitFlight P)
        → is_of cmp component u ≡ false → u ≡ v → ComesFrom rates (u ∷ us) v
    comes_as_it_is rates u us v is e = record {
      u = u;
      among = inl refl;
      message = ap (λ (x : UnitFlight P). x.message) (sym e);
      given = λ of. absurd (false≢true (sym is ∙ of));
      as_it_was = λ out. sym e;
    }

    pub comes : (rates : List ℕ) (us : List (UnitFlight P)) → length rates ≡ length (those_of cmp component us)
        → (v : UnitFlight P) → In (again rates us) v → ComesFrom rates us v
    comes rates [] one_each v among = absurd among
    comes [] (u ∷ us) one_each v among = by_test (is_of cmp component u) refl among
        (λ one_each h. comes [] us one_each v (subst (λ l. In l v) (sym (none_given us)) h))
      where
        by_test : (b : Bool) → is_of cmp component u ≡ b → In (u ∷ us) v
            → (0 ≡ length (those_of cmp component us) → In us v → ComesFrom [] us v) → ComesFrom [] (u ∷ us) v
        by_test true is h ih = absurd (omega (arith, one_each, ap length (filter_yes (is_of cmp component) u us is)))
        by_test false is (inl e) ih = comes_as_it_is [] u us v is e
        by_test false is (inr h) ih =
            later [] u us v (ih (one_each ∙ ap length (filter_no (is_of cmp component) u us is)) h)
    comes (rate ∷ rates) (u ∷ us) one_each v among =
        by_test (is_of cmp component u) refl among (λ rates one_each h. comes rates us one_each v h)
      where
        by_test : (b : Bool) → is_of cmp component u ≡ b
            → In (cond b (anew rate u ∷ again rates us) (u ∷ again (rate ∷ rates) us)) v
            → ((rates : List ℕ) → length rates ≡ length (those_of cmp component us) → In (again rates us) v
            → ComesFrom rates us v)
            → ComesFrom (rate ∷ rates) (u ∷ us) v
        by_test true is (inl e) ih = comes_anew rate rates u us v is e
        by_test true is (inr h) ih =
            later (rate ∷ rates) u us v
            (more_rates rate rates us v
            (ih rates (omega (arith, one_each, ap length (filter_yes (is_of cmp component) u us is))) h))
        by_test false is (inl e) ih = comes_as_it_is (rate ∷ rates) u us v is e
        by_test false is (inr h) ih =
            later (rate ∷ rates) u us v
            (ih (rate ∷ rates) (one_each ∙ ap length (filter_no (is_of cmp component) u us is)) h)

    -- those of it are rated from now on, and so are the others
    rated_each : (rates : List ℕ) (us : List (UnitFlight P)) → length rates ≡ length (those_of cmp component us)
        → ((u : UnitFlight P) → In us u → is_of cmp component u ≡ false → IsRatedFrom now times u u)
        → AllZip (IsRatedFrom now times) us (again rates us)
    rated_each rates [] one_each others = tt
    rated_each [] (u ∷ us) one_each others = by_test (is_of cmp component u) refl
        (λ one_each. subst (AllZip (IsRatedFrom now times) us) (none_given us)
        (rated_each [] us one_each (λ v among. others v (inr among))))
      where
        by_test : (b : Bool) → is_of cmp component u ≡ b
            → (0 ≡ length (those_of cmp component us) → AllZip (IsRatedFrom now times) us us)
            → AllZip (IsRatedFrom now times) (u ∷ us) (u ∷ us)
        by_test true is ih = absurd (omega (arith, one_each, ap length (filter_yes (is_of cmp component) u us is)))
        by_test false is ih =
            (others u (inl refl) is, ih (one_each ∙ ap length (filter_no (is_of cmp component) u us is)))
    rated_each (rate ∷ rates) (u ∷ us) one_each others =
        by_test (is_of cmp component u) refl
        (λ rates one_each. rated_each rates us one_each (λ v among. others v (inr among)))
      where
        by_test : (b : Bool) → is_of cmp component u ≡ b
            → ((rates : List ℕ) → length rates ≡ length (those_of cmp component us)
            → AllZip (IsRatedFrom now times) us (again rates us))
            → AllZip (IsRatedFrom now times) (u ∷ us)
            (cond b (anew rate u ∷ again rates us) (u ∷ again (rate ∷ rates) us))
        by_test true is ih = (
          record { id = refl; message = refl; left = refl; updated = refl; rated = refl },
          ih rates (omega (arith, one_each, ap length (filter_yes (is_of cmp component) u us is))),
        )
        by_test false is ih =
            (others u (inl refl) is, ih (rate ∷ rates) (one_each ∙ ap length (filter_no (is_of cmp component) u us is)))

    -- where the rates reach the level, those of it are so afterwards, and the others are as they were
    module _ (still : (rate : ℕ) (u : UnitFlight P) → nat_le component.level rate ≡ true
        → is_of cmp component u ≡ true → is_of cmp component (anew rate u) ≡ true) where
      pub others_kept : (rates : List ℕ) (us : List (UnitFlight P))
          → ((rate : ℕ) → In rates rate → nat_le component.level rate ≡ true)
          → others_of (again rates us) ≡ others_of us
      others_kept rates [] reach = refl
      others_kept [] (u ∷ us) reach = refl
      others_kept (rate ∷ rates) (u ∷ us) reach =
          by_test (is_of cmp component u) refl (λ rates reach. others_kept rates us reach)
        where
          by_test : (b : Bool) → is_of cmp component u ≡ b
              → ((rates : List ℕ) → ((rate : ℕ) → In rates rate → nat_le component.level rate ≡ true)
              → others_of (again rates us) ≡ others_of us)
              → others_of (cond b (anew rate u ∷ again rates us) (u ∷ again (rate ∷ rates) us)) ≡ others_of (u ∷ us)
          by_test true is ih =
              filter_no (λ v. not (is_of cmp component v)) (anew rate u) (again rates us)
              (ap not (still rate u (reach rate (inl refl)) is))
              ∙ ih rates (λ r h. reach r (inr h))
              ∙ sym (filter_no (λ v. not (is_of cmp component v)) u us (ap not is))
          by_test false is ih =
              filter_yes (λ v. not (is_of cmp component v)) u (again (rate ∷ rates) us) (ap not is)
              ∙ ap (λ l. u ∷ l) (ih (rate ∷ rates) reach)
              ∙ sym (filter_yes (λ v. not (is_of cmp component v)) u us (ap not is))

    pub still_of : (rate : ℕ) (u : UnitFlight P) → nat_le component.level rate ≡ true
        → is_of cmp component u ≡ true → is_of cmp component (anew rate u) ≡ true
    still_of rate u at_least is =
        sym (open_if_of (anew rate u) refl)
        ∙ ap₂ (λ a b. a && b) (sender_of u is) at_least

  -- one rate is found for each of them
  pub found_each : (caps : Caps P) (scale : ℕ) (us : List (UnitFlight P)) (found : FairParts)
      → length found.level_of.items ≡ length (those_of cmp component us)
      → length (rates_found found) ≡ length (those_of cmp component us)
  found_each caps scale us found one_each =
      length-map found.level_of.items (parts_of_level found.levels.items) ∙ one_each

  -- ---- all of them

  module _ (whole : component.whole ≡ true) (level : component.level ≡ 0) where
    pub whole_rerated : (now times : ℕ) (rates : List ℕ) (us : List (UnitFlight P))
        → length rates ≡ length (those_of cmp component us)
        → AllZip (IsRatedFrom now times) us (rerated cmp component now times rates us)
    whole_rerated now times rates us one_each =
        rated_each now times rates us one_each (λ u among out. absurd (false≢true (sym out ∙ is_of_whole cmp component whole level u)))

  -- ---- what closedness says

  -- tests that answer the same for each that has joined
  any_alike : {X : Type 0} (f g : X → Bool) (xs : List X) → ((x : X) → In xs x → f x ≡ g x)
      → list_any f xs ≡ list_any g xs
  any_alike f g [] all = refl
  any_alike f g (x ∷ xs) all = ap₂ (λ a b. a || b) (all x (inl refl)) (any_alike f g xs (λ y h. all y (inr h)))

  -- both ends are in it or neither
  abbrev HasBothOrNone : Flow P → Type 0
  HasBothOrNone f = is_sender cmp component f.origin f.recipient ≡ is_receiver cmp component f.origin f.recipient

  -- an end that is there, where that is how others are joined, or where another is
  and_alike : (s h x y : Bool) → (s ≡ true → h ≡ true) → (s && (h || x)) ≡ (s && (h || y))
  and_alike false h x y via = refl
  and_alike true h x y via = ap (λ b. b || x) (via refl) ∙ sym (ap (λ b. b || y) (via refl))

  module _ (order : IsTotalOrder cmp) where
    -- what goes between the same peers has the same ends in it
    same_pair : (p q r s : P) → same_peer cmp p r ≡ true → same_peer cmp q s ≡ true
        → is_sender cmp component p q ≡ is_sender cmp component r s
    same_pair p q r s e f =
        let laws = eq_by_cmp_equiv order in
        ap (λ b. component.whole || b) (any_alike (λ j. joins cmp j Origin p q) (λ j. joins cmp j Origin r s)
        component.joined.items (λ j h. ap₂ (λ a b. a && (have_end j.ends Origin || b))
        (laws.congr p r j.message.value.origin e) (laws.congr q s j.message.value.recipient f)))

    module _ (caps : Caps P) (of : AreOfPeers cmp caps) (tied : AreTied caps component) where
      tied_one : (j : Joined P) → In component.joined.items j → IsTied caps j
      tied_one j h = All-contains (IsTied caps) component.joined.items j tied (contains_from_in component.joined.items j h)

      -- where a cap holds for all that a peer sends, the end there is in it for all that the peer sends, or for none
      same_sender : (p q r s : P) (cap : ℕ) → caps.egress p ≡ Some cap → same_peer cmp p r ≡ true
          → is_sender cmp component p q ≡ is_sender cmp component r s
      same_sender p q r s cap has e =
          ap (λ b. component.whole || b) (any_alike (λ j. joins cmp j Origin p q) (λ j. joins cmp j Origin r s)
          component.joined.items (λ j h.
          let m = j.message.value in
          and_alike (same_peer cmp p m.origin) (have_end j.ends Origin) (same_peer cmp q m.recipient)
          (same_peer cmp s m.recipient) (λ is. (tied_one j h).0 cap (sym (of.egress p m.origin is) ∙ has))
          ∙ ap (λ b. b && (have_end j.ends Origin || same_peer cmp s m.recipient))
          ((eq_by_cmp_equiv order).congr p r m.origin e)))

      -- and so for all that a peer receives
      same_receiver : (p q r s : P) (cap : ℕ) → caps.ingress q ≡ Some cap → same_peer cmp q s ≡ true
          → is_receiver cmp component p q ≡ is_receiver cmp component r s
      same_receiver p q r s cap has e =
          ap (λ b. component.whole || b) (any_alike (λ j. joins cmp j Recipient p q) (λ j. joins cmp j Recipient r s)
          component.joined.items (λ j h.
          let m = j.message.value in
          and_alike (same_peer cmp q m.recipient) (have_end j.ends Recipient) (same_peer cmp p m.origin)
          (same_peer cmp r m.origin) (λ is. (tied_one j h).1 cap (sym (of.ingress q m.recipient is) ∙ has))
          ∙ ap (λ b. b && (have_end j.ends Recipient || same_peer cmp r m.origin))
          ((eq_by_cmp_equiv order).congr q s m.recipient e)))

      -- two flows that a side limits are both of it or both not
      pub apart : (s : Subject P) (cap : ℕ) → cap_of caps s ≡ Some cap → (f g : Flow P) → HasBothOrNone f
          → HasBothOrNone g → limits cmp s f ≡ true → limits cmp s g ≡ true
          → is_sender cmp component f.origin f.recipient ≡ is_sender cmp component g.origin g.recipient
      apart (sent_by p) cap has f g at_f at_g lf lg =
          sym (same_sender p f.recipient f.origin f.recipient cap has lf)
          ∙ same_sender p f.recipient g.origin g.recipient cap has lg
      apart (received_by p) cap has f g at_f at_g lf lg =
          at_f
          ∙ sym (same_receiver f.origin p f.origin f.recipient cap has
          (second_of_both f.delivered (same_peer cmp p f.recipient) lf))
          ∙ same_receiver f.origin p g.origin g.recipient cap has
          (second_of_both g.delivered (same_peer cmp p g.recipient) lg)
          ∙ sym at_g
      apart (sent_between p q) cap has f g at_f at_g lf lg =
          sym (same_pair p q f.origin f.recipient (first_of_both (same_peer cmp p f.origin) _ lf)
          (second_of_both (same_peer cmp p f.origin) _ lf))
          ∙ same_pair p q g.origin g.recipient (first_of_both (same_peer cmp p g.origin) _ lg)
          (second_of_both (same_peer cmp p g.origin) _ lg)

  module _ (done : List (Arc (code.Message P) Global)) (us : List (UnitFlight P))
      (closed : is_closed cmp component done us ≡ true) where
    suits_one : (u : UnitFlight P) → In us u → suits cmp component u ≡ true
    suits_one u h = all_pass (suits cmp component) us (second_of_both _ (list_all (suits cmp component) us) closed) u h

    -- one that is of it has both ends in it
    pub both_of : (u : UnitFlight P) → In us u → is_of cmp component u ≡ true
        → (is_sender cmp component u.message.origin u.message.recipient ≡ true) × (is_receiver cmp component u.message.origin u.message.recipient ≡ true)
    both_of u h is = (
      sender_of u is,
      given (keeps component u) (is_sender cmp component u.message.origin u.message.recipient)
          (is_receiver cmp component u.message.origin u.message.recipient) u.rated (keeps_none u is) (sender_of u is) (suits_one u h),
    )
      where
        given : (k a r t : Bool) → k ≡ false → a ≡ true
            → (k || (if a || r then a && r else t)) ≡ true → r ≡ true
        given k a r t no_keep sends h =
            subst (λ b. (if b || r then b && r else t) ≡ true → r ≡ true) (sym sends) (λ e. e)
            (subst (λ b. (b || (if a || r then a && r else t)) ≡ true) no_keep h)

    -- one that is not of it has got a rate
    pub rated_outside : (u : UnitFlight P) → In us u → is_of cmp component u ≡ false → u.rated ≡ true
    rated_outside u h out =
        by_bool u.rated (λ e. e) (λ new.
        given u.rated (nat_le component.level u.rate) (is_sender cmp component u.message.origin u.message.recipient)
        (is_receiver cmp component u.message.origin u.message.recipient) new (sym (of_if_new u new) ∙ out) (suits_one u h))
      where
        given : (t n a r : Bool) → t ≡ false → a ≡ false
            → ((t && not n) || (if a || r then a && r else t)) ≡ true → t ≡ true
        given true n a r new no_sender h = refl
        given false n true r new no_sender h = cc
        given false n false true new no_sender h = cc
        given false n false false new no_sender h = h

    -- one that has a rate at the level or above, and is not of it, has no end in it
    pub none_outside : (u : UnitFlight P) → In us u → is_of cmp component u ≡ false
        → nat_le component.level u.rate ≡ true
        → (is_sender cmp component u.message.origin u.message.recipient ≡ false) × (is_receiver cmp component u.message.origin u.message.recipient ≡ false)
    none_outside u h out high =
        given u.rated (nat_le component.level u.rate) (is_sender cmp component u.message.origin u.message.recipient)
        (is_receiver cmp component u.message.origin u.message.recipient) high out (suits_one u h)
      where
        given : (t n a r : Bool) → n ≡ true → (a && not (t && not n)) ≡ false
            → ((t && not n) || (if a || r then a && r else t)) ≡ true → (a ≡ false) × (r ≡ false)
        given t false a r high out h = absurd (false≢true high)
        given true true true r high out h = cc
        given true true false true high out h = cc
        given true true false false high out h = (refl, refl)
        given false true true r high out h = cc
        given false true false true high out h = cc
        given false true false false high out h = (refl, refl)

    -- at the same scale each has its rate from now on
    pub component_rerated : (now times : ℕ) (rates : List ℕ) → times ≡ 1 → All (λ u. u.updated ≡ now) us
        → length rates ≡ length (those_of cmp component us)
        → AllZip (IsRatedFrom now times) us (rerated cmp component now times rates us)
    component_rerated now times rates one updated one_each =
        rated_each now times rates us one_each (λ u among out. record {
          id = refl;
          message = refl;
          left = as_much u.left;
          updated = All-contains (λ u. u.updated ≡ now) us u updated (contains_from_in us u among);
          rated = rated_outside u among out;
        })
      where
        as_much : (n : ℕ) → n ≡ n * times
        as_much n = let same : n ≡ n * 1 = omega arith in same ∙ ap (λ m. n * m) (sym one)

    module _ (caps : Caps P) (scale : ℕ) (floor : Option ℕ) (loose : List (code.Message P))
        (all_loose : All (λ m. has_both cmp component m ≡ true) loose)
        (were : WereRated cmp caps scale us (messages done) (map (λ m. message_of m) loose) floor)
        (low : IfSome floor (λ f. component.level ≤ f)) where
      -- it has both ends of one whose message it has both ends of
      ends_of_message : (u : UnitFlight P) (m : code.Message P) → message_of m ≡ message_of u.message
          → has_both cmp component m ≡ true
          → (is_sender cmp component u.message.origin u.message.recipient ≡ true) × (is_receiver cmp component u.message.origin u.message.recipient ≡ true)
      ends_of_message u m is has =
          let two =
          subst
          (λ (n : Message P). (is_sender cmp component n.origin n.recipient && is_receiver cmp component n.origin n.recipient) ≡ true)
          is has in (
            first_of_both (is_sender cmp component u.message.origin u.message.recipient) _ two,
            second_of_both (is_sender cmp component u.message.origin u.message.recipient) _ two,
          )

      -- what is done has both ends in it
      both_ends : (u : UnitFlight P) → In were.before u → were.is_done u ≡ true
          → (is_sender cmp component u.message.origin u.message.recipient ≡ true) × (is_receiver cmp component u.message.origin u.message.recipient ≡ true)
      both_ends u h is =
          let there : In (messages done) (message_of u.message) =
          subst (λ (ms : List (Message P)). In ms (message_of u.message)) (sym were.parted.left)
          (in_map (λ (v : UnitFlight P). message_of v.message) (filter were.is_done were.before) u
          (in_filter were.is_done were.before u h is)) in
          let m = from_map (λ (m : Arc (code.Message P) Global). message_of m.value) done (message_of u.message) there in
          ends_of_message u m.0.value m.2
          (all_pass (λ (m : Arc (code.Message P) Global). has_both cmp component m.value) done
          (first_of_both _ (list_all (suits cmp component) us) closed) m.0 m.1)

      -- one whose sender it has is of it, where it has no less than the floor
      of_above : (u : UnitFlight P) → is_sender cmp component u.message.origin u.message.recipient ≡ true
          → (u.rated ≡ true → IsNoMore floor u.rate) → is_of cmp component u ≡ true
      of_above u sends above = by_bool u.rated
          (λ rated.
          sym (open_if_of u rated) ∙ ap₂ (λ a b. a && b) sends
          (le-leb component.level u.rate (below floor low (above rated))))
          (λ new. of_if_new u new ∙ sends)
        where
          below : (floor : Option ℕ) → IfSome floor (λ f. component.level ≤ f) → IsNoMore floor u.rate
              → component.level ≤ u.rate
          below None low no_more = absurd no_more
          below (Some f) low no_more = omega (arith, low, no_more)

      -- what is done is of it
      done_of : (u : UnitFlight P) → In were.before u → were.is_done u ≡ true → is_of cmp component u ≡ true
      done_of u h is =
          of_above u (both_ends u h is).0 (λ rated. were.no_less u (contains_from_in were.before u h) is rated)

      -- and so is what is loose
      loose_of : (u : UnitFlight P) → IsLoose (map (λ m. message_of m) loose) floor u → is_of cmp component u ≡ true
      loose_of u (listed, above) =
          let m = from_map (λ (m : code.Message P). message_of m) loose (message_of u.message)
          (in_from_contains (map (λ m. message_of m) loose) (message_of u.message) listed) in
          of_above u
          (ends_of_message u m.0 m.2
          (All-contains (λ m. has_both cmp component m ≡ true) loose m.0 all_loose (contains_from_in loose m.0 m.1))).0
          (λ rated. above)

      stayed : (u : UnitFlight P) → In were.before u → were.is_done u ≡ false → In us u
      stayed u h is =
          subst (λ (l : List (UnitFlight P)). In l u) (sym were.parted.stay)
          (in_filter (λ v. not (were.is_done v)) were.before u h (ap not is))

      -- one that is of it had both ends in it
      pub both_before : (u : UnitFlight P) → In were.before u → is_of cmp component u ≡ true
          → (is_sender cmp component u.message.origin u.message.recipient ≡ true) × (is_receiver cmp component u.message.origin u.message.recipient ≡ true)
      both_before u h is =
          by_bool (were.is_done u) (λ out. both_ends u h out) (λ stays. both_of u (stayed u h stays) is)

      -- where the caps differ, all that a side limited which had got rates is of it
      pub differ_of : (s : Subject P) → (cap_of were.was s ≡ cap_of caps s)
          ⊎ ((u : UnitFlight P) → In were.before u → u.rated ≡ true → limits cmp s (flow_in_flight cmp u) ≡ true
          → is_of cmp component u ≡ true)
      differ_of s = elim (were.differ s) [
        | inl same ↦ inl same
        | inr all ↦ inr (λ u h rated l.
            by_bool (were.is_done u) (λ is. done_of u h is)
            (λ stays. loose_of u (all u (contains_from_in us u (stayed u h stays)) rated l)))
      ]

      -- one that is not of it had a rate, and is not done
      kept_before : (u : UnitFlight P) → In were.before u → not (is_of cmp component u) ≡ true
          → u.rated ≡ not (were.is_done u)
      kept_before u h out = by_test (were.is_done u) refl
        where
          not_of : is_of cmp component u ≡ false
          not_of = sym (not_twice (is_of cmp component u)) ∙ ap not out

          by_test : (b : Bool) → were.is_done u ≡ b → u.rated ≡ not (were.is_done u)
          by_test true is = absurd (false≢true (sym not_of ∙ done_of u h is))
          by_test false is = rated_outside u (stayed u h is) not_of ∙ sym (ap not is)

      -- the others are those that had a rate before
      pub others_stay : others_of (rated_ones were.before) ≡ others_of us
      others_stay =
          filters_agree (λ u. not (is_of cmp component u)) (λ (u : UnitFlight P). u.rated) (λ u. not (were.is_done u))
          were.before kept_before
          ∙ ap others_of (sym were.parted.stay)
