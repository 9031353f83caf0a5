-- Filling goes on from a level: the fair rates of a component, under what others that keep theirs leave of the caps, are
-- fair for all.
use Rattle.link_flights.proofs.Common.{◌≡◌, ℕ, ◌+◌, ◌-◌, ◌*◌, ◌≤◌, Bool, true, false, cond, not, ◌⊎◌, List, [], ◌∷◌}
use Rattle.link_flights.proofs.Common.{All, Option, Some, None, IfSome, map, length, refl, sym, ap, ◌∙◌, subst, inl}
use Rattle.link_flights.proofs.Common.{inr, sum_by, option_map, arith, zero-add, slice_index, filter, IsTotalOrder}
use Rattle.link_flights.proofs.Common.{Ordering, Arc, Global, false≢true, le-leb, leb-true, nil_from_length}
use Rattle.link_flights.proofs.Common.{sum_by-cons, IsFair, AreOfPeers, limits, cap_of, sides_under, Caps, Subject}
use Rattle.link_flights.proofs.Common.{Flow, AreShared, shared_from, by_bool, second_of_both, In, from_map, from_filter}
use Rattle.link_flights.proofs.Common.{in_filter, Component, messages, message_of, UnitFlight, is_sender, is_receiver}
use Rattle.link_flights.proofs.Common.{is_of, those_of, has_both, is_closed, rates_of, rated_ones, rerated, rated_anew}
use Rattle.link_flights.proofs.Common.{AreFairlyRated, WereRated, kept_load, left_caps, flows_of, total, AreTied}
use Rattle.std.specs.Prelude.{nat_le}
use Rattle.fairness.proofs.Fairness.Sharing.{total-cons}
use Rattle.fairness.proofs.Fairness.SharedBeside.{AreSharedBeside, beside_shared, beside_left}
use Rattle.link_pairs.specs.declared.message.Message as code
use Rattle.link_flights.proofs.Flights.AllSides.{of_left, cap_left}
use Rattle.link_flights.proofs.Flights.InFlight.{filter_yes, filter_no, read_filter}
use Rattle.link_flights.proofs.Flights.Components.{Share, flow_of, parts_of, flow_for, share_of, shares, flows_are}
use Rattle.link_flights.proofs.Flights.Components.{stand_from, AreFairShares, shared, fair}
use Rattle.link_flights.proofs.Flights.Components.{others_of, is_open, open_if_of}
use Rattle.link_flights.proofs.Flights.Components.{comes, others_kept, still_of, apart, both_of, rated_outside}
use Rattle.link_flights.proofs.Flights.Components.{none_outside, both_before, others_stay, differ_of}
use Rattle.link_flights.proofs.Flights.ChangedCaps.{kept_alone, not_not}

-- ---- lists

filter_alike : {X : Type 0} (p q : X → Bool) (xs : List X) → ((x : X) → In xs x → p x ≡ q x)
    → filter p xs ≡ filter q xs
filter_alike p q [] h = refl
filter_alike p q (x ∷ xs) h =
    ap (λ b. cond b (x ∷ filter p xs) (filter p xs)) (h x (inl refl))
    ∙ ap (λ l. cond (q x) (x ∷ l) l) (filter_alike p q xs (λ y among. h y (inr among)))

filter_twice : {X : Type 0} (p : X → Bool) (xs : List X) → filter p (filter p xs) ≡ filter p xs
filter_twice p [] = refl
filter_twice p (x ∷ xs) = by_test (p x) refl (filter_twice p xs)
  where
    by_test : (b : Bool) → p x ≡ b → filter p (filter p xs) ≡ filter p xs
        → filter p (cond b (x ∷ filter p xs) (filter p xs)) ≡ cond b (x ∷ filter p xs) (filter p xs)
    by_test true is ih = filter_yes p x (filter p xs) is ∙ ap (λ l. x ∷ l) ih
    by_test false is ih = ih

-- ---- those that are rated anew

module _ {P : Type 0} (cmp : P → P → Ordering) (caps : Caps P) where
  -- what messages in flight take of what a subject limits
  total_read : (s : Subject P) (us : List (UnitFlight P))
      → total cmp caps flow_of parts_of s (shares cmp us)
      ≡ sum_by (λ u. cond (limits cmp s (flow_for cmp u)) u.rate 0) us
  total_read s [] = refl
  total_read s (u ∷ us) =
      total-cons cmp caps flow_of parts_of s (share_of cmp u) (shares cmp us)
      ∙ ap (λ n. cond (limits cmp s (flow_for cmp u)) u.rate 0 + n) (total_read s us)
      ∙ sym (sum_by-cons (λ (v : UnitFlight P). cond (limits cmp s (flow_for cmp v)) v.rate 0) u us)

module _ {P : Type 0} (cmp : P → P → Ordering) (component : Component P) where
  module _ (now times : ℕ) where
    abbrev again : List ℕ → List (UnitFlight P) → List (UnitFlight P)
    again rates us = rerated cmp component now times rates us

    none_again : (us : List (UnitFlight P)) → again [] us ≡ us
    none_again [] = refl
    none_again (u ∷ us) = refl

    -- those that are rated anew have the rates, in their order
    record AreAgain (rates : List ℕ) (us : List (UnitFlight P)) : Type 0 where
      flows : map (flow_for cmp) (those_of cmp component (again rates us)) ≡ flows_of cmp component us
      given : rates_of (those_of cmp component (again rates us)) ≡ rates

    are_again : (rates : List ℕ) (us : List (UnitFlight P)) → length rates ≡ length (those_of cmp component us)
        → ((rate : ℕ) → In rates rate → nat_le component.level rate ≡ true) → AreAgain rates us
    are_again [] us one_each reach = record {
      flows = ap (λ vs. map (flow_for cmp) (those_of cmp component vs)) (none_again us);
      given = ap rates_of
          (ap (those_of cmp component) (none_again us) ∙ nil_from_length (those_of cmp component us) (sym one_each));
    }
    are_again (rate ∷ rates) [] one_each reach = absurd (omega (arith, one_each))
    are_again (rate ∷ rates) (u ∷ us) one_each reach =
        by_test (is_of cmp component u) refl
        (λ e r. are_again rates us e r) (λ e. are_again (rate ∷ rates) us e reach)
      where
        by_test : (b : Bool) → is_of cmp component u ≡ b
            → (length rates ≡ length (those_of cmp component us)
            → ((other : ℕ) → In rates other → nat_le component.level other ≡ true) → AreAgain rates us)
            → (length (rate ∷ rates) ≡ length (those_of cmp component us) → AreAgain (rate ∷ rates) us)
            → AreAgain (rate ∷ rates) (u ∷ us)
        by_test true is ih other =
            let v : UnitFlight P = rated_anew now times rate u in
            let later = ih (omega (arith, one_each, ap length (filter_yes (is_of cmp component) u us is)))
            (λ r h. reach r (inr h)) in
            let of : is_of cmp component v ≡ true = still_of cmp component now times rate u (reach rate (inl refl)) is in
            let all : those_of cmp component (again (rate ∷ rates) (u ∷ us)) ≡ v ∷ those_of cmp component (again rates us) =
            ap (λ b. those_of cmp component (cond b (v ∷ again rates us) (u ∷ again (rate ∷ rates) us))) is
            ∙ filter_yes (is_of cmp component) v (again rates us) of in
            record {
              flows = ap (map (flow_for cmp)) all ∙ ap (λ fs. flow_for cmp u ∷ fs) later.flows
                  ∙ sym (ap (map (flow_for cmp)) (filter_yes (is_of cmp component) u us is));
              given = ap rates_of all ∙ ap (λ rs. rate ∷ rs) later.given;
            }
        by_test false is ih other =
            let later = other (one_each ∙ ap length (filter_no (is_of cmp component) u us is)) in
            let all : those_of cmp component (again (rate ∷ rates) (u ∷ us))
            ≡ those_of cmp component (again (rate ∷ rates) us) =
            ap (λ b. those_of cmp component
            (cond b (rated_anew now times rate u ∷ again rates us) (u ∷ again (rate ∷ rates) us))) is
            ∙ filter_no (is_of cmp component) u (again (rate ∷ rates) us) is in
            record {
              flows = ap (map (flow_for cmp)) all ∙ later.flows
                  ∙ sym (ap (map (flow_for cmp)) (filter_no (is_of cmp component) u us is));
              given = ap rates_of all ∙ later.given;
            }

    pub flows_again : (rates : List ℕ) (us : List (UnitFlight P)) → length rates ≡ length (those_of cmp component us)
        → ((rate : ℕ) → In rates rate → nat_le component.level rate ≡ true)
        → map (flow_for cmp) (those_of cmp component (again rates us)) ≡ flows_of cmp component us
    flows_again rates us one_each reach = (are_again rates us one_each reach).flows

    pub rates_again : (rates : List ℕ) (us : List (UnitFlight P)) → length rates ≡ length (those_of cmp component us)
        → ((rate : ℕ) → In rates rate → nat_le component.level rate ≡ true)
        → rates_of (those_of cmp component (again rates us)) ≡ rates
    rates_again rates us one_each reach = (are_again rates us one_each reach).given

  -- ---- the restart

  module _ (done : List (Arc (code.Message P) Global)) (loose : List (code.Message P)) (us : List (UnitFlight P))
      (closed : is_closed cmp component done us ≡ true) (all_loose : All (λ m. has_both cmp component m ≡ true) loose)
      (order : IsTotalOrder cmp) (caps : Caps P) (of : AreOfPeers cmp caps) (scale : ℕ) (floor : Option ℕ)
      (were : WereRated cmp caps scale us (messages done) (map (λ m. message_of m) loose) floor)
      (tied : AreTied caps component)
      (low : IfSome floor (λ f. component.level ≤ f)) (now times : ℕ) (rates : List ℕ)
      (one_each : length rates ≡ length (those_of cmp component us))
      (reach : (rate : ℕ) → In rates rate → nat_le component.level rate ≡ true) where
    abbrev news : List (UnitFlight P)
    news = rerated cmp component now times rates us

    abbrev olds : List (UnitFlight P)
    olds = rated_ones were.before

    abbrev rated : Share P → Bool
    rated x = is_open cmp component x

    abbrev total_of : Subject P → List (Share P) → ℕ
    total_of s xs = total cmp caps flow_of parts_of s xs

    -- each has a rate now
    now_rated : (v : UnitFlight P) → In news v → v.rated ≡ true
    now_rated v h =
        let c = comes cmp component now times rates us one_each v h in
        by_bool (is_of cmp component c.u)
        (λ is. let g = c.given is in ap (λ (w : UnitFlight P). w.rated) g.2)
        (λ out. ap (λ (w : UnitFlight P). w.rated) (c.as_it_was out)
        ∙ rated_outside cmp component done us closed c.u c.among out)

    -- it is of it now just where it was
    of_now : (v : UnitFlight P) (h : In news v)
        → is_of cmp component v ≡ is_of cmp component (comes cmp component now times rates us one_each v h).u
    of_now v h =
        let c = comes cmp component now times rates us one_each v h in
        by_bool (is_of cmp component c.u)
        (λ is. let g = c.given is in
        ap (is_of cmp component) g.2 ∙ still_of cmp component now times g.0 c.u (reach g.0 g.1) is ∙ sym is)
        (λ out. ap (is_of cmp component) (c.as_it_was out))

    -- then it has both ends in it
    both_now : (v : UnitFlight P) → In news v → is_of cmp component v ≡ true
        → (is_sender cmp component v.message.origin v.message.recipient ≡ true) × (is_receiver cmp component v.message.origin v.message.recipient ≡ true)
    both_now v h is =
        let c = comes cmp component now times rates us one_each v h in
        subst
        (λ (m : code.Message P). (is_sender cmp component m.origin m.recipient ≡ true)
        × (is_receiver cmp component m.origin m.recipient ≡ true))
        (sym c.message) (both_of cmp component done us closed c.u c.among (sym (of_now v h) ∙ is))

    -- one that keeps a rate at the level or above has no end in it
    none_now : (v : UnitFlight P) → In news v → is_of cmp component v ≡ false → component.level ≤ v.rate
        → (is_sender cmp component v.message.origin v.message.recipient ≡ false) × (is_receiver cmp component v.message.origin v.message.recipient ≡ false)
    none_now v h out high =
        let c = comes cmp component now times rates us one_each v h in
        let was : is_of cmp component c.u ≡ false = sym (of_now v h) ∙ out in
        let same : v ≡ c.u = c.as_it_was was in
        subst
        (λ (w : UnitFlight P). (is_sender cmp component w.message.origin w.message.recipient ≡ false)
        × (is_receiver cmp component w.message.origin w.message.recipient ≡ false))
        (sym same)
        (none_outside cmp component done us closed c.u c.among was
        (ap (λ (w : UnitFlight P). nat_le component.level w.rate) (sym same) ∙ le-leb component.level v.rate high))

    -- whose share it is
    whose : (vs : List (UnitFlight P)) (x : Share P) → In (shares cmp vs) x
        → (v : UnitFlight P) × In vs v × (share_of cmp v ≡ x)
    whose vs x h = from_map (share_of cmp) vs x h

    old_rated : (v : UnitFlight P) → In olds v → In were.before v × (v.rated ≡ true)
    old_rated v h = from_filter (λ (u : UnitFlight P). u.rated) were.before v h

    -- the shares of those that are not of it
    keep_of : (vs : List (UnitFlight P)) → ((v : UnitFlight P) → In vs v → v.rated ≡ true)
        → filter (λ x. not (rated x)) (shares cmp vs) ≡ shares cmp (others_of cmp component vs)
    keep_of vs all =
        read_filter (share_of cmp) (λ x. not (rated x)) vs
        ∙ ap (shares cmp)
        (filter_alike (λ v. not (rated (share_of cmp v))) (λ v. not (is_of cmp component v)) vs
        (λ v h. ap not (open_if_of cmp component v (all v h))))

    same_kept : filter (λ x. not (rated x)) (shares cmp olds) ≡ filter (λ x. not (rated x)) (shares cmp news)
    same_kept =
        keep_of olds (λ v h. (old_rated v h).1)
        ∙ ap (shares cmp)
        (others_stay cmp component done us closed caps scale floor loose all_loose were low
        ∙ sym
        (others_kept cmp component now times (λ rate u at_least is. still_of cmp component now times rate u at_least is)
        rates us reach))
        ∙ sym (keep_of news now_rated)

    -- both ends of one that is rated anew, now and before
    both_of_share : (x : Share P) → In (shares cmp news) x → rated x ≡ true
        → (is_sender cmp component x.flow.origin x.flow.recipient ≡ true) × (is_receiver cmp component x.flow.origin x.flow.recipient ≡ true)
    both_of_share x h on =
        let w = whose news x h in
        subst
        (λ (y : Share P). (is_sender cmp component y.flow.origin y.flow.recipient ≡ true)
        × (is_receiver cmp component y.flow.origin y.flow.recipient ≡ true))
        w.2
        (both_now w.0 w.1
        (sym (open_if_of cmp component w.0 (now_rated w.0 w.1)) ∙ ap rated w.2 ∙ on))

    both_of_old : (x : Share P) → In (shares cmp olds) x → rated x ≡ true
        → (is_sender cmp component x.flow.origin x.flow.recipient ≡ true) × (is_receiver cmp component x.flow.origin x.flow.recipient ≡ true)
    both_of_old x h on =
        let w = whose olds x h in
        let o = old_rated w.0 w.1 in
        subst
        (λ (y : Share P). (is_sender cmp component y.flow.origin y.flow.recipient ≡ true)
        × (is_receiver cmp component y.flow.origin y.flow.recipient ≡ true))
        w.2
        (both_before cmp component done us closed caps scale floor loose all_loose were low w.0 o.0
        (sym (open_if_of cmp component w.0 o.1) ∙ ap rated w.2 ∙ on))

    none_of_share : (x : Share P) → In (shares cmp news) x → rated x ≡ false → component.level ≤ x.parts
        → (is_sender cmp component x.flow.origin x.flow.recipient ≡ false) × (is_receiver cmp component x.flow.origin x.flow.recipient ≡ false)
    none_of_share x h off high =
        let w = whose news x h in
        subst
        (λ (y : Share P). (is_sender cmp component y.flow.origin y.flow.recipient ≡ false)
        × (is_receiver cmp component y.flow.origin y.flow.recipient ≡ false))
        w.2
        (none_now w.0 w.1
        (sym (open_if_of cmp component w.0 (now_rated w.0 w.1)) ∙ ap rated w.2 ∙ off)
        (subst (λ n. component.level ≤ n) (ap (λ (y : Share P). y.parts) (sym w.2)) high))

    -- a side with a cap does not limit both one without an end in it and one with both
    never_both : (s : Subject P) (cap : ℕ) → cap_of caps s ≡ Some cap → (k x : Share P)
        → (is_sender cmp component k.flow.origin k.flow.recipient ≡ false) × (is_receiver cmp component k.flow.origin k.flow.recipient ≡ false)
        → (is_sender cmp component x.flow.origin x.flow.recipient ≡ true) × (is_receiver cmp component x.flow.origin x.flow.recipient ≡ true)
        → limits cmp s k.flow ≡ true → limits cmp s x.flow ≡ false
    never_both s cap has k x none both l = by_bool (limits cmp s x.flow)
        (λ m. absurd (false≢true
        (sym none.0
        ∙ apart cmp component order caps of tied s cap has k.flow x.flow (none.0 ∙ sym none.1) (both.0 ∙ sym both.1) l m
        ∙ both.0)))
        (λ e. e)

    reaches : (x : Share P) → rated x ≡ true → component.level ≤ x.parts
    reaches x on =
        leb-true component.level x.parts
        (second_of_both (is_sender cmp component x.flow.origin x.flow.recipient) (nat_le component.level x.parts) on)

    old_shared : AreFairShares cmp order were.was were.of_peers scale (shares cmp olds)
    old_shared = shared cmp order were.was were.of_peers scale olds were.fair

    -- what the caps differ in is used by none that keeps its rate
    differ : (s : Subject P) → (cap_of were.was s ≡ cap_of caps s)
        ⊎ ((y : Share P) → In (shares cmp olds) y → limits cmp s y.flow ≡ true → rated y ≡ true)
    differ s = elim (differ_of cmp component done us closed caps scale floor loose all_loose were low s) [
      | inl same ↦ inl same
      | inr all ↦ inr (λ y h l.
          let w = whose olds y h in
          let o = old_rated w.0 w.1 in
          ap rated (sym w.2) ∙ open_if_of cmp component w.0 o.1
          ∙ all w.0 o.0 o.1 (ap (λ (x : Share P). limits cmp s x.flow) w.2 ∙ l))
    ]

    -- those that keep their rates
    abbrev kept_olds : List (Share P)
    kept_olds = filter (λ x. not (rated x)) (shares cmp olds)

    still_there : (k : Share P) → In (shares cmp olds) k → rated k ≡ false → In (shares cmp news) k
    still_there k h off =
        (from_filter (λ x. not (rated x)) (shares cmp news) k
        (subst (λ (ks : List (Share P)). In ks k) same_kept
        (in_filter (λ x. not (rated x)) (shares cmp olds) k h (ap not off)))).0

    kept_shared : AreFairShares cmp order caps of scale kept_olds
    kept_shared =
        kept_alone cmp flow_of parts_of rated scale component.level were.was caps (shares cmp olds) old_shared
        (λ y h on. reaches y on)
        (λ k h off high s cap has l y hy on.
        never_both s cap has k y (none_of_share k (still_there k h off) off high) (both_of_old y hy on) l)
        differ

    same_twice : filter (λ x. not (rated x)) kept_olds ≡ filter (λ x. not (rated x)) (shares cmp news)
    same_twice = filter_twice (λ x. not (rated x)) (shares cmp olds) ∙ same_kept

    kept_apart : (k : Share P) → In (shares cmp news) k → rated k ≡ false → component.level ≤ k.parts
        → (s : Subject P) (cap : ℕ) → cap_of caps s ≡ Some cap → limits cmp s k.flow ≡ true
        → ((x : Share P) → In (shares cmp news) x → rated x ≡ true → limits cmp s x.flow ≡ false)
        × ((y : Share P) → In kept_olds y → rated y ≡ true → limits cmp s y.flow ≡ false)
    kept_apart k h off high s cap has l = (
      λ x hx on. never_both s cap has k x (none_of_share k h off high) (both_of_share x hx on) l,
      λ y hy on. absurd (false≢true (sym (not_not (rated y)
          (from_filter (λ x. not (rated x)) (shares cmp olds) y hy).1) ∙ on)),
    )

    -- ---- those that are rated anew, under what the others leave

    abbrev left : Caps P
    left = left_caps cmp caps scale component us

    -- their shares
    mine : filter rated (shares cmp news) ≡ shares cmp (those_of cmp component news)
    mine =
        read_filter (share_of cmp) rated news
        ∙ ap (shares cmp)
        (filter_alike (λ v. rated (share_of cmp v)) (is_of cmp component) news
        (λ v h. open_if_of cmp component v (now_rated v h)))

    -- what the others take
    kept_is : (s : Subject P) → total_of s (filter (λ x. not (rated x)) (shares cmp news)) ≡ kept_load cmp component us s
    kept_is s =
        ap (total_of s)
        (keep_of news now_rated
        ∙ ap (shares cmp)
        (others_kept cmp component now times (λ rate u at_least is. still_of cmp component now times rate u at_least is)
        rates us reach))
        ∙ total_read cmp caps s (others_of cmp component us)

    kept_least : (s : Subject P) (cap : ℕ) → cap_of caps s ≡ Some cap → kept_load cmp component us s ≤ cap * scale
    kept_least s cap has =
        omega (arith, kept_is s, ap (total_of s) same_kept, kept_shared.within s cap has)

    leaves : (x : Share P) → In (shares cmp news) x → rated x ≡ true → (s : Subject P) → limits cmp s x.flow ≡ true
        → (cap : ℕ) → cap_of caps s ≡ Some cap
        → (l : ℕ) × (cap_of left s ≡ Some l)
        × (l + total_of s (filter (λ x. not (rated x)) (shares cmp news)) ≡ cap * scale)
    leaves x h on s limited cap has = (
      cap * scale - kept_load cmp component us s,
      cap_left cmp caps scale component us s
          ∙ ap (option_map (λ cap. cap * scale - kept_load cmp component us s)) has,
      omega (arith, kept_is s, kept_least s cap has),
    )

    comes_from : (o : Option ℕ) (f : ℕ → ℕ) (l : ℕ) → option_map f o ≡ Some l → (cap : ℕ) × (o ≡ Some cap)
    comes_from None f l is = absurd (none_not_some is)
      where
        none_not_some : None ≡ Some l → ⊥
        none_not_some e = cc
    comes_from (Some cap) f l is = (cap, refl)

    module _ (found : IsFair (sides_under cmp left (flows_of cmp component us)) 1 (slice_index rates)) where
      fair_mine : AreShared cmp left flow_of parts_of 1 (filter rated (shares cmp news))
      fair_mine =
          let vs = those_of cmp component news in
          subst (AreShared cmp left flow_of parts_of 1) (sym mine)
          (shared_from cmp left flow_of parts_of order (of_left cmp order caps of scale component us) (shares cmp vs)
          (slice_index rates) 1
          (stand_from cmp (slice_index rates) 0 vs
          (λ i. ap (slice_index rates) (zero-add i)
          ∙ ap (λ rs. slice_index rs i) (sym (rates_again now times rates us one_each reach))))
          (subst (λ (fs : List (Flow P)). IsFair (sides_under cmp left fs) 1 (slice_index rates))
          (sym (flows_are cmp vs ∙ flows_again now times rates us one_each reach)) found))

      -- those of it are fair beside all others
      beside_all : AreSharedBeside cmp caps flow_of parts_of rated scale (shares cmp news)
      beside_all =
          beside_left cmp caps flow_of parts_of left rated scale (shares cmp news) leaves
          (λ x h on s limited l has.
          comes_from (cap_of caps s) (λ cap. cap * scale - kept_load cmp component us s) l
          (sym (cap_left cmp caps scale component us s) ∙ has))
          fair_mine

      -- and so all rates are fair
      pub restart_fair : AreFairlyRated cmp caps scale news
      restart_fair =
          fair cmp order caps of scale news
          (beside_shared cmp caps flow_of parts_of rated scale component.level kept_olds (shares cmp news)
          kept_shared same_twice (λ y h on. reaches y on) (λ x h on. reaches x on) kept_apart beside_all)
