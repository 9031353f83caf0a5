-- Flows between peers are flows over three links.
use Rattle.fair_laws.proofs.Common.{◌≡◌, ◌==◌, ℕ, List, [], ◌∷◌, Bool, true, false, cond, Option, None, get_or, map}
use Rattle.fair_laws.proofs.Common.{length, sym, ap, ◌∙◌, inl, inr, AllZip, eqb-true, Side, places_from, In, in_map}
use Rattle.fair_laws.proofs.Common.{from_map, in_from_contains, contains_from_in, any_passes, places_alike}
use Rattle.fair_laws.proofs.Common.{IsLinkSide, has_link, users_of, sides_over, arith, common_steps, rules, or-false}
use Rattle.fair_laws.proofs.Common.{fairness_is_of_the_set}
use Rattle.std.specs.Cmp.{IsTotalOrder}
use Rattle.std.specs.declared.cmp.Ordering.{Ordering}
use Rattle.fairness.specs.Fairness.UnderCaps.{AreOfPeers, IsCappedSide, limits, sides_under}
use Rattle.fairness.specs.Sides.Caps.{Caps}
use Rattle.fairness.specs.Sides.Subjects.{Subject, sent_by, received_by, sent_between}
use Rattle.fairness.specs.declared.bandwidth.Flow.{Flow}
use Rattle.fairness.proofs.Sides.CapSides.{sides_are_of_the_caps}
use Rattle.fair_routes.specs.Network.Laws.{AreLinks, route_of, LinkedIsOverThreeLinks}
use Rattle.fair_routes.proofs.Network.LinkSides.{link_side, side_listed}
use Rattle.fair_routes.proofs.Network.Said.{found}

module _ {P : Type 0} (cmp : P → P → Ordering) (order : IsTotalOrder cmp) (caps : Caps P) (links : List (Option ℕ))
    (number : Subject P → ℕ) (of : AreOfPeers cmp caps) (are : AreLinks cmp caps links number) where
  -- a side of a subject limits the flow just where its link is on the flow's route
  on_route : (s : Subject P) (f : Flow P) → limits cmp s f ≡ has_link (number s) (route_of cmp number f)
  on_route (sent_by p) f = search (rules, or-false)
  on_route (received_by p) f = search (rules, or-false)
  on_route (sent_between p q) f = search (rules, or-false)

  -- a link of a route is that of a subject
  of_subject : (f : Flow P) (link : ℕ) → In (route_of cmp number f) link → (s : Subject P) × (number s ≡ link)
  of_subject f link (inl e) = (sent_by f.origin, e)
  of_subject f link (inr (inl e)) = (sent_between f.origin f.recipient, e)
  of_subject f link (inr (inr h)) = by_test f.delivered h
    where
      by_test : (b : Bool) → In (cond b (number (received_by f.recipient) ∷ []) []) link
          → (s : Subject P) × (number s ≡ link)
      by_test true (inl e) = (received_by f.recipient, e)
      by_test true (inr g) = absurd g
      by_test false g = absurd g

  module _ (flows : List (Flow P)) where
    abbrev routes : List (List ℕ)
    routes = map (route_of cmp number) flows

    abbrev IsRouteOf : Flow P → List ℕ → Type 0
    IsRouteOf f route = (s : Subject P) → limits cmp s f ≡ has_link (number s) route

    each : (fs : List (Flow P)) → AllZip IsRouteOf fs (map (route_of cmp number) fs)
    each [] = tt
    each (f ∷ fs) = ((λ s. on_route s f), each fs)

    users_are : (s : Subject P) → places_from 0 (limits cmp s) flows ≡ users_of (number s) routes
    users_are s = grind (arith, common_steps, each flows, places_alike)

    there : (side : Side) → IsCappedSide cmp caps flows side → IsLinkSide links routes side
    there side of_caps =
        grind (
          arith,
          common_steps,
          any_passes (has_link (number of_caps.subject)) routes (route_of cmp number of_caps.flow)
              (in_map (route_of cmp number) flows of_caps.flow (in_from_contains flows of_caps.flow of_caps.among))
              (sym (on_route of_caps.subject of_caps.flow) ∙ of_caps.limited),
          in_map (route_of cmp number) flows of_caps.flow (in_from_contains flows of_caps.flow of_caps.among),
          in_from_contains flows of_caps.flow of_caps.among,
          on_route of_caps.subject of_caps.flow,
          users_are of_caps.subject,
        )

    back_at : (side : Side) (link : IsLinkSide links routes side) (s : Subject P) (f : Flow P) → number s ≡ link.link
        → In flows f → has_link link.link (route_of cmp number f) ≡ true → IsCappedSide cmp caps flows side
    back_at side of_link s f is among on = record {
      subject = s;
      capped = sym (are.same_cap s) ∙ ap (λ n. get_or links n None) is ∙ of_link.capped;
      flow = f;
      among = contains_from_in flows f among;
      limited = on_route s f ∙ ap (λ n. has_link n (route_of cmp number f)) is ∙ on;
      users = of_link.users ∙ ap (λ n. users_of n routes) (sym is) ∙ sym (users_are s);
    }

    back : (side : Side) → IsLinkSide links routes side → IsCappedSide cmp caps flows side
    back side of_link =
        let some = found (has_link of_link.link) routes of_link.used in
        let f = from_map (route_of cmp number) flows some.0 some.1 in
        let on = ap (has_link of_link.link) f.2 ∙ some.2 in
        let x = found (λ other. other == of_link.link) (route_of cmp number f.0) on in
        let s = of_subject f.0 x.0 x.1 in
        back_at side of_link s.0 f.0 (s.1 ∙ eqb-true x.0 of_link.link x.2) f.1 on

pub linked_is_over_three_links : {P : Type 0} (cmp : P → P → Ordering) → IsTotalOrder cmp → LinkedIsOverThreeLinks cmp
linked_is_over_three_links cmp order caps links number flows rates of are =
    let one = sides_under cmp caps flows in
    let other = sides_over links (map (route_of cmp number) flows) in
    let in_caps = sides_are_of_the_caps cmp order caps flows in (
      (λ fair. fairness_is_of_the_set one other (length flows) rates (λ side. (
        (λ listed. side_listed links (map (route_of cmp number) flows) side
            (there cmp order caps links number of are flows side ((in_caps side of).0 listed))),
        (λ listed. (in_caps side of).1 (back cmp order caps links number of are flows side
            (link_side links (map (route_of cmp number) flows) side listed))),
      )) fair),
      (λ fair. fairness_is_of_the_set other one (length flows) rates (λ side. (
        (λ listed. (in_caps side of).1 (back cmp order caps links number of are flows side
            (link_side links (map (route_of cmp number) flows) side listed))),
        (λ listed. side_listed links (map (route_of cmp number) flows) side
            (there cmp order caps links number of are flows side ((in_caps side of).0 listed))),
      )) fair),
    )
