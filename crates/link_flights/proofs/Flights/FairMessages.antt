-- Rates that are fair for flows under the caps are the simulation's rates for the messages that these flows stand for.
use Rattle.link_flights.proofs.Common.{◌≡◌, ℕ, ◌+◌, Bool, true, false, cond, ◌&&◌, List, [], ◌∷◌, ◌++◌, Option, Some}
use Rattle.link_flights.proofs.Common.{None, Contains, refl, sym, ap, ap₂, ◌∙◌, subst, inl, inr, ◌⊎◌, AllZip}
use Rattle.link_flights.proofs.Common.{IsTotalOrder, Ordering, and_from, same_Some, eq_by_cmp_equiv, Flow, Side, cap_of}
use Rattle.link_flights.proofs.Common.{AreOfPeers, limits, sides_under, Subject, sent_by, received_by, sent_between}
use Rattle.link_flights.proofs.Common.{same_peer, Caps, Message, is_delivered, capped_sides, In, in_left, in_right}
use Rattle.link_flights.proofs.Common.{in_either, in_from_contains, contains_from_in, same_peer_itself, places_from}
use Rattle.link_flights.proofs.Common.{same_subject, one_cap, same_limits}
use Rattle.std.proofs.lemmas.Bool.{and_parts}
use Rattle.fairness.specs.Fairness.Laws.{AreTheSameSides}
use Rattle.link_simulation.specs.Simulation.Rates.{sides_for, egress_side, ingress_side, link_side}
use Rattle.link_simulation.specs.Simulation.Rates.{capped_side}
use Rattle.fairness.proofs.Sides.Subjects.{same_itself}
use Rattle.fairness.proofs.Sides.CapSides.{capped_from_listed, listed_from_capped, side_of_subject}
use Rattle.fairness.proofs.Lists.Members.{in_flat_map, from_flat_map}
use Rattle.fairness.proofs.Lists.Places.{places_alike}

module _ {P : Type 0} (cmp : P → P → Ordering) where
  -- the flow is of the message's peers, by their order, and delivered as it is
  pub record StandsForMessage (f : Flow P) (m : Message P) : Type 0 where
    pub origin : same_peer cmp f.origin m.origin ≡ true
    pub recipient : same_peer cmp f.recipient m.recipient ≡ true
    pub delivered : f.delivered ≡ is_delivered cmp m

  -- whether a side of the subject limits the message
  abbrev limits_message : Subject P → Message P → Bool
  limits_message (sent_by p) m = same_peer cmp p m.origin
  limits_message (received_by p) m = is_delivered cmp m && same_peer cmp p m.recipient
  limits_message (sent_between p q) m = same_peer cmp p m.origin && same_peer cmp q m.recipient

  module _ (order : IsTotalOrder cmp) where
    -- equal peers are equal to the same
    same_right : (p q r : P) → same_peer cmp q r ≡ true → same_peer cmp p q ≡ same_peer cmp p r
    same_right p q r e = let laws = eq_by_cmp_equiv order in laws.symm p q ∙ laws.congr q r p e ∙ laws.symm r p

    limits_alike : (s : Subject P) (f : Flow P) (m : Message P) → StandsForMessage f m
        → limits cmp s f ≡ limits_message s m
    limits_alike (sent_by p) f m t = same_right p f.origin m.origin t.origin
    limits_alike (received_by p) f m t =
        ap₂ (λ (a b : Bool). a && b) t.delivered (same_right p f.recipient m.recipient t.recipient)
    limits_alike (sent_between p q) f m t =
        ap₂ (λ (a b : Bool). a && b) (same_right p f.origin m.origin t.origin)
        (same_right q f.recipient m.recipient t.recipient)

    users_alike : (s : Subject P) (flows : List (Flow P)) (messages : List (Message P))
        → AllZip StandsForMessage flows messages
        → places_from 0 (limits cmp s) flows ≡ places_from 0 (limits_message s) messages
    users_alike s flows messages t =
        places_alike StandsForMessage (limits cmp s) (limits_message s) (λ f m e. limits_alike s f m e) 0 flows messages
        t

    same_limits_message : (s t : Subject P) (m : Message P) → same_subject cmp s t ≡ true
        → limits_message s m ≡ limits_message t m
    same_limits_message s t m e =
        sym (limits_alike s (flow_of m) m (own m)) ∙ same_limits cmp order s t (flow_of m) e
        ∙ limits_alike t (flow_of m) m (own m)
      where
        flow_of : Message P → Flow P
        flow_of m = record { id = 0; origin = m.origin; recipient = m.recipient; delivered = is_delivered cmp m }

        own : (m : Message P) → StandsForMessage (flow_of m) m
        own m =
            record {
              origin = same_peer_itself cmp order m.origin;
              recipient = same_peer_itself cmp order m.recipient;
              delivered = refl;
            }

    message_for : (flows : List (Flow P)) (messages : List (Message P)) (f : Flow P)
        → AllZip StandsForMessage flows messages → In flows f → (m : Message P) × In messages m × StandsForMessage f m
    message_for [] messages f t h = absurd h
    message_for (g ∷ fs) [] f t h = absurd t
    message_for (g ∷ fs) (m ∷ ms) f t (inl e) = (m, inl refl, subst (λ (k : Flow P). StandsForMessage k m) e t.0)
    message_for (g ∷ fs) (m ∷ ms) f t (inr h) =
        let r : (n : Message P) × In ms n × StandsForMessage f n = message_for fs ms f t.1 h in (r.0, inr r.1, r.2)

    flow_for : (flows : List (Flow P)) (messages : List (Message P)) (m : Message P)
        → AllZip StandsForMessage flows messages → In messages m → (f : Flow P) × In flows f × StandsForMessage f m
    flow_for [] [] m t h = absurd h
    flow_for [] (n ∷ ms) m t h = absurd t
    flow_for (f ∷ fs) [] m t h = absurd h
    flow_for (f ∷ fs) (n ∷ ms) m t (inl e) = (f, inl refl, subst (λ (k : Message P). StandsForMessage f k) e t.0)
    flow_for (f ∷ fs) (n ∷ ms) m t (inr h) =
        let r : (g : Flow P) × In fs g × StandsForMessage g m = flow_for fs ms m t.1 h in (r.0, inr r.1, r.2)

    places_agree : (place : ℕ) (p q : Message P → Bool) (messages : List (Message P)) → ((m : Message P) → p m ≡ q m)
        → places_from place p messages ≡ places_from place q messages
    places_agree place p q [] h = refl
    places_agree place p q (m ∷ ms) h =
        ap₂ (λ (b : Bool) (ps : List ℕ). cond b (place ∷ ps) ps) (h m) (places_agree (place + 1) p q ms h)

    module _ (caps : Caps P) (of : AreOfPeers cmp caps) (flows : List (Flow P)) (messages : List (Message P))
        (stand : AllZip StandsForMessage flows messages) where
      -- the side of a subject
      abbrev side_at : Subject P → ℕ → Side
      side_at s cap = record { cap = cap; users = places_from 0 (limits_message s) messages }

      to_side_of : (o : Option ℕ) (uses : Message P → Bool) (cap : ℕ) → o ≡ Some cap
          → In (capped_side cmp o uses messages) (record { cap = cap; users = places_from 0 uses messages })
      to_side_of None uses cap e = cc
      to_side_of (Some c) uses cap e =
          let same : c ≡ cap = same_Some c cap e in
          inl (ap (λ n. record { cap = n; users = places_from 0 uses messages }) same)

      from_side_of : (o : Option ℕ) (uses : Message P → Bool) (side : Side) → In (capped_side cmp o uses messages) side
          → (cap : ℕ) × (o ≡ Some cap) × (side ≡ record { cap = cap; users = places_from 0 uses messages })
      from_side_of None uses side h = absurd h
      from_side_of (Some cap) uses side (inl e) = (cap, refl, sym e)
      from_side_of (Some cap) uses side (inr h) = absurd h

      -- what a message brings
      record Brings (m : Message P) (side : Side) : Type 0 where
        subject : Subject P
        cap : ℕ
        capped : cap_of caps subject ≡ Some cap
        limited : limits_message subject m ≡ true
        is : side ≡ side_at subject cap

      -- the cap that a message asks of its recipient
      abbrev ingress_cap : Message P → Option ℕ
      ingress_cap m = cond (is_delivered cmp m) (caps.ingress m.recipient) None

      delivered_cap : (b : Bool) (o : Option ℕ) (cap : ℕ) → cond b o None ≡ Some cap → (b ≡ true) × (o ≡ Some cap)
      delivered_cap true o cap e = (refl, e)
      delivered_cap false o cap e = cc

      from_sides_for : (m : Message P) (side : Side) → In (sides_for cmp caps messages m) side → Brings m side
      from_sides_for m side h =
          by_kind
          (in_either (egress_side cmp caps messages m ++ ingress_side cmp caps messages m)
          (link_side cmp caps messages m) side h)
        where
          by_peer : In (egress_side cmp caps messages m) side ⊎ In (ingress_side cmp caps messages m) side
              → Brings m side
          by_peer (inl g) =
              let r = from_side_of (caps.egress m.origin) (limits_message (sent_by m.origin)) side g in
              record {
                subject = sent_by m.origin;
                cap = r.0;
                capped = r.1;
                limited = same_peer_itself cmp order m.origin;
                is = r.2;
              }
          by_peer (inr g) =
              let r = from_side_of (ingress_cap m) (limits_message (received_by m.recipient)) side g in
              let d = delivered_cap (is_delivered cmp m) (caps.ingress m.recipient) r.0 r.1 in
              record {
                subject = received_by m.recipient;
                cap = r.0;
                capped = d.1;
                limited =
                    and_from (is_delivered cmp m) (same_peer cmp m.recipient m.recipient) d.0
                    (same_peer_itself cmp order m.recipient);
                is = r.2;
              }

          by_kind : In (egress_side cmp caps messages m ++ ingress_side cmp caps messages m) side
              ⊎ In (link_side cmp caps messages m) side
              → Brings m side
          by_kind (inl g) =
              by_peer (in_either (egress_side cmp caps messages m) (ingress_side cmp caps messages m) side g)
          by_kind (inr g) =
              let r =
              from_side_of (caps.link m.origin m.recipient) (limits_message (sent_between m.origin m.recipient))
              side g in
              record {
                subject = sent_between m.origin m.recipient;
                cap = r.0;
                capped = r.1;
                limited = same_itself cmp order (sent_between m.origin m.recipient);
                is = r.2;
              }

      own_side : (m : Message P) (s : Subject P) (cap : ℕ) (t : Subject P) → same_subject cmp s t ≡ true
          → cap_of caps s ≡ Some cap
          → (cap_of caps t ≡ Some cap → In (sides_for cmp caps messages m) (side_at t cap))
          → In (sides_for cmp caps messages m) (side_at s cap)
      own_side m s cap t same e h =
          let places =
          places_agree 0 (limits_message t) (limits_message s) messages
          (λ n. sym (same_limits_message s t n same)) in
          subst (In (sides_for cmp caps messages m)) (ap (λ (ps : List ℕ). record { cap = cap; users = ps }) places)
          (h (sym (one_cap cmp order caps of s t same) ∙ e))

      to_sides_for : (m : Message P) (s : Subject P) (cap : ℕ) → cap_of caps s ≡ Some cap → limits_message s m ≡ true
          → In (sides_for cmp caps messages m) (side_at s cap)
      to_sides_for m (sent_by p) cap e l = own_side m (sent_by p) cap (sent_by m.origin) l e (λ c.
          in_left (egress_side cmp caps messages m ++ ingress_side cmp caps messages m) (link_side cmp caps messages m)
          (side_at (sent_by m.origin) cap)
          (in_left (egress_side cmp caps messages m) (ingress_side cmp caps messages m) (side_at (sent_by m.origin) cap)
          (to_side_of (caps.egress m.origin) (limits_message (sent_by m.origin)) cap c)))
      to_sides_for m (received_by p) cap e l =
          let both = and_parts (is_delivered cmp m) (same_peer cmp p m.recipient) l in
          own_side m (received_by p) cap (received_by m.recipient) both.1 e (λ c.
          let asked : ingress_cap m ≡ Some cap = rw both.0 c in
          in_left (egress_side cmp caps messages m ++ ingress_side cmp caps messages m) (link_side cmp caps messages m)
          (side_at (received_by m.recipient) cap)
          (in_right (egress_side cmp caps messages m) (ingress_side cmp caps messages m)
          (side_at (received_by m.recipient) cap)
          (to_side_of (ingress_cap m) (limits_message (received_by m.recipient)) cap asked)))
      to_sides_for m (sent_between p q) cap e l =
          own_side m (sent_between p q) cap (sent_between m.origin m.recipient) l e (λ c.
          in_right (egress_side cmp caps messages m ++ ingress_side cmp caps messages m) (link_side cmp caps messages m)
          (side_at (sent_between m.origin m.recipient) cap)
          (to_side_of (caps.link m.origin m.recipient) (limits_message (sent_between m.origin m.recipient)) cap c))

      pub same_sides : AreTheSameSides (sides_under cmp caps flows) (capped_sides cmp caps messages)
      same_sides side = (
        (λ listed.
            let c = capped_from_listed cmp order caps of flows side listed in
            let r = message_for flows messages c.flow stand (in_from_contains flows c.flow c.among) in
            let brought =
            to_sides_for r.0 c.subject side.cap c.capped
            (sym (limits_alike c.subject c.flow r.0 r.2) ∙ c.limited) in
            let same : side_at c.subject side.cap ≡ side =
            ap (λ (ps : List ℕ). record { cap = side.cap; users = ps })
            (sym (c.users ∙ users_alike c.subject flows messages stand)) in
            contains_from_in (capped_sides cmp caps messages) side
            (in_flat_map (sides_for cmp caps messages) messages r.0 side r.1
            (subst (In (sides_for cmp caps messages r.0)) same brought))),
        (λ listed.
            let r =
            from_flat_map (sides_for cmp caps messages) messages side
            (in_from_contains (capped_sides cmp caps messages) side listed) in
            let b = from_sides_for r.0 side r.2 in
            let f = flow_for flows messages r.0 stand r.1 in
            let there =
            listed_from_capped cmp order caps of flows b.subject b.cap f.0 b.capped f.1
            (limits_alike b.subject f.0 r.0 f.2 ∙ b.limited) in
            let same : side_of_subject cmp order caps of flows b.subject b.cap ≡ side =
            ap (λ (ps : List ℕ). record { cap = b.cap; users = ps }) (users_alike b.subject flows messages stand)
            ∙ sym b.is in
            subst (Contains (sides_under cmp caps flows)) same there),
      )
