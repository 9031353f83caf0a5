-- Caps of a peer, or of a pair, change: what they are about.
use Rattle.link_events.proofs.Common.{◌≡◌, ℕ, Bool, true, false, not, ◌&&◌, ◌||◌, if◌then◌else◌, Option, refl, sym, ap}
use Rattle.link_events.proofs.Common.{◌∙◌, ◌⊎◌, inl, inr, IsTotalOrder, Ordering, or_parts, Caps, same_peer, by_bool}
use Rattle.link_events.proofs.Common.{first_of_both, second_of_both, Message, is_delivered, is_unlimited, message_of}
use Rattle.link_events.proofs.Common.{UnitFlight}
use Rattle.std.proofs.Common.{is_none}
use Rattle.std.proofs.lemmas.Cmp.{eq_by_cmp_equiv}
use Rattle.fairness.specs.Fairness.UnderCaps.{cap_of, limits}
use Rattle.fairness.specs.Sides.Caps.{with_cap, with_link}
use Rattle.fairness.specs.Sides.Subjects.{Subject, sent_by, received_by, sent_between}
use Rattle.link_flights.specs.Flights.Sides.{flow_in_flight}

pub not_off : (b : Bool) → not b ≡ false → b ≡ true
not_off true h = refl
not_off false h = cc

or_left : (a b : Bool) → a ≡ true → (a || b) ≡ true
or_left true b h = refl
or_left false b h = cc

or_right : (a b : Bool) → b ≡ true → (a || b) ≡ true
or_right true b h = refl
or_right false b h = h

module _ {P : Type 0} (cmp : P → P → Ordering) (order : IsTotalOrder cmp) (caps now : Caps P) where
  -- a change of caps is about no more than what passes the test
  abbrev pub IsAbout : (Message P → Bool) → Type 0
  IsAbout test = (s : Subject P) → (cap_of caps s ≡ cap_of now s)
      ⊎ ((u : UnitFlight P) → limits cmp s (flow_in_flight cmp u) ≡ true → test (message_of u.message) ≡ true)

  -- and what does not pass it is limited as before
  abbrev pub LeavesAlone : (Message P → Bool) → Type 0
  LeavesAlone test = (m : Message P) → test m ≡ false → is_unlimited cmp now m ≡ is_unlimited cmp caps m

  -- with caps that are as they were for a message it is limited as it was
  limited_alike : (m : Message P) → now.egress m.origin ≡ caps.egress m.origin
      → now.ingress m.recipient ≡ caps.ingress m.recipient
      → now.link m.origin m.recipient ≡ caps.link m.origin m.recipient
      → is_unlimited cmp now m ≡ is_unlimited cmp caps m
  limited_alike m e i l = λ k.
      is_none (e k) && (not (is_delivered cmp m) || is_none (i k)) && is_none (l k)

  -- equal peers are equal to the same
  through : (p q r : P) → same_peer cmp p q ≡ true → same_peer cmp q r ≡ true → same_peer cmp p r ≡ true
  through p q r e f = (eq_by_cmp_equiv order).congr p q r e ∙ f

  module _ (p : P) (egress ingress : Option ℕ) (e : now.egress ≡ with_cap cmp caps.egress p egress)
      (i : now.ingress ≡ with_cap cmp caps.ingress p ingress) (l : now.link ≡ caps.link) where
    abbrev pub of_peer : Message P → Bool
    of_peer m = same_peer cmp p m.origin || same_peer cmp p m.recipient

    pub about_peer : IsAbout of_peer
    about_peer (sent_by q) = by_bool (same_peer cmp p q)
        (λ same. inr (λ u lim. or_left _ _ (through p q u.message.origin same lim)))
        (λ other. inl (sym (ap (λ f. f q) e ∙ ap (λ b. if b then egress else caps.egress q) other)))
    about_peer (received_by q) = by_bool (same_peer cmp p q)
        (λ same. inr (λ u lim. or_right (same_peer cmp p u.message.origin) _ (through p q u.message.recipient same
        (second_of_both (is_delivered cmp (message_of u.message)) (same_peer cmp q u.message.recipient) lim))))
        (λ other. inl (sym (ap (λ f. f q) i ∙ ap (λ b. if b then ingress else caps.ingress q) other)))
    about_peer (sent_between q r) = inl (sym (ap (λ f. f q r) l))

    pub leaves_alone : LeavesAlone of_peer
    leaves_alone m out =
        let neither = or_parts (same_peer cmp p m.origin) (same_peer cmp p m.recipient) out in
        limited_alike m
        (ap (λ f. f m.origin) e ∙ ap (λ b. if b then egress else caps.egress m.origin) neither.0)
        (ap (λ f. f m.recipient) i ∙ ap (λ b. if b then ingress else caps.ingress m.recipient) neither.1)
        (ap (λ f. f m.origin m.recipient) l)

  module _ (o r : P) (cap : Option ℕ) (e : now.egress ≡ caps.egress) (i : now.ingress ≡ caps.ingress)
      (l : now.link ≡ with_link cmp caps.link o r cap) where
    abbrev pub sent_by_it : Message P → Bool
    sent_by_it m = same_peer cmp o m.origin

    pub about_sender : IsAbout sent_by_it
    about_sender (sent_by q) = inl (sym (ap (λ f. f q) e))
    about_sender (received_by q) = inl (sym (ap (λ f. f q) i))
    about_sender (sent_between p q) = by_bool (same_peer cmp o p)
        (λ same. inr (λ u lim. through o p u.message.origin same
        (first_of_both (same_peer cmp p u.message.origin) (same_peer cmp q u.message.recipient) lim)))
        (λ other. inl (sym (ap (λ f. f p q) l
        ∙ ap (λ b. if b && same_peer cmp r q then cap else caps.link p q) other)))

    pub leaves_others_alone : LeavesAlone sent_by_it
    leaves_others_alone m out =
        limited_alike m (ap (λ f. f m.origin) e) (ap (λ f. f m.recipient) i)
        (ap (λ f. f m.origin m.recipient) l
        ∙ ap (λ b. if b && same_peer cmp r m.recipient then cap else caps.link m.origin m.recipient) out)
