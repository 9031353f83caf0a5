-- When idle pairs may start, and the first moment at which one may.
use Rattle.link_waiting.proofs.Common.{◌≡◌, ℕ, ◌≤◌, Bool, true, false, not, ◌&&◌, if◌then◌else◌, [], Option, Some, None}
use Rattle.link_waiting.proofs.Common.{IfSome, refl, sym, ◌∙◌, ap, subst, arith, nat_le, find, list_any, Ordering}
use Rattle.link_waiting.proofs.Common.{IsTotalOrder, leb-true, le-leb, and_from, first_of_both, second_of_both}
use Rattle.link_waiting.proofs.Common.{same_peer, Message, PairsAlike, same_pair, Planned, rated_messages, may_launch}
use Rattle.link_waiting.proofs.Common.{idle_from, IsIndexOf, has_come, first_moment, first_of, may_launch_first}
use Rattle.link_waiting.proofs.Common.{is_sending, find_passes, pair_like, last_moment, any_like}
use Rattle.std.specs.Prelude.{◌↔◌, max, option_map}
use Rattle.std.proofs.lemmas.Bool.{not-true}
use Rattle.link_simulation.specs.Rule.Events.{PlansStart}
use Rattle.link_simulation.specs.Rule.Planned.{IsLeastMoment, SomeReadyAt, next_of}
use Rattle.link_waiting.proofs.Idle.Starting.{may_launch_is, of_pair, in_order_from}

module _ {P : Type 0} (cmp : P → P → Ordering) where
  -- a pair that is idle, and its first waiting message
  pub record IsIdleFrom (p : Planned P) (o r : P) (t : ℕ) : Type 0 where
    pub message : Message P
    pub free : is_sending cmp p o r ≡ false
    pub first : first_of cmp p.waiting o r ≡ Some message
    pub moment : first_moment (p.last_arrival o r) message.latency ≡ t

  pub idle_parts : (p : Planned P) (o r : P) (t : ℕ) → idle_from cmp p o r ≡ Some t → IsIdleFrom p o r t
  idle_parts p o r t is = by_parts (is_sending cmp p o r) (first_of cmp p.waiting o r) refl refl is
    where
      by_parts : (b : Bool) (m : Option (Message P)) → is_sending cmp p o r ≡ b → first_of cmp p.waiting o r ≡ m
          → (if b then None else option_map (λ (m : Message P). first_moment (p.last_arrival o r) m.latency) m) ≡ Some t
          → IsIdleFrom p o r t
      by_parts true m b_is m_is h = cc
      by_parts false None b_is m_is h = cc
      by_parts false (Some m) b_is m_is h = record { message = m; free = b_is; first = m_is; moment = cc }

  pub idle_is : (p : Planned P) (o r : P) (m : Message P) → is_sending cmp p o r ≡ false
      → first_of cmp p.waiting o r ≡ Some m → idle_from cmp p o r ≡ Some (first_moment (p.last_arrival o r) m.latency)
  idle_is p o r m free first =
      ap (λ (b : Bool). if b then None else option_map (λ (m : Message P). first_moment (p.last_arrival o r) m.latency)
      (first_of cmp p.waiting o r)) free ∙ ap (option_map _) first

  -- a message that may start is the first of a pair that is idle from no later moment on
  pub launches_idle : (p : Planned P) (s : ℕ) (m : Message P) → next_of cmp p m ≡ Some m → may_launch cmp s p m ≡ true
      → (idle_from cmp p m.origin m.recipient ≡ Some (first_moment (p.last_arrival m.origin m.recipient) m.latency))
      × (first_moment (p.last_arrival m.origin m.recipient) m.latency ≤ s)
  launches_idle p s m next may =
      let sends : Bool = list_any (same_pair cmp m) (rated_messages p.sending) in (
        idle_is p m.origin m.recipient m (not-true sends (first_of_both (not sends) _ may)) next,
        leb-true _ s
            (sym (in_order_from (p.last_arrival m.origin m.recipient) m.latency s) ∙ second_of_both (not sends) _ may),
      )

  module _ (order : IsTotalOrder cmp) (p : Planned P) (alike : PairsAlike cmp p.last_arrival p.last_arrival) where
    -- equal pairs may start from one moment on
    pub idle_respects : (o r a b : P) → same_peer cmp o a ≡ true → same_peer cmp r b ≡ true
        → idle_from cmp p o r ≡ idle_from cmp p a b
    idle_respects o r a b first second i =
        let m : Message P =
        record { origin = o; recipient = r; channel = 0; bytes = []; latency = 0; should_deliver = false } in
        let n : Message P = record m { origin = a; recipient = b } in
        let same : same_pair cmp m n ≡ true = and_from (same_peer cmp o a) (same_peer cmp r b) first second in
        if sym (any_like cmp order m n (rated_messages p.sending) same) i then None
        else option_map (λ (m : Message P). first_moment (alike o a r b first second i) m.latency)
        (find (λ (k : Message P). sym (pair_like cmp order m n k same) i) p.waiting)

    -- when the first message of an idle pair may start
    pub may_from : (o r : P) (m : Message P) → first_of cmp p.waiting o r ≡ Some m → (s : ℕ)
        → (not (is_sending cmp p o r) && nat_le (first_moment (p.last_arrival o r) m.latency) s) ≡ may_launch cmp s p m
    may_from o r m found s =
        may_launch_is cmp order p s o r m _ _ alike found refl refl ∙ ap (may_launch_first cmp s p) found

    -- from its moment on an idle pair is ready
    pub idle_ready : (o r : P) (t s : ℕ) → idle_from cmp p o r ≡ Some t → t ≤ s → SomeReadyAt cmp p s
    idle_ready o r t s is le =
        let i : IsIdleFrom p o r t = idle_parts p o r t is in
        let late : first_moment (p.last_arrival o r) i.message.latency ≤ s = omega (arith, i.moment) in
        let may : may_launch cmp s p i.message ≡ true = sym (may_from o r i.message i.first s) ∙
        (λ j. not (i.free j) && le-leb _ s late j) in
        let same : (same_peer cmp o i.message.origin && same_peer cmp r i.message.recipient) ≡ true = find_passes _
        i.message p.waiting i.first in
        let next : next_of cmp p i.message ≡ Some i.message =
        (λ j. find (λ (n : Message P). of_pair cmp order o r i.message same n j) p.waiting) ∙ i.first in
        (i.message, next, may)

    module _ (since : P → P → Option ℕ) (index : IsIndexOf cmp p since) (first : Option ℕ)
        (least : (t : ℕ) → (has_come t first ≡ true) ↔ ((o : P) × (r : P) × (has_come t (since o r) ≡ true))) where
      come_parts : (t : ℕ) (o : Option ℕ) → has_come t o ≡ true → (s : ℕ) × (o ≡ Some s) × (s ≤ t)
      come_parts t None h = cc
      come_parts t (Some s) h = (s, refl, leb-true s t h)

      -- some pair is ready just from the first moment on
      pub ready_from : (t : ℕ) → (has_come t first ≡ true) ↔ SomeReadyAt cmp p t
      ready_from t = (if_come, if_ready)
        where
          if_come : has_come t first ≡ true → SomeReadyAt cmp p t
          if_come come =
              let at = (least t).0 come in
              let from = come_parts t (since at.0 at.1) at.2 in
              idle_ready at.0 at.1 from.0 t (sym (index at.0 at.1) ∙ from.1) from.2

          if_ready : SomeReadyAt cmp p t → has_come t first ≡ true
          if_ready ready =
              let m = ready.0 in
              let from = launches_idle p t m ready.1 ready.2 in
              (least t).1 (
                m.origin,
                m.recipient,
                ap (has_come t) (index m.origin m.recipient ∙ from.0)
                    ∙ le-leb (first_moment (p.last_arrival m.origin m.recipient) m.latency) t from.1,
              )

      -- so the start is planned by it
      pub looks_so : (now : ℕ) (start : Option ℕ) → start ≡ option_map (λ t. max now t) first
          → IfSome start (λ t. t ≤ last_moment) → PlansStart cmp now p (record p { start = start })
      looks_so now start is fits =
          record {
            start =
                subst (λ (o : Option ℕ). IsLeastMoment (λ s. (now ≤ s) × SomeReadyAt cmp p s) o) (sym is)
                (by_first first refl (subst (λ (o : Option ℕ). IfSome o (λ t. t ≤ last_moment)) is fits));
            same = refl;
          }
        where
          by_first : (o : Option ℕ) → first ≡ o → IfSome (option_map (λ t. max now t) o) (λ t. t ≤ last_moment)
              → IsLeastMoment (λ s. (now ≤ s) × SomeReadyAt cmp p s) (option_map (λ t. max now t) o)
          by_first None none low = λ s le ready. let no : false ≡ true = sym (ap (has_come s) none) ∙ (ready_from s).1 ready.1 in cc
          by_first (Some t) some low = (
            low,
            (omega arith, (ready_from (max now t)).0 (ap (has_come (max now t)) some ∙ le-leb t (max now t) (omega arith))),
            λ s ready.
                let come : t ≤ s = leb-true t s (sym (ap (has_come s) some) ∙ (ready_from s).1 ready.1) in
                omega (arith, come, ready.0),
          )
