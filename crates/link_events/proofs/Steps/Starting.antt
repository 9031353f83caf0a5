-- The next message of a pair starts, and stays in flight at the account that follows.
use Rattle.link_events.proofs.Common.{◌≡◌, ℕ, length, Option, Some, Bool, true, false, refl, sym, ap, ◌∙◌, subst, ◌≢◌}
use Rattle.link_events.proofs.Common.{◌==◌, Ordering, IsTotalOrder, or_from, eqb-true, ∥∥₁_map, whole, Caps, Message}
use Rattle.link_events.proofs.Common.{is_unlimited, Planned, is_spent, launched, message_of, first_of, may_launch_first}
use Rattle.link_events.proofs.Common.{HadFairRates, Ledger, planned}
use Rattle.link_pairs.specs.declared.message.Message as code
use Rattle.link_waiting.specs.Idle.Departed.{HasDeparted}
use Rattle.link_waiting.proofs.Idle.Starting.{pushed_is}
use Rattle.link_flights.specs.Flights.InFlight.{Joins}
use Rattle.link_flights.proofs.Flights.Joining.{fair_with}
use Rattle.link_events.specs.Steps.Starting.{WouldStay, StartsNext}

module _ {P : Type 0} (cmp : P → P → Ordering) where
  -- a message with bytes that uses a capped side is not done as it starts
  pub starts_unspent : (caps : Caps P) (m : Message P) (id t : ℕ) → length m.bytes ≢ 0 → is_unlimited cmp caps m ≡ false
      → is_spent cmp caps
      (record { id = id; message = m; left = whole (length m.bytes); rate = Some (whole 0); updated = t }) ≡ false
  starts_unspent caps m id t some_bytes capped =
      or_from (length m.bytes == 0) (is_unlimited cmp caps m) (not_none (length m.bytes == 0) refl) capped
    where
      not_none : (b : Bool) → (length m.bytes == 0) ≡ b → b ≡ false
      not_none true e = absurd (some_bytes (eqb-true (length m.bytes) 0 e))
      not_none false e = refl

  module _ (order : IsTotalOrder cmp) (t : ℕ) (o r : P) where
    -- what was found is one message
    the_same : {m n : Message P} {first : Option (Message P)} → first ≡ Some m → first ≡ Some n → m ≡ n
    the_same e f = let both = sym e ∙ f in cc

    -- the first message that waits for a pair, which may start, has joined those in flight
    pub starts_next : {a : _} {b : _} {c : _} (old new : Ledger P a b c) (m : Message P) (joined : code.Message P)
        → first_of cmp (planned cmp old).waiting o r ≡ Some m → WouldStay cmp (planned cmp old) m
        → may_launch_first cmp t (planned cmp old) (first_of cmp (planned cmp old).waiting o r) ≡ true
        → HasDeparted cmp t (planned cmp old) o r (planned cmp new)
        → first_of cmp (planned cmp old).waiting o r ≡ Some (message_of joined)
        → Joins old.next_id t joined old.flights new.flights → StartsNext cmp t o r old new
    starts_next old new m joined found would may departed first joins =
        let p : Planned P = planned cmp old in
        let n : Message P = message_of joined in
        let stay : WouldStay cmp p n = subst (WouldStay cmp p) (the_same found first) would in
        let unspent = starts_unspent p.caps n p.next_id t stay.some_bytes stay.capped in
        let is : planned cmp new ≡ launched cmp t p n =
        departed.is ∙ pushed_is cmp order t p o r departed.message departed.first
        ∙ ap (launched cmp t p) (the_same departed.first first) in
        record {
          next = n;
          first = first;
          may = ap (may_launch_first cmp t p) (sym first) ∙ may;
          id = stay.id;
          stays = unspent;
          is = is;
          at = joins.at;
          fair = λ done had.
              subst (λ caps. ∥ HadFairRates cmp caps new.flights done ∥₁) (sym (ap (λ (q : Planned P). q.caps) is))
              (∥∥₁_map had (fair_with cmp p.caps p.next_id t joined old.flights new.flights done joins unspent));
        }
