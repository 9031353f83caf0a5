use Rattle.link_events.proofs.Common.{◌≡◌, true, false, Option, None, Some, refl, sym, ap, ◌∙◌, rules, first_moment}
use Rattle.link_events.proofs.Common.{message_of, arrival_of, planned}
use Rattle.std.proofs.Common.{option_map}
use Rattle.std.specs.Prelude.{is_some, nat_le}
use Rattle.link_waiting.proofs.Idle.Starting.{may_start_is}
use Rattle.link_events.proofs.ledger.Ledger.may_start.Goals as goal

-- what is none is read as none
none_read : {X Y : Type 0} (f : X → Y) (r : Option X) (o : Option Y) → is_some r ≡ false → option_map f r ≡ o → o ≡ None
none_read f None o none is = sym is
none_read f (Some x) o none is = cc

pub returns-then-is_busy : goal.returns-then-is_busy
returns-then-is_busy g c =
    let p = planned g.P.Ord.cmp c.args.self.now in
    let m = message_of c.args.message.now in
    let none : is_some c.first.result ≡ false = search rules in
    may_start_is g.P.Ord.cmp g.met.P.Ord.total c.args.now p m true
    (nat_le (first_moment (p.last_arrival m.origin m.recipient) m.latency) c.args.now)
    (none_read (λ b. message_of b.now) c.first.result _ none c.first.ensures)
    (sym (c.requires ∙ c.if-is_busy.true)) refl

pub returns : goal.returns
returns g c =
    let p = planned g.P.Ord.cmp c.args.self.now in
    let m = message_of c.args.message.now in
    let none : is_some c.first.result ≡ false = search rules in
    let moment : c.ready_moment.result
    ≡ first_moment (arrival_of g.P.Ord.cmp c.args.self.now.pairs.entries m.origin m.recipient) m.latency =
    c.ready_moment.ensures ∙ ap (λ last. first_moment last m.latency) c.last_arrival.ensures in
    may_start_is g.P.Ord.cmp g.met.P.Ord.total c.args.now p m false (nat_le c.ready_moment.result c.args.now)
    (none_read (λ b. message_of b.now) c.first.result _ none c.first.ensures)
    (sym (c.requires ∙ c.if-is_busy.false))
    (ap (λ k. nat_le k c.args.now) moment)
