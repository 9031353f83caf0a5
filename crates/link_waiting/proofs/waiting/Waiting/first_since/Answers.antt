use Rattle.link_waiting.proofs.Common.{ℕ, List, Option, subst, has_come, since_of, Told, ◌≡◌, true}
use Rattle.std.specs.Prelude.{◌↔◌}
use Rattle.least_moment.specs.Moments.{IsLeast}
use Rattle.link_waiting.proofs.Idle.View.{told_are}
use Rattle.link_waiting.proofs.Idle.Ready.{least_comes}
use Rattle.link_waiting.proofs.waiting.Waiting.first_since.Goals as goal

pub returns : goal.returns
returns g c = λ t.
    let inside = c.self.inside in
    let slots = inside.slots in
    let kept = c.self.invariant in
    subst (λ (told : List (Told g.row.P.Denot)). (has_come t c.least.result ≡ true)
    ↔ ((o : g.row.P.Denot) × (r : g.row.P.Denot) × (has_come t (since_of g.P.Ord.cmp told o r) ≡ true)))
    (told_are g.P.Ord.cmp inside.given_up slots c.args.self.now c.self.view_is c.if-self.false)
    (least_comes g.P.Ord.cmp g.met.P.Ord.total inside.pairs t slots.sinces.items _ kept.stands.told kept.now c.least.result
    (subst (λ (moments : List (Option ℕ)). IsLeast moments c.least.result) kept.stands.moments c.least.ensures))
