use Rattle.link_waiting.proofs.Common.{rules, ◌≡◌, refl, sym, ap, ◌∙◌, filter, Rows, live}
use Rattle.std.specs.Option.{is_some}
use Rattle.std.proofs.lemmas.Fn.{filter_same}
use Rattle.link_waiting.proofs.Idle.Slots.{live_whole}
use Rattle.link_waiting.proofs.Idle.Stands.{stands_closed, marked_now}
use Rattle.link_waiting.proofs.slots.Slots.commit.Given as given
use Rattle.link_waiting.proofs.slots.Slots.commit.Goals as goal

module _ (g : given.Over) (c : goal.After-self-1 g) where
  closed_up : c.commit_kept.new.self.items ≡ filter is_some c.args.self.now.slots.items
  closed_up = filter_same _ is_some _ (λ x b f' k. search rules) _ _ c.commit_kept.ensures.items

pub returns-then-has_many_gaps-clause-now : goal.returns-then-has_many_gaps-clause-now
returns-then-has_many_gaps-clause-now g c = ap live (closed_up g c) ∙ live_whole c.args.self.now.slots.items

pub returns-then-has_many_gaps-clause-before : goal.returns-then-has_many_gaps-clause-before
returns-then-has_many_gaps-clause-before g c =
    ap live (c.commit_kept.ensures.before ∙ closed_up g c) ∙ live_whole c.args.self.now.slots.items

pub returns-then-has_many_gaps-clause-stands : goal.returns-then-has_many_gaps-clause-stands
returns-then-has_many_gaps-clause-stands g c =
    stands_closed c.args.self.now _ c.requires (closed_up g c)
    (ap (λ (rows : Rows). rows.stands) c.close_gaps.ensures.now) c.commit.ensures.items refl refl

pub returns-then-has_many_gaps-clause-marked : goal.returns-then-has_many_gaps-clause-marked
returns-then-has_many_gaps-clause-marked g c =
    marked_now _ (returns-then-has_many_gaps-clause-stands g c) c.commit_kept.ensures.before
    (c.close_gaps.ensures.before ∙ sym c.close_gaps.ensures.now) (c.commit.ensures.before ∙ sym c.commit.ensures.items)
