use Rattle.std.proofs.Common.{◌∙◌, arith}
use Rattle.link_pairs.proofs.Pairs.ByNumber.{filled_more}
use Rattle.link_pairs.proofs.room.fill_up_to.Goals as goal

pub loop-item-preserved : goal.loop-item-preserved
loop-item-preserved g c = record {
  filled =
      filled_more c.args.items.now.items c.loop-item.items.items c.push.new.self.items c.args.item c.args.place
      c.loop-item.invariant.filled (omega (arith, c.len.ensures.items)) c.in_ok-push.ensures.items;
  before = c.push.ensures.before ∙ c.loop-item.invariant.before;
}
