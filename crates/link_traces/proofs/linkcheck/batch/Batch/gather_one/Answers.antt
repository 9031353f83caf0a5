use Rattle.link_traces.proofs.Common.{rules, ◌≡◌, ◌++◌, ◌∷◌, [], batch_calls}
use Rattle.link_traces.proofs.Batching.{front_more, in_range_more}
use Rattle.link_traces.proofs.linkcheck.batch.Batch.gather_one.Goals as goal

pub returns-clause-front : goal.returns-clause-front
returns-clause-front c =
    let calls : batch_calls c.push.new.self ≡ batch_calls c.args.self.now ++ c.in-Some-call.call ∷ [] = search rules in
    front_more c.args.self.now (record c.push.new.self { length = c.in-Some.after }) c.args.ahead.now c.in-Some.line.now c.in-Some-call.call c.requires.front
    c.in-Some.ensures.cut c.in-Some-call.ensures.0 calls

pub returns-clause-in_range : goal.returns-clause-in_range
returns-clause-in_range c =
    let calls : batch_calls c.push.new.self ≡ batch_calls c.args.self.now ++ c.in-Some-call.call ∷ [] = search rules in
    in_range_more (batch_calls c.args.self.now) (batch_calls c.push.new.self) c.in-Some-call.call c.requires.in_range
    c.in-Some-call.ensures.1 calls
