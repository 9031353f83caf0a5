use Rattle.link_traces.proofs.Common.{◌++◌, Ok, ap, sym, subst, ◌∙◌, batch_lines, IsFront}
use Rattle.link_traces.proofs.Reading.{front_taken}
use Rattle.link_traces.proofs.Tracing.{no_batch_taken, batch_stays_taken}
use Rattle.link_traces.proofs.linkcheck.take_batch.Goals as goal

pub returns-then-alone-gt0-clause-taken : goal.returns-then-alone-gt0-clause-taken
returns-then-alone-gt0-clause-taken g c = λ is. no_batch_taken _ _

pub returns-then-count-eq0-clause-taken : goal.returns-then-count-eq0-clause-taken
returns-then-count-eq0-clause-taken g c = λ is. no_batch_taken _ _

pub returns-in-Silently-clause-taken : goal.returns-in-Silently-clause-taken
returns-in-Silently-clause-taken g c =
    let ahead = subst (IsFront c.gather.new.self) c.buffer.ensures c.gather.ensures.front in
    λ is. record {
      text = batch_lines c.gather.new.self;
      taken = front_taken g.R.Read.remaining c.args.input.now c.consume.new.self (batch_lines c.gather.new.self)
          (ahead ∙ ap (λ bs. batch_lines c.gather.new.self ++ bs) (sym c.consume.ensures.buffer))
          c.consume.ensures.inner c.consume.ensures.capacity;
      goes_on = c.in_ok-send.ensures.silent (ap Ok c.in-Silently.is);
      turns = c.send.ensures.turns;
    }

pub returns-in-NotAtOnce-clause-taken : goal.returns-in-NotAtOnce-clause-taken
returns-in-NotAtOnce-clause-taken g c =
    λ is. batch_stays_taken _ c.args.checker.now c.send.new.self
    (c.in_ok-send.ensures.kept (ap Ok c.in-NotAtOnce.is)) c.send.ensures.turns
