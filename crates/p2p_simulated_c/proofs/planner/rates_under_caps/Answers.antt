use Rattle.p2p_simulated_c.proofs.Common.{IfOk-weaker, IfErr-weaker}
use Rattle.std.specs.Fn.{CalledAt, CalledAtTwo}
use Rattle.p2p_simulated_c.proofs.Planning.{planned, refused}
use Rattle.p2p_simulated_c.proofs.planner.rates_under_caps.Goals as goal

pub returns-clause-plan : goal.returns-clause-plan
returns-clause-plan g c = IfOk-weaker c.allocate_linked_counted.result _ _
    (λ answer counted caps by. planned (CalledAt g.E.FnMut) (CalledAt g.I.FnMut) (CalledAtTwo g.L.FnMut)
    c.answers_are_those_of_the_caps.ensures.linked _ _ caps by _ _ counted)
    c.allocate_linked_counted.ensures.counted

pub returns-clause-refused : goal.returns-clause-refused
returns-clause-refused g c = IfErr-weaker c.allocate_linked_counted.result _ _
    (λ why cause caps by. refused (CalledAt g.E.FnMut) (CalledAt g.I.FnMut) (CalledAtTwo g.L.FnMut)
    c.answers_are_those_of_the_caps.ensures.linked _ _ caps by why cause)
    c.allocate_linked_counted.ensures.refused
