use Rattle.link_simulation.proofs.Rule.OneCourse.{course_is_one, advance_is_one}
use Rattle.link_laws.proofs.model.events.a_call_has_one_course_by_the_rule.Goals as goal

pub returns-clause-course : goal.returns-clause-course
returns-clause-course g c = course_is_one g.P.Ord.cmp g.met.P.Ord.total

pub returns-clause-events : goal.returns-clause-events
returns-clause-events g c p now n m e f first second = (advance_is_one g.P.Ord.cmp g.met.P.Ord.total first m f second).0
