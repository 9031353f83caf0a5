use Rattle.link_laws.proofs.model.meanings.a_course_ends_with_what_holds_there.Goals as goal

pub returns : goal.returns
returns g c law cs w h = h
