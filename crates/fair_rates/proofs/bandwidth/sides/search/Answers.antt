use Rattle.fair_rates.proofs.Common.{refl, sym, ◌∙◌, number_of, subject_of}
use Rattle.fair_rates.proofs.Sides.Registry.{found}
use Rattle.fair_rates.proofs.bandwidth.sides.search.Goals as goal

pub index_mut-requires : goal.index_mut-requires
index_mut-requires g c =
    c.requires.within (subject_of c.args.subject) c.in-Some.number (sym c.find-found.ensures.number ∙ c.in-Some.is)

pub open-requires : goal.open-requires
open-requires g c = record {
  finds = record { within = c.requires.within; order = c.requires.order };
  none = sym c.find-found.ensures.number ∙ c.in_default.is;
  gap = c.find-found.ensures.gap c.in_default.is;
}

pub returns-in-Some-clause-registers : goal.returns-in-Some-clause-registers
returns-in-Some-clause-registers g c =
    let old = c.args.registry.now in
    let s = subject_of c.args.subject in
    record {
      asked = λ asks h. record {
        registered =
            found g.P.Ord.cmp g.met.P.Ord.total asks old.sides.items (number_of g.P.Ord.cmp old) h.registered s
            c.args.place c.args.cap c.in-Some.number c.index_mut.result.now _ _
            (sym c.find-found.ensures.number ∙ c.in-Some.is) c.index_mut.ensures.value refl refl
            c.in_ok-push.ensures.items;
        order = h.order;
      };
      finds = record { within = c.requires.within; order = c.requires.order };
    }

pub returns-clause-registers : goal.returns-clause-registers
returns-clause-registers g c =
    let opened = c.in_ok-open.ensures.registers in
    record {
      asked = λ asks h. opened.asked asks (record { registered = h.registered; order = h.order });
      finds = opened.finds;
    }
