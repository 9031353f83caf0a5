use Rattle.fair_rates.proofs.Common.{◌∷◌, [], ◌∙◌, ap, subst, length-append, arith, Reverse}
use Rattle.fair_rates.proofs.Common.{IsPermutation, IsPermutation-refl, sym, OpenSide, length}
use Rattle.fair_rates.proofs.Filling.Growing.{grown_none, grown_more}
use Rattle.fair_rates.proofs.Filling.Queue.{put_last}
use Rattle.fair_rates.proofs.bandwidth.filling.grown_list.Goals as goal

pub loop-side-init : goal.loop-side-init
loop-side-init c =
    let none = ap (λ (v : _). v.items) c.replace-grown.ensures.value ∙ c.clear.ensures.items in
    record {
      grown = grown_none c.args.factor c.replace-grown.result.items
          (subst (λ os. IsPermutation os c.replace-grown.result.items) none (IsPermutation-refl c.replace-grown.result.items));
      count = omega (arith, ap length none);
    }

pub loop-side-preserved : goal.loop-side-preserved
loop-side-preserved c =
    let new : Reverse OpenSide = record { 0 = c.grow.new.self } in
    let old = c.loop-side.grown.items in
    record {
      grown =
          grown_more c.args.factor c.loop-side.yielded old c.push.new.self.items c.in-Some.field-0 new
          (subst (IsPermutation (new ∷ old)) (sym c.in_ok-push.ensures.items) (put_last new old))
          c.in_ok-grow.ensures c.loop-side.invariant.grown;
      count =
          omega (
            arith,
            ap length c.in_ok-push.ensures.items,
            length-append {A = Reverse OpenSide} old (new ∷ []),
            c.loop-side.invariant.count,
            length-append {A = Reverse OpenSide} c.loop-side.yielded (c.in-Some.field-0 ∷ []),
          );
    }
