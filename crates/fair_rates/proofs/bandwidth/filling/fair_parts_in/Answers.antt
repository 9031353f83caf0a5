use Rattle.fair_rates.proofs.Common.{◌≡◌, ℕ, ◌*◌, ◌<◌, ◌∷◌, List, [], All, Option, None, length, map, sym, ap, subst}
use Rattle.fair_rates.proofs.Common.{arith, ◌∙◌, heap_items, length-map, All-nil, product, Side, IsFair}
use Rattle.fair_rates.proofs.Common.{frozen_at, top, IsQueue, IsShareQueue, AreAbove, AllFilled, IsRaised, AreAtTop}
use Rattle.fair_rates.proofs.Common.{flow_parts, side_of, OpenSide}
use Rattle.std.proofs.lemmas.List.{length-replicate}
use Rattle.std.proofs.lemmas.List.Folds.{sum_by-replicate}
use Rattle.fair_rates.proofs.Common.{sum_by}
use Rattle.fair_rates.specs.Filling.States.{rises}
use Rattle.fair_rates.specs.Filling.States.{AreFilled, IsLeast}
use Rattle.fairness.proofs.Filling.Frozen.{some_of_if, match_some, match_none, on_some_of}
use Rattle.fair_rates.proofs.Filling.Levels.{few_more}
use Rattle.fair_rates.proofs.Filling.Steps.{IsCourse, IsTaken, course_none, round, limited, fair}
use Rattle.fair_rates.proofs.bandwidth.filling.fair_parts_in.Goals as goal

pub loop-queue-init : goal.loop-queue-init
loop-queue-init c =
    let sides : List Side = map side_of c.args.sides.now.items in
    let opens = heap_items c.in_ok-queue.queue in
    let new = c.in_ok-renew.ensures in
    let found = c.renew.new.self in
    let opened = c.in_ok-queue.ensures.opened in
    let course =
    course_none sides 1 c.args.count opens (omega arith) opened.queue
    (opened.users c.args.count c.requires.users) c.in_ok-queue.ensures.order in
    record {
      course = subst (λ xs. IsCourse sides (product xs) found.levels.items found.level_of.items opens) (sym new.growth)
          (subst (λ xs. IsCourse sides 1 xs found.level_of.items opens) (sym new.levels)
          (subst (λ xs. IsCourse sides 1 [] xs opens) (sym new.level_of) course));
      grown = omega (arith, new.scale, ap product new.growth);
      factors = subst (All (λ n. 0 < n)) (sym new.growth) (All-nil (λ n. 0 < n));
      one_each = ap length new.level_of ∙ length-replicate {A = Option ℕ} c.args.count None;
      left = omega (arith, ap (sum_by rises) new.level_of, sum_by-replicate rises c.args.count None);
      few = omega (arith, ap length new.levels, c.in_ok-queue.ensures.count);
    }

pub freeze-requires : goal.freeze-requires
freeze-requires c =
    let found = c.loop-queue.found in
    let E = c.deref-in-loop-queue.result.now in
    let same = ap length (c.deref-in-loop-queue.ensures.value ∙ sym c.in_ok-grow.ensures.level_of) in
    let users =
    some_of_if (λ (s : OpenSide). All (λ flow. flow < length E) s.rising.items) c.in_ok-side.field-0
    c.in_ok-side.ensures.users c.in-Some.side c.in-Some.is in
    subst (λ n. All (λ flow. flow < n) c.deref-in-Some.result.now) same
    (subst (All (λ flow. flow < length E)) (sym (c.deref-in-Some.ensures.value
    ∙ ap (λ (s : OpenSide). s.rising.items) c.get.ensures ∙ c.in_ok-share.ensures.rising)) users)

pub next_side-requires-clause-left : goal.next_side-requires-clause-left
next_side-requires-clause-left c =
    omega (arith, c.loop-queue.invariant.left, ap (sum_by rises) c.deref-in-loop-queue.ensures.value)

pub overflow_sub-left : goal.overflow_sub-left
overflow_sub-left c =
    omega (
      arith,
      c.in_ok-left.ensures.fewer,
      c.loop-queue.invariant.left,
      ap (sum_by rises) c.in_ok-grow.ensures.level_of,
    )

pub loop-queue-preserved : goal.loop-queue-preserved
loop-queue-preserved c =
    let sides : List Side = map side_of c.args.sides.now.items in
    let found = c.loop-queue.found in
    let levels = found.levels.items in
    let level_of = found.level_of.items in
    let times = product found.growth.items in
    let course = c.loop-queue.invariant.course in
    let D = c.deref.result.now in
    let E = c.deref-in-loop-queue.result.now in
    let d : D ≡ levels = c.deref.ensures.value in
    let e : E ≡ level_of = c.deref-in-loop-queue.ensures.value in
    let old = heap_items c.loop-queue.queue in
    let side : OpenSide = c.in-Some.side in
    let rest = heap_items c.next_side.new.queue in
    let opens = heap_items c.in_ok-queue-2.queue in
    let o = c.in_ok-side.field-0 in
    let is = c.in-Some.is in
    let next = c.in_ok-side.ensures in
    let queue : IsQueue sides times (frozen_at D E) old =
    subst (λ xs. IsQueue sides times (frozen_at xs E) old) (sym d)
    (subst (λ xs. IsQueue sides times (frozen_at levels xs) old) (sym e) course.queue) in
    let there : IsTaken sides times D E (top levels) side rest = record {
      users = some_of_if (λ (s : OpenSide). All (λ flow. flow < length E) s.rising.items) o next.users side is;
      sound = some_of_if (λ (s : OpenSide). IsShareQueue (length E) (frozen_at D E) rest) o next.sound side is;
      least = some_of_if (λ (s : OpenSide). IsLeast (frozen_at D E) s rest) o next.least side is;
      queue =
          match_some (AllFilled sides (frozen_at D E))
          (λ (s : OpenSide). IsQueue sides times (frozen_at D E) (record { 0 = s } ∷ rest)) o
          (next.queue sides times queue) side is;
      above =
          some_of_if (λ (s : OpenSide). (parts : ℕ) → AreAbove parts old → AreAbove parts (record { 0 = s } ∷ rest)) o
          next.no_lower side is (top levels) course.above;
    } in
    let taken : IsTaken sides times levels level_of (top levels) side rest =
    subst (λ xs. IsTaken sides times xs level_of (top levels) side rest) d
    (subst (λ xs. IsTaken sides times D xs (top levels) side rest) e there) in
    let share = c.in_ok-share.share in
    let after = c.freeze.new.self.levels.items in
    let later = c.freeze.new.self.level_of.items in
    let users =
    c.deref-in-Some.ensures.value ∙ ap (λ (s : OpenSide). s.rising.items) c.get.ensures ∙ c.in_ok-share.ensures.rising in
    let raised : IsRaised (map (λ parts. parts * share.factor) levels) after share.parts =
    subst (λ xs. IsRaised xs after share.parts) c.in_ok-grow.ensures.levels c.in_ok-left.ensures.raised in
    let at_top : AreAtTop side.rising.items level_of later after =
    subst (λ xs. AreAtTop xs level_of later after) users
    (subst (λ xs. AreAtTop c.deref-in-Some.result.now xs later after) c.in_ok-grow.ensures.level_of
    c.in_ok-left.ensures.at_top) in
    let on =
    round sides times share.factor levels after level_of later side rest opens share.parts
    c.in_ok-share.ensures.factor old course taken c.in_ok-queue-2.ensures.grown
    c.in_ok-queue-2.ensures.order c.in_ok-share.ensures.whole raised at_top in
    let scale = c.in_ok-left.ensures.scale ∙ c.in_ok-grow.ensures.scale in
    let growth = ap product c.in_ok-left.ensures.growth ∙ c.in_ok-grow.ensures.growth in
    let fewer = on_some_of o next.fewer side is in
    let few =
    few_more side.rising.items (map (λ parts. parts * share.factor) levels) after level_of later share.parts raised
    at_top in
    record {
      course = subst (λ n. IsCourse sides n after later opens) (sym growth) on;
      grown = omega (arith, scale, ap (λ n. n * share.factor) c.loop-queue.invariant.grown, growth);
      factors =
          subst (All (λ n. 0 < n)) (sym c.in_ok-left.ensures.growth)
          (c.in_ok-grow.ensures.factors c.loop-queue.invariant.factors);
      one_each = at_top.one_each ∙ c.loop-queue.invariant.one_each;
      left = omega (
        arith,
        c.in_ok-left.ensures.fewer,
        c.loop-queue.invariant.left,
        ap (sum_by rises) c.in_ok-grow.ensures.level_of,
      );
      few =
          omega (
            arith,
            few,
            length-map levels (λ (parts : ℕ). parts * share.factor),
            c.in_ok-queue-2.ensures.count,
            fewer,
            c.loop-queue.invariant.few,
          );
    }

pub returns-clause-filled : goal.returns-clause-filled
returns-clause-filled c =
    let sides : List Side = map side_of c.args.sides.now.items in
    let found = c.loop-queue.found in
    let levels = found.levels.items in
    let level_of = found.level_of.items in
    let inv = c.loop-queue.invariant in
    let times = product found.growth.items in
    let course = inv.course in
    let D = c.deref.result.now in
    let E = c.deref-in-loop-queue.result.now in
    let d : D ≡ levels = c.deref.ensures.value in
    let e : E ≡ level_of = c.deref-in-loop-queue.ensures.value in
    let old = heap_items c.loop-queue.queue in
    let rest = heap_items c.next_side.new.queue in
    let queue : IsQueue sides times (frozen_at D E) old =
    subst (λ xs. IsQueue sides times (frozen_at xs E) old) (sym d)
    (subst (λ xs. IsQueue sides times (frozen_at levels xs) old) (sym e) course.queue) in
    let there = match_none (AllFilled sides (frozen_at D E)) (λ (s : OpenSide). IsQueue sides times (frozen_at D E)
    (record { 0 = s } ∷ rest)) c.in_ok-side.field-0 (c.in_ok-side.ensures.queue sides times queue) c.in_default.is in
    let ended : AllFilled sides (frozen_at levels level_of) =
    subst (λ xs. AllFilled sides (frozen_at xs level_of)) d (subst (λ xs. AllFilled sides (frozen_at D xs)) e there) in
    subst (AreFilled sides c.args.count) (sym c.replace.ensures.value) (record {
      parts = record {
        grown = inv.grown;
        factors = inv.factors;
        one_each = inv.one_each;
        inside = course.inside;
        fair =
            subst (λ per. IsFair sides per (flow_parts levels level_of)) (sym inv.grown)
            (fair sides times levels level_of course.some_part course.filled ended);
        limited = limited sides times levels level_of course.some_part course.filled ended;
      };
      rising = course.rising;
      reached = course.reached;
      few = omega (arith, inv.few, length-map c.args.sides.now.items side_of);
    })
