use Rattle.fair_rates.proofs.Common.{◌≡◌, ℕ, ◌+◌, ◌*◌, ◌<◌, ◌≤◌, ◌⊎◌, inl, inr, ◌∷◌, length, ap, arith, heap_items}
use Rattle.fair_rates.proofs.Common.{Reverse, common_steps, All-tail, All-weaker, All-permutation, frozen_at}
use Rattle.fair_rates.proofs.Common.{IsWithinSlack, OpenSide}
use Rattle.std.proofs.lemmas.List.Sorted.{sum_by_popped, sum_by_pushed}
use Rattle.fair_rates.proofs.Filling.Account.{risers_have_no_more, all_counted}
use Rattle.fair_rates.proofs.Filling.Queue.{queue_permuted, queue_counted, queue_filled, all_filled, sound_popped}
use Rattle.fair_rates.proofs.Filling.Queue.{sound_pushed, above_counted, least_first, filled_once_frozen}
use Rattle.fair_rates.proofs.Filling.Levels.{frozen_where_none}
use Rattle.fair_rates.proofs.bandwidth.filling.next_side.Goals as goal

unchanged : {P : Type 0} (n m : ℕ) → (n < m) ⊎ (P × (n ≡ m)) → n ≡ m → P
unchanged n m (inl less) same = absurd (omega (arith, less, same))
unchanged n m (inr (p, e)) same = p

fewer : {P : Type 0} (n m : ℕ) → (n < m) ⊎ (P × (n ≡ m)) → (n ≡ m → ⊥) → n < m
fewer n m (inl less) other = less
fewer n m (inr (p, e)) other = absurd (other e)

pub returns-then-is_least-clause-sound : goal.returns-then-is_least-clause-sound
returns-then-is_least-clause-sound c =
    sound_popped (length c.args.level_of.now) (frozen_at c.args.levels.now c.args.level_of.now)
    (heap_items c.loop-least.queue) (heap_items c.pop.new.self) c.in-Some.field-0
    c.in-Some.ensures.permutation (c.in-Some.ensures.heap_order c.loop-least.invariant.sound.order).0
    c.loop-least.invariant.sound

pub is_least-requires-clause-was : goal.is_least-requires-clause-was
is_least-requires-clause-was c same =
    let x : OpenSide = c.in-Some.field-0.0 in
    let new : OpenSide = c.count_frozen.new.self in
    let rest = heap_items c.pop.new.self in
    let len : length new.rising.items ≡ length x.rising.items =
    grind (arith, common_steps, same, c.len-before.ensures) in
    let slack = unchanged {P = new.slack ≡ x.slack} (length new.rising.items) (length x.rising.items)
    c.count_frozen.ensures.counted.changed len in
    All-weaker (λ (o : Reverse OpenSide). x.slack * length o.0.rising.items ≤ o.0.slack * length x.rising.items)
    (λ o. new.slack * length o.0.rising.items ≤ o.0.slack * length new.rising.items)
    (λ o le. omega (arith, le, ap (λ n. n * length o.0.rising.items) slack, ap (λ n. o.0.slack * n) len)) rest
    (least_first c.in-Some.field-0 rest (c.in-Some.ensures.below_top c.loop-least.invariant.sound.order))

pub returns-then-left-eq0-clause-queue : goal.returns-then-left-eq0-clause-queue
returns-then-left-eq0-clause-queue c sides scale queue =
    filled_once_frozen scale (frozen_at c.args.levels.now c.args.level_of.now) sides (length c.args.level_of.now)
    (heap_items c.args.queue.now) c.requires.sound.users
    (frozen_where_none c.args.levels.now c.args.level_of.now
    (omega (arith, c.requires.left, c.if-left-eq0.true))) queue

pub returns-then-is_least-clause-queue : goal.returns-then-is_least-clause-queue
returns-then-is_least-clause-queue c sides scale queue =
    let frozen = frozen_at c.args.levels.now c.args.level_of.now in
    queue_counted scale frozen sides c.in-Some.field-0 (record { 0 = c.count_frozen.new.self })
    (heap_items c.pop.new.self) (λ side account. c.count_frozen.ensures.counted.account side scale account)
    (queue_permuted scale frozen sides (heap_items c.loop-least.queue) (c.in-Some.field-0 ∷ heap_items c.pop.new.self)
    c.in-Some.ensures.permutation (c.loop-least.invariant.queue sides scale queue))

pub returns-then-is_least-clause-no_lower : goal.returns-then-is_least-clause-no_lower
returns-then-is_least-clause-no_lower c parts above =
    above_counted parts (heap_items c.loop-least.queue) (heap_items c.pop.new.self) c.in-Some.field-0
    (record { 0 = c.count_frozen.new.self }) c.in-Some.ensures.permutation
    (c.count_frozen.ensures.counted.no_lower parts) (c.loop-least.invariant.no_lower parts above)

pub loop-least-smaller-in-Continue-1 : goal.loop-least-smaller-in-Continue-1
loop-least-smaller-in-Continue-1 c =
    let work : Reverse OpenSide → ℕ = λ o. 1 + length o.0.rising.items in
    let x = c.in-Some.field-0 in
    let new : Reverse OpenSide = record { 0 = c.count_frozen.new.self } in
    let rest = heap_items c.pop.new.self in
    let len : length new.0.rising.items ≡ length x.0.rising.items → ⊥ = λ same.
    c.is_least.ensures.fewer c.if-is_least.false
    (grind (arith, common_steps, c.len-before.ensures, same)) in
    let less = fewer (length new.0.rising.items) (length x.0.rising.items) c.count_frozen.ensures.counted.changed len in
    omega (
      arith,
      less,
      sum_by_popped work x (heap_items c.loop-least.queue) rest c.in-Some.ensures.permutation,
      sum_by_pushed work new rest (heap_items c.push.new.self) c.in_ok-push.ensures.permutation,
    )

pub loop-least-preserved-in-Continue-1 : goal.loop-least-preserved-in-Continue-1
loop-least-preserved-in-Continue-1 c =
    let flows = length c.args.level_of.now in
    let frozen = frozen_at c.args.levels.now c.args.level_of.now in
    let x = c.in-Some.field-0 in
    let new : Reverse OpenSide = record { 0 = c.count_frozen.new.self } in
    let xs = heap_items c.loop-least.queue in
    let rest = heap_items c.pop.new.self in
    let later = heap_items c.push.new.self in
    let popped = c.in-Some.ensures.permutation in
    let pushed = c.in_ok-push.ensures.permutation in
    let sound =
    sound_popped flows frozen xs rest x popped (c.in-Some.ensures.heap_order c.loop-least.invariant.sound.order).0
    c.loop-least.invariant.sound in
    record {
      sound =
          sound_pushed flows frozen rest later new pushed (c.in_ok-push.ensures.heap_order sound.order)
          c.count_frozen.ensures.counted.users
          (risers_have_no_more frozen new.0.slack new.0.rising.items (c.count_frozen.ensures.rise c.if-count_frozen.true)) sound;
      queue = λ sides scale queue. queue_permuted scale frozen sides (new ∷ rest) later pushed
          (queue_counted scale frozen sides x new rest
          (λ side account. c.count_frozen.ensures.counted.account side scale account)
          (queue_permuted scale frozen sides xs (x ∷ rest) popped (c.loop-least.invariant.queue sides scale queue)));
      no_lower = λ parts above.
          All-permutation (λ (o : Reverse OpenSide). IsWithinSlack parts o.0.slack o.0.rising.items) (new ∷ rest) later
          pushed (above_counted parts xs rest x new popped (c.count_frozen.ensures.counted.no_lower parts)
          (c.loop-least.invariant.no_lower parts above));
      fewer = omega (arith, c.loop-least.invariant.fewer, c.in-Some.ensures.len, c.in_ok-push.ensures.len);
    }

pub loop-least-smaller : goal.loop-least-smaller
loop-least-smaller c =
    let work : Reverse OpenSide → ℕ = λ o. 1 + length o.0.rising.items in
    omega (
      arith,
      sum_by_popped work c.in-Some.field-0 (heap_items c.loop-least.queue) (heap_items c.pop.new.self)
          c.in-Some.ensures.permutation,
    )

pub loop-least-preserved : goal.loop-least-preserved
loop-least-preserved c =
    let flows = length c.args.level_of.now in
    let frozen = frozen_at c.args.levels.now c.args.level_of.now in
    let x = c.in-Some.field-0 in
    let xs = heap_items c.loop-least.queue in
    let rest = heap_items c.pop.new.self in
    let new : OpenSide = c.count_frozen.new.self in
    let popped = c.in-Some.ensures.permutation in
    record {
      sound =
          sound_popped flows frozen xs rest x popped (c.in-Some.ensures.heap_order c.loop-least.invariant.sound.order).0
          c.loop-least.invariant.sound;
      queue = λ sides scale queue. queue_filled scale frozen sides x rest
          (λ side account. all_counted side scale frozen new.slack new.rising.items
          (c.count_frozen.ensures.counted.account side scale account)
          (c.count_frozen.ensures.frozen c.if-count_frozen.false))
          (queue_permuted scale frozen sides xs (x ∷ rest) popped (c.loop-least.invariant.queue sides scale queue));
      no_lower = λ parts above.
          All-tail (λ (o : Reverse OpenSide). IsWithinSlack parts o.0.slack o.0.rising.items) x rest
          (All-permutation (λ (o : Reverse OpenSide). IsWithinSlack parts o.0.slack o.0.rising.items) xs (x ∷ rest)
          popped (c.loop-least.invariant.no_lower parts above));
      fewer = omega (arith, c.loop-least.invariant.fewer, c.in-Some.ensures.len);
    }

pub returns-clause-queue : goal.returns-clause-queue
returns-clause-queue c sides scale queue =
    all_filled scale (frozen_at c.args.levels.now c.args.level_of.now) sides (heap_items c.loop-least.queue)
    (grind (arith, common_steps, c.in_default.ensures.none)) (c.loop-least.invariant.queue sides scale queue)
