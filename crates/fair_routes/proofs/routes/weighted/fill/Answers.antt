use Rattle.fair_routes.proofs.Common.{◌≡◌, ℕ, ◌*◌, ◌<◌, List, Option, None, All, length, map, get_or, replicate, inl}
use Rattle.fair_routes.proofs.Common.{inr, sym, ap, ◌∙◌, subst, arith, count_by, option_map, is_none, cases_lt}
use Rattle.fair_routes.proofs.Common.{get_or-map, get_or-replicate, length-map, length-replicate, All-nil, All-map}
use Rattle.fair_routes.proofs.Common.{product, Side, side_of, IsFilledTo, frozen_in, AreAllHeld, HasLeastRoom}
use Rattle.fair_routes.proofs.Common.{HasFrozen, weighted, Room, with_items, get_or_past, with_items_is}
use Rattle.std.proofs.Math.Nat.{mul-pos}
use Rattle.fair_routes.specs.declared.routes.sides.LinkSide as declared
use Rattle.fairness.proofs.Filling.Frozen.{match_some, match_none}
use Rattle.fairness.proofs.Filling.Rounds.{start}
use Rattle.fair_routes.proofs.Network.ByWeight.{round_on, fewer_rise, fair_at_end, limited_at_end}
use Rattle.fair_routes.proofs.routes.weighted.fill.Goals as goal

pub loop-rising-init : goal.loop-rising-init
loop-rising-init c =
    let rising = c.in_ok-rising.rising in
    let new = c.in_ok-rising.ensures in
    let n = length c.args.weights.now in
    let none : (flow : ℕ) → frozen_in rising.parts.items flow ≡ None = λ flow.
    ap (λ xs. frozen_in xs flow) new.parts ∙ (elim (cases_lt flow n) [
      | inl inside ↦ get_or-replicate n flow None None inside
      | inr past ↦ get_or_past (replicate n None) flow None (omega (arith, past, length-replicate {A = Option ℕ} n None))
    ]) in
    record {
      some = omega (arith, new.scale);
      grown = omega (arith, new.scale, ap product new.growth);
      factors = subst (All (λ n. 0 < n)) (sym new.growth) (All-nil (λ n. 0 < n));
      one_each = ap length new.parts ∙ length-replicate {A = Option ℕ} n None;
      course = (
        0,
        start (map (weighted c.args.weights.now) (map side_of c.args.sides.now)) rising.scale
            (frozen_in rising.parts.items) none,
      );
    }

pub freeze-requires : goal.freeze-requires
freeze-requires c =
    let code = c.args.sides.now in
    let sides : List Side = map side_of code in
    let weights = c.args.weights.now in
    let inv = c.loop-rising.invariant in
    let rising = c.loop-rising.rising in
    let parts = rising.parts.items in
    let room : Room = c.in-Some.least in
    let there = c.deref.result.now in
    let found = match_some (AreAllHeld weights (frozen_in there) sides) (HasLeastRoom weights rising.scale
    (frozen_in there) sides) c.in_ok-least.field-0 c.in_ok-least.ensures room c.in-Some.is in
    let least : HasLeastRoom weights rising.scale (frozen_in parts) sides room =
    subst (λ xs. HasLeastRoom weights rising.scale (frozen_in xs) sides room) c.deref.ensures.value found in
    let item : declared.LinkSide = c.index-sides-least.result in
    let inside : room.place < length code = omega (arith, least.inside, length-map code side_of) in
    let is_item : item ≡ get_or code room.place item = c.index-sides-least.is in
    let mid = c.grow.new.self.parts.items in
    let is_mid : mid ≡ map (option_map (λ n. n * c.in_ok-next.next.factor)) parts = c.in_ok-grow.ensures.parts in
    let of_mid : c.deref_mut.result.now ≡ mid = c.deref_mut.ensures.value in
    let of_users = c.deref-in-Some.ensures.value ∙ sym (ap (λ (s : declared.LinkSide). s.users.items) is_item) in
    let users : All (λ u. u < length weights) item.users.items =
    subst (λ (s : declared.LinkSide). All (λ u. u < length weights) s.users.items) (sym is_item)
    (c.requires.users room.place item inside) in
    let many : length c.deref_mut.result.now ≡ length weights =
    ap length (of_mid ∙ is_mid) ∙ length-map parts (option_map (λ n. n * c.in_ok-next.next.factor)) ∙ inv.one_each in
    subst (λ n. All (λ u. u < n) c.deref-in-Some.result.now) (sym many)
    (subst (All (λ u. u < length weights)) (sym of_users) users)

pub loop-rising-smaller : goal.loop-rising-smaller
loop-rising-smaller c =
    let code = c.args.sides.now in
    let sides : List Side = map side_of code in
    let weights = c.args.weights.now in
    let inv = c.loop-rising.invariant in
    let rising = c.loop-rising.rising in
    let parts = rising.parts.items in
    let room : Room = c.in-Some.least in
    let there = c.deref.result.now in
    let found = match_some (AreAllHeld weights (frozen_in there) sides) (HasLeastRoom weights rising.scale
    (frozen_in there) sides) c.in_ok-least.field-0 c.in_ok-least.ensures room c.in-Some.is in
    let least : HasLeastRoom weights rising.scale (frozen_in parts) sides room =
    subst (λ xs. HasLeastRoom weights rising.scale (frozen_in xs) sides room) c.deref.ensures.value found in
    let item : declared.LinkSide = c.index-sides-least.result in
    let inside : room.place < length code = omega (arith, least.inside, length-map code side_of) in
    let is_item : item ≡ get_or code room.place item = c.index-sides-least.is in
    let mid = c.grow.new.self.parts.items in
    let is_mid : mid ≡ map (option_map (λ n. n * c.in_ok-next.next.factor)) parts = c.in_ok-grow.ensures.parts in
    let of_mid : c.deref_mut.result.now ≡ mid = c.deref_mut.ensures.value in
    let of_users = c.deref-in-Some.ensures.value ∙ sym (ap (λ (s : declared.LinkSide). s.users.items) is_item) in
    let share = c.in_ok-next.next.parts in
    let factor = c.in_ok-next.next.factor in
    let after = c.freeze.new.parts in
    let frozen : HasFrozen item.users.items mid after share =
    subst (λ us. HasFrozen us mid after share) of_users
    (subst (λ xs. HasFrozen c.deref-in-Some.result.now xs after share) of_mid c.in_ok-freeze.ensures) in
    let now = with_items_is c.grow.new.self.parts after (omega (arith, c.freeze.auto.parts, c.deref_mut.ensures.len)) in
    let is_side = get_or-map side_of code room.place item (side_of item) inside ∙ ap side_of (sym is_item) in
    let among = All-map (λ (s : Side). All (λ u. u < length weights) s.users) side_of code c.requires.users in
    let fewer =
    fewer_rise weights sides c.requires.positive among rising.scale inv.course.0 parts mid after factor share room least
    (side_of item) is_side c.in_ok-next.ensures.whole is_mid frozen in
    omega (arith, fewer, ap (count_by is_none) now)

pub loop-rising-preserved : goal.loop-rising-preserved
loop-rising-preserved c =
    let code = c.args.sides.now in
    let sides : List Side = map side_of code in
    let weights = c.args.weights.now in
    let inv = c.loop-rising.invariant in
    let rising = c.loop-rising.rising in
    let parts = rising.parts.items in
    let room : Room = c.in-Some.least in
    let there = c.deref.result.now in
    let found = match_some (AreAllHeld weights (frozen_in there) sides) (HasLeastRoom weights rising.scale
    (frozen_in there) sides) c.in_ok-least.field-0 c.in_ok-least.ensures room c.in-Some.is in
    let least : HasLeastRoom weights rising.scale (frozen_in parts) sides room =
    subst (λ xs. HasLeastRoom weights rising.scale (frozen_in xs) sides room) c.deref.ensures.value found in
    let item : declared.LinkSide = c.index-sides-least.result in
    let inside : room.place < length code = omega (arith, least.inside, length-map code side_of) in
    let is_item : item ≡ get_or code room.place item = c.index-sides-least.is in
    let mid = c.grow.new.self.parts.items in
    let is_mid : mid ≡ map (option_map (λ n. n * c.in_ok-next.next.factor)) parts = c.in_ok-grow.ensures.parts in
    let of_mid : c.deref_mut.result.now ≡ mid = c.deref_mut.ensures.value in
    let of_users = c.deref-in-Some.ensures.value ∙ sym (ap (λ (s : declared.LinkSide). s.users.items) is_item) in
    let share = c.in_ok-next.next.parts in
    let factor = c.in_ok-next.next.factor in
    let after = c.freeze.new.parts in
    let frozen : HasFrozen item.users.items mid after share =
    subst (λ us. HasFrozen us mid after share) of_users
    (subst (λ xs. HasFrozen c.deref-in-Some.result.now xs after share) of_mid c.in_ok-freeze.ensures) in
    let now = with_items_is c.grow.new.self.parts after (omega (arith, c.freeze.auto.parts, c.deref_mut.ensures.len)) in
    let is_side = get_or-map side_of code room.place item (side_of item) inside ∙ ap side_of (sym is_item) in
    let among = All-map (λ (s : Side). All (λ u. u < length weights) s.users) side_of code c.requires.users in
    let scale : c.grow.new.self.scale ≡ rising.scale * factor = c.in_ok-grow.ensures.scale in
    let filled =
    round_on weights sides c.requires.positive among rising.scale inv.course.0 parts mid after factor share room least
    (side_of item) is_side c.in_ok-next.ensures.whole is_mid frozen inv.course.1 in
    let wide = map (weighted weights) sides in
    record {
      some = subst (λ n. 0 < n) (sym scale) (mul-pos inv.some c.in_ok-next.ensures.factor);
      grown = omega (arith, scale, ap (λ n. n * factor) inv.grown, c.in_ok-grow.ensures.growth);
      factors = c.in_ok-grow.ensures.factors inv.factors;
      one_each = ap length now ∙ frozen.one_each ∙ ap length is_mid
          ∙ length-map parts (option_map (λ n. n * factor)) ∙ inv.one_each;
      course = (
        share,
        subst (λ n. IsFilledTo wide n (frozen_in (with_items c.grow.new.self.parts after).items) share) (sym scale)
            (subst (λ xs. IsFilledTo wide (rising.scale * factor) (frozen_in xs) share) (sym now) filled),
      );
    }

pub returns : goal.returns
returns c =
    let inv = c.loop-rising.invariant in
    let rising = c.loop-rising.rising in
    let weights = c.args.weights.now in
    let sides : List Side = map side_of c.args.sides.now in
    let parts = c.deref.result.now in
    let frozen : ℕ → Option ℕ = frozen_in rising.parts.items in
    let there = match_none (AreAllHeld weights (frozen_in parts) sides) (HasLeastRoom weights rising.scale
    (frozen_in parts) sides) c.in_ok-least.field-0 c.in_ok-least.ensures c.in_default.is in
    let all : AreAllHeld weights frozen sides =
    subst (λ xs. AreAllHeld weights (frozen_in xs) sides) c.deref.ensures.value there in
    let among = All-map (λ (s : Side). All (λ u. u < length weights) s.users) side_of c.args.sides.now c.requires.users in
    let positive : (u : ℕ) → u < length weights → 0 < get_or weights u 0 = λ u inside. c.requires.positive u 0 inside in
    record {
      grown = inv.grown;
      factors = inv.factors;
      one_each = inv.one_each;
      fair = fair_at_end weights sides positive among rising.scale inv.course.0 frozen inv.some inv.course.1 all;
      limited = limited_at_end weights sides positive among rising.scale inv.course.0 frozen inv.some inv.course.1 all;
    }
