-- What waits in the slots, as callers see it.
use Rattle.link_waiting.proofs.Common.{◌≡◌, ℕ, Bool, true, false, cond, List, map, Option, Some, None, refl, sym, ap}
use Rattle.link_waiting.proofs.Common.{◌∙◌, Result, Ok, Err, OnOk, subst, option_map, option_and_then, each_of_all, find, Ordering, IsTotalOrder}
use Rattle.link_waiting.proofs.Common.{without_first, same_pair, with_link, AreInPairOrder, first_of, number_of_pair}
use Rattle.link_waiting.proofs.Common.{Slot, Waiter, live, is_of, has_number, AreKept, AreNumbered, IsToldAnew, told_of}
use Rattle.link_waiting.proofs.Common.{queue_of, since_of, waits_of, Slots, Stands, Marked, moment_at}
use Rattle.std.proofs.Common.{All}
use Rattle.std.specs.Result.{is_err}
use Rattle.link_waiting.specs.Idle.Waits.{Waits, AllWaits, none_waits, waits_in}
use Rattle.link_waiting.proofs.Idle.Waiting.{in_pair_order, first_waits, without_waits, one_of}
use Rattle.link_waiting.proofs.Idle.Numbered.{AreAlike, find_alike, without_alike}
use Rattle.link_waiting.proofs.Idle.Told.{since_alike, since_missing, since_anew}

module _ {P : Type 0} (cmp : P → P → Ordering) (given_up : Bool) (slots : Slots P) (value : AllWaits P)
    (is : waits_of cmp given_up slots ≡ value) where
  abbrev ws : List (Waiter P)
  ws = live slots.slots.items

  abbrev in_all : Bool → Waits P
  in_all b = (let now : Waits P = cond b none_waits (waits_in cmp slots.sinces.items ws) in now)

  module _ (up : given_up ≡ false) where
    pub messages_are : queue_of cmp ws ≡ value.messages
    messages_are = sym (ap (λ b. (in_all b).messages) up) ∙ ap (λ (v : AllWaits P). v.messages) is

    pub told_are : map (told_of slots.sinces.items) ws ≡ value.told
    told_are = sym (ap (λ b. (in_all b).told) up) ∙ ap (λ (v : AllWaits P). v.told) is

  pub in_order : IsTotalOrder cmp → AreInPairOrder cmp value.messages
  in_order order = by given_up refl
    where
      by : (b : Bool) → given_up ≡ b → AreInPairOrder cmp value.messages
      by true e = subst (AreInPairOrder cmp) (sym (ap (λ b. (in_all b).messages) e) ∙ ap (λ (v : AllWaits P). v.messages) is) tt
      by false e = subst (AreInPairOrder cmp) (messages_are e) (in_pair_order cmp order ws)

module _ {P : Type 0} (cmp : P → P → Ordering) (order : IsTotalOrder cmp) (o r : P) (number : Option ℕ)
    (given_up : Bool) (slots : Slots P) (value : AllWaits P) (is : waits_of cmp given_up slots ≡ value)
    (up : given_up ≡ false)
    (alike : All (λ w. is_of cmp o r w ≡ has_number number w) (live slots.slots.items)) where
  abbrev each : AreAlike (is_of cmp o r) (has_number number) (live slots.slots.items)
  each = each_of_all _ (live slots.slots.items) alike

  -- the first one of the pair
  pub first_seen : first_of cmp value.messages o r
      ≡ option_map (λ w. w.message) (find (has_number number) (live slots.slots.items))
  first_seen =
      ap (λ messages. first_of cmp messages o r) (sym (messages_are cmp given_up slots value is up)) ∙ first_waits cmp
      order o r _ ∙ ap (option_map _) (find_alike _ _ _ each)

  -- and the others
  pub rest_seen : queue_of cmp (without_first (has_number number) (live slots.slots.items))
      ≡ without_first (same_pair cmp (one_of cmp order o r)) value.messages
  rest_seen =
      ap (queue_of cmp) (sym (without_alike _ _ _ each)) ∙ without_waits cmp order o r _ ∙ ap
      (without_first (same_pair cmp (one_of cmp order o r))) (messages_are cmp given_up slots value is up)

  -- what is told of the pair
  pub since_seen : Stands slots → option_and_then (moment_at slots.sinces.items) number ≡ since_of cmp value.told o r
  since_seen stands =
      sym (since_alike cmp slots.sinces.items (live slots.slots.items) stands.told o r number each)
      ∙ ap (λ told. since_of cmp told o r) (told_are cmp given_up slots value is up)

module _ {P : Type 0} (cmp : P → P → Ordering) (order : IsTotalOrder cmp) (pairs : List (P × P)) (o r : P)
    (given_up : Bool) (slots : Slots P) (value : AllWaits P) (is : waits_of cmp given_up slots ≡ value)
    (up : given_up ≡ false) (kept : AreKept cmp pairs slots) where
  abbrev Link : (P → P → Option ℕ) → Option ℕ → Type 0
  Link since moment = since ≡ with_link cmp (since_of cmp value.told) o r moment

  -- of the pair none waits, and nothing is told
  pub none_told : All (λ w. is_of cmp o r w ≡ has_number None w) (live slots.slots.items) → Link (since_of cmp value.told) None
  none_told alike =
      subst (λ told. since_of cmp told ≡ with_link cmp (since_of cmp told) o r None) (told_are cmp given_up slots value is up)
      (since_missing cmp slots.sinces.items (live slots.slots.items) kept.stands.told order o r (each_of_all _ _ alike))

  -- another moment is told of the pair
  pub anew_told : (new : Slots P) (pair : ℕ) (moment : Option ℕ) → AreKept cmp pairs new
      → number_of_pair cmp pairs o r ≡ Some pair → IsToldAnew pair moment slots.sinces.items new.sinces.items
      → Link (since_of cmp (waits_of cmp given_up new).told) moment
  anew_told new pair moment more number anew =
      ap (since_of cmp) (sym (told_are cmp given_up new (waits_of cmp given_up new) refl up)) ∙ since_anew cmp order
      pairs slots.sinces.items new.sinces.items _ _ kept.stands.told kept.now more.stands.told more.now o r pair moment
      number anew ∙ ap (λ told. with_link cmp (since_of cmp told) o r moment) (told_are cmp given_up slots value is up)

-- ---- what is kept

module _ {P : Type 0} (cmp : P → P → Ordering) (pairs : List (P × P)) where
  pub kept_changed : (old new : Slots P) → AreKept cmp pairs old → Stands new → Marked new
      → AreNumbered cmp pairs (live new.slots.items) → new.slots.before ≡ old.slots.before → AreKept cmp pairs new
  kept_changed old new kept stands marked now before = record {
    stands = stands;
    marked = marked;
    now = now;
    before = subst (λ (slots : List (Option (Slot P))). AreNumbered cmp pairs (live slots)) (sym before) kept.before;
  }

  -- taken back
  pub kept_back : (mid new : Slots P) → AreNumbered cmp pairs (live mid.slots.before) → Stands new → Marked new
      → new.slots.items ≡ mid.slots.before → new.slots.before ≡ mid.slots.before → AreKept cmp pairs new
  kept_back mid new numbered stands marked now before = record {
    stands = stands;
    marked = marked;
    now = subst (λ (slots : List (Option (Slot P))). AreNumbered cmp pairs (live slots)) (sym now) numbered;
    before = subst (λ (slots : List (Option (Slot P))). AreNumbered cmp pairs (live slots)) (sym before) numbered;
  }

  -- a mark is set
  pub kept_marked : (old new : Slots P) → AreKept cmp pairs old → Stands new → Marked new
      → live new.slots.items ≡ live old.slots.items → live new.slots.before ≡ live old.slots.items → AreKept cmp pairs new
  kept_marked old new kept stands marked now before = record {
    stands = stands;
    marked = marked;
    now = subst (AreNumbered cmp pairs) (sym now) kept.now;
    before = subst (AreNumbered cmp pairs) (sym before) kept.now;
  }

pub on_ok : {A E Q : Type 0} (r : Result A E) → is_err r ≡ false → OnOk r Q → Q
on_ok (Ok a) e q = q
on_ok (Err a) e q = cc
