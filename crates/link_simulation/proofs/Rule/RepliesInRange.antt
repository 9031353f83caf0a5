-- A call in the range is refused for memory alone, and so are the calls of a list, each with those that were made
-- before it.
use Rattle.link_simulation.proofs.Common.{◌≡◌, ℕ, ◌+◌, ◌<◌, ◌≤◌, ◌^◌, List, [], ◌∷◌, ◌++◌, length, refl, sym, subst}
use Rattle.link_simulation.proofs.Common.{append_assoc, append-nil, arith, IfSome, Ordering, IsTotalOrder, All-nil}
use Rattle.link_simulation.proofs.Common.{Error, OutOfMemory, NumberTooLarge, MomentTooLate, FlowIdsUsedUp, Message}
use Rattle.link_simulation.proofs.Common.{Completed, Course, goes, meets, Call, call_enqueue, call_advance}
use Rattle.link_simulation.proofs.Common.{call_enqueue_all, call_next, moment_of, enqueued, Reply, reply_done}
use Rattle.link_simulation.proofs.Common.{reply_next, reply_refused, Planned, new_planned, Obeys, EnqueuesEach}
use Rattle.link_simulation.proofs.Common.{all_enqueued, one_stops, enqueues_one, IsInRange, MayBeRefused, Obeyed, Each}
use Rattle.link_simulation.proofs.Common.{all_of_each}
use Rattle.std.proofs.lemmas.List.{length-append}
use Rattle.std.proofs.lemmas.List.Elements.{All-head}
use Rattle.link_simulation.specs.Rule.Range.{AreInRange, IsCallInRange}
use Rattle.link_simulation.specs.Laws.Replies.{RefusesForMemoryAlone}
use Rattle.fairness.proofs.Lists.Each.{each_of_all, all_of_both}
use Rattle.link_simulation.proofs.Laws.PairCompletions.{enqueued_split}
use Rattle.link_simulation.proofs.Rule.Range.{Holds, IsNear, GoesWell, rebalances_well, enqueues_well}
use Rattle.link_simulation.proofs.Rule.Range.{advances_well, goes_on}
use Rattle.link_simulation.proofs.Rule.Stepwise.{obeyed_next, obeyed_refused, obeyed_done}

-- ---- calls in the range

abbrev IsSoon : {P : Type 0} → Call P → Type 0
IsSoon call = IfSome (moment_of call) (λ now. now < 2 ^ 63)

enqueued_joined : {P : Type 0} (calls : List (Call P)) (call : Call P)
    → enqueued (calls ++ call ∷ []) ≡ enqueued calls ++ enqueued (call ∷ [])
enqueued_joined [] call = refl
enqueued_joined (first ∷ calls) call = grind (arith, enqueued_split, append_assoc, (enqueued_joined calls call))

-- the calls before the last one are in the range, and so is that one
record IsSplit {P : Type 0} (calls : List (Call P)) (call : Call P) : Type 0 where
  pub before : AreInRange calls
  pub call_itself : AreInRange (call ∷ [])
  pub count : length (enqueued (calls ++ call ∷ [])) ≡ length (enqueued calls) + length (enqueued (call ∷ []))

range_splits : {P : Type 0} (calls : List (Call P)) (call : Call P) → AreInRange (calls ++ call ∷ [])
    → IsSplit calls call
range_splits {P} calls call range = grind (arith, all_of_both, enqueued_joined, length-append)

pub new_in_range : {P : Type 0} (id : ℕ) → id < 2 ^ 64 → IsInRange {P = P} (new_planned id)
new_in_range {P} id fits = record { sending = All-nil _; waiting = All-nil _; ids = omega arith }

module _ {P : Type 0} (cmp : P → P → Ordering) (order : IsTotalOrder cmp) where
  more_room : (most more : ℕ) (room : most < 2 ^ 64) (wide : more < 2 ^ 64) (p : Planned P) → most ≤ more
      → Holds cmp order most room p → Holds cmp order more wide p
  more_room most more room wide p le h = grind arith

  -- messages in the range, one after another
  each_well : {now : ℕ} {ms : List (Message P)} {p : Planned P} {c : Course (Completed P) (Planned P)}
      → EnqueuesEach cmp now ms p c → now < 2 ^ 63 → Each (IsNear {P = P}) ms
      → (most : ℕ) (room : most < 2 ^ 64)
      → p.next_id + length p.waiting + length ms ≤ most → Holds cmp order most room p → GoesWell cmp order most room c
  each_well all_enqueued early near most room fits h = h
  each_well (one_stops one) early near most room fits h =
      enqueues_well cmp order most room one early near.0 (omega arith) h
  each_well (enqueues_one {m = m} {ms = ms} {p = p} {q = q} {cs = cs} {rest = rest} one more) early near most room fits
      h =
      let first : ℕ = p.next_id + length p.waiting + 1 in
      let some : first < 2 ^ 64 = omega arith in
      let narrow : Holds cmp order first some p = grind arith in
      let next = enqueues_well cmp order first some one early near.0 (omega arith) narrow in
      goes_on cmp order most room cs rest
      (each_well more early near.1 most room (omega arith) (more_room first most some room q (omega arith) next))

  -- ---- one call

  module _ (most : ℕ) (room : most < 2 ^ 64) where
    soon : (call : Call P) → AreInRange (call ∷ []) → IsSoon call
    soon call own = All-head (IsSoon {P = P}) call [] own.moments

    -- a call in the range goes, and leaves the planned world in the range
    obeys_well : (p : Planned P) (call : Call P) (c : Course (Completed P) (Planned P)) → AreInRange (call ∷ [])
        → p.next_id + length p.waiting + length (enqueued (call ∷ [])) ≤ most → Holds cmp order most room p
        → Obeys cmp p call c → GoesWell cmp order most room c
    obeys_well p (call_enqueue now m) c own fits h obeys = grind (arith, enqueues_well, soon, All-head)
    obeys_well p (call_enqueue_all now ms) c own fits h obeys = search (each_well, soon, each_of_all, append-nil)
    obeys_well p (call_advance now) c own fits h obeys = advances_well cmp order most room obeys.1 (soon _ own) h
    obeys_well p call_next c own fits h obeys = subst (GoesWell cmp order most room) (sym obeys) h
    obeys_well p call c own fits h obeys = rebalances_well cmp order most room obeys (soon call own) h

    -- and is refused for memory alone
    refused_for_memory : (p : Planned P) (call : Call P) (why : Error) → AreInRange (call ∷ [])
        → p.next_id + length p.waiting + length (enqueued (call ∷ [])) ≤ most → Holds cmp order most room p
        → MayBeRefused cmp p call why → why ≡ OutOfMemory
    refused_for_memory p call OutOfMemory own fits h may = refl
    refused_for_memory p call NumberTooLarge own fits h may = absurd may
    refused_for_memory p call MomentTooLate own fits h may = absurd (obeys_well p call _ own fits h may)
    refused_for_memory p call FlowIdsUsedUp own fits h may = absurd (obeys_well p call _ own fits h may)

  -- ---- the range of a planned world

  holds_in_range : (most : ℕ) (room : most < 2 ^ 64) (p : Planned P) → IsInRange p → p.next_id + length p.waiting ≤ most
      → Holds cmp order most room p
  holds_in_range most room p range fits = grind (arith, each_of_all)

  range_of_holds : (most : ℕ) (room : most < 2 ^ 64) (p : Planned P) → Holds cmp order most room p → IsInRange p
  range_of_holds most room p h = grind (arith, all_of_each)

  -- a call in the range leads from the range to the range
  pub obeys_in_range : (p : Planned P) (call : Call P) (c : Course (Completed P) (Planned P)) → IsCallInRange p call
      → Obeys cmp p call c → (cs : List (Completed P)) × (q : Planned P) × (c ≡ goes cs q) × IsInRange q
  obeys_in_range p call c range obeys =
      let most : ℕ = p.next_id + length p.waiting + length (enqueued (call ∷ [])) in
      by_course most range.messages c (obeys_well most range.messages p call c range.call_itself (omega arith)
      (holds_in_range most range.messages p range.planned (omega arith)) obeys)
    where
      by_course : (most : ℕ) (room : most < 2 ^ 64) (c : Course (Completed P) (Planned P))
          → GoesWell cmp order most room c → (cs : List (Completed P)) × (q : Planned P) × (c ≡ goes cs q) × IsInRange q
      by_course most room (goes cs q) h = (cs, q, refl, range_of_holds most room q h)
      by_course most room (meets fault) h = absurd h

  pub refused_in_range : (p : Planned P) (call : Call P) (why : Error) → IsCallInRange p call
      → MayBeRefused cmp p call why → why ≡ OutOfMemory
  refused_in_range p call why range may =
      let most : ℕ = p.next_id + length p.waiting + length (enqueued (call ∷ [])) in
      refused_for_memory most range.messages p call why range.call_itself (omega arith)
      (holds_in_range most range.messages p range.planned (omega arith)) may

  -- ---- a list of calls

  -- where those calls led to that planned world, it is in the range if they are
  Reached : List (Call P) → Planned P → Type 0
  Reached earlier p = (range : AreInRange earlier) → Holds cmp order (length (enqueued earlier)) range.messages p

  reached_next : (earlier : List (Call P)) (call : Call P) (p q : Planned P) (cs : List (Completed P))
      → Reached earlier p → Obeys cmp p call (goes cs q) → Reached (earlier ++ call ∷ []) q
  unfolding Reached
  reached_next earlier call p q cs reached obeys range =
      let both : IsSplit earlier call = range_splits earlier call range in
      let before : Holds cmp order (length (enqueued earlier)) both.before.messages p = reached both.before in
      obeys_well _ range.messages p call _ both.call_itself (omega arith) (more_room _ _ both.before.messages
      range.messages p (omega arith) before) obeys

  for_memory : (earlier : List (Call P)) (call : Call P) (p : Planned P) (why : Error) → Reached earlier p
      → MayBeRefused cmp p call why → AreInRange (earlier ++ call ∷ []) → why ≡ OutOfMemory
  unfolding Reached
  for_memory earlier call p why reached may range =
      let both : IsSplit earlier call = range_splits earlier call range in
      let before : Holds cmp order (length (enqueued earlier)) both.before.messages p = reached both.before in
      refused_for_memory _ range.messages p call why both.call_itself (omega arith)
      (more_room _ _ both.before.messages range.messages p (omega arith) before) may

  from_there : (calls : List (Call P)) (replies : List (Reply P)) (earlier : List (Call P)) (p : Planned P)
      → Reached earlier p → Obeyed cmp p calls replies → RefusesForMemoryAlone earlier calls replies
  from_there [] replies earlier p reached obeyed = tt
  from_there (call ∷ calls) [] earlier p reached obeyed = tt
  from_there (call ∷ calls) (reply_next next ∷ replies) earlier p reached obeyed =
      from_there calls replies earlier p reached (obeyed_next cmp p calls replies call next obeyed)
  from_there (call ∷ calls) (reply_refused why ∷ replies) earlier p reached obeyed =
      grind (arith, obeyed_refused, for_memory, (from_there calls replies earlier p reached))
  from_there (call ∷ calls) (reply_done cs ∷ replies) earlier p reached obeyed =
      let step = obeyed_done cmp p calls replies call cs obeyed in
      from_there calls replies _ step.1 (reached_next earlier call p step.1 step.0 reached step.2) step.4

  pub refuses_for_memory : (calls : List (Call P)) (replies : List (Reply P)) → Obeyed cmp (new_planned 0) calls replies
      → RefusesForMemoryAlone [] calls replies
  unfolding Reached
  refuses_for_memory calls replies obeyed = grind (arith, from_there)
