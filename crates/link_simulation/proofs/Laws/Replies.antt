-- Replies that agree with the simulation, to calls in turn, keep the order of each pair and isolate sets of peers.
use Rattle.link_simulation.proofs.Common.{arith, ◌≡◌, ℕ, zero, suc, List, [], ◌∷◌, Bool, Option, Some, None}
use Rattle.link_simulation.proofs.Common.{refl, IfSome, filter, AllZip, Ordering, IsTotalOrder, Message, new_world}
use Rattle.link_simulation.proofs.Common.{Completed, Call, Reply, reply_done, reply_next, reply_refused, SameCompletion}
use Rattle.link_simulation.proofs.Common.{Agrees, made, completions_in, answered, IsCompletionOf, NeverGoDown}
use Rattle.link_simulation.proofs.Common.{InTime, Completes, zip-append, zip-filter, by_bool}
use Rattle.link_simulation.proofs.Simulation.Queue.{both_alike}
use Rattle.link_simulation.proofs.Simulation.AlikeMessages.{same_itself, peers_alike}
use Rattle.std.specs.Prelude.{take}
use Rattle.link_simulation.specs.Laws.PairCompletions.{NoneBefore, completes_pair, IsInPairOrder}
use Rattle.link_simulation.specs.Laws.Isolation.{IsSet, NothingElse, inside_alone, is_kept, kept_completions}
use Rattle.link_simulation.specs.Laws.Replies.{AlwaysSoFar, CompletesInOrder, CompletePairsInOrder, IsolateSets}
use Rattle.link_simulation.proofs.Laws.PairCompletions.{pair_in_order}
use Rattle.link_simulation.proofs.Laws.IsolatedCalls.{isolation}
use Rattle.link_simulation.proofs.Laws.MadeCalls.{Bridged, made_in_turn, any_turn}

-- ---- lists

answered_alike : {X Y : Type 0} (R : X → Y → Type 0) (xss : List (List X)) (yss : List (List Y))
    → AllZip (AllZip R) xss yss → AllZip R (answered xss) (answered yss)
answered_alike R [] [] all = tt
answered_alike R [] (ys ∷ yss) all = absurd all
answered_alike R (xs ∷ xss) [] all = absurd all
answered_alike R (xs ∷ xss) (ys ∷ yss) all = zip-append R xs _ ys _ all.0 (answered_alike R xss yss all.1)

none_alike : {X Y : Type 0} (R : X → Y → Type 0) (xs : List X) (ys : List Y) → AllZip R xs ys → ys ≡ [] → xs ≡ []
none_alike R [] ys all e = refl
none_alike R (x ∷ xs) [] all e = absurd all
none_alike R (x ∷ xs) (y ∷ ys) all e = cc

if_more : {X : Type 0} (A B : X → Type 0) (o : Option X) → ((x : X) → A x → B x) → IfSome o A → IfSome o B
if_more A B None more h = tt
if_more A B (Some x) more h = more x h

-- ---- calls in time

first_in_time : {P : Type 0} (n : ℕ) (calls : List (Call P)) → InTime calls → InTime (take n calls)
first_in_time zero calls in_time = tt
first_in_time (suc n) [] in_time = tt
first_in_time (suc n) (call ∷ calls) in_time = (in_time.0, first_in_time n calls in_time.1)

made_in_time : {P : Type 0} (calls : List (Call P)) (replies : List (Reply P)) → InTime calls
    → InTime (made calls replies)
made_in_time [] replies in_time = tt
made_in_time (call ∷ calls) [] in_time = tt
made_in_time (call ∷ calls) (reply_done cs ∷ replies) in_time = (in_time.0, made_in_time calls replies in_time.1)
made_in_time (call ∷ calls) (reply_next next ∷ replies) in_time = made_in_time calls replies in_time.1
made_in_time (call ∷ calls) (reply_refused why ∷ replies) in_time = made_in_time calls replies in_time.1

module _ {P : Type 0} (cmp : P → P → Ordering) (order : IsTotalOrder cmp) where
  -- ---- completions that are the same

  completes_alike : (k : Message P) (c d : Completed P) → SameCompletion cmp c d
      → completes_pair cmp k c ≡ completes_pair cmp k d
  completes_alike k c d same = grind (arith, both_alike, peers_alike, same_itself)

  completions_of : (cs ds : List (Completed P)) (ms : List (Message P)) → AllZip (SameCompletion cmp) cs ds
      → AllZip IsCompletionOf ds ms → AllZip (Completes cmp) cs ms
  completions_of [] [] ms same all = all
  completions_of [] (d ∷ ds) ms same all = absurd same
  completions_of (c ∷ cs) [] ms same all = absurd same
  completions_of (c ∷ cs) (d ∷ ds) [] same all = absurd all
  completions_of (c ∷ cs) (d ∷ ds) (m ∷ ms) same all = grind (arith, (completions_of cs ds ms))

  none_before : (t : ℕ) (cs ds : List (Completed P)) → AllZip (SameCompletion cmp) cs ds → NoneBefore t ds
      → NoneBefore t cs
  none_before t [] ds same none = tt
  none_before t (c ∷ cs) [] same none = absurd same
  none_before t (c ∷ cs) (d ∷ ds) same none = grind (arith, (none_before t cs ds))

  never_down : (cs ds : List (Completed P)) → AllZip (SameCompletion cmp) cs ds → NeverGoDown ds → NeverGoDown cs
  never_down [] ds same never = tt
  never_down (c ∷ cs) [] same never = absurd same
  never_down (c ∷ cs) (d ∷ ds) same never = grind (arith, if_more, none_before, (never_down cs ds))

  in_order_alike : (k : Message P) (messages : List (Message P)) (cs ds : List (Completed P))
      → AllZip (SameCompletion cmp) cs ds → IsInPairOrder cmp k messages ds → CompletesInOrder cmp k messages cs
  in_order_alike k messages cs ds same order_of =
      let those = zip-filter _ _ _ (completes_alike k) cs ds same in
      grind (
        arith,
        (completions_of (filter (completes_pair cmp k) cs) (filter (completes_pair cmp k) ds) order_of.done
            those order_of.completions_are),
        (never_down (filter (completes_pair cmp k) cs) (filter (completes_pair cmp k) ds) those order_of.deliveries),
      )

  pub pairs_complete_in_order : (calls : List (Call P)) (replies : List (Reply P))
      → Agrees cmp (new_world 0) calls replies → AlwaysSoFar (CompletePairsInOrder cmp) calls replies
  pairs_complete_in_order calls replies agrees n k turns =
      let bridged : Bridged cmp order (new_world 0) (take n calls) (take n replies) = grind (arith, made_in_turn) in
      in_order_alike k _ _ (answered bridged.0) (answered_alike _ _ bridged.0 bridged.2)
      (pair_in_order cmp order k 0 (made (take n calls) (take n replies)) bridged.0 (any_turn cmp order bridged.1))

  -- ---- a set of peers

  module _ (inside : P → Bool) (together : IsSet cmp inside) where
    alone_alike : (cs ds : List (Completed P)) → AllZip (SameCompletion cmp) cs ds
        → AllZip (SameCompletion cmp) (inside_alone inside cs) (inside_alone inside ds)
    alone_alike cs ds same = zip-filter _ _ _ (λ c d one. together c.origin d.origin one.origin) cs ds same

    kept_alike : (calls : List (Call P)) (css dss : List (List (Completed P)))
        → AllZip (AllZip (SameCompletion cmp)) css dss
        → AllZip (AllZip (SameCompletion cmp)) (kept_completions inside calls css) (kept_completions inside calls dss)
    kept_alike [] css dss same = tt
    kept_alike (call ∷ calls) [] [] same = tt
    kept_alike (call ∷ calls) [] (ds ∷ dss) same = absurd same
    kept_alike (call ∷ calls) (cs ∷ css) [] same = absurd same
    kept_alike (call ∷ calls) (cs ∷ css) (ds ∷ dss) same = grind (arith, alone_alike, (kept_alike calls css dss))

    nothing_alike : (calls : List (Call P)) (css dss : List (List (Completed P)))
        → AllZip (AllZip (SameCompletion cmp)) css dss → NothingElse inside calls dss → NothingElse inside calls css
    nothing_alike [] css dss same nothing = tt
    nothing_alike (call ∷ calls) [] dss same nothing = tt
    nothing_alike (call ∷ calls) (cs ∷ css) [] same nothing = absurd same
    nothing_alike (call ∷ calls) (cs ∷ css) (ds ∷ dss) same nothing = (
      by_bool (is_kept inside call) (λ is. rw is tt)
          (λ is. rw is (
          none_alike (SameCompletion cmp) (inside_alone inside cs) (inside_alone inside ds) (alone_alike cs ds same.0)
          (rw is at nothing.0))),
      nothing_alike calls css dss same.1 nothing.1,
    )

  pub sets_are_isolated : (calls : List (Call P)) (replies : List (Reply P)) → InTime calls
      → Agrees cmp (new_world 0) calls replies → AlwaysSoFar (IsolateSets cmp) calls replies
  sets_are_isolated calls replies in_time agrees n inside together apart turns =
      let bridged : Bridged cmp order (new_world 0) (take n calls) (take n replies) = grind (arith, made_in_turn) in
      let calls_made = made (take n calls) (take n replies) in
      let isolated = isolation cmp order inside together 0 calls_made bridged.0 bridged.1 apart
      (made_in_time (take n calls) (take n replies) (first_in_time n calls in_time)) in
      grind (
        arith,
        (kept_alike inside together calls_made (completions_in (take n replies)) bridged.0 bridged.2),
        (nothing_alike inside together calls_made (completions_in (take n replies)) bridged.0 bridged.2 isolated.1),
      )
