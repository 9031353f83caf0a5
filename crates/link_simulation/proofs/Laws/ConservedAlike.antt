-- No message is lost or doubled, by a call, peers taken as equal by their order, nor by a list of calls.
use Rattle.link_simulation.proofs.Common.{arith, List, [], ◌∷◌, ◌++◌, refl, append_assoc, append-nil, AllZip, Ordering}
use Rattle.link_simulation.proofs.Common.{IsTotalOrder, filter-append, Message, SameMessage, Completed, goes, Call}
use Rattle.link_simulation.proofs.Common.{call_next, enqueued, answered, IsCompletionOf, Planned, Obeys, Obeyed, Reply}
use Rattle.link_simulation.proofs.Common.{reply_done, SameCompletion, made, completions_in, IsSamePlanned, GoesByRule}
use Rattle.link_simulation.proofs.Common.{IsOrderly, of_pair, held_of, IsConserved, zip_chain, zip-filter, zip-same}
use Rattle.link_simulation.proofs.Common.{zip-append}
use Rattle.link_simulation.specs.Laws.Conserved.{AreConserved}
use Rattle.link_simulation.proofs.Simulation.AlikeMessages.{pairs_alike, message_itself}
use Rattle.link_simulation.proofs.Laws.Orderly.{obeys_orderly}
use Rattle.link_simulation.proofs.Laws.Conserved.{IsKept, call_keeps}
use Rattle.link_simulation.proofs.Laws.PairCompletions.{enqueued_split}
use Rattle.link_simulation.proofs.Rule.SamePlanned.{zip_turned, message_turned, message_chain}
use Rattle.link_simulation.proofs.Rule.SameSteps.{flows_same}

module _ {P : Type 0} (cmp : P → P → Ordering) (order : IsTotalOrder cmp) where
  -- ---- messages that are the same

  itself : (ms : List (Message P)) → AllZip (SameMessage cmp) ms ms
  itself ms = zip-same (SameMessage cmp) (message_itself cmp order) ms

  turned : (ms ns : List (Message P)) → AllZip (SameMessage cmp) ms ns → AllZip (SameMessage cmp) ns ms
  turned ms ns all = zip_turned (SameMessage cmp) (SameMessage cmp) (message_turned cmp order) ms ns all

  chain : (ms ns ks : List (Message P)) → AllZip (SameMessage cmp) ms ns → AllZip (SameMessage cmp) ns ks
      → AllZip (SameMessage cmp) ms ks
  chain ms ns ks first second = zip_chain _ _ _ (message_chain cmp order) ms ns ks first second

  of_pair_alike : (k : Message P) (ms ns : List (Message P)) → AllZip (SameMessage cmp) ms ns
      → AllZip (SameMessage cmp) (of_pair cmp k ms) (of_pair cmp k ns)
  of_pair_alike k ms ns all = grind (arith, zip-filter, pairs_alike, message_itself)

  held_alike : (k : Message P) (p q : Planned P) → IsSamePlanned cmp p q
      → AllZip (SameMessage cmp) (held_of cmp k q) (held_of cmp k p)
  held_alike k p q same = grind (arith, zip-append, of_pair_alike, turned, flows_same)

  -- ---- completions that are the same

  -- completions, and the messages that they are of
  record AreOf (cs : List (Completed P)) (done : List (Message P)) : Type 0 where
    pub messages : List (Message P)
    pub completions_are : AllZip IsCompletionOf cs messages
    pub same : AllZip (SameMessage cmp) messages done

  -- the message of a completion that is the same
  one_of : (c d : Completed P) (m : Message P) → SameCompletion cmp c d → IsCompletionOf d m
      → SameMessage cmp (record m { origin = c.origin; recipient = c.recipient; channel = c.channel; bytes = c.bytes })
      m
  one_of c d m same is = grind arith

  are_of : (cs ds : List (Completed P)) (done : List (Message P)) → AllZip (SameCompletion cmp) cs ds
      → AllZip IsCompletionOf ds done → AreOf cs done
  are_of [] [] [] same are = record { messages = []; completions_are = tt; same = tt }
  are_of [] [] (m ∷ ms) same are = absurd are
  are_of [] (d ∷ ds) ms same are = absurd same
  are_of (c ∷ cs) [] ms same are = absurd same
  are_of (c ∷ cs) (d ∷ ds) [] same are = absurd are
  are_of (c ∷ cs) (d ∷ ds) (m ∷ ms) same are =
      let rest : AreOf cs ms = are_of cs ds ms same.1 are.1 in
      record {
        messages =
            record m { origin = c.origin; recipient = c.recipient; channel = c.channel; bytes = c.bytes }
            ∷ rest.messages;
        completions_are = ((c.done_at, c.deliver_at, refl), rest.completions_are);
        same = (one_of c d m same.0 are.0, rest.same);
      }

  -- up to equal peers
  kept_conserved : (p after q : Planned P) (messages : List (Message P)) (cs ds : List (Completed P))
      → IsKept cmp order p messages ds after → AllZip (SameCompletion cmp) cs ds
      → ((k : Message P) → AllZip (SameMessage cmp) (held_of cmp k q) (held_of cmp k after))
      → IsConserved cmp p messages cs q
  kept_conserved p after q messages cs ds kept same alike = grind (arith, are_of, zip-append, of_pair_alike)

  pub goes_conserved : (p q : Planned P) (call : Call P) (cs : List (Completed P)) → GoesByRule cmp p call cs q
      → IsOrderly cmp p → IsConserved cmp p (enqueued (call ∷ [])) cs q
  goes_conserved p q call cs went h =
      kept_conserved p went.after q _ cs went.answers (call_keeps cmp order p call _ went.obeys h) went.same_answers
      (λ k. held_alike k went.after q went.same_after)

  -- ---- lists of calls

  -- what was done and is held, and what is done of that and is held then
  both_done : (d h p m e r n : List (Message P)) → AllZip (SameMessage cmp) (d ++ h) (p ++ m)
      → AllZip (SameMessage cmp) (e ++ r) (h ++ n) → AllZip (SameMessage cmp) ((d ++ e) ++ r) (p ++ (m ++ n))
  both_done d h p m e r n first second =
      grind (
        arith,
        chain,
        (append_assoc d e r),
        (zip-append (SameMessage cmp) d (e ++ r) d (h ++ n) (itself d) second),
        (append_assoc d h n),
        (append_assoc p m n),
        (zip-append (SameMessage cmp) (d ++ h) n (p ++ m) n first (itself n)),
      )

  -- one stretch and then another
  pub conserved_then : (p q r : Planned P) (ms ns : List (Message P)) (cs ds : List (Completed P))
      → IsConserved cmp p ms cs q → IsConserved cmp q ns ds r → IsConserved cmp p (ms ++ ns) (cs ++ ds) r
  conserved_then p q r ms ns cs ds a b = grind (arith, zip-append, filter-append, both_done)

  -- the first call is accepted, and the others follow
  record IsAccepted (p : Planned P) (call : Call P) (calls : List (Call P)) (cs : List (Completed P))
      (replies : List (Reply P)) : Type 0 where
    pub answers : List (Completed P)
    pub after : Planned P
    pub obeys : Obeys cmp p call (goes answers after)
    pub same : AllZip (SameCompletion cmp) cs answers
    pub rest : Obeyed cmp after calls replies

  one_accepted : (p : Planned P) (call : Call P) (calls : List (Call P)) (cs : List (Completed P))
      (replies : List (Reply P))
      → Obeyed cmp p (call ∷ calls) (reply_done cs ∷ replies) → IsAccepted p call calls cs replies
  one_accepted p call_next calls cs replies obeyed = absurd obeyed
  one_accepted p call calls cs replies obeyed =
      record { answers = obeyed.0; after = obeyed.1; obeys = obeyed.2; same = obeyed.3; rest = obeyed.4 }

  -- where nothing is done
  pub none_conserved : (p : Planned P) → IsConserved cmp p [] [] p
  none_conserved p = grind (arith, append-nil, itself)

  -- from a planned world in order
  pub obeyed_conserved : (p : Planned P) (calls : List (Call P)) (replies : List (Reply P)) → IsOrderly cmp p
      → Obeyed cmp p calls replies → AreConserved cmp p calls replies
  obeyed_conserved p [] [] h obeyed = grind (arith, none_conserved)
  obeyed_conserved p [] (reply ∷ replies) h obeyed = absurd obeyed
  obeyed_conserved p (call ∷ calls) [] h obeyed = absurd obeyed
  obeyed_conserved p (call ∷ calls) (reply_done cs ∷ replies) h obeyed =
      let one = one_accepted p call calls cs replies obeyed in
      let first = kept_conserved p one.after one.after _ cs one.answers (call_keeps cmp order p call _ one.obeys h)
      one.same (λ k. itself _) in
      let rest = obeyed_conserved one.after calls replies
      (obeys_orderly cmp order p one.after call one.answers one.obeys h) one.rest in
      grind (
        arith,
        (enqueued_split call (made calls replies)),
        (conserved_then p one.after rest.last
            (enqueued (call ∷ [])) (enqueued (made calls replies)) cs (answered (completions_in replies)) first
            rest.conserved),
      )
  obeyed_conserved p (call ∷ calls) (reply ∷ replies) h obeyed = grind (arith, (obeyed_conserved p calls replies h))
