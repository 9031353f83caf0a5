-- A call may be refused alike on planned worlds that are the same up to equal peers.
use Rattle.link_simulation.proofs.Common.{arith, List, [], ◌∷◌, ◌∙◌, AllZip, Ordering, IsTotalOrder, Error, SameMessage}
use Rattle.link_simulation.proofs.Common.{Completed, goes, meets, Call, call_limit, call_limit_link, call_enqueue}
use Rattle.link_simulation.proofs.Common.{call_advance, call_enqueue_all, call_next, Reply, reply_done, reply_next}
use Rattle.link_simulation.proofs.Common.{reply_refused, SameCompletion, Planned, Obeys, MayBeRefused, Obeyed}
use Rattle.link_simulation.proofs.Common.{IsSamePlanned, same_limit, same_limit_link, same_enqueue, same_enqueue_all}
use Rattle.link_simulation.proofs.Common.{same_advance, same_next, zip-same}
use Rattle.link_simulation.specs.Rule.SamePlanned.{IsSameCall}
use Rattle.link_simulation.proofs.Simulation.RefusalCauses.{refused_more}
use Rattle.link_simulation.proofs.Simulation.AlikeMessages.{same_itself as one_peer, message_itself}
use Rattle.link_simulation.proofs.Rule.Agreeing.{all_trans}
use Rattle.link_simulation.proofs.Rule.SameSteps.{course_went, course_met, next_event_same}
use Rattle.link_simulation.proofs.Rule.SameCourses.{obeys_same}

module _ {P : Type 0} (cmp : P → P → Ordering) (order : IsTotalOrder cmp) where
  obeys_met_same : (p q : Planned P) (call other : Call P) (fault : Error) → IsSamePlanned cmp p q
      → IsSameCall cmp call other → Obeys cmp p call (meets fault) → Obeys cmp q other (meets fault)
  obeys_met_same p q call other fault same calls obeys = grind (arith, course_met, obeys_same)

  pub refused_same : (p q : Planned P) (call other : Call P) (why : Error) → IsSamePlanned cmp p q
      → IsSameCall cmp call other → MayBeRefused cmp p call why → MayBeRefused cmp q other why
  refused_same p q call other why same calls refused = grind (arith, refused_more, obeys_met_same)

  -- ---- replies

  pub call_itself : (call : Call P) → IsSameCall cmp call call
  call_itself (call_limit now peer egress ingress) = same_limit (one_peer cmp order peer)
  call_itself (call_limit_link now origin recipient cap) = grind (arith, same_limit_link, one_peer)
  call_itself (call_enqueue now m) = same_enqueue (message_itself cmp order m)
  call_itself (call_enqueue_all now ms) = same_enqueue_all (zip-same (SameMessage cmp) (message_itself cmp order) ms)
  call_itself (call_advance now) = same_advance
  call_itself call_next = same_next

  -- the call goes with those completions, and the rest is replied to from there on
  abbrev Accepted : Planned P → Call P → List (Call P) → List (Completed P) → List (Reply P) → Type 0
  Accepted p call calls cs replies =
      (ds : List (Completed P)) × (n : Planned P) × Obeys cmp p call (goes ds n) × AllZip (SameCompletion cmp) cs ds
      × Obeyed cmp n calls replies

  accepted_same : (p q : Planned P) (call : Call P) (calls : List (Call P)) (cs : List (Completed P))
      (replies : List (Reply P)) → IsSamePlanned cmp p q
      → ((n r : Planned P) → IsSamePlanned cmp n r → Obeyed cmp n calls replies → Obeyed cmp r calls replies)
      → Accepted p call calls cs replies → Accepted q call calls cs replies
  accepted_same p q call calls cs replies same rest (ds, n, obeys, alike, obeyed) =
      let went = course_went cmp order (Obeys cmp q call) ds n
      (obeys_same cmp order p q call call (goes ds n) same (call_itself call) obeys) in
      (went.0, went.1, went.2, all_trans cmp order cs ds went.0 alike went.3, rest n went.1 went.4 obeyed)

  pub obeyed_same : (p q : Planned P) (calls : List (Call P)) (replies : List (Reply P)) → IsSamePlanned cmp p q
      → Obeyed cmp p calls replies → Obeyed cmp q calls replies
  obeyed_same p q [] [] same obeyed = tt
  obeyed_same p q [] (reply ∷ replies) same obeyed = obeyed
  obeyed_same p q (call ∷ calls) [] same obeyed = obeyed
  obeyed_same p q (call_next ∷ calls) (reply_next t ∷ replies) same obeyed =
      (obeyed.0 ∙ next_event_same cmp order p q same, obeyed_same p q calls replies same obeyed.1)
  obeyed_same p q (call_next ∷ calls) (reply_done cs ∷ replies) same obeyed = obeyed
  obeyed_same p q (call_next ∷ calls) (reply_refused why ∷ replies) same obeyed = obeyed
  obeyed_same p q (call ∷ calls) (reply_next t ∷ replies) same obeyed = obeyed
  obeyed_same p q (call ∷ calls) (reply_done cs ∷ replies) same obeyed =
      accepted_same p q call calls cs replies same (λ n r. obeyed_same n r calls replies) obeyed
  obeyed_same p q (call ∷ calls) (reply_refused why ∷ replies) same obeyed =
      (refused_same p q call call why same (call_itself call) obeyed.0, obeyed_same p q calls replies same obeyed.1)
