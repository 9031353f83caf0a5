-- Equal calls have equal replies, and the replies to a list of calls.
use Rattle.link_replay.proofs.Common.{◌≡◌, ℕ, ◌+◌, ◌<◌, ◌≤◌, List, [], ◌∷◌, ◌++◌, length, refl, sym, ap, ◌∙◌, subst}
use Rattle.link_replay.proofs.Common.{arith, Ordering, IsTotalOrder, Error, Call, SameMessage}
use Rattle.link_replay.proofs.Common.{Planned, Obeys, Completed, goes, MayBeRefused, IsSamePlanned, GoesByRule}
use Rattle.link_replay.proofs.Common.{same_limit, same_limit_link, same_enqueue, same_enqueue_all, same_advance}
use Rattle.link_replay.proofs.Common.{same_next, same_turned, same_chain, course_went, obeys_same, reply_refused}
use Rattle.std.proofs.Common.{suc, ◌-◌, get_or}
use Rattle.std.proofs.Common.{append_assoc, append-nil, drop, drop-cons, length-drop}
use Rattle.link_simulation.specs.Simulation.Calls.{call_next}
use Rattle.link_simulation.specs.Laws.Isolation.{InTime}
use Rattle.link_simulation.specs.Simulation.Replies.{Reply, reply_done, reply_next}
use Rattle.link_simulation.specs.Rule.Refusals.{Obeyed}
use Rattle.link_simulation.specs.Rule.SamePlanned.{IsSameCall}
use Rattle.link_simulation.proofs.Rule.SamePlanned.{peer_turned, message_turned, zip_turned}
use Rattle.link_simulation.proofs.Rule.Agreeing.{all_trans}
use Rattle.link_simulation.proofs.Rule.SameRefusals.{refused_same}
use Rattle.link_scheduler.specs.Calls.Replay.{IsReplyTo}
use Rattle.link_scheduler.proofs.Calls.Replay.{one_more}

module _ {P : Type 0} (cmp : P → P → Ordering) (order : IsTotalOrder cmp) where
  -- ---- the same call

  call_turned : {call other : Call P} → IsSameCall cmp call other → IsSameCall cmp other call
  call_turned (same_limit {peer = p} {other = q} same) = same_limit (peer_turned cmp order p q same)
  call_turned (same_limit_link {origin = p} {recipient = r} {o = q} {r = s} first second) =
      same_limit_link (peer_turned cmp order p q first) (peer_turned cmp order r s second)
  call_turned (same_enqueue {m = m} {n = n} same) = same_enqueue (message_turned cmp order m n same)
  call_turned (same_enqueue_all {ms = ms} {ns = ns} same) =
      same_enqueue_all (zip_turned (SameMessage cmp) (SameMessage cmp) (message_turned cmp order) ms ns same)
  call_turned same_advance = same_advance
  call_turned same_next = same_next

  goes_same : (p q : Planned P) (call other : Call P) (cs : List (Completed P)) → IsSamePlanned cmp p p
      → IsSameCall cmp call other → GoesByRule cmp p other cs q → GoesByRule cmp p call cs q
  goes_same p q call other cs itself same h =
      let went =
      course_went cmp order (Obeys cmp p call) h.answers h.after
      (obeys_same cmp order p p other call (goes h.answers h.after) itself (call_turned same) h.obeys) in
      record {
        answers = went.0;
        after = went.1;
        obeys = went.2;
        same_answers = all_trans cmp order cs h.answers went.0 h.same_answers went.3;
        same_after = same_chain cmp order went.1 h.after q (same_turned cmp order h.after went.1 went.4) h.same_after;
      }

  refused_same_call : (p q : Planned P) (call other : Call P) (why : Error) → IsSamePlanned cmp p p
      → IsSameCall cmp call other → MayBeRefused cmp p other why × (q ≡ p) → MayBeRefused cmp p call why × (q ≡ p)
  refused_same_call p q call other why itself same h =
      (refused_same cmp order p p other call why itself (call_turned same) h.0, h.1)

  -- an equal call has the same replies
  pub reply_same : (p q : Planned P) {call other : Call P} (reply : Reply P) → IsSamePlanned cmp p p
      → IsSameCall cmp call other → IsReplyTo cmp p other reply q → IsReplyTo cmp p call reply q
  reply_same p q reply itself same_next h = h
  reply_same p q (reply_done cs) itself same h = goes_same p q _ _ cs itself same h
  reply_same p q (reply_refused why) itself same h = refused_same_call p q _ _ why itself same h
  reply_same p q (reply_next t) itself same h = h

  -- ---- a list of calls

  -- the replies so far, to all calls but these, lead to the planned world p
  pub record Replied (old : Planned P) (calls : List (Call P)) (replies : List (Reply P)) (rest : List (Call P))
      (p : Planned P) : Type 0 where
    pub so : (more : List (Reply P)) → Obeyed cmp p rest more → Obeyed cmp old calls (replies ++ more)
    pub in_time : InTime rest → InTime calls

  pub none_replied : (p : Planned P) (calls : List (Call P)) → Replied p calls [] calls p
  none_replied p calls = record { so = λ more h. h; in_time = λ h. h }

  pub one_replied : (old : Planned P) (calls : List (Call P)) (replies : List (Reply P)) (call : Call P)
      (rest : List (Call P)) (p q : Planned P) (reply : Reply P) → Replied old calls replies (call ∷ rest) p
      → InTime (call ∷ []) → IsReplyTo cmp p call reply q → Replied old calls (replies ++ reply ∷ []) rest q
  one_replied old calls replies call rest p q reply so_far timely h =
      record {
        in_time = λ others. so_far.in_time (timely.0, others);
        so = λ more obeyed. subst (Obeyed cmp old calls) (sym (append_assoc replies (reply ∷ []) more))
            (so_far.so (reply ∷ more) (one_more cmp order p q call reply rest more h obeyed));
      }

  pub all_replied : (old : Planned P) (calls : List (Call P)) (replies : List (Reply P)) (p : Planned P)
      → Replied old calls replies [] p → Obeyed cmp old calls replies
  all_replied old calls replies p so_far = subst (Obeyed cmp old calls) (append-nil replies) (so_far.so [] tt)

  -- so many of the calls are replied to, and there is room for the rest of the replies
  pub record IsUnderway (old : Planned P) (calls : List (Call P)) (at : ℕ) (replies : List (Reply P)) (count room : ℕ)
      (p : Planned P) : Type 0 where
    pub long : count ≡ at
    pub fits : length calls ≤ room
    pub replied : Replied old calls replies (drop at calls) p

  pub begins : (p q : Planned P) (calls : List (Call P)) (replies : List (Reply P)) (count room : ℕ) → replies ≡ []
      → count ≡ 0 → length calls ≤ room → q ≡ p → IsUnderway p calls 0 replies count room q
  begins p q calls replies count room none long fits is =
      record {
        long = long;
        fits = fits;
        replied = subst (λ (rs : List (Reply P)). Replied p calls rs calls q) (sym none)
            (subst (Replied p calls [] calls) (sym is) (none_replied p calls));
      }

  pub has_room : (old : Planned P) (calls : List (Call P)) (at : ℕ) (replies : List (Reply P)) (count room : ℕ)
      (p : Planned P) → IsUnderway old calls at replies count room p → at < length calls → count < room
  has_room old calls at replies count room p so_far lt = omega (arith, so_far.long, so_far.fits, lt)

  pub goes_on : (old : Planned P) (calls : List (Call P)) (at : ℕ) (replies : List (Reply P)) (count room more : ℕ)
      (p q : Planned P) (call : Call P) (reply : Reply P) → IsUnderway old calls at replies count room p
      → at < length calls → call ≡ get_or calls at call → room ≤ more → InTime (call ∷ [])
      → IsReplyTo cmp p call reply q → IsUnderway old calls (at + 1) (replies ++ reply ∷ []) (count + 1) more q
  goes_on old calls at replies count room more p q call reply so_far lt is grows timely h = record {
    long = ap (λ n. n + 1) so_far.long;
    fits = omega (arith, so_far.fits, grows);
    replied =
        one_replied old calls replies call (drop (at + 1) calls) p q reply
        (subst (λ (l : List (Call P)). Replied old calls replies l p) cut so_far.replied) timely h;
  }
    where
      cut : drop at calls ≡ call ∷ drop (at + 1) calls
      cut =
          let next : at + 1 ≡ suc at = omega arith in
          drop-cons calls at call lt ∙ ap (λ k. k ∷ drop (suc at) calls) (sym is)
          ∙ ap (λ n. call ∷ drop n calls) (sym next)

  pub ends : (old : Planned P) (calls : List (Call P)) (at : ℕ) (replies : List (Reply P)) (count room : ℕ)
      (p : Planned P) → IsUnderway old calls at replies count room p → length calls ≤ at
      → Obeyed cmp old calls replies × InTime calls
  ends old calls at replies count room p so_far le =
      let all : Replied old calls replies [] p =
      subst (λ (l : List (Call P)). Replied old calls replies l p)
      (none_left (drop at calls) (length-drop at calls)) so_far.replied in
      (all_replied old calls replies p all, all.in_time tt)
    where
      none_left : (l : List (Call P)) → length l ≡ length calls - at → l ≡ []
      none_left [] e = refl
      none_left (c ∷ l) e = absurd (omega arith)

  -- each call has one reply
  pub one_for_each : (p : Planned P) (calls : List (Call P)) (replies : List (Reply P)) → Obeyed cmp p calls replies
      → length replies ≡ length calls
  one_for_each p [] [] h = refl
  one_for_each p [] (reply ∷ replies) h = absurd h
  one_for_each p (call ∷ calls) [] h = absurd h
  one_for_each p (call_next ∷ calls) (reply_next t ∷ replies) h = ap suc (one_for_each p calls replies h.1)
  one_for_each p (call_next ∷ calls) (reply_done cs ∷ replies) h = absurd h
  one_for_each p (call_next ∷ calls) (reply_refused why ∷ replies) h = absurd h
  one_for_each p (call ∷ calls) (reply_done cs ∷ replies) h = ap suc (one_for_each h.1 calls replies h.4)
  one_for_each p (call ∷ calls) (reply_refused why ∷ replies) h = ap suc (one_for_each p calls replies h.1)
  one_for_each p (call ∷ calls) (reply_next t ∷ replies) h = absurd h
