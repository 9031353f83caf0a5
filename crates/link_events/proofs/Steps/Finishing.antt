-- The finishes of a queue and the starts of pairs, one after another.
use Rattle.link_events.proofs.Common.{◌≡◌, ℕ, suc, ◌+◌, ◌<◌, ◌≤◌, List, [], ◌∷◌, length, Bool, true, false}
use Rattle.link_events.proofs.Common.{if◌then◌else◌, Some, None, refl, sym, ap, ◌∙◌, subst, arith, get_or}
use Rattle.link_events.proofs.Common.{drop, ◌⊎◌, inl, inr, drop-cons, then_some, find, AllZip, Ordering, IsTotalOrder}
use Rattle.link_events.proofs.Common.{and_from, Error, MomentTooLate, OutOfMemory, PeerPair, NamesPairOf, same_peer}
use Rattle.link_events.proofs.Common.{first_of, Message, same_pair, Completed, Course, meets, is_late, arrival, Planned}
use Rattle.link_events.proofs.Common.{next_of, Launches, Finishes, late, stopped, landed, WakesEach, IsRefusedFor}
use Rattle.link_events.proofs.Common.{refused_more, refused_memory}
use Rattle.std.proofs.Common.{◌-◌}
use Rattle.std.proofs.Common.{length-drop}
use Rattle.link_pairs.specs.Pairs.Entries.{raised_at}
use Rattle.link_simulation.proofs.Simulation.Queue.{pair_like}
use Rattle.link_events.proofs.Steps.SoFar.{SoFar}

-- an answer that depends on two tests that agree
pub then_some_is : (b d : Bool) (x y : ℕ) → b ≡ d → x ≡ y → then_some b x ≡ (if d then Some y else None)
then_some_is b true x y same is = rw (same, is) refl
then_some_is b false x y same is = rw same refl

module _ {P : Type 0} (cmp : P → P → Ordering) where
  -- ---- one message completes

  pub refused_late : (t : ℕ) (m : Message P) (ms : List (Message P)) (p : Planned P) (e : Error)
      → is_late cmp t m ≡ true → e ≡ MomentTooLate
      → IsRefusedFor (λ fault. Finishes cmp t (m ∷ ms) p (meets fault)) e
  refused_late t m ms p e is_so is =
      subst (IsRefusedFor (λ fault. Finishes cmp t (m ∷ ms) p (meets fault))) (sym is) (late is_so)

  -- what the landing of a message is refused for
  pub refused_landing : (t : ℕ) (m : Message P) (ms : List (Message P)) (p : Planned P) (e : Error)
      → ((e ≡ MomentTooLate) × (is_late cmp t m ≡ true)) ⊎ (e ≡ OutOfMemory)
      → IsRefusedFor (λ fault. Finishes cmp t (m ∷ ms) p (meets fault)) e
  refused_landing t m ms p e (inl too_late) = refused_late t m ms p e too_late.1 too_late.0
  refused_landing t m ms p e (inr memory) = refused_memory (λ fault. Finishes cmp t (m ∷ ms) p (meets fault)) e memory

  pub refused_launch : (t : ℕ) (m : Message P) (ms : List (Message P)) (p mid : Planned P) → is_late cmp t m ≡ false
      → mid ≡ landed cmp t p m → (e : Error)
      → IsRefusedFor (λ fault. Launches cmp t mid (first_of cmp mid.waiting m.origin m.recipient) (meets fault)) e
      → IsRefusedFor (λ fault. Finishes cmp t (m ∷ ms) p (meets fault)) e
  refused_launch t m ms p mid in_time is e refused =
      refused_more (λ fault. Launches cmp t (landed cmp t p m) (next_of cmp p m) (meets fault))
      (λ fault. Finishes cmp t (m ∷ ms) p (meets fault)) (λ fault h. stopped in_time h) e
      (subst (λ (q : Planned P). IsRefusedFor (λ fault. Launches cmp t q (first_of cmp q.waiting m.origin m.recipient)
      (meets fault)) e) is refused)

  -- the pair's last arrival is raised as where the message lands
  pub landed_so : (t : ℕ) (p mid : Planned P) (m : Message P) (at : ℕ) → at ≡ arrival cmp t m
      → mid ≡ record p { last_arrival = raised_at cmp p.last_arrival m.origin m.recipient at } → mid ≡ landed cmp t p m
  landed_so t p mid m at is mid_is =
      mid_is ∙ ap (λ (n : ℕ). record p { last_arrival = raised_at cmp p.last_arrival m.origin m.recipient n }) is

  pub launches_landed : (t : ℕ) (m : Message P) (p mid : Planned P) (course : Course (Message P) (Planned P))
      → mid ≡ landed cmp t p m → Launches cmp t mid (first_of cmp mid.waiting m.origin m.recipient) course
      → Launches cmp t (landed cmp t p m) (next_of cmp p m) course
  launches_landed t m p mid course is h =
      subst (λ (q : Planned P). Launches cmp t q (first_of cmp q.waiting m.origin m.recipient) course) is h

  -- ---- pairs start

  -- the messages whose pairs are still to start, and their keys
  pub record WakesAt (t : ℕ) (Whole : Course (Completed P) (Planned P) → Type 0) (before : List (Completed P))
      (keys : List (PeerPair P)) (at : ℕ) (now : Planned P) (after : List (Completed P)) : Type 0 where
    pub rest : List (Message P)
    pub are_keys : AllZip (NamesPairOf cmp) (drop at keys) rest
    pub so : SoFar Whole (WakesEach cmp t rest now) before after

  -- the next one of them
  pub record NextAt (t : ℕ) (Whole : Course (Completed P) (Planned P) → Type 0) (before : List (Completed P))
      (keys : List (PeerPair P)) (at : ℕ) (now : Planned P) (after : List (Completed P)) (key : PeerPair P)
      : Type 0 where
    pub message : Message P
    pub rest : List (Message P)
    pub is_key : NamesPairOf cmp key message
    pub are_keys : AllZip (NamesPairOf cmp) (drop (at + 1) keys) rest
    pub so : SoFar Whole (WakesEach cmp t (message ∷ rest) now) before after

  module _ {t : ℕ} {Whole : Course (Completed P) (Planned P) → Type 0} {before : List (Completed P)}
      {keys : List (PeerPair P)} {at : ℕ} {now : Planned P} {after : List (Completed P)}
      (w : WakesAt t Whole before keys at now after) where
    pub next_at : (key : PeerPair P) → at < length keys → key ≡ get_or keys at key
        → NextAt t Whole before keys at now after key
    next_at key lt is =
        by_rest w.rest (subst (λ (l : List (PeerPair P)). AllZip (NamesPairOf cmp) l w.rest) cut w.are_keys) w.so
      where
        cut : drop at keys ≡ key ∷ drop (at + 1) keys
        cut =
            let next : at + 1 ≡ suc at = omega arith in
            drop-cons keys at key lt ∙ ap (λ k. k ∷ drop (suc at) keys) (sym is) ∙ ap (λ n. key ∷ drop n keys) (sym next)

        by_rest : (rest : List (Message P)) → AllZip (NamesPairOf cmp) (key ∷ drop (at + 1) keys) rest
            → SoFar Whole (WakesEach cmp t rest now) before after → NextAt t Whole before keys at now after key
        by_rest [] zip so = absurd zip
        by_rest (m ∷ rest) zip so = record { message = m; rest = rest; is_key = zip.0; are_keys = zip.1; so = so }

    pub none_at : length keys ≤ at → w.rest ≡ []
    none_at le = by_rest w.rest (drop at keys) (length-drop at keys) w.are_keys
      where
        by_rest : (rest : List (Message P)) (left : List (PeerPair P)) → length left ≡ length keys - at
            → AllZip (NamesPairOf cmp) left rest → rest ≡ []
        by_rest [] left long zip = refl
        by_rest (m ∷ rest) [] long zip = absurd zip
        by_rest (m ∷ rest) (k ∷ left) long zip = absurd (omega arith)

  module _ (order : IsTotalOrder cmp) where
    -- the first message of a key's pair is the first of the message's pair
    pub first_of_key : (key : PeerPair P) (m : Message P) (waiting : List (Message P)) → NamesPairOf cmp key m
        → first_of cmp waiting key.origin key.recipient ≡ find (same_pair cmp m) waiting
    first_of_key key m waiting is i =
        let k : Message P = record m { origin = key.origin; recipient = key.recipient } in
        let same : same_pair cmp m k ≡ true =
        and_from (same_peer cmp m.origin key.origin) (same_peer cmp m.recipient key.recipient) is.origin
        is.recipient in
        find (λ (n : Message P). pair_like cmp order m k n same i) waiting
