-- An account, and the first of those that left with it.
use Rattle.link_events.proofs.Common.{◌≡◌, ℕ, ◌<◌, List, [], ◌∷◌, ◌++◌, length, true, false, ◌⊎◌, inl, inr, get_or}
use Rattle.link_events.proofs.Common.{drop, drop-cons, append_assoc, Result, Ok, Err, IfOk, IfErr, refl, sym, ap, ◌∙◌}
use Rattle.link_events.proofs.Common.{subst, Global, Ordering, Arc, IsTotalOrder, append-nil, Error}
use Rattle.link_events.proofs.Common.{OutOfMemory, MomentTooLate, message_of, messages, Message, Completed, Course}
use Rattle.link_events.proofs.Common.{goes, meets, is_late, completed, preceded, IsRefusedFor, Planned, next_of, Leaves}
use Rattle.link_events.proofs.Common.{Accounts, Launches, landed, Finishes, late, stopped, Settles, settling}
use Rattle.link_events.proofs.Common.{account_of, preceded_none, refused_more, refused_memory}
use Rattle.link_pairs.specs.declared.message.Message as code
use Rattle.link_events.specs.Steps.Landing.{LandsLate}
use Rattle.link_simulation.proofs.Rule.Following.{settles_first}

-- two lists that are one have the same first message, and the same others
pub same_first : {P : Type 0} {m n : Message P} {ms ns : List (Message P)} → m ∷ ms ≡ n ∷ ns → m ≡ n
same_first e = cc

pub same_others : {P : Type 0} {m n : Message P} {ms ns : List (Message P)} → m ∷ ms ≡ n ∷ ns → ms ≡ ns
same_others e = cc

-- a list of none has no first message
pub no_first : {P : Type 0} {m : Message P} {ms : List (Message P)} → [] ≡ m ∷ ms → ⊥
no_first e = cc

-- the messages of a queue that has a first one are that one and the others
pub first_and_others : {P : Type 0} (queue : List (Arc (code.Message P) Global)) (first : Arc (code.Message P) Global)
    (m : code.Message P)
    → 0 < length queue → first ≡ get_or queue 0 first → m ≡ first.value
    → messages queue ≡ message_of m ∷ messages (drop 1 queue)
first_and_others {P} queue first m some is same =
    ap messages (drop-cons queue 0 first some)
    ∙ ap (λ (r : Arc (code.Message P) Global). message_of r.value ∷ messages (drop 1 queue)) (sym is)
    ∙ ap (λ (x : code.Message P). message_of x ∷ messages (drop 1 queue)) (sym same)

module _ {P : Type 0} (cmp : P → P → Ordering) where
  -- this came out, and the finishes of a queue settle what is left
  abbrev pub SettlesSo : ℕ → Planned P → List (Completed P) → List (Message P) → Planned P → List (Completed P)
      → Type 0
  SettlesSo t old before queue mid here = (cs : List (Completed P)) × (here ≡ before ++ cs)
      × ((course : Course (Completed P) (Planned P)) → Finishes cmp t queue mid course
      → Settles cmp t old (preceded cs course))

  -- where nothing of what left completes yet, its finishes settle all
  pub settles_none : (t : ℕ) (old new : Planned P) (ls : List (Message P)) (before : List (Completed P))
      → Accounts cmp t old ls new → SettlesSo t old before ls new before
  settles_none t old new ls before a =
      ([], sym (append-nil before), λ course h. subst (Settles cmp t old) (sym (preceded_none course)) (settling a h))

  pub settles_all : {X : Type 0} (t : ℕ) (old mid new : Planned P) (queue : List (Message P))
      (before here after : List (Completed P)) → SettlesSo t old before queue mid here → (result : Result X Error)
      → IfOk result
      (λ done. (cs : List (Completed P)) × (after ≡ here ++ cs) × Finishes cmp t queue mid (goes cs new))
      → IfOk result
      (λ done. (cs : List (Completed P)) × (after ≡ before ++ cs) × Settles cmp t old (goes cs new))
  settles_all t old mid new queue before here after so (Ok x) h = (
    so.0 ++ h.0,
    h.1 ∙ ap (λ (l : List (Completed P)). l ++ h.0) so.1 ∙ append_assoc before so.0 h.0,
    so.2 (goes h.0 new) h.2,
  )
  settles_all t old mid new queue before here after so (Err e) h = tt

  pub settles_refused : {X : Type 0} (t : ℕ) (old mid : Planned P) (queue : List (Message P))
      (before here : List (Completed P)) → SettlesSo t old before queue mid here → (result : Result X Error)
      → IfErr result (IsRefusedFor (λ fault. Finishes cmp t queue mid (meets fault)))
      → IfErr result (IsRefusedFor (λ fault. Settles cmp t old (meets fault)))
  settles_refused t old mid queue before here so (Ok x) refused = tt
  settles_refused t old mid queue before here so (Err e) refused =
      refused_more (λ fault. Finishes cmp t queue mid (meets fault)) (λ fault. Settles cmp t old (meets fault))
      (λ fault h. so.2 (meets fault) h) e refused

  -- the next of its pair meets a fault after the first
  pub stopped_first : (t : ℕ) (old : Planned P) (m : Message P) (ls ms : List (Message P)) → ls ≡ m ∷ ms
      → is_late cmp t m ≡ false → (e : Error)
      → ((mid : Planned P) × Accounts cmp t old ls mid
      × IsRefusedFor (λ fault. Launches cmp t (landed cmp t mid m) (next_of cmp mid m) (meets fault)) e)
      → IsRefusedFor (λ fault. Settles cmp t old (meets fault)) e
  stopped_first t old m ls ms first in_time e h =
      let a : Accounts cmp t old (m ∷ ms) h.0 = subst (λ (l : List (Message P)). Accounts cmp t old l h.0) first h.1 in
      refused_more (λ fault. Launches cmp t (landed cmp t h.0 m) (next_of cmp h.0 m) (meets fault))
      (λ fault. Settles cmp t old (meets fault)) (λ fault stops. settling a (stopped in_time stops)) e h.2

  module _ (order : IsTotalOrder cmp) where
    -- the first one arrives too late, or memory runs out
    pub late_first : (t : ℕ) (old here : Planned P) (m : Message P) (ls ms : List (Message P)) → ls ≡ m ∷ ms
        → Leaves cmp t old ls here → (e : Error)
        → ((e ≡ MomentTooLate) × (is_late cmp t m ≡ true)) ⊎ (e ≡ OutOfMemory)
        → IsRefusedFor (λ fault. Settles cmp t old (meets fault)) e
    late_first t old here m ls ms first leaves e (inl h) =
        let made = account_of cmp order t old here ls leaves in
        let a : Accounts cmp t old (m ∷ ms) made.0 =
        subst (λ (l : List (Message P)). Accounts cmp t old l made.0) first made.1 in
        subst (IsRefusedFor (λ fault. Settles cmp t old (meets fault))) (sym h.0) (settling a (late h.1))
    late_first t old here m ls ms first leaves e (inr is) =
        refused_memory (λ fault. Settles cmp t old (meets fault)) e is

    -- what is done leaves, and memory runs out, or the first of it arrives too late
    pub refused_landing : (t : ℕ) (old : Planned P) (e : Error)
        → (e ≡ OutOfMemory) ⊎ ((e ≡ MomentTooLate) × LandsLate cmp t old)
        → IsRefusedFor (λ fault. Settles cmp t old (meets fault)) e
    refused_landing t old e (inl is) = refused_memory (λ fault. Settles cmp t old (meets fault)) e is
    refused_landing t old e (inr h) =
        let lands = h.1 in
        late_first t old lands.here lands.first (lands.first ∷ lands.others) lands.others refl lands.leaves e
        (inl (h.0, lands.late))

    -- the first one completes, the next of its pair has its turn, and the finishes of the others settle all
    pub settles_others : (t : ℕ) (old new : Planned P) (m : Message P) (ls ms more queue : List (Message P))
        (before after : List (Completed P))
        → ls ≡ m ∷ ms → queue ≡ ms ++ more → after ≡ before ++ completed cmp t m ∷ [] → is_late cmp t m ≡ false
        → ((mid : Planned P) × Accounts cmp t old ls mid
        × Launches cmp t (landed cmp t mid m) (next_of cmp mid m) (goes more new))
        → SettlesSo t old before queue new after
    settles_others t old new m ls ms more queue before after first others out in_time h =
        let a : Accounts cmp t old (m ∷ ms) h.0 =
        subst (λ (l : List (Message P)). Accounts cmp t old l h.0) first h.1 in (
          completed cmp t m ∷ [],
          out,
          λ course rest. settles_first cmp order t old h.0 new m ms more course a in_time h.2
              (subst (λ (l : List (Message P)). Finishes cmp t l new course) others rest),
        )
