-- What is done leaves, and the first of it lands: which pairs are idle then.
use Rattle.link_events.proofs.Common.{◌≡◌, ℕ, zero, suc, ◌<◌, ◌≤◌, Bool, true, false, not, List, [], ◌∷◌, length}
use Rattle.link_events.proofs.Common.{get_or, ◌+◌, take, refl, sym, ap, ◌∙◌, subst, arith, Arc, Global, message_of}
use Rattle.link_events.proofs.Common.{messages, filter, list_any, Ordering, IsTotalOrder, Option, Some, None}
use Rattle.link_events.proofs.Common.{if◌then◌else◌, then_some, or_parts, or_left, pair_itself, FirstLands}
use Rattle.link_events.proofs.Common.{since_of_first, Leaves, Message, OneForEachPair, Planned, RatedFlight}
use Rattle.link_events.proofs.Common.{rated_messages, drained_to, Pair, arrival_of, of_pairs, IsIndexOf, is_of_pair}
use Rattle.link_events.proofs.Common.{AreAtRest, idle_from, same_flights_index, alike_from}
use Rattle.link_events.specs.Steps.Landing.{LandsFirst, LeavesLanding}
use Rattle.link_events.proofs.Steps.Finishing.{landed_so}
use Rattle.link_simulation.specs.Simulation.Messages.{PairsAlike}
use Rattle.link_simulation.proofs.Simulation.Queue.{pair_sym}
use Rattle.link_pairs.specs.declared.message.Message as code
use Rattle.link_waiting.proofs.Idle.IndexChanges.{flows_drained, left_else}
use Rattle.link_waiting.proofs.Idle.IndexChanges.{rests_index}
use Rattle.link_events.proofs.Steps.OneEach.{one_apart, one_drained, rests_beside}

module _ {P : Type 0} (cmp : P → P → Ordering) (order : IsTotalOrder cmp) where
  module _ (now : ℕ) (pairs : List (Pair P)) (waiting : List (Message P)) (spent : RatedFlight P → Bool)
      (sending after : List (RatedFlight P)) (done : List (Message P)) (idle : P → P → Option ℕ)
      (one : OneForEachPair cmp (rated_messages sending))
      (index : IsIndexOf cmp (of_pairs cmp pairs waiting sending) idle)
      (left : done ≡ rated_messages (filter spent (drained_to now sending)))
      (stays : after ≡ filter (λ f. not (spent f)) (drained_to now sending)) where
    -- the same pairs are idle once all has drained
    index_drained : IsIndexOf cmp (of_pairs cmp pairs waiting (drained_to now sending)) idle
    index_drained = same_flights_index cmp order pairs waiting sending (drained_to now sending) idle
        (flows_drained now sending) index

    -- none of them is in flight any more
    pub done_apart : (a b : P) → list_any (is_of_pair cmp a b) done ≡ true
        → list_any (is_of_pair cmp a b) (rated_messages after) ≡ false
    done_apart a b some =
        ap (λ fs. list_any (is_of_pair cmp a b) (rated_messages fs)) stays
        ∙ one_apart cmp order spent (drained_to now sending) (one_drained cmp order now sending one) a b
        (ap (list_any (is_of_pair cmp a b)) (sym left) ∙ some)

    -- with these listed as they stand now, where no other pair has got another last arrival, the index is right
    pub index_after : (known : List (Pair P)) (new : P → P → Option ℕ)
        → PairsAlike cmp (arrival_of cmp known) (arrival_of cmp known)
        → ((a b : P) → list_any (is_of_pair cmp a b) done ≡ false → arrival_of cmp known a b ≡ arrival_of cmp pairs a b)
        → AreAtRest cmp (of_pairs cmp known waiting []) done idle new
        → IsIndexOf cmp (of_pairs cmp known waiting after) new
    index_after known new alike others rests =
        rests_index cmp order (of_pairs cmp known waiting after) alike idle
        (of_pairs cmp pairs waiting (drained_to now sending)) done new
        (λ a b none. alike_from cmp (of_pairs cmp pairs waiting (drained_to now sending))
        (of_pairs cmp known waiting after) a b
        (ap (λ fs. list_any (is_of_pair cmp a b) (rated_messages fs)) stays
        ∙ left_else cmp (is_of_pair cmp a b) spent (drained_to now sending)
        (ap (list_any (is_of_pair cmp a b)) (sym left) ∙ none))
        refl (others a b none))
        index_drained (rests_beside cmp known waiting after done idle new done_apart rests)

  -- where the first lands, no other pair has got another last arrival
  pub others_after : (t : ℕ) (pairs known : List (Pair P)) (done : List (Message P)) (deliver_at : Option ℕ)
      → FirstLands cmp t done (arrival_of cmp pairs) (arrival_of cmp known) deliver_at
      → (a b : P) → list_any (is_of_pair cmp a b) done ≡ false → arrival_of cmp known a b ≡ arrival_of cmp pairs a b
  others_after t pairs known [] deliver_at lands a b none = ap (λ f. f a b) lands.0
  others_after t pairs known (m ∷ ms) deliver_at lands a b none =
      let apart : is_of_pair cmp a b m ≡ false
      = (or_parts (is_of_pair cmp a b m) (list_any (is_of_pair cmp a b) ms) none).0 in
      ap (λ f. f a b) lands.raised ∙ rw (pair_sym cmp order m (record m { origin = a; recipient = b }) ∙ apart) refl

  -- in planned worlds in which the pairs of what is done may start alike, the next of the first one's pair may, too
  pub since_alike : (p q : Planned P) (done : List (Message P))
      → ((a b : P) → list_any (is_of_pair cmp a b) done ≡ true → idle_from cmp p a b ≡ idle_from cmp q a b)
      → since_of_first cmp p done ≡ since_of_first cmp q done
  since_alike p q [] same = refl
  since_alike p q (m ∷ ms) same =
      same m.origin m.recipient
      (or_left (is_of_pair cmp m.origin m.recipient m) (list_any (is_of_pair cmp m.origin m.recipient) ms)
      (pair_itself cmp order m))

  -- where what is done has left, last arrivals alone are new, and the first of it has landed, that is what leads from
  -- the one planned world to the other
  pub leaves_landing : (t : ℕ) (old new : Planned P) (stay : List (RatedFlight P)) (arrivals : P → P → Option ℕ)
      (done : List (Message P)) (deliver_at since : Option ℕ)
      → Leaves cmp t old done (record old { sending = stay; accounted = t })
      → new ≡ record old { sending = stay; last_arrival = arrivals; accounted = t }
      → FirstLands cmp t done old.last_arrival arrivals deliver_at → since ≡ since_of_first cmp new done
      → LeavesLanding cmp t old done deliver_at since new
  leaves_landing t old new stay arrivals [] deliver_at since leaves new_is lands idle =
      record {
        leaves =
            subst (Leaves cmp t old [])
            (sym
            (new_is ∙ ap (λ (l : P → P → Option ℕ). record old { sending = stay; last_arrival = l; accounted = t }) lands.0))
            leaves;
        no_arrival = lands.1;
        no_next = idle;
      }
  leaves_landing t old new stay arrivals (m ∷ ms) deliver_at since leaves new_is lands idle =
      record {
        here = record old { sending = stay; accounted = t };
        leaves = leaves;
        lands =
            landed_so cmp t (record old { sending = stay; accounted = t }) new m lands.at lands.moment
            (new_is ∙ ap (λ (l : P → P → Option ℕ). record old { sending = stay; last_arrival = l; accounted = t }) lands.raised);
        in_time = lands.in_time;
        completion = lands.completion;
        idle = idle;
      }

-- no message is in a queue of none
pub no_message : {P : Type 0} (queue : List (Arc (code.Message P) Global)) → length queue ≤ 0 → messages queue ≡ []
no_message [] none = refl
no_message (x ∷ queue) none = absurd (omega (arith, none))

-- a moment, if there is one
pub then_is : (b : Bool) (moment : ℕ) → then_some b moment ≡ (if b then Some moment else None)
then_is true moment = refl
then_is false moment = refl

module _ {P : Type 0} (cmp : P → P → Ordering) (t : ℕ) (old new : Planned P) where
  -- where nothing is done, that leaves
  pub none_leaves : (done : List (Message P)) (deliver_at since : Option ℕ) → done ≡ []
      → LeavesLanding cmp t old done deliver_at since new → Leaves cmp t old done new
  none_leaves done deliver_at since none lands =
      subst (λ (l : List (Message P)). Leaves cmp t old l new) (sym none)
      (subst (λ (l : List (Message P)). LeavesLanding cmp t old l deliver_at since new) none lands).leaves

  -- where something is, the first of it lands
  pub first_lands : (m : Message P) (ms done : List (Message P)) (deliver_at since : Option ℕ) → done ≡ m ∷ ms
      → LeavesLanding cmp t old done deliver_at since new → LandsFirst cmp t old m ms deliver_at since new
  first_lands m ms done deliver_at since first =
      subst (λ (l : List (Message P)). LeavesLanding cmp t old l deliver_at since new) first

module _ {P : Type 0} (cmp : P → P → Ordering) (p : Planned P) where
  -- the first of a queue is that of the front with one message
  pub since_taken_first : (queue : List (Arc (code.Message P) Global)) (x : Arc (code.Message P) Global) (at : ℕ)
      → at < length queue → at ≡ 0 → x ≡ get_or queue at x
      → since_of_first cmp p (messages (take (at + 1) queue))
      ≡ idle_from cmp p (message_of x.value).origin (message_of x.value).recipient
  since_taken_first [] x at inside zero_is there = absurd (omega (arith, inside))
  since_taken_first (y ∷ queue) x zero inside zero_is there =
      ap
      (λ (r : Arc (code.Message P) Global). idle_from cmp p (message_of r.value).origin (message_of r.value).recipient)
      (sym there)
  since_taken_first (y ∷ queue) x (suc at) inside zero_is there = absurd (omega (arith, zero_is))

  -- and that of each front with more
  pub since_taken : (queue : List (Arc (code.Message P) Global)) (at more : ℕ) → 0 < at → 0 < more
      → since_of_first cmp p (messages (take at queue)) ≡ since_of_first cmp p (messages (take more queue))
  since_taken queue zero more some_at some = absurd (omega (arith, some_at))
  since_taken queue (suc at) zero some_at some = absurd (omega (arith, some))
  since_taken [] (suc at) (suc more) some_at some = refl
  since_taken (x ∷ queue) (suc at) (suc more) some_at some = refl
