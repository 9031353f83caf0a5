-- What an origin still has to send goes down by no more than its egress cap lets go.
use Rattle.link_simulation.proofs.Common.{common_steps, sum_by, ◌≡◌, ℕ, zero, suc, ◌+◌, ◌-◌, ◌*◌, ◌<◌, ◌≤◌}
use Rattle.link_simulation.proofs.Common.{List, [], ◌∷◌, ◌++◌, map, length, Bool, true, false, Option, Some, None, refl}
use Rattle.link_simulation.proofs.Common.{sym, ap, ◌∙◌, subst, arith, append-nil, if◌then◌else◌, slice_get, filter}
use Rattle.link_simulation.proofs.Common.{find, flat_map, Ordering, IsTotalOrder, All-contains, Contains-append_left}
use Rattle.link_simulation.proofs.Common.{Contains-append_right, mul-pos, IsAtMost, plus, Amount, billion, whole, Side}
use Rattle.link_simulation.proofs.Common.{load, without_first, same_peer, Completed, Course, Flight, World, and_then}
use Rattle.link_simulation.proofs.Common.{complete, first_waiting, flows, goes, instant, is_done, least_pair}
use Rattle.link_simulation.proofs.Common.{meets, ready, settle, settle_within, start, start_next}
use Rattle.link_simulation.proofs.Common.{wake_within, EndsWith, out_of_flight, completed, flight_of, Runs}
use Rattle.link_simulation.proofs.Common.{call_advance, Caps, Message, same_pair, rate_of, is_unlimited, rates_from}
use Rattle.link_simulation.proofs.Common.{AreFair, Parts, capped_sides, drained_by, sides_for, ArePositive, Drains}
use Rattle.link_simulation.proofs.Common.{Ticks, drain_each, no_tick, one_tick, tick_faults, places_from, Each, turn}
use borrow.Author.Tests.{eqb-true}
use Rattle.std.specs.Prelude.{Contains}
use Rattle.std.proofs.Math.Nat.{add-mul, mul-add, zero-add}
use Rattle.std.proofs.lemmas.List.Sums.{sum_by-cons}
use Rattle.link_simulation.specs.Laws.Bytes.{allowance, bytes_from, left_from, waiting_from}
use Rattle.link_simulation.proofs.Simulation.Queue.{then_then, peer_like, find_passes, by_option}
use Rattle.link_simulation.proofs.Simulation.SettlingEnds.{ends_preceded, ends_and_then, ends_cond, find_like}
use Rattle.link_simulation.proofs.Simulation.SettlingEnds.{wake_keeps, settle_keeps}
use Rattle.link_simulation.proofs.Simulation.Split.{rest_is}
use Rattle.link_simulation.proofs.Laws.AmountOrder.{share, at_most_itself, at_most_trans, plus_under, plus_spent}
use Rattle.link_simulation.proofs.Laws.AmountOrder.{plus_shares, plus_whole, two_shares, share_grows, lowest_takes}
use Rattle.link_simulation.proofs.Simulation.OneNext.{drain_each_positive}
use Rattle.link_simulation.proofs.Simulation.OtherPairs.{fronts_are_first}

-- ---- lists

pub each_filter : {X : Type 0} (Q R : X → Type 0) (test : X → Bool) (xs : List X)
    → ((x : X) → test x ≡ true → Q x → R x) → Each Q xs → Each R (filter test xs)
each_filter Q R test [] h e = tt
each_filter {X} Q R test (x ∷ xs) h e = grind (arith, (each_filter Q R test xs h))

find_in_flat_map : {X A : Type 0} (test : X → Bool) (f : X → List A) (x : X) (a : A) (xs : List X)
    → find test xs ≡ Some x → Contains (f x) a → Contains (flat_map f xs) a
find_in_flat_map test f x a [] e has = cc
find_in_flat_map {X} {A} test f x a (y ∷ ys) e has =
    grind (arith, Contains-append_left, Contains-append_right, (find_in_flat_map test f x a ys))

-- what those that pass get together
abbrev part_of : Bool → Option ℕ → ℕ
part_of true (Some a) = a
part_of true None = 0
part_of false rate = 0

abbrev total : List Bool → Parts → ℕ
total [] rates = 0
total (u ∷ us) [] = 0
total (u ∷ us) (rate ∷ rates) = part_of u rate + total us rates

none_total : {X : Type 0} (test : X → Bool) (xs : List X) (rates : Parts) → find test xs ≡ None
    → total (map test xs) rates ≡ 0
none_total test [] rates e = refl
none_total test (x ∷ xs) [] e = refl
none_total {X} test (x ∷ xs) (r ∷ rs) e = grind (arith, (none_total test xs rs))

module _ {P : Type 0} (cmp : P → P → Ordering) (order : IsTotalOrder cmp) where
  pub each_least : (Q : Message P → Type 0) (ms : List (Message P)) (m : Message P) → Each Q ms
      → least_pair cmp ms ≡ Some m → Q m
  each_least Q [] m e is = cc
  each_least Q (n ∷ ns) m e is = grind (arith, (each_least Q ns))

  -- ---- waking

  pub wake_none : (n t : ℕ) (w : World P) → least_pair cmp (ready cmp t w) ≡ None
      → wake_within cmp (suc n) t w ≡ goes [] w
  wake_none n t w e = rw (e, wake_within) refl

  pub wake_first : (n t : ℕ) (w : World P) (m : Message P) → least_pair cmp (ready cmp t w) ≡ Some m
      → wake_within cmp (suc n) t w ≡ and_then (start cmp w m) (λ v. and_then (settle cmp t v) (wake_within cmp n t))
  wake_first n t w m e = rw (e, wake_within) (then_then (start cmp w m) (settle cmp t) (wake_within cmp n t))

  pub ready_is_first : (t : ℕ) (w : World P) (m : Message P) → least_pair cmp (ready cmp t w) ≡ Some m
      → find (same_pair cmp m) w.waiting ≡ Some m
  ready_is_first t w m e =
      each_least _ _ m (each_filter _ _ _ _ (λ n may first. first) (fronts_are_first cmp order w.waiting)) e

  -- ---- what each step leaves

  finished : (p : P) (test : Flight P → Bool) (fs : List (Flight P)) (n : ℕ)
      → ((f : Flight P) → test f ≡ true → same_peer cmp p f.message.origin ≡ true → f.left.num ≡ 0)
      → IsAtMost (plus (left_from cmp p fs) (whole n)) (plus (left_from cmp p (without_first test fs)) (whole n))
  finished p test [] n spent = at_most_itself (plus (left_from cmp p []) (whole n))
  finished p test (f ∷ fs) n spent =
      grind (arith, whole, plus_spent, at_most_itself, plus_under, (finished p test fs n spent))

  abbrev gain : P → Message P → ℕ
  gain p m = if same_peer cmp p m.origin then length m.bytes else 0

  started : (p : P) (m : Message P) (fs : List (Flight P)) (n k : ℕ) → n ≡ gain p m + k
      → IsAtMost (plus (left_from cmp p fs) (whole n)) (plus (left_from cmp p (fs ++ flight_of m ∷ [])) (whole k))
  started p m [] n k e = grind arith
  started p m (f ∷ fs) n k e = grind (arith, whole, plus_under, (started p m fs n k e))

  taken_from : (p : P) (m : Message P) (ms : List (Message P)) → find (same_pair cmp m) ms ≡ Some m
      → waiting_from cmp p ms ≡ gain p m + waiting_from cmp p (without_first (same_pair cmp m) ms)
  taken_from p m [] e = cc
  taken_from p m (x ∷ xs) e = grind (arith, (taken_from p m xs))

  pub left_positive : (p : P) (fs : List (Flight P)) → ArePositive fs → 0 < (left_from cmp p fs).den
  left_positive p [] pos = omega arith
  left_positive p (f ∷ fs) pos = grind (arith, mul-pos, (left_positive p fs))

  pub positive_without : (test : Flight P → Bool) (fs : List (Flight P)) → ArePositive fs
      → ArePositive (without_first test fs)
  positive_without test [] pos = tt
  positive_without test (f ∷ fs) pos = grind (arith, (positive_without test fs))

  pub positive_joined : (fs : List (Flight P)) (m : Message P) → ArePositive fs → ArePositive (fs ++ flight_of m ∷ [])
  positive_joined [] m pos = (omega arith, tt)
  positive_joined (f ∷ fs) m pos = (pos.0, positive_joined fs m pos.1)

  -- the egress cap of a peer, by whatever equal peer it is asked for
  abbrev pub HasEgress : World P → P → ℕ → Type 0
  HasEgress w p cap = (q : P) → same_peer cmp p q ≡ true → w.caps.egress q ≡ Some cap

  -- where those that pass are limited, what they get together is the load of their places
  total_is_load : (caps : Caps P) (parts : ℕ → ℕ) (test : Message P → Bool) (place : ℕ) (ms : List (Message P))
      → ((m : Message P) → test m ≡ true → is_unlimited cmp caps m ≡ false)
      → total (map test ms) (rates_from cmp caps parts place ms) ≡ sum_by parts (places_from place test ms)
  total_is_load caps parts test place [] limited = refl
  total_is_load caps parts test place (m ∷ ms) limited =
      grind (arith, common_steps, places_from, sum_by-cons, (total_is_load caps parts test (place + 1) ms limited))

  passing_limited : (caps : Caps P) (parts : ℕ → ℕ) (test : Message P → Bool) (place : ℕ) (ms : List (Message P))
      → ((m : Message P) → test m ≡ true → is_unlimited cmp caps m ≡ false) → (i : ℕ)
      → slice_get (map test ms) i ≡ Some true → slice_get (rates_from cmp caps parts place ms) i ≡ Some None → ⊥
  passing_limited caps parts test place [] limited i at is = cc
  passing_limited caps parts test place (m ∷ ms) limited zero at is = grind arith
  passing_limited caps parts test place (m ∷ ms) limited (suc i) at is =
      passing_limited caps parts test (place + 1) ms limited i at is

  -- ---- an instant

  module _ (p : P) (cap : ℕ) where
    -- amounts over numbers above zero, and the cap
    pub record Holds (w : World P) : Type 0 where
      pub positive : ArePositive w.sending
      pub egress : HasEgress w p cap

    -- nothing is lost from the one to the other
    pub record Follows (w v : World P) : Type 0 where
      pub holds : Holds v
      pub bytes : IsAtMost (bytes_from cmp p w) (bytes_from cmp p v)

    bytes_positive : (w : World P) → Holds w → 0 < (bytes_from cmp p w).den
    bytes_positive w h = mul-pos (left_positive p w.sending h.positive) (omega arith)

    follows_trans : (w v u : World P) → Follows w v → Follows v u → Follows w u
    follows_trans w v u f g =
        grind (
          arith,
          (at_most_trans (bytes_from cmp p w) (bytes_from cmp p v) (bytes_from cmp p u)
              (bytes_positive v f.holds) f.bytes g.bytes),
        )

    follows_itself : (w : World P) → Holds w → Follows w w
    follows_itself w h = record { holds = h; bytes = at_most_itself (bytes_from cmp p w) }

    ends_more : (w v : World P) → Follows w v → (c : Course (Completed P) (World P)) → EndsWith (Follows v) c
        → EndsWith (Follows w) c
    ends_more w v f (goes cs u) g = follows_trans w v u f g
    ends_more w v f (meets fault) g = tt

    follows_then : (w : World P) (c : Course (Completed P) (World P)) (k : World P → Course (Completed P) (World P))
        → EndsWith (Follows w) c
        → ((v : World P) → Holds v → EndsWith (Follows v) (k v)) → EndsWith (Follows w) (and_then c k)
    follows_then w c k h next = grind (arith, ends_and_then, ends_more)

    start_follows : (w : World P) (m : Message P) → Holds w → find (same_pair cmp m) w.waiting ≡ Some m
        → EndsWith (Follows w) (start cmp w m)
    start_follows w m h first = grind (arith, ends_cond, positive_joined, started, taken_from)

    start_next_follows : (t : ℕ) (w : World P) (m : Message P) (o : Option (Message P))
        → find (same_pair cmp m) w.waiting ≡ o → Holds w → EndsWith (Follows w) (start_next cmp t w o)
    start_next_follows t w m None e h = follows_itself w h
    start_next_follows t w m (Some x) e h =
        grind (arith, find_passes, ends_cond, start, start_follows, find_like, follows_itself)

    done_is_spent : (w : World P) (f : Flight P) → Holds w → is_done cmp w f ≡ true
        → same_peer cmp p f.message.origin ≡ true → f.left.num ≡ 0
    done_is_spent w f h done from = grind (arith, eqb-true)

    complete_follows : (t : ℕ) (w : World P) (f : Flight P) → Holds w
        → EndsWith (Follows w) (complete cmp t w f.message)
    complete_follows t w f h =
        let landed = out_of_flight cmp t w f.message in
        let still : Holds landed = grind (arith, positive_without) in
        let less : Follows w landed = grind (arith, finished, done_is_spent) in
        grind (
          arith,
          ends_cond,
          (ends_preceded (Follows w) (completed cmp t f.message ∷ [])
              (start_next cmp t landed (first_waiting cmp landed f.message)) (ends_more w landed less
              (start_next cmp t landed (first_waiting cmp landed f.message))
              (start_next_follows t landed f.message (first_waiting cmp landed f.message) refl still))),
        )

    settle_within_follows : (n t : ℕ) (w : World P) → Holds w → EndsWith (Follows w) (settle_within cmp n t w)
    settle_within_follows n t w h =
        settle_keeps cmp order (Follows w) t (λ v f e k. ends_more w v k (complete cmp t v f.message)
        (complete_follows t v f k.holds)) n w (follows_itself w h)

    turn_follows : (t : ℕ) (w : World P) (m : Message P) → least_pair cmp (ready cmp t w) ≡ Some m → Holds w
        → EndsWith (Follows w) (turn cmp t w m)
    turn_follows t w m e h = grind (arith, follows_then, start_follows, ready_is_first, settle_within_follows)

    wake_within_follows : (n t : ℕ) (w : World P) → Holds w → EndsWith (Follows w) (wake_within cmp n t w)
    wake_within_follows n t w h =
        wake_keeps cmp order (Follows w) t (λ v m e k. ends_more w v k (turn cmp t v m) (turn_follows t v m e k.holds))
        n w (follows_itself w h)

    pub instant_follows : (w : World P) → Holds w → EndsWith (Follows w) (instant cmp w)
    instant_follows w h = grind (arith, follows_then, settle_within_follows, wake_within_follows)

    -- ---- a nanosecond

    abbrev pub from_it : Message P → Bool
    from_it m = same_peer cmp p m.origin

    -- the rates of the origin's messages: together at most the cap, and none without limit
    record AreCapped (ms : List (Message P)) (per : ℕ) (rates : Parts) : Type 0 where
      pub within : total (map from_it ms) rates ≤ cap * per
      pub limited : (i : ℕ) → slice_get (map from_it ms) i ≡ Some true → slice_get rates i ≡ Some None → ⊥

    same_users : (q : P) (place : ℕ) (ms : List (Message P)) → same_peer cmp p q ≡ true
        → places_from place (λ (n : Message P). same_peer cmp q n.origin) ms ≡ places_from place from_it ms
    same_users q place [] e = refl
    same_users q place (m ∷ ms) e = rw (peer_like cmp order p q m.origin e, same_users q (place + 1) ms e) refl

    own_limited : (w : World P) → Holds w → (m : Message P) → from_it m ≡ true → is_unlimited cmp w.caps m ≡ false
    own_limited w h m from = grind arith

    fair_is_capped : (w : World P) (per : ℕ) (rates : Parts) → Holds w → AreFair cmp w.caps (flows w) per rates
        → AreCapped (flows w) per rates
    fair_is_capped w per rates h fair =
        by_option (find from_it (flows w)) (λ e.
        record {
          within = let z : total (map from_it (flows w)) rates ≡ 0 = none_total from_it (flows w) rates e in
              omega arith;
          limited = limits;
        }) (λ m e.
        let from : same_peer cmp p m.origin ≡ true = find_passes from_it m (flows w) e in
        let side : Side =
        record {
          cap = cap;
          users = places_from 0 (λ (n : Message P). same_peer cmp m.origin n.origin) (flows w);
        } in
        let users : side.users ≡ places_from 0 from_it (flows w) = same_users m.origin 0 (flows w) from in
        let has = find_in_flat_map from_it (sides_for cmp w.caps (flows w)) m side (flows w) e
        (rw (h.egress m.origin from) (0, omega arith, refl)) in
        let load_is = ap (total (map from_it (flows w))) fair.rated ∙ total_is_load w.caps fair.parts from_it 0
        (flows w) (own_limited w h) ∙ ap (sum_by fair.parts) (sym users) in
        let fits = All-contains (λ s. load fair.parts s ≤ s.cap * per) (capped_sides cmp w.caps (flows w)) side
        fair.fair.within has in
        record { within = omega (arith, load_is, fits); limited = limits })
      where
        limits : (i : ℕ) → slice_get (map from_it (flows w)) i ≡ Some true → slice_get rates i ≡ Some None → ⊥
        limits i at is = grind (arith, passing_limited, own_limited)

    drained_one : (per n others : ℕ) (left before after : Amount) (c : Bool) (r : Option ℕ) → 0 < per → 0 < left.den
        → (c ≡ true → r ≡ None → ⊥) → IsAtMost before (plus after (share (others * n) (per * billion)))
        → IsAtMost (if c then plus left before else before)
        (plus (if c then plus (drained_by (rate_of per r) n left) after else after)
        (share ((part_of c r + others) * n) (per * billion)))
    drained_one per n others left before after true None some pos never ih = absurd (never refl refl)
    drained_one per n others left before after true (Some a) some pos never ih =
        grind (arith, rate_of, add-mul, plus_shares, lowest_takes)
    drained_one per n others left before after false r some pos never ih = grind (arith, share, zero-add)

    drained_each : (per : ℕ) (rates : Parts) (n : ℕ) (fs : List (Flight P)) → 0 < per → ArePositive fs
        → ((i : ℕ) → slice_get (map from_it (map (λ (f : Flight P). f.message) fs)) i ≡ Some true
        → slice_get rates i ≡ Some None → ⊥) → IsAtMost (left_from cmp p fs)
        (plus (left_from cmp p (drain_each per rates n fs))
        (share (total (map from_it (map (λ (f : Flight P). f.message) fs)) rates * n) (per * billion)))
    drained_each per rates n [] some pos limited = grind arith
    drained_each per [] n (f ∷ fs) some pos limited = grind arith
    drained_each per (r ∷ rs) n (f ∷ fs) some pos limited =
        drained_one per n _ f.left _ _ _ r some pos.0 (λ is none. limited 0 (ap Some is) (ap Some none))
        (drained_each per rs n fs some pos.1 (λ i. limited (suc i)))

    -- in one nanosecond, no more goes than the cap lets go
    pub record Loses (n : ℕ) (w v : World P) : Type 0 where
      pub holds : Holds v
      pub bytes : IsAtMost (bytes_from cmp p w) (plus (bytes_from cmp p v) (allowance cap n))

    drain_loses : (w v : World P) → Holds w → Drains cmp w v → Loses 1 w v
    drain_loses w v h d =
        let capped = fair_is_capped w d.per d.rates h d.fair in
        let some = d.fair.fair.some_part in
        let u : World P = record w { sending = drain_each d.per d.rates 1 w.sending; moment = w.moment + 1 } in
        let positive : ArePositive u.sending = grind (arith, drain_each_positive) in
        let all = total (map from_it (flows w)) d.rates in
        let sums : IsAtMost (bytes_from cmp p w) (plus (bytes_from cmp p u) (share (all * 1) (d.per * billion))) = grind
        (arith, plus_whole, drained_each) in
        let most = capped.within in
        let scaled : (all * 1) * billion ≤ (cap * 1) * (d.per * billion) = omega arith in
        let end : Loses 1 w u = record {
          holds = record { positive = positive; egress = h.egress };
          bytes = share_grows _ _ (all * 1) (cap * 1) _ billion (mul-pos some (omega arith)) scaled sums;
        } in
        grind arith

    loses_none : (w v : World P) → Follows w v → Loses 0 w v
    loses_none w v f = grind arith

    loses_both : (m n : ℕ) (w v u : World P) → Loses m w v → Loses n v u → Holds v → Loses (m + n) w u
    loses_both m n w v u f g h =
        grind (
          arith,
          (mul-add cap m n),
          (two_shares (bytes_from cmp p w) (bytes_from cmp p v) (bytes_from cmp p u)
              (cap * m) (cap * n) billion (bytes_positive v h) (omega arith) f.bytes g.bytes),
        )

    ends_in : (w : World P) (c : Course (Completed P) (World P)) (cs : List (Completed P)) (v : World P)
        → EndsWith (Follows w) c → c ≡ goes cs v → Follows w v
    ends_in w c cs v f e = subst (λ (d : Course (Completed P) (World P)). EndsWith (Follows w) d) e f

    -- what an origin still has to send goes down by no more than its cap lets go
    pub ticks_lose : {n : ℕ} {w : World P} {course : Course (Completed P) (World P)} → Ticks cmp n w course
        → (cs : List (Completed P)) (v : World P) → course ≡ goes cs v → Holds w → Loses n w v
    ticks_lose {w = w} no_tick cs v e h = grind (arith, loses_none, follows_itself)
    ticks_lose {w = w} (one_tick {n = n} {v = z} {u = u} {cs = ds} {rest = rest} d i t) cs v e h =
        let r : (es : List (Completed P)) × (rest ≡ goes es v) × (ds ++ es ≡ cs) = rest_is cmp ds rest cs v e in
        let first : Loses 1 w z = drain_loses w z h d in
        let after : Follows z u = ends_in z (instant cmp z) ds u (instant_follows z first.holds) i in
        let later : Loses n u v = ticks_lose t r.0 v r.1 after.holds in
        let both : Loses (0 + n) z v = loses_both 0 n z u v (loses_none z u after) later after.holds in
        let all : Loses (1 + (0 + n)) w v = loses_both 1 (0 + n) w z v first both first.holds in
        let count : 1 + (0 + n) ≡ suc n = omega arith in
        subst (λ (k : ℕ). Loses k w v) count all
    ticks_lose (tick_faults d i) cs v e h = cc

    -- and so in one `advance`
    pub advance_loses : (w v : World P) (now : ℕ) (cs : List (Completed P))
        → Runs cmp w (call_advance now) now (goes cs v) → Holds w → Loses (now - w.moment) w v
    advance_loses w v now cs runs h = ticks_lose runs.ticks cs v (last_course runs.ticked (sym runs.acts)) h
      where
        last_course : (c : Course (Completed P) (World P)) → and_then c (λ u. goes [] u) ≡ goes cs v → c ≡ goes cs v
        last_course (goes ds u) e = ap (λ (xs : List (Completed P)). goes xs u) (sym (append-nil ds)) ∙ e
        last_course (meets fault) e = cc
