-- A launch in the planned world is a start in the world, and what is done at once leaves.
use Rattle.link_simulation.proofs.Common.{subst, ◌≡◌, ℕ, ◌+◌, ◌≤◌, List, [], ◌∷◌, ◌++◌, map, length, Bool, true, false}
use Rattle.link_simulation.proofs.Common.{cond, not, Option, Some, None, refl, sym, ap, ◌∙◌, arith, nat_le, ⊤, ◌&&◌}
use Rattle.link_simulation.proofs.Common.{filter, find, list_any, AllZip, Ordering, IsTotalOrder, not-true, map-append}
use Rattle.link_simulation.proofs.Common.{filter-append, whole, Completed, Course, Flight, World, flows, goes, is_done}
use Rattle.link_simulation.proofs.Common.{last_moment, may_start, meets, start, flight_of, Launches, launched, no_id}
use Rattle.link_simulation.proofs.Common.{nothing_waits, starts, too_early, Message, OneForEachPair, SameMessage}
use Rattle.link_simulation.proofs.Common.{same_pair, AreInPairOrder, Planned, next_of, Follows, IsSameFlight, Tallies}
use Rattle.link_simulation.proofs.Common.{FlowIdsUsedUp, leb-true, le-leb, without_first, leaving, staying}
use Rattle.link_simulation.proofs.Common.{out_of_waiting, joined, launch_then, Each, each_map, by_bool}
use Rattle.std.proofs.lemmas.List.{append-nil}
use Rattle.std.proofs.lemmas.Slice.Zip.{all_zipped_more}
use Rattle.link_simulation.proofs.Simulation.LowestTerms.{whole_lowest, drained_none}
use Rattle.link_simulation.proofs.Simulation.Queue.{find_none, pair_like, pair_sym, one_pair_more, find_passes}
use Rattle.link_simulation.proofs.Simulation.AlikeMessages.{message_itself, pairs_alike}
use Rattle.link_simulation.proofs.Rule.BeforeNext.{filter_none, messages_alike, may_alike}
use Rattle.link_simulation.proofs.Rule.Accounts.{none_matched, each_passes, leavers_alike, account_follows}
use Rattle.link_simulation.proofs.Simulation.SettlingEnds.{length_without, find_like}

-- ---- lists

abbrev pub rest_of : {X : Type 0} → List X → List X
rest_of [] = []
rest_of (x ∷ xs) = xs

abbrev pub head_of : {X : Type 0} → List X → Option X
head_of [] = None
head_of (x ∷ xs) = Some x

pub head_found : {X : Type 0} (test : X → Bool) (xs : List X) → find test xs ≡ head_of (filter test xs)
head_found test [] = refl
head_found {X} test (x ∷ xs) = grind (arith, (head_found test xs))

pub filter_all : {X : Type 0} (test : X → Bool) (xs : List X) → Each (λ x. test x ≡ false) xs
    → filter (λ x. not (test x)) xs ≡ xs
filter_all test [] h = refl
filter_all test (x ∷ xs) h = rw (h.0, filter_all test xs h.1) refl

abbrev pub OptionsAlike : {X Y : Type 0} → (X → Y → Type 0) → Option X → Option Y → Type 0
OptionsAlike R None None = ⊤
OptionsAlike R None (Some y) = ⊥
OptionsAlike R (Some x) None = ⊥
OptionsAlike R (Some x) (Some y) = R x y

heads_alike : {X Y : Type 0} (R : X → Y → Type 0) (xs : List X) (ys : List Y) → AllZip R xs ys
    → OptionsAlike R (head_of xs) (head_of ys)
heads_alike R [] [] all = tt
heads_alike R [] (y ∷ ys) all = absurd all
heads_alike R (x ∷ xs) [] all = absurd all
heads_alike R (x ∷ xs) (y ∷ ys) all = all.0

rests_alike : {X Y : Type 0} (R : X → Y → Type 0) (xs : List X) (ys : List Y) → AllZip R xs ys
    → AllZip R (rest_of xs) (rest_of ys)
rests_alike R [] [] all = tt
rests_alike R [] (y ∷ ys) all = absurd all
rests_alike R (x ∷ xs) [] all = absurd all
rests_alike R (x ∷ xs) (y ∷ ys) all = all.1

any_but_first : {X : Type 0} (p test : X → Bool) (xs : List X) → list_any p xs ≡ false
    → list_any p (without_first test xs) ≡ false
any_but_first p test [] e = refl
any_but_first {X} p test (x ∷ xs) e = grind (arith, (any_but_first p test xs))

module _ {P : Type 0} (cmp : P → P → Ordering) (order : IsTotalOrder cmp) where
  -- ---- what waits

  pub pair_order_without : (test : Message P → Bool) (ms : List (Message P)) → AreInPairOrder cmp ms
      → AreInPairOrder cmp (without_first test ms)
  pair_order_without test [] h = tt
  pair_order_without test (m ∷ ms) h = grind (arith, any_but_first, (pair_order_without test ms))

  -- the first message of a pair leaves the waiting ones of that pair alone shorter
  pub waits_without : (m x : Message P) (ws : List (Message P))
      → filter (same_pair cmp m) (without_first (same_pair cmp x) ws)
      ≡ cond (same_pair cmp m x) (rest_of (filter (same_pair cmp m) ws)) (filter (same_pair cmp m) ws)
  waits_without m x ws = by_pair (same_pair cmp m x) refl ws
    where
      by_pair : (b : Bool) → same_pair cmp m x ≡ b → (ws : List (Message P))
          → filter (same_pair cmp m) (without_first (same_pair cmp x) ws)
          ≡ cond b (rest_of (filter (same_pair cmp m) ws)) (filter (same_pair cmp m) ws)
      by_pair true e [] = refl
      by_pair false e [] = refl
      by_pair true e (y ∷ ws) = grind (arith, pair_like, rest_of, (by_pair true e ws))
      by_pair false e (y ∷ ws) = grind (arith, pair_sym, pair_like, (by_pair false e ws))

  waiting_taken : (x y m : Message P) (ms ns : List (Message P)) → SameMessage cmp x y
      → AllZip (SameMessage cmp) (filter (same_pair cmp m) ms) (filter (same_pair cmp m) ns)
      → AllZip (SameMessage cmp) (filter (same_pair cmp m) (without_first (same_pair cmp x) ms))
      (filter (same_pair cmp m) (without_first (same_pair cmp y) ns))
  waiting_taken x y m ms ns same all = grind (arith, waits_without, rest_of, pairs_alike, message_itself, rests_alike)

  -- the pair's next is the same in both worlds
  pub next_alike : (t : ℕ) (p : Planned P) (w : World P) (m n : Message P) → Tallies cmp t p w → SameMessage cmp m n
      → OptionsAlike (SameMessage cmp) (next_of cmp p m) (find (same_pair cmp n) w.waiting)
  next_alike t p w m n same alike =
      let pair : same_pair cmp m n ≡ true = rw (alike.origin, alike.recipient) refl in
      let there = find_like cmp order m n w.waiting pair ∙ head_found _ w.waiting in
      subst (λ (o : Option (Message P)). OptionsAlike (SameMessage cmp) o (find (same_pair cmp n) w.waiting))
      (sym (head_found _ p.waiting)) (subst (λ (o : Option (Message P)). OptionsAlike (SameMessage cmp)
      (head_of (filter (same_pair cmp m) p.waiting)) o) (sym there) (heads_alike _ _ _ (same.waiting m)))

  -- ---- a message starts

  started_flight : (t id : ℕ) (x y : Message P) → SameMessage cmp x y
      → IsSameFlight cmp t
      (record { id = id; message = x; left = whole (length x.bytes); rate = Some (whole 0); updated = t })
      (flight_of y)
  started_flight t id x y same =
      grind (
        arith,
        whole,
        (whole_lowest (length x.bytes)),
        (whole (length x.bytes)),
        (whole 0),
        (drained_none (whole (length x.bytes)) (whole 0) (whole_lowest (length x.bytes)) (omega arith)),
      )

  -- before any limit nothing waits
  pub waits_limited : (t : ℕ) (p : Planned P) (w : World P) (y : Message P) → Tallies cmp t p w
      → find (same_pair cmp y) w.waiting ≡ Some y → p.limited ≡ false → ⊥
  waits_limited t p w y same own free = grind (arith, find_none, none_matched)

  pub launched_tallies : (t : ℕ) (p : Planned P) (w : World P) (x y : Message P) → Tallies cmp t p w
      → SameMessage cmp x y → find (same_pair cmp y) w.waiting ≡ Some y
      → list_any (same_pair cmp y) (flows w) ≡ false → Tallies cmp t (launched cmp t p x) (joined cmp w y)
  launched_tallies t p w x y same alike own idle =
      grind (
        arith,
        waiting_taken,
        map-append,
        waits_limited,
        (pair_order_without (same_pair cmp x) p.waiting
            same.pair_order),
        (all_zipped_more (IsSameFlight cmp t) p.sending w.sending (record {
          id = p.next_id;
          message = x;
          left = whole (length x.bytes);
          rate = Some (whole 0);
          updated = t;
        }) (flight_of y) same.sending
            (started_flight t p.next_id x y alike)),
        (one_pair_more cmp order),
      )

  abbrev pub NoneDone : World P → Type 0
  NoneDone w = Each (λ g. is_done cmp w g ≡ false) w.sending

  pub staying_none : (w : World P) → NoneDone (staying cmp w)
  unfolding staying
  staying_none w = grind (arith, each_map, not-true, each_passes)

  -- those that join the leavers, and the world after the start
  abbrev pub joining : World P → Message P → List (Flight P)
  joining w y = cond (is_done cmp w (flight_of y)) (flight_of y ∷ []) []

  abbrev pub started : World P → Message P → World P
  started w y = cond (is_done cmp w (flight_of y)) (out_of_waiting cmp w y) (joined cmp w y)

  pub joining_leaves : (w : World P) (y : Message P) → NoneDone w → leaving cmp (joined cmp w y) ≡ joining w y
  unfolding leaving
  joining_leaves w y none = grind (arith, filter-append, filter_none)

  pub started_stays : (w : World P) (y : Message P) → NoneDone w → staying cmp (joined cmp w y) ≡ started w y
  unfolding staying
  started_stays w y none =
      grind (arith, filter-append, joined, append-nil, (joined cmp w y), (filter_all (is_done cmp w) w.sending none))

  -- the world goes on as the planned world does: with these leavers, in this world
  pub record GoesOn (t : ℕ) (w : World P) (fs : List (Flight P)) (o : Option (Message P)) (leavers : List (Message P))
      (new : Planned P) : Type 0 where
    pub more : List (Flight P)
    pub world : World P
    pub launches : (next : List (Flight P) → World P → Course (Completed P) (World P))
        → launch_then cmp next t fs w o ≡ next (fs ++ more) world
    pub follows : Follows cmp t new world
    pub none : NoneDone world
    pub leaves : AllZip (SameMessage cmp) leavers (map (λ (g : Flight P). g.message) more)
    pub fewer : length more + length world.waiting ≤ length w.waiting

  abbrev pub LaunchAlike : ℕ → World P → List (Flight P) → Option (Message P) → Course (Message P) (Planned P) → Type 0
  LaunchAlike t w fs o (goes leavers new) = GoesOn t w fs o leavers new
  LaunchAlike t w fs o (meets fault) =
      (next : List (Flight P) → World P → Course (Completed P) (World P)) → launch_then cmp next t fs w o ≡ meets fault

  -- the same, where it is known that the message may start
  pub record StartsSo (t : ℕ) (w : World P) (y : Message P) (leavers : List (Message P)) (new : Planned P) : Type 0
    where
      pub starts : start cmp w y ≡ goes [] (joined cmp w y)
      pub follows : Follows cmp t new (started w y)
      pub none : NoneDone (started w y)
      pub leaves : AllZip (SameMessage cmp) leavers (map (λ (g : Flight P). g.message) (joining w y))
      pub one_each : OneForEachPair cmp (flows (joined cmp w y))

  abbrev pub StartAlike : ℕ → World P → Message P → Course (Message P) (Planned P) → Type 0
  StartAlike t w y (goes leavers new) = StartsSo t w y leavers new
  StartAlike t w y (meets fault) = start cmp w y ≡ meets fault

  starts_none : (next : List (Flight P) → World P → Course (Completed P) (World P)) (t : ℕ) (fs : List (Flight P))
      (w : World P) → launch_then cmp next t fs w None ≡ next (fs ++ []) w
  unfolding launch_then
  starts_none next t fs w = ap (λ (q : List (Flight P)). next q w) (sym (append-nil fs))

  starts_not : (next : List (Flight P) → World P → Course (Completed P) (World P)) (t : ℕ) (fs : List (Flight P))
      (w : World P) (y : Message P) → may_start cmp t w y ≡ false
      → launch_then cmp next t fs w (Some y) ≡ next (fs ++ []) w
  unfolding launch_then
  starts_not next t fs w y e = rw e (ap (λ (q : List (Flight P)). next q w) (sym (append-nil fs)))

  starts_fault : (next : List (Flight P) → World P → Course (Completed P) (World P)) (t : ℕ) (fs : List (Flight P))
      (w : World P) (y : Message P) → may_start cmp t w y ≡ true
      → (nat_le last_moment w.next_id) ≡ true → launch_then cmp next t fs w (Some y) ≡ meets FlowIdsUsedUp
  unfolding launch_then
  starts_fault next t fs w y e f = rw (e, f) refl

  starts_so : (next : List (Flight P) → World P → Course (Completed P) (World P)) (t : ℕ) (fs : List (Flight P))
      (w : World P) (y : Message P) → may_start cmp t w y ≡ true → (nat_le last_moment w.next_id) ≡ false
      → launch_then cmp next t fs w (Some y) ≡ next (fs ++ joining w y) (started w y)
  unfolding launch_then
  starts_so next t fs w y e f = grind (arith, by_bool, joined, append-nil)

  pub started_fewer : (w : World P) (y : Message P) → find (same_pair cmp y) w.waiting ≡ Some y
      → length (joining w y) + length (started w y).waiting ≤ length w.waiting
  started_fewer w y e =
      let fewer = length_without (same_pair cmp y) y w.waiting e in
      by_bool (is_done cmp w (flight_of y)) (λ is. rw is (omega arith)) (λ is. rw is (omega arith))

  pub idle_from : (a b : Bool) → (not a && b) ≡ true → a ≡ false
  idle_from true b e = cc
  idle_from false b e = refl

  -- a launch in the one world is a launch in the other
  pub launch_alike : {t : ℕ} {p : Planned P} {o : Option (Message P)} {course : Course (Message P) (Planned P)}
      → Launches cmp t p o course
      → (w : World P) (fs : List (Flight P)) (m : Message P) (r : Option (Message P)) → Follows cmp t p w → NoneDone w
      → find (same_pair cmp m) w.waiting ≡ r → OptionsAlike (SameMessage cmp) o r → LaunchAlike t w fs r course
  launch_alike {t = t} {p = p} nothing_waits w fs m None follows none is alike =
      record {
        more = [];
        world = w;
        launches = λ next. starts_none next t fs w;
        follows = follows;
        none = none;
        leaves = tt;
        fewer = omega arith;
      }
  launch_alike {t = t} {p = p} (too_early {m = x} early) w fs m (Some y) follows none is alike =
      let not_yet : may_start cmp t w y ≡ false = grind (arith, may_alike, messages_alike) in
      record {
        more = [];
        world = w;
        launches = λ next. starts_not next t fs w y not_yet;
        follows = follows;
        none = none;
        leaves = tt;
        fewer = omega arith;
      }
  launch_alike {t = t} {p = p} (no_id {m = x} may last) w fs m (Some y) follows none is alike =
      grind (arith, may_alike, messages_alike, starts_fault, le-leb)
  launch_alike {t = t} {p = p} (starts {m = x} {leavers = leavers} {new = new} may below account) w fs m (Some y)
      follows none is alike =
      let may_too = sym (may_alike cmp order t p w x y follows.tallies.last_arrival
      (messages_alike cmp order t p.sending w.sending follows.tallies.sending) alike) ∙ may in
      let idle = idle_from _ _ may_too in
      let own = find_like cmp order m y w.waiting (find_passes _ y w.waiting is) ∙ is in
      let tallies = launched_tallies t p w x y follows.tallies alike own idle in
      grind (
        arith,
        starts_so,
        leb-true,
        (started w y),
        (started_stays w y none),
        (account_follows cmp order t (launched cmp t p x) new leavers (joined cmp w y) tallies account),
        (staying_none (joined cmp w y)),
        (joining_leaves w y none),
        (leavers_alike cmp order t (launched cmp t p x) new leavers (joined cmp w y) tallies account),
        (started_fewer w y own),
      )
  launch_alike _ w fs m _ follows none is alike = absurd alike

  pub start_alike : {t : ℕ} {p : Planned P} {o : Option (Message P)} {course : Course (Message P) (Planned P)}
      → Launches cmp t p o course → (w : World P) (y : Message P) → Follows cmp t p w → NoneDone w
      → may_start cmp t w y ≡ true → find (same_pair cmp y) w.waiting ≡ Some y
      → OptionsAlike (SameMessage cmp) o (Some y) → StartAlike t w y course
  start_alike nothing_waits w y follows none may own alike = absurd alike
  start_alike {t = t} {p = p} (too_early {m = x} early) w y follows none may own alike =
      grind (arith, may_alike, messages_alike)
  start_alike {t = t} {p = p} (no_id {m = x} launches last) w y follows none may own alike = grind arith
  start_alike {t = t} {p = p} (starts {m = x} {leavers = leavers} {new = new} launches below account) w y follows none
      may own alike =
      let idle = idle_from _ _ may in
      let tallies = launched_tallies t p w x y follows.tallies alike own idle in
      grind (
        arith,
        leb-true,
        (started_stays w y none),
        (account_follows cmp order t (launched cmp t p x) new leavers (joined cmp w y) tallies account),
        (staying_none (joined cmp w y)),
        (joining_leaves w y none),
        (leavers_alike cmp order t (launched cmp t p x) new leavers (joined cmp w y) tallies account),
      )
