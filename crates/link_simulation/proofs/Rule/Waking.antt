-- Waking in the planned world is waking in the world.
use Rattle.link_simulation.proofs.Common.{common_steps, ◌≡◌, ℕ, zero, suc, ◌+◌, ◌≤◌, List, [], ◌∷◌, length, Bool, true}
use Rattle.link_simulation.proofs.Common.{false, cond, Some, refl, sym, subst, arith, length-append, filter, find}
use Rattle.link_simulation.proofs.Common.{list_any, AllZip, Ordering, IsTotalOrder, without_first, Completed, Course}
use Rattle.link_simulation.proofs.Common.{World, and_then, flows, goes, is_done, least_pair, may_start, meets, preceded}
use Rattle.link_simulation.proofs.Common.{ready, settle, start, wake_within, EndsWith, flight_of, Finishes, Launches}
use Rattle.link_simulation.proofs.Common.{WakesEach, all_started, no_finish, no_start, starts_one, Message}
use Rattle.link_simulation.proofs.Common.{OneForEachPair, SameMessage, same_pair, Planned, next_of, SameCompletion}
use Rattle.link_simulation.proofs.Common.{CoursesAlike, Follows, IsSettled, out_of_waiting, joined, finish_within, Each}
use Rattle.link_simulation.proofs.Common.{each_filtered, zip-append, by_bool}
use Rattle.link_simulation.proofs.Rule.BeforeNext.{fronts_first, first_found}
use Rattle.link_simulation.proofs.Rule.Launch.{NoneDone, joining, started, joining_leaves, started_stays, next_alike}
use Rattle.link_simulation.proofs.Rule.Launch.{StartsSo, StartAlike, start_alike}
use Rattle.link_simulation.proofs.Rule.Settling.{CourseAlike, looked, finishes_alike, settle_is_finish}
use Rattle.link_simulation.proofs.Simulation.Pass.{wake_none}
use Rattle.link_simulation.proofs.Simulation.AlikeMessages.{pair_itself}
use Rattle.link_simulation.proofs.Simulation.OnePair.{apart, only_both, IsRested, IsAfter, only_taken, only_joined}
use Rattle.link_simulation.proofs.Simulation.OnePair.{rested_joined, finish_only, ready_after, ends_so}
use Rattle.link_simulation.proofs.Simulation.SettlingEnds.{length_without}
use Rattle.link_simulation.proofs.Laws.Bytes.{each_least, wake_first}

-- each of a list of which none passes
pub each_none : {X : Type 0} (test : X → Bool) (xs : List X) → list_any test xs ≡ false → Each (λ x. test x ≡ false) xs
each_none test [] e = tt
each_none test (x ∷ xs) e = grind (arith, (each_none test xs))

module _ {P : Type 0} (cmp : P → P → Ordering) (order : IsTotalOrder cmp) where
  -- ---- a round: one pair starts, and what is done then completes

  pub round_is : (t : ℕ) (w : World P) (y : Message P) → NoneDone cmp order w
      → OneForEachPair cmp (flows (joined cmp w y)) → settle cmp t (joined cmp w y)
      ≡ finish_within cmp (length (joined cmp w y).sending + length (joined cmp w y).waiting) t
      (joining cmp order w y) (started cmp order w y)
  round_is t w y none one = grind (arith, settle_is_finish, joined, joining_leaves, started_stays)

  pub round_fuel : (w : World P) (y : Message P)
      → length (joining cmp order w y) + length (started cmp order w y).waiting
      ≤ length (joined cmp w y).sending + length (joined cmp w y).waiting
  round_fuel w y = grind (arith, length-append, joined)

  -- after a round the others are as they were, the pair may not start, and fewer wait
  abbrev pub IsRound : ℕ → Message P → World P → World P → Type 0
  IsRound t y w v = IsAfter cmp order y t w v × (length v.waiting + 1 ≤ length w.waiting)

  round_after : (t : ℕ) (w : World P) (y : Message P) → NoneDone cmp order w
      → OneForEachPair cmp (flows (joined cmp w y)) → find (same_pair cmp y) w.waiting ≡ Some y
      → EndsWith (IsRound t y w) (settle cmp t (joined cmp w y))
  round_after t w y none one found =
      subst (λ (c : Course (Completed P) (World P)). EndsWith (IsRound t y w) c) (sym (round_is t w y none one))
      (ends_so _ _ _ (λ v after. both v after (length_without _ y w.waiting found))
      (finish_only cmp order y _ t _ _ (by_bool (is_done cmp w (flight_of y))
      (λ is. rw is (pair_itself cmp order y, tt)) (λ is. rw is tt)) (round_fuel w y) (rests _)))
    where
      rests : (b : Bool) → cond b (flight_of y ∷ []) [] ≡ []
          → IsRested cmp order y t (cond b (out_of_waiting cmp w y) (joined cmp w y))
      rests true e = cc
      rests false e = rested_joined cmp order y t w y (pair_itself cmp order y)

      both : (v : World P) → IsAfter cmp order y t (started cmp order w y) v
          → length (without_first (same_pair cmp y) w.waiting) + 1 ≡ length w.waiting → IsRound t y w v
      both v after fewer =
          let less : length v.waiting ≤ length (started cmp order w y).waiting = after.0.fewer in
          let some : length (started cmp order w y).waiting ≡ length (without_first (same_pair cmp y) w.waiting) =
          by_bool (is_done cmp w (flight_of y)) (λ seen. rw seen refl) (λ seen. rw seen refl)
          in (
            (
              only_both cmp order y w _ v
                  (by_bool (is_done cmp w (flight_of y)) (λ here. rw here
                  (only_taken cmp order y w y (pair_itself cmp order y)))
                  (λ here. rw here (only_joined cmp order y w y (pair_itself cmp order y)))) after.0,
              after.1,
            ),
            omega arith,
          )

  -- ---- the order of the pairs

  -- the one list has, in this order, the least pair of the other, then the least of the rest, and so on
  abbrev pub Picks : List (Message P) → List (Message P) → Type 0
  Picks xs [] = xs ≡ []
  Picks xs (m ∷ ms) =
      (y : Message P) × (least_pair cmp xs ≡ Some y) × SameMessage cmp m y × Picks (filter (apart cmp order y) xs) ms

  wake_round : (n t : ℕ) (w : World P) (y : Message P) (c : Course (Completed P) (World P))
      → least_pair cmp (ready cmp t w) ≡ Some y → start cmp w y ≡ goes [] (joined cmp w y)
      → settle cmp t (joined cmp w y) ≡ c → wake_within cmp (suc n) t w ≡ and_then c (wake_within cmp n t)
  wake_round n t w y c least starts e = grind arith

  pub preceded_by : (R : Planned P → World P → Type 0) (cs ds : List (Completed P))
      (x : Course (Completed P) (Planned P)) (c : Course (Completed P) (World P))
      → AllZip (SameCompletion cmp) cs ds → CoursesAlike cmp R x c → CoursesAlike cmp R (preceded cs x) (preceded ds c)
  preceded_by R cs ds (goes es q) (goes fs v) all h = (zip-append (SameCompletion cmp) cs es ds fs all h.0, h.1)
  preceded_by R cs ds (goes es q) (meets g) all h = absurd h
  preceded_by R cs ds (meets f) (goes fs v) all h = absurd h
  preceded_by R cs ds (meets f) (meets g) all h = h

  -- ---- waking

  abbrev pub IsWoken : ℕ → Planned P → World P → Type 0
  IsWoken t q v = IsSettled cmp t q v × (ready cmp t v ≡ [])

  -- what is known of the least pair
  record IsNext (t : ℕ) (w : World P) (y : Message P) : Type 0 where
    pub found : find (same_pair cmp y) w.waiting ≡ Some y
    pub may : may_start cmp t w y ≡ true

  next_is : (t : ℕ) (w : World P) (y : Message P) → least_pair cmp (ready cmp t w) ≡ Some y → IsNext t w y
  next_is t w y least = grind (arith, each_least, each_filtered, fronts_first, first_found)

  abbrev WhenPicked : ℕ → List (Message P) → Planned P → Course (Completed P) (Planned P) → Type 0
  WhenPicked t ms p course =
      (n : ℕ) (w : World P) → Follows cmp t p w → NoneDone cmp order w → Picks (ready cmp t w) ms → length w.waiting ≤ n
      → CoursesAlike cmp (IsWoken t) course (wake_within cmp n t w)

  -- the pair that is launched is the one that starts
  launch_starts : {t : ℕ} {m : Message P} {p : Planned P} {course : Course (Message P) (Planned P)}
      → Launches cmp t p (next_of cmp p m) course → (w : World P) (y : Message P)
      → Follows cmp t p w → NoneDone cmp order w → IsNext t w y → SameMessage cmp m y
      → StartAlike cmp order t w y course
  launch_starts {t = t} {m = m} {p = p} launch w y follows none next same = grind (arith, start_alike, next_alike)

  pub round_alike : {t : ℕ} {more : List (Message P)} {q : Planned P} {course : Course (Completed P) (Planned P)}
      → Finishes cmp t more q course → (w : World P) (y : Message P)
      → NoneDone cmp order w → StartsSo cmp order t w y more q
      → CourseAlike cmp order t course (settle cmp t (joined cmp w y))
  round_alike {t = t} {course = course} finish w y none so =
      search (round_is, finishes_alike, joined, started, round_fuel)

  no_fuel : (t : ℕ) (w : World P) (y : Message P) → IsNext t w y → length w.waiting ≤ 0 → ⊥
  no_fuel t w y next fuel = grind (arith, length_without)

  pub wakes_alike : {t : ℕ} {ms : List (Message P)} {p : Planned P} {course : Course (Completed P) (Planned P)}
      → WakesEach cmp t ms p course → WhenPicked t ms p course
  wakes_alike {t = t} {p = p} (all_started {q = q} looks) n w follows none picks fuel =
      grind (arith, (wake_none cmp order n t w picks), (looked cmp order t p q w follows none looks))
  wakes_alike {t = t} (no_start launch) zero w follows none picks fuel =
      absurd (no_fuel t w picks.0 (next_is t w picks.0 picks.1) fuel)
  wakes_alike {t = t} (no_start {fault = fault} launch) (suc n) w follows none picks fuel =
      grind (
        arith,
        common_steps,
        (wake_first cmp order n t w picks.0 picks.1),
        (launch_starts launch w picks.0 follows none (next_is t w picks.0 picks.1) picks.2),
      )
  wakes_alike {t = t} (no_finish launch finish) zero w follows none picks fuel =
      absurd (no_fuel t w picks.0 (next_is t w picks.0 picks.1) fuel)
  wakes_alike {t = t} (no_finish {more = more} {q = q} {fault = fault} launch finish) (suc n) w follows none picks
      fuel =
      let so = launch_starts launch w picks.0 follows none (next_is t w picks.0 picks.1) picks.2 in
      grind (arith, start, joined, wake_round, (joined cmp w picks.0), (round_alike finish w picks.0 none so))
  wakes_alike {t = t} (starts_one launch finish wakes) zero w follows none picks fuel =
      absurd (no_fuel t w picks.0 (next_is t w picks.0 picks.1) fuel)
  wakes_alike {t = t} (starts_one {m = m} {ms = ms} {more = more} {q = q} {r = r} {cs = cs} {rest = rest} launch finish
      wakes) (suc n) w follows none picks fuel =
      let next : IsNext t w picks.0 = next_is t w picks.0 picks.1 in
      let so : StartsSo cmp order t w picks.0 more q = launch_starts launch w picks.0 follows none next picks.2 in
      by_course so.starts _ refl (round_alike finish w picks.0 none so)
      (round_after t w picks.0 none so.one_each next.found) (wakes_alike wakes n)
    where
      by_course : start cmp w picks.0 ≡ goes [] (joined cmp w picks.0) → (c : Course (Completed P) (World P))
          → settle cmp t (joined cmp w picks.0) ≡ c
          → CourseAlike cmp order t (goes cs r) c → EndsWith (IsRound t picks.0 w) c
          → ((v : World P) → Follows cmp t r v → NoneDone cmp order v → Picks (ready cmp t v) ms → length v.waiting ≤ n
          → CoursesAlike cmp (IsWoken t) rest (wake_within cmp n t v))
          → CoursesAlike cmp (IsWoken t) (preceded cs rest) (wake_within cmp (suc n) t w)
      by_course starts (meets g) e h after ih = absurd h
      by_course starts (goes ds v) e h after ih =
          let picked = subst (λ (xs : List (Message P)). Picks xs ms)
          (sym (ready_after cmp order picks.0 t w v after.0)) picks.3 in
          subst (λ (c : Course (Completed P) (World P)). CoursesAlike cmp (IsWoken t) (preceded cs rest) c)
          (sym (wake_round n t w picks.0 (goes ds v) picks.1 starts e)) (preceded_by (IsWoken t) cs ds rest
          _ h.0 (ih v h.1.follows (each_none _ v.sending h.1.none_done) picked (omega arith)))
