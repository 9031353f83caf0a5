-- The bytes of an origin are the same in all worlds of one moment that a planned world stands for, so an advance keeps
-- to its cap.
use Rattle.link_simulation.proofs.Common.{◌≡◌, ℕ, zero, suc, ◌+◌, ◌-◌, ◌*◌, ◌≤◌, List, [], ◌∷◌, length, Bool, not, Some}
use Rattle.link_simulation.proofs.Common.{refl, sym, ap, ◌∙◌, subst, arith, filter, AllZip, Ordering, IsTotalOrder}
use Rattle.link_simulation.proofs.Common.{Amount, whole, plus, IsAtMost, Message, SameMessage, same_pair, World, Flight}
use Rattle.link_simulation.proofs.Common.{Completed, last_moment, IsSound, call_advance, Planned, RatedFlight}
use Rattle.link_simulation.proofs.Common.{StandsFor, IsSameFlight, GoesByRule, zip-filter, filter_swap}
use Rattle.link_simulation.specs.Laws.Bytes.{bytes_from, left_from, waiting_from, allowance}
use Rattle.link_simulation.specs.Rule.Simulated.{KeepsToCaps}
use Rattle.link_simulation.proofs.Simulation.AlikeMessages.{same_itself, pairs_alike, message_itself}
use Rattle.fairness.proofs.Lists.Filters.{length-filter}
use Rattle.link_simulation.proofs.Laws.Bytes.{advance_loses}
use Rattle.link_simulation.proofs.Rule.Simulated.{calls_simulated, sound_of_stands, none_waits}

module _ {P : Type 0} (cmp : P → P → Ordering) (order : IsTotalOrder cmp) where
  module _ (origin : P) where
    -- ---- what is in flight

    left_alike : (t : ℕ) (fs : List (RatedFlight P)) (gs hs : List (Flight P)) → AllZip (IsSameFlight cmp t) fs gs
        → AllZip (IsSameFlight cmp t) fs hs → left_from cmp origin gs ≡ left_from cmp origin hs
    left_alike t [] [] [] a b = refl
    left_alike t [] (g ∷ gs) hs a b = absurd a
    left_alike t [] [] (h ∷ hs) a b = absurd b
    left_alike t (f ∷ fs) [] hs a b = absurd a
    left_alike t (f ∷ fs) (g ∷ gs) [] a b = absurd b
    left_alike t (f ∷ fs) (g ∷ gs) (h ∷ hs) a b = grind (arith, (left_alike t fs gs hs))

    -- ---- what waits

    waiting_zip : (ms ns : List (Message P)) → AllZip (SameMessage cmp) ms ns
        → waiting_from cmp origin ms ≡ waiting_from cmp origin ns
    waiting_zip [] [] all = refl
    waiting_zip [] (n ∷ ns) all = absurd all
    waiting_zip (m ∷ ms) [] all = absurd all
    waiting_zip (m ∷ ms) (n ∷ ns) all = grind (arith, (waiting_zip ms ns))

    waiting_parted : (test : Message P → Bool) (ms : List (Message P)) → waiting_from cmp origin ms
        ≡ waiting_from cmp origin (filter test ms) + waiting_from cmp origin (filter (λ m. not (test m)) ms)
    waiting_parted test [] = refl
    waiting_parted test (m ∷ ms) = grind (arith, (waiting_parted test ms))

    abbrev AlikeByPair : List (Message P) → List (Message P) → Type 0
    AlikeByPair ms ns =
        (k : Message P) → AllZip (SameMessage cmp) (filter (same_pair cmp k) ms) (filter (same_pair cmp k) ns)

    -- without one pair they are still alike
    others_alike : (m : Message P) (ms ns : List (Message P)) → AlikeByPair ms ns
        → AlikeByPair (filter (λ n. not (same_pair cmp m n)) ms) (filter (λ n. not (same_pair cmp m n)) ns)
    others_alike m ms ns alike k = grind (arith, zip-filter, pairs_alike, message_itself, filter_swap)

    waiting_alike : (n : ℕ) (ms ns : List (Message P)) → length ms ≤ n → AlikeByPair ms ns
        → waiting_from cmp origin ms ≡ waiting_from cmp origin ns
    waiting_alike n [] ns fits alike =
        let none : ns ≡ [] = none_waits cmp order [] ns alike refl in sym (ap (waiting_from cmp origin) none)
    waiting_alike zero (m ∷ ms) ns fits alike = absurd (omega arith)
    waiting_alike (suc n) (m ∷ ms) ns fits alike =
        let keep : Message P → Bool = λ k. not (same_pair cmp m k) in
        let few : length (filter keep (m ∷ ms)) ≤ n = grind (arith, length-filter) in
        let own = waiting_zip (filter (same_pair cmp m) (m ∷ ms)) (filter (same_pair cmp m) ns) (alike m) in
        let rest = waiting_alike n (filter keep (m ∷ ms)) (filter keep ns) few (others_alike m (m ∷ ms) ns alike) in
        waiting_parted (same_pair cmp m) (m ∷ ms) ∙ (rw (own, rest) refl) ∙ sym (waiting_parted (same_pair cmp m) ns)

    -- the bytes of an origin are the same in all worlds of one moment that a planned world stands for
    pub bytes_alike : (q : Planned P) (w v : World P) → StandsFor cmp q w → StandsFor cmp q v → w.moment ≡ v.moment
        → bytes_from cmp origin w ≡ bytes_from cmp origin v
    bytes_alike q w v here there at =
        let left : left_from cmp origin w.sending ≡ left_from cmp origin v.sending = grind (arith, left_alike) in
        let waits : waiting_from cmp origin w.waiting ≡ waiting_from cmp origin v.waiting
        = sym (waiting_alike (length q.waiting) q.waiting w.waiting (omega arith) here.follows.tallies.waiting)
        ∙ waiting_alike (length q.waiting) q.waiting v.waiting (omega arith) there.follows.tallies.waiting in
        rw (left, waits) refl

  pub advance_keeps_to_caps : (p q : Planned P) (now : ℕ) (completions : List (Completed P)) → now ≤ last_moment
      → GoesByRule cmp p (call_advance now) completions q → KeepsToCaps cmp p now q
  advance_keeps_to_caps p q now completions in_time go w v origin cap stands after before at is =
      let run = calls_simulated cmp order p q (call_advance now) completions (λ t same. subst (λ (s : ℕ). s ≤
      last_moment) (advance_moment t same) in_time) go w now (record {
        stands = stands;
        moment = refl;
        turn = before;
      }) in
      let sound : IsSound cmp w = sound_of_stands cmp order p w stands in
      let capped = sym (stands.follows.tallies.caps.egress origin origin (same_itself cmp order origin)) ∙ is in
      let loses = advance_loses cmp order origin cap w run.after now run.answers run.runs (record {
        positive = sound.positive;
        egress = λ q e. sym (sound.caps.egress origin q e) ∙ capped;
      }) in
      subst (λ (b : Amount). IsAtMost (bytes_from cmp origin w) (plus b (allowance cap (now - w.moment))))
      (bytes_alike origin q run.after v run.stands after (run.moment ∙ sym at)) loses.bytes
    where
      advance_moment : (t : ℕ) → Some now ≡ Some t → now ≡ t
      advance_moment t same = cc

-- so many bytes, of which none is left, took as long as the cap needs for them
in_numbers : (bytes cap time : ℕ) → IsAtMost (whole bytes) (plus (whole 0) (allowance cap time))
    → bytes * 1_000_000_000 ≤ cap * time
in_numbers bytes cap time h = omega arith

pub sending_takes : {P : Type 0} (cmp : P → P → Ordering) (p q : Planned P) (w v : World P) (origin : P)
    (bytes cap now : ℕ) → KeepsToCaps cmp p now q
    → StandsFor cmp p w → StandsFor cmp q v → w.moment ≤ now → v.moment ≡ now → p.caps.egress origin ≡ Some cap
    → bytes_from cmp origin w ≡ whole bytes → bytes_from cmp origin v ≡ whole 0
    → bytes * 1_000_000_000 ≤ cap * (now - w.moment)
sending_takes cmp p q w v origin bytes cap now keeps stands_p stands_q after at is before left =
    in_numbers bytes cap _ (subst (λ (a : Amount). IsAtMost a (plus (whole 0) (allowance cap (now - w.moment)))) before
    (subst (λ (a : Amount). IsAtMost (bytes_from cmp origin w) (plus a (allowance cap (now - w.moment)))) left
    (keeps w v origin cap stands_p stands_q after at is)))
