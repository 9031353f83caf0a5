-- Caps that are listed and looked up, and plans under the caps that closures answer by.
use Rattle.p2p_simulated_c.proofs.Common.{◌≡◌, ◌<◌, ◌+◌, ◌==◌, ℕ, Bool, true, false, cond, List, [], ◌∷◌, ◌++◌, length}
use Rattle.p2p_simulated_c.proofs.Common.{take, get_or, Some, inl, inr, refl, sym, ap, ap₂, subst, ◌∙◌, take_more, get}
use Rattle.p2p_simulated_c.proofs.Common.{nat_cmp, pair_cmp, Rate, Error, OutOfMemory, NumberTooLarge, IsPlan}
use Rattle.p2p_simulated_c.proofs.Common.{MayRefusePlan, caps_of_records, link_cap, peer_cap, caps_in}
use Rattle.std.proofs.Common.{◌⊎◌, ◌&&◌}
use Rattle.std.proofs.Common.{Option, None}
use Rattle.std.specs.Cmp.{tied_then, unsigned_tied}
use Rattle.std.specs.Ordering.{is_eq}
use Rattle.fairness.specs.Fairness.Allocation.{IsCountedAllocation}
use Rattle.fairness.specs.Sides.Answers.{Answered, Calls, PairCalls, States}
use Rattle.fairness.specs.Sides.Caps.{Caps}
use Rattle.fairness.specs.Fairness.UnderCaps.{AnswerBy, AnswersAreThoseOfTheCaps}
use Rattle.fairness.specs.Fairness.Rates.{AreFairRates, or_else}
use Rattle.fairness.specs.Sides.Subjects.{sides_of}
use Rattle.fairness.specs.Refusals.FairRatesFit.{FairRatesFit}
use Rattle.fairness.specs.Refusals.TooLarge.{HasLargeAnswer, HasLargeRate, IsTooLarge}
use Rattle.fairness.specs.declared.bandwidth.Flow.{Flow}
use Rattle.p2p_simulated_c.specs.Records.{value_of}
use Rattle.p2p_simulated_c.specs.declared.planner.Caps as planner
use Rattle.p2p_simulated_c.specs.declared.records.LinkCap.{LinkCap}
use Rattle.p2p_simulated_c.specs.declared.records.PeerCap.{PeerCap}

-- ---- records of caps, from the first one on

over_else : (b : Bool) (cap : ℕ) (later old : Option ℕ)
    → or_else (cond b (Some cap) later) old ≡ cond b (Some cap) (or_else later old)
over_else true cap later old = refl
over_else false cap later old = refl

-- one more
one_peer_more : (caps : List PeerCap) (c : PeerCap) (peer : ℕ)
    → peer_cap (caps ++ c ∷ []) peer ≡ cond (c.peer == peer) (Some (value_of c.cap)) (peer_cap caps peer)
one_peer_more [] c peer = refl
one_peer_more (d ∷ caps) c peer =
    let old = cond (d.peer == peer) (Some (value_of d.cap)) None in
    ap (λ x. or_else x old) (one_peer_more caps c peer)
    ∙ over_else (c.peer == peer) (value_of c.cap) (peer_cap caps peer) old

one_link_more : (caps : List LinkCap) (c : LinkCap) (origin recipient : ℕ)
    → link_cap (caps ++ c ∷ []) origin recipient
    ≡ cond ((c.origin == origin) && (c.recipient == recipient)) (Some (value_of c.cap))
    (link_cap caps origin recipient)
one_link_more [] c origin recipient = refl
one_link_more (d ∷ caps) c origin recipient =
    let old = cond ((d.origin == origin) && (d.recipient == recipient)) (Some (value_of d.cap)) None in
    ap (λ x. or_else x old) (one_link_more caps c origin recipient)
    ∙ over_else ((c.origin == origin) && (c.recipient == recipient)) (value_of c.cap) (link_cap caps origin recipient)
    old

-- one more, and its cap stored
pub peer_stored : (caps : List PeerCap) (i : ℕ) (d : PeerCap) (peer cap : ℕ) (old new : Option ℕ) → i < length caps
    → cap ≡ value_of (get_or caps i d).cap
    → new ≡ cond (is_eq (nat_cmp (get_or caps i d).peer peer)) (Some cap) old → old ≡ peer_cap (take i caps) peer
    → new ≡ peer_cap (take (i + 1) caps) peer
peer_stored caps i d peer cap old new below is writes before =
    let c = get_or caps i d in
    writes ∙ ap₂ (λ b x. cond b (Some x) old) (unsigned_tied c.peer peer) is
    ∙ ap (λ x. cond (c.peer == peer) (Some (value_of c.cap)) x) before
    ∙ sym (one_peer_more (take i caps) c peer) ∙ ap (λ cs. peer_cap cs peer) (sym (take_more caps i d below))

same_link : (origin recipient p q : ℕ)
    → is_eq (pair_cmp nat_cmp (origin, recipient) (p, q)) ≡ ((origin == p) && (recipient == q))
same_link origin recipient p q =
    sym (tied_then (nat_cmp origin p) (nat_cmp recipient q))
    ∙ ap₂ (λ x y. x && y) (unsigned_tied origin p) (unsigned_tied recipient q)

pub link_stored : (caps : List LinkCap) (i : ℕ) (d : LinkCap) (origin recipient cap : ℕ) (old new : Option ℕ)
    → i < length caps → cap ≡ value_of (get_or caps i d).cap
    → new
    ≡ cond (is_eq (pair_cmp nat_cmp ((get_or caps i d).origin, (get_or caps i d).recipient) (origin, recipient)))
    (Some cap) old
    → old ≡ link_cap (take i caps) origin recipient → new ≡ link_cap (take (i + 1) caps) origin recipient
link_stored caps i d origin recipient cap old new below is writes before =
    let c = get_or caps i d in
    let same = (c.origin == origin) && (c.recipient == recipient) in
    writes ∙ ap₂ (λ b x. cond b (Some x) old) (same_link c.origin c.recipient origin recipient) is
    ∙ ap (λ x. cond same (Some (value_of c.cap)) x) before
    ∙ sym (one_link_more (take i caps) c origin recipient)
    ∙ ap (λ cs. link_cap cs origin recipient) (sym (take_more caps i d below))

-- maps of all three lists hold their caps
pub same_caps : (c : planner.Caps) (egress ingress : List PeerCap) (links : List LinkCap)
    → ((peer : ℕ) → get nat_cmp c.egress peer ≡ peer_cap egress peer)
    → ((peer : ℕ) → get nat_cmp c.ingress peer ≡ peer_cap ingress peer)
    → ((origin recipient : ℕ) → get (pair_cmp nat_cmp) c.links (origin, recipient) ≡ link_cap links origin recipient)
    → caps_in c ≡ caps_of_records egress ingress links
same_caps c egress ingress links by_egress by_ingress by_link =
    λ k.
    record {
      egress = λ peer. by_egress peer k;
      ingress = λ peer. by_ingress peer k;
      link = λ origin recipient. by_link origin recipient k;
    }

-- ---- closures that answer by caps

module _ {E I L : Type 0} (egress : Calls E ℕ) (ingress : Calls I ℕ) (link : PairCalls L ℕ)
    (law : AnswersAreThoseOfTheCaps egress ingress link)
    (first : States E I L) (flows : List (Flow ℕ)) (caps : Caps ℕ) (by : AnswerBy egress ingress link first flows caps)
  where
    -- what was allocated is a plan under these
    pub planned : (rate_by : ℕ → Option Rate) (rounds : ℕ)
        → IsCountedAllocation nat_cmp egress ingress link first flows rate_by rounds → IsPlan caps flows rate_by rounds
    planned rate_by rounds counted =
        let a = counted.allocation in
        let all = law caps first flows a.answered by a.in_order in
        record {
          fair = record {
            rates = a.rates;
            fair =
                subst (λ (asked : List (Answered ℕ)). AreFairRates (sides_of nat_cmp asked) (length flows) a.rates) all
                a.fair;
            by_id = a.by_id;
          };
          different = counted.different;
        }

    -- and what was refused is too large under these
    pub refused : (why : Error)
        → (why ≡ OutOfMemory) ⊎ ((why ≡ NumberTooLarge) × IsTooLarge nat_cmp egress ingress link first flows)
        → MayRefusePlan caps flows why
    refused why (inl memory) = inl memory
    refused why (inr (is, large)) =
        let all = law caps first flows large.answered by large.in_order in
        inr (
          is,
          record {
            large_rate =
                subst (λ (asked : List (Answered ℕ)). HasLargeRate (sides_of nat_cmp asked)) all large.large_rate;
            nothing_fits =
                subst (λ (asked : List (Answered ℕ)). ¬ FairRatesFit (sides_of nat_cmp asked) (length flows)) all
                large.nothing_fits;
            many_or_large =
                subst (λ (asked : List (Answered ℕ)). (16 < length flows) ⊎ HasLargeAnswer asked) all large.many_or_large;
          },
        )
