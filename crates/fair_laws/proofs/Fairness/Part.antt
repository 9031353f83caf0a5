-- A part of the flows that shares no side with the rest.
use Rattle.fair_laws.proofs.Common.{◌≡◌, ℕ, Bool, true, List, [], ◌∷◌, map, refl, sym, ◌∙◌, subst, filter, IsTotalOrder}
use Rattle.fair_laws.proofs.Common.{Ordering, and_parts, eq_by_cmp_equiv, All-contains, Flow, flagged, Subject, sent_by}
use Rattle.fair_laws.proofs.Common.{received_by, sent_between, same_peer, Caps, limits, AreFairUnder, rules}
use Rattle.std.proofs.Common.{subst₂}
use Rattle.std.proofs.lemmas.Map.Steps.{list_any_congr}
use Rattle.fairness.specs.Fairness.UnderCaps.{is_among, is_of_set, HaveBothEndsOrNone, PartIsFair}
use Rattle.fairness.proofs.Lists.Members.{In, in_map, from_filter, contains_from_in}
use Rattle.fair_laws.proofs.Fairness.Among.{Allotted, flows_of, rates_of, AreFairAmong, among_from, under_from}
use Rattle.fairness.proofs.Fairness.Sharing.{part_shared}

module _ {P : Type 0} (cmp : P → P → Ordering) (caps : Caps P) (mine : Flow P → Bool) where
  -- what the test passes
  abbrev pub part : List (Allotted P) → List (Allotted P)
  part xs = filter (λ x. mine x.flow) xs

  pub flows_of_part : (xs : List (Allotted P)) → flows_of (part xs) ≡ filter mine (flows_of xs)
  flows_of_part [] = refl
  flows_of_part (x ∷ xs) = search (rules, flows_of_part xs)

  pub rates_of_part : (xs : List (Allotted P)) → rates_of (part xs) ≡ flagged (map mine (flows_of xs)) (rates_of xs)
  rates_of_part [] = refl
  rates_of_part (x ∷ xs) = search (rules, rates_of_part xs)

  -- fairness of the part
  pub part_among : (per : ℕ) (xs : List (Allotted P)) → AreFairAmong cmp caps per xs
      → ((s : Subject P) (x y : Allotted P) → In xs x → In xs y → limits cmp s x.flow ≡ true
      → limits cmp s y.flow ≡ true → mine x.flow ≡ mine y.flow) → AreFairAmong cmp caps per (part xs)
  part_among per xs f apart = record {
    shared = search (rules, part_shared);
    rated = λ x h. f.rated x (from_filter (λ (x : Allotted P). mine x.flow) xs x h).0;
  }

module _ {P : Type 0} (cmp : P → P → Ordering) (order : IsTotalOrder cmp) (peers : List P) where
  same_among : (p q : P) → same_peer cmp p q ≡ true → is_among cmp peers p ≡ is_among cmp peers q
  same_among p q e = list_any_congr (eq_by_cmp_equiv order) p q peers e

  -- two flows with a side in common are both of the set or neither
  apart : (s : Subject P) (f g : Flow P) → is_among cmp peers f.origin ≡ is_among cmp peers f.recipient
      → is_among cmp peers g.origin ≡ is_among cmp peers g.recipient
      → limits cmp s f ≡ true → limits cmp s g ≡ true → is_of_set cmp peers f ≡ is_of_set cmp peers g
  apart (sent_by p) f g at_f at_g lf lg = sym (same_among p f.origin lf) ∙ same_among p g.origin lg
  apart (received_by p) f g at_f at_g lf lg = search (rules, same_among, and_parts)
  apart (sent_between p q) f g at_f at_g lf lg = search (rules, same_among, and_parts)

  module _ (caps : Caps P) (flows : List (Flow P)) (ends : HaveBothEndsOrNone cmp peers flows) (xs : List (Allotted P))
      (same : flows_of xs ≡ flows) where
    both_ends : (x : Allotted P) → In xs x → is_among cmp peers x.flow.origin ≡ is_among cmp peers x.flow.recipient
    both_ends x h =
        All-contains (λ (f : Flow P). is_among cmp peers f.origin ≡ is_among cmp peers f.recipient) flows x.flow ends
        (contains_from_in flows x.flow (subst (λ (fs : List (Flow P)). In fs x.flow) same (in_map _ xs x h)))

    together : (t : Subject P) (x y : Allotted P) → In xs x → In xs y → limits cmp t x.flow ≡ true
        → limits cmp t y.flow ≡ true → is_of_set cmp peers x.flow ≡ is_of_set cmp peers y.flow
    together t x y h g lx ly = apart t x.flow y.flow (both_ends x h) (both_ends y g) lx ly

pub part_is_fair : {P : Type 0} (cmp : P → P → Ordering) → IsTotalOrder cmp → PartIsFair cmp
part_is_fair {P} cmp order caps peers flows rates of ends fair =
    let mine = is_of_set cmp peers in
    let s = among_from cmp caps order of flows rates fair in
    let whole = under_from cmp caps order of s.per _ (part_among cmp caps mine s.per s.all s.fair
    (together cmp order peers caps flows ends s.all s.flows_are)) in
    let flows_is : flows_of (part cmp caps mine s.all) ≡ filter mine flows = search (rules, flows_of_part) in
    let rates_is : rates_of (part cmp caps mine s.all) ≡ flagged (map mine flows) rates =
    search (rules, rates_of_part) in
    subst₂ (AreFairUnder cmp caps) flows_is rates_is whole
