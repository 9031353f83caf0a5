-- A flow is unlimited exactly where it uses no capped side.
use Rattle.fair_laws.proofs.Common.{◌≡◌, ℕ, true, List, Option, Some, None, refl, sym, ap, ◌∙◌, subst, slice_get}
use Rattle.fair_laws.proofs.Common.{IsTotalOrder, Ordering, and_from, and_parts, same_Some, Flow, Rate, Unlimited}
use Rattle.fair_laws.proofs.Common.{Finite, Subject, sent_by, received_by, sent_between, same_peer, Caps, cap_of}
use Rattle.fair_laws.proofs.Common.{AreOfPeers, limits, rules}
use Rattle.fairness.specs.Fairness.UnderCaps.{UsesNoCap, UnlimitedWhereUncapped}
use Rattle.fairness.proofs.Sides.Subjects.{same_itself}
use Rattle.fairness.proofs.Lists.Members.{in_get, get_from_map}
use Rattle.fairness.proofs.Sides.EqualSubjects.{same_peer_itself, one_cap}
use Rattle.fair_laws.proofs.Fairness.Among.{Allotted, IsRated, among_from, rate_there}
use Rattle.fairness.proofs.Fairness.Sharing.{IsCapped}

module _ {P : Type 0} (cmp : P → P → Ordering) (order : IsTotalOrder cmp) (caps : Caps P) where
  -- a subject that limits the flow has no cap
  open_side : (f : Flow P) → ¬ IsCapped cmp caps f → (s : Subject P) → limits cmp s f ≡ true → cap_of caps s ≡ None
  open_side f free s l = by_cap (cap_of caps s) refl
    where
      by_cap : (o : Option ℕ) → cap_of caps s ≡ o → cap_of caps s ≡ None
      by_cap None e = e
      by_cap (Some cap) e = absurd (free (record { subject = s; cap = cap; capped = e; limited = l }))

  no_cap_from_free : (f : Flow P) → ¬ IsCapped cmp caps f → UsesNoCap caps f
  no_cap_from_free f free = record {
    origin = open_side f free (sent_by f.origin) (same_peer_itself cmp order f.origin);
    recipient = λ delivered.
        open_side f free (received_by f.recipient)
        (and_from f.delivered (same_peer cmp f.recipient f.recipient) delivered
        (same_peer_itself cmp order f.recipient));
    pair =
        open_side f free (sent_between f.origin f.recipient)
        (same_itself cmp order (sent_between f.origin f.recipient));
  }

  free_from_no_cap : AreOfPeers cmp caps → (f : Flow P) → UsesNoCap caps f → ¬ IsCapped cmp caps f
  free_from_no_cap of f n c = search (rules, one_cap, and_parts)

  unlimited_from_free : (per parts : ℕ) (f : Flow P) (r : Rate) → ¬ IsCapped cmp caps f → IsRated cmp caps per parts f r
      → r ≡ Unlimited
  unlimited_from_free per parts f Unlimited free rated = refl
  unlimited_from_free per parts f (Finite ratio) free rated = absurd (free rated.0)

pub unlimited_where_uncapped : {P : Type 0} (cmp : P → P → Ordering) → IsTotalOrder cmp → UnlimitedWhereUncapped cmp
unlimited_where_uncapped {P} cmp order caps flows rates of fair place f at =
    let s = among_from cmp caps order of flows rates fair in
    let there = get_from_map (λ (x : Allotted P). x.flow) s.all place f (subst
    (λ (fs : List (Flow P)). slice_get fs place ≡ Some f) (sym s.flows_are) at) in
    let x = there.0 in
    let rate : slice_get rates place ≡ Some x.rate = search (rules, rate_there) in
    let rated : IsRated cmp caps s.per x.parts f x.rate = search (rules, in_get) in (
      (λ unlimited. no_cap_from_free cmp order caps f
          (subst (IsRated cmp caps s.per x.parts f) (same_Some x.rate Unlimited (sym rate ∙ unlimited)) rated)),
      (λ n. rate
          ∙ ap Some
          (unlimited_from_free cmp order caps s.per x.parts f x.rate (free_from_no_cap cmp order caps of f n) rated)),
    )
