-- Caps change: those that keep their rates are fair by themselves under the new caps, where none of them uses what has
-- changed.
use Rattle.link_flights.proofs.Common.{◌≡◌, ℕ, ◌*◌, ◌≤◌, Bool, true, false, not, List, Some, refl, sym, ap, ◌∙◌, ◌⊎◌}
use Rattle.link_flights.proofs.Common.{inl, inr, arith, filter, Ordering, false≢true, cases_lt, Flow, cap_of, limits}
use Rattle.link_flights.proofs.Common.{Caps, Subject, AreShared, by_bool, In, from_filter, total}
use Rattle.fairness.proofs.Fairness.Sharing.{IsCapped, IsHeldAmong, total_none, total_same, total_at_most}

pub not_not : (b : Bool) → not b ≡ true → b ≡ false
not_not true h = absurd (false≢true h)
not_not false h = refl

module _ {P X : Type 0} (cmp : P → P → Ordering) (flow : X → Flow P) (parts : X → ℕ) (rated : X → Bool)
    (per level : ℕ) (was caps : Caps P) (vs : List X) (old : AreShared cmp was flow parts per vs)
    (gone : (y : X) → In vs y → rated y ≡ true → level ≤ parts y)
    (apart : (k : X) → In vs k → rated k ≡ false → level ≤ parts k → (s : Subject P) (cap : ℕ)
    → cap_of caps s ≡ Some cap → limits cmp s (flow k) ≡ true
    → (y : X) → In vs y → rated y ≡ true → limits cmp s (flow y) ≡ false)
    (differ : (s : Subject P) → (cap_of was s ≡ cap_of caps s)
    ⊎ ((y : X) → In vs y → limits cmp s (flow y) ≡ true → rated y ≡ true)) where
  abbrev keep : List X
  keep = filter (λ x. not (rated x)) vs

  kept : (k : X) → In keep k → In vs k × (rated k ≡ false)
  kept k h = let f = from_filter (λ x. not (rated x)) vs k h in (f.0, not_not (rated k) f.1)

  -- what one of them uses has the cap that it had
  same_cap : (s : Subject P) (k : X) → In keep k → limits cmp s (flow k) ≡ true → cap_of was s ≡ cap_of caps s
  same_cap s k h l = elim (differ s) [
    | inl same ↦ same
    | inr all ↦ absurd (false≢true (sym (kept k h).1 ∙ all k (kept k h).0 l))
  ]

  -- its bottleneck limits none that is rated
  none_rated : (k : X) → In keep k → (b : IsHeldAmong cmp was flow parts per vs k) → (y : X) → In vs y → rated y ≡ true
      → limits cmp b.by.subject (flow y) ≡ false
  none_rated k h b y among r = elim (cases_lt (parts k) level) [
    | inl less ↦ by_bool (limits cmp b.by.subject (flow y))
        (λ l. absurd (omega (arith, less, gone y among r, b.greatest y among l))) (λ e. e)
    | inr le ↦
        apart k (kept k h).0 (kept k h).1 le b.by.subject b.by.cap
        (sym (same_cap b.by.subject k h b.by.limited) ∙ b.by.capped) b.by.limited y among r
  ]

  within : (s : Subject P) (cap : ℕ) → cap_of caps s ≡ Some cap → total cmp caps flow parts s keep ≤ cap * per
  within s cap has = elim (differ s) [
    | inl same ↦
        omega (
          arith,
          old.within s cap (same ∙ has),
          total_at_most cmp was flow parts (λ x. not (rated x)) s vs,
        )
    | inr all ↦
        omega (
          arith,
          total_none cmp caps flow parts s keep
              (λ k h. by_bool (limits cmp s (flow k))
              (λ l. absurd (false≢true (sym (kept k h).1 ∙ all k (kept k h).0 l))) (λ e. e)),
        )
  ]

  held : (k : X) → In keep k → IsCapped cmp caps (flow k) → IsHeldAmong cmp caps flow parts per keep k
  held k h c =
      let b = old.held k (kept k h).0 (record {
        subject = c.subject;
        cap = c.cap;
        capped = same_cap c.subject k h c.limited ∙ c.capped;
        limited = c.limited;
      }) in
      record {
        by = record {
          subject = b.by.subject;
          cap = b.by.cap;
          capped = sym (same_cap b.by.subject k h b.by.limited) ∙ b.by.capped;
          limited = b.by.limited;
        };
        full =
            total_same cmp was flow parts (λ y. not (rated y)) b.by.subject vs
            (λ y among l. by_bool (rated y)
            (λ r. absurd (false≢true (sym (none_rated k h b y among r) ∙ l))) (λ off. ap not off))
            ∙ b.full;
        greatest = λ y among l. b.greatest y (kept y among).0 l;
      }

  pub kept_alone : AreShared cmp caps flow parts per keep
  kept_alone = record { some_part = old.some_part; within = within; held = held }
