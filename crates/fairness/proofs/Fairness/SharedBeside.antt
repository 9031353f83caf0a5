-- Fairness beside those that keep their rates, of elements that have a flow and parts each, said without their places.
use Rattle.fairness.proofs.Common.{◌≡◌, ℕ, ◌+◌, ◌*◌, ◌<◌, ◌≤◌, Bool, true, false, List, [], ◌∷◌, ◌&&◌, Option, Some}
use Rattle.fairness.proofs.Common.{None, refl, sym, ap, ◌∙◌, subst, inl, inr, arith, option_map, filter, mul-pos}
use Rattle.fairness.proofs.Common.{Ordering, and_parts, cases_lt, same_Some, Flow, cap_of, limits, Caps, Subject}
use Rattle.fairness.proofs.Common.{sent_by, received_by, sent_between, rules, common_steps}
use Rattle.std.proofs.Common.{not}
use Rattle.fairness.specs.Sides.Caps.{times_caps}
use Rattle.fairness.proofs.Fairness.Sharing.{IsCapped, IsHeldAmong, AreShared, total, total-cons, total_same}
use Rattle.fairness.proofs.Fairness.Sharing.{total_at_most}
use Rattle.fairness.proofs.Lists.Booleans.{by_bool}
use Rattle.fairness.proofs.Lists.Members.{In, in_filter, from_filter, some_or_none}

not_both : {R : Type 0} (b : Bool) → b ≡ true → b ≡ false → R
not_both true is off = absurd cc
not_both false is off = absurd cc

not_limited : (a b : Bool) → a ≡ true → (a && b) ≡ false → b ≡ false
not_limited true b on e = e
not_limited false b on e = cc

module _ {P X : Type 0} (cmp : P → P → Ordering) (caps : Caps P) (flow : X → Flow P) (parts : X → ℕ) where
  -- the bottleneck of one that is rated, beside those that keep their rates
  pub record IsHeldBeside (rated : X → Bool) (per : ℕ) (xs : List X) (x : X) : Type 0 where
    pub by : IsCapped cmp caps (flow x)
    pub full : total cmp caps flow parts by.subject xs ≡ by.cap * per
    pub greatest : (y : X) → In xs y → rated y ≡ true → limits cmp by.subject (flow y) ≡ true → parts y ≤ parts x

  -- those that are rated are fair beside the others
  pub record AreSharedBeside (rated : X → Bool) (per : ℕ) (xs : List X) : Type 0 where
    pub within : (s : Subject P) (cap : ℕ) → cap_of caps s ≡ Some cap → (x : X) → In xs x → rated x ≡ true
        → limits cmp s (flow x) ≡ true → total cmp caps flow parts s xs ≤ cap * per
    pub held : (x : X) → In xs x → rated x ≡ true → IsCapped cmp caps (flow x) → IsHeldBeside rated per xs x

  -- those of a list that keep their rates
  abbrev pub keeping : (X → Bool) → List X → List X
  keeping rated xs = filter (λ x. not (rated x)) xs

  -- one that is rated adds its parts to what those take that keep their rates
  more_than : (rated : X → Bool) (s : Subject P) (xs : List X) (x : X) → In xs x → rated x ≡ true
      → limits cmp s (flow x) ≡ true
      → parts x + total cmp caps flow parts s (keeping rated xs) ≤ total cmp caps flow parts s xs
  more_than rated s [] x h r l = absurd h
  more_than rated s (y ∷ ys) x (inl e) r l = search (rules, total_at_most, total-cons)
  more_than rated s (y ∷ ys) x (inr h) r l = search (rules, total-cons, more_than rated s ys x h r l)

  module _ (rated : X → Bool) (per level : ℕ) (vs xs : List X) (old : AreShared cmp caps flow parts per vs)
      (same : keeping rated vs ≡ keeping rated xs)
      (gone : (y : X) → In vs y → rated y ≡ true → level ≤ parts y)
      (high : (x : X) → In xs x → rated x ≡ true → level ≤ parts x)
      (apart : (k : X) → In xs k → rated k ≡ false → level ≤ parts k → (s : Subject P) (cap : ℕ)
      → cap_of caps s ≡ Some cap → limits cmp s (flow k) ≡ true
      → ((x : X) → In xs x → rated x ≡ true → limits cmp s (flow x) ≡ false)
      × ((y : X) → In vs y → rated y ≡ true → limits cmp s (flow y) ≡ false))
      (beside : AreSharedBeside rated per xs) where
    -- one that keeps its rate was there before
    kept_before : (k : X) → In xs k → rated k ≡ false → In vs k
    kept_before k h off =
        (from_filter _ vs k (subst (λ (ks : List X). In ks k) (sym same) (in_filter _ xs k h (ap not off)))).0

    -- where none is limited that is rated, the total is that of those that keep their rates
    of_keeping : (s : Subject P) (ys : List X) → ((y : X) → In ys y → rated y ≡ true → limits cmp s (flow y) ≡ false)
        → total cmp caps flow parts s (keeping rated ys) ≡ total cmp caps flow parts s ys
    of_keeping s ys none = search (rules, total_same, by_bool, not_both)

    within : (s : Subject P) (cap : ℕ) → cap_of caps s ≡ Some cap → total cmp caps flow parts s xs ≤ cap * per
    within s cap has = search (rules, some_or_none, and_parts, of_keeping, not_limited, total_at_most)

    -- of one that is rated
    held_rated : (x : X) → In xs x → rated x ≡ true → IsHeldBeside rated per xs x
        → IsHeldAmong cmp caps flow parts per xs x
    held_rated x h r b = record {
      by = b.by;
      full = b.full;
      greatest = search (rules, by_bool, cases_lt, not_both);
    }

    -- of one that keeps its rate: its bottleneck before limited none that was rated, and limits none that is
    module _ (k : X) (h : In xs k) (off : rated k ≡ false) (b : IsHeldAmong cmp caps flow parts per vs k) where
      none_before : (y : X) → In vs y → rated y ≡ true → limits cmp b.by.subject (flow y) ≡ false
      none_before y among r = elim (cases_lt (parts k) level) [
        | inl less ↦
            by_bool (limits cmp b.by.subject (flow y))
            (λ l. absurd (omega (arith, less, gone y among r, b.greatest y among l))) (λ e. e)
        | inr le ↦ (apart k h off le b.by.subject b.by.cap b.by.capped b.by.limited).1 y among r
      ]

      kept_total : total cmp caps flow parts b.by.subject (keeping rated xs) ≡ b.by.cap * per
      kept_total = search (rules, of_keeping, none_before)

      none_now : (x : X) → In xs x → rated x ≡ true → limits cmp b.by.subject (flow x) ≡ false
      none_now x among r = elim (cases_lt (parts k) level) [
        | inl less ↦
            by_bool (limits cmp b.by.subject (flow x)) (λ l. absurd (omega (
              arith,
              less,
              high x among r,
              kept_total,
              more_than rated b.by.subject xs x among r l,
              beside.within b.by.subject b.by.cap b.by.capped x among r l,
            ))) (λ e. e)
        | inr le ↦ (apart k h off le b.by.subject b.by.cap b.by.capped b.by.limited).0 x among r
      ]

      held_kept : IsHeldAmong cmp caps flow parts per xs k
      held_kept = record {
        by = b.by;
        full = sym (of_keeping b.by.subject xs none_now) ∙ kept_total;
        greatest = search (rules, by_bool, not_both, none_now, kept_before);
      }

    -- what was fair, and is fair beside those that keep their rates, is fair
    pub beside_shared : AreShared cmp caps flow parts per xs
    beside_shared = record {
      some_part = old.some_part;
      within = within;
      held = λ x h c.
          by_bool (rated x) (λ r. held_rated x h r (beside.held x h r c))
          (λ off. held_kept x h off (old.held x (kept_before x h off) c));
    }

  -- those that are rated and those that keep their rates are all
  total_parted : (rated : X → Bool) (s : Subject P) (xs : List X)
      → total cmp caps flow parts s (filter rated xs) + total cmp caps flow parts s (keeping rated xs)
      ≡ total cmp caps flow parts s xs
  total_parted rated s [] = refl
  total_parted rated s (x ∷ xs) = search (rules, total-cons, total_parted rated s xs)

  -- what is fair under what the others leave, for those that are rated alone, is fair beside the others; what is left is
  -- in parts so many times as large
  module _ (left : Caps P) (rated : X → Bool) (times per : ℕ) (xs : List X)
      (leaves : (x : X) → In xs x → rated x ≡ true → (s : Subject P) → limits cmp s (flow x) ≡ true
      → (cap : ℕ) → cap_of caps s ≡ Some cap
      → (l : ℕ) × (cap_of left s ≡ Some l) × (l * times + total cmp caps flow parts s (keeping rated xs) ≡ cap * per))
      (comes : (x : X) → In xs x → rated x ≡ true → (s : Subject P) → limits cmp s (flow x) ≡ true
      → (l : ℕ) → cap_of left s ≡ Some l → (cap : ℕ) × (cap_of caps s ≡ Some cap))
      (fair : AreShared cmp left flow parts times (filter rated xs)) where
    within_left : (s : Subject P) (cap : ℕ) → cap_of caps s ≡ Some cap → (x : X) → In xs x → rated x ≡ true
        → limits cmp s (flow x) ≡ true → total cmp caps flow parts s xs ≤ cap * per
    within_left s cap has x h r l = grind (arith, common_steps, total_parted rated s xs)

    held_left : (x : X) (h : In xs x) (r : rated x ≡ true)
        → IsHeldAmong cmp left flow parts times (filter rated xs) x → IsHeldBeside rated per xs x
    held_left x h r b =
        let s = b.by.subject in
        let own = comes x h r s b.by.limited b.by.cap b.by.capped in
        let rest = leaves x h r s b.by.limited own.0 own.1 in
        let same : rest.0 ≡ b.by.cap = same_Some rest.0 b.by.cap (sym rest.1 ∙ b.by.capped) in
        record {
          by = record { subject = s; cap = own.0; capped = own.1; limited = b.by.limited };
          full = omega (arith, ap (λ n. n * times) same, rest.2, b.full, total_parted rated s xs);
          greatest = λ y among on l. b.greatest y (in_filter rated xs y among on) l;
        }

    pub beside_left_times : AreSharedBeside rated per xs
    beside_left_times = record {
      within = within_left;
      held = λ x h r c.
          let rest = leaves x h r c.subject c.limited c.cap c.capped in
          held_left x h r (fair.held x (in_filter rated xs x h r)
          (record { subject = c.subject; cap = rest.0; capped = rest.1; limited = c.limited }));
    }

  -- the same where what is left is in the parts of those that are rated
  pub beside_left : (left : Caps P) (rated : X → Bool) (per : ℕ) (xs : List X)
      → ((x : X) → In xs x → rated x ≡ true → (s : Subject P) → limits cmp s (flow x) ≡ true
      → (cap : ℕ) → cap_of caps s ≡ Some cap
      → (l : ℕ) × (cap_of left s ≡ Some l) × (l + total cmp caps flow parts s (keeping rated xs) ≡ cap * per))
      → ((x : X) → In xs x → rated x ≡ true → (s : Subject P) → limits cmp s (flow x) ≡ true
      → (l : ℕ) → cap_of left s ≡ Some l → (cap : ℕ) × (cap_of caps s ≡ Some cap))
      → AreShared cmp left flow parts 1 (filter rated xs) → AreSharedBeside rated per xs
  beside_left left rated per xs leaves comes fair =
      beside_left_times left rated 1 per xs
      (λ x h r s l cap has. let rest = leaves x h r s l cap has in (rest.0, rest.1, omega (arith, rest.2))) comes fair

  -- ---- larger caps

  times_cap : (scale : ℕ) (s : Subject P)
      → cap_of (times_caps scale caps) s ≡ option_map (λ cap. cap * scale) (cap_of caps s)
  times_cap scale (sent_by p) = refl
  times_cap scale (received_by p) = refl
  times_cap scale (sent_between p q) = refl

  cap_from_times : (scale : ℕ) (o : Option ℕ) (k : ℕ) → option_map (λ cap. cap * scale) o ≡ Some k
      → (cap : ℕ) × (o ≡ Some cap) × (cap * scale ≡ k)
  cap_from_times scale None k e = cc e
  cap_from_times scale (Some cap) k e = (cap, refl, same_Some (cap * scale) k e)

  -- what is fair where each cap is so many times as large
  module _ (scale times : ℕ) (some : 0 < scale) (xs : List X)
      (fair : AreShared cmp (times_caps scale caps) flow parts times xs) where
    times_has : (s : Subject P) (cap : ℕ) → cap_of caps s ≡ Some cap
        → cap_of (times_caps scale caps) s ≡ Some (cap * scale)
    times_has s cap has = times_cap scale s ∙ ap (option_map (λ cap. cap * scale)) has

    pub whole_shared : AreShared cmp caps flow parts (scale * times) xs
    whole_shared = record {
      some_part = mul-pos some fair.some_part;
      within = λ s cap has. omega (arith, fair.within s (cap * scale) (times_has s cap has));
      held = λ x h c.
          let b =
          fair.held x h (record {
            subject = c.subject;
            cap = c.cap * scale;
            capped = times_has c.subject c.cap c.capped;
            limited = c.limited;
          }) in
          let own =
          cap_from_times scale (cap_of caps b.by.subject) b.by.cap (sym (times_cap scale b.by.subject) ∙ b.by.capped) in
          record {
            by = record { subject = b.by.subject; cap = own.0; capped = own.1; limited = b.by.limited };
            full = omega (arith, b.full, ap (λ n. n * times) own.2);
            greatest = b.greatest;
          };
    }
