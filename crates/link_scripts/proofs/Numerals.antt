-- Decimal numerals: a number is written in one way with no sign and no zero in front.
use Rattle.link_scripts.proofs.Common.{◌≡◌, ◌↔◌, ℕ, ◌+◌, ◌*◌, ◌^◌, ◌<◌, ◌≤◌, List, [], ◌∷◌, ◌++◌, length, get_or, Some}
use Rattle.link_scripts.proofs.Common.{Result, Ok, Err, codes, sym, ap, ◌∙◌, arith, append_assoc, append-nil}
use Rattle.link_scripts.proofs.Common.{length-append, subst, None, digit_value, IsUtf8, AllDigits, digits_value}
use Rattle.link_scripts.proofs.Common.{digits_value_after, IsUtf8-from_ascii, digit_from_value}
use Rattle.std.proofs.Common.{◌/◌, ◌%◌}
use Rattle.std.proofs.Common.{zero-add}
use Rattle.std.specs.Fmt.{decimal}
use Rattle.std.specs.Result.{result_ok}
use Rattle.std.specs.Str.Parse.{ParsesUnsigned}
use Rattle.std.proofs.lemmas.Fmt.{decimal_digit, decimal_step_wide, decimal_by_steps_wide, decimal_is_IsNumeral_wide}
use Rattle.std.proofs.lemmas.Fmt.{parse-decimal_wide, IsAscii-from_digits}
use Rattle.std.proofs.lemmas.List.{get_or_append_left}
use Rattle.std.proofs.lemmas.Str.{digit_value_digit}
use Rattle.std.proofs.lemmas.Str.Parse.{digit_at, numerals_by_value, tells_digits, parse_plain}

-- what is written of a digit
glyph_of_value : (c : ℕ) → digit_value c < 10 → 48 + digit_value c ≡ c
glyph_of_value c low =
    let value = digit_value_digit c (digit_from_value c low) in let range = digit_from_value c low in omega arith

-- one digit more of a number above zero
decimal_more : (n c : ℕ) → 0 < n → digit_value c < 10 → n * 10 + digit_value c < 10 ^ 64
    → decimal (n * 10 + digit_value c) ≡ decimal n ++ c ∷ []
decimal_more n c above low small =
    let front : (n * 10 + digit_value c) / 10 ≡ n = omega arith in
    let last : 48 + (n * 10 + digit_value c) % 10 ≡ c = omega (arith, glyph_of_value c low) in
    decimal_step_wide (n * 10 + digit_value c) (omega arith) small ∙ (λ i. decimal (front i) ++ last i ∷ [])

-- the value grows with each digit
pub value_after-ge : (n : ℕ) (ds : List ℕ) → n ≤ digits_value_after 10 n ds
value_after-ge n [] = omega arith
value_after-ge n (c ∷ cs) = omega (arith, value_after-ge (n * 10 + digit_value c) cs)

-- digits that follow those of a number above zero
decimal_after : (n : ℕ) (ds : List ℕ) → 0 < n → AllDigits 10 ds → digits_value_after 10 n ds < 10 ^ 64
    → decimal (digits_value_after 10 n ds) ≡ decimal n ++ ds
decimal_after n [] above all small = sym (append-nil (decimal n))
decimal_after n (c ∷ cs) above all small =
    decimal_after (n * 10 + digit_value c) cs (omega arith) all.1 small
    ∙ ap (λ front. front ++ cs)
    (decimal_more n c above all.0 (omega (arith, value_after-ge (n * 10 + digit_value c) cs)))
    ∙ append_assoc (decimal n) (c ∷ []) cs

-- digits with no zero in front are what is written of their value
decimal-digits_value : (ds : List ℕ) → AllDigits 10 ds → 0 < length ds → (get_or ds 0 0 ≡ 48 → length ds ≤ 1)
    → digits_value 10 ds < 10 ^ 64 → decimal (digits_value 10 ds) ≡ ds
decimal-digits_value [] all some plain small = absurd (omega arith)
decimal-digits_value (c ∷ []) all some plain small =
    ap decimal (zero-add (digit_value c)) ∙ decimal_digit (digit_value c) all.0
    ∙ ap (λ b. b ∷ []) (glyph_of_value c all.0)
decimal-digits_value (c ∷ d ∷ ds) all some plain small =
    let glyph = glyph_of_value c all.0 in
    let other : c ≡ 48 → ⊥ = λ zero. omega (arith, plain zero) in
    let above : 0 < 0 * 10 + digit_value c = omega arith in
    decimal_after (0 * 10 + digit_value c) (d ∷ ds) above all.1 small
    ∙ ap (λ front. front ++ (d ∷ ds))
    (ap decimal (zero-add (digit_value c)) ∙ decimal_digit (digit_value c) all.0 ∙ ap (λ b. b ∷ []) glyph)

-- a number above zero begins with another digit than zero, and zero has one digit
first_digit : (n : ℕ) → n < 10 ^ 64 → (0 < length (decimal n)) × (get_or (decimal n) 0 0 ≡ 48 → length (decimal n) ≤ 1)
first_digit n small =
    let steps = decimal_by_steps_wide Plain one more n small in (steps.0, λ zero. steps.2 (steps.1 zero))
  where
    Plain : ℕ → List ℕ → Type 0
    Plain m ds = (0 < length ds) × (get_or ds 0 0 ≡ 48 → m ≡ 0) × (m ≡ 0 → length ds ≤ 1)

    one : (m : ℕ) → m < 10 → Plain m ((48 + m) ∷ [])
    one m low = (omega arith, (λ e. omega arith), λ e. omega arith)

    more : (m : ℕ) (ds : List ℕ) → 10 ≤ m → Plain (m / 10) ds → Plain m (ds ++ ((48 + m % 10) ∷ []))
    more m ds high before =
        let first : get_or (ds ++ ((48 + m % 10) ∷ [])) 0 0 ≡ get_or ds 0 0 =
        get_or_append_left ds ((48 + m % 10) ∷ []) 0 0 before.0 in (
          omega (arith, length-append ds ((48 + m % 10) ∷ [])),
          (λ zero. omega (arith, before.1 (sym first ∙ zero))),
          λ none. omega arith,
        )

-- a number begins with a digit
begins_with_digit : (n : ℕ) → n < 2 ^ 128 → 48 ≤ get_or (decimal n) 0 0
begins_with_digit n small =
    let numeral = (decimal_is_IsNumeral_wide n (omega arith)).0 in
    let range = digit_at (decimal n) 0 numeral.1 numeral.0 in
    omega arith

-- the bytes of a number are digits
pub digits_of_number : (n : ℕ) → n < 2 ^ 128 → AllDigits 10 (decimal n)
digits_of_number n small = (decimal_is_IsNumeral_wide n (omega arith)).0.1

-- no number begins with a sign
pub no_sign : (word : List ℕ) (n : ℕ) → n < 2 ^ 128 → get_or word 0 0 ≡ 43 → word ≡ decimal n → ⊥
no_sign word n small sign is = omega (arith, begins_with_digit n small, ap (λ w. get_or w 0 0) is)

-- no number is `-`
pub no_dash : (n : ℕ) → n < 2 ^ 128 → codes "-" ≡ decimal n → ⊥
no_dash n small is = omega (arith, begins_with_digit n small, ap (λ w. get_or w 0 0) is)

-- no number of several digits begins with zero
pub no_zero_in_front : (word : List ℕ) (n : ℕ) → n < 2 ^ 128 → get_or word 0 0 ≡ 48 → 1 < length word → word ≡ decimal n
    → ⊥
no_zero_in_front word n small zero several is =
    omega (arith, ap length is, (first_digit n (omega arith)).1 (ap (λ w. get_or w 0 0) (sym is) ∙ zero))

-- what a word without a sign and without a zero in front is parsed to
pub parsed : {E : Type 0} (word : List ℕ) (r : Result ℕ E) → ParsesUnsigned 128 10 word r → (get_or word 0 0 ≡ 43 → ⊥)
    → (get_or word 0 0 ≡ 48 → length word ≤ 1)
    → (n : ℕ) → (result_ok r ≡ Some n) ↔ ((word ≡ decimal n) × (n < 2 ^ 128))
parsed {E} word (Ok x) h sign plain n =
    let own = parse_plain (numerals_by_value (AllDigits 10) tells_digits) {E = E} 128 word (Ok x) h sign in
    let spelled : decimal x ≡ word =
    ap decimal own.1 ∙ decimal-digits_value word own.0.0 own.0.1 plain (omega (arith, own.0.2)) in (
      (λ e. let same : x ≡ n = cc in (sym spelled ∙ ap decimal same, omega (arith, own.0.2))),
      λ is. ap (result_ok {T = ℕ} {E = E}) (parse-decimal_wide 128 n word (Ok x) is.1 (omega (arith, is.1)) is.0 h),
    )
parsed {E} word (Err e) h sign plain n = (
  (λ e. absurd (cc)),
  λ is. ap (result_ok {T = ℕ} {E = E}) (parse-decimal_wide 128 n word (Err e) is.1 (omega (arith, is.1)) is.0 h),
)

-- bytes that are no text are no number
pub unless_text : (word : List ℕ) → ¬ (IsUtf8 word) → (n : ℕ)
    → (None ≡ Some n) ↔ ((word ≡ decimal n) × (n < 2 ^ 128))
unless_text word is_none n = (
  (λ e. absurd (cc)),
  λ is. absurd
      (is_none
      (subst IsUtf8 (sym is.0)
      (IsUtf8-from_ascii (decimal n) (IsAscii-from_digits (decimal n) (digits_of_number n is.1))))),
)
