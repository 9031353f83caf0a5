-- Digits in front of a line, read from the first on.
use Rattle.link_scripts.proofs.Common.{◌≡◌, ℕ, ◌+◌, ◌*◌, ◌^◌, ◌<◌, ◌≤◌, List, length, get_or, take, sym, ap, ◌∙◌, subst}
use Rattle.link_scripts.proofs.Common.{arith, digit_value, number_word, AllDigits, digits_value}
use Rattle.std.proofs.Common.{length-take}
use Rattle.std.specs.Fmt.{decimal}
use Rattle.std.proofs.lemmas.Fmt.{decimal-digits_value}
use Rattle.std.proofs.lemmas.Int.Digits.{digits_more, digits_value_more}
use Rattle.std.proofs.lemmas.List.{get_or-take}
use Rattle.std.proofs.lemmas.Str.Parse.{IsNumeralModel, digits_value_short, numerals_by_value, tells_digits}
use Rattle.link_scripts.proofs.Splitting.{LackSpaces}
use Rattle.link_scripts.proofs.Wording.{IsWord-digits, no_space}

-- so many bytes of a line are digits and write n
abbrev pub AreRead : List ℕ → ℕ → ℕ → Type 0
AreRead line at n = AllDigits 10 (take at line) × (n ≡ digits_value 10 (take at line))

own : IsNumeralModel (AllDigits 10) (digits_value 10)
own = numerals_by_value (AllDigits 10) tells_digits

module _ (line : List ℕ) (at n : ℕ) (read : AreRead line at n) where
  -- one digit more
  pub one_more : at < length line → digit_value (get_or line at 0) < 10
      → AreRead line (at + 1) (n * 10 + digit_value (get_or line at 0))
  one_more below digit = (
    digits_more 10 line at below read.0 digit,
    ap (λ m. m * 10 + digit_value (get_or line at 0)) read.1 ∙ sym (digits_value_more 10 line at below),
  )

  -- few digits write a number below that power of ten
  pub below_power : (most : ℕ) → at ≤ most → n < 10 ^ most
  below_power most few =
      subst (λ m. m < 10 ^ most) (sym read.1)
      (digits_value_short own (take at line) most read.0 (omega (arith, length-take at line)))

  -- digits are no spaces
  pub lack_spaces : LackSpaces (take at line)
  lack_spaces = no_space (take at line) (IsWord-digits (take at line) read.0)

  -- with no zero in front they are the word of what they write
  pub word_read : at ≤ length line → at ≤ 19 → (0 < at) × (get_or line 0 0 ≡ 48 → at ≡ 1) → take at line ≡ number_word n
  word_read within few plain =
      let long : length (take at line) ≡ at = omega (arith, length-take at line) in
      sym
      (ap decimal read.1
      ∙ decimal-digits_value own (take at line) read.0 (omega (arith, plain.0))
      (λ zero. long ∙ plain.1 (sym (get_or-take at line 0 0 plain.0) ∙ zero))
      (omega (arith, read.1, below_power 19 few)))
