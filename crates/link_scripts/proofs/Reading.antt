-- What a bounded read up to the end byte gives.
use Rattle.link_scripts.proofs.Common.{◌≡◌, ◌≢◌, ℕ, ◌+◌, ◌-◌, ◌<◌, ◌≤◌, Bool, true, false, cond, eqb, List, [], ◌∷◌}
use Rattle.link_scripts.proofs.Common.{◌++◌, length, get_or, take, drop, refl, sym, ap, ◌∙◌, subst, arith, append_assoc}
use Rattle.link_scripts.proofs.Common.{length-append, take-append-drop, eq-eqb, Option, None, Some, All, IfSome}
use Rattle.link_scripts.proofs.Common.{take_all, drop_more, IsLineAhead}
use Rattle.std.proofs.Common.{suc}
use Rattle.std.proofs.Common.{length-take, ⊎_elim}
use Rattle.std.proofs.lemmas.Bool.{cases_lt}
use borrow.Author.Tests.{eqb-true}
use Rattle.std.specs.List.{Contains}
use Rattle.std.specs.Io.{StopsAt}
use Rattle.std.specs.Io.BufRead.{take_through, drop_through}
use Rattle.std.specs.Io.KnownBytes.{prepend_known}
use Rattle.std.specs.Option.{IfNone, option_map}
use Rattle.std.proofs.lemmas.List.{take_at, get_or_default, get_or-take}
use Rattle.memchr.specs.Find.{IsFirstByte, is_byte}
use Rattle.link_scripts.specs.declared.linkrun.line.LineEnd.{LineEnd}
use Rattle.link_scripts.specs.declared.linkrun.line.LineEnd.TheVariants.{Newline, Input, TooLong}
use Rattle.link_scripts.specs.Lines.{LacksEndByte, IsFrontOf, IsCut}

-- the last of some bytes, or 0
last : List ℕ → ℕ
last bytes = get_or bytes (length bytes - 1) 0

last-cons : (x : ℕ) (bytes : List ℕ) → 0 < length bytes → last (x ∷ bytes) ≡ last bytes
unfolding last
last-cons x [] some = absurd (omega arith)
last-cons x (y ∷ bytes) some =
    let long : length (x ∷ y ∷ bytes) - 1 ≡ suc (length bytes) = omega arith in
    let short : length (y ∷ bytes) - 1 ≡ length bytes = omega arith in
    ap (λ n. get_or (x ∷ y ∷ bytes) n 0) long ∙ sym (ap (λ n. get_or (y ∷ bytes) n 0) short)

-- what is read up to the end byte, and what is left, are the whole
through-append : (bytes : List ℕ) → take_through 10 bytes ++ drop_through 10 bytes ≡ bytes
through-append [] = refl
through-append (x ∷ xs) =
    let step : (b : Bool) → cond b (x ∷ []) (x ∷ take_through 10 xs) ++ cond b xs (drop_through 10 xs) ≡ x ∷ xs
    = λ b.
    elim b as (λ b. cond b (x ∷ []) (x ∷ take_through 10 xs) ++ cond b xs (drop_through 10 xs) ≡ x ∷ xs)
    [ true ↦ refl | false ↦ ap (λ rest. x ∷ rest) (through-append xs) ] in
    step (eqb x 10)

-- something is read of some bytes
through_some : (x : ℕ) (xs : List ℕ) → 0 < length (take_through 10 (x ∷ xs))
through_some x xs =
    elim (eqb x 10) as (λ b. 0 < length (cond b (x ∷ []) (x ∷ take_through 10 xs)))
    [ true ↦ omega arith | false ↦ omega arith ]

-- where the end byte did not come, all was read
through_all : (bytes : List ℕ) → last (take_through 10 bytes) ≢ 10 → take_through 10 bytes ≡ bytes
unfolding last
through_all [] other = refl
through_all (x ∷ []) other = elim (eqb x 10) as (λ b. cond b (x ∷ []) (x ∷ []) ≡ x ∷ []) [ true ↦ refl | false ↦ refl ]
through_all (x ∷ y ∷ ys) other = all_read x (y ∷ ys) (through_some y ys) (through_all (y ∷ ys)) (eqb x 10) refl other
  where
    all_read : (x : ℕ) (xs : List ℕ) → 0 < length (take_through 10 xs)
        → (last (take_through 10 xs) ≢ 10 → take_through 10 xs ≡ xs) → (b : Bool) → eqb x 10 ≡ b
        → last (cond b (x ∷ []) (x ∷ take_through 10 xs)) ≢ 10 → cond b (x ∷ []) (x ∷ take_through 10 xs) ≡ x ∷ xs
    all_read x xs some rest true e other = absurd (other (eqb-true x 10 e))
    all_read x xs some rest false e other =
        ap (λ bytes. x ∷ bytes) (rest (λ is. other (last-cons x (take_through 10 xs) some ∙ is)))

-- a line that was read has no end byte in it
pub one_line : (read line : List ℕ) (end : LineEnd) → StopsAt read 10 → IsCut end read line → LacksEndByte line
one_line read line Newline stops cut =
    let front : take (length read - 1) read ≡ line =
    ap (take (length read - 1)) cut
    ∙ take_at line (10 ∷ []) (length read - 1) (omega (arith, ap length cut, length-append line (10 ∷ []))) in
    subst (All (λ b. b ≢ 10)) front stops
one_line read line Input stops cut = λ k d low.
    let same : get_or line k d ≡ get_or read k 0 =
    ap (λ bytes. get_or bytes k d) cut.0 ∙ get_or_default read k d 0 (omega (arith, ap length cut.0)) in
    λ is. ⊎_elim
    (λ front. stops k 0 (omega (arith, length-take (length read - 1) read))
    (get_or-take (length read - 1) read k 0 front ∙ sym same ∙ is))
    (λ end. let at : k ≡ length read - 1 = omega (arith, ap length cut.0) in
    cut.1 (ap (λ n. get_or read n 0) (sym at) ∙ sym same ∙ is))
    (cases_lt k (length read - 1))
one_line read line TooLong stops cut = absurd cut

module _ (bytes read line : List ℕ) (is_read : read ≡ take_through 10 (take 257 bytes)) where
  -- what was read stands in front of the bytes
  read_in_front : bytes ≡ read ++ (drop_through 10 (take 257 bytes) ++ drop 257 bytes)
  read_in_front =
      sym (take-append-drop 257 bytes) ∙ ap (λ front. front ++ drop 257 bytes) (sym (through-append (take 257 bytes)))
      ∙ append_assoc (take_through 10 (take 257 bytes)) (drop_through 10 (take 257 bytes)) (drop 257 bytes)
      ∙ ap (λ front. front ++ (drop_through 10 (take 257 bytes) ++ drop 257 bytes)) (sym is_read)

  line_in_front : read ≡ line ++ 10 ∷ [] → bytes ≡ line ++ 10 ∷ (drop_through 10 (take 257 bytes) ++ drop 257 bytes)
  line_in_front cut =
      read_in_front ∙ ap (λ front. front ++ (drop_through 10 (take 257 bytes) ++ drop 257 bytes)) cut
      ∙ append_assoc line (10 ∷ []) (drop_through 10 (take 257 bytes) ++ drop 257 bytes)

  -- a line of at most 256 bytes stands in front of the bytes, with its end
  pub front_of_bytes : (end : LineEnd) → IsCut end read line → length line ≤ 256 → IsFrontOf end line bytes
  unfolding last
  front_of_bytes Newline cut short = (_, line_in_front cut)
  front_of_bytes Input cut short =
      let other : last (take_through 10 (take 257 bytes)) ≢ 10 = λ is. cut.1 (ap last is_read ∙ is) in
      let all : read ≡ take 257 bytes = is_read ∙ through_all (take 257 bytes) other in
      sym (take_all 257 bytes (omega (arith, ap length cut.0, ap length all, length-take 257 bytes))) ∙ sym all
      ∙ sym cut.0
  front_of_bytes TooLong cut short = absurd cut

  -- and so does what was read of a longer one
  pub front_of_long : (end : LineEnd) → IsCut end read line → IsFrontOf TooLong line bytes
  front_of_long Newline cut = (_, line_in_front cut)
  front_of_long Input cut =
      (_, read_in_front ∙ ap (λ front. front ++ (drop_through 10 (take 257 bytes) ++ drop 257 bytes)) (sym cut.0))
  front_of_long TooLong cut = absurd cut

-- the line in front of the first end byte
pub first_line : (bytes : List ℕ) (found : Option ℕ) → IsFirstByte (is_byte 10) bytes found
    → IfSome found (IsLineAhead bytes)
first_line bytes None none = tt
first_line bytes (Some n) (first, end) =
    record {
      within = first.high;
      one_line = λ k d low.
          let below : k < n = omega (arith, low, length-take n bytes) in
          λ is. first.before k (omega arith) below
          (eq-eqb (get_or bytes k 0) 10
          (sym (get_or-take n bytes k 0 below) ∙ sym (get_or_default (take n bytes) k d 0 low) ∙ is));
      cut =
          sym (take-append-drop n bytes)
          ∙ ap (λ rest. take n bytes ++ rest)
          (drop_more bytes n 0 first.high
          ∙ ap (λ b. b ∷ drop (n + 1) bytes) (eqb-true (get_or bytes n 0) 10 end));
    }

-- where no end byte is found there is none
pub no_line : (bytes : List ℕ) (found : Option ℕ) → IsFirstByte (is_byte 10) bytes found
    → IfNone found (¬ (Contains bytes 10))
no_line bytes None none =
    λ at. none at.0 (omega arith) at.1
    (eq-eqb (get_or bytes at.0 0) 10 (sym (get_or_default bytes at.0 10 0 at.1) ∙ at.2))
no_line bytes (Some n) first = tt

-- ---- where the bytes may not be known

-- a line that was read ahead stands in front of all that is left
pub front_of_ahead : (unbuffered : Bool) (behind : Option (List ℕ)) (ahead line rest : List ℕ)
    → ahead ≡ line ++ 10 ∷ rest
    → IfSome (cond unbuffered None (prepend_known ahead behind)) (IsFrontOf Newline line)
front_of_ahead true behind ahead line rest is = tt
front_of_ahead false None ahead line rest is = tt
front_of_ahead false (Some more) ahead line rest is =
    (rest ++ more, ap (λ front. front ++ more) is ∙ append_assoc line (10 ∷ rest) more)

-- what a read of at most 257 bytes gave, after nothing
module _ (known reader : Option (List ℕ)) (limit : ℕ) (start read line : List ℕ) (same : reader ≡ known)
    (at : limit ≡ 257) (empty : start ≡ [])
    (gave : IfSome (option_map (take limit) reader) (λ front. read ≡ start ++ take_through 10 front)) where
  is_read : IfSome (option_map (take 257) known) (λ front. read ≡ take_through 10 front)
  is_read = subst (λ k. IfSome (option_map (take 257) k) (λ front. read ≡ take_through 10 front)) same
      (subst (λ n. IfSome (option_map (take n) reader) (λ front. read ≡ take_through 10 front)) at
      (subst (λ s. IfSome (option_map (take limit) reader) (λ front. read ≡ s ++ take_through 10 front)) empty gave))

  pub front_of_known : (end : LineEnd) → IsCut end read line → length line ≤ 256 → IfSome known (IsFrontOf end line)
  front_of_known end cut short =
      elim known as
      (λ k. IfSome (option_map (take 257) k) (λ front. read ≡ take_through 10 front) → IfSome k (IsFrontOf end line))
      [ None ↦ λ _. tt | Some bytes ↦ λ h. front_of_bytes bytes read line h end cut short ] is_read

  pub front_of_long_known : (end : LineEnd) → IsCut end read line → IfSome known (IsFrontOf TooLong line)
  front_of_long_known end cut =
      elim known as
      (λ k. IfSome (option_map (take 257) k) (λ front. read ≡ take_through 10 front)
      → IfSome k (IsFrontOf TooLong line))
      [ None ↦ λ _. tt | Some bytes ↦ λ h. front_of_long bytes read line h end cut ] is_read
