-- Lines cut into words at their spaces.
use Rattle.link_scripts.proofs.Common.{◌≡◌, ℕ, ◌+◌, ◌<◌, ◌≤◌, eqb, false, List, [], ◌∷◌, ◌++◌, get_or, take, drop}
use Rattle.link_scripts.proofs.Common.{length, take-append-drop, ap, sym, ◌∙◌, eq-eqb, subst, All, drop_more, take_all}
use Rattle.link_scripts.proofs.Common.{take_more, slice_split_none, slice_split_at, parts_of}
use Rattle.std.proofs.lemmas.List.Elements.{All-push}
use Rattle.std.proofs.lemmas.Bool.{ne_eqb}

-- none of the bytes is a space
abbrev pub LackSpaces : List ℕ → Type 0
LackSpaces bytes = All (λ b. eqb b 32 ≡ false) bytes

-- one byte more that is no space
pub one_byte_more : (line : List ℕ) (n : ℕ) → n < length line → LackSpaces (take n line) → ¬ (get_or line n 0 ≡ 32)
    → LackSpaces (take (n + 1) line)
one_byte_more line n below lack other =
    subst LackSpaces (sym (take_more line n 0 below))
    (All-push (λ b. eqb b 32 ≡ false) (take n line) (get_or line n 0) lack (ne_eqb (get_or line n 0) 32 other))

-- a line with no space is its one part
pub only_part : (line : List ℕ) (n : ℕ) → length line ≤ n → LackSpaces (take n line) → parts_of line ≡ line ∷ []
only_part line n whole lack =
    slice_split_none (λ b. eqb b 32) line (subst LackSpaces (take_all n line whole) lack)

-- a line is cut at its first space
pub first_part : (line : List ℕ) (n : ℕ) → n < length line → LackSpaces (take n line) → get_or line n 0 ≡ 32
    → parts_of line ≡ take n line ∷ parts_of (drop (n + 1) line)
first_part line n below lack space =
    ap parts_of (sym (take-append-drop n line) ∙ ap (λ rest. take n line ++ rest) (drop_more line n 0 below))
    ∙ slice_split_at (λ b. eqb b 32) (take n line) (get_or line n 0) (drop (n + 1) line) lack
    (eq-eqb (get_or line n 0) 32 space)
