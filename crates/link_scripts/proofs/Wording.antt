-- Which words say which values, and which words a line has.
use Rattle.link_scripts.proofs.Common.{◌≡◌, ◌↔◌, ℕ, ◌^◌, ◌<◌, Bool, true, false, ◌&&◌, eqb, List, [], ◌∷◌, ◌++◌, Option}
use Rattle.link_scripts.proofs.Common.{None, Some, length, get_or, codes, refl, sym, ap, ◌∙◌, subst, arith, eq-eqb}
use Rattle.link_scripts.proofs.Common.{append-nil, IfSome, NonZeroU64, All, IsUtf8, AllDigits, nat_tests}
use Rattle.link_scripts.proofs.Common.{slice_split_none, slice_split_at, IsUtf8-from_ascii, digit_from_value, Flow}
use Rattle.link_scripts.proofs.Common.{Command, Takes, number_word, cap_word, weight_word, flag_word, command_words}
use Rattle.link_scripts.proofs.Common.{IsWeightInRange, IsNumberInRange, IsCapInRange, IsSmallCapInRange}
use Rattle.link_scripts.proofs.Common.{IsCommandInRange, parts_of}
use Rattle.std.proofs.Common.{ltb}
use Rattle.std.proofs.Props.{props}
use borrow.Author.Tests.{ne_eqb, ltb-true}
use Rattle.std.specs.Int.NonZero.{non_zero_u64_get}
use Rattle.std.specs.Option.{MatchOption}
use Rattle.std.proofs.lemmas.Option.{same_Some}
use Rattle.std.specs.List.{list_all, join_with_byte}
use Rattle.std.proofs.lemmas.List.{append_cancel_left}
use Rattle.std.proofs.lemmas.List.Elements.{All-nil, All-cons}
use Rattle.std.proofs.lemmas.List.Splits.{join_with_byte-slice_split}
use Rattle.std.proofs.lemmas.Str.Ascii.{IsAscii-from_all}
use Rattle.std.proofs.lemmas.Bool.{and_parts}
use Rattle.link_scheduler.specs.declared.call.Call.{Call}
use Rattle.link_scheduler.specs.declared.call.Call.TheVariants as calls
use Rattle.link_scripts.specs.declared.linkrun.command.Command.TheVariants as commands
use Rattle.link_scripts.specs.declared.linkrun.command.NetworkLine.TheVariants as lines
use Rattle.link_scripts.specs.Script.{flow_words, call_words}
use Rattle.link_scripts.specs.Script.{line_of, IsFlowInRange}
use Rattle.link_scripts.specs.Script.{IsCallOfScriptInRange}
use Rattle.link_scripts.proofs.Columns.{wider}
use Rattle.link_scripts.proofs.Numerals.{no_dash, digits_of_number}

-- ---- words of values

-- a word of one byte
pub one_byte : (word : List ℕ) (b : ℕ) → length word ≡ 1 → get_or word 0 0 ≡ b → word ≡ b ∷ []
one_byte [] b one is = absurd (omega arith)
one_byte (c ∷ []) b one is = ap (λ x. x ∷ []) is
one_byte (c ∷ d ∷ ds) b one is = absurd (omega arith)

-- a word `-` says no cap, and no other cap is written so
pub takes_no_cap : (before after : List (List ℕ)) (word : List ℕ) → before ≡ word ∷ after → word ≡ codes "-"
    → Takes (λ cap. cap_word cap ∷ []) IsCapInRange before (Some None) after
takes_no_cap before after word is dash = record { taken = (is ∙ ap (λ w. w ∷ after) dash, tt); missed = missed }
  where
    missed : (cap : Option ℕ) (rest : List (List ℕ)) → IsCapInRange cap → before ≡ cap_word cap ∷ rest
        → Some None ≡ Some cap
    missed None rest range said = refl
    missed (Some cap) rest range said =
        let word_is : codes "-" ≡ cap_word (Some cap) = cc in absurd (no_dash cap range word_is)

abbrev pub TakesNumber : List (List ℕ) → ℕ → List (List ℕ) → Type 0
TakesNumber before n after = Takes (λ n. number_word n ∷ []) IsNumberInRange before (Some n) after

weight_of : (n : ℕ) → 0 < n → NonZeroU64
weight_of n some = record { value = n; ok = some }

same_number : (n m : ℕ) → n ≡ m → (p : 0 < n) (q : 0 < m) → weight_of n p ≡ weight_of m q
same_number n m same p =
    let one : IsProp (0 < n) = hlevel props in
    subst (λ k. (q : 0 < k) → weight_of n p ≡ weight_of k q) same (λ q. ap (weight_of n) (one p q))

-- two weights of one number are one
one_weight : (v w : NonZeroU64) → non_zero_u64_get v ≡ non_zero_u64_get w → v ≡ w
unfolding weight_of
one_weight v w same = same_number v.value w.value same v.ok w.ok

-- a number above zero is a weight, and zero is none
pub takes_weight : (before after : List (List ℕ)) (n : ℕ) (answer : Option NonZeroU64) → TakesNumber before n after
    → MatchOption answer (n ≡ 0) (λ w. non_zero_u64_get w ≡ n)
    → Takes (λ w. weight_word w ∷ []) IsWeightInRange before answer after
takes_weight before after n (Some w) takes is = record {
  taken = (
    takes.taken.0 ∙ ap (λ m. number_word m ∷ after) (sym is),
    subst IsNumberInRange (sym is) takes.taken.1,
  );
  missed = λ v rest range said.
      let same : Some n ≡ Some (non_zero_u64_get v) = takes.missed (non_zero_u64_get v) rest range said in
      ap Some (one_weight w v (is ∙ same_Some n (non_zero_u64_get v) same));
}
takes_weight before after n None takes is = record {
  taken = tt;
  missed = λ v rest range said.
      let same : Some n ≡ Some (non_zero_u64_get v) = takes.missed (non_zero_u64_get v) rest range said in
      absurd (omega (arith, is, same_Some n (non_zero_u64_get v) same, v.ok));
}

-- where no number stands there is no weight
pub takes_no_weight : (before after : List (List ℕ))
    → Takes (λ n. number_word n ∷ []) IsNumberInRange before None after
    → Takes (λ w. weight_word w ∷ []) IsWeightInRange before None after
takes_no_weight before after takes = record {
  taken = tt;
  missed = λ v rest range said.
      let none : None ≡ Some (non_zero_u64_get v) = takes.missed (non_zero_u64_get v) rest range said in
      absurd (cc none);
}

-- three numbers and a flag are a flow
pub takes_flow : (w0 w1 w2 w3 w4 : List (List ℕ)) (id origin recipient : ℕ) (delivered : Bool) → TakesNumber w0 id w1
    → TakesNumber w1 origin w2 → TakesNumber w2 recipient w3
    → Takes (λ flag. flag_word flag ∷ []) (λ _. Unit {0}) w3 (Some delivered) w4
    → Takes flow_words IsFlowInRange w0
    (Some (record { id = id; origin = origin; recipient = recipient; delivered = delivered })) w4
takes_flow w0 w1 w2 w3 w4 id origin recipient delivered a b c d =
    record {
      taken = (cc (a.taken.0, b.taken.0, c.taken.0, d.taken.0), (a.taken.1, b.taken.1, c.taken.1));
      missed = missed;
    }
  where
    missed : (f : Flow ℕ) (rest : List (List ℕ)) → IsFlowInRange f → w0 ≡ flow_words f ++ rest
        → Some (record { id = id; origin = origin; recipient = recipient; delivered = delivered }) ≡ Some f
    missed f rest range said =
        let same_id : id ≡ f.id =
        cc
        (a.missed f.id (number_word f.origin ∷ number_word f.recipient ∷ flag_word f.delivered ∷ rest) range.0
        said) in
        let said1 : w1 ≡ number_word f.origin ∷ number_word f.recipient ∷ flag_word f.delivered ∷ rest =
        cc (a.taken.0, said) in
        let same_origin : origin ≡ f.origin =
        cc (b.missed f.origin (number_word f.recipient ∷ flag_word f.delivered ∷ rest) range.1 said1) in
        let said2 : w2 ≡ number_word f.recipient ∷ flag_word f.delivered ∷ rest = cc (b.taken.0, said1) in
        let same_recipient : recipient ≡ f.recipient =
        cc (c.missed f.recipient (flag_word f.delivered ∷ rest) range.2 said2) in
        let said3 : w3 ≡ flag_word f.delivered ∷ rest = cc (c.taken.0, said2) in
        let same_delivered : delivered ≡ f.delivered = cc (d.missed f.delivered rest tt said3) in
        λ i.
        Some
        (record {
          id = same_id i;
          origin = same_origin i;
          recipient = same_recipient i;
          delivered = same_delivered i;
        })

-- ---- words of a line

-- a byte that is printed and no space
abbrev graphic : ℕ → Bool
graphic b = ltb 32 b && ltb b 128

-- a word has such bytes alone
abbrev IsWord : List ℕ → Type 0
IsWord word = list_all graphic word ≡ true

is_graphic : (b : ℕ) → graphic b ≡ true → (eqb b 32 ≡ false) × (b < 128)
is_graphic b h =
    let both = and_parts (ltb 32 b) (ltb b 128) h in
    let low : 32 < b = ltb-true 32 b both.0 in
    (ne_eqb b 32 (λ e. omega arith), ltb-true b 128 both.1)

pub no_space : (word : List ℕ) → IsWord word → All (λ b. eqb b 32 ≡ false) word
no_space [] is = All-nil (λ b. eqb b 32 ≡ false)
no_space (b ∷ word) is =
    let both = and_parts (graphic b) (list_all graphic word) is in
    All-cons (λ b. eqb b 32 ≡ false) b word (is_graphic b both.0).0 (no_space word both.1)

below_128 : (word : List ℕ) → IsWord word → All (λ b. b < 128) word
below_128 [] is = All-nil (λ b. b < 128)
below_128 (b ∷ word) is =
    let both = and_parts (graphic b) (list_all graphic word) is in
    All-cons (λ b. b < 128) b word (is_graphic b both.0).1 (below_128 word both.1)

pub IsWord-digits : (ds : List ℕ) → AllDigits 10 ds → IsWord ds
IsWord-digits [] all = refl
IsWord-digits (c ∷ cs) all =
    let range = digit_from_value c all.0 in
    let low : ltb 32 c ≡ true = grind (arith, nat_tests) in
    let high : ltb c 128 ≡ true = grind (arith, nat_tests) in
    (λ i. (low i && high i) && IsWord-digits cs all.1 i)

IsWord-number : (n : ℕ) → n < 2 ^ 128 → IsWord (number_word n)
IsWord-number n small = IsWord-digits (number_word n) (digits_of_number n small)

IsWord-cap : (cap : Option ℕ) → IsCapInRange cap → IsWord (cap_word cap)
IsWord-cap None range = refl
IsWord-cap (Some cap) range = IsWord-number cap range

IsWord-flag : (flag : Bool) → IsWord (flag_word flag)
IsWord-flag false = refl
IsWord-flag true = refl

abbrev AreWords : List (List ℕ) → Type 0
AreWords [] = Unit {0}
AreWords (w ∷ ws) = IsWord w × AreWords ws

-- words that are joined by spaces are the parts of the line
parts_of-join : (ws : List (List ℕ)) → AreWords ws → 0 < length ws → parts_of (join_with_byte 32 ws) ≡ ws
parts_of-join [] are some = absurd (omega arith)
parts_of-join (w ∷ []) are some = slice_split_none (λ b. eqb b 32) w (no_space w are.0)
parts_of-join (w ∷ v ∷ ws) are some =
    slice_split_at (λ b. eqb b 32) w 32 (join_with_byte 32 (v ∷ ws)) (no_space w are.0) (eq-eqb 32 32 refl)
    ∙ ap (λ parts. w ∷ parts) (parts_of-join (v ∷ ws) are.1 (omega arith))

-- a name and the words behind its space are the parts of the line
pub named_parts : (name line : List ℕ) (rest : List (List ℕ)) → IsWord name → rest ≡ parts_of line
    → name ∷ rest ≡ parts_of (name ++ 32 ∷ line)
named_parts name line rest is behind =
    ap (λ parts. name ∷ parts) behind
    ∙ sym (slice_split_at (λ b. eqb b 32) name 32 line (no_space name is) (eq-eqb 32 32 refl))

IsWord-small : (n : ℕ) → IsNumberInRange n → IsWord (number_word n)
IsWord-small n small = IsWord-number n (omega (arith, small))

IsWord-small_cap : (cap : Option ℕ) → IsSmallCapInRange cap → IsWord (cap_word cap)
IsWord-small_cap cap range = IsWord-cap cap (wider cap range)

-- one and more
before : {A B : Type 0} → A → B → A × B
before one more = (one, more)

-- what calls are written with is words
AreWords-call : (call : Call ℕ ℕ) → IsCallOfScriptInRange call → AreWords (call_words call)
AreWords-call (calls.Limit now peer egress ingress) range =
    before refl (before (IsWord-small now range.0) (before (IsWord-small peer range.1)
    (before (IsWord-small_cap egress range.2) (before (IsWord-small_cap ingress range.3) tt))))
AreWords-call (calls.LimitLink now origin recipient cap) range =
    before refl (before (IsWord-small now range.0) (before (IsWord-small origin range.1)
    (before (IsWord-small recipient range.2) (before (IsWord-small_cap cap range.3) tt))))
AreWords-call (calls.Enqueue now origin recipient channel length latency should_deliver) range =
    before refl (before (IsWord-small now range.0) (before (IsWord-small origin range.1)
    (before (IsWord-small recipient range.2) (before (IsWord-small channel range.3)
    (before (IsWord-number length (omega (arith, range.4))) (before (IsWord-small latency range.5)
    (before (IsWord-flag should_deliver) tt)))))))
AreWords-call (calls.EnqueueAll now messages) range = absurd range
AreWords-call (calls.Advance now) range = before refl (before (IsWord-small now range) tt)
AreWords-call calls.Next range = before refl tt

-- what commands are written with is words
AreWords-command : (command : Command) → IsCommandInRange command → AreWords (command_words command)
AreWords-command (commands.Flow f) range =
    before refl (before (IsWord-small f.id range.0) (before (IsWord-small f.origin range.1)
    (before (IsWord-small f.recipient range.2) (before (IsWord-flag f.delivered) tt))))
AreWords-command (commands.Egress peer cap) range =
    before refl (before (IsWord-small peer range.0) (before (IsWord-cap cap range.1) tt))
AreWords-command (commands.Ingress peer cap) range =
    before refl (before (IsWord-small peer range.0) (before (IsWord-cap cap range.1) tt))
AreWords-command (commands.Link origin recipient cap) range =
    (refl, (IsWord-small origin range.0, (IsWord-small recipient range.1, (IsWord-cap cap range.2, tt))))
AreWords-command commands.Rates range = (refl, tt)
AreWords-command (commands.Network (lines.Hop flow link)) range =
    (refl, (IsWord-small flow range.0, (IsWord-small link range.1, tt)))
AreWords-command (commands.Network (lines.Cap link cap)) range =
    (refl, (IsWord-small link range.0, (IsWord-cap cap range.1, tt)))
AreWords-command (commands.Network (lines.Weight flow weight)) range =
    (refl, (IsWord-small flow range.0, (IsWord-small (non_zero_u64_get weight) range.1, tt)))
AreWords-command commands.Routes range = (refl, tt)
AreWords-command (commands.Schedule call) range = AreWords-call call range

-- the first of some words is text
first_is_text : (word : List ℕ) (after ws rest : List (List ℕ)) → AreWords ws → 0 < length ws → word ∷ after ≡ ws ++ rest
    → IsUtf8 word
first_is_text word after [] rest are some is = absurd (omega arith)
first_is_text word after (w ∷ ws) rest are some is =
    let same : word ≡ w = cc in
    IsUtf8-from_ascii word (IsAscii-from_all word (subst (All (λ b. b < 128)) (sym same) (below_128 w are.0)))

-- a command has words
has_words : (command : Command) → IsCommandInRange command → 0 < length (command_words command)
has_words (commands.Flow f) range = omega arith
has_words (commands.Egress peer cap) range = omega arith
has_words (commands.Ingress peer cap) range = omega arith
has_words (commands.Link origin recipient cap) range = omega arith
has_words commands.Rates range = omega arith
has_words (commands.Network (lines.Hop flow link)) range = omega arith
has_words (commands.Network (lines.Cap link cap)) range = omega arith
has_words (commands.Network (lines.Weight flow weight)) range = omega arith
has_words commands.Routes range = omega arith
has_words (commands.Schedule (calls.Limit now peer egress ingress)) range = omega arith
has_words (commands.Schedule (calls.LimitLink now origin recipient cap)) range = omega arith
has_words (commands.Schedule (calls.Enqueue now origin recipient channel length latency should_deliver)) range =
    omega arith
has_words (commands.Schedule (calls.EnqueueAll now messages)) range = absurd range
has_words (commands.Schedule (calls.Advance now)) range = omega arith
has_words (commands.Schedule calls.Next) range = omega arith

-- no command begins with a word that is no text
pub takes_no_text : (before after left : List (List ℕ)) (word : List ℕ) → before ≡ word ∷ after → ¬ (IsUtf8 word)
    → Takes command_words IsCommandInRange before None left
takes_no_text before after left word is no_text =
    record {
      taken = tt;
      missed = λ command rest range said.
          absurd
          (no_text
          (first_is_text word after (command_words command) rest (AreWords-command command range)
          (has_words command range) (sym is ∙ said)));
    }

-- the parts of the line of a command are its words
parts_of-line_of : (command : Command) → IsCommandInRange command → parts_of (line_of command) ≡ command_words command
parts_of-line_of command range =
    parts_of-join (command_words command) (AreWords-command command range) (has_words command range)

-- ---- what a line says

-- a line whose parts are the words of a command is that command's
line_said : (line : List ℕ) (command : Command) (after : List (List ℕ)) → parts_of line ≡ command_words command ++ after
    → after ≡ [] → line ≡ line_of command
line_said line command after said none =
    sym (join_with_byte-slice_split 32 line)
    ∙ ap (join_with_byte 32)
    (said ∙ ap (λ rest. command_words command ++ rest) none ∙ append-nil (command_words command))

-- and a line of a command has its words as its parts
parts_said : (line : List ℕ) (command : Command) → line ≡ line_of command → IsCommandInRange command
    → parts_of line ≡ command_words command ++ []
parts_said line command is range =
    ap parts_of is ∙ parts_of-line_of command range ∙ sym (append-nil (command_words command))

-- what is taken from the parts of a line, before and after; the words before are the parts
module _ (line : List ℕ) (before after : List (List ℕ)) (parts : before ≡ parts_of line) where
  abbrev Says : Option Command → Command → Type 0
  Says answer command = (answer ≡ Some command) ↔ ((line ≡ line_of command) × IsCommandInRange command)

  abbrev TakesCommand : Option Command → Type 0
  TakesCommand answer = Takes command_words IsCommandInRange before answer after

  -- where a command's words are taken the words before are these words and those after
  taken_of : (answer : Option Command) (command : Command) → TakesCommand answer → answer ≡ Some command
      → (before ≡ command_words command ++ after) × IsCommandInRange command
  taken_of answer command takes e =
      subst (λ a. IfSome a (λ c. (before ≡ command_words c ++ after) × IsCommandInRange c)) e takes.taken

  -- a line of a command gives that command
  answer_of : (answer : Option Command) (command : Command) → TakesCommand answer
      → (line ≡ line_of command) × IsCommandInRange command → answer ≡ Some command
  answer_of answer command takes is = takes.missed command [] is.1 (parts ∙ parts_said line command is.0 is.1)

  -- the line says the command that takes all its parts
  pub says_all : (answer : Option Command) → TakesCommand answer → after ≡ [] → (command : Command)
      → Says answer command
  says_all answer takes none command = (
    (λ e. let taken = taken_of answer command takes e in
        (line_said line command after (sym parts ∙ taken.0) none, taken.1)),
    λ is. answer_of answer command takes is,
  )

  -- a line with parts left over says none
  pub says_less : (answer : Option Command) (word : List ℕ) (rest : List (List ℕ)) → TakesCommand answer
      → after ≡ word ∷ rest → (command : Command) → Says None command
  says_less answer word rest takes more command = (
    (λ e. absurd (cc)),
    λ is.
        let taken = taken_of answer command takes (answer_of answer command takes is) in
        let over : after ≡ [] =
        append_cancel_left (command_words command) after []
        (sym taken.0 ∙ parts ∙ parts_said line command is.0 is.1) in
        absurd (cc (more, over)),
  )
