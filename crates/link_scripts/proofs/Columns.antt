-- Words that are taken column by column.
use Rattle.link_scripts.proofs.Common.{◌≡◌, ℕ, ◌^◌, ◌<◌, ◌≤◌, Bool, true, false, ◌&&◌, eqb, List, [], ◌∷◌, ◌++◌, Option}
use Rattle.link_scripts.proofs.Common.{None, Some, codes, refl, sym, ap, ap₂, ◌∙◌, subst, arith, eq-eqb, Command, Takes}
use Rattle.link_scripts.proofs.Common.{number_word, cap_word, flag_word, command_words, IsNumberInRange, IsCapInRange}
use Rattle.link_scripts.proofs.Common.{IsSmallCapInRange, IsCommandInRange, weight_word, IsWeightInRange, NonZeroU64}
use Rattle.std.specs.Option.{IfSome, option_map}
use Rattle.link_scheduler.specs.declared.call.Call.TheVariants as calls
use Rattle.link_scripts.specs.declared.linkrun.command.Command.TheVariants as commands
use Rattle.link_scripts.specs.declared.linkrun.command.NetworkLine.TheVariants as lines
use Rattle.link_scripts.specs.Script.{IsLengthInRange, network_words, IsNetworkLineInRange}
use Rattle.link_scripts.specs.declared.linkrun.command.NetworkLine.{NetworkLine}

-- one word was taken, or no value in range stands there
abbrev pub TakesWord : {A : Type 0} → (A → List ℕ) → (A → Type 0) → List (List ℕ) → Option A → List (List ℕ) → Type 0
TakesWord word R before answer after = Takes (λ a. word a ∷ []) R before answer after

-- ---- a column, and then others

-- the word of the first, and then those of the rest
abbrev pub word_then : {A B : Type 0} → (A → List ℕ) → (B → List (List ℕ)) → A × B → List (List ℕ)
word_then word words both = word both.0 ∷ words both.1

-- both are in their ranges
abbrev pub AreIn : {A B : Type 0} → (A → Type 0) → (B → Type 0) → A × B → Type 0
AreIn R S both = R both.0 × S both.1

module _ {A B : Type 0} {word : A → List ℕ} {R : A → Type 0} {words : B → List (List ℕ)} {S : B → Type 0}
    {w0 w1 w2 : List (List ℕ)} where
  -- a word and the words after it
  pub takes_both : {a : A} {b : B} → TakesWord word R w0 (Some a) w1 → Takes words S w1 (Some b) w2
      → Takes (word_then word words) (AreIn R S) w0 (Some (a, b)) w2
  takes_both {a} {b} first second =
      record {
        taken = (first.taken.0 ∙ ap (λ ws. word a ∷ ws) second.taken.0, (first.taken.1, second.taken.1));
        missed = missed;
      }
    where
      missed : (both : A × B) (rest : List (List ℕ)) → AreIn R S both → w0 ≡ word_then word words both ++ rest
          → Some (a, b) ≡ Some both
      missed both rest range said =
          let same : Some a ≡ Some both.0 = first.missed both.0 (words both.1 ++ rest) range.0 said in
          let left : w1 ≡ words both.1 ++ rest = cc (first.taken.0, said) in
          let next : Some b ≡ Some both.1 = second.missed both.1 rest range.1 left in
          let same_a : a ≡ both.0 = cc same in
          let same_b : b ≡ both.1 = cc next in
          λ i. Some (same_a i, same_b i)

  -- a word, and then none that could be
  pub takes_one : {a : A} → TakesWord word R w0 (Some a) w1 → Takes words S w1 None w2
      → Takes (word_then word words) (AreIn R S) w0 None w2
  takes_one {a} first second = record { taken = tt; missed = missed }
    where
      missed : (both : A × B) (rest : List (List ℕ)) → AreIn R S both → w0 ≡ word_then word words both ++ rest
          → None ≡ Some both
      missed both rest range said =
          let left : w1 ≡ words both.1 ++ rest = cc (first.taken.0, said) in
          let no_more : None ≡ Some both.1 = second.missed both.1 rest range.1 left in
          absurd (cc no_more)

-- not even the first word, before others
pub takes_none : {A B : Type 0} (words : B → List (List ℕ)) (S : B → Type 0) {word : A → List ℕ} {R : A → Type 0}
    {w0 w1 : List (List ℕ)} → TakesWord word R w0 None w1 → Takes (word_then word words) (AreIn R S) w0 None w1
takes_none {A} {B} words S {word} {R} {w0} {w1} first = record { taken = tt; missed = missed }
  where
    missed : (both : A × B) (rest : List (List ℕ)) → AreIn R S both → w0 ≡ word_then word words both ++ rest
        → None ≡ Some both
    missed both rest range said =
        let none : None ≡ Some both.0 = first.missed both.0 (words both.1 ++ rest) range.0 said in
        absurd (cc none)

-- ---- caps of 64 bits

pub wider : (cap : Option ℕ) → IsSmallCapInRange cap → IsCapInRange cap
wider None range = tt
wider (Some c) range = omega (arith, range)

pub narrow_cap : (w0 w1 : List (List ℕ)) (cap : Option ℕ) → TakesWord cap_word IsCapInRange w0 (Some cap) w1
    → IsSmallCapInRange cap → TakesWord cap_word IsSmallCapInRange w0 (Some cap) w1
narrow_cap w0 w1 cap takes small =
    record { taken = (takes.taken.0, small); missed = λ v rest range said. takes.missed v rest (wider v range) said }

pub wide_cap : (w0 w1 : List (List ℕ)) (c : ℕ) → TakesWord cap_word IsCapInRange w0 (Some (Some c)) w1 → 2 ^ 64 ≤ c
    → TakesWord cap_word IsSmallCapInRange w0 None w1
wide_cap w0 w1 c takes wide = record { taken = tt; missed = missed }
  where
    missed : (v : Option ℕ) (rest : List (List ℕ)) → IsSmallCapInRange v → w0 ≡ cap_word v ∷ [] ++ rest → None ≡ Some v
    missed v rest range said =
        let same : Some (Some c) ≡ Some v = takes.missed v rest (wider v range) said in
        let is : v ≡ Some c = cc same in
        let low : c < 2 ^ 64 = subst IsSmallCapInRange is range in
        absurd (omega (arith, low, wide))

pub no_cap : (w0 w1 : List (List ℕ)) → TakesWord cap_word IsCapInRange w0 None w1
    → TakesWord cap_word IsSmallCapInRange w0 None w1
no_cap w0 w1 takes = record { taken = tt; missed = λ v rest range said. takes.missed v rest (wider v range) said }

-- ---- a message

abbrev pub flag_words : Bool → List (List ℕ)
flag_words flag = flag_word flag ∷ []

abbrev pub IsFlag : Bool → Type 0
IsFlag flag = Unit {0}

-- its columns from its latency on, and from its length on
abbrev pub latency_words : ℕ × Bool → List (List ℕ)
latency_words = word_then number_word flag_words

abbrev pub IsLatencyIn : ℕ × Bool → Type 0
IsLatencyIn = AreIn IsNumberInRange IsFlag

abbrev pub length_words : ℕ × (ℕ × Bool) → List (List ℕ)
length_words = word_then number_word latency_words

abbrev pub AreLengthIn : ℕ × (ℕ × Bool) → Type 0
AreLengthIn = AreIn IsLengthInRange IsLatencyIn

-- its moment, its origin, its recipient, its channel, its length, its latency and its flag
abbrev MessageColumns : Type 0
MessageColumns = ℕ × (ℕ × (ℕ × (ℕ × (ℕ × (ℕ × Bool)))))

abbrev message_words : MessageColumns → List (List ℕ)
message_words =
    word_then number_word (word_then number_word (word_then number_word (word_then number_word length_words)))

abbrev IsMessageIn : MessageColumns → Type 0
IsMessageIn = AreIn IsNumberInRange (AreIn IsNumberInRange (AreIn IsNumberInRange (AreIn IsNumberInRange AreLengthIn)))

-- ---- a command behind its first word, or a line about a network

-- what a line says begins with that word only if it is one of those
abbrev pub AreOfName : {V X : Type 0} → (V → List (List ℕ)) → (V → Type 0) → List ℕ → (X → V) → Type 0
AreOfName {V} {X} words_of InRange name of =
    (v : V) (ws rest : List (List ℕ)) → InRange v → name ∷ ws ≡ words_of v ++ rest → (x : X) × (v ≡ of x)

module _ {V X : Type 0} (words_of : V → List (List ℕ)) (InRange : V → Type 0) (name : List ℕ)
    (words : X → List (List ℕ)) (S : X → Type 0) (of : X → V) (spelled : (x : X) → words_of (of x) ≡ name ∷ words x)
    (into : (x : X) → InRange (of x) → S x) (back : (x : X) → S x → InRange (of x))
    (only : AreOfName words_of InRange name of) where
  module _ {w0 w1 : List (List ℕ)} (named : w0 ≡ name ∷ w1) where
    -- what stands behind the word, where one is said
    behind : (v : V) (rest : List (List ℕ)) → InRange v → w0 ≡ words_of v ++ rest
        → (x : X) × (v ≡ of x) × S x × (w1 ≡ words x ++ rest)
    behind v rest range said =
        let one = only v w1 rest range (sym named ∙ said) in
        let x = one.0 in
        let in_range = into x (subst InRange one.1 range) in
        let all : name ∷ w1 ≡ (name ∷ words x) ++ rest =
        sym named ∙ said ∙ ap (λ c. words_of c ++ rest) one.1 ∙ ap (λ ws. ws ++ rest) (spelled x) in
        (x, one.1, in_range, cc all)

    -- so one is taken where those words are, and none where they are not
    pub takes_command : {w2 : List (List ℕ)} (answer : Option X) → Takes words S w1 answer w2
        → Takes words_of InRange w0 (option_map of answer) w2
    takes_command {w2} answer takes = record { taken = taken answer takes.taken; missed = missed }
      where
        taken : (a : Option X) → IfSome a (λ x. (w1 ≡ words x ++ w2) × S x)
            → IfSome (option_map of a) (λ v. (w0 ≡ words_of v ++ w2) × InRange v)
        taken None is = tt
        taken (Some x) is =
            (named ∙ ap (λ ws. name ∷ ws) is.0 ∙ ap (λ ws. ws ++ w2) (sym (spelled x)), back x is.1)

        missed : (v : V) (rest : List (List ℕ)) → InRange v → w0 ≡ words_of v ++ rest → option_map of answer ≡ Some v
        missed v rest range said =
            let b = behind v rest range said in
            ap (option_map of) (takes.missed b.0 rest b.2 b.3) ∙ ap Some (sym b.1)

-- ---- a cap of a link, and the limits of a peer and of a link

abbrev pub cap_words : Option ℕ → List (List ℕ)
cap_words cap = cap_word cap ∷ []

-- two peers and a cap, of 128 bits or of 64
abbrev pub link_words : ℕ × (ℕ × Option ℕ) → List (List ℕ)
link_words = word_then number_word (word_then number_word cap_words)

abbrev pub IsLinkIn : (Option ℕ → Type 0) → ℕ × (ℕ × Option ℕ) → Type 0
IsLinkIn IsCapIn = AreIn IsNumberInRange (AreIn IsNumberInRange IsCapIn)

-- two caps of 64 bits
abbrev pub two_caps : Option ℕ × Option ℕ → List (List ℕ)
two_caps = word_then cap_word cap_words

abbrev pub AreCapsIn : Option ℕ × Option ℕ → Type 0
AreCapsIn = AreIn IsSmallCapInRange IsSmallCapInRange

abbrev pub limit_words : ℕ × (ℕ × (Option ℕ × Option ℕ)) → List (List ℕ)
limit_words = word_then number_word (word_then number_word two_caps)

abbrev pub IsLimitIn : ℕ × (ℕ × (Option ℕ × Option ℕ)) → Type 0
IsLimitIn = AreIn IsNumberInRange (AreIn IsNumberInRange AreCapsIn)

-- two words are told apart byte by byte
abbrev is_same_word : List ℕ → List ℕ → Bool
is_same_word [] [] = true
is_same_word [] (b ∷ bs) = false
is_same_word (a ∷ more) [] = false
is_same_word (a ∷ more) (b ∷ bs) = eqb a b && is_same_word more bs

same_word_itself : (w : List ℕ) → is_same_word w w ≡ true
same_word_itself [] = refl
same_word_itself (a ∷ more) = ap₂ (λ x y. x && y) (eq-eqb a a refl) (same_word_itself more)

-- so words that differ do not begin the same line
apart : {v w : List ℕ} {ws rest : List (List ℕ)} → is_same_word v w ≡ false → v ∷ ws ≡ w ∷ rest → ⊥
apart {v} {w} differ same =
    let one : v ≡ w = cc same in
    let is : is_same_word v w ≡ true = subst (λ x. is_same_word v x ≡ true) one (same_word_itself v) in
    absurd (cc (is, differ))

-- the words of a command that has one of these names begin with it alone
abbrev link_of : ℕ × (ℕ × Option ℕ) → Command
link_of x = commands.Link x.0 x.1.0 x.1.1

abbrev limit_of : ℕ × (ℕ × (Option ℕ × Option ℕ)) → Command
limit_of x = commands.Schedule (calls.Limit x.0 x.1.0 x.1.1.0 x.1.1.1)

abbrev limit_link_of : ℕ × (ℕ × (ℕ × Option ℕ)) → Command
limit_link_of x = commands.Schedule (calls.LimitLink x.0 x.1.0 x.1.1.0 x.1.1.1)

abbrev enqueue_of : MessageColumns → Command
enqueue_of m = commands.Schedule (calls.Enqueue m.0 m.1.0 m.1.1.0 m.1.1.1.0 m.1.1.1.1.0 m.1.1.1.1.1.0 m.1.1.1.1.1.1)

only_link : AreOfName command_words IsCommandInRange (codes "link") link_of
only_link (commands.Link origin recipient cap) ws rest range said = ((origin, (recipient, cap)), refl)
only_link (commands.Flow f) ws rest range said = absurd (apart refl said)
only_link (commands.Egress peer cap) ws rest range said = absurd (apart refl said)
only_link (commands.Ingress peer cap) ws rest range said = absurd (apart refl said)
only_link commands.Rates ws rest range said = absurd (apart refl said)
only_link (commands.Network (lines.Hop flow hop)) ws rest range said = absurd (apart refl said)
only_link (commands.Network (lines.Cap at cap)) ws rest range said = absurd (apart refl said)
only_link (commands.Network (lines.Weight flow weight)) ws rest range said = absurd (apart refl said)
only_link commands.Routes ws rest range said = absurd (apart refl said)
only_link (commands.Schedule (calls.Limit now peer egress ingress)) ws rest range said = absurd (apart refl said)
only_link (commands.Schedule (calls.LimitLink now origin recipient cap)) ws rest range said = absurd (apart refl said)
only_link (commands.Schedule (calls.Enqueue _ _ _ _ _ _ _)) ws rest range said = absurd (apart refl said)
only_link (commands.Schedule (calls.EnqueueAll now messages)) ws rest range said = absurd range
only_link (commands.Schedule (calls.Advance now)) ws rest range said = absurd (apart refl said)
only_link (commands.Schedule calls.Next) ws rest range said = absurd (apart refl said)

only_limit : AreOfName command_words IsCommandInRange (codes "limit") limit_of
only_limit (commands.Schedule (calls.Limit now peer egress ingress)) ws rest range said =
    ((now, (peer, (egress, ingress))), refl)
only_limit (commands.Flow f) ws rest range said = absurd (apart refl said)
only_limit (commands.Egress peer cap) ws rest range said = absurd (apart refl said)
only_limit (commands.Ingress peer cap) ws rest range said = absurd (apart refl said)
only_limit (commands.Link origin recipient cap) ws rest range said = absurd (apart refl said)
only_limit commands.Rates ws rest range said = absurd (apart refl said)
only_limit (commands.Network (lines.Hop flow hop)) ws rest range said = absurd (apart refl said)
only_limit (commands.Network (lines.Cap at cap)) ws rest range said = absurd (apart refl said)
only_limit (commands.Network (lines.Weight flow weight)) ws rest range said = absurd (apart refl said)
only_limit commands.Routes ws rest range said = absurd (apart refl said)
only_limit (commands.Schedule (calls.LimitLink now origin recipient cap)) ws rest range said = absurd (apart refl said)
only_limit (commands.Schedule (calls.Enqueue _ _ _ _ _ _ _)) ws rest range said = absurd (apart refl said)
only_limit (commands.Schedule (calls.EnqueueAll now messages)) ws rest range said = absurd range
only_limit (commands.Schedule (calls.Advance now)) ws rest range said = absurd (apart refl said)
only_limit (commands.Schedule calls.Next) ws rest range said = absurd (apart refl said)

only_limit_link : AreOfName command_words IsCommandInRange (codes "limitlink") limit_link_of
only_limit_link (commands.Schedule (calls.LimitLink now origin recipient cap)) ws rest range said =
    ((now, (origin, (recipient, cap))), refl)
only_limit_link (commands.Flow f) ws rest range said = absurd (apart refl said)
only_limit_link (commands.Egress peer cap) ws rest range said = absurd (apart refl said)
only_limit_link (commands.Ingress peer cap) ws rest range said = absurd (apart refl said)
only_limit_link (commands.Link origin recipient cap) ws rest range said = absurd (apart refl said)
only_limit_link commands.Rates ws rest range said = absurd (apart refl said)
only_limit_link (commands.Network (lines.Hop flow hop)) ws rest range said = absurd (apart refl said)
only_limit_link (commands.Network (lines.Cap at cap)) ws rest range said = absurd (apart refl said)
only_limit_link (commands.Network (lines.Weight flow weight)) ws rest range said = absurd (apart refl said)
only_limit_link commands.Routes ws rest range said = absurd (apart refl said)
only_limit_link (commands.Schedule (calls.Limit now peer egress ingress)) ws rest range said = absurd (apart refl said)
only_limit_link (commands.Schedule (calls.Enqueue _ _ _ _ _ _ _)) ws rest range said = absurd (apart refl said)
only_limit_link (commands.Schedule (calls.EnqueueAll now messages)) ws rest range said = absurd range
only_limit_link (commands.Schedule (calls.Advance now)) ws rest range said = absurd (apart refl said)
only_limit_link (commands.Schedule calls.Next) ws rest range said = absurd (apart refl said)

into_columns : (m : MessageColumns) → IsCommandInRange (enqueue_of m) → IsMessageIn m
into_columns m r = (r.0, (r.1, (r.2, (r.3, (r.4, (r.5, tt))))))

of_columns : (m : MessageColumns) → IsMessageIn m → IsCommandInRange (enqueue_of m)
of_columns m r = (r.0, r.1.0, r.1.1.0, r.1.1.1.0, r.1.1.1.1.0, r.1.1.1.1.1.0)

only_enqueue : AreOfName command_words IsCommandInRange (codes "enqueue") enqueue_of
only_enqueue (commands.Schedule (calls.Enqueue now origin recipient channel length latency should_deliver)) ws rest
    range said =
    ((now, (origin, (recipient, (channel, (length, (latency, should_deliver)))))), refl)
only_enqueue (commands.Flow f) ws rest range said = absurd (apart refl said)
only_enqueue (commands.Egress peer cap) ws rest range said = absurd (apart refl said)
only_enqueue (commands.Ingress peer cap) ws rest range said = absurd (apart refl said)
only_enqueue (commands.Link origin recipient cap) ws rest range said = absurd (apart refl said)
only_enqueue commands.Rates ws rest range said = absurd (apart refl said)
only_enqueue (commands.Network (lines.Hop flow hop)) ws rest range said = absurd (apart refl said)
only_enqueue (commands.Network (lines.Cap at cap)) ws rest range said = absurd (apart refl said)
only_enqueue (commands.Network (lines.Weight flow weight)) ws rest range said = absurd (apart refl said)
only_enqueue commands.Routes ws rest range said = absurd (apart refl said)
only_enqueue (commands.Schedule (calls.Limit now peer egress ingress)) ws rest range said = absurd (apart refl said)
only_enqueue (commands.Schedule (calls.LimitLink now origin recipient cap)) ws rest range said = absurd (apart refl said)
only_enqueue (commands.Schedule (calls.EnqueueAll now messages)) ws rest range said = absurd range
only_enqueue (commands.Schedule (calls.Advance now)) ws rest range said = absurd (apart refl said)
only_enqueue (commands.Schedule calls.Next) ws rest range said = absurd (apart refl said)

-- the columns behind the word are a command, and where some column is missing there is none
module _ {w1 w2 : List (List ℕ)} where
  pub takes_enqueue : (answer : Option MessageColumns) → Takes message_words IsMessageIn w1 answer w2
      → Takes command_words IsCommandInRange (codes "enqueue" ∷ w1) (option_map enqueue_of answer) w2
  takes_enqueue =
      takes_command command_words IsCommandInRange (codes "enqueue") message_words IsMessageIn enqueue_of (λ m. refl)
      into_columns of_columns only_enqueue refl

  pub takes_link : (answer : Option (ℕ × (ℕ × Option ℕ))) → Takes link_words (IsLinkIn IsCapInRange) w1 answer w2
      → Takes command_words IsCommandInRange (codes "link" ∷ w1) (option_map link_of answer) w2
  takes_link =
      takes_command command_words IsCommandInRange (codes "link") link_words (IsLinkIn IsCapInRange) link_of (λ x. refl)
      (λ x r. (r.0, (r.1, r.2))) (λ x r. (r.0, r.1.0, r.1.1)) only_link refl

  pub takes_limit : (answer : Option (ℕ × (ℕ × (Option ℕ × Option ℕ)))) → Takes limit_words IsLimitIn w1 answer w2
      → Takes command_words IsCommandInRange (codes "limit" ∷ w1) (option_map limit_of answer) w2
  takes_limit =
      takes_command command_words IsCommandInRange (codes "limit") limit_words IsLimitIn limit_of (λ x. refl)
      (λ x r. (r.0, (r.1, (r.2, r.3)))) (λ x r. (r.0, r.1.0, r.1.1.0, r.1.1.1)) only_limit refl

  pub takes_limit_link : (answer : Option (ℕ × (ℕ × (ℕ × Option ℕ))))
      → Takes (word_then number_word link_words) (AreIn IsNumberInRange (IsLinkIn IsSmallCapInRange)) w1 answer w2
      → Takes command_words IsCommandInRange (codes "limitlink" ∷ w1) (option_map limit_link_of answer) w2
  takes_limit_link =
      takes_command command_words IsCommandInRange (codes "limitlink") (word_then number_word link_words)
      (AreIn IsNumberInRange (IsLinkIn IsSmallCapInRange)) limit_link_of (λ x. refl) (λ x r. (r.0, (r.1, (r.2, r.3))))
      (λ x r. (r.0, r.1.0, r.1.1.0, r.1.1.1)) only_limit_link refl

-- ---- a hop, and a weight

abbrev pub number_words : ℕ → List (List ℕ)
number_words n = number_word n ∷ []

abbrev pub weight_words : NonZeroU64 → List (List ℕ)
weight_words weight = weight_word weight ∷ []

abbrev pub hop_words : ℕ × ℕ → List (List ℕ)
hop_words = word_then number_word number_words

abbrev pub IsHopIn : ℕ × ℕ → Type 0
IsHopIn = AreIn IsNumberInRange IsNumberInRange

abbrev pub weighing_words : ℕ × NonZeroU64 → List (List ℕ)
weighing_words = word_then number_word weight_words

abbrev pub IsWeighingIn : ℕ × NonZeroU64 → Type 0
IsWeighingIn = AreIn IsNumberInRange IsWeightInRange

abbrev hop_of : ℕ × ℕ → NetworkLine
hop_of x = lines.Hop x.0 x.1

abbrev weighing_of : ℕ × NonZeroU64 → NetworkLine
weighing_of x = lines.Weight x.0 x.1

only_hop : AreOfName network_words IsNetworkLineInRange (codes "hop") hop_of
only_hop (lines.Hop flow link) ws rest range said = ((flow, link), refl)
only_hop (lines.Cap link cap) ws rest range said = absurd (apart refl said)
only_hop (lines.Weight flow weight) ws rest range said = absurd (apart refl said)

only_weight : AreOfName network_words IsNetworkLineInRange (codes "weight") weighing_of
only_weight (lines.Weight flow weight) ws rest range said = ((flow, weight), refl)
only_weight (lines.Hop flow link) ws rest range said = absurd (apart refl said)
only_weight (lines.Cap link cap) ws rest range said = absurd (apart refl said)

module _ {w0 w1 w2 : List (List ℕ)} where
  pub takes_hop : w0 ≡ codes "hop" ∷ w1 → (answer : Option (ℕ × ℕ)) → Takes hop_words IsHopIn w1 answer w2
      → Takes network_words IsNetworkLineInRange w0 (option_map hop_of answer) w2
  takes_hop named =
      takes_command network_words IsNetworkLineInRange (codes "hop") hop_words IsHopIn hop_of (λ x. refl)
      (λ x r. (r.0, r.1)) (λ x r. (r.0, r.1)) only_hop named

  pub takes_weighing : w0 ≡ codes "weight" ∷ w1 → (answer : Option (ℕ × NonZeroU64))
      → Takes weighing_words IsWeighingIn w1 answer w2
      → Takes network_words IsNetworkLineInRange w0 (option_map weighing_of answer) w2
  takes_weighing named =
      takes_command network_words IsNetworkLineInRange (codes "weight") weighing_words IsWeighingIn weighing_of
      (λ x. refl) (λ x r. (r.0, r.1)) (λ x r. (r.0, r.1)) only_weight named
