-- The language of scripts: the line of each command. A line and a word are lists of bytes.
use Rattle.std.specs.Prelude.{◌≡◌, ℕ, ◌^◌, ◌<◌, ◌≤◌, Bool, true, false, List, [], ◌∷◌, ◌++◌, Option}
use Rattle.std.specs.Prelude.{Some, None, IfSome, codes, decimal}
use Rattle.std.specs.Int.NonZero.{non_zero_u64_get}
use Rattle.std.specs.List.{join_with_byte}
use Rattle.std.specs.declared.num.NonZeroU64.{NonZeroU64}
use Rattle.fairness.specs.declared.bandwidth.Flow.{Flow}
use Rattle.link_scheduler.specs.declared.call.Call.{Call}
use Rattle.link_scheduler.specs.declared.call.Call.TheVariants as calls
use Rattle.link_scripts.specs.declared.linkrun.command.Command.{Command}
use Rattle.link_scripts.specs.declared.linkrun.command.Command.TheVariants as commands
use Rattle.link_scripts.specs.declared.linkrun.command.NetworkLine.{NetworkLine}
use Rattle.link_scripts.specs.declared.linkrun.command.NetworkLine.TheVariants as lines

-- a number is its decimal digits, with no sign, and with no zero in front of another digit
abbrev pub number_word : ℕ → List ℕ
number_word n = decimal n

-- a cap is a number, and no cap is `-`
abbrev pub cap_word : Option ℕ → List ℕ
cap_word None = codes "-"
cap_word (Some cap) = number_word cap

-- a weight is a number, and never 0
abbrev pub weight_word : NonZeroU64 → List ℕ
weight_word weight = number_word (non_zero_u64_get weight)

-- a flag is `0` or `1`
abbrev pub flag_word : Bool → List ℕ
flag_word false = codes "0"
flag_word true = codes "1"

-- a flow: its id, its origin, its recipient, and whether it is delivered
abbrev pub flow_words : Flow ℕ → List (List ℕ)
flow_words f = number_word f.id ∷ number_word f.origin ∷ number_word f.recipient ∷ flag_word f.delivered ∷ []

-- the words of a call of the scheduler; its moment comes first, and a message is said by its length. No line says a
-- list of messages, so that it has no words.
abbrev pub call_words : Call ℕ ℕ → List (List ℕ)
call_words (calls.Limit now peer egress ingress) =
    codes "limit" ∷ number_word now ∷ number_word peer ∷ cap_word egress ∷ cap_word ingress ∷ []
call_words (calls.LimitLink now origin recipient cap) =
    codes "limitlink" ∷ number_word now ∷ number_word origin ∷ number_word recipient ∷ cap_word cap ∷ []
call_words (calls.Enqueue now origin recipient channel length latency should_deliver) =
    codes "enqueue" ∷ number_word now ∷ number_word origin ∷ number_word recipient ∷ number_word channel
    ∷ number_word length ∷ number_word latency ∷ flag_word should_deliver ∷ []
call_words (calls.EnqueueAll now messages) = []
call_words (calls.Advance now) = codes "advance" ∷ number_word now ∷ []
call_words calls.Next = codes "next" ∷ []

-- the words of a line about a network: a flow and a link of its route, a link and its cap, a flow and its weight
abbrev pub network_words : NetworkLine → List (List ℕ)
network_words (lines.Hop flow link) = codes "hop" ∷ number_word flow ∷ number_word link ∷ []
network_words (lines.Cap link cap) = codes "cap" ∷ number_word link ∷ cap_word cap ∷ []
network_words (lines.Weight flow weight) = codes "weight" ∷ number_word flow ∷ weight_word weight ∷ []

-- the words of a command
abbrev pub command_words : Command → List (List ℕ)
command_words (commands.Flow flow) = codes "flow" ∷ flow_words flow
command_words (commands.Egress peer cap) = codes "egress" ∷ number_word peer ∷ cap_word cap ∷ []
command_words (commands.Ingress peer cap) = codes "ingress" ∷ number_word peer ∷ cap_word cap ∷ []
command_words (commands.Link origin recipient cap) =
    codes "link" ∷ number_word origin ∷ number_word recipient ∷ cap_word cap ∷ []
command_words commands.Rates = codes "rates" ∷ []
command_words (commands.Network line) = network_words line
command_words commands.Routes = codes "routes" ∷ []
command_words (commands.Schedule call) = call_words call

-- the line of a command: its words, with one space between each two
abbrev pub line_of : Command → List ℕ
line_of command = join_with_byte 32 (command_words command)

-- ---- the ranges of the columns

-- ids, peers, links, channels, moments and latencies have 64 bits
abbrev pub IsNumberInRange : ℕ → Type 0
IsNumberInRange n = n < 2 ^ 64

-- a cap has 128 bits
abbrev pub IsCapInRange : Option ℕ → Type 0
IsCapInRange cap = IfSome cap (λ c. c < 2 ^ 128)

-- a cap of the scheduler has 64 bits
abbrev pub IsSmallCapInRange : Option ℕ → Type 0
IsSmallCapInRange cap = IfSome cap (λ c. c < 2 ^ 64)

-- a message has at most 67108864 bytes
abbrev pub IsLengthInRange : ℕ → Type 0
IsLengthInRange n = n ≤ 67108864

-- a weight has 64 bits
abbrev pub IsWeightInRange : NonZeroU64 → Type 0
IsWeightInRange weight = IsNumberInRange (non_zero_u64_get weight)

-- each number of a flow
abbrev pub IsFlowInRange : Flow ℕ → Type 0
IsFlowInRange f = IsNumberInRange f.id × IsNumberInRange f.origin × IsNumberInRange f.recipient

-- each number of a call; no line says a list of messages
abbrev pub IsCallOfScriptInRange : Call ℕ ℕ → Type 0
IsCallOfScriptInRange (calls.Limit now peer egress ingress) =
    IsNumberInRange now × IsNumberInRange peer × IsSmallCapInRange egress × IsSmallCapInRange ingress
IsCallOfScriptInRange (calls.LimitLink now origin recipient cap) =
    IsNumberInRange now × IsNumberInRange origin × IsNumberInRange recipient × IsSmallCapInRange cap
IsCallOfScriptInRange (calls.Enqueue now origin recipient channel length latency should_deliver) =
    IsNumberInRange now × IsNumberInRange origin × IsNumberInRange recipient × IsNumberInRange channel
    × IsLengthInRange length × IsNumberInRange latency
IsCallOfScriptInRange (calls.EnqueueAll now messages) = ⊥
IsCallOfScriptInRange (calls.Advance now) = IsNumberInRange now
IsCallOfScriptInRange calls.Next = Unit {0}

-- each number of a line about a network
abbrev pub IsNetworkLineInRange : NetworkLine → Type 0
IsNetworkLineInRange (lines.Hop flow link) = IsNumberInRange flow × IsNumberInRange link
IsNetworkLineInRange (lines.Cap link cap) = IsNumberInRange link × IsCapInRange cap
IsNetworkLineInRange (lines.Weight flow weight) = IsNumberInRange flow × IsWeightInRange weight

-- each number of a command
abbrev pub IsCommandInRange : Command → Type 0
IsCommandInRange (commands.Flow flow) = IsFlowInRange flow
IsCommandInRange (commands.Egress peer cap) = IsNumberInRange peer × IsCapInRange cap
IsCommandInRange (commands.Ingress peer cap) = IsNumberInRange peer × IsCapInRange cap
IsCommandInRange (commands.Link origin recipient cap) = IsNumberInRange origin × IsNumberInRange recipient
    × IsCapInRange cap
IsCommandInRange commands.Rates = Unit {0}
IsCommandInRange (commands.Network line) = IsNetworkLineInRange line
IsCommandInRange commands.Routes = Unit {0}
IsCommandInRange (commands.Schedule call) = IsCallOfScriptInRange call

-- ---- words, taken one by one

-- the words of a value were taken from the front, and there is no answer where no value in range stands there
pub record Takes {V : Type 0} (words_of : V → List (List ℕ)) (InRange : V → Type 0) (before : List (List ℕ))
    (answer : Option V) (after : List (List ℕ)) : Type 0 where
  pub taken : IfSome answer (λ v. (before ≡ words_of v ++ after) × InRange v)
  pub missed : (v : V) (rest : List (List ℕ)) → InRange v → before ≡ words_of v ++ rest → answer ≡ Some v
