-- What a script has said so far.
use Rattle.std.specs.Prelude.{◌≡◌, ◌⊎◌, ℕ, ◌==◌, ◌&&◌, List, [], ◌∷◌, ◌++◌, Option, if◌then◌else◌}
use Rattle.std.specs.Ordering.{nat_cmp}
use Rattle.std.specs.BTreeMap.{get}
use Rattle.fairness.specs.declared.bandwidth.Flow.{Flow}
use Rattle.fairness.specs.declared.error.Error.{Error}
use Rattle.fairness.specs.declared.error.Error.TheVariants.{OutOfMemory, NumberTooLarge}
use Rattle.link_scripts.specs.declared.linkrun.answer.Answer.{Answer}
use Rattle.link_scripts.specs.declared.linkrun.answer.Answer.TheVariants as answers
use Rattle.link_scripts.specs.declared.linkrun.command.Command.{Command}
use Rattle.link_scripts.specs.declared.linkrun.command.Command.TheVariants as commands
use Rattle.link_scripts.specs.declared.linkrun.session.Session.{Session}
use Rattle.fairness.specs.Sides.Caps.{Caps}
use Rattle.link_pairs.specs.Pairs.Entries.{pair_cmp}
use Rattle.fairness.specs.Fairness.UnderCaps.{IsFairById}
use Rattle.link_scripts.specs.Schedule.{world_call, AnswersCall}
use Rattle.link_scheduler.specs.Calls.Replay.{MayRefuseCall}
use Rattle.link_scheduler.specs.Calls.State.{planned_of}
use Rattle.fairness.specs.Refusals.TooLarge.{AreTooLarge}
use Rattle.std.specs.Int.NonZero.{non_zero_u64_get}
use Rattle.fair_routes.specs.Network.Told.{IsToldTheSame, IsToldLink, IsToldCap, IsToldWeight, AreRatesTold, MayRefuseTold}
use Rattle.fair_routes.specs.declared.routes.network.Network.{Network}
use Rattle.link_scripts.specs.declared.linkrun.command.NetworkLine.{NetworkLine}
use Rattle.link_scripts.specs.declared.linkrun.command.NetworkLine.TheVariants as lines

-- the cap on what a peer sends
abbrev pub said_egress : Session → ℕ → Option ℕ
said_egress s peer = get nat_cmp s.egress peer

-- the cap on what it receives
abbrev pub said_ingress : Session → ℕ → Option ℕ
said_ingress s peer = get nat_cmp s.ingress peer

-- the cap on what goes from one peer to another
abbrev pub said_link : Session → ℕ → ℕ → Option ℕ
said_link s origin recipient = get (pair_cmp nat_cmp) s.links (origin, recipient)

-- the caps that are said
abbrev pub said_caps : Session → Caps ℕ
said_caps s = record { egress = said_egress s; ingress = said_ingress s; link = said_link s }

-- the flows are those, in order, and the caps are these
pub record Says (s : Session) (flows : List (Flow ℕ)) (caps : Caps ℕ) : Type 0 where
  pub flows_are : s.flows.items ≡ flows
  pub egress_is : (peer : ℕ) → said_egress s peer ≡ caps.egress peer
  pub ingress_is : (peer : ℕ) → said_ingress s peer ≡ caps.ingress peer
  pub link_is : (origin recipient : ℕ) → said_link s origin recipient ≡ caps.link origin recipient

-- the caps with that of one peer set
abbrev pub with_said_cap : (ℕ → Option ℕ) → ℕ → Option ℕ → ℕ → Option ℕ
with_said_cap caps peer cap p = if p == peer then cap else caps p

-- the caps of ordered pairs with that of one pair set
abbrev pub with_said_link : (ℕ → ℕ → Option ℕ) → ℕ → ℕ → Option ℕ → ℕ → ℕ → Option ℕ
with_said_link caps origin recipient cap p q = if (p == origin) && (q == recipient) then cap else caps p q

-- the same is said of the network of links
abbrev pub KeepsNetwork : Session → Session → Type 0
KeepsNetwork old new = IsToldTheSame old.network new.network

-- the same is said
abbrev pub SaysSame : Session → Session → Type 0
SaysSame old new = Says new old.flows.items (said_caps old) × KeepsNetwork old new

-- the scheduler is as it was
abbrev pub KeepsScheduler : Session → Session → Type 0
KeepsScheduler old new = new.scheduler ≡ old.scheduler

-- what the scheduler knows and plans is as it was
abbrev pub KeepsPlanned : Session → Session → Type 0
KeepsPlanned old new = planned_of new.scheduler ≡ planned_of old.scheduler

-- what a network is told by a line: one more link of a flow, or another cap of a link, or another weight of a flow
abbrev pub IsToldLine : NetworkLine → Network → Network → Type 0
IsToldLine (lines.Hop flow link) old new = IsToldLink flow link old new
IsToldLine (lines.Cap link cap) old new = IsToldCap link cap old new
IsToldLine (lines.Weight flow weight) old new = IsToldWeight flow (non_zero_u64_get weight) old new

-- what is said after a command: its flow at the end, or its cap in the place of that of the peer or of the pair, or
-- what its line tells the network
abbrev pub SaysAfter : Command → Session → Session → Type 0
SaysAfter (commands.Flow flow) old new =
    Says new (old.flows.items ++ flow ∷ []) (said_caps old) × KeepsNetwork old new
SaysAfter (commands.Egress peer cap) old new =
    Says new old.flows.items (record (said_caps old) { egress = with_said_cap (said_egress old) peer cap })
    × KeepsNetwork old new
SaysAfter (commands.Ingress peer cap) old new =
    Says new old.flows.items (record (said_caps old) { ingress = with_said_cap (said_ingress old) peer cap })
    × KeepsNetwork old new
SaysAfter (commands.Link origin recipient cap) old new =
    Says new old.flows.items (record (said_caps old) { link = with_said_link (said_link old) origin recipient cap })
    × KeepsNetwork old new
SaysAfter commands.Rates old new = SaysSame old new
SaysAfter (commands.Network line) old new =
    Says new old.flows.items (said_caps old) × IsToldLine line old.network new.network
SaysAfter commands.Routes old new = SaysSame old new
SaysAfter (commands.Schedule call) old new = SaysSame old new

-- ---- what a command answers

-- those are the rates of the flows under the caps
abbrev pub AnswersRates : Session → Answer → Type 0
AnswersRates s (answers.Rates rates) = IsFairById nat_cmp (said_caps s) s.flows.items (get nat_cmp rates)
AnswersRates s (answers.Routes rates) = ⊥
AnswersRates s answers.Nothing = ⊥
AnswersRates s (answers.Reply reply) = ⊥

-- those are the rates of the flows over routes
abbrev pub AnswersRoutes : Session → Answer → Type 0
AnswersRoutes s (answers.Routes rates) = AreRatesTold s.network rates.items
AnswersRoutes s (answers.Rates rates) = ⊥
AnswersRoutes s answers.Nothing = ⊥
AnswersRoutes s (answers.Reply reply) = ⊥

-- a command for rates answers those, a call what the scheduler answers, which it alone may change; any other says
-- nothing
abbrev pub AnswersTo : Command → Session → Answer → Session → Type 0
AnswersTo commands.Rates old answer new = AnswersRates old answer × KeepsScheduler old new
AnswersTo commands.Routes old answer new = AnswersRoutes old answer × KeepsScheduler old new
AnswersTo (commands.Schedule call) old answer new = AnswersCall call old.scheduler answer new.scheduler
AnswersTo (commands.Flow flow) old answer new = (answer ≡ answers.Nothing) × KeepsScheduler old new
AnswersTo (commands.Egress peer cap) old answer new = (answer ≡ answers.Nothing) × KeepsScheduler old new
AnswersTo (commands.Ingress peer cap) old answer new = (answer ≡ answers.Nothing) × KeepsScheduler old new
AnswersTo (commands.Link origin recipient cap) old answer new = (answer ≡ answers.Nothing) × KeepsScheduler old new
AnswersTo (commands.Network line) old answer new = (answer ≡ answers.Nothing) × KeepsScheduler old new

-- ---- when a command is refused

-- a command for rates is refused for want of memory, or for a number where they are too large, a call as the scheduler
-- refuses it, and any other only for want of memory
abbrev pub MayRefuseCommand : Command → Session → Error → Type 0
MayRefuseCommand commands.Rates s why =
    (why ≡ OutOfMemory) ⊎ ((why ≡ NumberTooLarge) × AreTooLarge nat_cmp (said_caps s) s.flows.items)
MayRefuseCommand commands.Routes s why = MayRefuseTold s.network why
MayRefuseCommand (commands.Schedule call) s why = MayRefuseCall s.scheduler (world_call call) why
MayRefuseCommand (commands.Flow flow) s why = why ≡ OutOfMemory
MayRefuseCommand (commands.Egress peer cap) s why = why ≡ OutOfMemory
MayRefuseCommand (commands.Ingress peer cap) s why = why ≡ OutOfMemory
MayRefuseCommand (commands.Link origin recipient cap) s why = why ≡ OutOfMemory
MayRefuseCommand (commands.Network line) s why = why ≡ OutOfMemory
