-- What a script prints.
use Rattle.std.specs.Prelude.{ℕ, List, [], ◌∷◌, ◌++◌, length, Option, Some, None, codes, decimal}
use Rattle.std.specs.List.{flat_map}
use Rattle.fairness.specs.declared.bandwidth.Rate.{Rate}
use Rattle.fairness.specs.declared.bandwidth.Rate.TheVariants.{Unlimited, Finite}
use Rattle.fairness.specs.declared.error.Error.{Error}
use Rattle.fairness.specs.Refusals.ErrorTexts.{refusal_number, refusal_text}
use Rattle.link_scripts.specs.declared.linkrun.answer.Answer.{Answer}
use Rattle.link_scripts.specs.declared.linkrun.answer.Answer.TheVariants as answers
use Rattle.link_scheduler.specs.Calls.Replay.{reply_of}
use Rattle.link_simulation.specs.Simulation.World.{Completed}
use Rattle.link_simulation.specs.Simulation.Replies.{Reply, reply_done, reply_next, reply_refused}

-- a rate is `unlimited`, or its numerator, a slash and its denominator, in lowest terms
abbrev pub rate_word : Rate → List ℕ
rate_word Unlimited = codes "unlimited"
rate_word (Finite ratio) = decimal ratio.numerator ++ codes "/" ++ decimal ratio.denominator

-- the line of an id and its rate
abbrev pub rate_line : ℕ → Rate → List ℕ
rate_line id rate = codes "rate " ++ decimal id ++ codes " " ++ rate_word rate ++ 10 ∷ []

-- a line for each entry, in order
abbrev pub rates_text : List (ℕ × Rate) → List ℕ
rates_text entries = flat_map (λ entry. rate_line entry.0 entry.1) entries

-- a moment, or `-` where there is none
abbrev pub moment_word : Option ℕ → List ℕ
moment_word None = codes "-"
moment_word (Some moment) = decimal moment

-- the line of a completion: its origin, its recipient, its channel, its length, and when it arrives
abbrev pub done_line : Completed ℕ → List ℕ
done_line c =
    codes "done " ++ decimal c.origin ++ codes " " ++ decimal c.recipient ++ codes " " ++ decimal c.channel
    ++ codes " " ++ decimal (length c.bytes) ++ codes " " ++ moment_word c.deliver_at ++ 10 ∷ []

-- a line for each completion, in order
abbrev pub done_text : List (Completed ℕ) → List ℕ
done_text completions = flat_map done_line completions

-- the line of the next event
abbrev pub next_line : Option ℕ → List ℕ
next_line moment = codes "next " ++ moment_word moment ++ 10 ∷ []

-- the line of a refusal: its number, and its text
abbrev pub refusal_line : Error → List ℕ
refusal_line why = codes "refused " ++ decimal (refusal_number why) ++ codes " " ++ refusal_text why ++ 10 ∷ []

-- the lines of a reply: one for each completion, the next event, or the refusal
abbrev pub reply_text : Reply ℕ → List ℕ
reply_text (reply_done completions) = done_text completions
reply_text (reply_next moment) = next_line moment
reply_text (reply_refused why) = refusal_line why

-- what is printed of an answer
abbrev pub answer_text : Answer → List ℕ
answer_text answers.Nothing = []
answer_text (answers.Rates rates) = rates_text rates.entries
answer_text (answers.Routes rates) = rates_text rates.items
answer_text (answers.Reply reply) = reply_text (reply_of reply)
