-- The lines that are printed.
use Rattle.std.specs.Prelude.{ℕ, List, [], ◌∷◌, ◌++◌, length, Option, Some, None, codes, decimal}
use Rattle.std.specs.List.{flat_map}
use Rattle.link_pairs.specs.declared.completion.Completion.{Completion}

-- a moment, or `-` where there is none
abbrev pub moment_word : Option ℕ → List ℕ
moment_word None = codes "-"
moment_word (Some moment) = decimal moment

-- the line of a completion: its origin, its recipient, its channel, its length, and when it arrives
abbrev pub done_line : Completion ℕ (List ℕ) → List ℕ
done_line c =
    codes "done " ++ decimal c.origin ++ codes " " ++ decimal c.recipient ++ codes " " ++ decimal c.channel
    ++ codes " " ++ decimal (length c.message) ++ codes " " ++ moment_word c.deliver_at ++ 10 ∷ []

-- a line for each completion, in order
abbrev pub done_text : List (Completion ℕ (List ℕ)) → List ℕ
done_text completions = flat_map done_line completions

-- the line of the next event
abbrev pub next_line : Option ℕ → List ℕ
next_line moment = codes "next " ++ moment_word moment ++ 10 ∷ []
