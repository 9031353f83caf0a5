-- What is printed line by line.
use Rattle.link_scripts.proofs.Common.{◌≡◌, ℕ, List, [], ◌∷◌, ◌++◌, Option, None, Some, map, refl, sym, ap, ◌∙◌, subst}
use Rattle.link_scripts.proofs.Common.{append_assoc, append-nil, codes, length, Appends, deref_pair, map-append}
use Rattle.link_scripts.proofs.Common.{flat_map-append, Rate, completed_of, Completed, rates_text, done_line, done_text}
use Rattle.std.proofs.Common.{decimal}
use denote.Ref.{Bor}
use Rattle.link_pairs.specs.declared.completion.Completion.{Completion}
use Rattle.link_scripts.specs.Answer.{rate_line, moment_word}

-- one text after another
pub Appends-append : (before between after : Option (List ℕ)) (first second : List ℕ) → Appends before between first
    → Appends between after second → Appends before after (first ++ second)
Appends-append None between after first second h k = tt
Appends-append (Some xs) None after first second h k = absurd h
Appends-append (Some xs) (Some ys) None first second h k = absurd k
Appends-append (Some xs) (Some ys) (Some zs) first second h k =
    k ∙ ap (λ front. front ++ second) h ∙ append_assoc xs first second

-- the text of one entry more
rates_text-push : (entries : List (ℕ × Rate)) (id : ℕ) (rate : Rate)
    → rates_text (entries ++ (id, rate) ∷ []) ≡ rates_text entries ++ rate_line id rate
rates_text-push entries id rate =
    flat_map-append (λ entry. rate_line entry.0 entry.1) entries ((id, rate) ∷ [])
    ∙ ap (λ last. rates_text entries ++ last) (append-nil (rate_line id rate))

-- the line of the next entry, after those so far
pub next_rate : (before between after : Option (List ℕ)) (done : List (Bor ℕ × Bor Rate)) (id : Bor ℕ) (rate : Bor Rate)
    → Appends before between (rates_text (map deref_pair done)) → Appends between after (rate_line id.now rate.now)
    → Appends before after (rates_text (map deref_pair (done ++ (id, rate) ∷ [])))
next_rate before between after done id rate h k =
    let text =
    ap rates_text (map-append deref_pair done ((id, rate) ∷ []))
    ∙ rates_text-push (map deref_pair done) id.now rate.now in
    subst (Appends before after) (sym text) (Appends-append before between after _ _ h k)

-- words with spaces between them, joined from the last one
joined_from_end : (d o r h l m end sp : List ℕ)
    → d ++ (sp ++ o ++ (sp ++ r ++ (sp ++ h ++ (sp ++ l ++ (sp ++ m ++ end)))))
    ≡ (d ++ sp) ++ o ++ sp ++ r ++ sp ++ h ++ sp ++ l ++ sp ++ m ++ end
joined_from_end d o r h l m end sp = simp append_assoc refl

-- the line of a completion, put together from its end
pub done_from_end : (c : Completion ℕ (List ℕ)) (n : ℕ) (end at sized on to from line : List ℕ) → n ≡ length c.message
    → end ≡ 10 ∷ [] → at ≡ codes " " ++ moment_word c.deliver_at ++ end → sized ≡ codes " " ++ decimal n ++ at
    → on ≡ codes " " ++ decimal c.channel ++ sized → to ≡ codes " " ++ decimal c.recipient ++ on
    → from ≡ codes " " ++ decimal c.origin ++ to → line ≡ codes "done" ++ from → line ≡ done_line (completed_of c)
done_from_end c n end at sized on to from line long is_end is_at is_sized is_on is_to is_from is =
    rw (is, is_from, is_to, is_on, is_sized, is_at, is_end, long)
    (joined_from_end (codes "done") (decimal c.origin) (decimal c.recipient) (decimal c.channel)
    (decimal (length c.message)) (moment_word c.deliver_at) (10 ∷ []) (codes " "))

-- the text of one completion more
done_text-push : (completions : List (Completed ℕ)) (c : Completed ℕ)
    → done_text (completions ++ c ∷ []) ≡ done_text completions ++ done_line c
done_text-push completions c =
    flat_map-append done_line completions (c ∷ [])
    ∙ ap (λ last. done_text completions ++ last) (append-nil (done_line c))

-- the line of the next completion, after those so far
pub next_done : (before between after : Option (List ℕ)) (done more : List (Completion ℕ (List ℕ))) (c : Completion ℕ (List ℕ))
    → more ≡ done ++ c ∷ [] → Appends before between (done_text (map completed_of done))
    → Appends between after (done_line (completed_of c))
    → Appends before after (done_text (map completed_of more))
next_done before between after done more c is h k =
    let text =
    ap (λ l. done_text (map completed_of l)) is ∙ ap done_text (map-append completed_of done (c ∷ []))
    ∙ done_text-push (map completed_of done) (completed_of c) in
    subst (Appends before after) (sym text) (Appends-append before between after _ _ h k)
