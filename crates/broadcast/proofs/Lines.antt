-- What is printed line by line.
use Rattle.std.proofs.Common.{◌≡◌, ℕ, List, [], ◌∷◌, ◌++◌, Option, None, Some, sym, ap, ◌∙◌, subst}
use Rattle.std.proofs.Common.{append_assoc, append-nil, codes, decimal, length, refl}
use Rattle.std.specs.Io.KnownBytes.{Appends}
use Rattle.std.proofs.lemmas.List.Concat.{flat_map-append}
use Rattle.link_pairs.specs.declared.completion.Completion.{Completion}
use Rattle.broadcast.specs.Lines.{moment_word, done_line, done_text}

-- one text after another
Appends-append : (before between after : Option (List ℕ)) (first second : List ℕ) → Appends before between first
    → Appends between after second → Appends before after (first ++ second)
Appends-append None between after first second h k = tt
Appends-append (Some xs) None after first second h k = absurd h
Appends-append (Some xs) (Some ys) None first second h k = absurd k
Appends-append (Some xs) (Some ys) (Some zs) first second h k =
    k ∙ ap (λ front. front ++ second) h ∙ append_assoc xs first second

-- what is printed of a completion with that moment, where its message has that length
abbrev pub done_words : Completion ℕ (List ℕ) → ℕ → List ℕ → List ℕ
done_words c n moment =
    codes "done "
    ++ (decimal c.origin
    ++ (codes " "
    ++ (decimal c.recipient
    ++ (codes " "
    ++ (decimal c.channel ++ (codes " " ++ (decimal n ++ (codes " " ++ (moment ++ 10 ∷ [])))))))))

-- words with spaces between them, put together from the last one on
nest_words : (d o r h l m end sp : List ℕ)
    → d ++ o ++ sp ++ r ++ sp ++ h ++ sp ++ l ++ sp ++ m ++ end
    ≡ d ++ (o ++ (sp ++ (r ++ (sp ++ (h ++ (sp ++ (l ++ (sp ++ (m ++ end)))))))))
nest_words d o r h l m end sp = simp append_assoc refl

-- that is the line of the completion
pub done_whole : (before after : Option (List ℕ)) (c : Completion ℕ (List ℕ)) (n : ℕ) (moment : Option ℕ) → n ≡ length c.message
    → c.deliver_at ≡ moment → Appends before after (done_words c n (moment_word moment))
    → Appends before after (done_line c)
done_whole before after c n moment is at h =
    let told : done_words c n (moment_word moment) ≡ done_words c (length c.message) (moment_word c.deliver_at) =
    ap (λ k. done_words c k (moment_word moment)) is
    ∙ ap (λ m. done_words c (length c.message) (moment_word m)) (sym at) in
    let nested =
    nest_words (codes "done ") (decimal c.origin) (decimal c.recipient) (decimal c.channel)
    (decimal (length c.message)) (moment_word c.deliver_at) (10 ∷ []) (codes " ") in
    subst (Appends before after) (told ∙ sym nested) h

-- the line of the next completion, after those so far
pub next_done : (before between after : Option (List ℕ)) (done more : List (Completion ℕ (List ℕ))) (c : Completion ℕ (List ℕ))
    → more ≡ done ++ c ∷ [] → Appends before between (done_text done) → Appends between after (done_line c)
    → Appends before after (done_text more)
next_done before between after done more c is h k =
    let text =
    ap done_text is
    ∙ flat_map-append done_line done (c ∷ [])
    ∙ ap (λ last. done_text done ++ last) (append-nil (done_line c)) in
    subst (Appends before after) (sym text) (Appends-append before between after _ _ h k)
