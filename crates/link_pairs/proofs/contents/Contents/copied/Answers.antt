use Rattle.std.proofs.Common.{◌≡◌, ℕ, ◌+◌, ◌-◌, List, ◌++◌, length, length-append, take, replicate, ap, sym, ◌∙◌, subst, arith}
use Rattle.std.proofs.lemmas.List.{length-replicate, take_all}
use Rattle.link_pairs.proofs.contents.Contents.copied.Goals as goal

-- what is written behind the bytes that were given is as long as what was to stand there
filled : (given items whole : List ℕ) (more len had : ℕ) → items ≡ given → had ≡ length given
    → given ++ replicate more 0 ≡ whole → len ≡ length whole → take len items ++ replicate (len - had) 0 ≡ whole
filled given items whole more len had same size view is =
    let long : len ≡ length given + more =
    is ∙ sym (ap length view) ∙ length-append given (replicate more 0) ∙ ap (λ n. length given + n) (length-replicate more 0) in
    let rest : len - had ≡ more = omega arith in
    subst (λ (l : List ℕ). take len l ++ replicate (len - had) 0 ≡ whole) (sym same)
    (ap (λ l. l ++ replicate (len - had) 0) (take_all len given (omega arith))
    ∙ ap (λ n. given ++ replicate n 0) rest ∙ view)

pub returns : goal.returns
returns c =
    c.in_ok-from_vec.ensures.ok ∙ c.in_ok-resize.ensures.items
    ∙ filled c.self.inside.given _ _ c.self.inside.zeros _ _ (c.in_ok-bytes.ensures.items ∙ c.as_slice.ensures)
    (c.in_ok-bytes.ensures.len ∙ ap length c.as_slice.ensures) c.self.view_is c.len.ensures.value
