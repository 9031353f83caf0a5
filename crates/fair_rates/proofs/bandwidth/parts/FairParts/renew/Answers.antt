use Rattle.fair_rates.proofs.Common.{◌≡◌, ◌≤◌, ◌-◌, ◌++◌, ◌∙◌, ℕ, List, Option, None, ap, arith, take, take_all, rules, common_steps}
use Rattle.std.specs.Prelude.{replicate}
use Rattle.std.proofs.Common.{vec_len}
use Rattle.std.proofs.lemmas.List.{length-replicate, replicate-append-replicate}
use Rattle.fair_rates.proofs.bandwidth.parts.FairParts.renew.Goals as goal

-- so many without a level, and as many more as are missing
filled_up : (count n : ℕ) (kept : List (Option ℕ)) → kept ≡ replicate n None → n ≤ count
    → take count kept ++ replicate (count - n) None ≡ replicate count None
filled_up count n kept same few =
    ap (λ xs. xs ++ replicate (count - n) None)
    (ap (take count) same ∙ take_all count (replicate n None) (omega (arith, few, length-replicate {A = Option ℕ} n None)))
    ∙ replicate-append-replicate n (count - n) None ∙ ap (λ k. replicate k None) (omega (arith, few))

pub returns-clause-level_of : goal.returns-clause-level_of
returns-clause-level_of c =
    let n = vec_len c.truncate.new.self in
    let kept : c.fill.new.self.items ≡ replicate n None = c.fill.ensures.items (λ y same. search rules) in
    let few : n ≤ c.args.count = omega (arith, c.truncate.ensures.len) in
    let all : take c.args.count c.fill.new.self.items ++ replicate (c.args.count - n) None ≡ replicate c.args.count None =
    filled_up c.args.count n c.fill.new.self.items kept few in
    grind (arith, common_steps, all, c.resize.ensures.items, c.fill.ensures.len)
