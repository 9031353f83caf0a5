-- Closures that look caps up, and stay as they are.
use Rattle.link_scripts.proofs.Common.{◌≡◌, ℕ, Option, Calls, PairCalls}

-- from its one state, the closure answers by that function of the peer, and stays in it
abbrev pub LooksUp : {F P : Type 0} → Calls F P → F → (P → Option ℕ) → Type 0
LooksUp {F} {P} call f cap =
    (peer : P) (answer : Option ℕ) (after : F) → call f peer answer after → (answer ≡ cap peer) × (after ≡ f)

-- the same of a closure over ordered pairs
abbrev pub LooksUpPairs : {F P : Type 0} → PairCalls F P → F → (P → P → Option ℕ) → Type 0
LooksUpPairs {F} {P} call f cap =
    (p q : P) (answer : Option ℕ) (after : F) → call f p q answer after → (answer ≡ cap p q) × (after ≡ f)
