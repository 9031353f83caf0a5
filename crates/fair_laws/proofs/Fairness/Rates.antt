-- The list has one number of different finite rates.
use Rattle.fair_laws.proofs.Common.{◌≡◌, ℕ, List, arith, HasDifferentRates, Rate}
use Rattle.fairness.proofs.Lists.Different.{no_more}

pub one_number : (rates : List Rate) (m n : ℕ) → HasDifferentRates rates m → HasDifferentRates rates n → m ≡ n
one_number rates m n (xs, of_xs, m_is) (ys, of_ys, n_is) =
    let up = no_more xs ys of_xs.different (λ r has. (of_ys.each r).0 ((of_xs.each r).1 has)) in
    let down = no_more ys xs of_ys.different (λ r has. (of_xs.each r).0 ((of_ys.each r).1 has)) in
    omega (arith, up, down, m_is, n_is)
