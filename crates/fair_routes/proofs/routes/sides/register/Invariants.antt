use Rattle.fair_routes.proofs.Common.{◌≡◌, ◌<◌, ℕ, ◌++◌, ◌∷◌, [], cond, All, length, take, has_link, users_at}
use Rattle.fair_routes.proofs.routes.sides.register.Given as goal

abbrev pub invariant-loop-link : goal.invariant-loop-link
invariant-loop-link l = record {
  at : (link : ℕ) → users_at l.users link
      ≡ users_at l.initial.users link ++ cond (has_link link (take l.link-index l.route)) (l.flow ∷ []) [];
  listed : All (λ link. link < length l.initial.users) (take l.link-index l.route);
}
