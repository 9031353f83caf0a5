use Rattle.fair_routes.proofs.Common.{◌≡◌, ◌<◌, ℕ, ◌++◌, ◌∷◌, [], cond, All, length, take, get_or, List, sym, ap, ◌∙◌}
use Rattle.fair_routes.proofs.Common.{subst, arith, Global, Vec, length-map, take_more, take_all, All-nil, All-map}
use Rattle.fair_routes.proofs.Common.{has_link, lists, users_at, append-nil, All-more}
use Rattle.fair_routes.proofs.Network.Users.{joined_more}
use Rattle.fair_routes.proofs.routes.sides.register.Goals as goal

pub loop-link-init : goal.loop-link-init
loop-link-init c = record {
  at = λ link. sym (append-nil (users_at c.args.users.now link));
  listed = All-nil (λ link. link < length c.args.users.now);
}

pub loop-link-preserved : goal.loop-link-preserved
loop-link-preserved c =
    let items : Vec ℕ Global → List ℕ = λ v. v.items in
    let old = c.args.users.now in
    let now = c.loop-link.users in
    let route = c.args.route.now in
    let k = c.loop-link.link-index in
    let x = get_or route k 0 in
    let more = take_more route k 0 (omega arith) in
    let within : x < length now = c.in_ok-register_link.ensures.listed in
    record {
      at = λ link.
          ap (λ us. get_or us link []) c.in_ok-register_link.ensures.noted
          ∙ joined_more c.args.flow x (take k route) (lists old) (lists now)
          (All-map (All (λ user. user < c.args.flow)) items old c.requires)
          (length-map now items ∙ c.loop-link.auto.users ∙ sym (length-map old items))
          (omega (arith, within, length-map now items)) c.loop-link.invariant.at link
          ∙ ap (λ r. users_at old link ++ cond (has_link link r) (c.args.flow ∷ []) []) (sym more);
      listed =
          All-more (λ link. link < length old) route k 0 (omega arith) c.loop-link.invariant.listed
          (omega (arith, within, c.loop-link.auto.users));
    }

pub returns-clause-joined : goal.returns-clause-joined
returns-clause-joined c =
    let all : take c.loop-link.link-index c.args.route.now ≡ c.args.route.now = take_all _ _ (omega arith) in
    record {
      one_each = c.loop-link.auto.users;
      at = λ link.
          c.loop-link.invariant.at link
          ∙ ap (λ r. users_at c.args.users.now link ++ cond (has_link link r) (c.args.flow ∷ []) []) all;
    }

pub returns-clause-listed : goal.returns-clause-listed
returns-clause-listed c =
    let all : take c.loop-link.link-index c.args.route.now ≡ c.args.route.now = take_all _ _ (omega arith) in
    subst (λ (r : List ℕ). All (λ link. link < length c.args.users.now) r) all c.loop-link.invariant.listed
