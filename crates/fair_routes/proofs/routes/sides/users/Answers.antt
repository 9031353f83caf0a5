use Rattle.fair_routes.proofs.Common.{◌≡◌, ◌<◌, ◌≤◌, ◌+◌, ℕ, List, Some, All, length, map, take, sym, ap}
use Rattle.fair_routes.proofs.Common.{◌∙◌, subst, arith, Global, Vec, length-map, take_all, All-nil}
use Rattle.fair_routes.proofs.Common.{All-push, slice_get-map, slice_get-get_or, if_err, AreListed, AreUsers}
use Rattle.fair_routes.proofs.Common.{length-take-le, with_items_is, HasJoined, IsNoLink}
use Rattle.fair_routes.proofs.Network.Users.{users_none, users_more, users_below, mapped_more, no_link}
use Rattle.fair_routes.proofs.routes.sides.users.Goals as goal

abbrev items : Vec ℕ Global → List ℕ
items v = v.items

pub loop-flow-init : goal.loop-flow-init
loop-flow-init c = record {
  are = users_none c.args.links c.in_ok-users.users.items c.in_ok-users.ensures;
  listed = All-nil (All (λ link. link < c.args.links));
}

pub register-requires : goal.register-requires
register-requires c =
    let routes = c.args.routes.now in
    let n = c.loop-flow.flow in
    let few : length (map items (take n routes)) ≤ n =
    omega (arith, length-map (take n routes) items, length-take-le n routes (omega arith)) in
    subst (λ (us : List (Vec ℕ Global)). All (λ flows. All (λ user. user < n) flows.items) us)
    (sym c.deref_mut.ensures.value)
    (users_below c.args.links n (map items (take n routes)) c.loop-flow.users.items c.loop-flow.invariant.are few)

pub returns-in_err-register-clause-refused : goal.returns-in_err-register-clause-refused
returns-in_err-register-clause-refused c =
    let routes = c.args.routes.now in
    let n = c.loop-flow.flow in
    let route = c.index-routes-flow.result in
    let stands = slice_get-map items routes n ∙ (rw (slice_get-get_or routes n route (omega arith))
    (ap (λ v. Some (items v)) (sym c.index-routes-flow.is) ∙ ap Some (sym c.deref.ensures.value))) in
    let links = ap length c.deref_mut.ensures.value ∙ c.loop-flow.invariant.are.one_each in
    if_err _ _ c.from_residual-in_err-register.result c.from_residual-in_err-register.ensures.1
    (λ e is. subst (IsNoLink c.args.links (map items routes)) (sym is)
    (no_link c.in_err-register.field-0.0 n c.args.links c.deref.result.now (map items routes) stands
    (rw links at c.in_err-register.ensures.refused)))

pub loop-flow-preserved : goal.loop-flow-preserved
loop-flow-preserved c =
    let routes = c.args.routes.now in
    let n = c.loop-flow.flow in
    let route = c.index-routes-flow.result in
    let passed : List (List ℕ) = map items (take n routes) in
    let more = mapped_more items routes n route (omega arith) c.index-routes-flow.is in
    let count = length-map (take n routes) items ∙ length-take-le n routes (omega arith) in
    let now = with_items_is c.loop-flow.users c.register.new.users (omega (
      arith,
      c.register.auto.users,
      c.deref_mut.ensures.len,
    )) in
    let joined : HasJoined n route.items c.loop-flow.users.items c.register.new.users =
    subst (λ (us : List (Vec ℕ Global)). HasJoined n route.items us c.register.new.users) c.deref_mut.ensures.value
    (subst (λ (r : List ℕ). HasJoined n r c.deref_mut.result.now c.register.new.users) c.deref.ensures.value
    c.in_ok-register.ensures.joined) in
    let links = ap length c.deref_mut.ensures.value ∙ c.loop-flow.invariant.are.one_each in
    let listed : All (λ link. link < c.args.links) route.items =
    subst (λ (m : ℕ). All (λ link. link < m) route.items) links
    (subst (λ (r : List ℕ). All (λ link. link < length c.deref_mut.result.now) r) c.deref.ensures.value
    c.in_ok-register.ensures.listed) in
    record {
      are =
          subst (λ (us : List (Vec ℕ Global)). AreUsers c.args.links (map items (take (n + 1) routes)) us) (sym now)
          (subst (λ (rs : List (List ℕ)). AreUsers c.args.links rs c.register.new.users) (sym more)
          (users_more c.args.links n passed route.items c.loop-flow.users.items c.register.new.users
          c.loop-flow.invariant.are count joined));
      listed =
          subst (AreListed c.args.links) (sym more)
          (All-push (All (λ link. link < c.args.links)) passed route.items c.loop-flow.invariant.listed listed);
    }

pub returns-clause-users : goal.returns-clause-users
returns-clause-users c =
    let all : take c.loop-flow.flow c.args.routes.now ≡ c.args.routes.now = take_all _ _ (omega arith) in
    subst (λ (rs : List (Vec ℕ Global)). AreUsers c.args.links (map items rs) c.loop-flow.users.items) all
    c.loop-flow.invariant.are

pub returns-clause-listed : goal.returns-clause-listed
returns-clause-listed c =
    let all : take c.loop-flow.flow c.args.routes.now ≡ c.args.routes.now = take_all _ _ (omega arith) in
    subst (λ (rs : List (Vec ℕ Global)). AreListed c.args.links (map items rs)) all c.loop-flow.invariant.listed
