use Rattle.p2p_simulated_c.proofs.Common.{◌≡◌, ◌<◌, ◌++◌, ◌∷◌, [], ℕ, List, length, get_or, set, take, ap, sym, ◌∙◌}
use Rattle.p2p_simulated_c.proofs.Common.{arith, Global, Vec, length-map, take_all, take_more, lists, routes_of, Hop}
use Rattle.std.specs.Vec.{with_items}
use Rattle.std.proofs.lemmas.List.{with_items_is}
use Rattle.p2p_simulated_c.proofs.Hops.{length_of, routes_more}
use Rattle.p2p_simulated_c.proofs.routes.listed.Goals as goal

abbrev none : Hop
none = record { flow = 0; link = 0 }

abbrev items : Vec ℕ Global → List ℕ
items v = v.items

pub add_hop-requires : goal.add_hop-requires
add_hop-requires c =
    let hops = c.args.hops.now in
    let i = c.loop-hop.hop-index in
    let inside : i < length hops = omega (arith, c.loop-hop-test.true) in
    let below : (get_or hops i none).flow < c.args.flows = c.requires i none inside in
    omega (
      arith,
      below,
      ap length c.deref_mut.ensures.value,
      length-map c.loop-hop.routes.items items,
      ap length c.loop-hop.invariant,
      length_of c.args.flows (take i hops),
    )

pub loop-hop-preserved : goal.loop-hop-preserved
loop-hop-preserved c =
    let hops = c.args.hops.now in
    let i = c.loop-hop.hop-index in
    let hop = get_or hops i none in
    let inside : i < length hops = omega (arith, c.loop-hop-test.true) in
    let below : hop.flow < c.args.flows = c.requires i none inside in
    let old = c.deref_mut.result.now in
    let new = c.add_hop.new.routes in
    let now : (with_items c.loop-hop.routes new).items ≡ new =
    with_items_is c.loop-hop.routes new (omega (arith, c.add_hop.auto.routes, c.deref_mut.ensures.len)) in
    let are : lists old ≡ routes_of c.args.flows (take i hops) =
    ap lists c.deref_mut.ensures.value ∙ c.loop-hop.invariant in
    ap lists now ∙ c.in_ok-add_hop.ensures
    ∙ ap (λ (rs : List (List ℕ)). set rs hop.flow (get_or rs hop.flow [] ++ hop.link ∷ [])) are
    ∙ sym (routes_more c.args.flows (take i hops) hop below)
    ∙ ap (routes_of c.args.flows) (sym (take_more hops i none inside))

pub returns : goal.returns
returns c =
    c.loop-hop.invariant
    ∙ ap (routes_of c.args.flows) (take_all c.loop-hop.hop-index c.args.hops.now (omega (arith, c.loop-hop-test.false)))
