-- Routes, made of hops one after another.
use Rattle.p2p_simulated_c.proofs.Common.{◌≡◌, ◌==◌, ℕ, ◌+◌, ◌<◌, List, [], ◌∷◌, ◌++◌, Bool, true, false, cond, length}
use Rattle.p2p_simulated_c.proofs.Common.{map, get_or, set, replicate, refl, sym, ap, ◌∙◌, inl, inr, arith, append-nil}
use Rattle.p2p_simulated_c.proofs.Common.{Global, Vec, get_or-map, length-map, map-append, lists, routes_of, Hop}
use Rattle.std.proofs.Common.{zero, suc}
use Rattle.std.proofs.Common.{get_or-set_other, get_or-set_same}
use Rattle.std.specs.List.{filter, range_with_len}
use Rattle.std.proofs.Math.ListN.{length-set}
use Rattle.std.proofs.lemmas.Bool.Decides.{eqb_tells}
use Rattle.std.proofs.lemmas.List.{ext_get_or, map-set}
use Rattle.std.proofs.lemmas.List.Elements.{filter-append}
use Rattle.std.proofs.lemmas.List.FromFn.{length-range_with_len, get_or-range_with_len}
use Rattle.p2p_simulated_c.specs.Routes.{links_of}

none_from : (a n : ℕ) → replicate n [] ≡ map (links_of []) (range_with_len a n)
none_from a zero = refl
none_from a (suc n) = λ i. [] ∷ none_from (a + 1) n i

-- without hops no flow has a link
pub routes_none : (n : ℕ) → replicate n [] ≡ routes_of n []
routes_none n = none_from 0 n

-- the route of a flow
pub route_at : (flows : ℕ) (hops : List Hop) (flow : ℕ) → flow < flows → get_or (routes_of flows hops) flow [] ≡ links_of hops flow
route_at flows hops flow lt =
    get_or-map (links_of hops) (range_with_len 0 flows) flow 0 [] (omega (arith, lt, length-range_with_len 0 flows))
    ∙ ap (links_of hops) (get_or-range_with_len 0 flows flow 0 lt ∙ (omega arith))

pub length_of : (flows : ℕ) (hops : List Hop) → length (routes_of flows hops) ≡ flows
length_of flows hops = length-map (range_with_len 0 flows) (links_of hops) ∙ length-range_with_len 0 flows

links_more : (hops : List Hop) (hop : Hop) (flow : ℕ)
    → links_of (hops ++ hop ∷ []) flow ≡ links_of hops flow ++ cond (hop.flow == flow) (hop.link ∷ []) []
links_more hops hop flow =
    ap (map (λ (h : Hop). h.link)) (filter-append (λ (h : Hop). h.flow == flow) hops (hop ∷ []))
    ∙ map-append (λ (h : Hop). h.link) (filter (λ (h : Hop). h.flow == flow) hops) (filter (λ (h : Hop). h.flow == flow) (hop ∷ []))
    ∙ ap (λ xs. links_of hops flow ++ xs) (one (hop.flow == flow))
  where
    one : (b : Bool) → map (λ (h : Hop). h.link) (cond b (hop ∷ []) []) ≡ cond b (hop.link ∷ []) []
    one true = refl
    one false = refl

-- one hop more
pub routes_more : (flows : ℕ) (hops : List Hop) (hop : Hop) → hop.flow < flows
    → routes_of flows (hops ++ hop ∷ []) ≡ set (routes_of flows hops) hop.flow (get_or (routes_of flows hops) hop.flow [] ++ hop.link ∷ [])
routes_more flows hops hop inside =
    let old = routes_of flows hops in
    let new = get_or old hop.flow [] ++ hop.link ∷ [] in
    ext_get_or [] (routes_of flows (hops ++ hop ∷ [])) (set old hop.flow new)
    (length_of flows (hops ++ hop ∷ []) ∙ sym (length-set old hop.flow new ∙ length_of flows hops)) (λ i within.
    let lt : i < flows = omega (arith, within, length_of flows (hops ++ hop ∷ [])) in
    route_at flows (hops ++ hop ∷ []) i lt ∙ links_more hops hop i ∙ (elim (eqb_tells hop.flow i) [
      | inl same ↦
          ap (λ b. links_of hops i ++ cond b (hop.link ∷ []) []) same.0
          ∙ ap (λ xs. xs ++ hop.link ∷ []) (sym (route_at flows hops i lt))
          ∙ ap (λ n. get_or old n [] ++ hop.link ∷ []) (sym same.1)
          ∙ sym (get_or-set_same old hop.flow new [] (omega (arith, inside, length_of flows hops)))
          ∙ ap (λ n. get_or (set old hop.flow new) n []) same.1
      | inr other ↦
          ap (λ b. links_of hops i ++ cond b (hop.link ∷ []) []) other.0
          ∙ append-nil (links_of hops i) ∙ sym (route_at flows hops i lt)
          ∙ sym (get_or-set_other old hop.flow i new [] (λ same. other.1 (sym same)))
    ]))

-- in the code
pub hop_added : (routes : List (Vec ℕ Global)) (flow link : ℕ) (route new : Vec ℕ Global) → flow < length routes
    → route ≡ get_or routes flow route → new.items ≡ route.items ++ link ∷ []
    → lists (set routes flow new) ≡ set (lists routes) flow (get_or (lists routes) flow [] ++ link ∷ [])
hop_added routes flow link route new inside is more =
    let items : Vec ℕ Global → List ℕ = λ v. v.items in
    let at : get_or (lists routes) flow [] ≡ route.items =
    get_or-map items routes flow route [] inside ∙ ap items (sym is) in
    map-set items routes flow new ∙ ap (set (lists routes) flow) (more ∙ ap (λ xs. xs ++ link ∷ []) (sym at))
