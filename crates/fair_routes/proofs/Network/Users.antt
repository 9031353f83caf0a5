-- Flow after flow comes to its links.
use Rattle.fair_routes.proofs.Common.{◌≡◌, ℕ, zero, suc, ◌+◌, ◌-◌, ◌<◌, ◌≤◌, ◌==◌, Some, List, [], ◌∷◌, ◌++◌, Bool}
use Rattle.fair_routes.proofs.Common.{true, false, cond, All, length, replicate, get_or, set, map, take, refl, sym, ap}
use Rattle.fair_routes.proofs.Common.{subst, arith, ◌||◌, slice_get, Global, Vec, map-append, length-map, take_more}
use Rattle.fair_routes.proofs.Common.{get_or-replicate, length-replicate, get_or_default, All-tail, places_from}
use Rattle.fair_routes.proofs.Common.{has_link, users_of, lists, users_at, AreUsers, common_steps, eq-eqb, rules}
use Rattle.fair_routes.proofs.Common.{cases_eq, append-nil, All-head, list_any-append, HasJoined, IsNoLink, Refused}
use Rattle.fair_routes.proofs.Common.{NoSuchLink, places_below}
use Rattle.std.proofs.Math.Bool.{or_comm}
use Rattle.std.proofs.lemmas.Bool.{ne_eqb}
use Rattle.std.proofs.lemmas.List.{get_or-set_same, get_or-set_other, map-set}
use Rattle.std.proofs.lemmas.List.Elements.{All-get_or}
use Rattle.fair_routes.specs.Network.Users.{ends_with, noted, IsNoLinkOf}
use Rattle.fair_routes.specs.declared.routes.error.RouteError.{RouteError}

-- ---- one flow at one link

-- who stands last
pub ends_with_last : (flow x : ℕ) (xs : List ℕ) → slice_get xs (length xs - 1) ≡ Some x → ends_with flow xs ≡ (x == flow)
ends_with_last flow x [] at = cc
ends_with_last flow x (y ∷ []) at = let same : y ≡ x = cc in ap (λ n. n == flow) same
ends_with_last flow x (y ∷ z ∷ xs) at =
    let further : length (y ∷ z ∷ xs) - 1 ≡ suc (length (z ∷ xs) - 1) = omega arith in
    let there : slice_get (y ∷ z ∷ xs) (suc (length (z ∷ xs) - 1)) ≡ Some x =
    subst (λ (n : ℕ). slice_get (y ∷ z ∷ xs) n ≡ Some x) further at in
    ends_with_last flow x (z ∷ xs) there

-- the flows at a link are those of its entry
pub users_at_is : (users : List (Vec ℕ Global)) (link : ℕ) (flows : Vec ℕ Global) → link < length users
    → flows ≡ get_or users link flows → users_at users link ≡ flows.items
users_at_is [] link flows inside is = absurd (omega arith)
users_at_is (v ∷ users) zero flows inside is = ap (λ (w : Vec ℕ Global). w.items) (sym is)
users_at_is (v ∷ users) (suc link) flows inside is = users_at_is users link flows (omega arith) is

-- a flow that was not there comes to the end
pub noted_at : (users : List (Vec ℕ Global)) (link flow : ℕ) (flows new : Vec ℕ Global) → link < length users
    → flows ≡ get_or users link flows → ends_with flow flows.items ≡ false → new.items ≡ flows.items ++ flow ∷ []
    → lists (set users link new) ≡ set (lists users) link (noted flow (users_at users link))
noted_at users link flow flows new inside is apart more = search (rules, users_at_is, map-set)

ends_with-push : (flow : ℕ) (xs : List ℕ) → ends_with flow (xs ++ flow ∷ []) ≡ true
ends_with-push flow [] = eq-eqb flow flow refl
ends_with-push flow (x ∷ []) = eq-eqb flow flow refl
ends_with-push flow (x ∷ y ∷ xs) = ends_with-push flow (y ∷ xs)

ends_with_below : (flow : ℕ) (xs : List ℕ) → All (λ user. user < flow) xs → ends_with flow xs ≡ false
ends_with_below flow [] below = refl
ends_with_below flow (x ∷ []) below =
    let less : x < flow = All-head (λ user. user < flow) x [] below in
    ne_eqb x flow (λ same. absurd (omega arith))
ends_with_below flow (x ∷ y ∷ xs) below =
    ends_with_below flow (y ∷ xs) (All-tail (λ user. user < flow) x (y ∷ xs) below)

-- a flow that is there already stays, and else it comes to the end
noted_is : (flow : ℕ) (old : List ℕ) (there : Bool) → All (λ user. user < flow) old
    → noted flow (old ++ cond there (flow ∷ []) []) ≡ old ++ flow ∷ []
noted_is flow old true below = rw (ends_with-push flow old) refl
noted_is flow old false below = search (rules, append-nil, ends_with_below)

-- ---- its next link

has_link-push : (link : ℕ) (route : List ℕ) (x : ℕ)
    → has_link link (route ++ x ∷ []) ≡ (has_link link route || ((x == link) || false))
has_link-push link route x = list_any-append (λ other. other == link) route (x ∷ [])

-- where the flow has come to some links of its route, it comes to one more
pub joined_more : (flow link : ℕ) (passed : List ℕ) (old now : List (List ℕ))
    → All (All (λ user. user < flow)) old → length now ≡ length old → link < length now
    → ((at : ℕ) → get_or now at [] ≡ get_or old at [] ++ cond (has_link at passed) (flow ∷ []) [])
    → (at : ℕ) → get_or (set now link (noted flow (get_or now link []))) at []
    ≡ get_or old at [] ++ cond (has_link at (passed ++ link ∷ [])) (flow ∷ []) []
joined_more flow link passed old now below many inside so at =
    search (rules, cases_eq, get_or-set_same, has_link-push, eq-eqb, or_comm, noted_is, All-get_or, get_or-set_other, ne_eqb)

-- ---- the next flow

places-push : {X : Type 0} (place : ℕ) (test : X → Bool) (xs : List X) (x : X)
    → places_from place test (xs ++ x ∷ []) ≡ places_from place test xs ++ cond (test x) ((place + length xs) ∷ []) []
places-push {X} place test [] x = search rules
places-push {X} place test (y ∷ xs) x = search (rules, places-push (place + 1) test xs x)

-- one flow more is one user more of its links
pub users_of-push : (link : ℕ) (routes : List (List ℕ)) (route : List ℕ)
    → users_of link (routes ++ route ∷ []) ≡ users_of link routes ++ cond (has_link link route) (length routes ∷ []) []
users_of-push link routes route = search (rules, places-push)

-- ---- all flows

-- no flow has come
pub users_none : (links : ℕ) (users : List (Vec ℕ Global)) → lists users ≡ replicate links [] → AreUsers links [] users
users_none links users none = search (rules, length-map, length-replicate, get_or-replicate)

-- one more has come
pub users_more : (links flow : ℕ) (passed : List (List ℕ)) (route : List ℕ) (old new : List (Vec ℕ Global))
    → AreUsers links passed old → length passed ≡ flow → HasJoined flow route old new
    → AreUsers links (passed ++ route ∷ []) new
users_more links flow passed route old new are count joined = search (rules, users_of-push)

-- all of them stand before the next
pub users_below : (links flow : ℕ) (passed : List (List ℕ)) (users : List (Vec ℕ Global))
    → AreUsers links passed users → length passed ≤ flow → All (λ flows. All (λ user. user < flow) flows.items) users
users_below links flow passed users are few = search (rules, users_at_is, get_or_default, places_below)

-- the next element, mapped
pub mapped_more : {X Y : Type 0} (f : X → Y) (xs : List X) (i : ℕ) (x : X) → i < length xs → x ≡ get_or xs i x
    → map f (take (i + 1) xs) ≡ map f (take i xs) ++ f x ∷ []
mapped_more f xs i x inside is = grind (arith, common_steps, take_more, map-append)

-- a flow's refusal is one of all flows
pub no_link : (e : RouteError) (flow links : ℕ) (route : List ℕ) (routes : List (List ℕ)) → slice_get routes flow ≡ Some route
    → IsNoLinkOf flow links route e → IsNoLink links routes e
no_link (Refused e) flow links route routes stands is = is
no_link (NoSuchLink at link) flow links route routes stands (same, uses, past) = search rules
