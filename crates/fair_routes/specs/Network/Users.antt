-- The flows that use each link, while flow after flow is registered.
use Rattle.std.specs.Prelude.{◌≡◌, ◌==◌, ℕ, ◌<◌, ◌≤◌, List, [], ◌∷◌, ◌++◌, Bool, false, cond, Contains, map, length}
use Rattle.std.specs.Prelude.{slice_index_or}
use Rattle.std.specs.declared.alloc.Global.{Global}
use Rattle.std.specs.declared.vec.Vec.{Vec}
use Rattle.fairness.specs.declared.error.Error.TheVariants.{OutOfMemory}
use Rattle.fair_routes.specs.Network.Sides.{has_link, users_of, IsUnlisted}
use Rattle.fair_routes.specs.declared.routes.error.RouteError.{RouteError}
use Rattle.fair_routes.specs.declared.routes.error.RouteError.TheVariants.{Refused, NoSuchLink}

-- the places of the flows at each link
abbrev pub lists : List (Vec ℕ Global) → List (List ℕ)
lists users = map (λ flows. flows.items) users

-- those at one link
abbrev pub users_at : List (Vec ℕ Global) → ℕ → List ℕ
users_at users link = slice_index_or (lists users) link []

-- whether the flow is the last of these
abbrev pub ends_with : ℕ → List ℕ → Bool
ends_with flow [] = false
ends_with flow (x ∷ []) = x == flow
ends_with flow (x ∷ y ∷ flows) = ends_with flow (y ∷ flows)

-- these flows with one more, which may be their last already
abbrev pub noted : ℕ → List ℕ → List ℕ
noted flow flows = cond (ends_with flow flows) flows (flows ++ flow ∷ [])

-- the flow has come to all links of its route, once each
pub record HasJoined (flow : ℕ) (route : List ℕ) (old new : List (Vec ℕ Global)) : Type 0 where
  pub one_each : length new ≡ length old
  pub at : (link : ℕ) → users_at new link ≡ users_at old link ++ cond (has_link link route) (flow ∷ []) []

-- for each of so many links these are the flows that use it
pub record AreUsers (links : ℕ) (routes : List (List ℕ)) (users : List (Vec ℕ Global)) : Type 0 where
  pub one_each : length users ≡ links
  pub at : (link : ℕ) → link < links → users_at users link ≡ users_of link routes

-- memory was refused, or the flow uses a link that is none of so many
abbrev pub IsNoLinkOf : ℕ → ℕ → List ℕ → RouteError → Type 0
IsNoLinkOf flow links route (Refused e) = e ≡ OutOfMemory
IsNoLinkOf flow links route (NoSuchLink at link) = (at ≡ flow) × Contains route link × (links ≤ link)

-- memory was refused, or some flow uses a link that is none of so many
abbrev pub IsNoLink : ℕ → List (List ℕ) → RouteError → Type 0
IsNoLink links routes (Refused e) = e ≡ OutOfMemory
IsNoLink links routes (NoSuchLink flow link) = IsUnlisted links routes flow link
