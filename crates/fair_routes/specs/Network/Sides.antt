-- The sides that links make. A route is a list of links by number, and the cap of a link stands at its number in the
-- list of caps.
use Rattle.std.specs.Prelude.{ℕ, ◌+◌, ◌<◌, ◌==◌, Bool, cond, List, [], ◌∷◌, ◌++◌, Option, Some, None, All, Contains}
use Rattle.std.specs.Prelude.{slice_get, ◌≡◌, ◌≤◌}
use Rattle.std.specs.List.{list_any}
use Rattle.fairness.specs.Fairness.Fair.{Side}
use Rattle.fairness.specs.Lists.Places.{places_from}
use Rattle.fair_routes.specs.declared.routes.sides.LinkSide.{LinkSide}

-- a side in the code
abbrev pub side_of : LinkSide → Side
side_of s = record { cap = s.cap; users = s.users.items }

-- whether the route has the link, however often
abbrev pub has_link : ℕ → List ℕ → Bool
has_link link route = list_any (λ other. other == link) route

-- the places of all flows that use the link
abbrev pub users_of : ℕ → List (List ℕ) → List ℕ
users_of link routes = places_from 0 (has_link link) routes

-- the side of a link: its cap, and all flows that use it. There is none without a cap, or without a flow that uses it
abbrev pub side_of_link : List (List ℕ) → ℕ → Option ℕ → List Side
side_of_link routes link None = []
side_of_link routes link (Some cap) =
    cond (list_any (has_link link) routes) (record { cap = cap; users = users_of link routes } ∷ []) []

-- the sides of the links whose caps these are, of which the first has that number
abbrev pub sides_from : ℕ → List (Option ℕ) → List (List ℕ) → List Side
sides_from link [] routes = []
sides_from link (cap ∷ caps) routes = side_of_link routes link cap ++ sides_from (link + 1) caps routes

-- the sides of all links
abbrev pub sides_over : List (Option ℕ) → List (List ℕ) → List Side
sides_over caps routes = sides_from 0 caps routes

-- each link of each route is one of so many
abbrev pub AreListed : ℕ → List (List ℕ) → Type 0
AreListed links routes = All (λ route. All (λ link. link < links) route) routes

-- the flow at that place uses a link that is none of so many
pub record IsUnlisted (links : ℕ) (routes : List (List ℕ)) (flow link : ℕ) : Type 0 where
  pub route : List ℕ
  pub stands : slice_get routes flow ≡ Some route
  pub uses : Contains route link
  pub past : links ≤ link
