-- Which sides there are.
use Rattle.fair_routes.proofs.Common.{◌≡◌, ℕ, zero, suc, ◌+◌, ◌<◌, ◌⊎◌, List, [], ◌∷◌, true, All, Contains, length}
use Rattle.fair_routes.proofs.Common.{Option, Some, None, get_or, sym, ap, ◌∙◌, subst, inl, inr, arith, list_any, Side}
use Rattle.fair_routes.proofs.Common.{HaveUsersBelow, In, in_left, in_right, in_from_contains, contains_from_in}
use Rattle.fair_routes.proofs.Common.{All-from_contains, IsLinkSide, has_link, users_of, side_of_link, sides_from}
use Rattle.fair_routes.proofs.Common.{sides_over, common_steps, rules, in_either, places_below}
use Rattle.std.proofs.Common.{◌≢◌, AllPairs}
use Rattle.fairness.specs.Fairness.Exists.{HaveDistinctUsers}
use Rattle.fairness.proofs.Lists.Places.{places_apart}
use Rattle.fair_routes.specs.Network.Laws.{SidesAreOfTheLinks}

-- the side is that of a link from that one on
record IsFrom (first : ℕ) (caps : List (Option ℕ)) (routes : List (List ℕ)) (side : Side) : Type 0 where
  next : ℕ
  capped : get_or caps next None ≡ Some side.cap
  used : list_any (has_link (first + next)) routes ≡ true
  users : side.users ≡ users_of (first + next) routes

side_at : (routes : List (List ℕ)) (link : ℕ) → ℕ → Side
side_at routes link cap = record { cap = cap; users = users_of link routes }

from_link : (first : ℕ) (cap : Option ℕ) (caps : List (Option ℕ)) (routes : List (List ℕ)) (side : Side)
    → In (side_of_link routes first cap) side → IsFrom first (cap ∷ caps) routes side
from_link first None caps routes side h = absurd h
from_link first (Some cap) caps routes side h = search rules

from_sides : (first : ℕ) (caps : List (Option ℕ)) (routes : List (List ℕ)) (side : Side)
    → In (sides_from first caps routes) side → IsFrom first caps routes side
from_sides first [] routes side h = absurd h
from_sides first (cap ∷ caps) routes side h =
    by_part (in_either (side_of_link routes first cap) (sides_from (first + 1) caps routes) side h)
    (from_sides (first + 1) caps routes side)
  where
    by_part : In (side_of_link routes first cap) side ⊎ In (sides_from (first + 1) caps routes) side
        → (In (sides_from (first + 1) caps routes) side → IsFrom (first + 1) caps routes side)
        → IsFrom first (cap ∷ caps) routes side
    by_part (inl g) ih = from_link first cap caps routes side g
    by_part (inr g) ih =
        let r = ih g in
        let next : first + 1 + r.next ≡ first + suc r.next = omega arith in
        record {
          next = suc r.next;
          capped = r.capped;
          used = subst (λ (n : ℕ). list_any (has_link n) routes ≡ true) next r.used;
          users = r.users ∙ ap (λ n. users_of n routes) next;
        }

to_link : (link : ℕ) (cap : Option ℕ) (routes : List (List ℕ)) (side : Side) → cap ≡ Some side.cap
    → list_any (has_link link) routes ≡ true → side.users ≡ users_of link routes → In (side_of_link routes link cap) side
to_link link None routes side capped used users = cc
to_link link (Some cap) routes side capped used users = search rules

to_sides : (first next : ℕ) (caps : List (Option ℕ)) (routes : List (List ℕ)) (side : Side)
    → get_or caps next None ≡ Some side.cap → list_any (has_link (first + next)) routes ≡ true
    → side.users ≡ users_of (first + next) routes → In (sides_from first caps routes) side
to_sides first next [] routes side capped used users = cc
to_sides first zero (cap ∷ caps) routes side capped used users =
    let here : first + 0 ≡ first = omega arith in
    in_left (side_of_link routes first cap) (sides_from (first + 1) caps routes) side
    (to_link first cap routes side capped (subst (λ (n : ℕ). list_any (has_link n) routes ≡ true) here used)
    (users ∙ ap (λ n. users_of n routes) here))
to_sides first (suc next) (cap ∷ caps) routes side capped used users =
    let there : first + suc next ≡ first + 1 + next = omega arith in
    in_right (side_of_link routes first cap) (sides_from (first + 1) caps routes) side
    (to_sides (first + 1) next caps routes side capped
    (subst (λ (n : ℕ). list_any (has_link n) routes ≡ true) there used) (users ∙ ap (λ n. users_of n routes) there))

pub link_side : (caps : List (Option ℕ)) (routes : List (List ℕ)) (side : Side) → Contains (sides_over caps routes) side
    → IsLinkSide caps routes side
link_side caps routes side listed =
    grind (
      arith,
      common_steps,
      from_sides 0 caps routes side (in_from_contains (sides_over caps routes) side listed),
      in_from_contains (sides_over caps routes) side listed,
    )

pub side_listed : (caps : List (Option ℕ)) (routes : List (List ℕ)) (side : Side) → IsLinkSide caps routes side
    → Contains (sides_over caps routes) side
side_listed caps routes side of = search (rules, contains_from_in, to_sides)

pub sides_are_of_the_links : SidesAreOfTheLinks
sides_are_of_the_links caps routes side = (link_side caps routes side, side_listed caps routes side)

-- the users are flows, and none stands twice at a side
pub users_are_flows : (caps : List (Option ℕ)) (routes : List (List ℕ))
    → HaveUsersBelow (length routes) (sides_over caps routes)
users_are_flows caps routes =
    All-from_contains (λ (side : Side). All (λ user. user < length routes) side.users) (sides_over caps routes)
    (λ side listed. let of = link_side caps routes side listed in
    subst (λ (us : List ℕ). All (λ user. user < length routes) us) (sym of.users)
    (places_below (has_link of.link) routes (length routes) (omega arith)))

pub users_are_distinct : (caps : List (Option ℕ)) (routes : List (List ℕ)) → HaveDistinctUsers (sides_over caps routes)
users_are_distinct caps routes =
    All-from_contains (λ (side : Side). AllPairs (λ user other. user ≢ other) side.users) (sides_over caps routes)
    (λ side listed. let of = link_side caps routes side listed in
    subst (λ (us : List ℕ). AllPairs (λ user other. user ≢ other) us) (sym of.users)
    (places_apart 0 (has_link of.link) routes))
