-- The same network said otherwise: with its routes as sets of links, or with other numbers for its links.
use Rattle.fair_routes.proofs.Common.{◌≡◌, ◌==◌, ℕ, ◌+◌, List, [], ◌∷◌, Bool, true, Option, Some, None, map, get_or}
use Rattle.fair_routes.proofs.Common.{refl, sym, ap, ◌∙◌, inl, inr, AllZip, list_any, eqb-true, eqb_tells, Side, In}
use Rattle.fair_routes.proofs.Common.{from_map, places_alike, IsLinkSide, has_link, users_of, side_of_link, sides_from}
use Rattle.fair_routes.proofs.Common.{sides_over, arith, common_steps, eq-eqb, rules, AreTheSameSides}
use Rattle.fair_routes.proofs.Common.{fairness_is_of_the_set, any_fails}
use Rattle.std.proofs.lemmas.Bool.{false≢true}
use Rattle.fairness.proofs.Lists.Members.{some_or_none}
use Rattle.fair_routes.specs.Network.Laws.{HaveTheSameLinks, RoutesAreSetsOfLinks, AreRenamed}
use Rattle.fair_routes.specs.Network.Laws.{OrderOfLinksDoesNotMatter}
use Rattle.fair_routes.proofs.Network.LinkSides.{link_side, side_listed}

-- ---- tests

-- a list some element of which passes
pub found : {X : Type 0} (test : X → Bool) (xs : List X) → list_any test xs ≡ true → (x : X) × In xs x × (test x ≡ true)
found test xs is = elim (some_or_none test xs) [
  | inl some ↦ some
  | inr none ↦ absurd (false≢true (sym (any_fails test xs none) ∙ is))
]

-- the same elements pass tests that answer alike
pub any_alike : {X Y : Type 0} (R : X → Y → Type 0) (f : X → Bool) (g : Y → Bool)
    → ((x : X) (y : Y) → R x y → f x ≡ g y) → (xs : List X) (ys : List Y) → AllZip R xs ys
    → list_any f xs ≡ list_any g ys
any_alike R f g same [] [] h = refl
any_alike R f g same [] (y ∷ ys) h = absurd h
any_alike R f g same (x ∷ xs) [] h = absurd h
any_alike R f g same (x ∷ xs) (y ∷ ys) h = rw (same x y h.0, any_alike R f g same xs ys h.1) refl

-- numbers that are equal just where others are
pub same_test : (a b c d : ℕ) → (a ≡ b → c ≡ d) → (c ≡ d → a ≡ b) → (a == b) ≡ (c == d)
same_test a b c d there back = search (rules, eqb_tells, eq-eqb)

-- ---- routes as sets

same_side : (link : ℕ) (cap : Option ℕ) (routes others : List (List ℕ)) → HaveTheSameLinks routes others
    → side_of_link routes link cap ≡ side_of_link others link cap
same_side link None routes others same = refl
same_side link (Some cap) routes others same = search (rules, any_alike, places_alike)

same_sides : (link : ℕ) (caps : List (Option ℕ)) (routes others : List (List ℕ)) → HaveTheSameLinks routes others
    → sides_from link caps routes ≡ sides_from link caps others
same_sides link [] routes others same = refl
same_sides link (cap ∷ caps) routes others same =
    rw (same_side link cap routes others same, same_sides (link + 1) caps routes others same) refl

pub routes_are_sets_of_links : RoutesAreSetsOfLinks
routes_are_sets_of_links caps routes others same = same_sides 0 caps routes others same

-- ---- other numbers

module _ (caps others : List (Option ℕ)) (name : ℕ → ℕ) (are : AreRenamed caps others name) where
  has_renamed : (link : ℕ) (route : List ℕ) → has_link link route ≡ has_link (name link) (map name route)
  has_renamed link [] = refl
  has_renamed link (x ∷ route) = search (rules, same_test, has_renamed link route)

  abbrev Renames : List ℕ → List ℕ → Type 0
  Renames route other = (link : ℕ) → has_link link route ≡ has_link (name link) other

  all_renamed : (routes : List (List ℕ)) → AllZip Renames routes (map (map name) routes)
  all_renamed [] = tt
  all_renamed (route ∷ routes) = ((λ link. has_renamed link route), all_renamed routes)

  module _ (routes : List (List ℕ)) where
    any_renamed : (link : ℕ) → list_any (has_link link) routes ≡ list_any (has_link (name link)) (map (map name) routes)
    any_renamed link = grind (arith, common_steps, all_renamed routes, any_alike)

    users_renamed : (link : ℕ) → users_of link routes ≡ users_of (name link) (map (map name) routes)
    users_renamed link = grind (arith, common_steps, all_renamed routes, places_alike)

    there : (side : Side) → IsLinkSide caps routes side → IsLinkSide others (map (map name) routes) side
    there side of = grind (arith, common_steps, any_renamed of.link, users_renamed of.link)

    back_at : (side : Side) (link at : ℕ) → name at ≡ link → get_or others link None ≡ Some side.cap
        → list_any (has_link link) (map (map name) routes) ≡ true
        → side.users ≡ users_of link (map (map name) routes) → IsLinkSide caps routes side
    back_at side link at is capped used users = record {
      link = at;
      capped = sym (are.same_cap at) ∙ ap (λ l. get_or others l None) is ∙ capped;
      used = any_renamed at ∙ ap (λ l. list_any (has_link l) (map (map name) routes)) is ∙ used;
      users = users ∙ ap (λ l. users_of l (map (map name) routes)) (sym is) ∙ sym (users_renamed at);
    }

    back : (side : Side) → IsLinkSide others (map (map name) routes) side → IsLinkSide caps routes side
    back side of = search (rules, found, from_map, back_at, eqb-true)

-- the sides are the same
pub renamed_sides : (caps others : List (Option ℕ)) (name : ℕ → ℕ) (routes : List (List ℕ)) → AreRenamed caps others name
    → AreTheSameSides (sides_over caps routes) (sides_over others (map (map name) routes))
renamed_sides caps others name routes are side = search (rules, side_listed, there, link_side, back)

pub the_order_of_links_does_not_matter : OrderOfLinksDoesNotMatter
the_order_of_links_does_not_matter caps others name routes rates are fair =
    search (rules, fairness_is_of_the_set, renamed_sides)
