-- The sides that links make, from the flows that use each link.
use Rattle.fair_routes.proofs.Common.{◌≡◌, ℕ, ◌+◌, ◌<◌, List, [], ◌∷◌, ◌++◌, Bool, true, false, cond, length, get_or}
use Rattle.fair_routes.proofs.Common.{map, Option, Some, None, refl, sym, ap, ◌∙◌, subst, arith, list_any, Global, Vec}
use Rattle.fair_routes.proofs.Common.{map-append, length-map, places_from, side_of, has_link, users_of, side_of_link}
use Rattle.fair_routes.proofs.Common.{sides_from, sides_over, users_at, AreUsers, common_steps, rules, get_or_push}
use Rattle.fair_routes.proofs.Common.{get_or_append_left}
use Rattle.std.proofs.Common.{drop, reverse}
use Rattle.std.proofs.lemmas.List.{reverse-append, drop_more, drop_all}
use Rattle.std.proofs.lemmas.List.{reverse-reverse}
use Rattle.fair_routes.specs.declared.routes.sides.LinkSide as declared

-- ---- whether a link has a user

pub some_user : {X : Type 0} (place : ℕ) (test : X → Bool) (xs : List X) → 0 < length (places_from place test xs)
    → list_any test xs ≡ true
some_user place test [] some = absurd (omega arith)
some_user {X} place test (x ∷ xs) some = search (rules, some_user (place + 1) test xs)

pub no_user : {X : Type 0} (place : ℕ) (test : X → Bool) (xs : List X) → length (places_from place test xs) ≡ 0
    → list_any test xs ≡ false
no_user place test [] none = refl
no_user {X} place test (x ∷ xs) none = search (rules, no_user (place + 1) test xs)

-- ---- link by link, from the last one down

-- the sides of the links from that one on are made, the last one first, and of those before it the flows are known
pub record AreMade (link : ℕ) (caps : List (Option ℕ)) (routes : List (List ℕ)) (users : List (Vec ℕ Global))
    (sides : List declared.LinkSide) : Type 0 where
  pub of : (below : ℕ) → below < link → users_at users below ≡ users_of below routes
  pub are : map side_of sides ≡ reverse (sides_from link (drop link caps) routes)

pub made_none : (caps : List (Option ℕ)) (routes : List (List ℕ)) (users : List (Vec ℕ Global))
    → AreUsers (length caps) routes users → AreMade (length caps) caps routes users []
made_none caps routes users are = search (rules, drop_all)

-- what stands before the last one
before : (link below : ℕ) (routes : List (List ℕ)) (users : List (Vec ℕ Global)) (flows : Vec ℕ Global)
    → length users ≡ link → ((at : ℕ) → at < link + 1 → users_at (users ++ flows ∷ []) at ≡ users_of at routes)
    → below < link → users_at users below ≡ users_of below routes
before link below routes users flows many of less = search (rules, map-append, get_or_append_left, length-map)

last : (link : ℕ) (routes : List (List ℕ)) (users : List (Vec ℕ Global)) (flows : Vec ℕ Global)
    → length users ≡ link → ((at : ℕ) → at < link + 1 → users_at (users ++ flows ∷ []) at ≡ users_of at routes)
    → flows.items ≡ users_of link routes
last link routes users flows many of = search (rules, map-append, get_or_push, length-map)

module _ (link : ℕ) (caps : List (Option ℕ)) (routes : List (List ℕ)) (users : List (Vec ℕ Global))
    (flows : Vec ℕ Global) (sides : List declared.LinkSide) (inside : link < length caps) (many : length users ≡ link)
    (made : AreMade (link + 1) caps routes (users ++ flows ∷ []) sides) where
  down : sides_from link (drop link caps) routes
      ≡ side_of_link routes link (get_or caps link None) ++ sides_from (link + 1) (drop (link + 1) caps) routes
  down = ap (λ cs. sides_from link cs routes) (drop_more caps link None inside)

  no_side : side_of_link routes link (get_or caps link None) ≡ [] → AreMade link caps routes users sides
  no_side none = record {
    of = λ below less. before link below routes users flows many made.of less;
    are = made.are ∙ ap reverse (sym (down ∙ ap (λ ss. ss ++ sides_from (link + 1) (drop (link + 1) caps) routes) none));
  }

  -- a link without a cap
  pub made_uncapped : get_or caps link None ≡ None → AreMade link caps routes users sides
  made_uncapped none = no_side (ap (side_of_link routes link) none)

  -- a link without a user
  pub made_unused : (cap : ℕ) → get_or caps link None ≡ Some cap → length flows.items ≡ 0
      → AreMade link caps routes users sides
  made_unused cap is none =
      grind (
        arith,
        common_steps,
        no_user 0 (has_link link) routes (ap length (sym (last link routes users flows many made.of)) ∙ none),
        no_side,
      )

  -- a link with both
  pub made_side : (cap : ℕ) (side : declared.LinkSide) → get_or caps link None ≡ Some cap → 0 < length flows.items
      → side.cap ≡ cap → side.users ≡ flows → AreMade link caps routes users (sides ++ side ∷ [])
  made_side cap side is some capped of_flows =
      let are_users = last link routes users flows many made.of in
      let somebody : list_any (has_link link) routes ≡ true =
      some_user 0 (has_link link) routes (subst (λ (us : List ℕ). 0 < length us) are_users some) in
      let one : side_of_link routes link (get_or caps link None) ≡ side_of side ∷ [] =
      ap (side_of_link routes link) is
      ∙ ap (λ b. cond b (record { cap = cap; users = users_of link routes } ∷ []) []) somebody
      ∙ (rw (capped, of_flows, are_users) refl) in
      let rest = sides_from (link + 1) (drop (link + 1) caps) routes in
      let all : sides_from link (drop link caps) routes ≡ side_of side ∷ [] ++ rest =
      down ∙ ap (λ ss. ss ++ rest) one in
      record {
        of = λ below less. before link below routes users flows many made.of less;
        are =
            map-append side_of sides (side ∷ []) ∙ ap (λ ss. ss ++ side_of side ∷ []) made.are
            ∙ sym (ap reverse all ∙ reverse-append (side_of side ∷ []) rest);
      }

-- the flows of the last link, which is taken out
pub popped : (link : ℕ) (caps : List (Option ℕ)) (routes : List (List ℕ)) (users all : List (Vec ℕ Global))
    (flows : Vec ℕ Global) (sides : List declared.LinkSide) (n : ℕ) → n ≡ link + 1 → all ≡ users ++ flows ∷ []
    → AreMade n caps routes all sides → AreMade (link + 1) caps routes (users ++ flows ∷ []) sides
popped link caps routes users all flows sides n is split made = search rules

map-reverse : (xs : List declared.LinkSide) → map side_of (reverse xs) ≡ reverse (map side_of xs)
map-reverse [] = refl
map-reverse (x ∷ xs) = grind (arith, common_steps, reverse-append, map-append, map-reverse xs)

-- all links are through
pub made_all : (caps : List (Option ℕ)) (routes : List (List ℕ)) (users : List (Vec ℕ Global))
    (sides all : List declared.LinkSide) → all ≡ reverse sides → AreMade 0 caps routes users sides
    → map side_of all ≡ sides_over caps routes
made_all caps routes users sides all is made = search (rules, map-reverse, reverse-reverse)
