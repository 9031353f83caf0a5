-- A message that is done lands, and the next one of its pair may start, before the others get their rates: one account
-- does for both.
use Rattle.link_simulation.proofs.Common.{◌∙◌, arith, ◌≡◌, ℕ, ◌<◌, List, [], ◌∷◌, ◌++◌, true, false, Option, Some, refl}
use Rattle.link_simulation.proofs.Common.{sym, ap, subst, not, filter, AllZip, Ordering, IsTotalOrder, not-true}
use Rattle.link_simulation.proofs.Common.{each_map, zip-append, Message, Completed, Course, goes, last_moment, is_late}
use Rattle.link_simulation.proofs.Common.{completed, preceded, Planned, RatedFlight, next_of, may_launch, is_spent}
use Rattle.link_simulation.proofs.Common.{drained_to, Accounts, Launches, starts, Finishes, completes, Settles}
use Rattle.link_simulation.proofs.Common.{settling, landed, launched}
use Rattle.link_simulation.specs.Rule.Leaving.{Leaves}
use Rattle.link_simulation.proofs.Laws.Orderly.{Stays, stayed_messages}
use Rattle.link_simulation.proofs.Rule.Accounts.{each_passes}
use Rattle.link_simulation.proofs.Rule.BeforeNext.{filter_none}
use Rattle.link_simulation.proofs.Rule.OneAccount.{AreLowest, starting, account_exists, zip_each, accounted}
use Rattle.link_simulation.proofs.Rule.OneAccount.{all_and_one_stay, drained_still, none_and_one_leave, none_leave}

-- two lists that both match a third one match each other
zip_beside : {X Y Z : Type 0} (R : X → Y → Type 0) (S : X → Z → Type 0) (T : Y → Z → Type 0)
    → ((x : X) (y : Y) (z : Z) → R x y → S x z → T y z)
    → (xs : List X) (ys : List Y) (zs : List Z) → AllZip R xs ys → AllZip S xs zs → AllZip T ys zs
zip_beside R S T beside [] [] [] f g = tt
zip_beside R S T beside [] [] (z ∷ zs) f g = absurd g
zip_beside R S T beside [] (y ∷ ys) zs f g = absurd f
zip_beside R S T beside (x ∷ xs) [] zs f g = absurd f
zip_beside R S T beside (x ∷ xs) (y ∷ ys) [] f g = absurd g
zip_beside R S T beside (x ∷ xs) (y ∷ ys) (z ∷ zs) f g =
    (beside x y z f.0 g.0, zip_beside R S T beside xs ys zs f.1 g.1)

module _ {P : Type 0} (cmp : P → P → Ordering) (order : IsTotalOrder cmp) where
  -- where some have left, an account can be made
  pub account_of : (t : ℕ) (old here : Planned P) (ls : List (Message P)) → Leaves cmp t old ls here
      → (mid : Planned P) × Accounts cmp t old ls mid
  account_of t old here ls leaves = grind (arith, (account_exists cmp order t old))

  -- a message that is done lands before the others get their rates
  pub lands : (t : ℕ) (old new : Planned P) (m : Message P) (ls : List (Message P))
      → Accounts cmp t (landed cmp t old m) ls new
      → (mid : Planned P) × Accounts cmp t old ls mid × (landed cmp t mid m ≡ new)
  lands t old new m ls a =
      let arrived : new.last_arrival ≡ (landed cmp t old m).last_arrival = grind arith in (
        record new { last_arrival = old.last_arrival },
        grind arith,
        ap (λ (last : P → P → Option ℕ). record new { last_arrival = last }) (sym arrived),
      )

  -- none of what is left after some have left is done
  none_done : (t : ℕ) (old here : Planned P) (ls : List (Message P)) → Leaves cmp t old ls here
      → filter (is_spent cmp here.caps) here.sending ≡ []
  none_done t old here ls leaves = grind (arith, each_passes, filter_none, each_map, not-true)

  -- what stands at a moment stays as it is, and so does a message that starts at it
  pub none_leaves_again : (t : ℕ) (old here : Planned P) (m next : Message P) (ls : List (Message P))
      → Leaves cmp t old ls here → drained_to t here.sending ≡ here.sending
      → is_spent cmp here.caps (starting cmp order here.next_id t next) ≡ false
      → Leaves cmp t (launched cmp t (landed cmp t here m) next) [] (launched cmp t (landed cmp t here m) next)
  none_leaves_again t old here m next ls leaves still stays =
      let none = none_done t old here ls leaves in
      grind (
        arith,
        accounted,
        (none_and_one_leave cmp order here.next_id t here.caps here.sending next stays still none),
        (all_and_one_stay cmp order here.next_id t here.caps here.sending next stays still none),
      )

  -- ---- the next message starts

  -- in one world what is in flight stands with what was left of it at t, and in the other it has its rates as well
  module _ (t : ℕ) (m next : Message P) (here new : Planned P) (fs : List (RatedFlight P)) (o : Option ℕ)
      (may : may_launch cmp t (landed cmp t here m) next ≡ true) (id : here.next_id < last_moment)
      (stays : is_spent cmp here.caps (starting cmp order here.next_id t next) ≡ false)
      (still_here : drained_to t here.sending ≡ here.sending)
      (none_here : filter (is_spent cmp here.caps) here.sending ≡ [])
      (stayed : AllZip (Stays t) here.sending fs)
      (still_there : drained_to t fs ≡ fs) (none_there : filter (is_spent cmp here.caps) fs ≡ [])
      (a : Accounts cmp t (launched cmp t (landed cmp t here m) next) [] new) where
    abbrev there : Planned P
    there = record here { sending = fs; accounted = t; finish = o }

    -- the two have the same messages in flight with the same left, and so what follows from both is the same
    left_alike : AllZip (Stays t) (filter (λ f. not (is_spent cmp here.caps f))
        (drained_to t (fs ++ starting cmp order here.next_id t next ∷ []))) new.sending
    left_alike =
        subst (λ (l : List (RatedFlight P)). AllZip (Stays t) l new.sending)
        (sym (all_and_one_stay cmp order here.next_id t here.caps fs next stays still_there none_there))
        (zip_beside (Stays t) (Stays t) (Stays t) (λ f g k one other. (
          other.0 ∙ sym one.0,
          other.1 ∙ sym one.1,
          other.2
              ∙ sym one.2,
          other.3,
        )) (here.sending ++ starting cmp order here.next_id t next ∷ [])
        (fs ++ starting cmp order here.next_id t next ∷ []) new.sending (zip-append (Stays t) here.sending _ fs _ stayed
        ((refl, refl, refl, refl), tt)) (subst (λ (l : List (RatedFlight P)). AllZip (Stays t) l new.sending)
        (all_and_one_stay cmp order here.next_id t here.caps here.sending next stays still_here none_here) a.stayed))

    accounts_there : Accounts cmp t (launched cmp t (landed cmp t there m) next) [] new
    accounts_there = grind (arith, none_and_one_leave, left_alike)

    starts_beside : Launches cmp t (landed cmp t there m) (Some next) (goes [] new)
    starts_beside = grind (arith, there, stayed_messages, starts, accounts_there)

  -- the next message of the pair of one that is done starts before the others get their rates
  pub follows : (t : ℕ) (old here new : Planned P) (m next : Message P) (ls : List (Message P))
      → Leaves cmp t old ls here → AreLowest here.sending → drained_to t here.sending ≡ here.sending
      → next_of cmp here m ≡ Some next → may_launch cmp t (landed cmp t here m) next ≡ true → here.next_id < last_moment
      → is_spent cmp here.caps (starting cmp order here.next_id t next) ≡ false
      → Accounts cmp t (launched cmp t (landed cmp t here m) next) [] new
      → (mid : Planned P) × Accounts cmp t old ls mid
      × Launches cmp t (landed cmp t mid m) (next_of cmp mid m) (goes [] new)
  follows t old here new m next ls leaves lowest still found may id stays a =
      let made = account_of t old here ls leaves in
      let there : made.0 ≡ record here { sending = made.0.sending; accounted = t; finish = made.0.finish } = grind
      (arith, accounted) in
      let accounted_there = accounted cmp order t old made.0 ls made.1 in
      let stayed : AllZip (Stays t) here.sending made.0.sending = grind arith in
      let low : AreLowest made.0.sending = grind (arith, zip_each) in
      let none_there = subst (λ (q : Planned P). filter (is_spent cmp q.caps) made.0.sending ≡ []) there
      (none_leave cmp order t made.0 accounted_there) in
      let launch = starts_beside t m next here new made.0.sending made.0.finish may id stays still
      (none_done t old here ls leaves) stayed (drained_still cmp order t made.0 accounted_there low) none_there a in
      grind (arith, accounted)

  -- the first of those that are done completes, and then the others
  pub settles_first : (t : ℕ) (old mid q : Planned P) (m : Message P) (ms more : List (Message P))
      (course : Course (Completed P) (Planned P)) → Accounts cmp t old (m ∷ ms) mid → is_late cmp t m ≡ false
      → Launches cmp t (landed cmp t mid m) (next_of cmp mid m) (goes more q) → Finishes cmp t (ms ++ more) q course
      → Settles cmp t old (preceded (completed cmp t m ∷ []) course)
  settles_first t old mid q m ms more course a in_time launch rest = settling a (completes in_time launch rest)
