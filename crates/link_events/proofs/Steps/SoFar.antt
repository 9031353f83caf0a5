-- What came out so far of a course that goes in steps.
use Rattle.link_events.proofs.Common.{◌≡◌, List, [], ◌++◌, refl, sym, ap, ◌∙◌, subst, append_assoc, append-nil, Error}
use Rattle.link_events.proofs.Common.{Course, goes, meets, preceded, IsRefusedFor, preceded_none, refused_more}

-- what came out in two parts
pub preceded_both : {X S : Type 0} (xs ys : List X) (c : Course X S)
    → preceded xs (preceded ys c) ≡ preceded (xs ++ ys) c
preceded_both xs ys (goes zs s) = ap (λ l. goes l s) (sym (append_assoc xs ys zs))
preceded_both xs ys (meets fault) = refl

module _ {X S : Type 0} where
  -- so far this came out, and what becomes of the rest makes, with this before it, what becomes of the whole
  pub record SoFar (Whole Rest : Course X S → Type 0) (before after : List X) : Type 0 where
    pub done : List X
    pub out : after ≡ before ++ done
    pub so : (course : Course X S) → Rest course → Whole (preceded done course)

  pub none_so_far : (Whole : Course X S → Type 0) (before : List X) → SoFar Whole Whole before before
  none_so_far Whole before = record {
    done = [];
    out = sym (append-nil before);
    so = λ course h. subst Whole (sym (preceded_none course)) h;
  }

  module _ {Whole Rest : Course X S → Type 0} {before after : List X} (far : SoFar Whole Rest before after) where
    pub step_so_far : (Next : Course X S → Type 0) (cs more : List X) → more ≡ after ++ cs
        → ((course : Course X S) → Next course → Rest (preceded cs course)) → SoFar Whole Next before more
    step_so_far Next cs more out step = record {
      done = far.done ++ cs;
      out = out ∙ ap (λ l. l ++ cs) far.out ∙ append_assoc before far.done cs;
      so = λ course h. subst Whole (preceded_both far.done cs course) (far.so (preceded cs course) (step course h));
    }

    pub all_so_far : (new : S) → Rest (goes [] new) → Whole (goes far.done new)
    all_so_far new h = subst (λ (l : List X). Whole (goes l new)) (append-nil far.done) (far.so (goes [] new) h)

    pub refused_so_far : (Q : Error → Type 0) → ((fault : Error) → Q fault → Rest (meets fault)) → (e : Error)
        → IsRefusedFor Q e → IsRefusedFor (λ fault. Whole (meets fault)) e
    refused_so_far Q stops =
        refused_more Q (λ fault. Whole (meets fault)) (λ fault h. far.so (meets fault) (stops fault h))
