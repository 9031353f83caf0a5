-- Two fields are moved out of a place that is not vacant, and what they own goes with them.
use mathlib.Core.Path.{refl, sym, subst}
use mathlib.Core.List.{List, [], ◌∷◌, ◌++◌}
use Rattle.p2p_simulated_c.proofs.Common.{Ura, Val, ftrue, fsep, SProp, ent, id⊢, Fun, fact, tables, WpFn, Tables}
use Rattle.p2p_simulated_c.proofs.Common.{Memory, Routine, WpFn-mono, Logic, whole, sub, agg, stop, fld, no_more}
use Rattle.p2p_simulated_c.proofs.Common.{and_then, of_opd, returns, enter, alloc_all, pass_all, free_all, look_at}
use Rattle.p2p_simulated_c.proofs.Common.{get_in, sets, Item, ‵, raw, ◌⊛◌, ◌$◌, ◌∵◌, !, qed, by, move, use1, join}
use Rattle.p2p_simulated_c.proofs.Common.{rewrite, split, fsplit, fjoin, suffices, done, yes, type_at, heard, nothing}
use Rattle.p2p_simulated_c.proofs.Common.{triple_of, entered, says, Stays, stay_dropped, walk_of, ends_at, Goes-dropped}
use Rattle.p2p_simulated_c.proofs.Common.{walk_Meets, Option, IsSome, D, B, word, box_typed, box_out, box_in}
use contract.Running.{tables_of}
use types.ByLocal.{get}
use types.Kit.{drop}
use Rattle.p2p_simulated_c.proofs.Boxed.{Boxed, of_place, the_some}
use Rattle.p2p_simulated_c.specs.contracts.opened.Opened as Opened
use Rattle.p2p_simulated_c.specs.contracts.place.Place as Place
use Rattle.p2p_simulated_c.specs.contracts.place.Place.into_unboxed as F
use Rattle.p2p_simulated_c.specs.contracts.place.Place.into_unboxed.Key.{name as #into_unboxed}
use Rattle.p2p_simulated_c.proofs.place.Place.into_unboxed.Code as code
use Rattle.p2p_simulated_c.proofs.place.Place.into_unboxed.Statement as stated

abbrev stayed : Stays (F.ended).signature.params (F.ended).kept
stayed = (stay_dropped of_place yes, tt)

module _ {M : Type 1} {𝓤 : Ura M} (𝓛 : Logic 𝓤) (memory : Memory → SProp 𝓤) (run : Routine → Fun 𝓤) (𝓣 : Tables 𝓤 𝓛.H)
  where
    open 𝓛 use {H}

    walk : (z : (walk_of 𝓛 F.ended stayed (F.clauses 𝓛 memory run)).Ghost)
        → ent 𝓤 ((walk_of 𝓛 F.ended stayed (F.clauses 𝓛 memory run)).pre z)
        (WpFn 𝓤 H 𝓣.C 𝓣.Λ code.function (z.0.4.0 ++ []) ((walk_of 𝓛 F.ended stayed (F.clauses 𝓛 memory run)).post z))
    walk z =
        let After = (walk_of 𝓛 F.ended stayed (F.clauses 𝓛 memory run)).post z in
        let place = z.0.3.0 in
        qed 𝓛 ((‵ ftrue ⊛ ‵ (fsep (Place.the_row.own_val place z.0.4.0) ftrue)) ∷ raw (fact 𝓤 (IsSome place.opened)) ∷ [])
        ∵
        move ! (1 ∷ []) $ heard ! (IsSome place.opened) (λ there.
        let opened = the_some place.opened there in
        let boxed : D Boxed = record { ptr = place.at; alloc = place.alloc; value = opened.0 } in
        let Made = type_at (F.signature).result tt in
        let made : Made.Denot = record { at = boxed.ptr; alloc = boxed.alloc; held = boxed.value } in
        split ! $ drop ! $ fsplit ! $
        rewrite ! 0
        (λ (o : Option Opened.the_row.Denot). ‵
        (Place.the_row.own_val (record { at = place.at; alloc = place.alloc; opened = o }) z.0.4.0))
        opened.1 refl $
        use1 𝓛 (‵ ((B Boxed).own_val boxed z.0.4.0)) (id⊢ 𝓤 _) $
        box_out Boxed ! boxed z.0.4.0 (λ b o handle lies is_word fits.
        box_in Boxed ! boxed b o boxed.value lies refl $
        let w = word Boxed handle b o in
        use1 𝓛 (‵ (Made.own_val made (w ∷ []))) (id⊢ 𝓤 _) $ move ! (1 ∷ []) $ drop ! $
        let Γ : List (Item 𝓤) = ‵ (Made.own_val made (w ∷ [])) ∷ [] in
        by !
        (subst (λ (vs : List Val). ent 𝓤 (types.Kit.⋆ 𝓛 Γ) (WpFn 𝓤 H 𝓣.C 𝓣.Λ code.function (vs ++ []) After))
        (sym is_word)
        (qed 𝓛 Γ ∵ enter ! 𝓣.C 𝓣.Λ code.function (w ∷ []) _ $ alloc_all !
        (λ ls. pass_all ! refl (box_typed Boxed handle b o fits, tt) $
        sets ! (of_opd ! (get_in ! (fld ! refl (stop !)) (sub ! 0 refl (whole !)))) refl (tt, tt) $
        sets ! (of_opd ! (get_in ! (fld ! refl (stop !)) (sub ! 1 refl (whole !)))) refl fits $
        -- the pointer is cast, and is one as it was
        sets ! (of_opd ! (get ! refl)) refl (tt, tt) $
        sets ! (agg ! (and_then ! (get ! refl) (and_then ! (get ! refl) (no_more !)))) refl
        (box_typed Boxed handle b o fits) $
        returns ! (look_at ! 0 refl) $ free_all ! refl $
        suffices ! _ (ends_at 𝓛 F.ended stayed (F.clauses 𝓛 memory run) z w made (tt, tt) (tt, tt)) $ says !
        (sym opened.1) $
        nothing ! $ nothing ! $ fjoin ! $ join ! $ nothing ! $ join ! $ done !)))))

pub into_unboxed_spec : {M : Type 1} → stated.statement M
unfolding tables_of
into_unboxed_spec 𝓤 𝓛 𝓜 𝓡 wired =
    let 𝓣 : Tables 𝓤 𝓛.H = tables_of 𝓤 𝓛.H 𝓜 (tables 𝓤 𝓛.H 𝓜 𝓡 𝓡.env) in
    entered 𝓤 𝓛.H (triple_of 𝓛 F.signature (F.spec 𝓛 𝓜.mem 𝓡.returns)) 𝓣.C 𝓣.Λ #into_unboxed code.function
    (code.unfolded 𝓤 𝓛.H 𝓜 𝓡 wired)
    (walk_Meets 𝓛 F.ended stayed (Goes-dropped 𝓛 0 of_place yes (λ κs x f. refl), tt) (F.clauses 𝓛 𝓜.mem 𝓡.returns)
    (WpFn 𝓤 𝓛.H 𝓣.C 𝓣.Λ code.function) (WpFn-mono 𝓤 𝓛.H 𝓛.laws 𝓣 code.function)
    (walk 𝓛 𝓜.mem 𝓡.returns 𝓣))
