-- A null pointer is put into the place, which owns nothing but its handle.
use Rattle.p2p_simulated_c.proofs.Common.{T, Ura, Val, vstruct, has_ty, WT, ftrue, fsep, SProp, ent, emp, id⊢, Fun}
use Rattle.p2p_simulated_c.proofs.Common.{tables, WpFn, Tables, Memory, Routine, WpFn-mono, Logic, agg, no_more}
use Rattle.p2p_simulated_c.proofs.Common.{and_then, returns, enter, alloc_all, pass_all, free_all, look_at, sets, Item}
use Rattle.p2p_simulated_c.proofs.Common.{‵, raw, ◌⊛◌, ◌$◌, ◌∵◌, !, qed, by, move, use1, join, split, fsplit, fjoin}
use Rattle.p2p_simulated_c.proofs.Common.{feq_i, suffices, done, yes, null_ptr, type_at, nothing, shape, triple_of}
use Rattle.p2p_simulated_c.proofs.Common.{entered, says, Stays, stay_dropped, walk_of, ends_at, Goes-dropped}
use Rattle.p2p_simulated_c.proofs.Common.{walk_Meets, handle_tells, None, P}
use mathlib.Core.Path.{refl, sym, subst}
use mathlib.Core.List.{List, [], ◌∷◌, ◌++◌}
use mir.Val.{vnull, vcons, vnil}
use contract.Running.{tables_of}
use types.Run.{lit}
use types.ByLocal.{get}
use types.Kit.{drop, fpack}
use denote.Builtin.{RawPtr}
use denote.Param.{layout}
use denote.RattleType.{Valss}
use denote.Struct.Struct.{within}
use Rattle.std.proofs.Common.{lit<}
use Rattle.std_alloc.proofs.BoxSteps.Form.{owning}
use Rattle.std_alloc.proofs.ResultValues.{and_tt}
use Rattle.std_heap.specs.contracts.Global as Heap
use Rattle.p2p_simulated_c.proofs.Boxed.{Boxed, of_heap}
use Rattle.p2p_simulated_c.specs.contracts.place.Place.vacant as F
use Rattle.p2p_simulated_c.specs.contracts.place.Place.vacant.Key.{name as #vacant}
use Rattle.p2p_simulated_c.proofs.place.Place.vacant.Code as code
use Rattle.p2p_simulated_c.proofs.place.Place.vacant.Statement as stated

abbrev stayed : Stays (F.ended).signature.params (F.ended).kept
stayed = (stay_dropped of_heap yes, tt)

module _ {M : Type 1} {𝓤 : Ura M} (𝓛 : Logic 𝓤) (memory : Memory → SProp 𝓤) (run : Routine → Fun 𝓤) (𝓣 : Tables 𝓤 𝓛.H)
  where
    open 𝓛 use {H}

    walk : (z : (walk_of 𝓛 F.ended stayed (F.clauses 𝓛 memory run)).Ghost)
        → ent 𝓤 ((walk_of 𝓛 F.ended stayed (F.clauses 𝓛 memory run)).pre z)
        (WpFn 𝓤 H 𝓣.C 𝓣.Λ code.function (z.0.4.0 ++ []) ((walk_of 𝓛 F.ended stayed (F.clauses 𝓛 memory run)).post z))
    walk z =
        let After = (walk_of 𝓛 F.ended stayed (F.clauses 𝓛 memory run)).post z in
        let a = z.0.3.0 in
        let Made = type_at (F.signature).result tt in
        let made : Made.Denot = record { at = null_ptr; alloc = a; opened = None } in
        qed 𝓛 ((‵ ftrue ⊛ ‵ (fsep (Heap.the_row.own_val a z.0.4.0) ftrue)) ∷ raw (emp 𝓤) ∷ []) ∵ split ! $ drop ! $ fsplit
        ! $
        handle_tells Boxed.al ! a z.0.4.0 (λ handle is_handle fits.
        move ! (1 ∷ 2 ∷ []) $ drop ! $ drop ! $
        let w : Val = vstruct (vcons vnull (vcons handle vnil)) in
        let typed : T (has_ty (layout Made) w) × WT w =
        (and_tt (has_ty (layout Heap.the_row) handle) fits.0, (record { fits = lit< tt }, (fits.1, tt))) in
        let Γ : List (Item 𝓤) = ‵ (Heap.the_row.own_val a (handle ∷ [])) ∷ [] in
        by !
        (subst (λ (vs : List Val). ent 𝓤 (types.Kit.⋆ 𝓛 Γ) (WpFn 𝓤 H 𝓣.C 𝓣.Λ code.function (vs ++ []) After))
        (sym is_handle)
        (qed 𝓛 Γ ∵ enter ! 𝓣.C 𝓣.Λ code.function (handle ∷ []) _ $ alloc_all ! (λ ls. pass_all ! refl (fits, tt) $
        sets ! (agg ! (and_then ! (lit ! tt) (and_then ! (get ! refl) (no_more !)))) refl typed $
        returns ! (look_at ! 0 refl) $ free_all ! refl $
        suffices ! _ (ends_at 𝓛 F.ended stayed (F.clauses 𝓛 memory run) z w made (tt, tt) (tt, tt)) $ says ! refl $
        -- the pointer and the handle are what the place is made of
        nothing ! $ nothing ! $ move ! (2 ∷ 0 ∷ []) $ fjoin ! $ feq_i ! (List Val) (vnull ∷ []) (vnull ∷ []) refl $ fjoin
        ! $ feq_i ! (List Val) (w ∷ []) (w ∷ []) refl $ fjoin ! $
        fpack ! (Valss (RawPtr ∷ P Boxed ∷ [])) (within (shape (owning Boxed)) (null_ptr, (a, tt)) (w ∷ []))
        (vnull ∷ [], (handle ∷ [], tt)) $ fjoin ! $
        use1 𝓛 (‵ (Made.own_val made (w ∷ []))) (id⊢ 𝓤 _) $ nothing ! $ nothing ! $ fjoin ! $ join ! $ nothing ! $ join !
        $ done !))))

pub vacant_spec : {M : Type 1} → stated.statement M
unfolding tables_of
vacant_spec 𝓤 𝓛 𝓜 𝓡 wired =
    let 𝓣 : Tables 𝓤 𝓛.H = tables_of 𝓤 𝓛.H 𝓜 (tables 𝓤 𝓛.H 𝓜 𝓡 𝓡.env) in
    entered 𝓤 𝓛.H (triple_of 𝓛 F.signature (F.spec 𝓛 𝓜.mem 𝓡.returns)) 𝓣.C 𝓣.Λ #vacant code.function
    (code.unfolded 𝓤 𝓛.H 𝓜 𝓡 wired)
    (walk_Meets 𝓛 F.ended stayed (Goes-dropped 𝓛 0 of_heap yes (λ κs x f. refl), tt) (F.clauses 𝓛 𝓜.mem 𝓡.returns)
    (WpFn 𝓤 𝓛.H 𝓣.C 𝓣.Λ code.function) (WpFn-mono 𝓤 𝓛.H 𝓛.laws 𝓣 code.function)
    (walk 𝓛 𝓜.mem 𝓡.returns 𝓣))
