-- The two fields are moved out, and `Box::from_raw` is called on them; what they own is what it asks for.
use Rattle.p2p_simulated_c.proofs.Common.{T, Ura, Val, has_ty, WT, inst_fn, Fn, ftrue, fsep, flft, SProp, ent, id⊢, ◌⊑◌}
use Rattle.p2p_simulated_c.proofs.Common.{Fun, fact, tables, WpFn, Tables, Memory, Routine, fm_of, WpFn-mono, Logic}
use Rattle.p2p_simulated_c.proofs.Common.{whole, sub, stop, fld, no_more, and_then, of_opd, returns, enter, alloc_all}
use Rattle.p2p_simulated_c.proofs.Common.{pass_all, free_all, look_at, get_in, sets, Item, ‵, raw, ◌⊛◌, some, later}
use Rattle.p2p_simulated_c.proofs.Common.{◌$◌, ◌∵◌, !, qed, by, move, use1, join, split, split3, pick, rewrite, fsplit}
use Rattle.p2p_simulated_c.proofs.Common.{fjoin, feq_i, suffices, await, done, no, RattleType, block_ptr, plain, heard}
use Rattle.p2p_simulated_c.proofs.Common.{nothing, only, Ended, Clauses, triple_of, Triple, Contract, entered, says}
use Rattle.p2p_simulated_c.proofs.Common.{Stays, stay_dropped, walk_of, ends_at, walk_Meets, token, Goes-blank}
use Rattle.p2p_simulated_c.proofs.Common.{box_owns, Bx, D, R, P, B, word, box_typed, box_out, box_in}
use mathlib.Core.Path.{◌≡◌, refl, sym, subst, ap}
use mathlib.Core.List.{List, [], ◌∷◌, ◌++◌}
use mir.Val.{vptr}
use mir.Syntax.{Body, place, copy, assign, rv_opd, seq, return}
use contract.Running.{tables_of}
use types.Run.{first, blocks, exec}
use types.ByLocal.{get, lands_last, env}
use types.Kit.{at_ret, drop}
use denote.Triple.Call.{calls_at_last}
use Rattle.std_alloc.proofs.BoxSteps.Form.{args, box_ty}
use Rattle.std_alloc.specs.contracts.boxed.Box.from_raw as FromRaw
use Rattle.std_alloc.proofs.boxed.Box.from_raw.Met as from_raw
use Rattle.std_alloc.proofs.boxed.Box.from_raw.Symbol as from_raw_symbol
use Rattle.p2p_simulated_c.specs.contracts.unboxed.Unboxed as Unboxed
use Rattle.p2p_simulated_c.specs.contracts.unboxed.Unboxed.into_box as F
use Rattle.p2p_simulated_c.specs.contracts.unboxed.Unboxed.into_box.Key.{name as #into_box}
use Rattle.p2p_simulated_c.proofs.unboxed.Unboxed.into_box.Code as code
use Rattle.p2p_simulated_c.proofs.unboxed.Unboxed.into_box.Statement as stated

-- what is left to run once `from_raw` has answered
abbrev tail : Body
tail = seq (assign (place 0 []) (rv_opd (copy (place 4 [])))) return

module _ (E : Bx) where
  abbrev routine : Fn
  routine = inst_fn (args E) code.function

  abbrev ended : Ended
  ended = F.ended E.row E.al.row E.al.g E.al.d E.al.drops

  abbrev Fields : RattleType
  Fields = Unboxed.the_row (R E) (P E) E.al.g

  abbrev stayed : Stays ended.signature.params ended.kept
  stayed = (stay_dropped (plain (λ _. Fields)) no, tt)

  module _ {M : Type 1} {𝓤 : Ura M} (𝓛 : Logic 𝓤) (memory : Memory → SProp 𝓤) (run : Routine → Fun 𝓤) (𝓣 : Tables 𝓤 𝓛.H)
    where
      open 𝓛 use {H}

      abbrev clauses : Clauses 𝓤 ended
      clauses = F.clauses E.row E.al.row E.al.g E.al.d E.al.drops 𝓛 memory run

      abbrev Closing : Contract 𝓤
      Closing =
          triple_of 𝓛 (FromRaw.signature E.row E.al.row E.al.g E.al.d E.al.drops)
          (FromRaw.spec E.row E.al.row E.al.g E.al.d E.al.drops 𝓛 memory run)

      walk : Triple 𝓤 (𝓣.C (from_raw_symbol.name (args E))) Closing
          → (z : (walk_of 𝓛 ended stayed clauses).Ghost)
          → ent 𝓤 ((walk_of 𝓛 ended stayed clauses).pre z)
          (WpFn 𝓤 H 𝓣.C 𝓣.Λ routine (z.0.4.0 ++ []) ((walk_of 𝓛 ended stayed clauses).post z))
      walk closing z =
          let κs = z.0.0 in
          let qs = z.0.1 in
          let a = z.0.3.0.alloc in
          let x = z.0.3.0.held in
          let After = (walk_of 𝓛 ended stayed clauses).post z in
          let boxed : D E = record { ptr = z.0.3.0.at; alloc = a; value = x } in
          let lives : Item 𝓤 = ‵ (flft κs.0 qs.0) ⊛ ‵ (flft κs.1.0 qs.1.0) ⊛ ‵ ftrue in
          let value_lives : Item 𝓤 = raw (fact 𝓤 (κs.0 ⊑ E.row.lives)) in
          let alloc_lives : Item 𝓤 = raw (fact 𝓤 (κs.1.0 ⊑ E.al.row.lives)) in
          qed 𝓛 ((lives ⊛ ‵ (fsep ((B E).own_val boxed z.0.4.0) ftrue)) ∷ (value_lives ⊛ alloc_lives ⊛ ‵ ftrue) ∷ []) ∵
          split ! $ move ! (1 ∷ []) $ fsplit ! $
          box_out E ! boxed z.0.4.0 (λ b o handle lies is_word fits.
          fjoin ! $
          let w = word E handle b o in
          let called : Closing.Ghost = ((κs, qs, tt, (a, (block_ptr b o, tt)), (handle ∷ [], (vptr b o ∷ [], tt))), x) in
          let Γ : List (Item 𝓤) =
          ‵ (box_owns (token E.al a) (R E) (block_ptr b o) x) ∷ ‵ ((P E).own_val a (handle ∷ [])) ∷ ‵ ftrue ∷ lives
          ∷ (value_lives ⊛ alloc_lives ⊛ ‵ ftrue) ∷ [] in
          by !
          (subst (λ (vs : List Val). ent 𝓤 (types.Kit.⋆ 𝓛 Γ) (WpFn 𝓤 H 𝓣.C 𝓣.Λ routine (vs ++ []) After)) (sym is_word)
          (qed 𝓛 Γ ∵ enter ! 𝓣.C 𝓣.Λ routine (w ∷ []) _ $
          alloc_all ! (λ ls. pass_all ! refl (box_typed E handle b o fits, tt) $
          -- `let Unboxed { at, alloc } = self`
          sets ! (of_opd ! (get_in ! (fld ! refl (stop !)) (sub ! 0 refl (whole !)))) refl (tt, tt) $
          sets ! (of_opd ! (get_in ! (fld ! refl (stop !)) (sub ! 1 refl (whole !)))) refl fits $
          first ! $ blocks ! $ sets ! (of_opd ! (get ! refl)) refl fits $
          -- what the call asks for
          move ! (4 ∷ []) $ split3 ! $ move ! (2 ∷ []) $ drop ! $ move ! (1 ∷ 2 ∷ []) $ join ! $ move ! (1 ∷ 0 ∷ []) $
          join ! $
          move ! (2 ∷ []) $ feq_i ! (List Val) (vptr b o ∷ []) (vptr b o ∷ []) refl $ fjoin ! $
          move ! (2 ∷ 0 ∷ []) $ fjoin ! $ move ! (2 ∷ 0 ∷ []) $ join ! $ join ! $ use1 𝓛 (raw (Closing.pre called))
          (id⊢ 𝓤 _) $
          calls_at_last ! (fm_of 𝓤 H 𝓛.laws 𝓣) Closing closing called
          (and_then ! (get ! refl) (and_then ! (get ! refl) (no_more !))) (λ u.
          use1 𝓛 (later (some (λ (r : D E).
          (lives ⊛ ‵ ((B E).own_val r (u ∷ [])))
          ⊛ some
          (λ (_ : Unit {0} × (Unit {0} × Unit {0})). ‵ (fsep ftrue (fsep ftrue ftrue)) ⊛
          (raw (fact 𝓤 (r.value ≡ x)) ⊛ raw (fact 𝓤 (r.alloc ≡ a)))))))
          (id⊢ 𝓤 _) $
          await ! tt $ pick !
          (λ r. split ! $ move ! (1 ∷ []) $ pick !
          (λ _. split3 ! $ drop ! $ heard ! (r.value ≡ x) (λ same. drop ! $ split ! $ move ! (1 ∷ []) $
          -- and what it answers is returned
          box_out E ! r (u ∷ []) (λ b' o' handle' lies' is_word' fits'.
          box_in E ! r b' o' r.value lies' refl $ rewrite ! 0 (λ (vs : List Val). ‵ ((B E).own_val r vs)) (sym is_word')
          refl $
          let typed : T (has_ty (box_ty E) u) × WT u =
          subst (λ (v : Val). T (has_ty (box_ty E) v) × WT v) (sym (ap only is_word'))
          (box_typed E handle' b' o' fits') in
          lands_last ! refl typed $ exec ! 𝓣.C 𝓣.Λ (env routine.locals ls) tail (at_ret (env routine.locals ls) After) $
          sets ! (of_opd ! (get ! refl)) refl typed $ returns ! (look_at ! 0 refl) $ free_all ! refl $
          suffices ! _ (ends_at 𝓛 ended stayed clauses z u r ((tt, (tt, tt)), tt) (tt, tt)) $ says ! same $
          nothing ! $ nothing ! $ fjoin ! $ join ! $ move ! (1 ∷ 0 ∷ []) $ join ! $ done !)))))))))

pub into_box_spec : {M : Type 1} → stated.statement M
unfolding tables_of
into_box_spec 𝓤 𝓛 𝓜 𝓡 wired T A T_laws A_laws g d drops allocator met =
    let E : Bx =
    record { row = T; laws = T_laws; al = record { row = A; laws = A_laws; g = g; d = d; drops = drops } } in
    let 𝓣 : Tables 𝓤 𝓛.H = tables_of 𝓤 𝓛.H 𝓜 (tables 𝓤 𝓛.H 𝓜 𝓡 𝓡.env) in
    let fn = routine E in
    entered 𝓤 𝓛.H (triple_of 𝓛 (ended E).signature (F.spec T A g d drops 𝓛 𝓜.mem 𝓡.returns)) 𝓣.C 𝓣.Λ
    (#into_box (args E)) fn (code.unfolded 𝓤 𝓛.H 𝓜 𝓡 wired (T, (A, tt)) d drops)
    (walk_Meets 𝓛 (ended E) (stayed E) (Goes-blank 𝓛 2 (plain (λ _. Fields E)) no (λ κs x f. tt), tt)
    (clauses E 𝓛 𝓜.mem 𝓡.returns 𝓣) (WpFn 𝓤 𝓛.H 𝓣.C 𝓣.Λ fn) (WpFn-mono 𝓤 𝓛.H 𝓛.laws 𝓣 fn)
    (walk E 𝓛 𝓜.mem 𝓡.returns 𝓣
    (from_raw.met 𝓤 𝓛 𝓜 𝓡 (code.calls-std_alloc::boxed::Box::from_raw 𝓡.env wired) T A T_laws A_laws g d drops
    allocator met)))
