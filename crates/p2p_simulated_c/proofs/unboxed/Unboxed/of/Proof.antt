-- `Box::into_raw_with_allocator` is called, and the pointer and the allocator that it answers own what the box owned.
use mathlib.Core.Path.{◌≡◌, refl, sym, subst, ap, ◌∙◌}
use mathlib.Core.List.{List, [], ◌∷◌, ◌++◌}
use Rattle.p2p_simulated_c.proofs.Common.{Ura, Val, vstruct, inst_fn, Fn, dnil, ftrue, fsep, flft, SProp, ent, id⊢, ◌⊑◌}
use Rattle.p2p_simulated_c.proofs.Common.{Fun, fact, tables, WpFn, Tables, Memory, Routine, fm_of, WpFn-mono, Logic}
use Rattle.p2p_simulated_c.proofs.Common.{whole, sub, agg, stop, fld, no_more, and_then, of_opd, returns, enter}
use Rattle.p2p_simulated_c.proofs.Common.{alloc_all, pass_all, free_all, look_at, get_in, sets, Item, ‵, raw, ◌⊛◌, some}
use Rattle.p2p_simulated_c.proofs.Common.{later, ◌$◌, ◌∵◌, !, qed, by, move, use1, join, split, split3, pick, rewrite}
use Rattle.p2p_simulated_c.proofs.Common.{fsplit, fjoin, suffices, await, done, no, RattleType, Ptr, block_ptr}
use Rattle.p2p_simulated_c.proofs.Common.{null_ptr, plain, heard, nothing, only, Ended, Clauses, triple_of, Triple}
use Rattle.p2p_simulated_c.proofs.Common.{Contract, entered, says, Stays, stay_dropped, walk_of, ends_at, walk_Meets}
use Rattle.p2p_simulated_c.proofs.Common.{token, handle_tells, Goes-blank, box_owns, Bx, D, R, P, B, word, box_typed}
use Rattle.p2p_simulated_c.proofs.Common.{box_out, box_in}
use mir.Raw.{raw as bare}
use mir.Val.{of_list}
use mir.Syntax.{Args, Dict, a_type, dcons}
use base.Logic.{never, fst∗}
use contract.Running.{tables_of}
use types.Logic.{sem}
use types.ByLocal.{get, lands_as}
use types.Kit.{drop}
use types.Kit.{fpick, feq_l}
use denote.Param.{bounded}
use denote.RawPtr.{RawPtr, ptr_val, in_a_block}
use denote.Struct.Tuple.{Tuple}
use denote.Triple.Call.{calls_at}
use Rattle.std_alloc.proofs.BoxSteps.Form.{τ}
use Rattle.std_alloc.specs.contracts.boxed.Box.into_raw_with_allocator as IntoRaw
use Rattle.std_alloc.proofs.boxed.Box.into_raw_with_allocator.Met as into_raw
use Rattle.std_alloc.proofs.boxed.Box.into_raw_with_allocator.Symbol as into_raw_symbol
use Rattle.p2p_simulated_c.specs.contracts.unboxed.Unboxed as Unboxed
use Rattle.p2p_simulated_c.specs.contracts.unboxed.Unboxed.of as F
use Rattle.p2p_simulated_c.specs.contracts.unboxed.Unboxed.of.Key.{name as #of}
use Rattle.p2p_simulated_c.proofs.unboxed.Unboxed.of.Code as code
use Rattle.p2p_simulated_c.proofs.unboxed.Unboxed.of.Statement as stated

module _ (E : Bx) (dropped : Dict) where
  abbrev args : Args
  args = bounded (a_type ∷ a_type ∷ []) (E.row, (E.al.row, tt)) (dcons E.al.d (dcons E.al.drops (dcons dropped dnil)))

  abbrev routine : Fn
  routine = inst_fn args code.function

  abbrev ended : Ended
  ended = F.ended E.row E.al.row E.al.g E.al.d E.al.drops dropped

  abbrev stayed : Stays ended.signature.params ended.kept
  stayed = (stay_dropped (plain (λ _. B E)) no, tt)

  abbrev Fields : RattleType
  Fields = Unboxed.the_row (R E) (P E) E.al.g

  module _ {M : Type 1} {𝓤 : Ura M} (𝓛 : Logic 𝓤) (memory : Memory → SProp 𝓤) (run : Routine → Fun 𝓤) (𝓣 : Tables 𝓤 𝓛.H)
    where
      open 𝓛 use {H}

      abbrev clauses : Clauses 𝓤 ended
      clauses = F.clauses E.row E.al.row E.al.g E.al.d E.al.drops dropped 𝓛 memory run

      abbrev Opening : Contract 𝓤
      Opening =
          triple_of 𝓛 (IntoRaw.signature E.row E.al.row E.al.g E.al.d E.al.drops dropped)
          (IntoRaw.spec E.row E.al.row E.al.g E.al.d E.al.drops dropped 𝓛 memory run)

      walk : Triple 𝓤 (𝓣.C (into_raw_symbol.name args)) Opening
          → (z : (walk_of 𝓛 ended stayed clauses).Ghost)
          → ent 𝓤 ((walk_of 𝓛 ended stayed clauses).pre z)
          (WpFn 𝓤 H 𝓣.C 𝓣.Λ routine (z.0.4.0 ++ []) ((walk_of 𝓛 ended stayed clauses).post z))
      walk opening z =
          let κs = z.0.0 in
          let qs = z.0.1 in
          let boxed = z.0.3.0 in
          let a = boxed.alloc in
          let After = (walk_of 𝓛 ended stayed clauses).post z in
          let lives : Item 𝓤 = ‵ (flft κs.0 qs.0) ⊛ ‵ (flft κs.1.0 qs.1.0) ⊛ ‵ ftrue in
          let alive : Item 𝓤 = raw (fact 𝓤 (κs.0 ⊑ E.row.lives)) ⊛ raw (fact 𝓤 (κs.1.0 ⊑ E.al.row.lives)) ⊛ ‵ ftrue in
          qed 𝓛 ((lives ⊛ ‵ (fsep ((B E).own_val boxed z.0.4.0) ftrue)) ∷ alive ∷ []) ∵
          split ! $ move ! (1 ∷ []) $ fsplit ! $
          box_out E ! boxed z.0.4.0 (λ b o handle lies is_word fits.
          box_in E ! boxed b o boxed.value lies refl $
          let w = word E handle b o in
          let called : Opening.Ghost = ((κs, qs, tt, (boxed, tt), (w ∷ [], tt)), tt) in
          let Γ : List (Item 𝓤) = ‵ ((B E).own_val boxed (w ∷ [])) ∷ ‵ ftrue ∷ lives ∷ alive ∷ [] in
          by !
          (subst (λ (vs : List Val). ent 𝓤 (types.Kit.⋆ 𝓛 Γ) (WpFn 𝓤 H 𝓣.C 𝓣.Λ routine (vs ++ []) After)) (sym is_word)
          (qed 𝓛 Γ ∵ enter ! 𝓣.C 𝓣.Λ routine (w ∷ []) _ $
          alloc_all ! (λ ls. pass_all ! refl (box_typed E handle b o fits, tt) $
          -- the call
          sets ! (of_opd ! (get ! refl)) refl (box_typed E handle b o fits) $
          fjoin ! $ move ! (1 ∷ 0 ∷ []) $ join ! $ join ! $ use1 𝓛 (raw (Opening.pre called)) (id⊢ 𝓤 _) $
          calls_at ! (fm_of 𝓤 H 𝓛.laws 𝓣) Opening opening called (and_then ! (get ! refl) (no_more !)) (λ u.
          use1 𝓛 (later (some (λ (r : Ptr × E.al.row.Denot).
          (lives ⊛ ‵ ((Tuple (RawPtr ∷ P E ∷ [])).own_val r (u ∷ [])))
          ⊛ some
          (λ (_ : (Unit {0} × (Unit {0} × Unit {0})) × Unit {0}). ‵ (fsep (fsep ftrue (fsep ftrue ftrue)) ftrue) ⊛
          (raw (fact 𝓤 (r.1 ≡ a)) ⊛ ‵ (box_owns (token E.al a) (R E) r.0 boxed.value))))))
          (id⊢ 𝓤 _) $
          await ! tt $ pick !
          (λ r. split ! $ move ! (1 ∷ []) $ pick ! (λ _. split3 ! $ drop ! $ heard ! (r.1 ≡ a) (λ same.
          -- the pointer is to a block, and the pair's bits are those of its two parts
          in_a_block ! r.0 (λ p. box_owns (token E.al a) (R E) p boxed.value)
          (fst∗ 𝓤 (never 𝓤) (sem 𝓛 (token E.al a (bare (τ E)) null_ptr))) (λ b' o' lies'.
          move ! (1 ∷ []) $ split ! $ move ! (1 ∷ []) $
          fpick ! (λ parts. fsplit ! $ feq_l ! (λ is_pair. fsplit ! $ feq_l ! (λ is_ptr. fsplit ! $
          rewrite ! 0 (λ (s : E.al.row.Denot). ‵ (E.al.row.own_val s parts.1.0)) same refl $
          handle_tells E.al ! a parts.1.0 (λ handle' is_handle fits'.
          let parted : D E = record { ptr = block_ptr b' o'; alloc = a; value = boxed.value } in
          let made : Fields.Denot = record { at = block_ptr b' o'; alloc = a; held = boxed.value } in
          lands_as !
          (ap only
          (is_pair
          ∙ (λ j. vstruct (of_list ((is_ptr ∙ ap (λ (p : Ptr). ptr_val p ∷ []) lies') j ++ (is_handle j ++ [])))
          ∷ [])))
          refl (box_typed E handle' b' o' fits') $
          -- `let (at, alloc) = ..`, and the struct of both
          sets ! (of_opd ! (get_in ! (fld ! refl (stop !)) (sub ! 0 refl (whole !)))) refl (tt, tt) $
          sets ! (of_opd ! (get_in ! (fld ! refl (stop !)) (sub ! 1 refl (whole !)))) refl fits' $
          sets ! (of_opd ! (get ! refl)) refl fits' $
          sets ! (agg ! (and_then ! (get ! refl) (and_then ! (get ! refl) (no_more !)))) refl
          (box_typed E handle' b' o' fits') $
          returns ! (look_at ! 0 refl) $ free_all ! refl $
          move ! (3 ∷ []) $ fsplit ! $ box_in E ! parted b' o' boxed.value refl refl $
          use1 𝓛 (‵ (Fields.own_val made (word E handle' b' o' ∷ []))) (id⊢ 𝓤 _) $ move ! (1 ∷ []) $ drop ! $
          suffices ! _ (ends_at 𝓛 ended stayed clauses z (word E handle' b' o') made ((tt, (tt, tt)), tt) (tt, tt)) $ says
          ! refl $
          nothing ! $ nothing ! $ fjoin ! $ join ! $ move ! (1 ∷ 0 ∷ []) $ join ! $ done !)))))))))))))

pub of_spec : {M : Type 1} → stated.statement M
unfolding tables_of
of_spec 𝓤 𝓛 𝓜 𝓡 wired T A T_laws A_laws g d drops dropped allocator met glue =
    let E : Bx =
    record { row = T; laws = T_laws; al = record { row = A; laws = A_laws; g = g; d = d; drops = drops } } in
    let 𝓣 : Tables 𝓤 𝓛.H = tables_of 𝓤 𝓛.H 𝓜 (tables 𝓤 𝓛.H 𝓜 𝓡 𝓡.env) in
    let fn = routine E dropped in
    entered 𝓤 𝓛.H (triple_of 𝓛 (ended E dropped).signature (F.spec T A g d drops dropped 𝓛 𝓜.mem 𝓡.returns)) 𝓣.C 𝓣.Λ
    (#of (args E dropped)) fn (code.unfolded 𝓤 𝓛.H 𝓜 𝓡 wired (T, (A, tt)) d drops dropped)
    (walk_Meets 𝓛 (ended E dropped) (stayed E dropped) (Goes-blank 𝓛 2 (plain (λ _. B E)) no (λ κs x f. tt), tt)
    (clauses E dropped 𝓛 𝓜.mem 𝓡.returns 𝓣) (WpFn 𝓤 𝓛.H 𝓣.C 𝓣.Λ fn) (WpFn-mono 𝓤 𝓛.H 𝓛.laws 𝓣 fn)
    (walk E dropped 𝓛 𝓜.mem 𝓡.returns 𝓣
    (into_raw.met 𝓤 𝓛 𝓜 𝓡 (code.calls-std_alloc::boxed::Box::into_raw_with_allocator 𝓡.env wired) T A T_laws A_laws g
    d drops dropped allocator met glue)))
