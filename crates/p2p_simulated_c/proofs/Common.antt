-- The names that most proofs of this crate cite, passed on from one place. Declares nothing.
pub use Rattle.core.proofs.alloc.Calls.{handle_tells, token, Goes-blank}
pub use Rattle.fairness.specs.declared.bandwidth.Rate.{Rate}
pub use Rattle.fairness.specs.declared.error.Error.{Error}
pub use Rattle.fairness.specs.declared.error.Error.TheVariants.{OutOfMemory, NumberTooLarge}
pub use Rattle.link_pairs.specs.Pairs.Entries.{pair_cmp}
pub use Rattle.link_pairs.specs.declared.completion.Completion.{Completion}
pub use Rattle.link_scheduler.specs.Calls.State.{IsMade, IsRefused, planned_of}
pub use Rattle.link_simulation.specs.Simulation.Calls.{Call, moment_of, call_enqueue_all}
pub use Rattle.p2p_simulated_c.specs.Completions.{records_from}
pub use Rattle.p2p_simulated_c.specs.Flights.{flight_of}
pub use Rattle.p2p_simulated_c.specs.Plan.{flow_of, record_of_rate, IsPlan, MayRefusePlan, caps_of_records, link_cap}
pub use Rattle.p2p_simulated_c.specs.Plan.{peer_cap, rates_of}
pub use Rattle.p2p_simulated_c.specs.Planning.{caps_in}
pub use Rattle.p2p_simulated_c.specs.Routes.{lists, routes_of}
pub use Rattle.p2p_simulated_c.specs.Written.{written}
pub use Rattle.p2p_simulated_c.specs.declared.opened.Opened.{Opened}
pub use Rattle.p2p_simulated_c.specs.declared.routes.Hop.{Hop}
pub use Rattle.std.proofs.Common.{◌≡◌, refl, ◌∙◌, take, ap, sym, arith, map, ◌++◌, length, ℕ, List, [], drop, ◌<◌, ◌∷◌}
pub use Rattle.std.proofs.Common.{Some, inl, subst, get_or, replicate, ◌+◌, min, inr, ◌-◌, IfOk, IfErr, Bool, true, ◌≤◌}
pub use Rattle.std.proofs.Common.{append-nil, length-take, length-append, Ok, Err, ◌==◌, false, cond, set, ap₂, All}
pub use Rattle.std.proofs.lemmas.List.{length-map, get_or-map, take_more, take_all, map-append, drop_all}
pub use Rattle.std.proofs.lemmas.List.{length-replicate}
pub use Rattle.std.proofs.lemmas.Result.{IfOk-weaker, IfErr-weaker}
pub use Rattle.std.specs.BTreeMap.{get}
pub use Rattle.std.specs.Ordering.{nat_cmp}
pub use Rattle.std.specs.Prelude.{Option, None, IsSome}
pub use Rattle.std.specs.declared.alloc.Global.{Global}
pub use Rattle.std.specs.declared.vec.Vec.{Vec}
pub use Rattle.std_alloc.proofs.BoxSteps.Form.{D, B, word, box_typed, Bx, P, R}
pub use Rattle.std_alloc.proofs.BoxSteps.Steps.{box_out, box_in}
pub use Rattle.std_alloc.specs.Box.Ownership.{box_owns}
pub use base.Fml.{ftrue, fsep, flft}
pub use base.Logic.{SProp, ent, id⊢, emp}
pub use contract.BorrowLft.{◌⊑◌}
pub use contract.Monad.{Fun, fact}
pub use contract.Running.{tables}
pub use denote.Exit.{yes, no}
pub use denote.RattleType.{RattleType}
pub use denote.RawPtr.{Ptr, null_ptr, block_ptr}
pub use denote.Signature.{plain, type_at}
pub use denote.Steps.{nothing, heard, only}
pub use denote.Struct.Owning.{shape}
pub use denote.Triple.Clauses.{Ended, Clauses}
pub use denote.Triple.Spec.{triple_of}
pub use denote.Triple.Statement.{Triple, Contract}
pub use denote.Triple.Table.{entered}
pub use denote.Triple.Walked.{says, Stays, stay_dropped, walk_of, ends_at, walk_Meets, Goes-dropped}
pub use lib.Dec.{T}
pub use mir.MapTy.{inst_fn}
pub use mir.Syntax.{dnil, Fn}
pub use mir.Val.{Val, vstruct, has_ty, WT}
pub use prog.Memory.{Memory}
pub use prog.Routine.{Routine}
pub use prog.Wp.{WpFn, Tables}
pub use seplogic.Ra.Ura.{Ura}
pub use sound.WpLaws.{WpFn-mono, fm_of}
pub use types.ByLocal.{alloc_all, pass_all, free_all, look_at, sets, get_in}
pub use types.Kit.{Item, ‵, raw, ◌⊛◌, ◌$◌, ◌∵◌, !, qed, by, move, use1, join, split, fsplit, fjoin, suffices, done}
pub use types.Kit.{rewrite, feq_i, some, later, split3, pick, await}
pub use types.Logic.{Logic}
pub use types.Part.{whole, sub, agg}
pub use types.Run.{no_more, and_then, returns, enter, stop, fld, of_opd}
