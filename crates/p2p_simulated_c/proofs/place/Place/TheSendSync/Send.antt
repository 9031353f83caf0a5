-- A place may go to another thread: what it owns may, and any thread may give its memory back.
use mir.Raw.{raw}
use denote.Memory.{lone}
use Rattle.p2p_simulated_c.proofs.Common.{Ptr, shape, Option, None}
use denote.Struct.Struct.{exits_of}
use denote.Struct.Owning.{fields, to}
use denote.Param.Send.{IsSend, AllSend, owning_send, struct_send, sendable}
use base.Shift.{Keyless}
use Rattle.std.specs.Prelude.{Some}
use Rattle.std.specs.Global.{Global}
use Rattle.std.proofs.Crossing as heap
use Rattle.std_alloc.proofs.SendSync.{quiet, lies}
use Rattle.std_heap.proofs.Global.TheSendSync as handle
use Rattle.p2p_simulated_c.specs.Place.{place_owns}
use Rattle.p2p_simulated_c.specs.contracts.opened.Opened as Opened
use Rattle.p2p_simulated_c.proofs.opened.Opened.TheSendSync.{the_send as opened}
use Rattle.p2p_simulated_c.specs.contracts.place.Place.{the_row, the_type}

-- what it owns is bound to no thread
owned : (alloc : Global) (at : Ptr) (place : Option Opened.the_row.Denot) → Keyless (place_owns alloc at place)
owned alloc at None = tt
owned alloc at (Some scheduler) =
    (lies Opened.the_row opened at scheduler, heap.frees.frees alloc (raw (lone Opened.the_row.mir)) at)

pub send : IsSend the_row
send =
    let all : AllSend (fields the_type) = (search sendable, (handle.the_field_send, tt)) in
    owning_send the_type all (λ place. owned place.alloc place.at place.opened)
    (λ k. quiet (to the_type) (exits_of k (fields the_type)) ((struct_send (shape the_type) all).leaving k))
