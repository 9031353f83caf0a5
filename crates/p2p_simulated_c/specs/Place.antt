-- What a place owns: a box of an open scheduler, or nothing.
use base.Fml.{Fml, ftrue}
use base.Stored.{Coded}
use denote.RawPtr.{Ptr}
use Rattle.std.specs.Prelude.{Option, Some, None}
use Rattle.std.specs.Coded.{coded_option}
use Rattle.std.specs.Box.Ownership.{box_owns}
use Rattle.std.specs.Global.{Global}
use Rattle.std_heap.specs.contracts.GlobalAllocator.TheImpl.{ghosts}
use Rattle.p2p_simulated_c.specs.contracts.opened.Opened.{the_row}

-- a box of the scheduler that is there, and nothing where none is
abbrev pub place_owns : Global → Ptr → Option the_row.Denot → Fml
place_owns alloc at (Some opened) = box_owns (ghosts.dealloc_token alloc) the_row at opened
place_owns alloc at None = ftrue

abbrev pub place_coded : Coded (Option the_row.Denot)
place_coded = coded_option the_row.coded
