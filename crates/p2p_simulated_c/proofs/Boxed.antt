-- The box of an open scheduler, as the steps of std on boxes see it, and the rows of what passes it on.
use Rattle.p2p_simulated_c.proofs.Common.{dnil, plain, Option, None, IsSome, Bx}
use mir.Syntax.{impl, tnil}
use mathlib.Core.Path.{◌≡◌, refl}
use mathlib.Core.List.{[]}
use denote.Signature.{Slot}
use Rattle.std.specs.Prelude.{Some}
use Rattle.std_heap.specs.contracts.Global as Heap
use Rattle.std_heap.specs.contracts.GlobalAllocator.TheImpl.{ghosts, dict}
use Rattle.std_heap.proofs.Global.TheLaws as heap
use Rattle.p2p_simulated_c.specs.contracts.opened.Opened as Opened
use Rattle.p2p_simulated_c.proofs.opened.Opened.TheLaws as opened
use Rattle.p2p_simulated_c.specs.contracts.place.Place as Place
use Rattle.p2p_simulated_c.specs.contracts.unboxed.Unboxed as Unboxed

-- a box of an open scheduler, from the heap
abbrev pub Boxed : Bx
Boxed = record {
  row = Opened.the_row;
  laws = opened.the_row_laws;
  al = record { row = Heap.the_row; laws = heap.the_row_laws; g = ghosts; d = dict; drops = impl [] tnil dnil };
}

abbrev pub of_heap : Slot 0
of_heap = plain (λ _. Heap.the_row)

abbrev pub of_unboxed : Slot 0
of_unboxed = plain (λ _. Unboxed.the_row Opened.the_row Heap.the_row ghosts)

abbrev pub of_place : Slot 0
of_place = plain (λ _. Place.the_row)

-- what is there
pub the_some : {X : Type 0} (place : Option X) → IsSome place → (x : X) × (place ≡ Some x)
the_some None there = cc
the_some (Some x) there = (x, refl)
