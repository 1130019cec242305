-- A raw box and a sealed cache own what a box at the same types owns.
use mir.Syntax.{impl, tnil, dnil}
use mathlib.Core.List.{[]}
use denote.Signature.{Slot, plain}
use Rattle.std_alloc.proofs.BoxSteps.Form.{Bx}
use Rattle.std_heap.specs.contracts.Global as Heap
use Rattle.std_heap.specs.contracts.GlobalAllocator.TheImpl.{ghosts, dict}
use Rattle.std_heap.proofs.Global.TheLaws as heap
use Rattle.patch_handles.specs.contracts.raw_box.RawBox as RawBox
use Rattle.patch_engine_c.specs.contracts.opened.Opened as Opened
use Rattle.patch_engine_c.proofs.opened.Opened.TheLaws as opened
use Rattle.patch_engine_c.specs.contracts.sealed.Sealed as Sealed

-- a box of an open cache, in the C library's memory
abbrev pub E : Bx
E = record {
  row = Opened.the_row;
  laws = opened.the_row_laws;
  al = record { row = Heap.the_row; laws = heap.the_row_laws; g = ghosts; d = dict; drops = impl [] tnil dnil };
}

abbrev pub FromRaw : Slot 0
FromRaw = plain (λ _. RawBox.the_row Opened.the_row Heap.the_row ghosts)

abbrev pub FromSealed : Slot 0
FromSealed = plain (λ _. Sealed.the_row)
