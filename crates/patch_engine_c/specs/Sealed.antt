-- What a sealed cache owns: nothing, or what a box of an open cache does.
use Rattle.std.specs.Coded.{coded_option}
use Rattle.std.specs.Prelude.{Option, Some, None}
use base.Fml.{Fml, ftrue}
use base.Stored.{Coded}
use denote.RawPtr.{Ptr}
use Rattle.std.specs.Box.Ownership.{box_owns}
use Rattle.std.specs.Global.{Global}
use Rattle.std_heap.specs.contracts.GlobalAllocator.TheImpl.{ghosts}
use Rattle.patch_engine_c.specs.contracts.opened.Opened.{the_row}

abbrev pub sealed_owns : Global → Ptr → Option the_row.Denot → Fml
sealed_owns alloc at None = ftrue
sealed_owns alloc at (Some opened) = box_owns (ghosts.dealloc_token alloc) the_row at opened

abbrev pub opened_coded : Coded (Option the_row.Denot)
opened_coded = coded_option the_row.coded
