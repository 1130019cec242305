-- What a view sees.
use Rattle.std.specs.Borrow.{GName}
use Rattle.patch_stacks.specs.State.{Block}
use Rattle.patch_view.specs.declared.views.BlockView.{BlockView}

-- the records that it lends
abbrev pub seen_by : {A : Type 0} → BlockView A → Block
seen_by v = v.state.now

-- which borrow it is
abbrev pub borrow_of : {A : Type 0} → BlockView A → GName
borrow_of v = v.state.ghost_name
