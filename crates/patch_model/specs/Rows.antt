-- Small executions, on short blocks of zeros.
use Rattle.std.specs.Prelude.{ℕ, List, [], ◌∷◌, replicate}
use Rattle.patch_model.specs.declared.patches.Undo.TheVariants.{Keep, MayDrop}
use Rattle.patch_model.specs.Step.{Step, Create, Merge, Send, Complete}
use Rattle.patch_model.specs.Execution.{Execution}

abbrev pub patch : ℕ → ℕ → List ℕ → List ℕ → Step
patch block start bytes after = Create block start bytes after Keep

-- so many blocks of so many zeros, and these steps
abbrev pub on_zeros : ℕ → ℕ → List Step → Execution
on_zeros blocks bytes steps = record { first = replicate blocks (replicate bytes 0); steps = steps }

-- b over the last two bytes of a
abbrev pub overlapping : Execution
overlapping = on_zeros 1 6 (patch 0 0 (0xa1 ∷ 0xa2 ∷ 0xa3 ∷ 0xa4 ∷ []) [] ∷ patch 0 2 (0xb1 ∷ 0xb2 ∷ 0xb3 ∷ 0xb4 ∷ []) [] ∷ [])

abbrev pub apart : Execution
apart = on_zeros 1 9 (patch 0 0 (0xaa ∷ []) [] ∷ patch 0 4 (0xbb ∷ []) [] ∷ patch 0 8 (0xcc ∷ []) [] ∷ [])

-- the block 0 waits for the block 1, and its other patch doesn't
abbrev pub to_and_fro : List Step
to_and_fro = patch 0 0 (0xaa ∷ []) [] ∷ patch 1 0 (0xbb ∷ []) (0 ∷ []) ∷ patch 0 1 (0xcc ∷ []) (1 ∷ []) ∷ []

abbrev pub late_durable : Execution
late_durable = on_zeros 2 5 (patch 1 0 (0xdd ∷ []) [] ∷ patch 0 0 (0xaa ∷ []) (0 ∷ []) ∷ patch 0 4 (0xbb ∷ []) [] ∷ Send 0 ∷ Complete 0 ∷ [])

abbrev pub over_flight : Execution
over_flight = on_zeros 1 1 (patch 0 0 (0x11 ∷ []) [] ∷ Send 0 ∷ patch 0 0 (0x22 ∷ []) [] ∷ [])

abbrev pub merged_round : Execution
merged_round = on_zeros 1 6 (patch 0 0 (0xaa ∷ 0xaa ∷ []) [] ∷ patch 0 4 (0xbb ∷ 0xbb ∷ []) [] ∷ patch 0 2 (0xcc ∷ 0xcc ∷ 0xcc ∷ []) [] ∷ Merge 0 2 ∷ [])

-- a middle one between two that touch it
abbrev pub in_a_row : Execution
in_a_row = on_zeros 1 8 (patch 0 0 (1 ∷ 1 ∷ 1 ∷ 1 ∷ []) [] ∷ patch 0 2 (2 ∷ 2 ∷ 2 ∷ 2 ∷ []) [] ∷ patch 0 4 (3 ∷ 3 ∷ 3 ∷ 3 ∷ []) [] ∷ [])

abbrev pub beside : Execution
beside = on_zeros 1 4 (patch 0 0 (0xaa ∷ []) [] ∷ patch 0 1 (0xbb ∷ []) [] ∷ [])

abbrev pub with_gap : Execution
with_gap = on_zeros 1 4 (patch 0 0 (0xaa ∷ []) [] ∷ patch 0 2 (0xbb ∷ []) [] ∷ [])

-- a path that leaves the block and comes back
abbrev pub by_other_blocks : Execution
by_other_blocks = on_zeros 3 2 (patch 0 0 (0xaa ∷ []) [] ∷ patch 1 0 (0xbb ∷ []) (0 ∷ []) ∷ patch 2 0 (0xcc ∷ []) (1 ∷ []) ∷ patch 0 1 (0xdd ∷ []) (2 ∷ []) ∷ [])

abbrev pub dropping : Execution
dropping = record { first = (0 ∷ []) ∷ []; steps = Create 0 0 (0x11 ∷ []) [] MayDrop ∷ Create 0 0 (0x22 ∷ []) [] MayDrop ∷ [] }

-- a block of its whole length
abbrev pub whole_length : Execution
whole_length = on_zeros 1 4096 (patch 0 0 (0xa1 ∷ 0xa2 ∷ 0xa3 ∷ 0xa4 ∷ []) [] ∷ patch 0 4093 (0xb1 ∷ 0xb2 ∷ []) [] ∷ [])

abbrev pub may_drop : ℕ → ℕ → List ℕ → List ℕ → Step
may_drop block start bytes after = Create block start bytes after MayDrop

-- hard over hard, over one of another block, over one that is kept, and over one in flight
abbrev pub hard_ones : Execution
hard_ones = on_zeros 2 4 (may_drop 0 0 (1 ∷ []) [] ∷ may_drop 0 0 (2 ∷ 2 ∷ []) [] ∷ may_drop 1 0 (3 ∷ []) (0 ∷ []) ∷ patch 0 3 (4 ∷ []) [] ∷ may_drop 0 3 (5 ∷ []) [] ∷ Send 0 ∷ may_drop 0 0 (6 ∷ []) [] ∷ [])

-- each kind of step, on blocks of their whole length
abbrev pub each_step : Execution
each_step = on_zeros 1 4096 (patch 0 0 (0xaa ∷ []) [] ∷ patch 0 1 (0xbb ∷ []) (0 ∷ []) ∷ Merge 0 1 ∷ Send 0 ∷ patch 0 0 (0xcc ∷ []) [] ∷ Complete 0 ∷ [])
