-- A world that lines of a script change: what they make of the blocks, of the groups of their patches, and of their disk.
use Rattle.std.specs.Prelude.{ℕ, ◌++◌, List, [], map, slice_set, Some, None, if◌then◌else◌}
use Rattle.patch_model.specs.Execution.{Execution}
use Rattle.patch_model.specs.History.{history_of, image}
use Rattle.patch_device.specs.Blocks.{zeros}
use Rattle.patch_cache.specs.Asks.{Ask as CacheAsk, Create, Merge, Send, Complete, View}
use Rattle.patch_cache.specs.declared.asks.Move.{Move}
use Rattle.patch_cache.specs.declared.asks.Move.TheVariants.{Take, Back}
use Rattle.patch_plans.specs.Groups.{Groups, no_groups}
use Rattle.patch_group.specs.Asks.{Ask, Answer, plain_of, is_refused, run_after, groups_after}

-- an execution, the groups of its patches, and a disk that is a plain list of blocks
pub record World : Type 0 where
  pub run : Execution
  pub groups : Groups
  pub disk : List (List ℕ)

-- so many blocks of zeros with no patch and no group yet, and a disk of zeros
abbrev pub start : ℕ → World
start blocks = record { run = record { first = zeros blocks; steps = [] }; groups = no_groups; disk = zeros blocks }

-- all takes in their order, and then the puts back in theirs
abbrev pub moves_of : (take back : List ℕ) → List Move
moves_of take back = map Take take ++ map Back back

-- the disk with what an ask of the cache writes: a completion puts the image in its block
abbrev pub written : Execution → List (List ℕ) → CacheAsk → List (List ℕ)
written run disk (Complete block) = slice_set disk block (image (history_of run block))
written run disk (Create block start bytes after undo) = disk
written run disk (Merge a b) = disk
written run disk (Send block) = disk
written run disk (View block moves start len) = disk

-- the disk after an ask that was answered so, which a refused one leaves as it is
abbrev pub disk_after : World → Ask → Answer → List (List ℕ)
disk_after w ask answer =
    if is_refused answer then w.disk else elim (plain_of w.groups ask) [ Some plain ↦ written w.run w.disk plain | None ↦ w.disk ]

-- the world after it
abbrev pub after : World → Ask → Answer → World
after w ask answer = record { run = run_after w.run w.groups ask answer; groups = groups_after w.groups ask answer; disk = disk_after w ask answer }
