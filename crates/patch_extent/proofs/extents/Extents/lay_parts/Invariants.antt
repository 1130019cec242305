use Rattle.std.proofs.Common.{[]}
use Rattle.patch_model.specs.Execution.{Execution}
use Rattle.patch_extent.specs.Answers.{setting, asked, IsSettingOf, AreMade}
use Rattle.patch_extent.specs.Appending.{parts_of}
use Rattle.patch_extent.proofs.extents.Extents.lay_parts.Given as goal

-- the first parts were made
abbrev pub invariant-loop-k : goal.invariant-loop-k
invariant-loop-k g l =
    let old = setting l.self l.fn.groups l.fn.cache in
    (run : Execution) → IsSettingOf old run
    → AreMade run l.writer [] (parts_of old (asked l.writer l.extent l.bytes l.fn.names) l.k) old (setting l.self l.groups l.cache)
