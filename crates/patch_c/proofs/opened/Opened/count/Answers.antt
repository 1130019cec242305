use Rattle.std.proofs.Common.{◌≡◌, length, inl, arith}
use Rattle.patch_c.proofs.Reported.{counted_so}
use Rattle.patch_c.proofs.opened.Opened.count.Goals as goal

pub returns : goal.returns
returns c h represents =
    let entries = c.in-Ok.report.entries in
    let extents = c.in-Ok.report.extents in
    let keys_are : c.in-Ok-try_from.keys ≡ length entries.items = omega (arith, entries.ok.0, c.len.ensures, c.in-Ok-try_from.ensures.1) in
    let count_is : c.in-Ok-try_from-2.reported ≡ length extents.items = omega (arith, extents.ok.0, c.len-2.ensures, c.in-Ok-try_from-2.ensures.1) in
    inl (counted_so h entries.items extents.items _ _ (c.in-Ok.ensures.entries h represents) (c.in-Ok.ensures.extents h represents) keys_are count_is)
