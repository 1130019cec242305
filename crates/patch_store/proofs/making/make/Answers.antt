use Rattle.std.proofs.Common.{refl, sym, subst}
use Rattle.patch_frame.specs.Superblock.{spelling}
use Rattle.patch_store.specs.Making.{IsNewDisk}
use Rattle.patch_store.proofs.Disks.{new_reads}
use Rattle.patch_store.proofs.making.make.Goals as goal

pub returns-in-Ok-clause-reads : goal.returns-in-Ok-clause-reads
returns-in-Ok-clause-reads g c =
    let valid = c.if-not-is_valid.ensures.fact.0 refl in
    subst (IsNewDisk c.args.geometry) (sym c.in-Ok.ensures)
    (new_reads c.args.geometry (spelling c.args.geometry) valid (c.superblocks_are_read_again.ensures.read c.args.geometry valid))
