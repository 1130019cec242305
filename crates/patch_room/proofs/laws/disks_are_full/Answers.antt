use Rattle.patch_room.proofs.Counting.{disks_are_full}
use Rattle.patch_room.proofs.laws.disks_are_full.Goals as goal

pub returns : goal.returns
returns c = λ h len legal fits none worth.
    let given = c.laws_below.ensures in
    disks_are_full _ len (record {
      some = (given.extents h legal).whole.geometry.some_extents;
      begun = (given.agree h legal).begun;
    }) fits none worth
