use Rattle.std.proofs.Common.{◌≡◌, drop, refl}
use Rattle.patch_frame.specs.Field.{zeros}
use Rattle.patch_frame.proofs.Parts.{drop-zeros}
use Rattle.patch_frame.proofs.laws.versions_differ_in_sixteen_bytes.Goals as goal

pub returns-clause-bytes : goal.returns-clause-bytes
returns-clause-bytes c = λ index extents.
    let shorter : drop 4 (zeros 4076) ≡ zeros 4072 = drop-zeros 4 4076 in
    rw shorter refl
