use Rattle.std.proofs.Common.{subst, arith}
use Rattle.patch_frame.specs.Geometry.{IsFormat}
use Rattle.patch_extent.proofs.NextStep.{most_bytes}
use Rattle.patch_extent.proofs.extents.Extents.lay_record.Goals as goal

pub write_pointer-record-requires : goal.write_pointer-record-requires
write_pointer-record-requires g c =
    let most = most_bytes c.args.self.now.geometry.format (subst (λ s. IsFormat s.geometry.format) c.self.view_is c.self.invariant.0.geometry.format) in
    let fits = c.requires.fits.offset in
    record { generation = c.requires.fits.generation; offset = omega (arith, most, fits) }
