-- How the limits of a version agree.
use Rattle.std.proofs.Common.{◌≤◌, arith}
use Rattle.patch_frame.specs.declared.geometries.Format.{Format}
use Rattle.patch_frame.specs.declared.geometries.Format.TheVariants.{One, Two}
use Rattle.patch_frame.specs.declared.pointers.TheConstants.{MAX_POINTER}
use Rattle.patch_frame.specs.Frame.{Content, Fits, length_of}
use Rattle.patch_frame.specs.Geometry.{IsFormat, value_limit, longest_frame, largest_pointer}

pub fits_extents : (f : Format) (c : Content) → IsFormat f → Fits (value_limit f) c → (17 ≤ length_of c) × (length_of c ≤ longest_frame f) × (length_of c ≤ largest_pointer f)
fits_extents One c is fits =
    let some = fits.some_key in
    let short = fits.short_key in
    let value = fits.short_value in
    (omega arith, omega arith, omega arith)
fits_extents (Two x) c is fits =
    let low = is.0 in
    let high = is.1 in
    let some = fits.some_key in
    let short = fits.short_key in
    let value = fits.short_value in
    (omega arith, omega arith, omega arith)

pub largest_of_all : (f : Format) → IsFormat f → largest_pointer f ≤ MAX_POINTER
largest_of_all One is = omega arith
largest_of_all (Two x) is = let high = is.1 in omega arith
