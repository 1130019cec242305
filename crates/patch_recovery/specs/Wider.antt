-- What an upgrade makes of how a disk is divided: it widens the limits and moves nothing. The lemmas of every crate's
-- proofs.
use Rattle.std.proofs.Common.{◌≡◌, ◌≤◌, ◌⊎◌, inl, inr, refl, arith}
use Rattle.patch_frame.specs.declared.geometries.Format.TheVariants.{One}
use Rattle.patch_frame.specs.declared.geometries.Geometry.{Geometry}
use Rattle.patch_frame.specs.Geometry.{IsFormat, IsGeometry, value_limit, longest_frame, largest_pointer, slot_count}
use Rattle.patch_frame.specs.Geometry.{block_count}
use Rattle.patch_recovery.specs.Change.{widened}

-- the one geometry, or the one that an upgrade makes of it
abbrev pub Wider : Geometry → Geometry → Type 0
Wider g h = (h ≡ g) ⊎ ((g.format ≡ One) × (h ≡ widened g))

-- what an upgrade may change of the limits
pub record Limits (g h : Geometry) : Type 0 where
  pub index : h.index ≡ g.index
  pub extents : h.extents ≡ g.extents
  pub slots : slot_count h ≡ slot_count g
  pub blocks : block_count h ≡ block_count g
  pub pointer : largest_pointer h.format ≡ largest_pointer g.format
  pub value : value_limit g.format ≤ value_limit h.format
  pub frame : longest_frame g.format ≤ longest_frame h.format

-- each geometry that an upgrade leaves keeps these
pub limits_of : (g h : Geometry) → Wider g h → Limits g h
limits_of g h (inl e) = rw e (record {
  index = refl;
  extents = refl;
  slots = refl;
  blocks = refl;
  pointer = refl;
  value = omega arith;
  frame = omega arith;
})
limits_of g h (inr w) = rw (w.1) (record {
  index = refl;
  extents = refl;
  slots = refl;
  blocks = rw (w.0) refl;
  pointer = rw (w.0) refl;
  value = rw (w.0) (omega arith);
  frame = rw (w.0) (omega arith);
})

-- an upgrade leaves a format that there may be
pub format_kept : (g h : Geometry) → IsFormat g.format → Wider g h → IsFormat h.format
format_kept g h is (inl e) = rw e is
format_kept g h is (inr w) = rw (w.1) (omega arith, omega arith)

-- and a geometry
pub geometry_kept : (g h : Geometry) → IsGeometry g → Wider g h → IsGeometry h
geometry_kept g h is w =
    let limits = limits_of g h w in
    let index = limits.index in
    let extents = limits.extents in
    let blocks = limits.blocks in
    let some_index = is.some_index in
    let short_index = is.short_index in
    let some_extents = is.some_extents in
    let few_extents = is.few_extents in
    let few_blocks = is.blocks in
    record {
      some_index = omega arith;
      short_index = omega arith;
      some_extents = omega arith;
      few_extents = omega arith;
      format = format_kept g h is.format w;
      blocks = omega arith;
    }
