-- What is read has passed the tests: the lemmas of every crate's proofs.
use Rattle.std.proofs.Common.{◌≡◌, true, false, Bool, List, ◌∷◌, Result, Ok, refl}
use Rattle.std.specs.Prelude.{◌&&◌, nat_le}
use Rattle.std.proofs.lemmas.Bool.{leb-true, and_parts}
use Rattle.patch_frame.specs.declared.geometries.Format.{Format}
use Rattle.patch_frame.specs.declared.geometries.Format.TheVariants.{One, Two}
use Rattle.patch_frame.specs.declared.geometries.Geometry.{Geometry}
use Rattle.patch_frame.specs.Field.{outcome}
use Rattle.patch_frame.specs.Geometry.{block_count, is_format, is_geometry, IsFormat, IsGeometry}

abbrev done : {X E : Type 0} → X → Result X E
done x = Ok x

-- one thing is read
pub read_is : {X E : Type 0} (x y : X) → done {E = E} x ≡ done y → x ≡ y
read_is x y h = cc

-- what is read has passed the first test
pub passed : {X E : Type 0} (b : Bool) (e : E) (tests : List (Bool × E)) (x y : X) → outcome ((b, e) ∷ tests) x ≡ Ok y → (b ≡ false) × (outcome tests x ≡ Ok y)
passed true e tests x y h = absurd cc
passed false e tests x y h = (refl, h)

pub IsFormat-at : (f : Format) → is_format f ≡ true → IsFormat f
IsFormat-at One h = tt
IsFormat-at (Two x) h = let p = and_parts (nat_le 16 x) (nat_le x 64) h in (leb-true 16 x p.0, leb-true x 64 p.1)

pub IsGeometry-at : (g : Geometry) → is_geometry g ≡ true → IsGeometry g
IsGeometry-at g h =
    let p5 = and_parts (nat_le 1 g.index && nat_le g.index 16 && nat_le 2 g.extents && nat_le g.extents 254 && is_format g.format) (nat_le (block_count g) 4096) h in
    let p4 = and_parts (nat_le 1 g.index && nat_le g.index 16 && nat_le 2 g.extents && nat_le g.extents 254) (is_format g.format) p5.0 in
    let p3 = and_parts (nat_le 1 g.index && nat_le g.index 16 && nat_le 2 g.extents) (nat_le g.extents 254) p4.0 in
    let p2 = and_parts (nat_le 1 g.index && nat_le g.index 16) (nat_le 2 g.extents) p3.0 in
    let p1 = and_parts (nat_le 1 g.index) (nat_le g.index 16) p2.0 in
    record {
      some_index = leb-true _ _ p1.0;
      short_index = leb-true _ _ p1.1;
      some_extents = leb-true _ _ p2.1;
      few_extents = leb-true _ _ p3.1;
      format = IsFormat-at g.format p4.1;
      blocks = leb-true _ _ p5.1;
    }
