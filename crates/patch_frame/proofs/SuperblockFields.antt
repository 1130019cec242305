-- A superblock that is read is spelled so, and what is spelled so is read.
use Rattle.std.proofs.Common.{◌≡◌, ℕ, ◌<◌, ◌≤◌, true, false, not, ◌||◌, eqb, ltb, List, [], ◌++◌, length, drop, slice_range, Result, Ok, Err, refl, sym, ap, subst, ◌∙◌, append_assoc, append-nil, inl, inr, ◌⊎◌, arith}
use Rattle.std.specs.Prelude.{codes, IfOk}
use Rattle.std.specs.Int.{w32, to_be_bytes, from_be_bytes}
use Rattle.std.specs.Str.{bytes_eq}
use Rattle.std.proofs.lemmas.Bool.{ltb-false, le-ltb, le-leb, eqb-true, eqb-false, eq-eqb, ne_eqb, not-false, or_parts, or_from, and_from, cond-true, cond-false, cases_Bool}
use Rattle.std.proofs.lemmas.Nat.{from_be_bytes-to_be_bytes_4}
use Rattle.std.proofs.lemmas.List.{length-append}
use Rattle.patch_frame.specs.Passing.{read_is, passed, IsGeometry-at}
use Rattle.patch_frame.specs.declared.faults.FrameFault.{FrameFault}
use Rattle.patch_frame.specs.declared.faults.FrameFault.TheVariants.{BadMagic, BadValue, NotZero}
use Rattle.patch_frame.specs.declared.geometries.Format.{Format}
use Rattle.patch_frame.specs.declared.geometries.Format.TheVariants.{One, Two}
use Rattle.patch_frame.specs.declared.geometries.Geometry.{Geometry}
use Rattle.patch_frame.specs.Field.{zeros, are_zeros}
use Rattle.patch_frame.specs.Geometry.{version_of, is_format, is_geometry, IsFormat, IsGeometry}
use Rattle.patch_frame.specs.Superblock.{spelling, last_fields, version, format_of, fields_end, geometry_of, superblock_tests, superblock_at}
use Rattle.patch_frame.proofs.Parts.{passes, same_bytes, bytes_same, IsBytes, length-zeros, zeros_are_zeros, number_back, padding_is, nothing_left, field_then, skip, positive, not_zero}

-- ---- the test of a geometry

format_valid : (f : Format) → IsFormat f → is_format f ≡ true
format_valid One h = refl
format_valid (Two x) h = and_from _ _ (le-leb 16 x h.0) (le-leb x 64 h.1)

pub valid_again : (g : Geometry) → IsGeometry g → is_geometry g ≡ true
valid_again g is =
    and_from _ _ (and_from _ _ (and_from _ _ (and_from _ _ (and_from _ _ (le-leb _ _ is.some_index) (le-leb _ _ is.short_index)) (le-leb _ _ is.some_extents)) (le-leb _ _ is.few_extents)) (format_valid g.format is.format)) (le-leb _ _ is.blocks)

-- ---- fields

regroup : (a b c d e : List ℕ) → a ++ b ++ c ++ d ++ e ≡ a ++ (b ++ (c ++ (d ++ e)))
regroup a b c d e = simp append_assoc

spelled_fields : (g : Geometry) → spelling g ≡ codes "FSTCHUNK" ++ (to_be_bytes w32 (version_of g.format) ++ (to_be_bytes w32 g.index ++ (to_be_bytes w32 g.extents ++ last_fields g.format)))
spelled_fields g = regroup (codes "FSTCHUNK") (to_be_bytes w32 (version_of g.format)) (to_be_bytes w32 g.index) (to_be_bytes w32 g.extents) (last_fields g.format)

length-last_fields : (f : Format) → length (last_fields f) ≡ 4076
length-last_fields One = length-zeros 4076
length-last_fields (Two x) = let padded = length-zeros 4072 in omega (arith, length-append (to_be_bytes w32 x) (zeros 4072))

pub length-spelling : (g : Geometry) → length (spelling g) ≡ 4096
length-spelling g =
    let apart = ap length (spelled_fields g) in
    let ended = length-last_fields g.format in
    omega arith

pub record IsSuperblock (bytes : List ℕ) : Type 0 where
  pub begin : slice_range bytes 0 8 ≡ codes "FSTCHUNK"
  pub some_version : 0 < version bytes
  pub known_version : version bytes ≤ 2
  pub geometry : IsGeometry (geometry_of bytes)
  pub padding : are_zeros (slice_range bytes (fields_end bytes) 4096) ≡ true

tests_pass : (bytes : List ℕ) (g : Geometry) → superblock_at bytes ≡ Ok g → IsSuperblock bytes × (geometry_of bytes ≡ g)
tests_pass bytes g h =
    let x = geometry_of bytes in
    let t0 = passed (not (bytes_eq (slice_range bytes 0 8) (codes "FSTCHUNK")) || eqb (version bytes) 0 || ltb 2 (version bytes)) BadMagic (drop 1 (superblock_tests bytes)) x g h in
    let t1 = passed (not (is_geometry x)) BadValue (drop 2 (superblock_tests bytes)) x g t0.1 in
    let t2 = passed (not (are_zeros (slice_range bytes (fields_end bytes) 4096))) NotZero [] x g t1.1 in
    let p1 = or_parts (not (bytes_eq (slice_range bytes 0 8) (codes "FSTCHUNK")) || eqb (version bytes) 0) (ltb 2 (version bytes)) t0.0 in
    let p0 = or_parts (not (bytes_eq (slice_range bytes 0 8) (codes "FSTCHUNK"))) (eqb (version bytes) 0) p1.0 in (
      record {
        begin = same_bytes _ _ (not-false _ p0.0);
        some_version = positive (version bytes) p0.1;
        known_version = ltb-false _ _ p1.1;
        geometry = IsGeometry-at x (not-false _ t1.0);
        padding = not-false _ t2.0;
      },
      read_is x g t2.1,
    )

pub record EndsSo (bytes : List ℕ) (f : Format) : Type 0 where
  pub version : version bytes ≡ version_of f
  pub rest : drop 20 bytes ≡ last_fields f

ends_so : (bytes : List ℕ) → IsBytes bytes → length bytes ≡ 4096 → IsSuperblock bytes → (eqb (version bytes) 1 ≡ true) ⊎ (eqb (version bytes) 1 ≡ false) → EndsSo bytes (format_of bytes)
ends_so bytes fits long is (inl e) =
    let length_field = from_be_bytes w32 (slice_range bytes 20 24) in
    let one : format_of bytes ≡ One = cond-true (eqb (version bytes) 1) One (Two length_field) e in
    let end : fields_end bytes ≡ 20 = cond-true (eqb (version bytes) 1) 20 24 e in
    let padding : are_zeros (slice_range bytes 20 4096) ≡ true = subst (λ (n : ℕ). are_zeros (slice_range bytes n 4096) ≡ true) end is.padding in
    let zs = padding_is bytes 20 4096 (omega arith) (omega arith) padding in
    let rest : drop 20 bytes ≡ zeros 4076 = field_then bytes 20 4096 (zeros 4076) [] (omega arith) zs (nothing_left bytes 4096 long) ∙ append-nil (zeros 4076) in
    subst (λ (f : Format). EndsSo bytes f) (sym one) (record { version = eqb-true _ _ e; rest = rest })
ends_so bytes fits long is (inr e) =
    let length_field = from_be_bytes w32 (slice_range bytes 20 24) in
    let two : format_of bytes ≡ Two length_field = cond-false (eqb (version bytes) 1) One (Two length_field) e in
    let end : fields_end bytes ≡ 24 = cond-false (eqb (version bytes) 1) 20 24 e in
    let padding : are_zeros (slice_range bytes 24 4096) ≡ true = subst (λ (n : ℕ). are_zeros (slice_range bytes n 4096) ≡ true) end is.padding in
    let zs = padding_is bytes 24 4096 (omega arith) (omega arith) padding in
    let last : drop 24 bytes ≡ zeros 4072 = field_then bytes 24 4096 (zeros 4072) [] (omega arith) zs (nothing_left bytes 4096 long) ∙ append-nil (zeros 4072) in
    let rest = field_then bytes 20 24 (to_be_bytes w32 length_field) (zeros 4072) (omega arith) (number_back bytes 20 24 fits refl (omega arith)) last in
    let other = eqb-false (version bytes) 1 e in
    let above = is.some_version in
    let below = is.known_version in
    subst (λ (f : Format). EndsSo bytes f) (sym two) (record { version = omega arith; rest = rest })

is_spelled : (bytes : List ℕ) → IsBytes bytes → length bytes ≡ 4096 → IsSuperblock bytes → bytes ≡ spelling (geometry_of bytes)
is_spelled bytes fits long is =
    let g = geometry_of bytes in
    let last = ends_so bytes fits long is (cases_Bool (eqb (version bytes) 1)) in
    let extents = field_then bytes 16 20 (to_be_bytes w32 g.extents) (last_fields g.format) (omega arith) (number_back bytes 16 20 fits refl (omega arith)) last.rest in
    let index = field_then bytes 12 16 (to_be_bytes w32 g.index) (to_be_bytes w32 g.extents ++ last_fields g.format) (omega arith) (number_back bytes 12 16 fits refl (omega arith)) extents in
    let number : slice_range bytes 8 12 ≡ to_be_bytes w32 (version_of g.format) = number_back bytes 8 12 fits refl (omega arith) ∙ ap (to_be_bytes w32) last.version in
    let versions = field_then bytes 8 12 (to_be_bytes w32 (version_of g.format)) (to_be_bytes w32 g.index ++ (to_be_bytes w32 g.extents ++ last_fields g.format)) (omega arith) number index in
    let begin = field_then bytes 0 8 (codes "FSTCHUNK") (to_be_bytes w32 (version_of g.format) ++ (to_be_bytes w32 g.index ++ (to_be_bytes w32 g.extents ++ last_fields g.format))) (omega arith) is.begin versions in
    begin ∙ sym (spelled_fields g)

pub superblock_takes : (bytes : List ℕ) (g : Geometry) → IsBytes bytes → length bytes ≡ 4096 → superblock_at bytes ≡ Ok g → IsGeometry g × (bytes ≡ spelling g)
superblock_takes bytes g fits long h =
    let t = tests_pass bytes g h in
    subst (λ (x : Geometry). IsGeometry x × (bytes ≡ spelling x)) t.1 (t.0.geometry, is_spelled bytes fits long t.0)

-- ---- the other way

superblock_passes : (bytes : List ℕ) → IsSuperblock bytes → superblock_at bytes ≡ Ok (geometry_of bytes)
superblock_passes bytes is =
    let x = geometry_of bytes in
    let b0 = or_from _ _ (or_from _ _ (ap not (bytes_same _ _ is.begin)) (not_zero (version bytes) is.some_version)) (le-ltb 2 (version bytes) is.known_version) in
    passes (not (bytes_eq (slice_range bytes 0 8) (codes "FSTCHUNK")) || eqb (version bytes) 0 || ltb 2 (version bytes)) BadMagic (drop 1 (superblock_tests bytes)) x x b0
    (passes (not (is_geometry x)) BadValue (drop 2 (superblock_tests bytes)) x x (ap not (valid_again x is.geometry))
    (passes (not (are_zeros (slice_range bytes (fields_end bytes) 4096))) NotZero [] x x (ap not is.padding) refl))

-- the format and the padding, from the bytes behind the number of extents
pub record FormatThere (bytes : List ℕ) (f : Format) : Type 0 where
  pub format : format_of bytes ≡ f
  pub padding : are_zeros (slice_range bytes (fields_end bytes) 4096) ≡ true

format_there : (bytes : List ℕ) (f : Format) → IsFormat f → version bytes ≡ version_of f → drop 20 bytes ≡ last_fields f → FormatThere bytes f
format_there bytes One is v rest =
    let length_field = from_be_bytes w32 (slice_range bytes 20 24) in
    let e : eqb (version bytes) 1 ≡ true = eq-eqb _ _ v in
    let end : fields_end bytes ≡ 20 = cond-true (eqb (version bytes) 1) 20 24 e in
    let zs = (skip bytes 20 4096 (zeros 4076) [] (rest ∙ sym (append-nil (zeros 4076))) (omega (arith, length-zeros 4076))).0 in
    record {
      format = cond-true (eqb (version bytes) 1) One (Two length_field) e;
      padding = subst (λ (n : ℕ). are_zeros (slice_range bytes n 4096) ≡ true) (sym end) (ap are_zeros zs ∙ zeros_are_zeros 4076);
    }
format_there bytes (Two x) is v rest =
    let low = is.0 in
    let high = is.1 in
    let length_field = from_be_bytes w32 (slice_range bytes 20 24) in
    let e : eqb (version bytes) 1 ≡ false = ne_eqb _ _ (λ f. omega arith) in
    let end : fields_end bytes ≡ 24 = cond-false (eqb (version bytes) 1) 20 24 e in
    let number = skip bytes 20 24 (to_be_bytes w32 x) (zeros 4072) rest refl in
    let zs = (skip bytes 24 4096 (zeros 4072) [] (number.1 ∙ sym (append-nil (zeros 4072))) (omega (arith, length-zeros 4072))).0 in
    let length-is : length_field ≡ x = ap (from_be_bytes w32) number.0 ∙ from_be_bytes-to_be_bytes_4 x (omega arith) in
    record {
      format = cond-false (eqb (version bytes) 1) One (Two length_field) e ∙ ap (λ (n : ℕ). Two n) length-is;
      padding = subst (λ (n : ℕ). are_zeros (slice_range bytes n 4096) ≡ true) (sym end) (ap are_zeros zs ∙ zeros_are_zeros 4072);
    }

version_small : (f : Format) → (0 < version_of f) × (version_of f ≤ 2)
version_small One = (omega arith, omega arith)
version_small (Two x) = (omega arith, omega arith)

same_geometry : (a b : Geometry) → a.index ≡ b.index → a.extents ≡ b.extents → a.format ≡ b.format → a ≡ b
same_geometry a b i e f =
    ap (λ (t : ℕ). record { index = t; extents = a.extents; format = a.format }) i
    ∙ ap (λ (t : ℕ). record { index = b.index; extents = t; format = a.format }) e
    ∙ ap (λ (t : Format). record { index = b.index; extents = b.extents; format = t }) f

pub superblock_again : (bytes : List ℕ) (g : Geometry) → IsGeometry g → bytes ≡ spelling g → superblock_at bytes ≡ Ok g
superblock_again bytes g is e =
    let short_index = is.short_index in
    let few_extents = is.few_extents in
    let small = version_small g.format in
    let r3 = to_be_bytes w32 g.extents ++ last_fields g.format in
    let r2 = to_be_bytes w32 g.index ++ r3 in
    let r1 = to_be_bytes w32 (version_of g.format) ++ r2 in
    let all : drop 0 bytes ≡ codes "FSTCHUNK" ++ r1 = e ∙ spelled_fields g in
    let begin = skip bytes 0 8 (codes "FSTCHUNK") r1 all refl in
    let number = skip bytes 8 12 (to_be_bytes w32 (version_of g.format)) r2 begin.1 refl in
    let index = skip bytes 12 16 (to_be_bytes w32 g.index) r3 number.1 refl in
    let extents = skip bytes 16 20 (to_be_bytes w32 g.extents) (last_fields g.format) index.1 refl in
    let version-is : version bytes ≡ version_of g.format = ap (from_be_bytes w32) number.0 ∙ from_be_bytes-to_be_bytes_4 (version_of g.format) (omega arith) in
    let index-is : (geometry_of bytes).index ≡ g.index = ap (from_be_bytes w32) index.0 ∙ from_be_bytes-to_be_bytes_4 g.index (omega arith) in
    let extents-is : (geometry_of bytes).extents ≡ g.extents = ap (from_be_bytes w32) extents.0 ∙ from_be_bytes-to_be_bytes_4 g.extents (omega arith) in
    let there = format_there bytes g.format is.format version-is extents.1 in
    let same = same_geometry (geometry_of bytes) g index-is extents-is there.format in
    let good : IsSuperblock bytes = record {
      begin = begin.0;
      some_version = omega arith;
      known_version = omega arith;
      geometry = subst (λ (x : Geometry). IsGeometry x) (sym same) is;
      padding = there.padding;
    } in
    superblock_passes bytes good ∙ ap (λ (x : Geometry). Ok x) same

-- ---- at the call

pub is_found : (bytes : List ℕ) (r : Result Geometry FrameFault) → IsBytes bytes → length bytes ≡ 4096 → r ≡ superblock_at bytes → IfOk r (λ g. IsGeometry g × (bytes ≡ spelling g))
is_found bytes (Ok g) fits long given = superblock_takes bytes g fits long (sym given)
is_found bytes (Err e) fits long given = tt

pub is_given : (bytes : List ℕ) (r : Result Geometry FrameFault) → r ≡ superblock_at bytes → (g : Geometry) → IsGeometry g → bytes ≡ spelling g → r ≡ Ok g
is_given bytes r given g is e = given ∙ superblock_again bytes g is e
