-- The upgrade's patch makes a superblock of version 2 of one of version 1.
use Rattle.std.proofs.Common.{◌≡◌, ◌≢◌, ℕ, zero, suc, ◌+◌, ◌-◌, ◌/◌, ◌%◌, ◌<◌, ◌≤◌, ◌^◌, ◌∙◌, inl, inr, true}
use Rattle.std.proofs.Common.{false, not, List, [], ◌∷◌, length, drop, slice_range, Option, Some, None, Ok}
use Rattle.std.proofs.Common.{refl, sym, ap, arith}
use Rattle.std.specs.Prelude.{◌==◌, ◌||◌, nat_lt, slice_index, codes}
use Rattle.std.specs.Int.{w32, from_be_bytes}
use Rattle.std.specs.Str.{bytes_eq}
use Rattle.std.proofs.lemmas.Bool.{cases_Bool, and_parts, or_parts, not-false}
use Rattle.std.proofs.lemmas.Bool.Decides.{nat_tests}
use Rattle.std.proofs.lemmas.List.{places, same_lists}
use Rattle.std.proofs.lemmas.Nat.{from_be_bytes-to_be_bytes_4}
use Rattle.patch_frame.specs.Passing.{read_is, passed}
use Rattle.patch_model.specs.Patch.{Patch}
use Rattle.patch_model.specs.Pile.{end, lay}
use Rattle.patch_frame.specs.declared.faults.FrameFault.TheVariants.{BadMagic, BadKey, BadValue, NotZero}
use Rattle.patch_frame.specs.declared.geometries.Format.TheVariants.{One, Two}
use Rattle.patch_frame.specs.declared.geometries.Geometry.{Geometry}
use Rattle.patch_frame.specs.Field.{are_zeros, outcome}
use Rattle.patch_frame.specs.Geometry.{is_geometry, first_block, pointer_block, pointer_start, slot_block, slot_start}
use Rattle.patch_frame.specs.Geometry.{largest_pointer, longest_frame}
use Rattle.patch_frame.specs.Superblock.{version, format_of, fields_end, geometry_of, superblock_tests, superblock_at}
use Rattle.patch_frame.specs.Slot.{SlotFields, slot_at, state, key_length, key_end, frame_length, fields_of}
use Rattle.patch_frame.specs.Slot.{empty_tests, used_tests}
use Rattle.patch_frame.specs.Pointer.{pointer_at}
use Rattle.patch_recovery.specs.Change.{Widen, widened, bytes_of}
use Rattle.patch_recovery.specs.Ledger.{Ledger, after}
use Rattle.patch_recovery.specs.Reading.{block_on, slot_bytes}
use Rattle.patch_recovery.proofs.Blocks.{laid, laid_here, laid_elsewhere, length-laid, range_before, range_behind}
use Rattle.patch_recovery.proofs.Showing.{Shows, long_laid}

-- bytes inside the patch are its own
pub range_inside : (b : List ℕ) (p : Patch) (i j : ℕ) → end p ≤ length b → p.start ≤ i → j ≤ end p → i ≤ j
    → slice_range (lay b p) i j ≡ slice_range p.bytes (i - p.start) (j - p.start)
range_inside b p i j fits from to order = same_lists _ _ (grind (arith, places)) (λ k d h. grind (arith, places))

-- zeros are zeros without the first ones
pub zeros_behind : (n : ℕ) (bytes : List ℕ) → are_zeros bytes ≡ true → are_zeros (drop n bytes) ≡ true
zeros_behind zero bytes h = h
zeros_behind (suc n) [] h = h
zeros_behind (suc n) (b ∷ bytes) h = zeros_behind n bytes (and_parts (b == 0) (are_zeros bytes) h).1

range_drop : (b : List ℕ) (i j k : ℕ) → i ≤ j → j ≤ k → slice_range b j k ≡ drop (j - i) (slice_range b i k)
range_drop b i j k le lek = same_lists _ _ (grind (arith, places)) (λ n d h. grind (arith, places))

-- the tests of a superblock, passed
pub record IsSuper (bytes : List ℕ) (g : Geometry) : Type 0 where
  pub magic : bytes_eq (slice_range bytes 0 8) (codes "FSTCHUNK") ≡ true
  pub some_version : (version bytes == 0) ≡ false
  pub known_version : nat_lt 2 (version bytes) ≡ false
  pub valid : is_geometry (geometry_of bytes) ≡ true
  pub padding : are_zeros (slice_range bytes (fields_end bytes) 4096) ≡ true
  pub is : geometry_of bytes ≡ g

-- a superblock that is read passes the tests
pub super_parts : (bytes : List ℕ) (g : Geometry) → superblock_at bytes ≡ Ok g → IsSuper bytes g
super_parts bytes g h =
    let tests = superblock_tests bytes in
    let t0 = passed (not (bytes_eq (slice_range bytes 0 8) (codes "FSTCHUNK")) || version bytes == 0
    || nat_lt 2 (version bytes)) BadMagic (drop 1 (superblock_tests bytes)) (geometry_of bytes) g h in
    let t1 = passed (not (is_geometry (geometry_of bytes))) BadValue (drop 2 (superblock_tests bytes))
    (geometry_of bytes) g t0.1 in
    let t2 = passed (not (are_zeros (slice_range bytes (fields_end bytes) 4096))) NotZero []
    (geometry_of bytes) g t1.1 in
    let magic = or_parts (not (bytes_eq (slice_range bytes 0 8) (codes "FSTCHUNK")) || version bytes == 0)
    (nat_lt 2 (version bytes)) t0.0 in
    let front = or_parts (not (bytes_eq (slice_range bytes 0 8) (codes "FSTCHUNK"))) (version bytes == 0) magic.0 in
    record {
      magic = not-false _ front.0;
      some_version = front.1;
      known_version = magic.1;
      valid = not-false _ t1.0;
      padding = not-false _ t2.0;
      is = read_is (geometry_of bytes) g t2.1;
    }

-- and one that passes them is read
pub super_from : (bytes : List ℕ) (g : Geometry) → IsSuper bytes g → superblock_at bytes ≡ Ok g
super_from bytes g s = rw (s.magic, s.some_version, s.known_version, s.valid, s.padding) (ap (λ h. Ok h) s.is)

format_one : (bytes : List ℕ) → format_of bytes ≡ One → (version bytes == 1) ≡ true
format_one bytes h = elim (cases_Bool (version bytes == 1)) [
  | inl u ↦ u
  | inr u ↦ absurd (let g : Two (from_be_bytes w32 (slice_range bytes 20 24)) ≡ One = rw u at h in cc)
]

wide_valid : (g : Geometry) → g.format ≡ One → is_geometry g ≡ true → is_geometry (widened g) ≡ true
wide_valid g one h = let front = rw one at h in front

-- with the patch laid on it is one of version 2
pub super_widened : (b : List ℕ) (g : Geometry) (p : Patch) → length b ≡ 4096 → superblock_at b ≡ Ok g → g.format ≡ One
    → g.index < 2 ^ 32 → g.extents < 2 ^ 32
    → p.start ≡ 8 → p.bytes ≡ bytes_of g Widen → superblock_at (lay b p) ≡ Ok (widened g)
super_widened b g p long h one few_index few_extents start is =
    let s = super_parts b g h in
    let wide : length p.bytes ≡ 16 = ap length is in
    let fits : end p ≤ length b = omega arith in
    let one_b : (version b == 1) ≡ true = format_one b (ap (λ g. g.format) s.is ∙ one) in
    let inside : (i j : ℕ) → 8 ≤ i → j ≤ 24 → i ≤ j → slice_range (lay b p) i j
    ≡ slice_range (bytes_of g Widen) (i - 8) (j - 8) = λ i j from to order.
    range_inside b p i j fits (omega arith) (omega arith) order ∙ ap (λ n. slice_range p.bytes (i - n) (j - n)) start
    ∙ ap (λ bs. slice_range bs (i - 8) (j - 8)) is in
    let version_is : version (lay b p) ≡ 2 = ap (from_be_bytes w32)
    (inside 8 12 (omega arith) (omega arith) (omega arith)) ∙ from_be_bytes-to_be_bytes_4 2 (omega arith) in
    let index_is : from_be_bytes w32 (slice_range (lay b p) 12 16) ≡ g.index =
    ap (from_be_bytes w32) (inside 12 16 (omega arith) (omega arith) (omega arith))
    ∙ from_be_bytes-to_be_bytes_4 g.index few_index in
    let extents_are : from_be_bytes w32 (slice_range (lay b p) 16 20) ≡ g.extents =
    ap (from_be_bytes w32) (inside 16 20 (omega arith) (omega arith) (omega arith))
    ∙ from_be_bytes-to_be_bytes_4 g.extents few_extents in
    let length_is : from_be_bytes w32 (slice_range (lay b p) 20 24) ≡ 16 =
    ap (from_be_bytes w32) (inside 20 24 (omega arith) (omega arith) (omega arith))
    ∙ from_be_bytes-to_be_bytes_4 16 (omega arith) in
    let two : (version (lay b p) == 1) ≡ false = ap (λ n. n == 1) version_is in
    let format_is : format_of (lay b p) ≡ Two 16 = rw two (ap (λ n. Two n) length_is) in
    let is_wide : geometry_of (lay b p) ≡ widened g = rw (index_is, extents_are, format_is) refl in
    let end_is : fields_end (lay b p) ≡ 24 = rw two refl in
    let end_was : fields_end b ≡ 20 = rw one_b refl in
    let old : are_zeros (slice_range b 20 4096) ≡ true = ap (λ n. are_zeros (slice_range b n 4096)) (sym end_was)
    ∙ s.padding in
    super_from (lay b p) (widened g) (record {
      magic = ap (λ bs. bytes_eq bs (codes "FSTCHUNK")) (range_before b p 0 8 fits (omega arith)) ∙ s.magic;
      some_version = ap (λ n. n == 0) version_is;
      known_version = ap (λ n. nat_lt 2 n) version_is;
      valid = ap is_geometry is_wide ∙ wide_valid g one (ap is_geometry (sym s.is) ∙ s.valid);
      padding = ap (λ n. are_zeros (slice_range (lay b p) n 4096)) end_is
          ∙ ap are_zeros (range_behind b p 24 4096 fits (omega arith) (omega arith)
          ∙ range_drop b 20 24 4096 (omega arith) (omega arith)) ∙ zeros_behind 4 (slice_range b 20 4096) old;
      is = is_wide;
    })

-- a slot of version 1 is one of version 2
pub slot_within : (small large : ℕ) (bytes : List ℕ) (o : Option SlotFields) → small ≤ large
    → slot_at small bytes ≡ Ok o → slot_at large bytes ≡ Ok o
slot_within small large bytes o le h = elim (cases_Bool (state bytes == 0)) [
  | inl u ↦ let e : outcome (empty_tests bytes) None ≡ Ok o = rw u at h in rw u e
  | inr u ↦
      let x = Some (fields_of bytes) in
      let g : outcome (used_tests small bytes) (Some (fields_of bytes)) ≡ Ok o = rw u at h in
      let t0 = passed (nat_lt 1 (state bytes)) BadMagic (drop 1 (used_tests small bytes))
      (Some (fields_of bytes)) o g in
      let t1 = passed (key_length bytes == 0 || nat_lt 32 (key_length bytes)) BadKey (drop 2 (used_tests small bytes))
      (Some (fields_of bytes)) o t0.1 in
      let t2 = passed (not (are_zeros (slice_range bytes (key_end bytes) 64))) NotZero (drop 3 (used_tests small bytes))
      (Some (fields_of bytes)) o t1.1 in
      let t3 = passed (nat_lt (frame_length bytes) 17 || nat_lt small (frame_length bytes)) BadValue []
      (Some (fields_of bytes)) o t2.1 in
      let both = or_parts (nat_lt (frame_length bytes) 17) (nat_lt small (frame_length bytes)) t3.0 in
      let bound : nat_lt large (frame_length bytes) ≡ false = let b = both.1 in grind (arith, nat_tests) in
      let last : (nat_lt (frame_length bytes) 17 || nat_lt large (frame_length bytes)) ≡ false =
      rw (both.0, bound) refl in
      rw (u, t0.0, t1.0, t2.0, last) t3.1
]

-- so the blocks show the upgraded ledger
pub shows_widen : (g : Geometry) (d : List (List ℕ)) (l : Ledger) (p : Patch) → Shows g d l → l.geometry ≡ g
    → g.format ≡ One → g.index < 2 ^ 32 → g.extents < 2 ^ 32
    → p.block ≡ 0 → p.start ≡ 8 → p.bytes ≡ bytes_of g Widen → Shows g (laid d p) (after l Widen)
shows_widen g d l p shows same one few_index few_extents block start is =
    let count = shows.count in
    let there : p.block < length d = omega arith in
    let long : length p.bytes ≡ 16 = ap length is in
    let fits : end p ≤ 4096 = omega arith in
    let other : (b : ℕ) → b ≢ 0 → block_on (laid d p) b ≡ block_on d b =
    λ b ne. laid_elsewhere d p b (λ e. ne (e ∙ block)) in
    let whole : length (block_on d 0) ≡ 4096 = shows.long 0 (omega arith) in
    record {
      long = long_laid d p shows.long there fits;
      count = length-laid d p ∙ shows.count;
      super = ap superblock_at (laid_here d p 0 (sym block) there)
          ∙ super_widened (block_on d 0) g p whole (shows.super
          ∙ ap (λ h. Ok h) same) one few_index few_extents start is ∙ ap (λ h. Ok (widened h)) (sym same);
      points = λ x in_range. ap (λ b. pointer_at (largest_pointer g.format)
          (slice_range b (pointer_start x) (pointer_start x + 8))) (other (pointer_block g) (λ e. absurd (omega arith)))
          ∙ shows.points x in_range;
      padding = ap (λ b. are_zeros (slice_range b (pointer_start g.extents) 4096))
          (other (pointer_block g) (λ e. absurd (omega arith))) ∙ shows.padding;
      slots = λ s in_range. slot_within (longest_frame l.geometry.format) 131120 (slot_bytes (laid d p) s) (l.slot s)
          (rw (same, one) (omega arith))
          (ap (λ b. slot_at (longest_frame l.geometry.format) (slice_range b (slot_start s) (slot_start s + 64)))
          (other (slot_block s) (λ e. absurd (omega arith))) ∙ shows.slots s in_range);
      bytes = λ x i in_range in_extent. ap (λ b. slice_index b (i % 4096))
          (other (first_block g x + i / 4096) (λ e. absurd (omega arith))) ∙ shows.bytes x i in_range in_extent;
    }
