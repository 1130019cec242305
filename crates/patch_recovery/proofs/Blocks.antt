-- Patches laid on the blocks of a disk, and what stands where afterwards.
use Rattle.std.proofs.Common.{◌≡◌, ◌≢◌, ℕ, ◌+◌, ◌-◌, ◌*◌, ◌/◌, ◌%◌, ◌<◌, ◌≤◌, ◌⊎◌, inl, inr, List, [], length, get_or}
use Rattle.std.proofs.Common.{slice_range, ap, arith}
use Rattle.std.specs.Prelude.{slice_set}
use Rattle.std.proofs.lemmas.Bool.{cases_eq, cases_lt}
use Rattle.std.proofs.lemmas.List.{places, same_lists, length-set, get_or-set_same, get_or-set_other}
use Rattle.std.proofs.Math.Nat.{div-add-mod}
use Rattle.patch_model.specs.Patch.{Patch}
use Rattle.patch_model.specs.Pile.{end, lay}
use Rattle.patch_frame.specs.declared.geometries.Geometry.{Geometry}
use Rattle.patch_frame.specs.Geometry.{first_block, pointer_block, block_count, slot_block, slot_start, slot_count}
use Rattle.patch_frame.specs.Geometry.{extent_blocks, largest_pointer}
use Rattle.patch_recovery.specs.Reading.{block_on}

-- the blocks with a patch laid on its block
abbrev pub laid : List (List ℕ) → Patch → List (List ℕ)
laid blocks p = slice_set blocks p.block (lay (block_on blocks p.block) p)

-- the block of the patch
pub laid_here : (d : List (List ℕ)) (p : Patch) (b : ℕ) → b ≡ p.block → p.block < length d
    → block_on (laid d p) b ≡ lay (block_on d b) p
laid_here d p b same there = rw same (get_or-set_same d p.block (lay (block_on d p.block) p) [] there)

-- each other block is as it was
pub laid_elsewhere : (d : List (List ℕ)) (p : Patch) (b : ℕ) → b ≢ p.block → block_on (laid d p) b ≡ block_on d b
laid_elsewhere d p b other = get_or-set_other d p.block b (lay (block_on d p.block) p) [] other

-- there are as many blocks
pub length-laid : (d : List (List ℕ)) (p : Patch) → length (laid d p) ≡ length d
length-laid d p = length-set d p.block (lay (block_on d p.block) p)

-- a range before the patch, one behind it, and the patch's own
pub range_before : (b : List ℕ) (p : Patch) (i j : ℕ) → end p ≤ length b → j ≤ p.start
    → slice_range (lay b p) i j ≡ slice_range b i j
range_before b p i j fits before = same_lists _ _ (grind (arith, places)) (λ k d h. grind (arith, places))

-- bytes behind the patch are as they were
pub range_behind : (b : List ℕ) (p : Patch) (i j : ℕ) → end p ≤ length b → end p ≤ i → j ≤ length b
    → slice_range (lay b p) i j ≡ slice_range b i j
range_behind b p i j fits behind within = same_lists _ _ (grind (arith, places)) (λ k d h. grind (arith, places))

-- those of its span are its own
pub range_of : (b : List ℕ) (p : Patch) (i j : ℕ) → end p ≤ length b → i ≡ p.start → j ≡ end p
    → slice_range (lay b p) i j ≡ p.bytes
range_of b p i j fits from to = same_lists _ _ (grind (arith, places)) (λ k d h. grind (arith, places))

-- a byte outside its span is as it was
pub byte_off : (b : List ℕ) (p : Patch) (i d : ℕ) → end p ≤ length b → (i < p.start) ⊎ (end p ≤ i)
    → get_or (lay b p) i d ≡ get_or b i d
byte_off b p i d fits (inl before) = grind (arith, places)
byte_off b p i d fits (inr behind) = grind (arith, places)

-- slots lie in the index, and apart
pub slot_low : (g : Geometry) (s : ℕ) → s < slot_count g → slot_block s < pointer_block g
slot_low g s h = let d = div-add-mod s 64 in omega arith

-- a slot ends in its block
pub slot_inside : (s : ℕ) → slot_start s + 64 ≤ 4096
slot_inside s = let d = div-add-mod s 64 in let m : s % 64 < 64 = omega arith in omega arith

-- two slots share no byte
pub slots_apart : (s t : ℕ) → s ≢ t → (slot_block s ≢ slot_block t)
    ⊎ ((slot_start s + 64 ≤ slot_start t) ⊎ (slot_start t + 64 ≤ slot_start s))
slots_apart s t other =
    let d = div-add-mod s 64 in
    let e = div-add-mod t 64 in
    elim (cases_eq (s / 64) (t / 64)) [
      | inl same ↦ elim (cases_lt (s % 64) (t % 64)) [
        | inl less ↦ inr (inl (omega arith))
        | inr more ↦ elim (cases_eq (s % 64) (t % 64)) [
          | inl both ↦ absurd (other (omega arith))
          | inr ne ↦ inr (inr (omega arith))
        ]
      ]
      | inr ne ↦ inl (λ e. ne (omega arith))
    ]

-- extents lie behind the pointer block, one behind the other
pub extents_apart : (g : Geometry) (a b : ℕ) → a < b → first_block g a + extent_blocks g.format ≤ first_block g b
extents_apart g a b less =
    let x = extent_blocks g.format in
    let k : ℕ = b - (a + 1) in
    let is : b ≡ a + 1 + k = omega arith in
    let product : extent_blocks g.format * b ≡ extent_blocks g.format * (a + 1 + k) =
    ap (λ n. extent_blocks g.format * n) is in
    omega arith

-- extents lie behind the pointer block
pub extent_high : (g : Geometry) (e i : ℕ) → pointer_block g < first_block g e + i / 4096
extent_high g e i = omega arith

-- the block of a place of an extent is one of its blocks
pub block_of_place : (i x : ℕ) → i < 4096 * x → i / 4096 < x
block_of_place i x h = let d = div-add-mod i 4096 in omega arith

-- a place lies inside its block
pub place_inside : (i : ℕ) → i % 4096 < 4096
place_inside i = omega arith

-- the block of a place is one of the disk
pub extent_within : (g : Geometry) (e i : ℕ) → e < g.extents → i < largest_pointer g.format
    → first_block g e + i / 4096 < block_count g
extent_within g e i known inside =
    let low = block_of_place i (extent_blocks g.format) inside in
    let far = extents_apart g e g.extents known in
    omega arith

-- two places in one block are of one extent and one of its blocks
pub same_place : (g : Geometry) (e x i o : ℕ) → i < largest_pointer g.format → o < largest_pointer g.format
    → first_block g e + i / 4096 ≡ first_block g x + o / 4096 → (e ≡ x) × (i / 4096 ≡ o / 4096)
same_place g e x i o inside_i inside_o same =
    let low_i = block_of_place i (extent_blocks g.format) inside_i in
    let low_o = block_of_place o (extent_blocks g.format) inside_o in
    elim (cases_lt e x) [
      | inl less ↦ let far = extents_apart g e x less in absurd (omega arith)
      | inr le ↦ elim (cases_lt x e) [
        | inl less ↦ let far = extents_apart g x e less in absurd (omega arith)
        | inr ge ↦ let one : e ≡ x = omega arith in let first : first_block g e ≡ first_block g x =
            ap (first_block g) one in (one, omega arith)
      ]
    ]
