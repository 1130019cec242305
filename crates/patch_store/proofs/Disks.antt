-- A new disk reads as one that holds no key.
use Rattle.std.proofs.Common.{◌≡◌, ℕ, zero, suc, ◌+◌, ◌-◌, ◌<◌, ◌≤◌, ◌∙◌, inl, inr, Bool, true, false, List, [], ◌∷◌, ◌++◌, length, take, replicate, slice_range, Ok, refl, ap, arith}
use Rattle.std.specs.Prelude.{◌==◌, not, nat_lt, is_err, None, flat_map}
use Rattle.std.specs.List.{list_any, range_with_len}
use Rattle.std.proofs.lemmas.Bool.{cases_Bool}
use Rattle.std.proofs.lemmas.Bool.Decides.{nat_tests}
use Rattle.std.proofs.lemmas.List.{length-replicate, drop-replicate, get_or-replicate}
use Rattle.patch_frame.specs.declared.geometries.Geometry.{Geometry}
use Rattle.patch_frame.specs.Field.{outcome, are_zeros}
use Rattle.patch_frame.specs.Geometry.{IsGeometry, block_count, slot_count, slot_block, slot_start, pointer_block, pointer_start, largest_pointer, longest_frame}
use Rattle.patch_frame.specs.Slot.{slot_at}
use Rattle.patch_frame.specs.Frame.{Content}
use Rattle.patch_frame.specs.Pointer.{pointer_at}
use Rattle.patch_frame.specs.Superblock.{superblock_at}
use Rattle.patch_recovery.specs.Ledger.{entry_of}
use Rattle.patch_recovery.specs.Reading.{Fault, FileSize, BadPointer, BadSlot, read_under, read_as, block_on, record_at, slot_bytes, ledger_in, bad_pointers, slot_tests, used_tests}
use Rattle.patch_store.specs.Making.{IsNewDisk}

-- Bytes and blocks of zeros.

abbrev blank : ℕ → List ℕ
blank n = replicate n 0

-- a superblock, and blocks of zeros
abbrev behind : List ℕ → ℕ → List (List ℕ)
behind super count = super ∷ replicate (count - 1) (blank 4096)

take_blank : (k n : ℕ) → k ≤ n → take k (blank n) ≡ blank k
take_blank zero n less = refl
take_blank (suc k) zero less = absurd (omega (arith, less))
take_blank (suc k) (suc n) less = ap (λ xs. 0 ∷ xs) (take_blank k n (omega (arith, less)))

some_blank : (a b : ℕ) → b ≤ 4096 → slice_range (blank 4096) a b ≡ blank (b - a)
some_blank a b high = ap (take (b - a)) (drop-replicate a 4096 0) ∙ take_blank (b - a) (4096 - a) (omega (arith, high))

blank_zeros : (n : ℕ) → are_zeros (blank n) ≡ true
blank_zeros zero = refl
blank_zeros (suc n) = blank_zeros n

blank_block : (super : List ℕ) (count n : ℕ) → 0 < n → n < count → block_on (behind super count) n ≡ blank 4096
blank_block super count zero some less = absurd (omega (arith, some))
blank_block super count (suc n) some less = get_or-replicate (count - 1) n (blank 4096) [] (omega (arith, less))

-- Tests of which none holds.

pub none_in : (p : ℕ → Bool) (a n : ℕ) → ((k : ℕ) → a ≤ k → k < a + n → p k ≡ false) → list_any p (range_with_len a n) ≡ false
none_in p a zero f = refl
none_in p a (suc n) f = rw (f a (omega arith) (omega arith)) (none_in p (a + 1) n (λ k low high. f k (omega (arith, low)) (omega (arith, high))))

slots_pass : {X : Type 0} (tests : ℕ → List (Bool × Fault)) (x : X) (a n : ℕ)
    → ((s : ℕ) → a ≤ s → s < a + n → tests s ≡ (false, BadSlot s) ∷ []) → outcome (flat_map tests (range_with_len a n)) x ≡ Ok x
slots_pass tests x a zero f = refl
slots_pass tests x a (suc n) f =
    ap (λ first. outcome (first ++ flat_map tests (range_with_len (a + 1) n)) x) (f a (omega arith) (omega arith))
    ∙ slots_pass tests x (a + 1) n (λ s low high. f s (omega (arith, low)) (omega (arith, high)))

none_held : (f : ℕ → List Content) (a n : ℕ) → ((s : ℕ) → f s ≡ []) → flat_map f (range_with_len a n) ≡ []
none_held f a zero is = refl
none_held f a (suc n) is = ap (λ first. first ++ flat_map f (range_with_len (a + 1) n)) (is a) ∙ none_held f (a + 1) n is

-- What is read of zeros.

blank_pointer : (largest : ℕ) (bytes : List ℕ) → bytes ≡ blank 8 → is_err (pointer_at largest bytes) ≡ false
blank_pointer largest bytes is = ap (λ b. is_err (pointer_at largest b)) is ∙ (let no : nat_lt largest 0 ≡ false = grind (arith, nat_tests) in rw no refl)

blank_slot : (longest : ℕ) (bytes : List ℕ) → bytes ≡ blank 64 → slot_at longest bytes ≡ Ok None
blank_slot longest bytes is = ap (slot_at longest) is

-- The disk.

no_pointers : (g : Geometry) (super : List ℕ) → IsGeometry g → bad_pointers g (behind super (block_count g)) ≡ false
no_pointers g super valid =
    let blocks = behind super (block_count g) in
    let few = valid.few_extents in
    let there : block_on blocks (pointer_block g) ≡ blank 4096 = blank_block super (block_count g) (pointer_block g) (omega arith) (omega arith) in
    let none : list_any (λ e. is_err (pointer_at (largest_pointer g.format) (record_at g blocks e))) (range_with_len 0 g.extents) ≡ false =
    none_in (λ e. is_err (pointer_at (largest_pointer g.format) (record_at g blocks e))) 0 g.extents (λ e low high.
    blank_pointer (largest_pointer g.format) (record_at g blocks e)
    (ap (λ b. slice_range b (pointer_start e) (pointer_start e + 8)) there ∙ some_blank (pointer_start e) (pointer_start e + 8) (omega (arith, high, few))
    ∙ (let z : pointer_start e + 8 - pointer_start e ≡ 8 = omega arith in ap blank z))) in
    let rest : are_zeros (slice_range (block_on blocks (pointer_block g)) (pointer_start g.extents) 4096) ≡ true =
    ap (λ b. are_zeros (slice_range b (pointer_start g.extents) 4096)) there ∙ ap are_zeros (some_blank (pointer_start g.extents) 4096 (omega arith)) ∙ blank_zeros (4096 - pointer_start g.extents) in
    rw (none, rest) refl

blank_bytes : (g : Geometry) (super : List ℕ) (s : ℕ) → s < slot_count g → slot_bytes (behind super (block_count g)) s ≡ blank 64
blank_bytes g super s less =
    ap (λ b. slice_range b (slot_start s) (slot_start s + 64)) (blank_block super (block_count g) (slot_block s) (omega arith) (omega (arith, less)))
    ∙ some_blank (slot_start s) (slot_start s + 64) (omega arith)
    ∙ (let z : slot_start s + 64 - slot_start s ≡ 64 = omega arith in ap blank z)

empty_slots : (g : Geometry) (super : List ℕ) (s : ℕ) → (ledger_in g (behind super (block_count g))).slot s ≡ None
empty_slots g super s = elim (cases_Bool (nat_lt s (slot_count g))) [
  | inl u ↦ (let less : s < slot_count g = grind (arith, nat_tests, u) in
      rw u (ap read_as (blank_slot (longest_frame g.format) (slot_bytes (behind super (block_count g)) s) (blank_bytes g super s less))))
  | inr u ↦ rw u refl
]

slot_passes : (g : Geometry) (super : List ℕ) (s : ℕ) → s < slot_count g
    → slot_tests (ledger_in g (behind super (block_count g))) (behind super (block_count g)) s ≡ (false, BadSlot s) ∷ []
slot_passes g super s less =
    let blocks = behind super (block_count g) in
    ap (λ o. (is_err (slot_at (longest_frame g.format) (slot_bytes blocks s)), BadSlot s) ∷ used_tests (ledger_in g blocks) s o) (empty_slots g super s)
    ∙ ap (λ r. (is_err r, BadSlot s) ∷ []) (blank_slot (longest_frame g.format) (slot_bytes blocks s) (blank_bytes g super s less))

pub new_reads : (g : Geometry) (super : List ℕ) → IsGeometry g → superblock_at super ≡ Ok g → IsNewDisk g (behind super (block_count g))
new_reads g super valid is =
    let blocks = behind super (block_count g) in
    let l = ledger_in g blocks in
    let count : length blocks ≡ block_count g = let long = length-replicate (block_count g - 1) (blank 4096) in omega (arith, long) in
    let size : not (length blocks == block_count g) ≡ false = grind (arith, nat_tests, count) in
    record {
      ledger = l;
      reads = ap (read_under blocks) is
          ∙ ap (λ b. outcome ((b, FileSize) ∷ (bad_pointers g blocks, BadPointer) ∷ flat_map (slot_tests l blocks) (range_with_len 0 (slot_count g))) l) size
          ∙ ap (λ b. outcome ((b, BadPointer) ∷ flat_map (slot_tests l blocks) (range_with_len 0 (slot_count g))) l) (no_pointers g super valid)
          ∙ slots_pass (slot_tests l blocks) l 0 (slot_count g) (λ s low high. slot_passes g super s (omega (arith, high)));
      divided = refl;
      empty = none_held (λ s. entry_of l (l.slot s)) 0 (slot_count g) (λ s. ap (entry_of l) (empty_slots g super s));
    }
