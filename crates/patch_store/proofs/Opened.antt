-- A disk that is read, and the store of it.
use Rattle.std.proofs.Common.{◌≡◌, ℕ, zero, suc, ◌+◌, ◌<◌, ◌≤◌, ◌∙◌, inl, inr, Bool, true, false, List}
use Rattle.std.proofs.Common.{[], ◌∷◌, ◌++◌, length, map, replicate, slice_range, Result, Ok, Err, refl, sym, ap, subst, arith}
use Rattle.std.specs.Prelude.{◌==◌, ◌&&◌, not, nat_le, is_err, find, if◌then◌else◌, Option, Some, None, MatchOption}
use Rattle.std.specs.List.{list_any, range_with_len}
use Rattle.std.proofs.lemmas.Bool.{cases_lt}
use Rattle.std.proofs.lemmas.Bool.Decides.{nat_tests}
use Rattle.std.proofs.lemmas.List.FromFn.{fill_by_all}
use Rattle.patch_frame.specs.declared.faults.FrameFault.{FrameFault}
use Rattle.patch_frame.specs.declared.geometries.Geometry.{Geometry}
use Rattle.patch_frame.specs.declared.pointers.Pointer.{Pointer}
use Rattle.patch_frame.specs.Field.{outcome, are_zeros}
use Rattle.patch_frame.specs.Geometry.{block_count, slot_count, largest_pointer, pointer_block, pointer_start}
use Rattle.patch_frame.specs.Pointer.{pointer_at}
use Rattle.patch_frame.specs.Slot.{SlotFields}
use Rattle.patch_frame.specs.Superblock.{superblock_at}
use Rattle.patch_recovery.specs.Ledger.{Ledger}
use Rattle.patch_recovery.specs.Reading.{Fault, BadSuper, FileSize, BadPointer, reading, read_under, block_on, record_at, bad_pointers, ledger_in, slot_tests}
use Rattle.patch_plans.specs.declared.records.Extent.{Extent}
use Rattle.patch_plans.specs.Extents.{Extents, extent_at, no_extent}
use Rattle.patch_plans.specs.Meaning.{AreExtentsOf}
use Rattle.patch_history.specs.declared.refusals.OpenFault.{OpenFault}
use Rattle.patch_history.specs.Refusals.{fault_of}
use Rattle.patch_history.specs.Shelf.{Shelf, opened, opened_extent, may_be_current}
use Rattle.patch_store.specs.Opening.{nothing, unchanged, NoneHolds, IsFirstOf, IsFaultOf, IsDivided, AreScanned, pointer_tests, index_tests, is_open}
use Rattle.patch_store.proofs.Disks.{none_in}
use Rattle.patch_store.proofs.Tested.{all_pass, fault_before, fault_behind, behind_passing}
use Rattle.patch_store.proofs.Scanned.{cached_unchanged, pointer_is}

-- The tests of the blocks, one part after another.

pub bad_super : (blocks : List (List ℕ)) (fault : FrameFault) → superblock_at (block_on blocks 0) ≡ Err fault → reading blocks ≡ Err BadSuper
bad_super blocks fault is = ap (read_under blocks) is

pub bad_size : (blocks : List (List ℕ)) (g : Geometry) → superblock_at (block_on blocks 0) ≡ Ok g → (length blocks == block_count g) ≡ false → reading blocks ≡ Err FileSize
bad_size blocks g is other = ap (read_under blocks) is ∙ rw other refl

divided : (blocks : List (List ℕ)) (g : Geometry) → IsDivided blocks g → reading blocks ≡ outcome (pointer_tests g blocks ++ index_tests g blocks) (ledger_in g blocks)
divided blocks g d =
    let count = d.count in
    let size : (length blocks == block_count g) ≡ true = grind (arith, nat_tests, count) in
    ap (read_under blocks) d.super
    ∙ ap (λ b. outcome ((not b, FileSize) ∷ (bad_pointers g blocks, BadPointer) ∷ index_tests g blocks) (ledger_in g blocks)) size

-- what refuses the rest refuses the blocks
fault_is : (blocks : List (List ℕ)) (r : Result Ledger Fault) (fault : OpenFault) → reading blocks ≡ r
    → MatchOption (fault_of fault) (Unit {0}) (λ first. r ≡ Err first) → IsFaultOf blocks fault
fault_is blocks r fault is h = subst (λ x. MatchOption (fault_of fault) (Unit {0}) (λ first. x ≡ Err first)) (sym is) h

pub pointers_refuse : (blocks : List (List ℕ)) (g : Geometry) (fault : OpenFault) → IsDivided blocks g → IsFirstOf (pointer_tests g blocks) fault → IsFaultOf blocks fault
pointers_refuse blocks g fault d h =
    fault_is blocks (outcome (pointer_tests g blocks ++ index_tests g blocks) (ledger_in g blocks)) fault (divided blocks g d)
    (fault_before (pointer_tests g blocks) (index_tests g blocks) (ledger_in g blocks) fault h)

-- the pointers of extents can be read
good_pointers : (s : Extents) (blocks : List (List ℕ)) → AreExtentsOf s (unchanged blocks) → bad_pointers s.geometry blocks ≡ false
good_pointers s blocks extents =
    let g = s.geometry in
    let none : list_any (λ e. is_err (pointer_at (largest_pointer g.format) (record_at g blocks e))) (range_with_len 0 g.extents) ≡ false =
    none_in (λ e. is_err (pointer_at (largest_pointer g.format) (record_at g blocks e))) 0 g.extents (λ e low high.
    ap is_err (subst (λ b. pointer_at (largest_pointer g.format) (record_at g b e) ≡ Ok (extent_at s e).pointer) (cached_unchanged blocks) (extents.records e (omega (arith, high))))) in
    let rest : are_zeros (slice_range (block_on blocks (pointer_block g)) (pointer_start g.extents) 4096) ≡ true =
    subst (λ b. are_zeros (slice_range (block_on b (pointer_block g)) (pointer_start g.extents) 4096) ≡ true) (cached_unchanged blocks) extents.rest in
    rw (none, rest) refl

pointers_pass : (s : Extents) (g : Geometry) (blocks : List (List ℕ)) → s.geometry ≡ g → AreExtentsOf s (unchanged blocks) → NoneHolds (pointer_tests g blocks)
pointers_pass s g blocks is extents = subst (λ x. NoneHolds (pointer_tests x blocks)) is (ap (λ b. outcome ((b, BadPointer) ∷ []) nothing) (good_pointers s blocks extents))

pub slots_refuse : (s : Extents) (blocks : List (List ℕ)) (g : Geometry) (fault : OpenFault) → IsDivided blocks g → s.geometry ≡ g
    → AreExtentsOf s (unchanged blocks) → IsFirstOf (index_tests g blocks) fault → IsFaultOf blocks fault
slots_refuse s blocks g fault d is extents h =
    fault_is blocks (outcome (pointer_tests g blocks ++ index_tests g blocks) (ledger_in g blocks)) fault (divided blocks g d)
    (fault_behind (pointer_tests g blocks) (index_tests g blocks) (ledger_in g blocks) fault (pointers_pass s g blocks is extents) h)

pub slots_read : (s : Extents) (blocks : List (List ℕ)) (g : Geometry) (slots : List (Option SlotFields)) → IsDivided blocks g → s.geometry ≡ g
    → AreExtentsOf s (unchanged blocks) → AreScanned (ledger_in g blocks) blocks slots (slot_count g) → reading blocks ≡ Ok (ledger_in g blocks)
slots_read s blocks g slots d is extents scanned =
    divided blocks g d
    ∙ behind_passing (pointer_tests g blocks) (index_tests g blocks) (ledger_in g blocks) (pointers_pass s g blocks is extents)
    ∙ all_pass (slot_tests (ledger_in g blocks) blocks) (ledger_in g blocks) 0 (slot_count g) (λ slot low high. scanned.pass slot (omega (arith, high)))

-- The extent that is first among those that pass.

pub none_found : (p : ℕ → Bool) (a n : ℕ) → ((k : ℕ) → a ≤ k → k < a + n → p k ≡ false) → find p (range_with_len a n) ≡ None
none_found p a zero f = refl
none_found p a (suc n) f = rw (f a (omega arith) (omega arith)) (none_found p (a + 1) n (λ k low high. f k (omega (arith, low)) (omega (arith, high))))

pub first_found : (p : ℕ → Bool) (a n i : ℕ) → a ≤ i → i < a + n → ((k : ℕ) → a ≤ k → k < i → p k ≡ false) → p i ≡ true → find p (range_with_len a n) ≡ Some i
first_found p a zero i low high f here = absurd (omega (arith, low, high))
first_found p a (suc n) i low high f here = elim (cases_lt a i) [
  | inl less ↦ rw (f a (omega arith) less) (first_found p (a + 1) n i (omega (arith, less)) (omega (arith, high)) (λ k under over. f k (omega (arith, under)) over) here)
  | inr more ↦ (let same : i ≡ a = omega (arith, low, more) in let g : p a ≡ true = subst (λ k. p k ≡ true) same here in rw g (ap (λ k. Some k) (sym same)))
]

pub found_alike : (p q : ℕ → Bool) (a n : ℕ) → ((k : ℕ) → a ≤ k → k < a + n → p k ≡ q k) → find p (range_with_len a n) ≡ find q (range_with_len a n)
found_alike p q a zero f = refl
found_alike p q a (suc n) f =
    ap (λ b. if b then Some a else find p (range_with_len (a + 1) n)) (f a (omega arith) (omega arith))
    ∙ ap (λ o. if q a then Some a else o) (found_alike p q (a + 1) n (λ k low high. f k (omega (arith, low)) (omega (arith, high))))

-- The shelf.

abbrev an_extent : Pointer → Option ℕ → Option ℕ → Extent
an_extent p reset point = record { pointer = p; reset = reset; point = point }

extent_is : (k : Extent) (p : Pointer) → k.pointer ≡ p → k.reset ≡ None → k.point ≡ None → k ≡ opened_extent p
extent_is k p pointer reset point =
    ap (λ x. an_extent x k.reset k.point) pointer ∙ ap (λ x. an_extent p x k.point) reset ∙ ap (λ x. an_extent p None x) point

abbrev divided_so : Geometry → List Extent → Extents
divided_so g each = record { geometry = g; each = each }

extents_are : (s : Extents) (blocks : List (List ℕ)) → AreExtentsOf s (unchanged blocks)
    → s ≡ divided_so s.geometry (map (λ e. opened_extent ((ledger_in s.geometry blocks).pointer e)) (range_with_len 0 s.geometry.extents))
extents_are s blocks extents =
    ap (divided_so s.geometry)
    (fill_by_all (λ e. opened_extent ((ledger_in s.geometry blocks).pointer e)) s.each s.geometry.extents no_extent extents.whole.count (λ e less.
    extent_is (extent_at s e) ((ledger_in s.geometry blocks).pointer e) (sym (pointer_is s blocks e extents less)) (extents.resets e less) (extents.points e less)))

current_is : (s : Extents) (blocks : List (List ℕ)) → AreExtentsOf s (unchanged blocks)
    → find (is_open s) (range_with_len 0 s.geometry.extents) ≡ find (may_be_current (ledger_in s.geometry blocks)) (range_with_len 0 s.geometry.extents)
current_is s blocks extents = found_alike (is_open s) (may_be_current (ledger_in s.geometry blocks)) 0 s.geometry.extents (λ e low high.
    ap (λ (p : Pointer). nat_le 1 p.offset && nat_le (p.offset + 17) (largest_pointer s.geometry.format)) (sym (pointer_is s blocks e extents (omega (arith, high)))))

abbrev pub shelf_with : Extents → List (Option SlotFields) → Option ℕ → List (List ℕ) → Shelf
shelf_with extents slots current left = record {
  extents = extents;
  slots = slots;
  current = current;
  last_delete = None;
  upgrade = None;
  left = left;
}

abbrev slots_in : Geometry → List (List ℕ) → List (Option SlotFields)
slots_in g blocks = map (ledger_in g blocks).slot (range_with_len 0 (slot_count g))

shelf_by : (s : Extents) (blocks : List (List ℕ)) → AreExtentsOf s (unchanged blocks)
    → shelf_with s (slots_in s.geometry blocks) (find (is_open s) (range_with_len 0 s.geometry.extents)) (replicate s.geometry.extents [])
    ≡ opened (ledger_in s.geometry blocks)
shelf_by s blocks extents =
    let l = ledger_in s.geometry blocks in
    let slots = map l.slot (range_with_len 0 (slot_count s.geometry)) in
    let left : List (List ℕ) = replicate s.geometry.extents [] in
    ap (λ x. shelf_with x slots (find (is_open s) (range_with_len 0 s.geometry.extents)) left) (extents_are s blocks extents)
    ∙ ap (λ x. shelf_with (divided_so s.geometry (map (λ e. opened_extent (l.pointer e)) (range_with_len 0 s.geometry.extents))) slots x left) (current_is s blocks extents)

pub shelf_opens : (s : Extents) (blocks : List (List ℕ)) (g : Geometry) (slots : List (Option SlotFields)) (current : Option ℕ) (left : List (List ℕ))
    → s.geometry ≡ g → AreExtentsOf s (unchanged blocks) → slots ≡ map (ledger_in g blocks).slot (range_with_len 0 (slot_count g))
    → current ≡ find (is_open s) (range_with_len 0 g.extents) → left ≡ replicate g.extents []
    → shelf_with s slots current left ≡ opened (ledger_in g blocks)
shelf_opens s blocks g slots current left is extents slots_are current_are left_are =
    ap (λ x. shelf_with s x current left) slots_are ∙ ap (λ x. shelf_with s (slots_in g blocks) x left) current_are
    ∙ ap (λ x. shelf_with s (slots_in g blocks) (find (is_open s) (range_with_len 0 g.extents)) x) left_are
    ∙ subst (λ (x : Geometry). shelf_with s (slots_in x blocks) (find (is_open s) (range_with_len 0 x.extents)) (replicate x.extents [])
    ≡ opened (ledger_in x blocks)) is (shelf_by s blocks extents)
