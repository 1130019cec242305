-- Pointer records that are read, and those that can't be.
use Rattle.std.proofs.Common.{◌≡◌, ℕ, zero, suc, ◌+◌, ◌<◌, ◌≤◌, ◌∙◌, inl, inr, Bool, true, false, List, [], ◌∷◌, length, map, slice_range, None, refl, sym, ap, subst, arith}
use Rattle.std.specs.Prelude.{◌==◌, ◌||◌, not, is_err}
use Rattle.std.specs.List.{list_any, range_with_len}
use Rattle.std.proofs.lemmas.Bool.{cases_Bool, cases_lt}
use Rattle.std.proofs.lemmas.List.{take_all, get_or_past}
use Rattle.patch_model.specs.Patch.{Patch}
use Rattle.patch_model.specs.Execution.{Execution}
use Rattle.patch_model.specs.State.{entries_of}
use Rattle.patch_model.specs.History.{history_of, cached}
use Rattle.patch_model.specs.Member.{In, list_any-from}
use Rattle.patch_frame.specs.declared.geometries.Geometry.{Geometry}
use Rattle.patch_frame.specs.Field.{are_zeros}
use Rattle.patch_frame.specs.Geometry.{IsGeometry, block_count, largest_pointer, pointer_block, pointer_start}
use Rattle.patch_frame.specs.Pointer.{Fits, pointer_at}
use Rattle.patch_model.specs.Renewed.{cached_blocks}
use Rattle.patch_recovery.specs.Reading.{block_on}
use Rattle.patch_plans.specs.declared.records.Extent.{Extent}
use Rattle.patch_plans.specs.Extents.{no_extent}
use Rattle.patch_extent.specs.Opening.{IsRecord, AreRecords, record_in, is_bad_record}
use Rattle.patch_plans.specs.Meaning.{AreExtentsOf, is_point, is_reset, patches_of, last_of}
use Rattle.patch_extent.specs.Answers.{HasNoPoints}
use Rattle.patch_extent.proofs.Patches.{on_block, of_entries, cached_on}

in_range : (a n k : ℕ) → k < n → In (range_with_len a n) (a + k)
in_range a zero k less = absurd (omega (arith, less))
in_range a (suc n) zero less = inl (omega arith)
in_range a (suc n) (suc k) less = inr (subst (In (range_with_len (a + 1) n)) (let e : a + 1 + k ≡ a + suc k = omega arith in e) (in_range (a + 1) n k (omega (arith, less))))

-- the whole pointer block is read
pub block_read : (run : Execution) (g : Geometry) (block : List ℕ) → pointer_block g < length run.first → length (cached (history_of run (pointer_block g))) ≡ 4096
    → block ≡ slice_range (cached (history_of run (pointer_block g))) 0 4096 → block ≡ block_on (cached_blocks run) (pointer_block g)
block_read run g block there long is = is ∙ take_all 4096 (cached (history_of run (pointer_block g))) (omega (arith, long)) ∙ sym (cached_on run (pointer_block g) there)

-- A record that can't be read is found, and none is where each can be read.
pub some_bad : (p : ℕ → Bool) (n e : ℕ) → e < n → p e ≡ true → list_any p (range_with_len 0 n) ≡ true
some_bad p n e known bad = list_any-from p (range_with_len 0 n) e (subst (In (range_with_len 0 n)) (let z : 0 + e ≡ e = omega arith in z) (in_range 0 n e known)) bad

none_from : (p : ℕ → Bool) (a n : ℕ) → ((k : ℕ) → a ≤ k → k < a + n → p k ≡ false) → list_any p (range_with_len a n) ≡ false
none_from p a zero f = refl
none_from p a (suc n) f = rw (f a (omega arith) (omega arith)) (none_from p (a + 1) n (λ k low high. f k (omega (arith, low)) (omega (arith, high))))

pub none_bad : (p : ℕ → Bool) (n : ℕ) → ((k : ℕ) → k < n → p k ≡ false) → list_any p (range_with_len 0 n) ≡ false
none_bad p n f = none_from p 0 n (λ k low high. f k (omega (arith, high)))

pub good_record : (g : Geometry) (block : List ℕ) (e : ℕ) (k : Extent) → IsRecord g block e k → is_bad_record g block e ≡ false
good_record g block e k is = ap is_err is.read

-- where neither holds, each record can be read
pub each_read : (x y : Bool) → (x || not y) ≡ false → x ≡ false
each_read true y h = absurd (cc)
each_read false y h = refl

-- and there are zeros behind the last one
pub zeros_behind : (x y : Bool) → (x || not y) ≡ false → y ≡ true
zeros_behind true y h = absurd (cc)
zeros_behind false true h = refl
zeros_behind false false h = absurd (cc)

-- no patch of a block passes a test of patches of it
last_none : (test : Patch → Bool) (b : ℕ) (ps : List Patch) → on_block b ps ≡ [] → ((p : Patch) → (p.block == b) ≡ false → test p ≡ false) → last_of test ps ≡ None
last_none test b [] none off = refl
last_none test b (p ∷ ps) none off = elim (cases_Bool (p.block == b)) [
  | inl u ↦ absurd (let h : p ∷ on_block b ps ≡ [] = rw u at none in cc)
  | inr u ↦ let h : on_block b ps ≡ [] = rw u at none in rw (off p u) (last_none test b ps h off)
]

-- What was opened represents the execution.
pub records_represent : (g : Geometry) (run : Execution) (block : List ℕ) (each : List Extent) → IsGeometry g → length run.first ≡ block_count g
    → HasNoPoints g run → block ≡ block_on (cached_blocks run) (pointer_block g) → AreRecords g block each g.extents
    → are_zeros (slice_range block (pointer_start g.extents) 4096) ≡ true → AreExtentsOf (record { geometry = g; each = each }) run
records_represent g run block each geometry blocks none is records rest =
    let empty : on_block (pointer_block g) (patches_of run) ≡ [] = sym (of_entries (pointer_block g) (entries_of run)) ∙ ap (map (λ e. e.patch)) none in
    record {
      whole = record {
        geometry = geometry;
        count = records.counted;
        fits = λ e. elim (cases_lt e g.extents) [
          | inl known ↦ (records.records e known).fits
          | inr past ↦ let counted = records.counted in
              subst (λ (k : Extent). Fits (largest_pointer g.format) k.pointer) (sym (get_or_past each e no_extent (omega (arith, past, counted))))
              (record { generation = omega arith; offset = omega arith })
        ];
      };
      blocks = blocks;
      records = λ e known. ap (λ b. pointer_at (largest_pointer g.format) (record_in b e)) (sym is) ∙ (records.records e known).read;
      rest = ap (λ b. are_zeros (slice_range b (pointer_start g.extents) 4096)) (sym is) ∙ rest;
      resets = λ e known. (records.records e known).no_reset ∙ sym (last_none (is_reset g e) (pointer_block g) (patches_of run) empty (λ p off. rw off refl));
      points = λ e known. (records.records e known).no_point ∙ sym (last_none (is_point g e) (pointer_block g) (patches_of run) empty (λ p off. rw off refl));
    }
