-- The bytes of a span of an extent, read block by block.
use Rattle.std.proofs.Common.{◌≡◌, ℕ, zero, suc, ◌+◌, ◌-◌, ◌/◌, ◌%◌, ◌<◌, ◌≤◌, ◌∙◌, min, false, List, ◌∷◌, ◌++◌, length, map, take, drop, get_or, slice_range, None, refl, sym, ap, arith}
use Rattle.std.specs.Prelude.{nat_le, nat_lt, slice_index}
use Rattle.std.specs.List.{range_with_len}
use Rattle.std.proofs.lemmas.Bool.Decides.{nat_tests}
use Rattle.std.proofs.lemmas.List.{drop_more, map-append}
use Rattle.std.proofs.Math.Nat.{div-add-mod}
use Rattle.patch_model.specs.Execution.{Execution}
use Rattle.patch_model.specs.History.{history_of, cached}
use Rattle.patch_model.specs.Refusing.{why_not_shown}
use Rattle.patch_frame.specs.declared.geometries.Geometry.{Geometry}
use Rattle.patch_frame.specs.Geometry.{block_count, extent_blocks, largest_pointer, first_block}
use Rattle.patch_model.specs.Renewed.{cached_blocks}
use Rattle.patch_recovery.specs.Reading.{block_on}
use Rattle.patch_plans.specs.Planning.{touched, part_start, part_end}
use Rattle.patch_extent.specs.Answers.{cached_bytes}
use Rattle.patch_extent.proofs.Patches.{cached_on}

take_is : (block : List ℕ) (i m : ℕ) → i + m ≤ length block → take m (drop i block) ≡ map (λ j. slice_index block j) (range_with_len i m)
take_is block i zero le = refl
take_is block i (suc m) le =
    ap (take (suc m)) (drop_more block i 0 (omega (arith, le))) ∙ ap (λ xs. get_or block i 0 ∷ xs) (take_is block (i + 1) m (omega (arith, le)))

-- a span of a list, item by item
span_is : (block : List ℕ) (i m : ℕ) → i + m ≤ length block → slice_range block i (i + m) ≡ map (λ j. slice_index block j) (range_with_len i m)
span_is block i m le = ap (λ n. take n (drop i block)) (let e : i + m - i ≡ m = omega arith in e) ∙ take_is block i m le

map_same : (f h : ℕ → ℕ) (a b m : ℕ) → ((j : ℕ) → j < m → f (a + j) ≡ h (b + j)) → map f (range_with_len a m) ≡ map h (range_with_len b m)
map_same f h a b zero same = refl
map_same f h a b (suc m) same =
    let first : f a ≡ h b = ap f (let e : a ≡ a + 0 = omega arith in e) ∙ same 0 (omega arith) ∙ ap h (let e : b + 0 ≡ b = omega arith in e) in
    let rest = map_same f h (a + 1) (b + 1) m (λ j less. ap f (let e : a + 1 + j ≡ a + (j + 1) = omega arith in e) ∙ same (j + 1) (omega (arith, less))
    ∙ ap h (let e : b + (j + 1) ≡ b + 1 + j = omega arith in e)) in
    ap (λ x. x ∷ map f (range_with_len (a + 1) m)) first ∙ ap (λ xs. h b ∷ xs) rest

pub range_both : (a n m : ℕ) → range_with_len a (n + m) ≡ range_with_len a n ++ range_with_len (a + n) m
range_both a zero m = let e : 0 + m ≡ m = omega arith in let f : a + 0 ≡ a = omega arith in rw (e, f) refl
range_both a (suc n) m =
    ap (range_with_len a) (let e : suc n + m ≡ suc (n + m) = omega arith in e)
    ∙ ap (λ xs. a ∷ xs) (range_both (a + 1) n m ∙ ap (λ k. range_with_len (a + 1) n ++ range_with_len k m) (let e : a + 1 + n ≡ a + suc n = omega arith in e))

-- The cached bytes of a span in one block.
pub in_block : (g : Geometry) (run : Execution) (e start m : ℕ) → first_block g e + start / 4096 < length run.first → start % 4096 + m ≤ 4096
    → length (cached (history_of run (first_block g e + start / 4096))) ≡ 4096
    → slice_range (cached (history_of run (first_block g e + start / 4096))) (start % 4096) (start % 4096 + m) ≡ cached_bytes g run e start m
in_block g run e start m there fits long =
    let d = div-add-mod start 4096 in
    let block = cached (history_of run (first_block g e + start / 4096)) in
    span_is (cached (history_of run (first_block g e + start / 4096))) (start % 4096) m (omega (arith, long, fits))
    ∙ map_same (λ j. slice_index (cached (history_of run (first_block g e + start / 4096))) j)
    (λ place. slice_index (block_on (cached_blocks run) (first_block g e + place / 4096)) (place % 4096)) (start % 4096) start m
    (λ j less.
    let dj = div-add-mod (start + j) 4096 in
    let small : (start + j) % 4096 < 4096 = omega arith in
    let quotient : (start + j) / 4096 ≡ start / 4096 = omega arith in
    let rest : (start + j) % 4096 ≡ start % 4096 + j = omega arith in
    ap (λ b. slice_index b (start % 4096 + j)) (sym (cached_on run (first_block g e + start / 4096) there))
    ∙ ap (λ q. slice_index (block_on (cached_blocks run) (first_block g e + q)) (start % 4096 + j)) (sym quotient)
    ∙ ap (λ r. slice_index (block_on (cached_blocks run) (first_block g e + (start + j) / 4096)) r) (sym rest))

-- Spans one behind the other.
pub cached_both : (g : Geometry) (run : Execution) (e offset n m : ℕ) → cached_bytes g run e offset (n + m) ≡ cached_bytes g run e offset n ++ cached_bytes g run e (offset + n) m
cached_both g run e offset n m =
    ap (map (λ place. slice_index (block_on (cached_blocks run) (first_block g e + place / 4096)) (place % 4096))) (range_both offset n m)
    ∙ map-append (λ place. slice_index (block_on (cached_blocks run) (first_block g e + place / 4096)) (place % 4096)) (range_with_len offset n) (range_with_len (offset + n) m)

-- how many bytes lie in the first k blocks touched
abbrev pub covered : (offset len k : ℕ) → ℕ
covered offset len k = min len (part_start offset k - offset)

pub none_covered : (offset len : ℕ) → covered offset len 0 ≡ 0
none_covered offset len = let d = div-add-mod offset 4096 in omega arith

pub all_covered : (offset len : ℕ) → 0 < len → covered offset len (touched offset len) ≡ len
all_covered offset len some = let d = div-add-mod offset 4096 in let e = div-add-mod (offset + len - 1) 4096 in omega arith

-- a part that is touched
pub record IsTouched (offset len k : ℕ) : Type 0 where
  pub starts : offset ≤ part_start offset k
  pub ends : part_end offset len k ≤ offset + len
  pub some : part_start offset k < part_end offset len k
  pub one_block : part_start offset k % 4096 + (part_end offset len k - part_start offset k) ≤ 4096
  pub before : covered offset len k ≡ part_start offset k - offset
  pub behind : covered offset len (k + 1) ≡ part_end offset len k - offset

pub is_touched : (offset len k : ℕ) → 0 < len → k < touched offset len → IsTouched offset len k
is_touched offset len k some less =
    let d = div-add-mod offset 4096 in
    let e = div-add-mod (offset + len - 1) 4096 in
    record {
      starts = omega arith;
      ends = omega arith;
      some = omega arith;
      one_block = let f = div-add-mod (part_start offset k) 4096 in omega arith;
      before = omega arith;
      behind = omega arith;
    }

-- a block of an extent is one of the disk's
pub block_there : (g : Geometry) (e i : ℕ) → first_block g e + extent_blocks g.format ≤ block_count g → i < largest_pointer g.format → first_block g e + i / 4096 < block_count g
block_there g e i within inside = let d = div-add-mod i 4096 in omega arith

-- and can be read
pub can_be_read : (blocks block start len : ℕ) → block < blocks → start + len ≤ 4096 → why_not_shown blocks block start len ≡ None
can_be_read blocks block start len there fits =
    let a : nat_le blocks block ≡ false = grind (arith, nat_tests) in
    let b : nat_lt 4096 (start + len) ≡ false = grind (arith, nat_tests) in
    rw (a, b) refl

-- The part of one block more.
pub span_more : (g : Geometry) (run : Execution) (e offset len k first start stop : ℕ) (part : List ℕ) → first ≡ first_block g e → start ≡ part_start offset k → stop ≡ part_end offset len k
    → 0 < len → k < touched offset len → first_block g e + part_start offset k / 4096 < length run.first
    → length (cached (history_of run (first_block g e + part_start offset k / 4096))) ≡ 4096
    → part ≡ slice_range (cached (history_of run (first + start / 4096))) (start % 4096) (start % 4096 + (stop - start))
    → cached_bytes g run e offset (covered offset len k) ++ part ≡ cached_bytes g run e offset (covered offset len (k + 1))
span_more g run e offset len k first start stop part first_is start_is stop_is some less there long is =
    let t = is_touched offset len k some less in
    let starts = t.starts in
    let some_part = t.some in
    let behind = t.behind in
    let before = t.before in
    let from : offset + covered offset len k ≡ part_start offset k = omega (arith, starts, before) in
    let both : covered offset len k + (part_end offset len k - part_start offset k) ≡ covered offset len (k + 1) = omega (arith, starts, some_part, before, behind) in
    ap (λ xs. cached_bytes g run e offset (covered offset len k) ++ xs)
    (is ∙ ap (λ f. slice_range (cached (history_of run (f + start / 4096))) (start % 4096) (start % 4096 + (stop - start))) first_is
    ∙ ap (λ s. slice_range (cached (history_of run (first_block g e + s / 4096))) (s % 4096) (s % 4096 + (stop - s))) start_is
    ∙ ap (λ s. slice_range (cached (history_of run (first_block g e + part_start offset k / 4096))) (part_start offset k % 4096) (part_start offset k % 4096 + (s - part_start offset k))) stop_is
    ∙ in_block g run e (part_start offset k) (part_end offset len k - part_start offset k) there t.one_block long
    ∙ ap (λ n. cached_bytes g run e n (part_end offset len k - part_start offset k)) (sym from))
    ∙ sym (cached_both g run e offset (covered offset len k) (part_end offset len k - part_start offset k))
    ∙ ap (λ n. cached_bytes g run e offset n) both
