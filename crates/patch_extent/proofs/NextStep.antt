-- The extents represent the execution after a step more.
use Rattle.std.proofs.Common.{◌≡◌, ◌≢◌, ℕ, ◌+◌, ◌<◌, ◌≤◌, ◌^◌, ◌∙◌, inl, inr, Bool, true, false, List, [], ◌∷◌, ◌++◌, length, get_or, slice_range, Some, None, Ok, refl, sym, ap, subst, arith}
use Rattle.std.specs.Prelude.{◌==◌, IsTrue, slice_set, if◌then◌else◌}
use Rattle.std.proofs.lemmas.Bool.{cases_Bool, cases_eq, cases_lt, and_from, eq-eqb}
use Rattle.std.proofs.lemmas.Bool.Decides.{nat_tests}
use Rattle.std.proofs.lemmas.List.{places, same_lists, length-set, get_or-set_same, get_or-set_other}
use Rattle.patch_model.specs.Patch.{Patch}
use Rattle.patch_model.specs.Pile.{end, lay}
use Rattle.patch_model.specs.Step.{Step}
use Rattle.patch_model.specs.Execution.{Execution, extended}
use Rattle.patch_model.specs.History.{history_of, cached}
use Rattle.patch_frame.specs.declared.geometries.Format.{Format}
use Rattle.patch_frame.specs.declared.geometries.Format.TheVariants.{One, Two}
use Rattle.patch_frame.specs.declared.geometries.Geometry.{Geometry}
use Rattle.patch_frame.specs.declared.pointers.Pointer.{Pointer}
use Rattle.patch_frame.specs.declared.faults.FrameFault.TheVariants.{BadValue}
use Rattle.patch_frame.specs.Field.{are_zeros}
use Rattle.patch_frame.specs.Geometry.{IsFormat, block_count, largest_pointer, pointer_block, pointer_start}
use Rattle.patch_frame.specs.Passing.{passed, read_is}
use Rattle.patch_frame.specs.Pointer.{Fits, spelling, pointer_of, pointer_at}
use Rattle.patch_model.specs.Renewed.{cached_blocks}
use Rattle.patch_recovery.specs.Reading.{block_on}
use Rattle.patch_recovery.specs.Store.{makes_nothing}
use Rattle.patch_plans.specs.Extents.{Extents, no_extent, extent_at, AreWhole, pointed, after_point}
use Rattle.patch_plans.specs.Meaning.{AreExtentsOf, is_point, is_reset, patches_of, last_of}
use Rattle.patch_extent.proofs.Patches.{StateLaw, fold_more, cached_here, cached_elsewhere, cached_alike, cached_on, patches_stay}

-- what patch_frame says of pointer records
abbrev pub PointerLaw : Type 0
PointerLaw = (largest : ℕ) (p : Pointer) → largest < 2 ^ 32 → Fits largest p → pointer_at largest (spelling p) ≡ Ok p

-- a range before a patch, one behind it, and the patch's own
range_before : (b : List ℕ) (p : Patch) (i j : ℕ) → end p ≤ length b → j ≤ p.start
    → slice_range (lay b p) i j ≡ slice_range b i j
range_before b p i j fits before = same_lists _ _ (grind (arith, places)) (λ k d h. grind (arith, places))

range_behind : (b : List ℕ) (p : Patch) (i j : ℕ) → end p ≤ length b → end p ≤ i → j ≤ length b
    → slice_range (lay b p) i j ≡ slice_range b i j
range_behind b p i j fits behind within = same_lists _ _ (grind (arith, places)) (λ k d h. grind (arith, places))

range_of : (b : List ℕ) (p : Patch) (i j : ℕ) → end p ≤ length b → i ≡ p.start → j ≡ end p
    → slice_range (lay b p) i j ≡ p.bytes
range_of b p i j fits from to = same_lists _ _ (grind (arith, places)) (λ k d h. grind (arith, places))

-- the pointer block is one of the disk's
pub pointer_block_there : (g : Geometry) → pointer_block g < block_count g
pointer_block_there g = omega arith

pub most_bytes : (f : Format) → IsFormat f → largest_pointer f ≤ 262144
most_bytes One is = omega arith
most_bytes (Two x) is = let high = is.1 in omega arith

-- the pointer block, cached
pointer_bytes : (s : Extents) (run : Execution) → AreExtentsOf s run → block_on (cached_blocks run) (pointer_block s.geometry) ≡ cached (history_of run (pointer_block s.geometry))
pointer_bytes s run r =
    let count = r.blocks in
    let there = pointer_block_there s.geometry in
    cached_on run (pointer_block s.geometry) (omega arith)

-- The last patch that passes.

last_more : (test : Patch → Bool) (ps : List Patch) (p : Patch) → last_of test (ps ++ p ∷ []) ≡ (if test p then Some p.no else last_of test ps)
last_more test ps p = fold_more _ None ps p

-- is this one
last_here : (test : Patch → Bool) (ps : List Patch) (p : Patch) → test p ≡ true → last_of test (ps ++ p ∷ []) ≡ Some p.no
last_here test ps p h = last_more test ps p ∙ rw h refl

-- or as before
last_before : (test : Patch → Bool) (ps : List Patch) (p : Patch) → test p ≡ false → last_of test (ps ++ p ∷ []) ≡ last_of test ps
last_before test ps p h = last_more test ps p ∙ rw h refl

-- the patch is of this record, or of another
on_point : (g : Geometry) (e : ℕ) (p : Patch) → (p.block == pointer_block g) ≡ true → p.start ≡ pointer_start e → is_point g e p ≡ true
on_point g e p on at = and_from _ _ on (eq-eqb p.start (pointer_start e) at)

off_point : (g : Geometry) (x e : ℕ) (p : Patch) → p.start ≡ pointer_start e → x ≢ e → is_point g x p ≡ false
off_point g x e p at other =
    let apart : (p.start == pointer_start x) ≡ false = grind (arith, nat_tests) in
    elim (cases_Bool (p.block == pointer_block g)) [ inl u ↦ rw (u, apart) refl | inr u ↦ rw u refl ]

off_reset : (g : Geometry) (x e : ℕ) (p : Patch) → p.start ≡ pointer_start e → x ≢ e → is_reset g x p ≡ false
off_reset g x e p at other = rw (off_point g x e p at other) refl

reset_last : (g : Geometry) (e : ℕ) (p : Patch) (generation offset : ℕ) (ps : List Patch) → (p.block == pointer_block g) ≡ true → p.start ≡ pointer_start e
    → pointer_of p.bytes ≡ record { generation = generation; offset = offset }
    → last_of (is_reset g e) (ps ++ p ∷ []) ≡ (if offset == 0 then Some p.no else last_of (is_reset g e) ps)
reset_last g e p generation offset ps on at back =
    let here = on_point g e p on at in
    let told : is_reset g e p ≡ (offset == 0) = rw here (ap (λ (q : Pointer). q.offset == 0) back) in
    last_more (is_reset g e) ps p ∙ ap (λ b. if b then Some p.no else last_of (is_reset g e) ps) told

-- Where the pointer block and what is known of its patches stay, the extents do.
alike : (s : Extents) (run next : Execution) → next.first ≡ run.first
    → cached (history_of next (pointer_block s.geometry)) ≡ cached (history_of run (pointer_block s.geometry))
    → ((test : Patch → Bool) → ((p : Patch) → (p.block == pointer_block s.geometry) ≡ false → test p ≡ false) → last_of test (patches_of next) ≡ last_of test (patches_of run))
    → AreExtentsOf s run → AreExtentsOf s next
alike s run next first block last r =
    let g = s.geometry in
    let count : length next.first ≡ block_count g = ap length first ∙ r.blocks in
    let there = pointer_block_there g in
    let same : block_on (cached_blocks next) (pointer_block g) ≡ block_on (cached_blocks run) (pointer_block g) =
    cached_on next (pointer_block g) (omega arith) ∙ block ∙ sym (pointer_bytes s run r) in
    record {
      whole = r.whole;
      blocks = count;
      records = λ e known. ap (λ b. pointer_at (largest_pointer g.format) (slice_range b (pointer_start e) (pointer_start e + 8))) same ∙ r.records e known;
      rest = ap (λ b. are_zeros (slice_range b (pointer_start g.extents) 4096)) same ∙ r.rest;
      resets = λ e known. r.resets e known ∙ sym (last (is_reset g e) (λ p off. rw off refl));
      points = λ e known. r.points e known ∙ sym (last (is_point g e) (λ p off. rw off refl));
    }

-- Bytes of another block leave the extents as they are.
pub data_kept : (s : Extents) (run next : Execution) (p : Patch) → next.first ≡ run.first → patches_of next ≡ patches_of run ++ p ∷ []
    → p.block ≢ pointer_block s.geometry → AreExtentsOf s run → AreExtentsOf s next
data_kept s run next p first patches other r =
    alike s run next first (cached_elsewhere run next p first patches (pointer_block s.geometry) (λ e. other (sym e)))
    (λ test off. ap (last_of test) patches ∙ last_before test (patches_of run) p (off p (grind (arith, nat_tests)))) r

-- So do steps that make no patch.
pub others_kept : StateLaw → (s : Extents) (run : Execution) (step : Step) → IsTrue (makes_nothing step) → AreExtentsOf s run → AreExtentsOf s (extended run step)
others_kept law s run step nothing r =
    let patches = patches_stay law run step nothing in
    alike s run (extended run step) refl (cached_alike run (extended run step) refl patches (pointer_block s.geometry))
    (λ test off. ap (last_of test) patches) r

spelled : PointerLaw → (largest : ℕ) (p : Pointer) → largest < 2 ^ 32 → Fits largest p → pointer_of (spelling p) ≡ p
spelled law largest p small fits =
    read_is _ _ ((passed _ BadValue [] (pointer_of (spelling p)) p (law largest p small fits)).1)

whole_pointed : (s : Extents) (n e generation offset : ℕ) → Fits (largest_pointer s.geometry.format) (record { generation = generation; offset = offset })
    → e < s.geometry.extents → AreWhole s → AreWhole (after_point s n e generation offset)
whole_pointed s n e generation offset fits known whole = record {
  geometry = whole.geometry;
  count = length-set s.each e _ ∙ whole.count;
  fits = λ x. elim (cases_eq x e) [
    | inl same ↦ let count = whole.count in let inside : e < length s.each = omega arith in
        let at : get_or (slice_set s.each e (pointed n generation offset (extent_at s e))) x no_extent ≡ pointed n generation offset (extent_at s e) =
        rw same (get_or-set_same s.each e (pointed n generation offset (extent_at s e)) no_extent inside) in
        subst (λ k. Fits (largest_pointer s.geometry.format) k.pointer) (sym at) fits
    | inr other ↦ subst (λ k. Fits (largest_pointer s.geometry.format) k.pointer) (sym (get_or-set_other s.each e x (pointed n generation offset (extent_at s e)) no_extent other)) (whole.fits x)
  ];
}

-- A pointer record that is written is the extent's from then on.
pub point_made : PointerLaw → (s : Extents) (run next : Execution) (p : Patch) (e generation offset : ℕ) → next.first ≡ run.first → patches_of next ≡ patches_of run ++ p ∷ []
    → length (cached (history_of run (pointer_block s.geometry))) ≡ 4096
    → p.block ≡ pointer_block s.geometry → p.start ≡ pointer_start e → p.bytes ≡ spelling (record { generation = generation; offset = offset })
    → e < s.geometry.extents → Fits (largest_pointer s.geometry.format) (record { generation = generation; offset = offset })
    → AreExtentsOf s run → AreExtentsOf (after_point s p.no e generation offset) next
point_made law s run next p e generation offset first patches long on at is known fits r =
    let g = s.geometry in
    let pointer : Pointer = record { generation = generation; offset = offset } in
    let few = r.whole.geometry.few_extents in
    let most = most_bytes g.format r.whole.geometry.format in
    let small : largest_pointer g.format < 2 ^ 32 = omega arith in
    let back : pointer_of p.bytes ≡ record { generation = generation; offset = offset } = ap pointer_of is
    ∙ spelled law (largest_pointer g.format) (record { generation = generation; offset = offset }) small fits in
    let count : length next.first ≡ block_count g = ap length first ∙ r.blocks in
    let there = pointer_block_there g in
    let bytes : length p.bytes ≡ 8 = ap length is in
    let fit : end p ≤ length (cached (history_of run (pointer_block g))) = omega arith in
    let before = pointer_bytes s run r in
    let laid : block_on (cached_blocks next) (pointer_block g) ≡ lay (cached (history_of run (pointer_block g))) p =
    cached_on next (pointer_block g) (omega arith) ∙ cached_here run next p first patches (pointer_block g) (sym on) in
    let k = pointed p.no generation offset (extent_at s e) in
    let counted = r.whole.count in
    let inside : e < length s.each = omega arith in
    let mine : extent_at (after_point s p.no e generation offset) e ≡ pointed p.no generation offset (extent_at s e) =
    get_or-set_same s.each e (pointed p.no generation offset (extent_at s e)) no_extent inside in
    let theirs : (x : ℕ) → x ≢ e → extent_at (after_point s p.no e generation offset) x ≡ extent_at s x =
    λ x other. get_or-set_other s.each e x (pointed p.no generation offset (extent_at s e)) no_extent other in
    let on_it : (p.block == pointer_block g) ≡ true = grind (arith, nat_tests) in
    record {
      whole = whole_pointed s p.no e generation offset fits known r.whole;
      blocks = count;
      records = λ x in_range. elim (cases_eq x e) [
        | inl same ↦
            rw same (ap (λ b. pointer_at (largest_pointer g.format) (slice_range b (pointer_start e) (pointer_start e + 8))) laid
            ∙ ap (pointer_at (largest_pointer g.format)) (range_of (cached (history_of run (pointer_block g))) p (pointer_start e) (pointer_start e + 8) fit (sym at) (omega arith) ∙ is)
            ∙ law (largest_pointer g.format) (record { generation = generation; offset = offset }) small fits ∙ ap (λ y. Ok y.pointer) (sym mine))
        | inr other ↦
            ap (λ b. pointer_at (largest_pointer g.format) (slice_range b (pointer_start x) (pointer_start x + 8))) laid
            ∙ ap (pointer_at (largest_pointer g.format)) (elim (cases_lt x e) [
              | inl less ↦ range_before (cached (history_of run (pointer_block g))) p (pointer_start x) (pointer_start x + 8) fit (omega arith)
              | inr le ↦ range_behind (cached (history_of run (pointer_block g))) p (pointer_start x) (pointer_start x + 8) fit (omega arith) (omega arith)
            ])
            ∙ ap (λ b. pointer_at (largest_pointer g.format) (slice_range b (pointer_start x) (pointer_start x + 8))) (sym before)
            ∙ r.records x in_range ∙ ap (λ y. Ok y.pointer) (sym (theirs x other))
      ];
      rest =
          ap (λ b. are_zeros (slice_range b (pointer_start g.extents) 4096)) laid
          ∙ ap are_zeros (range_behind (cached (history_of run (pointer_block g))) p (pointer_start g.extents) 4096 fit (omega arith) (omega arith))
          ∙ ap (λ b. are_zeros (slice_range b (pointer_start g.extents) 4096)) (sym before) ∙ r.rest;
      resets = λ x in_range. elim (cases_eq x e) [
        | inl same ↦ rw same (ap (λ y. y.reset) mine ∙ sym (ap (last_of (is_reset g e)) patches ∙ reset_last g e p generation offset (patches_of run) on_it at back
            ∙ ap (λ o. if offset == 0 then Some p.no else o) (sym (r.resets e known))))
        | inr other ↦ ap (λ y. y.reset) (theirs x other) ∙ r.resets x in_range ∙ sym (ap (last_of (is_reset g x)) patches ∙ last_before (is_reset g x) (patches_of run) p (off_reset g x e p at other))
      ];
      points = λ x in_range. elim (cases_eq x e) [
        | inl same ↦ rw same (ap (λ y. y.point) mine ∙ sym (ap (last_of (is_point g e)) patches ∙ last_here (is_point g e) (patches_of run) p (on_point g e p on_it at)))
        | inr other ↦ ap (λ y. y.point) (theirs x other) ∙ r.points x in_range ∙ sym (ap (last_of (is_point g x)) patches ∙ last_before (is_point g x) (patches_of run) p (off_point g x e p at other))
      ];
    }
