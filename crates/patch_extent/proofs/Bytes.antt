-- What a plan leaves of the bytes below the pointers.
use Rattle.std.proofs.Common.{◌≡◌, ◌≢◌, ℕ, zero, suc, ◌+◌, ◌-◌, ◌*◌, ◌/◌, ◌%◌, ◌<◌, ◌≤◌, ◌⊎◌, ◌∙◌, inl, inr, Bool, true, false, List, [], ◌∷◌, ◌++◌}
use Rattle.std.proofs.Common.{length, map, take, drop, get_or, slice_range, Option, Some, None, refl, sym, ap, subst, append_assoc, append-nil, arith}
use Rattle.std.specs.Prelude.{◌==◌, slice_index_or, option_to_list}
use Rattle.std.specs.List.{range_with_len}
use Rattle.std.proofs.lemmas.Bool.{cases_Bool, cases_lt}
use Rattle.std.proofs.lemmas.Bool.Decides.{nat_tests}
use Rattle.std.proofs.lemmas.List.{length-take, length-drop, get_or-take, get_or-drop, map-append}
use Rattle.std.proofs.Math.Nat.{div-add-mod}
use Rattle.patch_model.specs.declared.patches.Undo.TheVariants.{MayDrop}
use Rattle.patch_model.specs.Patch.{Patch}
use Rattle.patch_model.specs.Pile.{end, lay, pile}
use Rattle.patch_model.specs.Laying.{length-lay, lay-before, lay-inside, lay-behind}
use Rattle.patch_model.specs.Step.{Merge}
use Rattle.patch_model.specs.Execution.{Execution, extended, followed_by}
use Rattle.patch_model.specs.State.{entries_of, next_patch}
use Rattle.patch_model.specs.History.{history_of, cached}
use Rattle.patch_frame.specs.declared.geometries.Geometry.{Geometry}
use Rattle.patch_frame.specs.Geometry.{extent_blocks, largest_pointer, first_block}
use Rattle.patch_plans.specs.Groups.{Groups, named, with_patch}
use Rattle.patch_recovery.specs.Change.{Change, Data, Point, Made, step_of, block_of, start_of, bytes_of}
use Rattle.patch_plans.specs.Extents.{Extents, offset_at, generation_at}
use Rattle.patch_plans.specs.Planning.{touched, part, part_start, part_end, parts, names_behind, append_plan, reset_plan}
use Rattle.patch_plans.specs.Writing.{after_change, steps_of, merge_behind, merge_with}
use Rattle.patch_plans.specs.Meaning.{patches_of}
use Rattle.patch_extent.proofs.Patches.{StateLaw, on_block, cached_is, cached_on, cached_long, patches_made, patches_stay}
use Rattle.patch_extent.specs.Answers.{Setting, IsSettingOf, Append, plan_of, plan_steps, cached_bytes}
use Rattle.patch_extent.specs.Laws.{byte_at}
use Rattle.patch_extent.proofs.Making.{followed_both, followed_none}
use Rattle.patch_extent.proofs.Finishing.{BlockLaw}
use Rattle.patch_extent.proofs.Spans.{is_touched, range_both}

-- a plan's changes are of bytes and pointers
abbrev pub IsOfExtents : Change → Type 0
IsOfExtents (Data extent offset bytes) = Unit {0}
IsOfExtents (Point extent generation offset) = Unit {0}
IsOfExtents _ = ⊥

-- the patch is the one of a change, but for its number and what it names
pub record IsPatchOf (g : Geometry) (c : Change) (p : Patch) : Type 0 where
  pub block : p.block ≡ block_of g c
  pub start : p.start ≡ start_of c
  pub bytes : p.bytes ≡ bytes_of g c

-- and so are these of those of a plan
abbrev pub ArePatchesOf : Geometry → List Made → List Patch → Type 0
ArePatchesOf g [] [] = Unit {0}
ArePatchesOf g [] (p ∷ ps) = ⊥
ArePatchesOf g (m ∷ ms) [] = ⊥
ArePatchesOf g (m ∷ ms) (p ∷ ps) = IsPatchOf g m.change p × ArePatchesOf g ms ps

-- the patches that some steps made are those of a plan
pub record Adds (g : Geometry) (run next : Execution) (plan : List Made) : Type 0 where
  pub first : next.first ≡ run.first
  pub made : List Patch
  pub patches : patches_of next ≡ patches_of run ++ made
  pub are : ArePatchesOf g plan made

-- each change of a plan is so
abbrev pub Each : (Change → Type 0) → List Made → Type 0
Each P [] = Unit {0}
Each P (m ∷ ms) = P m.change × Each P ms

geometry_stays : (s : Extents) (n : ℕ) (c : Change) → IsOfExtents c → (after_change s n c).geometry ≡ s.geometry
geometry_stays s n (Data extent offset bytes) h = refl
geometry_stays s n (Point extent generation offset) h = refl
geometry_stays s n _ h = absurd h

merge_stays : StateLaw → (run : Execution) (o : Option ℕ) (n : ℕ)
    → (patches_of (followed_by run (option_to_list (merge_with n o))) ≡ patches_of run) × ((followed_by run (option_to_list (merge_with n o))).first ≡ run.first)
merge_stays law run None n = (ap patches_of (followed_none run), refl)
merge_stays law run (Some b) n = (patches_stay law run (Merge b n) refl, refl)

behind_stays : StateLaw → (run : Execution) (s : Extents) (n : ℕ) (c : Change) → IsOfExtents c → patches_of (followed_by run (option_to_list (merge_behind s n c))) ≡ patches_of run
behind_stays law run s n (Data extent offset bytes) h = ap patches_of (followed_none run)
behind_stays law run s n (Point extent generation offset) h = elim (cases_Bool (offset == 0)) [
  | inl u ↦ rw u (ap patches_of (followed_none run))
  | inr u ↦ rw u (merge_stays law run _ n).0
]
behind_stays law run s n _ h = absurd h

adds_more : (g : Geometry) (run mid next : Execution) (p : Patch) (m : Made) (plan : List Made) → mid.first ≡ run.first → patches_of mid ≡ patches_of run ++ p ∷ [] → IsPatchOf g m.change p
    → Adds g mid next plan → Adds g run next (m ∷ plan)
adds_more g run mid next p m plan first patches is rest = record {
  first = rest.first ∙ first;
  made = p ∷ rest.made;
  patches = rest.patches ∙ ap (λ ps. ps ++ rest.made) patches ∙ append_assoc (patches_of run) (p ∷ []) rest.made;
  are = (is, rest.are);
}

-- The steps of a plan add its patches, whichever merges are made.
pub steps_add : StateLaw → (choices : List Bool) (s : Extents) (gs : Groups) (w : Option ℕ) (n : ℕ) (plan : List Made) (run : Execution) → Each IsOfExtents plan
    → Adds s.geometry run (followed_by run (steps_of choices s gs w n plan)) plan
steps_add law choices s gs w n [] run h = record { first = refl; made = []; patches = ap patches_of (followed_none run) ∙ sym (append-nil (patches_of run)); are = tt }
steps_add law [] s gs w n (m ∷ plan) run h =
    let step = step_of s.geometry (record m { after = named gs w m.after }) in
    let p = next_patch run (block_of s.geometry m.change) (start_of m.change) (bytes_of s.geometry m.change) (named gs w m.after) MayDrop in
    let same = geometry_stays s n m.change h.0 in
    let rest = steps_add law [] (after_change s n m.change) (with_patch gs w n) w (n + 1) plan (extended run step) h.1 in
    let more = steps_of [] (after_change s n m.change) (with_patch gs w n) w (n + 1) plan in
    subst (λ r. Adds s.geometry run r (m ∷ plan)) (followed_both run (step ∷ []) more)
    (adds_more s.geometry run (extended run step) _ p m plan refl (patches_made law run _ _ _ _ _) (record { block = refl; start = refl; bytes = refl })
    (subst (λ g. Adds g (extended run step) (followed_by (extended run step) more) plan) same rest))
steps_add law (false ∷ choices) s gs w n (m ∷ plan) run h =
    let step = step_of s.geometry (record m { after = named gs w m.after }) in
    let p = next_patch run (block_of s.geometry m.change) (start_of m.change) (bytes_of s.geometry m.change) (named gs w m.after) MayDrop in
    let same = geometry_stays s n m.change h.0 in
    let rest = steps_add law choices (after_change s n m.change) (with_patch gs w n) w (n + 1) plan (extended run step) h.1 in
    let more = steps_of choices (after_change s n m.change) (with_patch gs w n) w (n + 1) plan in
    subst (λ r. Adds s.geometry run r (m ∷ plan)) (followed_both run (step ∷ []) more)
    (adds_more s.geometry run (extended run step) _ p m plan refl (patches_made law run _ _ _ _ _) (record { block = refl; start = refl; bytes = refl })
    (subst (λ g. Adds g (extended run step) (followed_by (extended run step) more) plan) same rest))
steps_add law (true ∷ choices) s gs w n (m ∷ plan) run h =
    let step = step_of s.geometry (record m { after = named gs w m.after }) in
    let p = next_patch run (block_of s.geometry m.change) (start_of m.change) (bytes_of s.geometry m.change) (named gs w m.after) MayDrop in
    let same = geometry_stays s n m.change h.0 in
    let merges = option_to_list (merge_behind s n m.change) in
    let mid = followed_by (extended run step) merges in
    let rest = steps_add law choices (after_change s n m.change) (with_patch gs w n) w (n + 1) plan mid h.1 in
    let more = steps_of choices (after_change s n m.change) (with_patch gs w n) w (n + 1) plan in
    subst (λ r. Adds s.geometry run r (m ∷ plan)) (followed_both (extended run step) merges more ∙ followed_both run (step ∷ []) (merges ++ more))
    (adds_more s.geometry run mid _ p m plan refl (behind_stays law (extended run step) s n m.change h.0 ∙ patches_made law run _ _ _ _ _) (record { block = refl; start = refl; bytes = refl })
    (subst (λ g. Adds g mid (followed_by mid more) plan) same rest))

-- The place j of the block b is outside of the patch.
abbrev pub IsOff : (b j : ℕ) → Patch → Type 0
IsOff b j p = p.block ≡ b → (end p ≤ 4096) × ((j < p.start) ⊎ (end p ≤ j))

abbrev pub AllOff : (b j : ℕ) → List Patch → Type 0
AllOff b j [] = Unit {0}
AllOff b j (p ∷ ps) = IsOff b j p × AllOff b j ps

lay_off : (blk : List ℕ) (p : Patch) (j : ℕ) → end p ≤ length blk → (j < p.start) ⊎ (end p ≤ j) → get_or (lay blk p) j 0 ≡ get_or blk j 0
lay_off blk p j fits (inl before) = lay-before blk p j 0 fits before
lay_off blk p j fits (inr behind) = lay-behind blk p j 0 fits behind

-- patches that are outside leave the byte
pile_off : (b j : ℕ) (ps : List Patch) (blk : List ℕ) → length blk ≡ 4096 → AllOff b j ps → get_or (pile blk (on_block b ps)) j 0 ≡ get_or blk j 0
pile_off b j [] blk long off = refl
pile_off b j (p ∷ ps) blk long off = elim (cases_Bool (p.block == b)) [
  | inl u ↦
      let same : p.block ≡ b = grind (arith, nat_tests) in
      let told = off.0 same in
      let fits : end p ≤ length blk = omega (arith, told.0, long) in
      rw u (pile_off b j ps (lay blk p) (length-lay blk p fits ∙ long) off.1 ∙ lay_off blk p j fits told.1)
  | inr u ↦ rw u (pile_off b j ps blk long off.1)
]

on_both : (b : ℕ) (ps qs : List Patch) → on_block b (ps ++ qs) ≡ on_block b ps ++ on_block b qs
on_both b [] qs = refl
on_both b (p ∷ ps) qs = elim (cases_Bool (p.block == b)) [
  | inl u ↦ rw u (ap (λ xs. p ∷ xs) (on_both b ps qs))
  | inr u ↦ rw u (on_both b ps qs)
]

pile_both : (ps qs : List Patch) (blk : List ℕ) → pile blk (ps ++ qs) ≡ pile (pile blk ps) qs
pile_both [] qs blk = refl
pile_both (p ∷ ps) qs blk = pile_both ps qs (lay blk p)

-- a cached block with more patches
pub cached_more : (g : Geometry) (run next : Execution) (plan : List Made) (b : ℕ) (adds : Adds g run next plan) → cached (history_of next b) ≡ pile (cached (history_of run b)) (on_block b adds.made)
cached_more g run next plan b adds =
    let start = slice_index_or run.first b [] in
    cached_is next b ∙ ap (λ f. pile (slice_index_or f b []) (on_block b (patches_of next))) adds.first
    ∙ ap (λ ps. pile start (on_block b ps)) adds.patches ∙ ap (pile start) (on_both b (patches_of run) adds.made)
    ∙ pile_both (on_block b (patches_of run)) (on_block b adds.made) start ∙ ap (λ blk. pile blk (on_block b adds.made)) (sym (cached_is run b))

-- A byte that each change of a plan leaves.
abbrev pub Leaves : Geometry → (b j : ℕ) → Change → Type 0
Leaves g b j c = (p : Patch) → IsPatchOf g c p → IsOff b j p

all_off : (g : Geometry) (b j : ℕ) (plan : List Made) (ps : List Patch) → ArePatchesOf g plan ps → Each (Leaves g b j) plan → AllOff b j ps
all_off g b j [] [] are leave = tt
all_off g b j [] (p ∷ ps) are leave = absurd are
all_off g b j (m ∷ ms) [] are leave = absurd are
all_off g b j (m ∷ ms) (p ∷ ps) are leave = (leave.0 p are.0, all_off g b j ms ps are.1 leave.1)

-- is as it was
pub left_alone : (g : Geometry) (run next : Execution) (plan : List Made) (b j : ℕ) → Adds g run next plan → length (cached (history_of run b)) ≡ 4096 → Each (Leaves g b j) plan
    → get_or (cached (history_of next b)) j 0 ≡ get_or (cached (history_of run b)) j 0
left_alone g run next plan b j adds long leave =
    ap (λ blk. get_or blk j 0) (cached_more g run next plan b adds) ∙ pile_off b j adds.made (cached (history_of run b)) long (all_off g b j plan adds.made adds.are leave)

each_take : (P : Change → Type 0) (k : ℕ) (ms : List Made) → Each P ms → Each P (take k ms)
each_take P zero ms h = tt
each_take P (suc k) [] h = tt
each_take P (suc k) (m ∷ ms) h = (h.0, each_take P k ms h.1)

each_push : (P : Change → Type 0) (ms : List Made) (m : Made) → Each P ms → P m.change → Each P (ms ++ m ∷ [])
each_push P [] m h last = (last, tt)
each_push P (x ∷ xs) m h last = (h.0, each_push P xs m h.1 last)

each_part : (P : Change → Type 0) (e offset : ℕ) (bytes names : List ℕ) (a n : ℕ) → ((k : ℕ) → k < a + n → P (part e offset bytes k))
    → Each P (map (λ k. record { change = part e offset bytes k; after = names }) (range_with_len a n))
each_part P e offset bytes names a zero h = tt
each_part P e offset bytes names a (suc n) h = (h a (omega arith), each_part P e offset bytes names (a + 1) n (λ k less. h k (omega (arith, less))))

-- what is so of each part, and of the pointer record, is so of each change of an append, and of the first of them
each_of_append : (P : Change → Type 0) (k : ℕ) (s : Extents) (n extent : ℕ) (bytes after : List ℕ)
    → ((j : ℕ) → j < touched (offset_at s extent) (length bytes) → P (part extent (offset_at s extent) bytes j))
    → P (Point extent (generation_at s extent) (offset_at s extent + length bytes))
    → Each P (take k (append_plan s n extent bytes after))
each_of_append P k s n extent bytes after each last =
    each_take P k (append_plan s n extent bytes after)
    (each_push P (parts extent (offset_at s extent) bytes (names_behind s extent after) (touched (offset_at s extent) (length bytes))) _
    (each_part P extent (offset_at s extent) bytes (names_behind s extent after) 0 (touched (offset_at s extent) (length bytes)) (λ j less. each j (omega (arith, less)))) last)

extents_apart : (g : Geometry) (a b : ℕ) → a < b → first_block g a + extent_blocks g.format ≤ first_block g b
extents_apart g a b less =
    let x = extent_blocks g.format in
    let k : ℕ = b - (a + 1) in
    let is : b ≡ a + 1 + k = omega arith in
    let product : extent_blocks g.format * b ≡ extent_blocks g.format * (a + 1 + k) = ap (λ n. extent_blocks g.format * n) is in
    omega arith

block_of_place : (i x : ℕ) → i < 4096 * x → i / 4096 < x
block_of_place i x h = let d = div-add-mod i 4096 in omega arith

-- two places in one block are of one extent
same_place : (g : Geometry) (e x i o : ℕ) → i < largest_pointer g.format → o < largest_pointer g.format
    → first_block g e + i / 4096 ≡ first_block g x + o / 4096 → (e ≡ x) × (i / 4096 ≡ o / 4096)
same_place g e x i o inside_i inside_o same =
    let low_i = block_of_place i (extent_blocks g.format) inside_i in
    let low_o = block_of_place o (extent_blocks g.format) inside_o in
    elim (cases_lt e x) [
      | inl less ↦ let far = extents_apart g e x less in absurd (omega arith)
      | inr le ↦ elim (cases_lt x e) [
        | inl less ↦ let far = extents_apart g x e less in absurd (omega arith)
        | inr ge ↦ let one : e ≡ x = omega arith in let first : first_block g e ≡ first_block g x = ap (first_block g) one in (one, omega arith)
      ]
    ]

slice_short : (bs : List ℕ) (i j : ℕ) → length (slice_range bs i j) ≤ j - i
slice_short bs i j = omega (arith, length-take (j - i) (drop i bs))

part_leaves : (g : Geometry) (e offset : ℕ) (bytes : List ℕ) (k x i : ℕ) → 0 < length bytes → k < touched offset (length bytes) → offset + length bytes ≤ largest_pointer g.format
    → i < largest_pointer g.format → (x ≡ e → i < offset) → Leaves g (first_block g x + i / 4096) (i % 4096) (part e offset bytes k)
part_leaves g e offset bytes k x i some less room inside below p is same =
    let t = is_touched offset (length bytes) k some less in
    let starts = t.starts in
    let ends = t.ends in
    let filled = t.some in
    let one_block = t.one_block in
    let short = slice_short bytes (part_start offset k - offset) (part_end offset (length bytes) k - offset) in
    let start = is.start in
    let count : length p.bytes ≡ length (slice_range bytes (part_start offset k - offset) (part_end offset (length bytes) k - offset)) = ap length is.bytes in
    let there : first_block g x + i / 4096 ≡ first_block g e + part_start offset k / 4096 = sym same ∙ is.block in
    let far : part_start offset k < largest_pointer g.format = omega (arith, filled, ends, room) in
    let both = same_place g x e i (part_start offset k) inside far there in
    let before = below both.0 in
    let quotient = both.1 in
    let d = div-add-mod i 4096 in
    let f = div-add-mod (part_start offset k) 4096 in
    (omega (arith, start, count, short, one_block, starts, filled), inl (omega (arith, d, f, quotient, before, starts, start)))

point_leaves : (g : Geometry) (e generation offset x i : ℕ) → Leaves g (first_block g x + i / 4096) (i % 4096) (Point e generation offset)
point_leaves g e generation offset x i p is same = let on = is.block in absurd (omega (arith, on, same))

-- The bytes that lie below the pointers stay.
pub below_stays : StateLaw → BlockLaw → (run : Execution) (a : Append) (old : Setting) (choices : List Bool) (k x i : ℕ) → IsSettingOf old run
    → 0 < length a.bytes → offset_at old.extents a.extent + length a.bytes ≤ largest_pointer old.extents.geometry.format
    → x < old.extents.geometry.extents → i < largest_pointer old.extents.geometry.format → (x ≡ a.extent → i < offset_at old.extents a.extent)
    → byte_at old.extents.geometry (followed_by run (plan_steps run old a.writer choices (take k (plan_of run old.extents a)))) x i ≡ byte_at old.extents.geometry run x i
below_stays law bl run a old choices k x i h some room known inside below =
    let g = old.extents.geometry in
    let n = length (entries_of run) in
    let plan = take k (plan_of run old.extents a) in
    let next = followed_by run (plan_steps run old a.writer choices plan) in
    let b = first_block g x + i / 4096 in
    let adds = steps_add law choices old.extents old.groups a.writer n plan run (each_of_append IsOfExtents k old.extents n a.extent a.bytes a.after (λ j less. tt) tt) in
    let far = extents_apart g x g.extents known in
    let low = block_of_place i (extent_blocks g.format) inside in
    let blocks = h.represents.blocks in
    let there : first_block g x + i / 4096 < length run.first = omega (arith, far, low, blocks) in
    let kept : length next.first ≡ length run.first = ap length adds.first in
    let long = cached_long run (first_block g x + i / 4096) (bl run (first_block g x + i / 4096) h.cache_is.legal there) in
    let leaves = each_of_append (Leaves g (first_block g x + i / 4096) (i % 4096)) k old.extents n a.extent a.bytes a.after
    (λ j less. part_leaves g a.extent (offset_at old.extents a.extent) a.bytes j x i some less room inside below)
    (point_leaves g a.extent (generation_at old.extents a.extent) (offset_at old.extents a.extent + length a.bytes) x i) in
    ap (λ blk. get_or blk (i % 4096) 0) (cached_on next (first_block g x + i / 4096) (omega (arith, there, kept)))
    ∙ left_alone g run next plan (first_block g x + i / 4096) (i % 4096) adds long leaves
    ∙ ap (λ blk. get_or blk (i % 4096) 0) (sym (cached_on run (first_block g x + i / 4096) there))

-- The bytes of an append.

long_off : (b j : ℕ) (ps : List Patch) (blk : List ℕ) → length blk ≡ 4096 → AllOff b j ps → length (pile blk (on_block b ps)) ≡ 4096
long_off b j [] blk long off = long
long_off b j (p ∷ ps) blk long off = elim (cases_Bool (p.block == b)) [
  | inl u ↦
      let same : p.block ≡ b = grind (arith, nat_tests) in
      let told = off.0 same in
      let fits : end p ≤ length blk = omega (arith, told.0, long) in
      rw u (long_off b j ps (lay blk p) (length-lay blk p fits ∙ long) off.1)
  | inr u ↦ rw u (long_off b j ps blk long off.1)
]

-- the patches of a plan, cut where the plan is
record CutAt (g : Geometry) (before : List Made) (m : Made) (after : List Made) (ps : List Patch) : Type 0 where
  first : List Patch
  here : Patch
  rest : List Patch
  are : ps ≡ first ++ here ∷ rest
  first_are : ArePatchesOf g before first
  here_is : IsPatchOf g m.change here
  rest_are : ArePatchesOf g after rest

cut_at : (g : Geometry) (before : List Made) (m : Made) (after : List Made) (ps : List Patch) → ArePatchesOf g (before ++ m ∷ after) ps → CutAt g before m after ps
cut_at g [] m after [] h = absurd h
cut_at g [] m after (p ∷ ps) h = record { first = []; here = p; rest = ps; are = refl; first_are = tt; here_is = h.0; rest_are = h.1 }
cut_at g (x ∷ xs) m after [] h = absurd h
cut_at g (x ∷ xs) m after (p ∷ ps) h =
    let r = cut_at g xs m after ps h.1 in
    record { first = p ∷ r.first; here = r.here; rest = r.rest; are = ap (λ qs. p ∷ qs) r.are; first_are = (h.0, r.first_are); here_is = r.here_is; rest_are = r.rest_are }

-- the byte that one patch of the block puts there, and no other
put_once : (b j : ℕ) (first : List Patch) (p : Patch) (rest : List Patch) (blk : List ℕ) → length blk ≡ 4096 → p.block ≡ b → end p ≤ 4096 → p.start ≤ j → j < end p → AllOff b j first → AllOff b j rest
    → get_or (pile blk (on_block b (first ++ p ∷ rest))) j 0 ≡ get_or p.bytes (j - p.start) 0
put_once b j first p rest blk long same fits from to off_first off_rest =
    let t : (p.block == b) ≡ true = grind (arith, nat_tests) in
    let base = pile blk (on_block b first) in
    let long_base = long_off b j first blk long off_first in
    let fit : end p ≤ length (pile blk (on_block b first)) = omega (arith, fits, long_base) in
    let mine : on_block b (p ∷ rest) ≡ p ∷ on_block b rest = rw t refl in
    ap (λ ps. get_or (pile blk ps) j 0) (on_both b first (p ∷ rest) ∙ ap (λ qs. on_block b first ++ qs) mine)
    ∙ ap (λ x. get_or x j 0) (pile_both (on_block b first) (p ∷ on_block b rest) blk)
    ∙ pile_off b j rest (lay (pile blk (on_block b first)) p) (length-lay (pile blk (on_block b first)) p fit ∙ long_base) off_rest
    ∙ lay-inside (pile blk (on_block b first)) p j 0 fit from to

-- the number of a part's block
part_block : (offset len k : ℕ) → 0 < len → k < touched offset len → part_start offset k / 4096 ≡ offset / 4096 + k
part_block offset len k some less = let d = div-add-mod offset 4096 in let f = div-add-mod (part_start offset k) 4096 in omega arith

-- another part is of another block
other_part : (g : Geometry) (e offset : ℕ) (bytes : List ℕ) (k k0 i : ℕ) → 0 < length bytes → k < touched offset (length bytes) → offset + length bytes ≤ largest_pointer g.format
    → i < largest_pointer g.format → i / 4096 ≡ offset / 4096 + k0 → k ≢ k0 → Leaves g (first_block g e + i / 4096) (i % 4096) (part e offset bytes k)
other_part g e offset bytes k k0 i some less room inside at other p is same =
    let t = is_touched offset (length bytes) k some less in
    let far : part_start offset k < largest_pointer g.format = omega (arith, t.some, t.ends, room) in
    let both = same_place g e e i (part_start offset k) inside far (sym same ∙ is.block) in
    let block = part_block offset (length bytes) k some less in
    absurd (other (omega (arith, both.1, block, at)))

ranges : (n k : ℕ) → k < n → range_with_len 0 n ≡ range_with_len 0 k ++ k ∷ range_with_len (k + 1) (n - (k + 1))
ranges n k less =
    let all : n ≡ k + suc (n - (k + 1)) = omega arith in
    let z : 0 + k ≡ k = omega arith in
    ap (range_with_len 0) all ∙ range_both 0 k (suc (n - (k + 1))) ∙ ap (λ a. range_with_len 0 k ++ range_with_len a (suc (n - (k + 1)))) z

each_from : (P : Change → Type 0) (e offset : ℕ) (bytes names : List ℕ) (a n : ℕ) → ((k : ℕ) → a ≤ k → k < a + n → P (part e offset bytes k))
    → Each P (map (λ k. record { change = part e offset bytes k; after = names }) (range_with_len a n))
each_from P e offset bytes names a zero h = tt
each_from P e offset bytes names a (suc n) h = (h a (omega arith) (omega arith), each_from P e offset bytes names (a + 1) n (λ k from less. h k (omega (arith, from)) (omega (arith, less))))

length_of_part : (bs : List ℕ) (offset from to : ℕ) → offset ≤ from → to ≤ offset + length bs → length (slice_range bs (from - offset) (to - offset)) ≡ to - from
length_of_part bs offset from to low high = omega (arith, length-take (to - offset - (from - offset)) (drop (from - offset) bs), length-drop (from - offset) bs)

-- the bytes of a part
byte_of_part : (bs : List ℕ) (from to n : ℕ) → n < to - from → get_or (slice_range bs from to) n 0 ≡ get_or bs (from + n) 0
byte_of_part bs from to n less = get_or-take (to - from) (drop from bs) n 0 less ∙ get_or-drop from bs n 0

-- Each byte of an append stands at its place.
byte_put : StateLaw → BlockLaw → (run : Execution) (a : Append) (old : Setting) (choices : List Bool) (n : ℕ) → IsSettingOf old run
    → a.extent < old.extents.geometry.extents → offset_at old.extents a.extent + length a.bytes ≤ largest_pointer old.extents.geometry.format → n < length a.bytes
    → byte_at old.extents.geometry (followed_by run (plan_steps run old a.writer choices (plan_of run old.extents a))) a.extent (offset_at old.extents a.extent + n) ≡ get_or a.bytes n 0
byte_put law bl run a old choices n h known room within =
    let g = old.extents.geometry in
    let e = a.extent in
    let offset = offset_at old.extents a.extent in
    let i = offset_at old.extents a.extent + n in
    let count = touched (offset_at old.extents a.extent) (length a.bytes) in
    let k : ℕ = (offset_at old.extents a.extent + n) / 4096 - offset_at old.extents a.extent / 4096 in
    let some : 0 < length a.bytes = omega (arith, within) in
    let d = div-add-mod (offset_at old.extents a.extent) 4096 in
    let di = div-add-mod (offset_at old.extents a.extent + n) 4096 in
    let dl = div-add-mod (offset_at old.extents a.extent + length a.bytes - 1) 4096 in
    let at : (offset_at old.extents a.extent + n) / 4096 ≡ offset_at old.extents a.extent / 4096 + k = omega (arith, d, di) in
    let less : k < touched (offset_at old.extents a.extent) (length a.bytes) = omega (arith, d, di, dl, within) in
    let t = is_touched (offset_at old.extents a.extent) (length a.bytes) k some less in
    let block = part_block (offset_at old.extents a.extent) (length a.bytes) k some less in
    let df = div-add-mod (part_start (offset_at old.extents a.extent) k) 4096 in
    let from : part_start (offset_at old.extents a.extent) k ≤ offset_at old.extents a.extent + n = omega (arith, d, di, at) in
    let to : offset_at old.extents a.extent + n < part_end (offset_at old.extents a.extent) (length a.bytes) k = omega (arith, d, di, at, within) in
    let inside : offset_at old.extents a.extent + n < largest_pointer old.extents.geometry.format = omega (arith, within, room) in
    let names = names_behind old.extents a.extent a.after in
    let first = parts a.extent (offset_at old.extents a.extent) a.bytes (names_behind old.extents a.extent a.after) k in
    let m : Made = record { change = part a.extent (offset_at old.extents a.extent) a.bytes k; after = names_behind old.extents a.extent a.after } in
    let f : ℕ → Made = λ (j : ℕ). record { change = part a.extent (offset_at old.extents a.extent) a.bytes j; after = names_behind old.extents a.extent a.after } in
    let last : Made = record {
      change = Point a.extent (generation_at old.extents a.extent) (offset_at old.extents a.extent + length a.bytes);
      after = range_with_len
          (length (entries_of run)) (touched (offset_at old.extents a.extent) (length a.bytes));
    } in
    let others = map f (range_with_len (k + 1) (count - (k + 1))) ++ last ∷ [] in
    let plan : plan_of run old.extents a ≡ first ++ m ∷ others =
    ap (λ ks. map f ks ++ last ∷ []) (ranges count k less)
    ∙ ap (λ ms. ms ++ last ∷ []) (map-append f (range_with_len 0 k) (k ∷ range_with_len (k + 1) (count - (k + 1))))
    ∙ append_assoc first (m ∷ map f (range_with_len (k + 1) (count - (k + 1)))) (last ∷ []) in
    let adds = steps_add law choices old.extents old.groups a.writer (length (entries_of run)) (plan_of run old.extents a) run
    (each_push IsOfExtents (parts a.extent offset a.bytes names count) last (each_part IsOfExtents a.extent offset a.bytes names 0 count (λ j under. tt)) tt) in
    let next = followed_by run (plan_steps run old a.writer choices (plan_of run old.extents a)) in
    let cut = cut_at g first m others adds.made (subst (λ ms. ArePatchesOf g ms adds.made) plan adds.are) in
    let far = extents_apart g e g.extents known in
    let low = block_of_place i (extent_blocks g.format) inside in
    let blocks = h.represents.blocks in
    let b = first_block g e + i / 4096 in
    let there : first_block g e + i / 4096 < length run.first = omega (arith, far, low, blocks) in
    let kept : length next.first ≡ length run.first = ap length adds.first in
    let long = cached_long run (first_block g e + i / 4096) (bl run (first_block g e + i / 4096) h.cache_is.legal there) in
    let p = cut.here in
    let is = cut.here_is in
    let start = is.start in
    let short : length p.bytes ≡ part_end offset (length a.bytes) k - part_start offset k = ap length is.bytes
    ∙ length_of_part a.bytes offset (part_start offset k) (part_end offset (length a.bytes) k) t.starts t.ends in
    let same : p.block ≡ first_block g e + i / 4096 = is.block ∙ ap (λ q. first_block g e + q) (block ∙ sym at) in
    let leaves : (j : ℕ) → j < count → j ≢ k → Leaves g (first_block g e + i / 4096) (i % 4096) (part e offset a.bytes j) =
    λ j under other. other_part g e offset a.bytes j k i some under room inside at other in
    let off_first = all_off g b (i % 4096) first cut.first cut.first_are
    (each_part (Leaves g b (i % 4096)) e offset a.bytes names 0 k (λ j under. leaves j (omega (arith, under, less)) (λ s. absurd (omega (arith, under, s))))) in
    let off_rest = all_off g b (i % 4096) others cut.rest cut.rest_are
    (each_push (Leaves g b (i % 4096)) (map f (range_with_len (k + 1) (count - (k + 1)))) last
    (each_from (Leaves g b (i % 4096)) e offset a.bytes names (k + 1) (count - (k + 1)) (λ j above under. leaves j (omega (arith, under, less)) (λ s. absurd (omega (arith, above, s)))))
    (point_leaves g e (generation_at old.extents a.extent) (offset + length a.bytes) e i)) in
    ap (λ blk. get_or blk (i % 4096) 0) (cached_on next (first_block g e + i / 4096) (omega (arith, there, kept)))
    ∙ ap (λ blk. get_or blk (i % 4096) 0) (cached_more g run next (plan_of run old.extents a) b adds)
    ∙ ap (λ ps. get_or (pile (cached (history_of run b)) (on_block b ps)) (i % 4096) 0) cut.are
    ∙ put_once b (i % 4096) cut.first p cut.rest (cached (history_of run b)) long same (omega (arith, start, short, t.one_block)) (omega (arith, start, from, block, at, di, df))
    (omega (arith, start, short, to, block, at, di, df)) off_first off_rest
    ∙ ap (λ bs. get_or bs (i % 4096 - p.start) 0) is.bytes
    ∙ ap (λ x. get_or (slice_range a.bytes (part_start offset k - offset) (part_end offset (length a.bytes) k - offset)) x 0)
    (let z : i % 4096 - p.start ≡ i - part_start offset k = omega (arith, start, from, block, at, di, df) in z)
    ∙ byte_of_part a.bytes (part_start offset k - offset) (part_end offset (length a.bytes) k - offset) (i - part_start offset k) (omega (arith, to, from, t.starts))
    ∙ ap (λ x. get_or a.bytes x 0) (let z : part_start offset k - offset + (i - part_start offset k) ≡ n = omega (arith, from, t.starts) in z)

list_is : (f : ℕ → ℕ) (a : ℕ) (xs : List ℕ) → ((j : ℕ) → j < length xs → f (a + j) ≡ get_or xs j 0) → map f (range_with_len a (length xs)) ≡ xs
list_is f a [] h = refl
list_is f a (x ∷ xs) h =
    ap (λ y. y ∷ map f (range_with_len (a + 1) (length xs))) (ap f (let e : a ≡ a + 0 = omega arith in e) ∙ h 0 (omega arith))
    ∙ ap (λ ys. x ∷ ys) (list_is f (a + 1) xs (λ j less. ap f (let e : a + 1 + j ≡ a + suc j = omega arith in e) ∙ h (suc j) (omega (arith, less))))

-- So what is read of its place is what was appended.
pub bytes_put : StateLaw → BlockLaw → (run : Execution) (a : Append) (old : Setting) (choices : List Bool) → IsSettingOf old run
    → a.extent < old.extents.geometry.extents → offset_at old.extents a.extent + length a.bytes ≤ largest_pointer old.extents.geometry.format
    → cached_bytes old.extents.geometry (followed_by run (plan_steps run old a.writer choices (plan_of run old.extents a))) a.extent (offset_at old.extents a.extent) (length a.bytes) ≡ a.bytes
bytes_put law bl run a old choices h known room =
    list_is (λ place. byte_at old.extents.geometry (followed_by run (plan_steps run old a.writer choices (plan_of run old.extents a))) a.extent place) (offset_at old.extents a.extent) a.bytes
    (λ j less. byte_put law bl run a old choices j h known room less)

-- A reset leaves all bytes of the extents.
pub reset_stays : StateLaw → BlockLaw → (run : Execution) (old : Setting) (choices : List Bool) (extent : ℕ) (after : List ℕ) (x i : ℕ) → IsSettingOf old run
    → x < old.extents.geometry.extents → i < largest_pointer old.extents.geometry.format
    → byte_at old.extents.geometry (followed_by run (plan_steps run old None choices (reset_plan old.extents extent after))) x i ≡ byte_at old.extents.geometry run x i
reset_stays law bl run old choices extent after x i h known inside =
    let g = old.extents.geometry in
    let plan = reset_plan old.extents extent after in
    let next = followed_by run (plan_steps run old None choices plan) in
    let adds = steps_add law choices old.extents old.groups None (length (entries_of run)) plan run (tt, tt) in
    let far = extents_apart g x g.extents known in
    let low = block_of_place i (extent_blocks g.format) inside in
    let blocks = h.represents.blocks in
    let there : first_block g x + i / 4096 < length run.first = omega (arith, far, low, blocks) in
    let kept : length next.first ≡ length run.first = ap length adds.first in
    let long = cached_long run (first_block g x + i / 4096) (bl run (first_block g x + i / 4096) h.cache_is.legal there) in
    ap (λ blk. get_or blk (i % 4096) 0) (cached_on next (first_block g x + i / 4096) (omega (arith, there, kept)))
    ∙ left_alone g run next plan (first_block g x + i / 4096) (i % 4096) adds long (point_leaves g extent (generation_at old.extents extent + 1) 0 x i, tt)
    ∙ ap (λ blk. get_or blk (i % 4096) 0) (sym (cached_on run (first_block g x + i / 4096) there))
