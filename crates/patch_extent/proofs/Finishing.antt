-- What the patches of an append come to.
use Rattle.std.proofs.Common.{◌≡◌, ℕ, ◌+◌, ◌-◌, ◌/◌, ◌%◌, ◌<◌, ◌≤◌, ◌∙◌, Bool, true, false, List, [], ◌∷◌, ◌++◌, length, slice_range, Option, Some}
use Rattle.std.proofs.Common.{None, refl, sym, ap, subst, append-nil, arith}
use Rattle.std.specs.Prelude.{◌==◌, if◌then◌else◌, slice_set, replicate, Result}
use Rattle.std.specs.List.{range_with_len}
use Rattle.std.proofs.lemmas.Bool.Decides.{nat_tests}
use Rattle.std.proofs.lemmas.List.{length-append, length-replicate, take_all}
use Rattle.std.proofs.Math.Nat.{div-add-mod}
use Rattle.patch_model.specs.declared.patches.Undo.TheVariants.{MayDrop}
use Rattle.patch_model.specs.declared.refusals.OutOfMemory.{OutOfMemory}
use Rattle.patch_model.specs.declared.refusals.Refusal.{Refusal}
use Rattle.patch_model.specs.declared.refusals.RefusalKind.TheVariants as kind
use Rattle.patch_model.specs.Refusing.{bare}
use Rattle.patch_model.specs.Step.{Create, Merge}
use Rattle.patch_model.specs.Execution.{Execution, extended, followed_by}
use Rattle.patch_model.specs.State.{entries_of, next_patch}
use Rattle.patch_model.specs.Legal.{IsLegal}
use Rattle.patch_model.specs.History.{history_of, cached}
use Rattle.patch_model.specs.Orderly.{IsOrderlyBlock}
use Rattle.patch_frame.specs.declared.geometries.Geometry.{Geometry}
use Rattle.patch_frame.specs.declared.pointers.Pointer.{Pointer}
use Rattle.patch_frame.specs.Geometry.{first_block, largest_pointer, pointer_block, pointer_start}
use Rattle.patch_frame.specs.Pointer.{Fits, spelling}
use Rattle.patch_cache.specs.Contents.{Contents}
use Rattle.patch_cache.specs.Meaning.{IsCacheOf}
use Rattle.patch_cache.specs.Creating.{IsMade}
use Rattle.patch_cache.specs.Refusals.{IsCause}
use Rattle.patch_plans.specs.Groups.{Groups, named, with_patch}
use Rattle.patch_recovery.specs.Change.{Point, Made, block_of, start_of, bytes_of}
use Rattle.patch_extent.specs.declared.places.Appended.{Appended}
use Rattle.patch_plans.specs.declared.records.Extent.{Extent}
use Rattle.patch_plans.specs.Extents.{Extents, extent_at, generation_at, offset_at, pointed, after_point}
use Rattle.patch_plans.specs.Planning.{touched, part_start, part_end, part, parts, names_behind, reset_plan}
use Rattle.patch_plans.specs.Writing.{merge_with, merge_behind}
use Rattle.patch_plans.specs.Meaning.{AreExtentsOf}
use Rattle.patch_extent.specs.Answers.{Setting, setting, asked, IsSettingOf, AreMade, IsWritten, IsBegun, Append, plan_of, place_for, plan_steps, before_merge}
use Rattle.patch_extent.specs.Appending.{IsPatched, LaysPatch, MergesBehind, IsDone, parts_of}
use Rattle.patch_extent.specs.Merging.{IsOutcome, is_made}
use Rattle.patch_extent.specs.declared.places.MergeOutcome.{MergeOutcome}
use Rattle.patch_extent.proofs.Patches.{StateLaw, patches_made, entries_made, entries_stay, cached_long}
use Rattle.patch_extent.proofs.NextStep.{PointerLaw, data_kept, others_kept, point_made, pointer_block_there}
use Rattle.patch_extent.proofs.Making.{merges, create_of, patch_made, steps_more, last_made, nothing_made, followed_both, followed_none, parts_more, length-parts, take_parts}

-- what patch_model says of each block
abbrev pub BlockLaw : Type 0
BlockLaw = (run : Execution) (block : ℕ) → IsLegal run → block < length run.first → IsOrderlyBlock (history_of run block) block

-- a part that was laid where the code says
pub laid_there : (g : Geometry) (e offset k first off start stop : ℕ) (bytes piece : List ℕ) (writer : Option ℕ) (names : List ℕ) (gs next_gs : Groups) (c next : Contents)
    (result : Result ℕ OutOfMemory)
    → first ≡ first_block g e → off ≡ offset → start ≡ part_start offset k → stop ≡ part_end offset (length bytes) k → piece ≡ slice_range bytes (start - off) (stop - off)
    → LaysPatch (first + start / 4096) (start % 4096) piece writer names result gs c next_gs next
    → LaysPatch (block_of g (part e offset bytes k)) (start_of (part e offset bytes k)) (bytes_of g (part e offset bytes k)) writer names result gs c next_gs next
laid_there g e offset k first off start stop bytes piece writer names gs next_gs c next result first_is off_is start_is stop_is piece_is h =
    subst (λ f. LaysPatch (f + part_start offset k / 4096) (part_start offset k % 4096)
    (slice_range bytes (part_start offset k - offset) (part_end offset (length bytes) k - offset)) writer names result gs c next_gs next) first_is
    (subst (λ t. LaysPatch (first + part_start offset k / 4096) (part_start offset k % 4096) (slice_range bytes (part_start offset k - offset) (t - offset)) writer names result gs c next_gs next)
    stop_is
    (subst (λ s. LaysPatch (first + s / 4096) (s % 4096) (slice_range bytes (s - offset) (stop - offset)) writer names result gs c next_gs next) start_is
    (subst (λ o. LaysPatch (first + start / 4096) (start % 4096) (slice_range bytes (start - o) (stop - o)) writer names result gs c next_gs next) off_is
    (subst (λ p. LaysPatch (first + start / 4096) (start % 4096) p writer names result gs c next_gs next) piece_is h))))

-- where the bytes touch one block, its part is all of them, and begins where they do
pub starts_whole : (offset : ℕ) → offset ≡ part_start offset 0
starts_whole offset = let d = div-add-mod offset 4096 in omega (arith, d)

pub part_whole : (offset : ℕ) (bytes : List ℕ) → 0 < length bytes → touched offset (length bytes) ≤ 1
    → bytes ≡ slice_range bytes (offset - offset) (part_end offset (length bytes) 0 - offset)
part_whole offset bytes some one =
    let d = div-add-mod offset 4096 in
    let dl = div-add-mod (offset + length bytes - 1) 4096 in
    let none : offset - offset ≡ 0 = omega arith in
    let long : length bytes ≤ part_end offset (length bytes) 0 - offset - 0 = omega arith in
    sym (ap (λ n. slice_range bytes n (part_end offset (length bytes) 0 - offset)) none ∙ take_all (part_end offset (length bytes) 0 - offset - 0) bytes long)

-- One part more is laid.
pub part_laid : StateLaw → (run : Execution) (a : Append) (old : Setting) (gs next_gs : Groups) (c next : Contents) (k num : ℕ)
    → AreMade run a.writer [] (parts_of old a k) old (setting old.extents gs c)
    → IsPatched (block_of old.extents.geometry (part a.extent (offset_at old.extents a.extent) a.bytes k))
    (start_of (part a.extent (offset_at old.extents a.extent) a.bytes k))
    (bytes_of old.extents.geometry (part a.extent (offset_at old.extents a.extent) a.bytes k)) a.writer a.after gs c next_gs next num
    → AreMade run a.writer [] (parts_of old a (k + 1)) old (setting old.extents next_gs next)
part_laid law run a old gs next_gs c next k num made patched =
    let s = old.extents in
    let g = s.geometry in
    let change = part a.extent (offset_at old.extents a.extent) a.bytes k in
    let m : Made = record { change = part a.extent (offset_at old.extents a.extent) a.bytes k; after = a.after } in
    let run1 = followed_by run (plan_steps run old a.writer [] (parts_of old a k)) in
    let step = create_of (setting old.extents gs c) a.writer m in
    let number = patched.number run1 made.stands.cache_is in
    let p = next_patch run1 (block_of g change) (start_of change) (bytes_of g change) (named gs a.writer a.after) MayDrop in
    subst (λ plan. AreMade run a.writer [] plan old (setting old.extents next_gs next)) (sym (parts_more a.extent (offset_at s a.extent) a.bytes a.after k))
    (patch_made law run a.writer (parts_of old a k) m old (setting old.extents gs c) (setting old.extents next_gs next) made
    (record {
      cache_is = patched.stands run1 made.stands.cache_is;
      represents = data_kept s run1 (extended run1 step) p refl
          (patches_made law run1 (block_of g change) (start_of change) (bytes_of g change) (named gs a.writer a.after) MayDrop)
          (λ same. absurd (omega (arith, same))) made.stands.represents;
    })
    patched.trace_is
    (patched.groups_are ∙ ap (with_patch gs a.writer) number)
    refl)

-- An append that was cut short has made the first parts.
pub append_begun : (run : Execution) (a : Append) (old : Setting) (gs : Groups) (c : Contents) (k : ℕ) (names : List ℕ)
    → names ≡ names_behind old.extents a.extent a.after
    → k ≤ touched (offset_at old.extents a.extent) (length a.bytes)
    → AreMade run a.writer [] (parts a.extent (offset_at old.extents a.extent) a.bytes names k) old (setting old.extents gs c)
    → IsBegun run a.writer (plan_of run old.extents a) old (setting old.extents gs c)
append_begun run a old gs c k names are le made =
    let s = old.extents in
    let count = touched (offset_at old.extents a.extent) (length a.bytes) in
    let behind = names_behind s a.extent a.after in
    let all = parts a.extent (offset_at s a.extent) a.bytes (names_behind s a.extent a.after) (touched (offset_at old.extents a.extent) (length a.bytes)) in
    let last : Made = record {
      change = Point a.extent (generation_at s a.extent) (offset_at s a.extent + length a.bytes);
      after = range_with_len (length (entries_of run))
          (touched (offset_at old.extents a.extent) (length a.bytes));
    } in
    let long : length all ≡ touched (offset_at old.extents a.extent) (length a.bytes) = length-parts a.extent (offset_at s a.extent) a.bytes (names_behind s a.extent a.after)
    (touched (offset_at old.extents a.extent) (length a.bytes)) in
    let longer : length (plan_of run old.extents a) ≡ touched (offset_at old.extents a.extent) (length a.bytes) + 1 = length-append all (last ∷ []) ∙ ap (λ n. n + 1) long in
    record {
      count = k;
      not_all = omega (arith, le, longer);
      made = subst (λ plan. AreMade run a.writer [] plan old (setting old.extents gs c))
          (ap (λ ns. parts a.extent (offset_at s a.extent) a.bytes ns k) are
          ∙ sym (take_parts a.extent (offset_at s a.extent) a.bytes (names_behind s a.extent a.after) k (touched (offset_at old.extents a.extent) (length a.bytes)) last le)) made;
      extents_are = refl;
    }

-- and before the first of them nothing
pub none_begun : (run : Execution) (a : Append) (old : Setting) → IsSettingOf old run → IsBegun run a.writer (plan_of run old.extents a) old old
none_begun run a old h = append_begun run a old old.groups old.cache 0 (names_behind old.extents a.extent a.after) refl (omega arith) (nothing_made run a.writer old h)

-- A merge keeps the extents, and so does none.
merges_kept : StateLaw → (s : Extents) (run : Execution) (before : Option ℕ) (num : ℕ) (chosen : Bool) → AreExtentsOf s run → AreExtentsOf s (followed_by run (merges chosen (merge_with num before)))
merges_kept law s run before num false r = subst (AreExtentsOf s) (sym (followed_none run)) r
merges_kept law s run None num true r = subst (AreExtentsOf s) (sym (followed_none run)) r
merges_kept law s run (Some b) num true r = others_kept law s run (Merge b num) refl r

merges_counted : StateLaw → (run : Execution) (before : Option ℕ) (num : ℕ) (chosen : Bool) → length (entries_of (followed_by run (merges chosen (merge_with num before)))) ≡ length (entries_of run)
merges_counted law run before num false = ap (λ r. length (entries_of r)) (followed_none run)
merges_counted law run None num true = ap (λ r. length (entries_of r)) (followed_none run)
merges_counted law run (Some b) num true = entries_stay law run (Merge b num) refl

pub some_offset : (offset len : ℕ) → 0 < len → (offset + len == 0) ≡ false
some_offset offset len some = grind (arith, nat_tests)

-- an append of the same bytes, told otherwise
pub done_as : (run : Execution) (writer : Option ℕ) (extent : ℕ) (bs bytes after : List ℕ) (old new : Setting) (appended : Appended)
    → bs ≡ bytes → IsDone run (asked writer extent bs after) old new appended → IsDone run (asked writer extent bytes after) old new appended
done_as run writer extent bs bytes after old new appended same h = subst (λ b. IsDone run (asked writer extent b after) old new appended) same h

-- the cause against an append, told otherwise
pub caused : (o : Option Refusal) (r t : Refusal) → o ≡ Some r → t ≡ r → IsCause o t
caused o r t h same = rw h same

-- or want of memory, where there is none
pub wanting : (o : Option Refusal) (t : Refusal) → o ≡ None → t ≡ bare kind.OutOfMemory → IsCause o t
wanting o t h same = rw h same

-- The pointer patch and its merge finish an append.
pub append_done : StateLaw → PointerLaw → BlockLaw → (run : Execution) (a : Append) (old : Setting) (gs1 gs2 : Groups) (c1 c2 c3 : Contents) (num : ℕ) (outcome : MergeOutcome) (appended : Appended)
    → a.extent < old.extents.geometry.extents → 0 < length a.bytes
    → Fits (largest_pointer old.extents.geometry.format) (record { generation = generation_at old.extents a.extent; offset = offset_at old.extents a.extent + length a.bytes })
    → AreMade run a.writer [] (parts a.extent (offset_at old.extents a.extent) a.bytes (names_behind old.extents a.extent a.after)
    (touched (offset_at old.extents a.extent) (length a.bytes))) old (setting old.extents gs1 c1)
    → IsPatched (pointer_block old.extents.geometry) (pointer_start a.extent)
    (spelling (record { generation = generation_at old.extents a.extent; offset = offset_at old.extents a.extent + length a.bytes }))
    a.writer (range_with_len (length (entries_of run)) (touched (offset_at old.extents a.extent) (length a.bytes))) gs1 c1 gs2 c2 num
    → MergesBehind (extent_at old.extents a.extent).point num outcome c2 c3
    → appended.place ≡ place_for old.extents a → appended.pointer_patch ≡ num → appended.merge ≡ outcome
    → IsDone run a old (setting (after_point old.extents num a.extent (generation_at old.extents a.extent) (offset_at old.extents a.extent + length a.bytes)) gs2 c3) appended
append_done law pl bl run a old gs1 gs2 c1 c2 c3 num outcome appended known some fits made patched told place_is no_is merge_is =
    let s = old.extents in
    let g = s.geometry in
    let e = a.extent in
    let n = length (entries_of run) in
    let count = touched (offset_at s a.extent) (length a.bytes) in
    let gen = generation_at s a.extent in
    let to = offset_at s a.extent + length a.bytes in
    let plan = parts a.extent (offset_at s a.extent) a.bytes (names_behind s a.extent a.after) (touched (offset_at s a.extent) (length a.bytes)) in
    let m : Made = record {
      change = Point a.extent (generation_at s a.extent) (offset_at s a.extent + length a.bytes);
      after = range_with_len (length (entries_of run))
          (touched (offset_at s a.extent) (length a.bytes));
    } in
    let mid = setting s gs1 c1 in
    let run1 = followed_by run (plan_steps run old a.writer [] plan) in
    let step = create_of mid a.writer m in
    let run2 = extended run1 step in
    let cache1 = made.stands.cache_is in
    let rep1 = made.stands.represents in
    let number : num ≡ length (entries_of run1) = patched.number run1 cache1 in
    let cache2 = patched.stands run1 cache1 in
    let chosen = is_made outcome in
    let point = (extent_at s a.extent).point in
    let k1 = length (entries_of run1) in
    let there = pointer_block_there g in
    let blocks = rep1.blocks in
    let whole : length (cached (history_of run1 (pointer_block g))) ≡ 4096 = cached_long run1 (pointer_block g) (bl run1 (pointer_block g) cache1.legal (omega (arith, there, blocks))) in
    let spelled = spelling (record { generation = generation_at s a.extent; offset = offset_at s a.extent + length a.bytes }) in
    let rep2 = point_made pl s run1 run2 (next_patch run1 (pointer_block g) (pointer_start e) spelled (named gs1 a.writer m.after) MayDrop) e gen to refl
    (patches_made law run1 (pointer_block g) (pointer_start e) spelled (named gs1 a.writer m.after) MayDrop) whole refl refl refl known fits rep1 in
    let new = setting (after_point s num e gen to) gs2 c3 in
    let long : length plan ≡ touched (offset_at s a.extent) (length a.bytes) = length-parts a.extent (offset_at s a.extent) a.bytes (names_behind s a.extent a.after)
    (touched (offset_at s a.extent) (length a.bytes)) in
    let counted = made.counted in
    let behind : merge_with num (extent_at s a.extent).point ≡ merge_behind s (length (entries_of run1)) m.change =
    rw (some_offset (offset_at s a.extent) (length a.bytes) some) (ap (λ k. merge_with k (extent_at s a.extent).point) number) in
    let at : run2 ≡ before_merge run old a = sym (ap (followed_by run) (steps_more run a.writer plan m old mid made) ∙ sym (followed_both run (plan_steps run old a.writer [] plan) (step ∷ []))) in
    let right : IsOutcome (entries_of (before_merge run old a)) (extent_at s a.extent).point num outcome =
    subst (λ r. IsOutcome (entries_of r) (extent_at s a.extent).point num outcome) at (told.outcome_is run2 cache2) in
    record {
      place_is = place_is;
      patch_is = no_is ∙ number ∙ counted ∙ ap (λ k. n + k) long;
      is_written = record {
        choices = replicate (length plan) false ++ chosen ∷ [];
        each = length-append (replicate (length plan) false) (chosen ∷ []) ∙ ap (λ k. k + 1) (length-replicate (length plan) false) ∙ sym (length-append plan (m ∷ []));
        made = last_made run a.writer plan m old mid new chosen (merge_with num (extent_at s a.extent).point) made behind
            (record {
              cache_is = told.stands run2 cache2;
              represents = merges_kept law (after_point s num e gen to) run2 point num chosen (subst (λ k. AreExtentsOf (after_point s k e gen to) run2) (sym number) rep2);
            })
            (merges_counted law run2 point num chosen ∙ entries_made law run1 _ _ _ _ _)
            (told.trace_is ∙ ap (λ t. t ++ merges chosen (merge_with num point)) patched.trace_is)
            (patched.groups_are ∙ ap (with_patch gs1 a.writer) number)
            (ap (λ k. after_point s k e gen to) number);
      };
      merge_is = record {
        outcome_is = subst (λ o. IsOutcome (entries_of (before_merge run old a)) (extent_at s a.extent).point appended.pointer_patch o) (sym merge_is)
            (subst (λ k. IsOutcome (entries_of (before_merge run old a)) (extent_at s a.extent).point k outcome) (sym no_is) right);
        choices_are = ap (λ k. replicate k false ++ is_made outcome ∷ []) long
            ∙ ap (λ o. replicate (touched (offset_at s a.extent) (length a.bytes)) false ++ is_made o ∷ []) (sym merge_is);
      };
    }

-- The patch of a reset.
pub reset_done : StateLaw → PointerLaw → BlockLaw → (run : Execution) (extent : ℕ) (after : List ℕ) (old : Setting) (c2 : Contents) (num : ℕ)
    → extent < old.extents.geometry.extents
    → Fits (largest_pointer old.extents.geometry.format) (record { generation = generation_at old.extents extent + 1; offset = 0 })
    → IsSettingOf old run
    → ((run : Execution) → IsCacheOf old.cache run → IsMade run (pointer_block old.extents.geometry) (pointer_start extent)
    (spelling (record { generation = generation_at old.extents extent + 1; offset = 0 })) after MayDrop num c2)
    → c2.trace ≡ old.cache.trace ++ Create (pointer_block old.extents.geometry) (pointer_start extent)
    (spelling (record { generation = generation_at old.extents extent + 1; offset = 0 })) after MayDrop ∷ []
    → (num ≡ length (entries_of run)) × IsWritten run None (reset_plan old.extents extent after) old
    (setting (after_point old.extents num extent (generation_at old.extents extent + 1) 0) old.groups c2)
reset_done law pl bl run extent after old c2 num known fits stands patched trace =
    let s = old.extents in
    let g = s.geometry in
    let gen = generation_at s extent + 1 in
    let m : Made = record { change = Point extent (generation_at s extent + 1) 0; after = after } in
    let run1 = followed_by run [] in
    let made = nothing_made run None old stands in
    let cache1 = made.stands.cache_is in
    let rep1 = made.stands.represents in
    let told = patched run1 cache1 in
    let number : num ≡ length (entries_of run1) = told.1 in
    let there = pointer_block_there g in
    let blocks = rep1.blocks in
    let whole : length (cached (history_of run1 (pointer_block g))) ≡ 4096 = cached_long run1 (pointer_block g) (bl run1 (pointer_block g) cache1.legal (omega (arith, there, blocks))) in
    let spelled = spelling (record { generation = generation_at s extent + 1; offset = 0 }) in
    let run2 = extended run1 (Create (pointer_block g) (pointer_start extent) (spelling (record { generation = generation_at s extent + 1; offset = 0 })) after MayDrop) in
    let rep2 = point_made pl s run1 run2 (next_patch run1 (pointer_block g) (pointer_start extent) spelled after MayDrop) extent gen 0 refl
    (patches_made law run1 (pointer_block g) (pointer_start extent) spelled after MayDrop) whole refl refl refl known fits rep1 in
    let new = setting (after_point s num extent gen 0) old.groups c2 in (
      number ∙ ap (λ r. length (entries_of r)) (followed_none run),
      record {
        choices = false ∷ [];
        each = refl;
        made = last_made run None [] m old old new false None made refl
            (record {
              cache_is = subst (IsCacheOf c2) (sym (followed_none run2)) told.2;
              represents = subst (AreExtentsOf (after_point s num extent gen 0)) (sym (followed_none run2)) (subst (λ k. AreExtentsOf (after_point s k extent gen 0) run2) (sym number) rep2);
            })
            (ap (λ r. length (entries_of r)) (followed_none run2) ∙ entries_made law run1 _ _ _ _ _)
            (trace ∙ sym (append-nil _))
            refl
            (ap (λ k. after_point s k extent gen 0) number);
      },
    )

-- An extent with a record of its own in place of the old one.
pub pointed_is : (x k : Extent) (num gen to : ℕ) → x.pointer ≡ record { generation = gen; offset = to } → x.reset ≡ k.reset → x.point ≡ Some num → (to == 0) ≡ false → x ≡ pointed num gen to k
pointed_is x k num gen to pointer reset point some =
    let same : (if to == 0 then Some num else k.reset) ≡ k.reset = rw some refl in
    ap (λ (y : Pointer). let z : Extent = record { pointer = y; reset = x.reset; point = x.point } in z) pointer
    ∙ ap (λ y. let z : Extent = record { pointer = record { generation = gen; offset = to }; reset = y; point = x.point } in z) (reset ∙ sym same)
    ∙ ap (λ y. let z : Extent = record { pointer = record { generation = gen; offset = to }; reset = if to == 0 then Some num else k.reset; point = y } in z) point

pub moved_is : (s t : Extents) (e num gen to : ℕ) (x : Extent) → s ≡ t → x ≡ pointed num gen to (extent_at t e)
    → (let z : Extents = record { geometry = s.geometry; each = slice_set s.each e x } in z) ≡ after_point t num e gen to
moved_is s t e num gen to x same is =
    ap (λ (u : Extents). let z : Extents = record { geometry = u.geometry; each = slice_set u.each e x } in z) same
    ∙ ap (λ y. let z : Extents = record { geometry = t.geometry; each = slice_set t.each e y } in z) is
