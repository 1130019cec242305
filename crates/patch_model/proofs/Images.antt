-- A write of a block's image over what a crash may leave.
use Rattle.std.proofs.Common.{◌≡◌, ℕ, ◌<◌, ◌∙◌, inl, inr, Bool, true, false, not, List, ◌∷◌, length, map, get_or, set, refl, sym, ap, arith, subst}
use Rattle.std.specs.Prelude.{◌==◌, ◌&&◌, ◌||◌, filter, slice_set}
use Rattle.std.specs.List.{range_with_len}
use Rattle.std.proofs.lemmas.Bool.{cases_Bool, cases_eq}
use Rattle.std.proofs.lemmas.Bool.Decides.{nat_tests}
use Rattle.std.proofs.lemmas.List.{same_lists, length-map, length-set, get_or-set_same, get_or-set_other}
use Rattle.std.proofs.lemmas.List.FromFn.{get_or-map-range_with_len, length-range_with_len}
use Rattle.patch_model.specs.declared.patches.Mark.{Mark}
use Rattle.patch_model.specs.declared.patches.Mark.TheVariants.{Memory, Flight, Durable}
use Rattle.patch_model.specs.Pile.{pile}
use Rattle.patch_model.specs.Execution.{Execution}
use Rattle.patch_model.specs.Entry.{Entry, marks_memory, marks_flight, marks_durable, is_memory}
use Rattle.patch_model.specs.State.{entries_of}
use Rattle.patch_model.specs.History.{pile_of, image, history_of}
use Rattle.patch_model.specs.Crash.{crash_set, disk_of, MayLeave}
use Rattle.patch_model.specs.Member.{filter-filter, filter-same}

-- of a block's history those that pass are the execution's that are of the block and pass
pub pile_of-history : (run : Execution) (block : ℕ) (keeps : Entry → Bool)
    → pile_of (history_of run block) keeps ≡ pile (history_of run block).first (map (λ e. e.patch) (filter (λ e. e.patch.block == block && keeps e) (entries_of run)))
pile_of-history run block keeps =
    ap (λ es. pile (history_of run block).first (map (λ e. e.patch) es)) (filter-filter keeps (λ e. e.patch.block == block) (entries_of run))

-- on one block only what is kept of that block counts
pile_of-same : (run : Execution) (block : ℕ) (p q : Entry → Bool) → ((e : Entry) → (e.patch.block == block) ≡ true → p e ≡ q e)
    → pile_of (history_of run block) p ≡ pile_of (history_of run block) q
pile_of-same run block p q same =
    pile_of-history run block p
    ∙ ap (λ es. pile (history_of run block).first (map (λ e. e.patch) es))
    (filter-same (λ e. (e.patch.block == block) && p e) (λ e. (e.patch.block == block) && q e) (entries_of run)
    (λ e. elim (cases_Bool (e.patch.block == block)) [ inl u ↦ rw u (same e u) | inr u ↦ rw u refl ]))
    ∙ sym (pile_of-history run block q)

not_in_memory : (m : Mark) → (marks_durable m || (marks_flight m && true)) ≡ not (marks_memory m)
not_in_memory Memory = refl
not_in_memory Flight = refl
not_in_memory Durable = refl

one_more_landed : (run : Execution) (landed : List ℕ) (block : ℕ) → pile_of (history_of run block) (crash_set (block ∷ landed)) ≡ image (history_of run block)
one_more_landed run landed block = pile_of-same run block (crash_set (block ∷ landed)) (λ e. not (is_memory e))
    (λ e here. let same : (block == e.patch.block) ≡ true = grind (arith, nat_tests) in rw same (not_in_memory e.mark))

others_as_before : (run : Execution) (landed : List ℕ) (block other : ℕ) → (other ≡ block → ⊥) → pile_of (history_of run other) (crash_set (block ∷ landed)) ≡ pile_of (history_of run other) (crash_set landed)
others_as_before run landed block other ne = pile_of-same run other (crash_set (block ∷ landed)) (crash_set landed)
    (λ e here. let off : (block == e.patch.block) ≡ false = grind (arith, nat_tests) in rw off refl)

pub image_over_crash : (run : Execution) (landed : List ℕ) (block : ℕ) → block < length run.first
    → slice_set (disk_of run (crash_set landed)) block (image (history_of run block)) ≡ disk_of run (crash_set (block ∷ landed))
image_over_crash run landed block there =
    let n = length run.first in
    let old = disk_of run (crash_set landed) in
    let long : length old ≡ length run.first = length-map (range_with_len 0 (length run.first)) (λ k. pile_of (history_of run k) (crash_set landed)) ∙ length-range_with_len 0 (length run.first) in
    let long2 : length (disk_of run (crash_set (block ∷ landed))) ≡ length run.first = length-map (range_with_len 0 (length run.first)) (λ k. pile_of (history_of run k) (crash_set (block ∷ landed))) ∙ length-range_with_len 0 (length run.first) in
    same_lists _ _ (length-set old block (image (history_of run block)) ∙ long ∙ sym long2) (λ k d h.
    let within : k < length run.first = omega (arith, length-set old block (image (history_of run block)), long) in
    let new : get_or (disk_of run (crash_set (block ∷ landed))) k d ≡ pile_of (history_of run k) (crash_set (block ∷ landed)) = get_or-map-range_with_len (λ k. pile_of (history_of run k) (crash_set (block ∷ landed))) 0 (length run.first) k k d within (omega arith) in
    elim (cases_eq k block) [
      | inl e ↦ let at : block < length old = omega (arith, long) in
          subst (λ j. get_or (set old block (image (history_of run block))) j d ≡ get_or (disk_of run (crash_set (block ∷ landed))) k d) (sym e)
          (get_or-set_same old block (image (history_of run block)) d at ∙ sym (one_more_landed run landed block) ∙ ap (λ j. pile_of (history_of run j) (crash_set (block ∷ landed))) (sym e) ∙ sym new)
      | inr ne ↦ get_or-set_other old block k (image (history_of run block)) d ne
          ∙ get_or-map-range_with_len (λ k. pile_of (history_of run k) (crash_set landed)) 0 (length run.first) k k d within (omega arith)
          ∙ sym (others_as_before run landed block k ne) ∙ sym new
    ])

pub MayLeave-write : (run : Execution) (disk : List (List ℕ)) (block : ℕ) → block < length run.first → MayLeave run disk → MayLeave run (slice_set disk block (image (history_of run block)))
MayLeave-write run disk block there m = record { landed = block ∷ m.landed; disk_is = ap (λ d. slice_set d block (image (history_of run block))) m.disk_is ∙ image_over_crash run m.landed block there }
