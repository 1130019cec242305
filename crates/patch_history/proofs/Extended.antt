-- The cached blocks are read as the map, and the shelf's extents represent the execution.
use Rattle.std.proofs.Common.{◌≡◌, ℕ, ◌+◌, ◌<◌, ◌≤◌, ◌∙◌, inl, inr, Bool, true, length, Ok, sym, ap, arith, subst}
use Rattle.std.specs.Prelude.{◌==◌, ◌&&◌, slice_range}
use Rattle.std.proofs.lemmas.Bool.{cases_lt}
use Rattle.std.proofs.lemmas.List.{get_or_past}
use Rattle.patch_model.specs.Patch.{Patch}
use Rattle.patch_frame.specs.Field.{are_zeros}
use Rattle.patch_frame.specs.Geometry.{IsGeometry, block_count, largest_pointer, pointer_block, pointer_start}
use Rattle.patch_frame.specs.Pointer.{Fits, pointer_at, pointer_of}
use Rattle.patch_recovery.specs.Reading.{block_on, record_at}
use Rattle.patch_model.specs.Renewed.{cached_blocks}
use Rattle.patch_recovery.specs.Wider.{limits_of, geometry_kept}
use Rattle.patch_plans.specs.Extents.{no_extent, AreWhole}
use Rattle.patch_plans.specs.Meaning as extents
use Rattle.patch_history.specs.History.{History, IsLegalHistory, execution_of, standing_of, ledger_of}
use Rattle.patch_history.specs.Laws.{HistoriesAreRead, ExtentsAreKept}
use Rattle.patch_history.specs.LawsBelow.{Given}
use Rattle.patch_history.proofs.Bridging.{stood_all, opened_by, histories_are_of_stores}
use Rattle.patch_history.proofs.Lengths.{blocks_long}
use Rattle.patch_history.proofs.Pointing.{last_points, last_resets}

-- the patch is of the extent's record in this block
abbrev is_point_in : ℕ → ℕ → Patch → Bool
is_point_in block e p = p.block == block && p.start == pointer_start e

-- and sets its pointer to 0
abbrev is_reset_in : ℕ → ℕ → Patch → Bool
is_reset_in block e p = is_point_in block e p && (pointer_of p.bytes).offset == 0

module _ (given : Given) where
  pub histories_are_read : HistoriesAreRead
  histories_are_read h l =
      let store = histories_are_of_stores given h l in
      let opens = given.cached (execution_of h) h.first (standing_of h).made store in
      let stood = stood_all given h l in
      record {
        l = opens.l;
        read = opens.read;
        same = opens.same;
        sound = opens.sound;
        map = opens.map;
        tells = λ key. opens.tells key ∙ sym (stood.said key);
      }

  -- what is kept of each extent fits, and so does what stands for one that isn't there
  whole : (h : History) → IsLegalHistory h → AreWhole (standing_of h).shelf.extents
  whole h l =
      let s = (standing_of h).shelf.extents in
      let stood = stood_all given h l in
      let start = opened_by given h l in
      let shelf = stood.good.holds.shelf in
      let lasts = given.last h.first (standing_of h).made start.sound stood.good.well in
      let limits = limits_of h.first.geometry (ledger_of h).geometry lasts.geometry in
      let extents = limits.extents in
      let count = shelf.extents in
      record {
        geometry = subst IsGeometry (sym shelf.geometry)
            (geometry_kept h.first.geometry (ledger_of h).geometry start.valid lasts.geometry);
        count = shelf.extents ∙ ap (λ g. g.extents) (sym shelf.geometry);
        fits = λ e. elim (cases_lt e (length s.each)) [
          | inl less ↦
              subst (Fits (largest_pointer s.geometry.format)) (sym (shelf.pointer e (omega arith))) (record {
                generation = stood.good.few e (omega arith);
                offset = subst (λ g. ((ledger_of h).pointer e).offset ≤ largest_pointer g.format) (sym shelf.geometry)
                    (lasts.sound.pointers e (omega arith));
              })
          | inr past ↦
              subst (λ k. Fits (largest_pointer s.geometry.format) k.pointer)
              (sym (get_or_past s.each e no_extent past))
              (record { generation = omega arith; offset = omega arith })
        ];
      }

  pub extents_are_kept : ExtentsAreKept
  extents_are_kept h l =
      let s = (standing_of h).shelf.extents in
      let run = execution_of h in
      let made = (standing_of h).made in
      let stood = stood_all given h l in
      let store = histories_are_of_stores given h l in
      let start = opened_by given h l in
      let shelf = stood.good.holds.shelf in
      let newest = stood.good.holds.newest in
      let lasts = given.last h.first (standing_of h).made start.sound store.well_made in
      let limits = limits_of h.first.geometry (ledger_of h).geometry lasts.geometry in
      let opens = given.cached (execution_of h) h.first (standing_of h).made store in
      let read =
      given.read (cached_blocks (execution_of h)) opens.l (blocks_long given (execution_of h) l.legal) opens.read in
      let block : pointer_block s.geometry ≡ pointer_block h.first.geometry =
      ap pointer_block shelf.geometry ∙ ap (λ n. n + 1) limits.index in
      let same : opens.l.geometry ≡ s.geometry = opens.same.geometry ∙ sym shelf.geometry in
      let known : (e : ℕ) → e < s.geometry.extents → e < h.first.geometry.extents = λ e less.
      let kept = ap (λ g. g.extents) shelf.geometry in
      let extents = limits.extents in
      omega arith in
      let now : (e : ℕ) → e < s.geometry.extents → e < (ledger_of h).geometry.extents = λ e less.
      let kept = ap (λ g. g.extents) shelf.geometry in
      omega arith in
      record {
        whole = whole h l;
        blocks = start.count ∙ sym limits.blocks ∙ ap block_count (sym shelf.geometry);
        records = λ e less.
            subst (λ p. pointer_at (largest_pointer s.geometry.format) (record_at s.geometry (cached_blocks run) e) ≡ Ok p)
            (opens.same.pointer e (now e less) ∙ sym (shelf.pointer e (now e less)))
            (subst (λ g. pointer_at (largest_pointer g.format) (record_at g (cached_blocks run) e) ≡ Ok (opens.l.pointer e))
            same (read.points e (let all = ap (λ g. g.extents) same in omega arith)));
        rest =
            subst (λ g. are_zeros (slice_range (block_on (cached_blocks run) (pointer_block g)) (pointer_start g.extents)
            4096) ≡ true) same read.padding;
        resets = λ e less.
            newest.reset e (known e less)
            ∙ sym (last_resets given h.first start.sound start.valid made (extents.patches_of run) e store.well_made store.patches)
            ∙ ap (λ b. extents.last_of (is_reset_in b e) (extents.patches_of run)) (sym block);
        points = λ e less.
            newest.point e (known e less)
            ∙ sym (last_points given h.first start.sound start.valid made (extents.patches_of run) e store.well_made store.patches)
            ∙ ap (λ b. extents.last_of (is_point_in b e) (extents.patches_of run)) (sym block);
      }
