-- Cached blocks have the length of a block.
use Rattle.std.proofs.Common.{◌≡◌, ℕ, ◌<◌, ◌≤◌, ◌∙◌, inl, inr, List, [], ◌∷◌, length, map, refl, ap, arith}
use Rattle.std.specs.Prelude.{◌==◌, All, not, filter}
use Rattle.std.proofs.lemmas.List.Elements.{All-from_get_or}
use Rattle.std.proofs.lemmas.List.FromFn.{get_or-map-range_with_len, length-map-range_with_len}
use Rattle.patch_model.specs.declared.blocks.TheConstants.{BLOCK}
use Rattle.patch_model.specs.Execution.{Execution}
use Rattle.patch_model.specs.Pile.{end, lay, pile}
use Rattle.patch_model.specs.Entry.{Entry, is_among}
use Rattle.patch_model.specs.State.{entries_of}
use Rattle.patch_model.specs.History.{history_of, of_block, cached}
use Rattle.patch_model.specs.Legal.{IsLegal}
use Rattle.patch_model.specs.Laying.{length-lay}
use Rattle.patch_model.specs.Member.{In, filter-In, Contains-from_In}
use Rattle.patch_recovery.specs.Reading.{block_on}
use Rattle.patch_model.specs.Renewed.{cached_blocks}
use Rattle.patch_history.specs.LawsBelow.{Given}

-- patches that keep their places leave the length
pile_long : (es : List Entry) (b : List ℕ) → length b ≡ BLOCK
    → ((e : Entry) → In es e → end e.patch ≤ BLOCK) → length (pile b (map (λ e. e.patch) es)) ≡ BLOCK
pile_long [] b long fits = long
pile_long (e ∷ es) b long fits =
    let low = fits e (inl refl) in
    pile_long es (lay b e.patch) (length-lay b e.patch (omega arith) ∙ long) (λ f i. fits f (inr i))

module _ (given : Given) (run : Execution) (legal : IsLegal run) where
  block_long : (b : ℕ) → b < length run.first → length (cached (history_of run b)) ≡ BLOCK
  block_long b less =
      pile_long (filter (λ e. not (is_among [] e.class)) (of_block b (entries_of run))) (block_on run.first b)
      (legal.blocks b [] less)
      (λ e i.
      let here = (filter-In (λ e. not (is_among [] e.class)) (of_block b (entries_of run)) e i).0 in
      let all = (filter-In (λ e. e.patch.block == b) (entries_of run) e here).0 in
      (given.orderly run legal).fits e (Contains-from_In (entries_of run) e all))

  pub blocks_long : All (λ block. length block ≡ BLOCK) (cached_blocks run)
  blocks_long =
      All-from_get_or (λ block. length block ≡ BLOCK) (cached_blocks run) [] (λ i less.
      let count = length-map-range_with_len (λ block. cached (history_of run block)) 0 (length run.first) in
      let inside : i < length run.first = omega arith in
      ap length (get_or-map-range_with_len (λ block. cached (history_of run block)) 0 (length run.first) i i [] inside
      (omega arith)) ∙ block_long i inside)
