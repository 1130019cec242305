-- Cached blocks have the length of a block.
use Rattle.std.proofs.Common.{◌≡◌, ℕ, ◌+◌, ◌<◌, ◌≤◌, ◌∙◌, ◌++◌, sym, inl, inr, List, [], ◌∷◌, length, map, slice_range, refl, ap, arith}
use Rattle.std.specs.Prelude.{◌==◌, not, false, nat_le, filter, slice_index_or, Some, None}
use Rattle.std.specs.List.{range_with_len}
use Rattle.std.proofs.lemmas.Bool.{lt-leb}
use Rattle.std.proofs.lemmas.List.{take_all}
use Rattle.std.proofs.lemmas.List.FromFn.{map-range_with_len_more}
use Rattle.patch_model.specs.declared.blocks.TheConstants.{BLOCK}
use Rattle.patch_model.specs.Execution.{Execution}
use Rattle.patch_model.specs.Pile.{end, lay, pile}
use Rattle.patch_model.specs.Entry.{Entry, is_among}
use Rattle.patch_model.specs.State.{entries_of}
use Rattle.patch_model.specs.History.{history_of, of_block, cached}
use Rattle.patch_model.specs.Legal.{IsLegal}
use Rattle.patch_model.specs.Orderly.{IsOrderly}
use Rattle.patch_model.specs.declared.refusals.Refusal.{Refusal}
use Rattle.patch_model.specs.Refusing.{why_not_shown}
use Rattle.patch_model.specs.Laying.{length-lay}
use Rattle.patch_model.specs.Member.{In, filter-In, Contains-from_In}

-- patches that keep their places leave the length
pile_long : (es : List Entry) (b : List ℕ) → length b ≡ BLOCK
    → ((e : Entry) → In es e → end e.patch ≤ BLOCK) → length (pile b (map (λ e. e.patch) es)) ≡ BLOCK
pile_long [] b long fits = long
pile_long (e ∷ es) b long fits =
    let low = fits e (inl refl) in
    pile_long es (lay b e.patch) (length-lay b e.patch (omega arith) ∙ long) (λ f i. fits f (inr i))

block_long : (run : Execution) (b : ℕ) → IsLegal run → IsOrderly (entries_of run) → b < length run.first → length (cached (history_of run b)) ≡ BLOCK
block_long run b legal orderly less =
    pile_long (filter (λ e. not (is_among [] e.class)) (of_block b (entries_of run))) (slice_index_or run.first b [])
    (legal.blocks b [] less)
    (λ e i.
    let here = (filter-In (λ e. not (is_among [] e.class)) (of_block b (entries_of run)) e i).0 in
    let all = (filter-In (λ e. e.patch.block == b) (entries_of run) e here).0 in
    orderly.fits e (Contains-from_In (entries_of run) e all))

-- so their bytes from the first on are all of them
pub block_whole : (run : Execution) (b : ℕ) (bytes : List ℕ) → IsLegal run → IsOrderly (entries_of run) → b < length run.first
    → bytes ≡ slice_range (cached (history_of run b)) 0 BLOCK → bytes ≡ cached (history_of run b)
block_whole run b bytes legal orderly less is =
    let long = block_long run b legal orderly less in
    is ∙ take_all BLOCK (cached (history_of run b)) (omega (arith, long))

-- One block more is copied.
pub copied_more : (f : ℕ → List ℕ) (xs : List (List ℕ)) (n : ℕ) (x : List ℕ) → xs ≡ map f (range_with_len 0 n) → x ≡ f n
    → xs ++ x ∷ [] ≡ map f (range_with_len 0 (n + 1))
copied_more f xs n x so_far is =
    ap (λ ys. ys ++ x ∷ []) so_far ∙ ap (λ y. map f (range_with_len 0 n) ++ y ∷ []) is
    ∙ sym (map-range_with_len_more f 0 n n (let e : 0 + n ≡ n = omega arith in e))

-- no cause stands against reading all bytes of a block that there is
pub none_refused : (blocks block : ℕ) (cause : Refusal) → block < blocks → why_not_shown blocks block 0 BLOCK ≡ Some cause → ⊥
none_refused blocks block cause less told =
    let known : nat_le blocks block ≡ false = lt-leb blocks block less in
    let none : why_not_shown blocks block 0 BLOCK ≡ None = rw known refl in cc
