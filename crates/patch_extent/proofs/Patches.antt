-- The patches of an execution and its cached blocks, and what one step more makes of them.
use Rattle.std.proofs.Common.{◌≡◌, ◌≢◌, ℕ, zero, suc, ◌+◌, ◌<◌, ◌≤◌, ◌∙◌, inl, inr, true, false, not, List, [], ◌∷◌, ◌++◌, length, map, get_or, refl, sym, ap, subst, arith}
use Rattle.std.specs.Prelude.{◌==◌, IsTrue, slice_index_or, filter, fold}
use Rattle.std.specs.List.{range_with_len}
use Rattle.std.proofs.lemmas.Bool.{cases_Bool}
use Rattle.std.proofs.lemmas.Bool.Decides.{nat_tests}
use Rattle.std.proofs.lemmas.List.{map-append, length-map, length_push}
use Rattle.patch_model.specs.declared.patches.Undo.{Undo}
use Rattle.patch_model.specs.Patch.{Patch}
use Rattle.patch_model.specs.Pile.{end, lay, pile}
use Rattle.patch_model.specs.Entry.{Entry, is_among}
use Rattle.patch_model.specs.Step.{Step, Create, Merge, Send, Complete}
use Rattle.patch_model.specs.Execution.{Execution, extended}
use Rattle.patch_model.specs.State.{state_of, entries_of, after_step, class_of, joined, sent, landed, next_patch}
use Rattle.patch_model.specs.Ready.{ready}
use Rattle.patch_model.specs.History.{history_of, cached}
use Rattle.patch_model.specs.Orderly.{IsOrderlyBlock}
use Rattle.patch_model.specs.Unchanged.{patch-joined, patch-sent, patch-landed}
use Rattle.patch_model.specs.Laying.{length-lay}
use Rattle.patch_model.specs.Member.{In, Contains-from_In}
use Rattle.patch_model.specs.Renewed.{cached_blocks}
use Rattle.patch_recovery.specs.Reading.{block_on}
use Rattle.patch_recovery.specs.Store.{makes_nothing}
use Rattle.patch_plans.specs.Meaning.{patches_of}

-- what patch_model says of one step more
abbrev pub StateLaw : Type 0
StateLaw = (run : Execution) (step : Step) → state_of (extended run step) ≡ after_step (state_of run) step

-- a fold over one more item
pub fold_more : {A B : Type 0} (f : B → A → B) (z : B) (xs : List A) (x : A) → fold f z (xs ++ x ∷ []) ≡ f (fold f z xs) x
fold_more f z [] x = refl
fold_more f z (y ∷ ys) x = fold_more f (f z y) ys x

-- the patches of a block
abbrev pub on_block : ℕ → List Patch → List Patch
on_block b ps = filter (λ p. p.block == b) ps

all_pass : (es : List Entry) → filter (λ e. not (is_among [] e.class)) es ≡ es
all_pass [] = refl
all_pass (e ∷ es) = ap (λ xs. e ∷ xs) (all_pass es)

pub of_entries : (b : ℕ) (es : List Entry) → map (λ e. e.patch) (filter (λ e. e.patch.block == b) es) ≡ on_block b (map (λ e. e.patch) es)
of_entries b [] = refl
of_entries b (e ∷ es) = elim (cases_Bool (e.patch.block == b)) [
  | inl u ↦ rw u (ap (λ ps. e.patch ∷ ps) (of_entries b es))
  | inr u ↦ rw u (of_entries b es)
]

-- a cached block is the pile of its patches
pub cached_is : (run : Execution) (b : ℕ) → cached (history_of run b) ≡ pile (slice_index_or run.first b []) (on_block b (patches_of run))
cached_is run b =
    ap (λ es. pile (slice_index_or run.first b []) (map (λ e. e.patch) es)) (all_pass (history_of run b).entries)
    ∙ ap (pile (slice_index_or run.first b [])) (of_entries b (entries_of run))

on_more : (b : ℕ) (ps : List Patch) (p : Patch) → (p.block == b) ≡ true → on_block b (ps ++ p ∷ []) ≡ on_block b ps ++ p ∷ []
on_more b [] p h = rw h refl
on_more b (q ∷ qs) p h = elim (cases_Bool (q.block == b)) [
  | inl u ↦ rw u (ap (λ xs. q ∷ xs) (on_more b qs p h))
  | inr u ↦ rw u (on_more b qs p h)
]

off_more : (b : ℕ) (ps : List Patch) (p : Patch) → (p.block == b) ≡ false → on_block b (ps ++ p ∷ []) ≡ on_block b ps
off_more b [] p h = rw h refl
off_more b (q ∷ qs) p h = elim (cases_Bool (q.block == b)) [
  | inl u ↦ rw u (ap (λ xs. q ∷ xs) (off_more b qs p h))
  | inr u ↦ rw u (off_more b qs p h)
]

-- a patch more is laid on its block
pub cached_here : (run next : Execution) (p : Patch) → next.first ≡ run.first → patches_of next ≡ patches_of run ++ p ∷ []
    → (b : ℕ) → b ≡ p.block → cached (history_of next b) ≡ lay (cached (history_of run b)) p
cached_here run next p first patches b same =
    let t : (p.block == b) ≡ true = grind (arith, nat_tests) in
    let start = slice_index_or run.first b [] in
    cached_is next b ∙ ap (λ f. pile (slice_index_or f b []) (on_block b (patches_of next))) first
    ∙ ap (λ ps. pile start (on_block b ps)) patches ∙ ap (pile start) (on_more b (patches_of run) p t)
    ∙ fold_more lay start (on_block b (patches_of run)) p ∙ ap (λ x. lay x p) (sym (cached_is run b))

-- and other blocks are as they were
pub cached_elsewhere : (run next : Execution) (p : Patch) → next.first ≡ run.first → patches_of next ≡ patches_of run ++ p ∷ []
    → (b : ℕ) → b ≢ p.block → cached (history_of next b) ≡ cached (history_of run b)
cached_elsewhere run next p first patches b other =
    let t : (p.block == b) ≡ false = grind (arith, nat_tests) in
    let start = slice_index_or run.first b [] in
    cached_is next b ∙ ap (λ f. pile (slice_index_or f b []) (on_block b (patches_of next))) first
    ∙ ap (λ ps. pile start (on_block b ps)) patches ∙ ap (pile start) (off_more b (patches_of run) p t)
    ∙ sym (cached_is run b)

-- where no patch comes, all blocks are
pub cached_alike : (run next : Execution) → next.first ≡ run.first → patches_of next ≡ patches_of run
    → (b : ℕ) → cached (history_of next b) ≡ cached (history_of run b)
cached_alike run next first patches b =
    cached_is next b ∙ ap (λ f. pile (slice_index_or f b []) (on_block b (patches_of next))) first
    ∙ ap (λ ps. pile (slice_index_or run.first b []) (on_block b ps)) patches ∙ sym (cached_is run b)

range_at : (f : ℕ → List ℕ) (a n b : ℕ) → b < n → get_or (map f (range_with_len a n)) b [] ≡ f (a + b)
range_at f a zero b h = absurd (omega arith)
range_at f a (suc n) zero h = ap f (let e : a ≡ a + 0 = omega arith in e)
range_at f a (suc n) (suc b) h = range_at f (a + 1) n b (omega arith) ∙ ap f (let e : a + 1 + b ≡ a + suc b = omega arith in e)

-- a block among the cached blocks
pub cached_on : (run : Execution) (b : ℕ) → b < length run.first → block_on (cached_blocks run) b ≡ cached (history_of run b)
cached_on run b h = range_at (λ block. cached (history_of run block)) 0 (length run.first) b h ∙ ap (λ n. cached (history_of run n)) (let e : 0 + b ≡ b = omega arith in e)

pile_long : (ps : List Patch) (first : List ℕ) → ((p : Patch) → In ps p → end p ≤ 4096) → length first ≡ 4096 → length (pile first ps) ≡ 4096
pile_long [] first fits long = long
pile_long (p ∷ ps) first fits long =
    let fit : end p ≤ 4096 = fits p (inl refl) in
    let whole : length (lay first p) ≡ 4096 = length-lay first p (omega arith) ∙ long in
    pile_long ps (lay first p) (λ q i. fits q (inr i)) whole

in_patches : (es : List Entry) (p : Patch) → In (map (λ e. e.patch) es) p → (e : Entry) × In es e × (e.patch ≡ p)
in_patches [] p h = absurd h
in_patches (x ∷ xs) p (inl e) = (x, inl refl, e)
in_patches (x ∷ xs) p (inr h) = let r = in_patches xs p h in (r.0, inr r.1, r.2)

ends_alike : (p q : Patch) → q ≡ p → end q ≤ 4096 → end p ≤ 4096
ends_alike p q same h = subst (λ x. end x ≤ 4096) same h

-- a cached block has its whole length
pub cached_long : (run : Execution) (b : ℕ) → IsOrderlyBlock (history_of run b) b → length (cached (history_of run b)) ≡ 4096
cached_long run b orderly =
    let es = (history_of run b).entries in
    ap (λ xs. length (pile (slice_index_or run.first b []) (map (λ e. e.patch) xs))) (all_pass es)
    ∙ pile_long (map (λ e. e.patch) es) (slice_index_or run.first b [])
    (λ p i. let r = in_patches es p i in ends_alike p r.0.patch r.2 (orderly.orderly.fits r.0 (Contains-from_In es r.0 r.1)))
    orderly.long

-- One step more.

-- a patch that is made is the last
pub patches_made : StateLaw → (run : Execution) (block start : ℕ) (bytes after : List ℕ) (undo : Undo)
    → patches_of (extended run (Create block start bytes after undo)) ≡ patches_of run ++ next_patch run block start bytes after undo ∷ []
patches_made law run block start bytes after undo =
    ap (λ st. map (λ e. e.patch) st.entries) (law run (Create block start bytes after undo))
    ∙ map-append (λ (e : Entry). e.patch) (entries_of run) _

-- and there is one entry more
pub entries_made : StateLaw → (run : Execution) (block start : ℕ) (bytes after : List ℕ) (undo : Undo)
    → length (entries_of (extended run (Create block start bytes after undo))) ≡ length (entries_of run) + 1
entries_made law run block start bytes after undo =
    ap (λ st. length st.entries) (law run (Create block start bytes after undo)) ∙ length_push (entries_of run) _

same_patches : (f : Entry → Entry) → ((e : Entry) → (f e).patch ≡ e.patch) → (es : List Entry) → map (λ e. e.patch) (map f es) ≡ map (λ e. e.patch) es
same_patches f same [] = refl
same_patches f same (e ∷ es) = rw (same e, same_patches f same es) refl

-- other steps make none
pub patches_stay : StateLaw → (run : Execution) (step : Step) → IsTrue (makes_nothing step) → patches_of (extended run step) ≡ patches_of run
patches_stay law run (Create block start bytes after undo) h = absurd (cc)
patches_stay law run (Merge a b) h =
    ap (λ st. map (λ e. e.patch) st.entries) (law run (Merge a b))
    ∙ same_patches (joined (class_of (entries_of run) a) (class_of (entries_of run) b)) (patch-joined (class_of (entries_of run) a) (class_of (entries_of run) b)) (entries_of run)
patches_stay law run (Send block) h =
    ap (λ st. map (λ e. e.patch) st.entries) (law run (Send block))
    ∙ same_patches (sent (ready (entries_of run) block)) (patch-sent (ready (entries_of run) block)) (entries_of run)
patches_stay law run (Complete block) h =
    ap (λ st. map (λ e. e.patch) st.entries) (law run (Complete block))
    ∙ same_patches (landed block) (patch-landed block) (entries_of run)

pub entries_stay : StateLaw → (run : Execution) (step : Step) → IsTrue (makes_nothing step) → length (entries_of (extended run step)) ≡ length (entries_of run)
entries_stay law run step nothing =
    sym (length-map (entries_of (extended run step)) (λ (e : Entry). e.patch)) ∙ ap length (patches_stay law run step nothing) ∙ length-map (entries_of run) (λ (e : Entry). e.patch)
