-- What a step makes of each block's history.
use Rattle.std.proofs.Common.{◌≡◌, ◌≢◌, ℕ, ◌∙◌, inl, inr, true, false, List, [], ◌∷◌, ◌++◌, map, refl, sym, ap, arith, append-nil}
use Rattle.std.specs.Prelude.{◌==◌, ◌&&◌, ◌||◌}
use Rattle.std.proofs.lemmas.Bool.{cases_Bool, and_parts, or_cases, both_ways}
use Rattle.std.proofs.lemmas.Bool.Decides.{nat_tests}
use Rattle.patch_model.specs.declared.patches.Undo.{Undo}
use Rattle.patch_model.specs.Step.{Create, Merge, Send, Complete}
use Rattle.patch_model.specs.Execution.{Execution, extended}
use Rattle.patch_model.specs.Entry.{Entry, is_flight}
use Rattle.patch_model.specs.Ready.{has, ready}
use Rattle.patch_model.specs.State.{fresh, joined, sent, landed, class_of, entries_of, next_patch}
use Rattle.patch_model.specs.History.{of_block, history_of, History}
use Rattle.patch_model.specs.Legal.{IsLegal, IsLegalMerge, block_of_patch}
use Rattle.patch_model.specs.Member.{In, Contains-from_In}
use Rattle.patch_model.specs.Unchanged.{patch-joined, patch-landed, patch-sent}
use Rattle.patch_model.proofs.Numbering.{state_of-extended, AreApart-run}
use Rattle.patch_model.proofs.Marks.{sent_from}
use Rattle.patch_model.proofs.Orders.{member, of_block-In}

of_block-push : (block : ℕ) (es : List Entry) (e : Entry) → of_block block (es ++ e ∷ []) ≡ of_block block es ++ of_block block (e ∷ [])
of_block-push block [] e = refl
of_block-push block (x ∷ xs) e = elim (cases_Bool (x.patch.block == block)) [
  | inl u ↦ rw u (ap (λ zs. x ∷ zs) (of_block-push block xs e))
  | inr u ↦ rw u (of_block-push block xs e)
]

-- a change that leaves patches leaves their blocks
of_block-map : (block : ℕ) (g : Entry → Entry) (es : List Entry) → ((e : Entry) → (g e).patch ≡ e.patch) → of_block block (map g es) ≡ map g (of_block block es)
of_block-map block g [] same = refl
of_block-map block g (x ∷ xs) same =
    let at : ((g x).patch.block == block) ≡ (x.patch.block == block) = ap (λ p. p.block == block) (same x) in
    elim (cases_Bool (x.patch.block == block)) [
      | inl u ↦ rw (at, u) (ap (λ zs. g x ∷ zs) (of_block-map block g xs same))
      | inr u ↦ rw (at, u) (of_block-map block g xs same)
    ]

map-still : (g : Entry → Entry) (es : List Entry) → ((e : Entry) → In es e → g e ≡ e) → map g es ≡ es
map-still g [] still = refl
map-still g (x ∷ xs) still = ap (λ y. y ∷ map g xs) (still x (inl refl)) ∙ ap (λ zs. x ∷ zs) (map-still g xs (λ e i. still e (inr i)))

module _ (run : Execution) (block start : ℕ) (bytes after : List ℕ) (undo : Undo) where
  made_entries : entries_of (extended run (Create block start bytes after undo)) ≡ entries_of run ++ fresh (entries_of run) (next_patch run block start bytes after undo) ∷ []
  made_entries = ap (λ st. st.entries) (state_of-extended run (Create block start bytes after undo))

  pub made_here : (history_of (extended run (Create block start bytes after undo)) block).entries
      ≡ (history_of run block).entries ++ fresh (entries_of run) (next_patch run block start bytes after undo) ∷ []
  made_here =
      let same : (block == block) ≡ true = grind (arith, nat_tests) in
      let new = fresh (entries_of run) (next_patch run block start bytes after undo) in
      let kept : of_block block (new ∷ []) ≡ new ∷ [] = rw same refl in
      ap (of_block block) made_entries ∙ of_block-push block (entries_of run) new ∙ ap (λ zs. of_block block (entries_of run) ++ zs) kept

  pub made_elsewhere : (other : ℕ) → other ≢ block → history_of (extended run (Create block start bytes after undo)) other ≡ history_of run other
  made_elsewhere other ne =
      let off : (block == other) ≡ false = grind (arith, nat_tests) in
      let new = fresh (entries_of run) (next_patch run block start bytes after undo) in
      let left : of_block other (new ∷ []) ≡ [] = rw off refl in
      let same = ap (of_block other) made_entries ∙ of_block-push other (entries_of run) new ∙ ap (λ zs. of_block other (entries_of run) ++ zs) left ∙ append-nil (of_block other (entries_of run)) in
      ap (λ es. let h : History = record { first = (history_of run other).first; entries = es } in h) same

-- a history with each of its patches changed, where none changes
unchanged : (run : Execution) (block : ℕ) (es : List Entry) → es ≡ (history_of run block).entries
    → (let h : History = record { first = (history_of run block).first; entries = es } in h) ≡ history_of run block
unchanged run block es same = ap (λ es. let h : History = record { first = (history_of run block).first; entries = es } in h) same

pub merged_blocks : (run : Execution) (a b block : ℕ)
    → (history_of (extended run (Merge a b)) block).entries ≡ map (joined (class_of (entries_of run) a) (class_of (entries_of run) b)) (history_of run block).entries
merged_blocks run a b block =
    ap (λ st. of_block block st.entries) (state_of-extended run (Merge a b))
    ∙ of_block-map block (joined (class_of (entries_of run) a) (class_of (entries_of run) b)) (entries_of run) (patch-joined _ _)

pub sent_blocks : (run : Execution) (block other : ℕ)
    → (history_of (extended run (Send block)) other).entries ≡ map (sent (ready (entries_of run) block)) (history_of run other).entries
sent_blocks run block other =
    ap (λ st. of_block other st.entries) (state_of-extended run (Send block))
    ∙ of_block-map other (sent (ready (entries_of run) block)) (entries_of run) (patch-sent _)

pub landed_blocks : (run : Execution) (block other : ℕ)
    → (history_of (extended run (Complete block)) other).entries ≡ map (landed block) (history_of run other).entries
landed_blocks run block other =
    ap (λ st. of_block other st.entries) (state_of-extended run (Complete block))
    ∙ of_block-map other (landed block) (entries_of run) (patch-landed block)

-- a patch of another block
other_block : (run : Execution) (block other : ℕ) → other ≢ block → (e : Entry) → In (history_of run other).entries e → In (entries_of run) e × ((e.patch.block == block) ≡ false)
other_block run block other ne e i =
    let r = of_block-In other (entries_of run) e (Contains-from_In _ e i) in
    let at : e.patch.block ≡ other = r.1 in
    (r.0, grind (arith, nat_tests))

pub sent_elsewhere : (run : Execution) (block other : ℕ) → other ≢ block → history_of (extended run (Send block)) other ≡ history_of run other
sent_elsewhere run block other ne = unchanged run other _ (sent_blocks run block other ∙ map-still (sent (ready (entries_of run) block)) (history_of run other).entries (λ e i.
    let r = other_block run block other ne e i in
    elim (cases_Bool (has (ready (entries_of run) block) e)) [
      | inl u ↦ absurd (both_ways (e.patch.block == block) r.1 (sent_from (entries_of run) block (AreApart-run run) e r.0 u).1)
      | inr u ↦ rw u refl
    ]))

pub landed_elsewhere : (run : Execution) (block other : ℕ) → other ≢ block → history_of (extended run (Complete block)) other ≡ history_of run other
landed_elsewhere run block other ne = unchanged run other _ (landed_blocks run block other ∙ map-still (landed block) (history_of run other).entries (λ e i.
    let r = other_block run block other ne e i in
    elim (cases_Bool (is_flight e && (e.patch.block == block))) [
      | inl u ↦ absurd (both_ways (e.patch.block == block) r.1 (and_parts (is_flight e) (e.patch.block == block) u).1)
      | inr u ↦ rw u refl
    ]))

pub merged_elsewhere : (run : Execution) (a b other : ℕ) → IsLegal run → IsLegalMerge (entries_of run) a b → other ≢ block_of_patch (entries_of run) a
    → history_of (extended run (Merge a b)) other ≡ history_of run other
merged_elsewhere run a b other legal m ne = unchanged run other _ (merged_blocks run a b other ∙ map-still (joined (class_of (entries_of run) a) (class_of (entries_of run) b)) (history_of run other).entries (λ e i.
    let r = of_block-In other (entries_of run) e (Contains-from_In _ e i) in
    elim (cases_Bool ((e.class == class_of (entries_of run) a) || (e.class == class_of (entries_of run) b))) [
      | inl u ↦ absurd (elim (or_cases (e.class == class_of (entries_of run) a) (e.class == class_of (entries_of run) b) u) [
        | inl v ↦ ne (sym r.1 ∙ (member run a b legal m a m.undoable_a e r.0 (grind (arith, nat_tests, v))).1)
        | inr v ↦ ne (sym r.1 ∙ (member run a b legal m b m.undoable_b e r.0 (grind (arith, nat_tests, v))).1 ∙ sym m.one_block)
      ])
      | inr u ↦ rw u refl
    ]))
