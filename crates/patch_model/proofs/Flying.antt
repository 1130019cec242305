-- What each step makes of the numbers in flight of a block, and of the count of live patches.
use Rattle.std.proofs.Common.{◌≡◌, ◌≢◌, ℕ, ◌+◌, ◌∙◌, inl, inr, Bool, true, false, List, [], ◌∷◌, length, map, refl, sym, ap, arith}
use Rattle.std.specs.Prelude.{◌==◌, ◌&&◌, not, cond, filter, count_by, IsFalse}
use Rattle.std.proofs.lemmas.Bool.{cases_Bool, and_parts, and_right}
use Rattle.std.proofs.lemmas.Bool.Decides.{nat_tests}
use Rattle.patch_model.specs.Marked.{memory_live, flight_live}
use Rattle.patch_model.specs.Entries.{rising-filter, rising_same, has-In, In-has}
use Rattle.patch_model.specs.declared.patches.Undo.{Undo}
use Rattle.patch_model.specs.Step.{Step, Create, Merge, Send, Complete}
use Rattle.patch_model.specs.Execution.{Execution, extended}
use Rattle.patch_model.specs.Entry.{Entry, marks_flight, marks_durable, is_flight, is_live}
use Rattle.patch_model.specs.Ready.{has, ready}
use Rattle.patch_model.specs.State.{fresh, joined, sent, landed, class_of, after_step, state_of, entries_of, has_flight, next_patch, flying_of, numbers_of}
use Rattle.patch_model.specs.Legal.{IsLegal}
use Rattle.patch_model.specs.Member.{In, In-filter, filter-In}
use Rattle.patch_model.specs.Unchanged.{mark-joined, patch-joined, patch-landed, patch-sent}
use Rattle.patch_model.proofs.Counting.{count-cons, count-push, count-map_same}
use Rattle.patch_model.proofs.Leaving.{entries_on, kept_same, filter-last}
use Rattle.patch_model.proofs.Marks.{sent_from}
use Rattle.patch_model.proofs.Numbering.{AreApart-run, Numbered-run}
use Rattle.patch_model.proofs.Rising.{rising-from_Numbered, rising-ready}
use Rattle.patch_model.proofs.Striking.{ready-In}
use Rattle.patch_model.proofs.Waiting.{no_flying}

-- the patch is in flight, and of the block
abbrev pub flies_of : ℕ → Entry → Bool
flies_of block e = is_flight e && e.patch.block == block

numbers-patches : (es : List Entry) → numbers_of es ≡ map (λ p. p.no) (map (λ e. e.patch) es)
numbers-patches [] = refl
numbers-patches (x ∷ xs) = ap (λ ns. x.patch.no ∷ ns) (numbers-patches xs)

-- the numbers of those that pass, of a list and of what it became
numbers_kept : (g : Entry → Entry) (p q : Entry → Bool) (es : List Entry) → ((e : Entry) → (g e).patch ≡ e.patch) → ((e : Entry) → In es e → p (g e) ≡ q e)
    → numbers_of (filter p (map g es)) ≡ numbers_of (filter q es)
numbers_kept g p q es patch same = numbers-patches (filter p (map g es)) ∙ ap (λ ps. map (λ p. p.no) ps) (kept_same g p q es patch same) ∙ sym (numbers-patches (filter q es))

-- the numbers in flight after a step that changes patches in place
numbers_on : (run : Execution) (step : Step) (block : ℕ) (g : Entry → Entry) (q : Entry → Bool) → (after_step (state_of run) step).entries ≡ map g (entries_of run)
    → ((e : Entry) → (g e).patch ≡ e.patch) → ((e : Entry) → In (entries_of run) e → flies_of block (g e) ≡ q e)
    → numbers_of (flying_of (entries_of (extended run step)) block) ≡ numbers_of (filter q (entries_of run))
numbers_on run step block g q changed patch same =
    ap (λ es. numbers_of (flying_of es block)) (entries_on run step ∙ changed) ∙ numbers_kept g (flies_of block) q (entries_of run) patch same

-- the ready patches, as a filter of all
ready_is_filter : (run : Execution) (block : ℕ) → filter (has (ready (entries_of run) block)) (entries_of run) ≡ ready (entries_of run) block
ready_is_filter run block =
    let inside : (e : Entry) → In (ready (entries_of run) block) e → In (entries_of run) e = λ e i. (ready-In (entries_of run) block (AreApart-run run) e i).0 in
    rising_same (filter (has (ready (entries_of run) block)) (entries_of run)) (ready (entries_of run) block)
    (rising-filter (has (ready (entries_of run) block)) (entries_of run) (rising-from_Numbered 0 (entries_of run) (Numbered-run run)))
    (rising-ready run block)
    (λ e i. let r = filter-In (has (ready (entries_of run) block)) (entries_of run) e i in has-In (entries_of run) (ready (entries_of run) block) e (AreApart-run run) inside r.0 r.1)
    (λ e i. In-filter (has (ready (entries_of run) block)) (entries_of run) e (inside e i) (In-has (ready (entries_of run) block) e i))

flies-sent : (run : Execution) (block : ℕ) → IsLegal run → has_flight (state_of run) block ≡ false → (e : Entry) → In (entries_of run) e
    → flies_of block (sent (ready (entries_of run) block) e) ≡ has (ready (entries_of run) block) e
flies-sent run block legal none e i = elim (cases_Bool (has (ready (entries_of run) block) e)) [
  | inl u ↦ rw u (sent_from (entries_of run) block (AreApart-run run) e i u).1
  | inr u ↦ rw u (elim (cases_Bool (e.patch.block == block)) [
    | inl v ↦ let still : is_flight e ≡ false = no_flying run block legal none e i (grind (arith, nat_tests, v)) in rw still refl
    | inr v ↦ rw v (and_right (is_flight e) false refl)
  ])
]

pub sent_numbers : (run : Execution) (block : ℕ) → IsLegal run → IsFalse (has_flight (state_of run) block)
    → numbers_of (flying_of (entries_of (extended run (Send block))) block) ≡ numbers_of (ready (entries_of run) block)
sent_numbers run block legal none =
    numbers_on run (Send block) block (sent (ready (entries_of run) block)) (has (ready (entries_of run) block)) refl (patch-sent _) (flies-sent run block legal none)
    ∙ ap (λ es. numbers_of es) (ready_is_filter run block)

pub made_numbers : (run : Execution) (at start : ℕ) (bytes after : List ℕ) (undo : Undo) (block : ℕ)
    → numbers_of (flying_of (entries_of (extended run (Create at start bytes after undo))) block) ≡ numbers_of (flying_of (entries_of run) block)
made_numbers run at start bytes after undo block =
    ap (λ es. numbers_of (flying_of es block)) (entries_on run (Create at start bytes after undo))
    ∙ ap (λ es. numbers_of es) (filter-last (flies_of block) (entries_of run) (fresh (entries_of run) (next_patch run at start bytes after undo)) refl)

pub merged_numbers : (run : Execution) (a b block : ℕ)
    → numbers_of (flying_of (entries_of (extended run (Merge a b))) block) ≡ numbers_of (flying_of (entries_of run) block)
merged_numbers run a b block =
    let x = class_of (entries_of run) a in
    let y = class_of (entries_of run) b in
    numbers_on run (Merge a b) block (joined x y) (flies_of block) refl (patch-joined x y) (λ e i.
    ap (λ m. marks_flight m && (joined x y e).patch.block == block) (mark-joined x y e) ∙ ap (λ p. is_flight e && p.block == block) (patch-joined x y e))

pub sent_elsewhere_numbers : (run : Execution) (other block : ℕ) → other ≢ block
    → numbers_of (flying_of (entries_of (extended run (Send other))) block) ≡ numbers_of (flying_of (entries_of run) block)
sent_elsewhere_numbers run other block ne =
    numbers_on run (Send other) block (sent (ready (entries_of run) other)) (flies_of block) refl (patch-sent _) (λ e i. elim (cases_Bool (has (ready (entries_of run) other) e)) [
      | inl u ↦
          let p = sent_from (entries_of run) other (AreApart-run run) e i u in
          let off : (e.patch.block == block) ≡ false = grind (arith, nat_tests, p.1) in
          rw (u, off) (sym (and_right (is_flight e) false refl))
      | inr u ↦ rw u refl
    ])

pub landed_elsewhere_numbers : (run : Execution) (other block : ℕ) → other ≢ block
    → numbers_of (flying_of (entries_of (extended run (Complete other))) block) ≡ numbers_of (flying_of (entries_of run) block)
landed_elsewhere_numbers run other block ne =
    numbers_on run (Complete other) block (landed other) (flies_of block) refl (patch-landed other) (λ e i. elim (cases_Bool (is_flight e && (e.patch.block == other))) [
      | inl u ↦
          let p = and_parts (is_flight e) (e.patch.block == other) u in
          let off : (e.patch.block == block) ≡ false = grind (arith, nat_tests, p.1) in
          let flying : is_flight e ≡ true = p.0 in
          rw (u, flying, off) refl
      | inr u ↦ let same : landed other e ≡ e = rw u refl in ap (flies_of block) same
    ])

pub made_count : (run : Execution) (block start : ℕ) (bytes after : List ℕ) (undo : Undo)
    → count_by is_live (entries_of (extended run (Create block start bytes after undo))) ≡ count_by is_live (entries_of run) + 1
made_count run block start bytes after undo =
    ap (λ es. count_by is_live es) (entries_on run (Create block start bytes after undo))
    ∙ count-push is_live (entries_of run) (fresh (entries_of run) (next_patch run block start bytes after undo))

pub merged_count : (run : Execution) (a b : ℕ) → count_by is_live (entries_of (extended run (Merge a b))) ≡ count_by is_live (entries_of run)
merged_count run a b =
    let x = class_of (entries_of run) a in
    let y = class_of (entries_of run) b in
    ap (λ es. count_by is_live es) (entries_on run (Merge a b))
    ∙ count-map_same is_live (joined x y) (entries_of run) (λ e i. ap (λ m. not (marks_durable m)) (mark-joined x y e))

pub sent_count : (run : Execution) (block : ℕ) → count_by is_live (entries_of (extended run (Send block))) ≡ count_by is_live (entries_of run)
sent_count run block =
    ap (λ es. count_by is_live es) (entries_on run (Send block))
    ∙ count-map_same is_live (sent (ready (entries_of run) block)) (entries_of run) (λ e i. elim (cases_Bool (has (ready (entries_of run) block) e)) [
      | inl u ↦ rw u (sym (memory_live e.mark (sent_from (entries_of run) block (AreApart-run run) e i u).0))
      | inr u ↦ rw u refl
    ])

-- what lands is live no more
count-landed : (block : ℕ) (es : List Entry) → count_by is_live (map (landed block) es) + length (numbers_of (filter (flies_of block) es)) ≡ count_by is_live es
count-landed block [] = refl
count-landed block (x ∷ xs) =
    let rest : count_by is_live (map (landed block) xs) + length (numbers_of (filter (flies_of block) xs)) ≡ count_by is_live xs = count-landed block xs in
    let after = count-cons is_live (landed block x) (map (landed block) xs) in
    let before = count-cons is_live x xs in
    elim (cases_Bool (flies_of block x)) [
      | inl u ↦
          let p = and_parts (is_flight x) (x.patch.block == block) u in
          let live : is_live x ≡ true = flight_live x.mark p.0 in
          let was : cond {A = ℕ} (is_live x) 1 0 ≡ 1 = rw live refl in
          let done : cond {A = ℕ} (is_live (landed block x)) 1 0 ≡ 0 = rw u refl in
          let long : length (numbers_of (filter (flies_of block) (x ∷ xs))) ≡ 1 + length (numbers_of (filter (flies_of block) xs)) = rw u (omega arith) in
          omega arith
      | inr u ↦
          let same : cond {A = ℕ} (is_live (landed block x)) 1 0 ≡ cond {A = ℕ} (is_live x) 1 0 = rw u refl in
          let long : length (numbers_of (filter (flies_of block) (x ∷ xs))) ≡ length (numbers_of (filter (flies_of block) xs)) = rw u refl in
          omega arith
    ]

pub landed_count : (run : Execution) (block : ℕ)
    → count_by is_live (entries_of (extended run (Complete block))) + length (numbers_of (flying_of (entries_of run) block)) ≡ count_by is_live (entries_of run)
landed_count run block =
    ap (λ es. count_by is_live es + length (numbers_of (flying_of (entries_of run) block))) (entries_on run (Complete block))
    ∙ count-landed block (entries_of run)
