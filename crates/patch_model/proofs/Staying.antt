-- What a step makes of the disks that a crash may leave.
use Rattle.std.proofs.Common.{◌≡◌, ◌≢◌, ℕ, ◌<◌, ◌∙◌, inl, inr, Bool, true, false, List, [], ◌∷◌, length, map, get_or, refl, sym, ap, arith, subst}
use Rattle.std.specs.Prelude.{◌==◌, ◌&&◌, ◌||◌, not, filter, slice_set}
use Rattle.std.specs.List.{range_with_len}
use Rattle.std.proofs.lemmas.Bool.{cases_Bool, and_parts, and_right}
use Rattle.std.proofs.lemmas.Bool.Decides.{nat_tests}
use Rattle.std.proofs.lemmas.List.{same_lists, get_or_default}
use Rattle.std.proofs.lemmas.List.FromFn.{get_or-map-range_with_len, length-map-range_with_len}
use Rattle.patch_model.specs.declared.patches.Mark.{Mark}
use Rattle.patch_model.specs.declared.patches.Mark.TheVariants.{Memory, Flight, Durable}
use Rattle.patch_model.specs.declared.patches.Undo.{Undo}
use Rattle.patch_model.specs.Step.{Step, Create, Merge, Send, Complete}
use Rattle.patch_model.specs.Pile.{pile}
use Rattle.patch_model.specs.Execution.{Execution, extended}
use Rattle.patch_model.specs.Entry.{Entry, marks_memory, marks_flight, marks_durable, is_flight, is_durable, is_among}
use Rattle.patch_model.specs.Ready.{has, ready}
use Rattle.patch_model.specs.State.{fresh, joined, sent, landed, class_of, after_step, state_of, entries_of, has_flight, next_patch}
use Rattle.patch_model.specs.History.{pile_of, image, history_of}
use Rattle.patch_model.specs.Legal.{IsLegal, IsLegalStep}
use Rattle.patch_model.specs.Crash.{crash_set, disk_of, MayLeave}
use Rattle.patch_model.specs.Member.{In}
use Rattle.patch_model.specs.Unchanged.{mark-joined, patch-joined, patch-landed, patch-sent}
use Rattle.patch_model.proofs.Numbering.{AreApart-run}
use Rattle.patch_model.proofs.Marks.{sent_from}
use Rattle.patch_model.proofs.Waiting.{no_flying}
use Rattle.patch_model.proofs.Leaving.{entries_on, kept_same, filter-last}
use Rattle.patch_model.proofs.Images.{pile_of-history, image_over_crash}

map-alike : {X Y : Type 0} → (f g : X → Y) (xs : List X) → ((x : X) → f x ≡ g x) → map f xs ≡ map g xs
map-alike f g [] same = refl
map-alike f g (x ∷ xs) same = ap (λ y. y ∷ map f xs) (same x) ∙ ap (λ ys. g x ∷ ys) (map-alike f g xs same)

-- a list, as its elements by their places
by_places : (xs : List (List ℕ)) → map (λ k. get_or xs k []) (range_with_len 0 (length xs)) ≡ xs
by_places xs = same_lists _ _ (length-map-range_with_len (λ k. get_or xs k []) 0 (length xs)) (λ k d h.
    let within : k < length xs = omega (arith, length-map-range_with_len (λ k. get_or xs k []) 0 (length xs)) in
    get_or-map-range_with_len (λ k. get_or xs k []) 0 (length xs) k k d within (omega arith) ∙ get_or_default xs k [] d within)

pub first_left : (first : List (List ℕ)) → MayLeave (record { first = first; steps = [] }) first
first_left first = record { landed = []; disk_is = sym (by_places first) }

-- a patch of the block that passes
abbrev passes_of : ℕ → (Entry → Bool) → Entry → Bool
passes_of block set e = e.patch.block == block && set e

pile_on : (run : Execution) (step : Step) (block : ℕ) (set : Entry → Bool)
    → pile_of (history_of (extended run step) block) set ≡ pile (history_of run block).first (map (λ e. e.patch) (filter (passes_of block set) (after_step (state_of run) step).entries))
pile_on run step block set =
    pile_of-history (extended run step) block set
    ∙ ap (λ es. pile (history_of run block).first (map (λ e. e.patch) (filter (passes_of block set) es))) (entries_on run step)

-- where a step changes patches in place, and the one set holds of them what the other held before
disk_changed : (run : Execution) (step : Step) (g : Entry → Entry) (set before : Entry → Bool) → (after_step (state_of run) step).entries ≡ map g (entries_of run)
    → ((e : Entry) → (g e).patch ≡ e.patch) → ((e : Entry) → In (entries_of run) e → set (g e) ≡ before e)
    → disk_of run before ≡ disk_of (extended run step) set
disk_changed run step g set before changed patch same =
    map-alike (λ block. pile_of (history_of run block) before) (λ block. pile_of (history_of (extended run step) block) set) (range_with_len 0 (length run.first)) (λ block. sym (
    pile_on run step block set
    ∙ ap (λ es. pile (history_of run block).first (map (λ e. e.patch) (filter (passes_of block set) es))) changed
    ∙ ap (λ ps. pile (history_of run block).first ps) (kept_same g (passes_of block set) (passes_of block before) (entries_of run) patch
    (λ e i. ap (λ p. (p.block == block) && set (g e)) (patch e) ∙ ap (λ b. (e.patch.block == block) && b) (same e i)))
    ∙ sym (pile_of-history run block before)))

-- a patch in memory is in no crash's set
disk_made : (run : Execution) (block start : ℕ) (bytes after : List ℕ) (undo : Undo) (blocks : List ℕ)
    → disk_of run (crash_set blocks) ≡ disk_of (extended run (Create block start bytes after undo)) (crash_set blocks)
disk_made run block start bytes after undo blocks =
    let step = Create block start bytes after undo in
    map-alike (λ k. pile_of (history_of run k) (crash_set blocks)) (λ k. pile_of (history_of (extended run step) k) (crash_set blocks)) (range_with_len 0 (length run.first)) (λ k. sym (
    pile_on run step k (crash_set blocks)
    ∙ ap (λ es. pile (history_of run k).first (map (λ e. e.patch) es))
    (filter-last (passes_of k (crash_set blocks)) (entries_of run) (fresh (entries_of run) (next_patch run block start bytes after undo)) (and_right (block == k) false refl))
    ∙ sym (pile_of-history run k (crash_set blocks))))

crash-joined : (a b : ℕ) (blocks : List ℕ) (e : Entry) → crash_set blocks (joined a b e) ≡ crash_set blocks e
crash-joined a b blocks e =
    ap (λ m. marks_durable m || (marks_flight m && is_among blocks (joined a b e).patch.block)) (mark-joined a b e)
    ∙ ap (λ p. marks_durable e.mark || (marks_flight e.mark && is_among blocks p.block)) (patch-joined a b e)

-- these blocks without this one
abbrev others : ℕ → List ℕ → List ℕ
others block blocks = filter (λ k. not (k == block)) blocks

among-others_self : (block : ℕ) (blocks : List ℕ) → is_among (others block blocks) block ≡ false
among-others_self block [] = refl
among-others_self block (k ∷ ks) = elim (cases_Bool (k == block)) [
  | inl u ↦ rw u (among-others_self block ks)
  | inr u ↦ rw (u, u) (among-others_self block ks)
]

among-others : (block n : ℕ) (blocks : List ℕ) → (n == block) ≡ false → is_among (others block blocks) n ≡ is_among blocks n
among-others block n [] ne = refl
among-others block n (k ∷ ks) ne = elim (cases_Bool (k == block)) [
  | inl u ↦ let off : (k == n) ≡ false = grind (arith, nat_tests) in rw (u, off) (among-others block n ks ne)
  | inr u ↦ rw u (ap (λ b. (k == n) || b) (among-others block n ks ne))
]

of_memory : (m : Mark) (b : Bool) → marks_memory m ≡ true → (marks_durable m || (marks_flight m && b)) ≡ false
of_memory Memory b h = refl
of_memory Flight b h = absurd (cc)
of_memory Durable b h = absurd (cc)

crash-sent : (run : Execution) (block : ℕ) (blocks : List ℕ) → IsLegal run → has_flight (state_of run) block ≡ false → (e : Entry) → In (entries_of run) e
    → crash_set (others block blocks) (sent (ready (entries_of run) block) e) ≡ crash_set blocks e
crash-sent run block blocks legal none e i = elim (cases_Bool (has (ready (entries_of run) block) e)) [
  | inl u ↦
      let p = sent_from (entries_of run) block (AreApart-run run) e i u in
      let here : e.patch.block ≡ block = grind (arith, nat_tests, p.1) in
      let off : is_among (others block blocks) e.patch.block ≡ false = subst (λ n. is_among (others block blocks) n ≡ false) (sym here) (among-others_self block blocks) in
      rw u (off ∙ sym (of_memory e.mark (is_among blocks e.patch.block) p.0))
  | inr u ↦ rw u (elim (cases_Bool (e.patch.block == block)) [
    | inl v ↦
        let still : is_flight e ≡ false = no_flying run block legal none e i (grind (arith, nat_tests, v)) in
        rw still refl
    | inr v ↦ ap (λ b. is_durable e || (is_flight e && b)) (among-others block e.patch.block blocks v)
  ])
]

pub disk_stays : (run : Execution) (step : Step) (disk : List (List ℕ)) → IsLegal run → IsLegalStep (length run.first) (state_of run) step
    → ((block : ℕ) → step ≢ Complete block) → MayLeave run disk → MayLeave (extended run step) disk
disk_stays run (Create block start bytes after undo) disk legal h ne m = record { landed = m.landed; disk_is = m.disk_is ∙ disk_made run block start bytes after undo m.landed }
disk_stays run (Merge a b) disk legal h ne m =
    let x = class_of (entries_of run) a in
    let y = class_of (entries_of run) b in
    record { landed = m.landed; disk_is = m.disk_is ∙ disk_changed run (Merge a b) (joined x y) (crash_set m.landed) (crash_set m.landed) refl (patch-joined x y) (λ e i. crash-joined x y m.landed e) }
disk_stays run (Send block) disk legal h ne m = record {
  landed = others block m.landed;
  disk_is = m.disk_is ∙ disk_changed run (Send block) (sent (ready (entries_of run) block)) (crash_set (others block m.landed)) (crash_set m.landed) refl (patch-sent _) (crash-sent run block m.landed legal h.0);
}
disk_stays run (Complete block) disk legal h ne m = absurd (ne block refl)

-- what lands of the block was in the set of a crash by which its write had landed
crash-landed : (block : ℕ) (blocks : List ℕ) (e : Entry) → crash_set (block ∷ blocks) (landed block e) ≡ crash_set (block ∷ blocks) e
crash-landed block blocks e = elim (cases_Bool (is_flight e && (e.patch.block == block))) [
  | inl u ↦
      let p = and_parts (is_flight e) (e.patch.block == block) u in
      let at : (block == e.patch.block) ≡ true = grind (arith, nat_tests, p.1) in
      let flying : is_flight e ≡ true = p.0 in
      rw (u, flying, at) (sym (or_true (is_durable e)))
  | inr u ↦ let same : landed block e ≡ e = rw u refl in ap (crash_set (block ∷ blocks)) same
]
  where
    or_true : (b : Bool) → (b || true) ≡ true
    or_true true = refl
    or_true false = refl

pub write_ends : (run : Execution) (disk : List (List ℕ)) (block : ℕ) → IsLegal run → block < length run.first → MayLeave run disk
    → MayLeave (extended run (Complete block)) (slice_set disk block (image (history_of run block)))
write_ends run disk block legal there m = record {
  landed = block ∷ m.landed;
  disk_is = ap (λ d. slice_set d block (image (history_of run block))) m.disk_is
      ∙ image_over_crash run m.landed block there
      ∙ disk_changed run (Complete block) (landed block) (crash_set (block ∷ m.landed)) (crash_set (block ∷ m.landed)) refl (patch-landed block) (λ e i. crash-landed block m.landed e);
}
