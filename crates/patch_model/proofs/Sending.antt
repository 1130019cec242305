-- Each send puts a patch in flight that was in memory, so there are no more sends than patches.
use Rattle.std.proofs.Common.{◌≡◌, ℕ, ◌+◌, ◌≤◌, inl, inr, true, false, List, [], ◌∷◌, ◌++◌, length, refl, arith, length-append}
use Rattle.std.specs.Prelude.{◌==◌, ◌&&◌, count_by}
use Rattle.std.proofs.lemmas.Bool.{cases_Bool, and_parts}
use Rattle.std.proofs.lemmas.List.{length-map}
use Rattle.patch_model.specs.Entries.{In-has}
use Rattle.patch_model.specs.declared.limits.TheConstants.{MAX_PATCHES}
use Rattle.patch_model.specs.Step.{Step, Create, Merge, Send, Complete}
use Rattle.patch_model.specs.Execution.{Execution}
use Rattle.patch_model.specs.Entry.{Entry, is_memory, is_flight}
use Rattle.patch_model.specs.Ready.{has, ready}
use Rattle.patch_model.specs.State.{State, at_first, fresh, joined, sent, landed, class_of, after_step, after_steps, state_of, entries_of}
use Rattle.patch_model.specs.Legal.{IsLegal, IsLegalStep, AreLegal}
use Rattle.patch_model.specs.Unchanged.{mark-joined}
use Rattle.patch_model.proofs.Counting.{count-push, count-map_le, count-map_lt}
use Rattle.patch_model.proofs.Flights.{first_of_some}
use Rattle.patch_model.proofs.Marks.{never}
use Rattle.patch_model.proofs.Numbering.{Numbered, Numbered-after_step, apart-from_Numbered}
use Rattle.patch_model.proofs.Sizes.{AreFew-run}
use Rattle.patch_model.proofs.Striking.{ready-In}

-- the sends, with what may still be sent, are no more than the patches
abbrev AreSends : State → Type 0
AreSends st = st.sends + count_by is_memory st.entries ≤ length st.entries

memory-sent : (set : List Entry) (e : Entry) → is_memory (sent set e) ≡ true → is_memory e ≡ true
memory-sent set e = elim (cases_Bool (has set e)) [
  | inl u ↦ rw u (λ h. absurd (never h))
  | inr u ↦ rw u (λ h. h)
]

memory-landed : (block : ℕ) (e : Entry) → is_memory (landed block e) ≡ true → is_memory e ≡ true
memory-landed block e = elim (cases_Bool (is_flight e && (e.patch.block == block))) [
  | inl u ↦ rw u (λ h. absurd (never h))
  | inr u ↦ rw u (λ h. h)
]

AreSends-after_step : (blocks : ℕ) (st : State) (step : Step) → Numbered 0 st.entries → IsLegalStep blocks st step → AreSends st → AreSends (after_step st step)
AreSends-after_step blocks st (Create block begin bytes after undo) n legal s =
    let new : Entry = fresh st.entries (record { no = length st.entries; block = block; start = begin; bytes = bytes; after = after; undo = undo }) in
    let old : st.sends + count_by is_memory st.entries ≤ length st.entries = s in
    let more : count_by is_memory (st.entries ++ new ∷ []) ≡ count_by is_memory st.entries + 1 = count-push is_memory st.entries new in omega (arith, length-append {A = Entry})
AreSends-after_step blocks st (Merge a b) n legal s =
    let x = class_of st.entries a in
    let y = class_of st.entries b in
    let old : st.sends + count_by is_memory st.entries ≤ length st.entries = s in
    let less = count-map_le is_memory (joined x y) st.entries (λ e i h. rw (mark-joined x y e) at h) in
    let long = length-map st.entries (joined x y) in omega arith
AreSends-after_step blocks st (Send block) n legal s =
    let old : st.sends + count_by is_memory st.entries ≤ length st.entries = s in
    let first = first_of_some (ready st.entries block) legal.1 in
    let r = ready-In st.entries block (apart-from_Numbered 0 st.entries n) first.0 first.1 in
    let in_set = In-has (ready st.entries block) first.0 first.1 in
    let flies : is_memory (sent (ready st.entries block) first.0) ≡ false = rw in_set refl in
    let less = count-map_lt is_memory (sent (ready st.entries block)) st.entries (λ e i. memory-sent (ready st.entries block) e) first.0 r.0 (and_parts (is_memory first.0) (first.0.patch.block == block) r.1).0 flies in
    let long = length-map st.entries (sent (ready st.entries block)) in omega arith
AreSends-after_step blocks st (Complete block) n legal s =
    let old : st.sends + count_by is_memory st.entries ≤ length st.entries = s in
    let less = count-map_le is_memory (landed block) st.entries (λ e i. memory-landed block e) in
    let long = length-map st.entries (landed block) in omega arith

AreSends-after_steps : (blocks : ℕ) (st : State) (steps : List Step) → Numbered 0 st.entries → AreLegal blocks st steps → AreSends st → AreSends (after_steps st steps)
AreSends-after_steps blocks st [] n legal s = s
AreSends-after_steps blocks st (x ∷ xs) n legal s =
    AreSends-after_steps blocks (after_step st x) xs (Numbered-after_step st x n) legal.1 (AreSends-after_step blocks st x n legal.0 s)

pub few_sends : (run : Execution) → IsLegal run → (state_of run).sends ≤ MAX_PATCHES
few_sends run legal =
    let s : (state_of run).sends + count_by is_memory (entries_of run) ≤ length (entries_of run) = AreSends-after_steps (length run.first) at_first run.steps tt legal.steps (omega arith) in
    let made : length (entries_of run) ≤ MAX_PATCHES = (AreFew-run run legal).made in omega arith
