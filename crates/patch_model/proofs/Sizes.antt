-- How large patches are, and how many there may be.
use Rattle.std.proofs.Common.{◌≡◌, ℕ, ◌+◌, ◌<◌, ◌≤◌, ◌∙◌, inl, inr, true, List, [], ◌∷◌, ◌++◌, length, map, sym, ap, arith, subst, length-append}
use Rattle.std.specs.Prelude.{◌==◌, ◌&&◌, count_by}
use Rattle.std.proofs.lemmas.List.{length-map}
use Rattle.std.proofs.lemmas.Bool.{cases_Bool}
use Rattle.patch_model.specs.Marked.{memory_live}
use Rattle.patch_model.specs.declared.blocks.TheConstants.{BLOCK}
use Rattle.patch_model.specs.declared.limits.TheConstants.{MAX_PATCHES, MAX_LIVE}
use Rattle.patch_model.specs.Patch.{Patch}
use Rattle.patch_model.specs.Step.{Step, Create, Merge, Send, Complete}
use Rattle.patch_model.specs.Pile.{end}
use Rattle.patch_model.specs.Execution.{Execution}
use Rattle.patch_model.specs.Entry.{Entry, is_flight, is_live}
use Rattle.patch_model.specs.Ready.{has, ready}
use Rattle.patch_model.specs.State.{State, at_first, fresh, joined, sent, landed, class_of, after_step, after_steps, entries_of}
use Rattle.patch_model.specs.Legal.{IsLegal, IsLegalStep, AreLegal}
use Rattle.patch_model.specs.Member.{In, map-In}
use Rattle.patch_model.specs.Unchanged.{mark-joined, patch-joined, patch-landed, patch-sent}
use Rattle.patch_model.proofs.Numbering.{Numbered, Numbered-after_step, apart-from_Numbered}
use Rattle.patch_model.proofs.Counting.{count-push, count-map_le}
use Rattle.patch_model.proofs.Crashes.{In-push}
use Rattle.patch_model.proofs.Marks.{sent_from}

-- a patch has a byte, and fits
pub record IsSized (p : Patch) : Type 0 where
  pub filled : 0 < length p.bytes
  pub fits : end p ≤ BLOCK

pub record AreFew (all : List Entry) : Type 0 where
  pub sized : (e : Entry) → In all e → IsSized e.patch
  pub made : length all ≤ MAX_PATCHES
  pub live : count_by is_live all ≤ MAX_LIVE

-- a change that leaves patches, and makes nothing live
keeps-few : (g : Entry → Entry) (all : List Entry) → ((e : Entry) → (g e).patch ≡ e.patch) → ((e : Entry) → In all e → is_live (g e) ≡ true → is_live e ≡ true)
    → AreFew all → AreFew (map g all)
keeps-few g all same live few = record {
  sized = λ e i. let r = map-In g all e i in subst (λ p. IsSized p) (sym (same r.0) ∙ ap (λ x. x.patch) r.2) (few.sized r.0 r.1);
  made = rw (length-map all g) few.made;
  live = (let less = count-map_le is_live g all live in let most : count_by is_live all ≤ MAX_LIVE = few.live in omega arith);
}

live-joined : (a b : ℕ) (e : Entry) → is_live (joined a b e) ≡ true → is_live e ≡ true
live-joined a b e h = rw (mark-joined a b e) at h

live-landed : (block : ℕ) (e : Entry) → is_live (landed block e) ≡ true → is_live e ≡ true
live-landed block e = elim (cases_Bool (is_flight e && (e.patch.block == block))) [
  | inl u ↦ rw u (λ h. absurd (cc))
  | inr u ↦ rw u (λ h. h)
]

AreFew-after_step : (blocks : ℕ) (st : State) (step : Step) → Numbered 0 st.entries → IsLegalStep blocks st step → AreFew st.entries → AreFew (after_step st step).entries
AreFew-after_step blocks st (Merge a b) n legal few =
    keeps-few (joined (class_of st.entries a) (class_of st.entries b)) st.entries (patch-joined _ _) (λ e i. live-joined _ _ e) few
AreFew-after_step blocks st (Send block) n legal few =
    keeps-few (sent (ready st.entries block)) st.entries (patch-sent _) (λ e i h. elim (cases_Bool (has (ready st.entries block) e)) [
      | inl u ↦ memory_live e.mark (sent_from st.entries block (apart-from_Numbered 0 st.entries n) e i u).0
      | inr u ↦ rw u at h
    ]) few
AreFew-after_step blocks st (Complete block) n legal few =
    keeps-few (landed block) st.entries (patch-landed block) (λ e i. live-landed block e) few
AreFew-after_step blocks st (Create block begin bytes after undo) n legal few =
    let new : Entry = fresh st.entries (record { no = length st.entries; block = block; start = begin; bytes = bytes; after = after; undo = undo }) in
    record {
      sized = λ e i. elim (In-push st.entries new e i) [
        | inl g ↦ few.sized e g
        | inr same ↦ subst (λ x. IsSized x.patch) same (record { filled = legal.some; fits = legal.fits })
      ];
      made = (let left : length st.entries < MAX_PATCHES = legal.numbers_left in omega (arith, length-append {A = Entry}));
      live = (let left : count_by is_live st.entries < MAX_LIVE = legal.room in let more : count_by is_live (st.entries ++ new ∷ []) ≡ count_by is_live st.entries + 1 = count-push is_live st.entries new in omega arith);
    }

AreFew-after_steps : (blocks : ℕ) (st : State) (steps : List Step) → Numbered 0 st.entries → AreLegal blocks st steps → AreFew st.entries → AreFew (after_steps st steps).entries
AreFew-after_steps blocks st [] n legal few = few
AreFew-after_steps blocks st (s ∷ ss) n legal few =
    AreFew-after_steps blocks (after_step st s) ss (Numbered-after_step st s n) legal.1 (AreFew-after_step blocks st s n legal.0 few)

pub AreFew-run : (run : Execution) → IsLegal run → AreFew (entries_of run)
AreFew-run run legal = AreFew-after_steps (length run.first) at_first run.steps tt legal.steps (record { sized = λ e i. absurd i; made = omega arith; live = omega arith })
