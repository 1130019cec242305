-- What the file may hold while the writes of a sync reach it.
use Rattle.std.proofs.Common.{◌≡◌, ℕ, zero, suc, ◌+◌, ◌-◌, ◌<◌, ◌≤◌, ◌∙◌, Bool, true, inl, inr, List, [], ◌∷◌, length, map, refl, sym, ap, subst, arith}
use Rattle.std.specs.Prelude.{◌==◌, ◌||◌, ◌&&◌, not, take, IsFalse}
use Rattle.std.specs.List.{range_with_len}
use Rattle.std.proofs.Math.Seq.{take-append-add}
use Rattle.std.proofs.lemmas.Bool.{cases_Bool}
use Rattle.std.proofs.lemmas.Bool.Decides.{nat_tests}
use Rattle.std.proofs.lemmas.List.{append-nil, same_lists, get_or_default}
use Rattle.std.proofs.lemmas.List.FromFn.{get_or-map-range_with_len, length-map-range_with_len}
use Rattle.patch_model.specs.declared.patches.Mark.{Mark}
use Rattle.patch_model.specs.declared.patches.Mark.TheVariants.{Memory, Flight, Durable}
use Rattle.patch_model.specs.Step.{Step}
use Rattle.patch_model.specs.Execution.{Execution, followed_by, cut}
use Rattle.patch_model.specs.Entry.{Entry, marks_memory, marks_flight, marks_durable, is_memory, is_among}
use Rattle.patch_model.specs.State.{state_of, entries_of, has_flight}
use Rattle.patch_model.specs.History.{history_of, pile_of, image}
use Rattle.patch_model.specs.Crash.{crash_set, disk_of, MayLeave, HasTrail}
use Rattle.patch_model.specs.Member.{filter-same}
use Rattle.patch_model.specs.Pile.{pile}
use Rattle.patch_model.proofs.Images.{pile_of-history}
use Rattle.patch_device.specs.Device.{Elapses}
use Rattle.patch_device.specs.SameDevice.{IsLasting}
use Rattle.patch_device.specs.declared.devices.Device.{Ghosts}
use Rattle.patch_cache.specs.Running.{IsCrashSafe}
use Rattle.patch_cache.specs.Waves.{HoldImages, HasKept}
use Rattle.patch_history.specs.History.{History, execution_of, steps_of}
use Rattle.patch_store.specs.Flushing.{HasWritten, with_writes}
use Rattle.patch_store.specs.Meaning.{Store, IsStoreOf}
use Rattle.patch_disks.specs.Running.{StandsOn}
use Rattle.patch_c.specs.declared.tape.Tape.{Tape}
use Rattle.patch_device.specs.Cuts.{cached_behind}
use Rattle.patch_c.specs.Saving.{HasKeptSafe, MayBeLeft, LandsSafely, LastsOnceDone}
use Rattle.patch_c.specs.Tape.{file_of, contents_of, moment_of, left_at_of, events_of}
use Rattle.patch_c.proofs.Staying.{empty_holds}
use Rattle.patch_c.proofs.Synced.{writes_behind}
use Rattle.patch_c.proofs.Writing.{lasts_still}

-- Blocks that are the images of all may be left by a crash: by one where all writes that are under way had landed.

among_all : (start n block : ℕ) → start ≤ block → block < start + n → is_among (range_with_len start n) block ≡ true
among_all start zero block low high = absurd (omega arith)
among_all start (suc n) block low high = elim (cases_Bool (start == block)) [
  | inl u ↦ rw u refl
  | inr u ↦
      let off : start + 1 ≤ block = grind (arith, nat_tests) in
      rw u (among_all (start + 1) n block off (omega arith))
]

not_in_memory : (m : Mark) → (marks_durable m || (marks_flight m && true)) ≡ not (marks_memory m)
not_in_memory Memory = refl
not_in_memory Flight = refl
not_in_memory Durable = refl

-- on one block only what is kept of that block counts
pile_on_block : (run : Execution) (block : ℕ) (p q : Entry → Bool) → ((e : Entry) → (e.patch.block == block) ≡ true → p e ≡ q e)
    → pile_of (history_of run block) p ≡ pile_of (history_of run block) q
pile_on_block run block p q same =
    pile_of-history run block p
    ∙ ap (λ es. pile (history_of run block).first (map (λ e. e.patch) es))
    (filter-same (λ e. (e.patch.block == block) && p e) (λ e. (e.patch.block == block) && q e) (entries_of run)
    (λ e. elim (cases_Bool (e.patch.block == block)) [ inl u ↦ rw u (same e u) | inr u ↦ rw u refl ]))
    ∙ sym (pile_of-history run block q)

all_landed : (run : Execution) (block : ℕ) → block < length run.first
    → pile_of (history_of run block) (crash_set (range_with_len 0 (length run.first))) ≡ image (history_of run block)
all_landed run block known =
    let all = range_with_len 0 (length run.first) in
    pile_on_block run block (crash_set all) (λ e. not (is_memory e)) (λ e here.
    let at : e.patch.block ≡ block = grind (arith, nat_tests) in
    let landed : is_among all e.patch.block ≡ true = subst (λ b. is_among all b ≡ true) (sym at) (among_all 0 (length run.first) block (omega arith) (omega arith)) in
    rw landed (not_in_memory e.mark))

resting_left : (run : Execution) (blocks : List (List ℕ)) → ((block : ℕ) → IsFalse (has_flight (state_of run) block)) → HoldImages run blocks → MayLeave run blocks
resting_left run blocks none holds =
    let all = range_with_len 0 (length run.first) in
    let long : length (disk_of run (crash_set all)) ≡ length run.first =
    length-map-range_with_len (λ k. pile_of (history_of run k) (crash_set all)) 0 (length run.first) in
    record {
      landed = all;
      disk_is = same_lists _ _ (holds.count ∙ sym long) (λ k d h.
          let known : k < length run.first = omega (arith, h, holds.count) in
          sym (get_or_default blocks k [] d h) ∙ holds.images k known (none k) ∙ sym (all_landed run k known)
          ∙ sym (get_or-map-range_with_len (λ k. pile_of (history_of run k) (crash_set all)) 0 (length run.first) k k d known (omega arith)));
    }

-- So what a flush keeps of them is kept of a store that stands on its blocks, which last.
pub kept_so : {D : Type 0} (g : Ghosts D) (h : History) (steps : List Step) (old flushed new : Store) (before now : D) → StandsOn old h (g.contents before) → IsLasting g before
    → HasWritten h steps flushed → HasKept g (execution_of h) steps before now → ((h : History) → IsStoreOf flushed h → IsStoreOf new h) → HasKeptSafe g h new before now
kept_so g h steps old flushed new before now stands lasting written kept drained =
    let blocks = g.contents before in
    let rests = resting_left (execution_of h) blocks stands.still.no_flight stands.images in
    let safe = kept.crash (λ disk left. subst (MayLeave (execution_of h)) (sym (lasting disk left)) rests) in
    record {
      writes = steps;
      represents = drained _ written.represents;
      safe = subst (λ run. IsCrashSafe g (execution_of h) run before now) (writes_behind h steps) safe;
    }

-- What a cut leaves at a moment of the trail is left behind some first steps.

cut_behind : (h : History) (steps : List Step) (n : ℕ) → length (steps_of h) ≤ n
    → cut n (execution_of (with_writes h steps)) ≡ execution_of (with_writes h (take (n - length (steps_of h)) steps))
cut_behind h steps n low =
    let more = n - length (steps_of h) in
    let many : n ≡ length (steps_of h) + more = omega arith in
    ap (λ run. cut n run) (sym (writes_behind h steps))
    ∙ ap (λ m. cut m (followed_by (execution_of h) steps)) many
    ∙ ap (λ all. let v : Execution = record { first = h.opening; steps = all } in v) (take-append-add (steps_of h) steps more)
    ∙ writes_behind h (take more steps)

left_then : (h : History) (steps : List Step) (n : ℕ) (disk : List (List ℕ)) → length (steps_of h) ≤ n
    → MayLeave (cut n (execution_of (with_writes h steps))) disk → MayBeLeft h steps disk
left_then h steps n disk low left = (n - length (steps_of h), subst (λ run. MayLeave run disk) (cut_behind h steps n low) left)

each_lands : (h : History) (steps : List Step) (left_at : ℕ → List (List ℕ) → Type 0) (moment from : ℕ) (counts : List ℕ) → length (steps_of h) ≤ from
    → HasTrail (execution_of (with_writes h steps)) left_at moment from counts
    → (t : ℕ) (disk : List (List ℕ)) → moment ≤ t → t < moment + length counts → left_at t disk → MayBeLeft h steps disk
each_lands h steps left_at moment from [] low trail t disk after within left = absurd (omega (arith, after, within))
each_lands h steps left_at moment from (n ∷ counts) low trail t disk after within left =
    let later : length (steps_of h) ≤ n = omega (arith, low, trail.0) in
    elim (cases_Bool (moment == t)) [
      | inl u ↦
          let now : moment ≡ t = grind (arith, nat_tests) in
          left_then h steps n disk later (trail.1 disk (subst (λ m. left_at m disk) (sym now) left))
      | inr u ↦
          let next : suc moment ≤ t = grind (arith, nat_tests) in
          each_lands h steps left_at (suc moment) n counts later trail.2 t disk next (omega (arith, within)) left
    ]

at_rest : (h : History) (steps : List Step) (blocks : List (List ℕ)) → MayLeave (execution_of h) blocks → MayBeLeft h steps blocks
at_rest h steps blocks left =
    let none : execution_of h ≡ execution_of (with_writes h []) =
    ap (λ all. let v : Execution = record { first = h.opening; steps = all } in v) (sym (append-nil (steps_of h))) ∙ writes_behind h [] in
    (0, subst (λ run. MayLeave run blocks) none left)

-- An empty tape lasts as its file does,
pub empty_lasts : (tape : Tape) → events_of tape ≡ [] → LastsOnceDone tape
empty_lasts tape none = lasts_still (file_of tape) (events_of tape) (ap (λ es. (cached_behind (file_of tape) es).loose) none)

pub empty_stands : (h : History) (store : Store) (tape : Tape) → events_of tape ≡ [] → StandsOn store h (file_of tape) → StandsOn store h (contents_of tape)
empty_stands h store tape none stands = subst (StandsOn store h) (sym (empty_holds tape (file_of tape) refl none)) stands

-- and behind a sync the file may hold what a crash may leave.
pub lands_so : (h : History) (old new : Store) (before after : Tape) (steps : List Step) (counts : List ℕ) → events_of before ≡ [] → StandsOn old h (file_of before)
    → IsStoreOf new (with_writes h steps) → Elapses (moment_of before) (moment_of after) (left_at_of before) (left_at_of after)
    → moment_of after ≡ moment_of before + length counts
    → HasTrail (execution_of (with_writes h steps)) (left_at_of after) (suc (moment_of before)) (length (steps_of h)) counts → LandsSafely h new before after
lands_so h old new before after steps counts none stands represents time moments trail =
    let file = file_of before in
    let begin : moment_of before ≡ 0 = ap length none in
    record {
      file = sym ((time.past 0 file (omega arith)).0 refl);
      steps = steps;
      represents = represents;
      lands = λ t disk within left. elim (cases_Bool (0 == t)) [
        | inl u ↦
            let now : 0 ≡ t = grind (arith, nat_tests) in
            let first : disk ≡ file = (time.past 0 disk (omega arith)).1 (subst (λ m. left_at_of after m disk) (sym now) left) in
            at_rest h steps disk (subst (MayLeave (execution_of h)) (sym first) (resting_left (execution_of h) file stands.still.no_flight stands.images))
        | inr u ↦
            let some : 1 ≤ t = grind (arith, nat_tests) in
            each_lands h steps (left_at_of after) (suc (moment_of before)) (length (steps_of h)) counts (omega arith) trail t disk (omega (arith, begin, some)) (omega (arith, within, moments)) left
      ];
    }
