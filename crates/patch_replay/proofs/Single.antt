-- A script has one text.
use Rattle.std.proofs.Common.{◌≡◌, ℕ, ◌<◌, ◌∙◌, ◌∷◌, [], Bool, true, false, length, Option, Some, None, Result, Ok, Err, List, refl, sym, ap, subst}
use Rattle.std.specs.Prelude.{if◌then◌else◌, slice_index_or, slice_set}
use Rattle.std.proofs.lemmas.List.{ext_get_or}
use Rattle.patch_model.specs.declared.refusals.Refusal.{Refusal}
use Rattle.patch_model.specs.Execution.{Execution, followed_by}
use Rattle.patch_model.specs.History.{history_of, cached, image}
use Rattle.patch_model.specs.Refusing.{why_not_shown}
use Rattle.patch_cache.specs.Asks.{Ask as CacheAsk, Answer as CacheAnswer, Create, Merge, Send, Complete, View, IsAnswer}
use Rattle.patch_plans.specs.Groups.{patches_of, why_not_counted}
use Rattle.patch_group.specs.Asks.{Ask, Answer, Plain, GroupMade, Done, Count, Refused, IsPlain, IsGroupAnswer, plain_of, call_answer, is_refused, run_after, groups_after}
use Rattle.patch_group.specs.Syncing.{NoneFly, IsSynced}
use Rattle.patch_script.specs.declared.answers.Answer.{Answer as LineAnswer}
use Rattle.patch_script.specs.declared.answers.Answer.TheVariants as told
use Rattle.patch_script.specs.declared.forms.Line.{Line}
use Rattle.patch_script.specs.declared.forms.Line.TheVariants as line
use Rattle.patch_script.specs.declared.forms.Span.{Span}
use Rattle.patch_script.specs.Script.{script_of, is_too_long}
use Rattle.patch_replay.specs.Answering.{IsAskAnswered, IsAfterSync, IsSyncAnswered, IsAnswered, AreAnswers, line_answer, answer_unless, bytes_in}
use Rattle.patch_replay.specs.World.{World, after, disk_after, written}
use Rattle.patch_replay.specs.Replay.{answers_text, IsScriptText, IsReplayText, too_long_text}
use Rattle.patch_replay.specs.Laws.{TextsAreSingle}
use Rattle.patch_replay.proofs.Imaging.{StatesExtend}
use Rattle.patch_replay.proofs.Alike.{AreAlike, alike_self, alike_history, alike_group_answer, alike_run_after}
use Rattle.patch_replay.proofs.Resting.{synced_alike, synced_still}

-- an ask of the cache has one answer
abbrev pub Answering : Type 0
Answering = (run : Execution) (ask : CacheAsk) (a b : CacheAnswer) → IsAnswer run ask a → IsAnswer run ask b → a ≡ b

abbrev plain : CacheAnswer → Answer
plain a = Plain a

-- and so has one of the cache with its groups
right_single : Answering → (run : Execution) (p : Option CacheAsk) (call a b : Answer)
    → (elim p as (λ _. Type 0) [ Some ask ↦ IsPlain (IsAnswer run ask) a | None ↦ a ≡ call ])
    → (elim p as (λ _. Type 0) [ Some ask ↦ IsPlain (IsAnswer run ask) b | None ↦ b ≡ call ]) → a ≡ b
right_single law run None call a b p q = p ∙ sym q
right_single law run (Some ask) call (Plain a) (Plain b) p q = ap plain (law run ask a b p q)
right_single law run (Some ask) call (Plain a) (GroupMade group) p q = absurd q
right_single law run (Some ask) call (Plain a) Done p q = absurd q
right_single law run (Some ask) call (Plain a) (Count count) p q = absurd q
right_single law run (Some ask) call (Plain a) (Refused cause) p q = absurd q
right_single law run (Some ask) call (GroupMade group) b p q = absurd p
right_single law run (Some ask) call Done b p q = absurd p
right_single law run (Some ask) call (Count count) b p q = absurd p
right_single law run (Some ask) call (Refused cause) b p q = absurd p

-- Worlds that have come to one state.

record AreOne (w v : World) : Type 0 where
  run : AreAlike w.run v.run
  groups : w.groups ≡ v.groups
  disk : w.disk ≡ v.disk

one_self : (w : World) → AreOne w w
one_self w = record { run = alike_self w.run; groups = refl; disk = refl }

written_alike : (run other : Execution) (disk : List (List ℕ)) (ask : CacheAsk) → AreAlike run other → written run disk ask ≡ written other disk ask
written_alike run other disk (Complete block) a = ap (λ h. slice_set disk block (image h)) (alike_history run other block a)
written_alike run other disk (Create block start bytes named undo) a = refl
written_alike run other disk (Merge x y) a = refl
written_alike run other disk (Send block) a = refl
written_alike run other disk (View block moves start len) a = refl

-- the disk behind an ask, whether it was refused, and of the cache
abbrev disk_by : Execution → List (List ℕ) → Bool → Option CacheAsk → List (List ℕ)
disk_by run disk refused asked = if refused then disk else elim asked [ Some ask ↦ written run disk ask | None ↦ disk ]

by_alike : (run other : Execution) (disk : List (List ℕ)) (refused : Bool) (asked : Option CacheAsk) → AreAlike run other
    → disk_by run disk refused asked ≡ disk_by other disk refused asked
by_alike run other disk true asked a = refl
by_alike run other disk false None a = refl
by_alike run other disk false (Some ask) a = written_alike run other disk ask a

disk_alike : (w v : World) (ask : Ask) (x : Answer) → AreOne w v → disk_after w ask x ≡ disk_after v ask x
disk_alike w v ask x o =
    by_alike w.run v.run w.disk (is_refused x) (plain_of w.groups ask) o.run
    ∙ (λ i. let now : World = record { run = v.run; groups = o.groups i; disk = o.disk i } in disk_after now ask x)

after_alike : StatesExtend → (w v : World) (ask : Ask) (x : Answer) → AreOne w v → AreOne (after w ask x) (after v ask x)
after_alike extend w v ask x o = record {
  run = subst (λ gs. AreAlike (run_after w.run w.groups ask x) (run_after v.run gs ask x)) o.groups (alike_run_after extend w.run v.run w.groups ask x o.run);
  groups = ap (λ gs. groups_after gs ask x) o.groups;
  disk = disk_alike w v ask x o;
}

-- Lines.

-- the answers are one, and the worlds behind them
record IsSingle (a b : LineAnswer) (n m : World) : Type 0 where
  answer : a ≡ b
  worlds : AreOne n m

-- a line that asks
ask_single : StatesExtend → Answering → (w v : World) (ask : Ask) (a b : LineAnswer) (n m : World) → AreOne w v
    → IsAskAnswered w ask a n → IsAskAnswered v ask b m → IsSingle a b n m
ask_single extend law w v ask a b n m o p q =
    let moved : IsGroupAnswer w.run w.groups ask q.answered =
    alike_group_answer extend v.run w.run w.groups ask q.answered (record { first = sym o.run.first; state = sym o.run.state })
    (subst (λ gs. IsGroupAnswer v.run gs ask q.answered) (sym o.groups) q.right) in
    let same : p.answered ≡ q.answered = right_single law w.run (plain_of w.groups ask) (call_answer w.run w.groups ask) p.answered q.answered p.right moved in
    let next : m ≡ after v ask p.answered = q.next_is ∙ ap (after v ask) (sym same) in
    record {
      answer = p.is ∙ ap line_answer same ∙ sym q.is;
      worlds = subst (λ k. AreOne k m) (sym p.next_is) (subst (AreOne (after w ask p.answered)) (sym next) (after_alike extend w v ask p.answered o));
    }

-- one that looks
look_single : (w v : World) (a b shown other : LineAnswer) (n m : World) → AreOne w v → shown ≡ other
    → (a ≡ shown) × (n ≡ w) → (b ≡ other) × (m ≡ v) → IsSingle a b n m
look_single w v a b shown other n m o same p q =
    record { answer = p.0 ∙ same ∙ sym q.0; worlds = subst (λ k. AreOne k m) (sym p.1) (subst (AreOne w) (sym q.1) o) }

shown_single : (w v : World) (span : Span) → AreOne w v
    → answer_unless (why_not_shown (length w.run.first) span.block span.start span.len) (told.Shown (bytes_in (cached (history_of w.run span.block)) span))
    ≡ answer_unless (why_not_shown (length v.run.first) span.block span.start span.len) (told.Shown (bytes_in (cached (history_of v.run span.block)) span))
shown_single w v span o = λ i.
    answer_unless (why_not_shown (length (o.run.first i)) span.block span.start span.len)
    (told.Shown (bytes_in (cached (alike_history w.run v.run span.block o.run i)) span))

on_disk_single : (w v : World) (span : Span) → AreOne w v
    → answer_unless (why_not_shown (length w.run.first) span.block span.start span.len) (told.OnDisk (bytes_in (slice_index_or w.disk span.block []) span))
    ≡ answer_unless (why_not_shown (length v.run.first) span.block span.start span.len) (told.OnDisk (bytes_in (slice_index_or v.disk span.block []) span))
on_disk_single w v span o = λ i.
    answer_unless (why_not_shown (length (o.run.first i)) span.block span.start span.len)
    (told.OnDisk (bytes_in (slice_index_or (o.disk i) span.block []) span))

-- Syncs.

-- a disk that holds the image of each block is one
disk_single : (n m : World) → AreAlike n.run m.run → NoneFly n.run → NoneFly m.run → (length n.disk ≡ length n.run.first)
    → (length m.disk ≡ length m.run.first)
    → ((b : ℕ) → b < length n.run.first → slice_index_or n.disk b [] ≡ image (history_of n.run b))
    → ((b : ℕ) → b < length m.run.first → slice_index_or m.disk b [] ≡ image (history_of m.run b)) → n.disk ≡ m.disk
disk_single n m a none quiet long other_long images others =
    ext_get_or [] n.disk m.disk (long ∙ ap length a.first ∙ sym other_long)
    (λ b less.
    let known : b < length n.run.first = subst (λ k. b < k) long less in
    images b known ∙ ap image (alike_history n.run m.run b a)
    ∙ sym (others b (subst (λ k. b < k) (ap length a.first) known)))

after_sync_single : StatesExtend → (w v : World) (group : ℕ) (n m : World) → AreOne w v → IsAfterSync w group n → IsAfterSync v group m → AreOne n m
after_sync_single extend w v group n m o p q =
    let synced : IsSynced (patches_of w.groups group) v.run q.steps = subst (λ gs. IsSynced (patches_of gs group) v.run q.steps) (sym o.groups) q.synced in
    let both = synced_alike extend (patches_of w.groups group) w.run v.run p.steps q.steps o.run p.synced synced in
    let alike : AreAlike n.run m.run = subst (λ r. AreAlike r m.run) (sym p.run_is) (subst (AreAlike (followed_by w.run p.steps)) (sym q.run_is) both) in
    let none : NoneFly n.run = subst NoneFly (sym p.run_is) (synced_still (patches_of w.groups group) w.run p.steps p.synced) in
    let quiet : NoneFly m.run = subst NoneFly (sym q.run_is) (synced_still (patches_of w.groups group) v.run q.steps synced) in
    record {
      run = alike;
      groups = p.groups_are ∙ o.groups ∙ sym q.groups_are;
      disk = disk_single n m alike none quiet p.images.count q.images.count (λ b known. p.images.images b known (none b)) (λ b known. q.images.images b known (quiet b));
    }

sync_single : StatesExtend → (w v : World) (group : ℕ) (why : Option Refusal) (a b : LineAnswer) (n m : World) → AreOne w v
    → (elim why as (λ _. Type 0) [ Some refusal ↦ (a ≡ told.Refused refusal) × (n ≡ w) | None ↦ (a ≡ told.Synced) × IsAfterSync w group n ])
    → (elim why as (λ _. Type 0) [ Some refusal ↦ (b ≡ told.Refused refusal) × (m ≡ v) | None ↦ (b ≡ told.Synced) × IsAfterSync v group m ])
    → IsSingle a b n m
sync_single extend w v group (Some refusal) a b n m o p q = look_single w v a b (told.Refused refusal) (told.Refused refusal) n m o refl p q
sync_single extend w v group None a b n m o p q = record { answer = p.0 ∙ sym q.0; worlds = after_sync_single extend w v group n m o p.1 q.1 }

sync_line : StatesExtend → (w v : World) (group : ℕ) (a b : LineAnswer) (n m : World) → AreOne w v
    → IsSyncAnswered w group a n → IsSyncAnswered v group b m → IsSingle a b n m
sync_line extend w v group a b n m o p q =
    sync_single extend w v group (why_not_counted w.groups group) a b n m o p
    (subst (λ gs. elim (why_not_counted gs group) as (λ _. Type 0) [
      | Some refusal ↦ (b ≡ told.Refused refusal) × (m ≡ v)
      | None ↦ (b ≡ told.Synced) × IsAfterSync v group m
    ]) (sym o.groups) q)

-- Scripts.

module _ (extend : StatesExtend) (law : Answering) where
  line_single : (w v : World) (l : Line) (a b : LineAnswer) (n m : World) → AreOne w v → IsAnswered w l a n → IsAnswered v l b m → IsSingle a b n m
  unfolding IsAnswered
  line_single w v (line.Patch block start bytes named undo writer) a b n m o p q = ask_single extend law w v _ a b n m o p q
  line_single w v (line.Merge x y) a b n m o p q = ask_single extend law w v _ a b n m o p q
  line_single w v (line.Send block) a b n m o p q = ask_single extend law w v _ a b n m o p q
  line_single w v (line.Complete block) a b n m o p q = ask_single extend law w v _ a b n m o p q
  line_single w v (line.View take back span) a b n m o p q = ask_single extend law w v _ a b n m o p q
  line_single w v (line.Show span) a b n m o p q = look_single w v a b _ _ n m o (shown_single w v span o) p q
  line_single w v (line.Disk span) a b n m o p q = look_single w v a b _ _ n m o (on_disk_single w v span o) p q
  line_single w v line.Group a b n m o p q = ask_single extend law w v _ a b n m o p q
  line_single w v (line.Engage writer group) a b n m o p q = ask_single extend law w v _ a b n m o p q
  line_single w v (line.Disengage writer group) a b n m o p q = ask_single extend law w v _ a b n m o p q
  line_single w v (line.Depend group on) a b n m o p q = ask_single extend law w v _ a b n m o p q
  line_single w v (line.Close group) a b n m o p q = ask_single extend law w v _ a b n m o p q
  line_single w v (line.Pending group) a b n m o p q = ask_single extend law w v _ a b n m o p q
  line_single w v (line.Sync group) a b n m o p q = sync_line extend w v group a b n m o p q

  lines_single : (w v : World) (lines : List Line) (xs ys : List LineAnswer) (n m : World) → AreOne w v
      → AreAnswers w lines xs n → AreAnswers v lines ys m → xs ≡ ys
  lines_single w v [] [] [] n m o p q = refl
  lines_single w v [] [] (y ∷ ys) n m o p q = absurd q
  lines_single w v [] (x ∷ xs) ys n m o p q = absurd p
  lines_single w v (l ∷ ls) [] ys n m o p q = absurd p
  lines_single w v (l ∷ ls) (x ∷ xs) [] n m o p q = absurd q
  lines_single w v (l ∷ ls) (x ∷ xs) (y ∷ ys) n m o p q =
      let same = line_single w v l x y p.0 q.0 o p.1 q.1 in
      let one : x ≡ y = same.answer in
      let rest : xs ≡ ys = lines_single p.0 q.0 ls xs ys n m same.worlds p.2 q.2 in
      cc

  text_single : (w : World) (read : Result (List Line) ℕ) (a b : List ℕ) → IsScriptText w read a → IsScriptText w read b → a ≡ b
  text_single w (Ok lines) a b p q =
      p.is ∙ ap answers_text (lines_single w w lines p.answers q.answers p.last q.last (one_self w) p.right q.right) ∙ sym q.is
  text_single w (Err number) a b p q = p ∙ sym q

  pub texts_are_single : TextsAreSingle
  unfolding IsReplayText
  texts_are_single w script a b p q = by (is_too_long script) p q
    where
      by : (long : Bool) → (elim long as (λ _. Type 0) [ true ↦ a ≡ too_long_text | false ↦ IsScriptText w (script_of script) a ])
          → (elim long as (λ _. Type 0) [ true ↦ b ≡ too_long_text | false ↦ IsScriptText w (script_of script) b ]) → a ≡ b
      by true p q = p ∙ sym q
      by false p q = text_single w (script_of script) a b p q
