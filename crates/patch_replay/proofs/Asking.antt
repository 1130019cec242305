-- One ask of a line, and where it leaves the cache, its groups and their disk.
use Rattle.std.proofs.Common.{◌≡◌, ◌≢◌, ℕ, ◌+◌, ◌∙◌, ◌⊎◌, inl, inr, Bool, true, false, Option, Some, None, Result, Ok, Err, List, [], ◌∷◌, ◌++◌, suc, length, map, slice_set, refl, sym, ap, subst, arith}
use Rattle.std.specs.Prelude.{IfOk, if◌then◌else◌}
use Rattle.std.proofs.lemmas.List.{length-append, append-nil}
use Rattle.patch_model.specs.declared.refusals.OutOfMemory.{OutOfMemory}
use Rattle.patch_model.specs.declared.refusals.RefusalKind.TheVariants as kind
use Rattle.patch_model.specs.Execution.{Execution}
use Rattle.patch_model.specs.History.{history_of, image}
use Rattle.patch_model.specs.Refusing.{bare}
use Rattle.patch_device.specs.MemDevice.{contents_of, block_count_of, blocks_counted_law}
use Rattle.patch_cache.specs.Asks.{Ask as CacheAsk, Answer as CacheAnswer, Create, Merge, Send, Complete, View, IsAnswer, IsGivenUp}
use Rattle.patch_cache.specs.Asks as cache
use Rattle.patch_cache.specs.Running.{Runs, HasWritten, HaveWritten}
use Rattle.patch_cache.specs.Waves.{HoldImages}
use Rattle.patch_plans.specs.Groups.{Groups}
use Rattle.patch_group.specs.Asks.{Ask, Answer, Part, Plain, Patch, Group, Engage, Disengage, Depend, Close, Pending, GroupMade, Done, Count, Refused, IsPlain, IsGroupAnswer, IsGroupGivenUp, AreGroupAnswers, is_refused, plain_of, answered_by, part_of, parts, cache_asks, cache_answers, after_parts, run_after, groups_after}
use Rattle.patch_group.specs.Asks as group
use Rattle.patch_plans.specs.Order.{AreGroupsOf}
use Rattle.patch_group.specs.Runs.{group_answer_of}
use Rattle.patch_group.specs.declared.asks.GroupAnswer.{GroupAnswer as CodeAnswer}
use Rattle.patch_script.specs.declared.answers.Answer.{Answer as LineAnswer}
use Rattle.patch_replay.specs.Answering.{IsAskAnswered, HasComeTo, line_answer}
use Rattle.patch_replay.specs.World.{World, written, after}
use Rattle.patch_replay.specs.CachedDisk.{IsAt, IsServed}
use Rattle.patch_replay.specs.declared.cached_disk.CachedDisk.{CachedDisk}
use Rattle.patch_replay.proofs.Imaging.{StatesExtend, ImagesStay, images_after}

-- the device has the cache's blocks
pub counted : (core : CachedDisk) (w : World) → IsAt core w → block_count_of core.device ≡ length w.run.first
counted core w at = sym (blocks_counted_law core.device tt) ∙ ap length at.disk ∙ at.images.count

abbrev plain : CacheAnswer → Answer
plain a = Plain a

-- the groups are those of the execution's patches
pub grouped : (core : CachedDisk) (w : World) → IsAt core w → AreGroupsOf w.run core.groups
grouped core w at = subst (AreGroupsOf w.run) (sym at.groups) at.groups_are

-- the answer of an ask that was served is right
served_right : (run : Execution) (gs : Groups) (ask : Ask) (a : Answer) → IsServed a → IsGroupAnswer run gs ask a ⊎ IsGroupGivenUp run gs ask a → IsGroupAnswer run gs ask a
served_right run gs ask a served (inl right) = right
served_right run gs (Plain ask) (Plain a) served (inr up) = elim up.gives_up [ inl e ↦ absurd (served.cache_memory (ap plain e.0)) | inr e ↦ absurd (served.fault a refl e.0) ]
served_right run gs (Plain ask) (GroupMade group) served (inr up) = absurd up
served_right run gs (Plain ask) Done served (inr up) = absurd up
served_right run gs (Plain ask) (Count count) served (inr up) = absurd up
served_right run gs (Plain ask) (Refused cause) served (inr up) = absurd up
served_right run gs (Patch writer block start bytes after undo) a served (inr up) = absurd (served.cache_memory up)
served_right run gs Group a served (inr up) = absurd (served.memory up.0)
served_right run gs (Engage writer group) a served (inr up) = absurd (served.memory up.0)
served_right run gs (Disengage writer group) a served (inr up) = absurd up
served_right run gs (Depend group on) a served (inr up) = absurd (served.memory up.0)
served_right run gs (Close group) a served (inr up) = absurd up
served_right run gs (Pending group) a served (inr up) = absurd up

either : {A : Type 0} (b : Bool) (x : A) → (if b then x else x) ≡ x
either true x = refl
either false x = refl

-- what an ask of the cache has made of the disk
disk_is : (run : Execution) (disk : List (List ℕ)) (ask : CacheAsk) (a : CacheAnswer) (old new : List (List ℕ)) → old ≡ disk → (cache.IsFault a → ⊥) → HasWritten run ask a old new
    → new ≡ (if cache.is_refused a then disk else written run disk ask)
disk_is run disk (Create block start bytes after undo) a old new is fault wrote = wrote ∙ is ∙ sym (either (cache.is_refused a) disk)
disk_is run disk (Merge x y) a old new is fault wrote = wrote ∙ is ∙ sym (either (cache.is_refused a) disk)
disk_is run disk (Send block) a old new is fault wrote = wrote ∙ is ∙ sym (either (cache.is_refused a) disk)
disk_is run disk (View block moves start len) a old new is fault wrote = wrote ∙ is ∙ sym (either (cache.is_refused a) disk)
disk_is run disk (Complete block) a old new is fault wrote = by (cache.is_refused a) wrote
  where
    by : (b : Bool) → (elim b as (λ _. Type 0) [
      | true ↦ (new ≡ old) ⊎ (cache.IsFault a × (new ≡ slice_set old block (image (history_of run block))))
      | false ↦ new ≡ slice_set old block (image (history_of run block))
    ]) → new ≡ (if b then disk else slice_set disk block (image (history_of run block)))
    by true (inl same) = same ∙ is
    by true (inr e) = absurd (fault e.0)
    by false put = put ∙ ap (λ d. slice_set d block (image (history_of run block))) is

-- What the cache did of an ask, with what it wrote.

abbrev parts_by : Option CacheAsk → Answer → List Part
parts_by p a = elim p as (λ _. List Part) [ Some ask ↦ answered_by ask a | None ↦ [] ]

abbrev IsRightFor : Execution → Option CacheAsk → Answer → Type 0 → Type 0
IsRightFor run p a call = elim p as (λ _. Type 0) [ Some ask ↦ IsPlain (IsAnswer run ask) a | None ↦ call ]

abbrev disk_by : Execution → List (List ℕ) → Option CacheAsk → Answer → List (List ℕ)
disk_by run disk p a = if is_refused a then disk else elim p as (λ _. List (List ℕ)) [ Some ask ↦ written run disk ask | None ↦ disk ]

disk_of_parts : (run : Execution) (disk : List (List ℕ)) (p : Option CacheAsk) (a : Answer) (call : Type 0) (old new : List (List ℕ)) → old ≡ disk → IsServed a → IsRightFor run p a call
    → HaveWritten run (cache_asks (parts_by p a)) (cache_answers (parts_by p a)) old new → new ≡ disk_by run disk p a
disk_of_parts run disk None a call old new is served right wrote = wrote ∙ is ∙ sym (either (is_refused a) disk)
disk_of_parts run disk (Some ask) (Plain a) call old new is served right wrote =
    wrote.2 ∙ disk_is run disk ask a old wrote.0 is (λ e. served.fault a refl e) wrote.1
disk_of_parts run disk (Some ask) (GroupMade group) call old new is served right wrote = absurd right
disk_of_parts run disk (Some ask) Done call old new is served right wrote = absurd right
disk_of_parts run disk (Some ask) (Count count) call old new is served right wrote = absurd right
disk_of_parts run disk (Some ask) (Refused cause) call old new is served right wrote = absurd right

images_of_parts : StatesExtend → ImagesStay → (run : Execution) (disk : List (List ℕ)) (p : Option CacheAsk) (a : Answer) (call : Type 0) → IsRightFor run p a call → HoldImages run disk
    → HoldImages (after_parts run (parts_by p a)) (disk_by run disk p a)
images_of_parts extend stay run disk None a call right held = subst (HoldImages run) (sym (either (is_refused a) disk)) held
images_of_parts extend stay run disk (Some ask) (Plain a) call right held = images_after extend stay run disk ask a held
images_of_parts extend stay run disk (Some ask) (GroupMade group) call right held = absurd right
images_of_parts extend stay run disk (Some ask) Done call right held = absurd right
images_of_parts extend stay run disk (Some ask) (Count count) call right held = absurd right
images_of_parts extend stay run disk (Some ask) (Refused cause) call right held = absurd right

-- what one ask was answered, and where it left the cache, its groups and their disk
pub record HasServed (w : World) (gs : Groups) (core now : CachedDisk) (ask : Ask) (a : Answer) : Type 0 where
  pub right : IsGroupAnswer w.run gs ask a ⊎ IsGroupGivenUp w.run gs ask a
  pub runs : Runs now.cache now.flights (run_after w.run gs ask a)
  pub groups : now.groups ≡ groups_after gs ask a
  pub groups_are : AreGroupsOf (run_after w.run gs ask a) now.groups
  pub wrote : HaveWritten w.run (cache_asks (part_of gs ask a)) (cache_answers (part_of gs ask a)) (contents_of core.device) (contents_of now.device)

comes : StatesExtend → ImagesStay → (w : World) (core now : CachedDisk) (ask : Ask) (a : Answer) (line : LineAnswer) → IsAt core w → line ≡ line_answer a → IsServed a
    → HasServed w w.groups core now ask a → HasComeTo (IsAskAnswered w ask line) (IsAt now)
comes extend stay w core now ask a line at is served ran =
    let right = served_right w.run w.groups ask a served ran.right in (
      after w ask a,
      record { answered = a; right = right; is = is; next_is = refl },
      record {
        runs = ran.runs;
        groups = ran.groups;
        groups_are = subst (AreGroupsOf (run_after w.run w.groups ask a)) ran.groups ran.groups_are;
        disk = disk_of_parts w.run w.disk (plain_of w.groups ask) a _ (contents_of core.device) (contents_of now.device) at.disk served right ran.wrote;
        images = images_of_parts extend stay w.run w.disk (plain_of w.groups ask) a _ right at.images;
      },
    )

comes_if_served : StatesExtend → ImagesStay → (w : World) (core now : CachedDisk) (ask : Ask) (a : Answer) (line : Result LineAnswer OutOfMemory) → IsAt core w
    → IfOk line (λ l. l ≡ line_answer a) → IfOk line (λ _. IsServed a)
    → HasServed w w.groups core now ask a → IfOk line (λ l. HasComeTo (IsAskAnswered w ask l) (IsAt now))
comes_if_served extend stay w core now ask a (Ok line) at is served ran = comes extend stay w core now ask a line at is served ran
comes_if_served extend stay w core now ask a (Err e) at is served ran = tt

-- the ask that the groups answered, and what the line is answered, unless there is no memory
pub asked_one : StatesExtend → ImagesStay → (w : World) (core now : CachedDisk) (ask : Ask) (a : Answer) (line : Result LineAnswer OutOfMemory)
    → IsAt core w → IfOk line (λ l. l ≡ line_answer a) → IfOk line (λ _. IsServed a) → HasServed w core.groups core now ask a
    → IfOk line (λ l. HasComeTo (IsAskAnswered w ask l) (IsAt now))
asked_one extend stay w core now ask a line at is served ran =
    comes_if_served extend stay w core now ask a line at is served (subst (λ gs. HasServed w gs core now ask a) at.groups ran)
