-- What a line of a script is answered, and the world after it.
use Rattle.std.specs.Prelude.{ℕ, ◌≡◌, List, [], ◌∷◌, length, slice_index_or, Option, Some, None}
use Rattle.patch_model.specs.declared.refusals.Refusal.{Refusal}
use Rattle.patch_model.specs.Execution.{followed_by}
use Rattle.patch_model.specs.History.{history_of, cached}
use Rattle.patch_model.specs.Refusing.{why_not_shown}
use Rattle.patch_model.specs.Step.{Step}
use Rattle.patch_cache.specs.Asks.{Merge, Send, Complete, View}
use Rattle.patch_cache.specs.Asks as cache
use Rattle.patch_cache.specs.Viewing.{bytes_at}
use Rattle.patch_cache.specs.Waves.{HoldImages}
use Rattle.patch_plans.specs.Groups.{patches_of, why_not_counted}
use Rattle.patch_group.specs.Asks.{Ask, Plain, Patch, Group, Engage, Disengage, Depend, Close, Pending, IsGroupAnswer}
use Rattle.patch_group.specs.Asks as group
use Rattle.patch_group.specs.Syncing.{IsSynced}
use Rattle.patch_script.specs.declared.answers.Answer.{Answer}
use Rattle.patch_script.specs.declared.answers.Answer.TheVariants.{Made, Merged, Sent, Landed, Seen, Shown, OnDisk, GroupMade, Done, Count, Synced, Refused}
use Rattle.patch_script.specs.declared.forms.Line.{Line}
use Rattle.patch_script.specs.declared.forms.Line.TheVariants as line
use Rattle.patch_script.specs.declared.forms.Span.{Span}
use Rattle.patch_replay.specs.World.{World, moves_of, after}

-- a line's answer, of the cache's: of what is sent, the patches alone
abbrev pub of_cache : cache.Answer → Answer
of_cache (cache.Made number) = Made number
of_cache (cache.Merged name) = Merged name
of_cache (cache.Sent block numbers image) = Sent block numbers
of_cache (cache.Landed block numbers) = Landed block numbers
of_cache (cache.Seen without cached) = Seen without cached
of_cache (cache.Refused refusal) = Refused refusal

-- and of that of the cache with its groups
abbrev pub line_answer : group.Answer → Answer
line_answer (group.Plain answer) = of_cache answer
line_answer (group.GroupMade group) = GroupMade group
line_answer group.Done = Done
line_answer (group.Count count) = Count count
line_answer (group.Refused refusal) = Refused refusal

-- the answer, unless there is a cause to refuse it
abbrev pub answer_unless : Option Refusal → Answer → Answer
answer_unless None answer = answer
answer_unless (Some refusal) answer = Refused refusal

-- the bytes of a span
abbrev pub bytes_in : List ℕ → Span → List ℕ
bytes_in bytes span = bytes_at bytes span.start span.len

-- why a span isn't shown
abbrev pub why_no_span : World → Span → Option Refusal
why_no_span w span = why_not_shown (length w.run.first) span.block span.start span.len

-- a line that only looks is answered so, and leaves the world as it is
abbrev pub IsLook : World → Answer → Answer → World → Type 0
IsLook w shown answer next = (answer ≡ shown) × (next ≡ w)

-- the line is answered what the definitions answer to its ask
pub record IsAskAnswered (w : World) (ask : Ask) (answer : Answer) (next : World) : Type 0 where
  pub answered : group.Answer
  pub right : IsGroupAnswer w.run w.groups ask answered
  pub is : answer ≡ line_answer answered
  pub next_is : next ≡ after w ask answered

-- the patches of the group were brought to the disk, and each block there holds its image, since no write is under way
pub record IsAfterSync (w : World) (group : ℕ) (next : World) : Type 0 where
  pub steps : List Step
  pub synced : IsSynced (patches_of w.groups group) w.run steps
  pub run_is : next.run ≡ followed_by w.run steps
  pub groups_are : next.groups ≡ w.groups
  pub images : HoldImages next.run next.disk

-- a sync is refused where there is no such group
abbrev pub IsSyncAnswered : World → ℕ → Answer → World → Type 0
IsSyncAnswered w group answer next = elim (why_not_counted w.groups group) [
  | Some refusal ↦ (answer ≡ Refused refusal) × (next ≡ w)
  | None ↦ (answer ≡ Synced) × IsAfterSync w group next
]

-- What the definitions answer to a line, and the world after it.
unfoldable pub IsAnswered : World → Line → Answer → World → Type 0
IsAnswered w (line.Patch block start bytes named undo writer) answer next = IsAskAnswered w (Patch writer block start bytes named undo) answer next
IsAnswered w (line.Merge a b) answer next = IsAskAnswered w (Plain (Merge a b)) answer next
IsAnswered w (line.Send block) answer next = IsAskAnswered w (Plain (Send block)) answer next
IsAnswered w (line.Complete block) answer next = IsAskAnswered w (Plain (Complete block)) answer next
IsAnswered w (line.View take back span) answer next = IsAskAnswered w (Plain (View span.block (moves_of take back) span.start span.len)) answer next
IsAnswered w (line.Show span) answer next = IsLook w (answer_unless (why_no_span w span) (Shown (bytes_in (cached (history_of w.run span.block)) span))) answer next
IsAnswered w (line.Disk span) answer next = IsLook w (answer_unless (why_no_span w span) (OnDisk (bytes_in (slice_index_or w.disk span.block []) span))) answer next
IsAnswered w line.Group answer next = IsAskAnswered w Group answer next
IsAnswered w (line.Engage writer group) answer next = IsAskAnswered w (Engage writer group) answer next
IsAnswered w (line.Disengage writer group) answer next = IsAskAnswered w (Disengage writer group) answer next
IsAnswered w (line.Depend group on) answer next = IsAskAnswered w (Depend group on) answer next
IsAnswered w (line.Close group) answer next = IsAskAnswered w (Close group) answer next
IsAnswered w (line.Pending group) answer next = IsAskAnswered w (Pending group) answer next
IsAnswered w (line.Sync group) answer next = IsSyncAnswered w group answer next

-- each line is answered right after the lines before it, and this is the world after them all
abbrev pub AreAnswers : World → List Line → List Answer → World → Type 0
AreAnswers w [] [] last = last ≡ w
AreAnswers w [] (answer ∷ answers) last = ⊥
AreAnswers w (line ∷ lines) [] last = ⊥
AreAnswers w (line ∷ lines) (answer ∷ answers) last = (next : World) × IsAnswered w line answer next × AreAnswers next lines answers last

-- the core has come to such a world
abbrev pub HasComeTo : (IsNext IsAt : World → Type 0) → Type 0
HasComeTo IsNext IsAt = (next : World) × IsNext next × IsAt next
