-- A script of several writers, each served on a thread of its own.
use Rattle.std.specs.Prelude.{ℕ, ◌≡◌, ◌==◌, ◌++◌, ◌∷◌, [], List, Option, MatchOption, IfSome, length, map, filter, filter_map, flat_map, sum_by}
use Rattle.std.specs.List.{range_with_len}
use Rattle.std.specs.Io.KnownBytes.{Appends}
use Rattle.patch_device.specs.SameDevice.{IsLasting}
use Rattle.patch_device.specs.declared.devices.Device.{Ghosts}
use Rattle.patch_history.specs.Command.{Command, Reply}
use Rattle.patch_store.specs.Flushing.{HoldCached}
use Rattle.patch_shared.specs.Books.{Book, IsKept, run_of}
use Rattle.patch_shared.specs.Conversations.{AreTold, IsSettled}
use Rattle.patch_commands.specs.Asking.{command_on}
use Rattle.patch_commands.specs.Reply.{reply_line}
use Rattle.patch_commands.specs.Shared.{writer_of, shared_commands}
use Rattle.patch_commands.specs.declared.commands.CommandLine.{CommandLine}
use Rattle.patch_disks.specs.declared.endings.Status.{Status}
use Rattle.patch_disks.specs.declared.endings.Status.TheVariants.{Done}
use Rattle.patch_disks.specs.Reading.{HasLinesBy}

-- the commands of one writer, in the order of its lines
abbrev pub commands_by : ℕ → List CommandLine → List Command
commands_by n lines = filter_map command_on (filter (λ line. writer_of line == n) lines)

-- those of each of so many writers
abbrev pub jobs_by : ℕ → List CommandLine → List (List Command)
jobs_by writers lines = map (λ n. commands_by n lines) (range_with_len 0 writers)

-- so many writers have the commands of these lines: with one line more they have those of all of them
abbrev pub GainsLine : CommandLine → List (List Command) → List (List Command) → Type 0
GainsLine line old new =
    (lines : List CommandLine) → old ≡ jobs_by (length old) lines → new ≡ jobs_by (length old) (lines ++ line ∷ [])

-- a line for each of a writer's replies
abbrev pub replies_text : List Reply → List ℕ
replies_text replies = flat_map reply_line replies

-- the lines of all writers: those of the first, then those of the second, and so on
abbrev pub all_text : List (List Reply) → List ℕ
all_text replies = flat_map replies_text replies

-- Done: a book of one store, opened on the first contents, is one legal history. Of each writer it has just the commands of its lines, in
-- their order, each with its reply, and no other call. The replies were written, writer by writer. In the end no patch was left in memory
-- or in flight, and the device's blocks are the cached ones.
pub record HasServed (writers : ℕ) (lines : List CommandLine) (old new : Option (List ℕ)) (contents contents_now : List (List ℕ)) : Type 0 where
  pub book : Book
  pub opening_is : book.opening ≡ contents
  pub kept : IsKept book
  pub replies : List (List Reply)
  pub told : AreTold book.calls (jobs_by writers lines) replies
  pub no_others : length book.calls ≡ sum_by length replies
  pub written : Appends old new (all_text replies)
  pub settled : IsSettled (run_of book)
  pub disk : HoldCached (run_of book) contents_now

-- what was read had such lines, where it is known
abbrev pub HasServedScript : (writers : ℕ) (input old new : Option (List ℕ)) (contents contents_now : List (List ℕ)) → Type 0
HasServedScript writers input old new contents contents_now =
    IfSome input (λ text. (lines : List CommandLine) × HasLinesBy (shared_commands writers) text lines
    × HasServed writers lines old new contents contents_now)

-- a device was opened of which a cut left just what it held, and the writers of the lines were served on it; all of that lasts
abbrev pub HasServedOnOne : {D : Type 0} → Ghosts D → (writers : ℕ) → List CommandLine → (old new : Option (List ℕ)) → Type 0
HasServedOnOne {D = D} g writers lines old new =
    (first : D) × (now : D) × IsLasting g first × IsLasting g now × HasServed writers lines old new (g.contents first) (g.contents now)

-- what was read had such lines, where it is known
abbrev pub HasServedScriptOnOne : {D : Type 0} → Ghosts D → (writers : ℕ) → (input old new : Option (List ℕ)) → Type 0
HasServedScriptOnOne g writers input old new =
    IfSome input (λ text. (lines : List CommandLine) × HasLinesBy (shared_commands writers) text lines × HasServedOnOne g writers lines old new)

-- where all was done, the writers of the script were served, and the device comes back
abbrev pub ServesOn : {D : Type 0} → Ghosts D → Status → (device : D) → (back : Option D) → (writers : ℕ) → (input old new : Option (List ℕ)) → Type 0
ServesOn g status device back writers input old new =
    status ≡ Done → MatchOption back ⊥ (λ now. HasServedScript writers input old new (g.contents device) (g.contents now))
