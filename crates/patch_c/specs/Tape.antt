-- A device that keeps the writes and barriers of a sync.
use Rattle.std.specs.Prelude.{ℕ, ℤ, ◌≡◌, ◌≤◌, List, Bool, true, false, IsTrue, length, Option, Some, None}
use Rattle.patch_device.specs.Blocks.{AreWhole}
use Rattle.patch_device.specs.Device.{most_faults}
use Rattle.patch_handles.specs.declared.answers.Answer.TheVariants as answer
use Rattle.patch_c.specs.declared.tape.Tape.{Tape}
use Rattle.patch_handles.specs.Answering.{number_of}
use Rattle.patch_device.specs.Cuts.{Event, cached_behind, written_behind, left_behind, all_land_behind}
use Rattle.patch_handles.specs.Copying.{copied, answer_copying}

-- how many blocks its file has
abbrev pub block_count_of : Tape → ℕ
block_count_of tape = tape.count

-- how often there was no memory for an event, or it was spent
abbrev pub fault_count_of : Tape → ℕ
fault_count_of tape = tape.faults

-- a barrier was refused
abbrev pub IsSpent : Tape → Type 0
IsSpent tape = IsTrue tape.spent

-- the events that it keeps, the first of them first: a write as a block's number and its bytes, and a barrier
abbrev pub events_of : Tape → List Event
events_of tape = tape.events.items

-- what its file holds before the first of them
abbrev pub file_of : Tape → List (List ℕ)
file_of tape = tape.file.blocks

-- and what it holds once they are done, which is what the tape holds as a device
abbrev pub contents_of : Tape → List (List ℕ)
contents_of tape = written_behind (file_of tape) (events_of tape)

-- the writes behind the last barrier
abbrev pub loose_of : Tape → List (ℕ × List ℕ)
loose_of tape = (cached_behind (file_of tape) (events_of tape)).loose

-- each event begins a moment
abbrev pub moment_of : Tape → ℕ
moment_of tape = length (events_of tape)

-- what a cut may leave of the file behind so many of the events: what was there at the last barrier among them lasts, and of the writes
-- behind it any may have landed
abbrev pub left_at_of : Tape → ℕ → List (List ℕ) → Type 0
left_at_of tape = left_behind (file_of tape) (events_of tape)

pub blocks_counted_law : (tape : Tape) → Unit {0} → length (contents_of tape) ≡ block_count_of tape
blocks_counted_law tape _ = tape.counted

pub blocks_whole_law : (tape : Tape) → Unit {0} → AreWhole (contents_of tape)
blocks_whole_law tape _ = tape.whole

pub all_may_land_law : (tape : Tape) → Unit {0} → left_at_of tape (moment_of tape) (contents_of tape)
all_may_land_law tape _ = all_land_behind (file_of tape) (events_of tape)

pub faults_fit_law : (tape : Tape) → fault_count_of tape ≤ most_faults
faults_fit_law tape = tape.faults_fit

-- one of the events, if there is one of this number: the answer's number, whether it is a barrier, the block's number, and the buffer with
-- the block's bytes
abbrev pub event_told : Option Event → (is_barrier : Bool) (block : ℕ) (into : List ℕ) → ℤ × Bool × ℕ × List ℕ
event_told None is_barrier block into = (number_of answer.Absent, is_barrier, block, into)
event_told (Some None) is_barrier block into = (number_of answer.Done, true, block, into)
event_told (Some (Some write)) is_barrier block into = (number_of (answer_copying write.1 into), false, write.0, copied write.1 into)
