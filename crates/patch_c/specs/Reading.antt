-- What is copied out of a store: values, and entries of what it is checked to hold.
use Rattle.std.specs.Prelude.{ℕ, ℤ, pos, ◌≡◌, ◌⊎◌, List, length, slice_get, count_by, Option, Some, None, MatchOption}
use Rattle.patch_model.specs.declared.refusals.Refusal.{Refusal}
use Rattle.patch_model.specs.declared.refusals.RefusalKind.TheVariants.{NoSuchExtent}
use Rattle.patch_model.specs.Entry.{is_live}
use Rattle.patch_model.specs.State.{entries_of as entries_of_run}
use Rattle.patch_recovery.specs.Ledger.{value_in}
use Rattle.patch_history.specs.History.{History, standing_of, execution_of}
use Rattle.patch_history.specs.Refusing.{why_no_key}
use Rattle.patch_index.specs.Keys.{IsNext, NoneFrom, IsPrevious, NoneBelow}
use Rattle.patch_store.specs.Checking.{entries_of, extent_reports}
use Rattle.patch_store.specs.declared.reports.ExtentReport.{ExtentReport}
use Rattle.patch_handles.specs.declared.answers.Answer.TheVariants as answer
use Rattle.patch_handles.specs.Answering.{number_of}
use Rattle.patch_handles.specs.Copying.{copied, answer_copying}

-- A get: its number, its buffer and the length. It tells the value of the key, or that it has none; or why it can't be a key.
abbrev pub value_told : Option (List ℕ) → (into : List ℕ) (len : ℕ) → ℤ × List ℕ × ℕ
value_told None into len = (number_of answer.Absent, into, len)
value_told (Some value) into len = (number_of (answer_copying value into), copied value into, length value)

abbrev pub get_told : Option Refusal → Option (List ℕ) → (into : List ℕ) (len : ℕ) → ℤ × List ℕ × ℕ
get_told None found into len = value_told found into len
get_told (Some refusal) found into len = (number_of (answer.Refused refusal.kind), into, len)

-- the value is that which the commands of the history have left; or the key may be one, and there was no memory
abbrev pub HasGot : History → (key : List ℕ) → (into : List ℕ) (len : ℕ) → (told : ℤ × List ℕ × ℕ) → Type 0
HasGot h key into len told =
    (told ≡ get_told (why_no_key key) (value_in (standing_of h).map.entries key) into len)
    ⊎ ((why_no_key key ≡ None) × (told ≡ (pos 1, into, len)))

-- one of them, if there is one of this number: the answer's number, the buffer with the key, and both lengths
abbrev pub entry_told : Option (List ℕ × ℕ) → (into : List ℕ) (len value_len : ℕ) → ℤ × List ℕ × ℕ × ℕ
entry_told None into len value_len = (number_of answer.Absent, into, len, value_len)
entry_told (Some entry) into len value_len = (number_of (answer_copying entry.0 into), copied entry.0 into, length entry.0, entry.1)

abbrev pub HasListed : History → (number : ℕ) → (into : List ℕ) (len value_len : ℕ) → (told : ℤ × List ℕ × ℕ × ℕ) → Type 0
HasListed h number into len value_len told = told ≡ entry_told (slice_get (entries_of h) number) into len value_len

-- the least key from this one on
abbrev pub IsNextOf : History → (from : List ℕ) → Option (List ℕ × ℕ) → Type 0
IsNextOf h from found = MatchOption found (NoneFrom (entries_of h) from) (IsNext (entries_of h) from)

-- the greatest key below this one, or of all
abbrev pub IsPreviousOf : History → (before : Option (List ℕ)) → Option (List ℕ × ℕ) → Type 0
IsPreviousOf h before found = MatchOption found (NoneBelow (entries_of h) before) (IsPrevious (entries_of h) before)

-- the entry that such a key has is told, if there is one
abbrev pub HasFound : (Option (List ℕ × ℕ) → Type 0) → (into : List ℕ) (len value_len : ℕ) → (told : ℤ × List ℕ × ℕ × ℕ) → Type 0
HasFound IsFound into len value_len told = (found : Option (List ℕ × ℕ)) × IsFound found × (told ≡ entry_told found into len value_len)

-- an extent, if there is one of this number: how many bytes of it are live, and how many are filled
abbrev pub extent_told : Option ExtentReport → (live filled : ℕ) → ℤ × ℕ × ℕ
extent_told None live filled = (number_of (answer.Refused NoSuchExtent), live, filled)
extent_told (Some report) live filled = (pos 0, report.live, report.pointer)

abbrev pub HasMeasured : History → (extent : ℕ) → (live filled : ℕ) → (told : ℤ × ℕ × ℕ) → Type 0
HasMeasured h extent live filled told = told ≡ extent_told (slice_get (extent_reports (standing_of h).shelf) extent) live filled

-- how many patches haven't reached the file
abbrev pub unsynced : History → ℕ
unsynced h = count_by is_live (entries_of_run (execution_of h))

-- how many they are, and how many extents there are
abbrev pub counts_told : History → ℤ × ℕ × ℕ
counts_told h = (pos 0, length (entries_of h), (standing_of h).shelf.extents.geometry.extents)

abbrev pub HasCounted : History → (entries extents : ℕ) → (told : ℤ × ℕ × ℕ) → Type 0
HasCounted h entries extents told = (told ≡ counts_told h) ⊎ (told ≡ (pos 1, entries, extents))
