-- What answers mean, in words, and a text in a buffer.
use Rattle.std.specs.Ordering.{int_eq}
use Rattle.std.specs.Prelude.{ℕ, ℤ, negsuc, ◌+◌, ◌++◌, min, List, [], ◌∷◌, length, take, drop, find, codes, Some, None}
use Rattle.patch_model.specs.declared.refusals.RefusalKind.{RefusalKind}
use Rattle.patch_model.specs.declared.refusals.RefusalKind.TheVariants as kind
use Rattle.patch_handles.specs.declared.answers.Answer.TheVariants.{Done, Refused, BufferTooSmall, Absent, NoSync, BadWriter, IsResident}
use Rattle.patch_handles.specs.declared.answers.TheConstants.{NOT_OPEN, IS_OPEN}
use Rattle.patch_handles.specs.Answering.{number_of}

-- the number of a refusal
abbrev pub refusal : RefusalKind → ℤ
refusal why = number_of (Refused why)

-- the file is that of another store, which C alone answers
abbrev pub in_use : ℤ
in_use = negsuc 5

-- the store was opened to be read alone, which C alone answers
abbrev pub is_read_only : ℤ
is_read_only = negsuc 8

-- the numbers that a store answers, each with what it means
abbrev pub texts : List (ℤ × List ℕ)
texts =
    (number_of Done, codes "done")
    ∷ (refusal kind.OutOfMemory, codes "out of memory")
    ∷ (refusal kind.Disk, codes "the file can't be opened, made, read or written")
    ∷ (refusal kind.FileSize, codes "not as many blocks as there may be")
    ∷ (refusal kind.NumbersSpent, codes "all numbers of changes are spent: open it again")
    ∷ (refusal kind.TooManyLive, codes "too many changes are in memory: sync")
    ∷ (refusal kind.NoSuchGroup, codes "there is no such group")
    ∷ (refusal kind.SameGroup, codes "a group can't go after itself")
    ∷ (refusal kind.Started, codes "the group was engaged before")
    ∷ (refusal kind.Sealed, codes "a group goes after this one")
    ∷ (refusal kind.Engaged, codes "the group is engaged")
    ∷ (refusal kind.NotEngaged, codes "the writer hasn't engaged the group")
    ∷ (refusal kind.TooManyGroups, codes "too many groups were made")
    ∷ (refusal kind.NoSuchExtent, codes "there is no such extent")
    ∷ (refusal kind.GenerationSpent, codes "the extent was won back too often")
    ∷ (refusal kind.KeyLength, codes "a key has 1 to 32 bytes")
    ∷ (refusal kind.ValueLength, codes "the value is too long")
    ∷ (refusal kind.NoKey, codes "the key has no value")
    ∷ (refusal kind.IndexFull, codes "there are as many keys as there can be")
    ∷ (refusal kind.NoSpace, codes "no extent has room")
    ∷ (refusal kind.OpenExtent, codes "the extent is in use")
    ∷ (refusal kind.EmptyExtent, codes "the extent is empty")
    ∷ (refusal kind.Geometry, codes "no store is divided like this")
    ∷ (refusal kind.BadSuper, codes "no store: its first block is wrong")
    ∷ (refusal kind.BadPointer, codes "no store: a pointer of an extent is wrong")
    ∷ (refusal kind.BadSlot, codes "no store: a slot is wrong")
    ∷ (refusal kind.BadFrame, codes "no store: a slot names no value")
    ∷ (refusal kind.DuplicateKey, codes "no store: two slots have one key")
    ∷ (refusal kind.DeviceGaveUp, codes "the file refused a write")
    ∷ (NOT_OPEN, codes "it isn't open")
    ∷ (IS_OPEN, codes "it is open")
    ∷ (number_of BufferTooSmall, codes "the buffer is too small")
    ∷ (number_of Absent, codes "there is no such entry")
    ∷ (in_use, codes "the file is in use")
    ∷ (number_of NoSync, codes "not synced: close the store and open it again")
    ∷ (number_of BadWriter, codes "there is no such writer")
    ∷ (is_read_only, codes "the store was opened to be read")
    ∷ []

-- and those that caches alone answer
abbrev pub cache_texts : List (ℤ × List ℕ)
cache_texts =
    (refusal kind.NoSuchBlock, codes "there is no such block")
    ∷ (refusal kind.Unknown, codes "no patch has this number")
    ∷ (refusal kind.Durable, codes "the patch is durable")
    ∷ (refusal kind.InFlight, codes "the patch is in flight")
    ∷ (refusal kind.Hard, codes "the patch is hard: it isn't taken back")
    ∷ (refusal kind.AlreadyTaken, codes "the patch is taken already")
    ∷ (refusal kind.DependentApplied, codes "a patch that depends on it isn't taken")
    ∷ (refusal kind.EmptyPatch, codes "a patch has 1 to 4,096 bytes")
    ∷ (refusal kind.OutOfBlock, codes "it passes the end of the block")
    ∷ (refusal kind.UnknownDependency, codes "it goes after a patch that isn't made")
    ∷ (refusal kind.NotInMemory, codes "the patch isn't in memory")
    ∷ (refusal kind.Same, codes "the two are one class")
    ∷ (refusal kind.OtherBlock, codes "the two are of different blocks")
    ∷ (refusal kind.Apart, codes "the two neither overlap nor touch")
    ∷ (refusal kind.WouldCycle, codes "a class between the two isn't theirs")
    ∷ (refusal kind.AlreadyInFlight, codes "a write of the block is under way")
    ∷ (refusal kind.NothingReady, codes "nothing is ready")
    ∷ (refusal kind.Stranger, codes "no such write is under way")
    ∷ (refusal kind.Live, codes "a patch is live, or a group is open")
    ∷ (refusal kind.NotResident, codes "the block isn't resident")
    ∷ (number_of IsResident, codes "the block is resident")
    ∷ []

-- what an answer of this number means by these texts
abbrev pub text_in : List (ℤ × List ℕ) → ℤ → (otherwise : List ℕ) → List ℕ
text_in those answer otherwise = elim (find (λ text. int_eq text.0 answer) those) [ Some text ↦ text.1 | None ↦ otherwise ]

abbrev pub cache_text_of : ℤ → List ℕ
cache_text_of answer = text_in cache_texts answer (codes "unknown answer")

-- what an answer of this number means
abbrev pub text_of : ℤ → List ℕ
text_of answer = text_in texts answer (cache_text_of answer)

-- so many bytes of the text, a zero byte, and what stood behind
abbrev pub with_first : (count : ℕ) → (text into : List ℕ) → List ℕ
with_first count text into = take count text ++ 0 ∷ drop (count + 1) into

-- as many as fit
abbrev pub with_text : (text into : List ℕ) → List ℕ
with_text text [] = []
with_text text (byte ∷ into) = with_first (min (length text) (length into)) text (byte ∷ into)
