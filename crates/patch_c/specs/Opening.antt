-- A store that is opened, and the file of a new one.
use Rattle.std.specs.Prelude.{ℕ, ℤ, ◌≡◌, ◌==◌, ◌+◌, ◌*◌, ◌/◌, ◌++◌, ◌⊎◌, Bool, false, if◌then◌else◌, IsTrue, nat_le, MatchBool, List, [], length, map, drop, slice_range, slice_get, Some, None}
use Rattle.std.specs.List.{range_with_len}
use Rattle.patch_model.specs.declared.blocks.TheConstants.{BLOCK}
use Rattle.patch_model.specs.declared.refusals.Refusal.{Refusal}
use Rattle.patch_model.specs.declared.refusals.RefusalKind.TheVariants as kind
use Rattle.patch_model.specs.Refusing.{bare}
use Rattle.patch_device.specs.Blocks.{FitsFile}
use Rattle.patch_frame.specs.declared.geometries.Format.{Format}
use Rattle.patch_frame.specs.declared.geometries.Format.TheVariants.{One, Two}
use Rattle.patch_frame.specs.declared.geometries.Geometry.{Geometry}
use Rattle.patch_frame.specs.Geometry.{is_geometry}
use Rattle.patch_history.specs.declared.refusals.OpenFault.{OpenFault}
use Rattle.patch_history.specs.Refusals.{open_cause}
use Rattle.patch_store.specs.Making.{new_disk}
use Rattle.patch_store.specs.Opening.{IsOpened, IsFaultOf}
use Rattle.patch_handles.specs.declared.answers.Answer.{Answer}
use Rattle.patch_handles.specs.declared.answers.Answer.TheVariants.{Done, Refused, BufferTooSmall}
use Rattle.patch_c.specs.declared.opened.Opened.{Opened}
use Rattle.patch_c.specs.declared.unopened.Unopened.{Unopened}
use Rattle.patch_handles.specs.Answering.{number_of}
use Rattle.patch_c.specs.Counting.{no_syncs}
use Rattle.patch_c.specs.Tape.{file_of, block_count_of, events_of}

-- a block of so many bytes
abbrev pub block_in : (bytes : List ℕ) → ℕ → List ℕ
block_in bytes n = slice_range bytes (n * BLOCK) (n * BLOCK + BLOCK)

-- and all that are whole
abbrev pub blocks_in : List ℕ → List (List ℕ)
blocks_in bytes = map (block_in bytes) (range_with_len 0 (length bytes / BLOCK))

-- the store of a file's bytes, which was opened and has done nothing since; the file has these blocks
pub record IsFresh (file : ℤ) (barriers manual : Bool) (bytes : List ℕ) (opened : Opened) : Type 0 where
  pub opens : IsOpened (blocks_in bytes) opened.store
  pub no_steps : opened.store.cache.trace ≡ []
  pub whole : length bytes ≡ block_count_of opened.device * BLOCK
  pub holds : file_of opened.device ≡ blocks_in bytes
  pub no_events : events_of opened.device ≡ []
  pub file_is : opened.file ≡ file
  pub barriers_are : opened.barriers ≡ barriers
  pub manual_is : opened.manual ≡ manual
  pub tally_is : opened.tally ≡ no_syncs
  pub unspent : opened.is_spent ≡ false

-- Why a store isn't opened.

-- there was no memory
abbrev pub starved : Unopened
starved = record { refusal = bare kind.OutOfMemory }

-- the bytes are whole blocks, as many as a file may have
pub record IsFile (bytes : List ℕ) : Type 0 where
  pub count : ℕ
  pub whole : length bytes ≡ count * BLOCK
  pub fits : FitsFile count

-- they are not, and that goes before all else
pub record IsNoFile (bytes : List ℕ) (refusal : Refusal) : Type 0 where
  pub refusal_is : refusal ≡ bare kind.FileSize
  pub none : IsFile bytes → ⊥

-- this is the first test that refuses the blocks, or there was no memory
pub record IsTested (blocks : List (List ℕ)) (refusal : Refusal) : Type 0 where
  pub fault : OpenFault
  pub refuses : IsFaultOf blocks fault
  pub refusal_is : refusal ≡ open_cause fault

abbrev pub IsWhyNot : (bytes : List ℕ) → Refusal → Type 0
IsWhyNot bytes refusal = IsNoFile bytes refusal ⊎ (IsFile bytes × IsTested (blocks_in bytes) refusal)

-- the number that goes with a refusal, or what stood there before
abbrev pub number_told : Refusal → ℕ → ℕ
number_told refusal before = elim refusal.number [ Some number ↦ number | None ↦ before ]

-- this is answered, and that number is told
pub record TellsWhyNot (bytes : List ℕ) (number : ℤ) (before now : ℕ) : Type 0 where
  pub refusal : Refusal
  pub why : IsWhyNot bytes refusal
  pub number_is : number ≡ number_of (Refused refusal.kind)
  pub now_is : now ≡ number_told refusal before

-- The file of a new store.

-- with no length of its extents the disk is of version 1
abbrev pub format_for : (extent_blocks : ℕ) → Format
format_for extent_blocks = if extent_blocks == 0 then One else Two extent_blocks

abbrev pub geometry_for : (index extents extent_blocks : ℕ) → Geometry
geometry_for index extents extent_blocks = record { index = index; extents = extents; format = format_for extent_blocks }

-- That is answered just where a disk may not be divided so; else the buffer is too small just where a block doesn't fit it; else it is done,
-- or there was no memory.
abbrev pub AnswersMaking : Geometry → (into : List ℕ) → Answer → Type 0
AnswersMaking g into answer =
    MatchBool (is_geometry g)
    (MatchBool (nat_le BLOCK (length into)) ((answer ≡ Done) ⊎ (answer ≡ Refused kind.OutOfMemory)) (answer ≡ BufferTooSmall))
    (answer ≡ Refused kind.Geometry)

-- the first block of a new disk stands at the front of a buffer, and its blocks are counted
pub record HasMade (g : Geometry) (into into_now : List ℕ) (count : ℕ) : Type 0 where
  pub geometry : IsTrue (is_geometry g)
  pub count_is : count ≡ length (new_disk g)
  pub first : List ℕ
  pub first_is : slice_get (new_disk g) 0 ≡ Some first
  pub copied : into_now ≡ first ++ drop (length first) into
