-- A store that is opened.
use Rattle.std.specs.Prelude.{ℕ, Bool, ◌≡◌, ◌<◌, ◌+◌, ◌≤◌, ◌&&◌, not, nat_le, nat_lt, List, [], ◌∷◌, Option, Ok, Err, Result}
use Rattle.std.specs.Prelude.{None, Vec, MatchResult, MatchOption, length, map, find, replicate, slice_range, flat_map}
use Rattle.std.specs.List.{range_with_len}
use Rattle.patch_model.specs.Execution.{Execution}
use Rattle.patch_cache.specs.Contents.{Contents}
use Rattle.patch_cache.specs.Meaning.{IsCacheOf}
use Rattle.patch_frame.specs.declared.framing.TheConstants.{MIN_FRAME}
use Rattle.patch_frame.specs.declared.geometries.Geometry.{Geometry}
use Rattle.patch_frame.specs.Field.{outcome}
use Rattle.patch_frame.specs.Geometry.{IsGeometry, block_count, slot_count, largest_pointer}
use Rattle.patch_frame.specs.Slot.{SlotFields}
use Rattle.patch_frame.specs.Superblock.{superblock_at}
use Rattle.patch_recovery.specs.Ledger.{Ledger, bytes_at, names_frame}
use Rattle.patch_recovery.specs.Reading.{Fault, BadPointer, BadSlot, BadFrame, reading, ledger_in, bad_pointers, slot_tests, block_on}
use Rattle.patch_plans.specs.Extents.{Extents, offset_at}
use Rattle.patch_plans.specs.Meaning.{AreExtentsOf}
use Rattle.patch_history.specs.declared.refusals.OpenFault.{OpenFault}
use Rattle.patch_history.specs.History.{History}
use Rattle.patch_history.specs.Refusals.{fault_of}
use Rattle.patch_history.specs.Shelf.{Shelf}
use Rattle.patch_index.specs.declared.entries.Entry.{Entry}
use Rattle.patch_index.specs.Index.{told}
use Rattle.patch_store.specs.declared.opening.Disk.{Disk}
use Rattle.patch_store.specs.Meaning.{Store, IsStoreOf}

-- the execution of no steps over these blocks
abbrev pub unchanged : List (List ℕ) → Execution
unchanged blocks = record { first = blocks; steps = [] }

-- the history of no events over blocks that are read so
abbrev pub at_opening : List (List ℕ) → Ledger → History
at_opening blocks l = record { opening = blocks; first = l; events = [] }

-- the blocks are read, and the store represents the history of no events over them
pub record IsOpened (blocks : List (List ℕ)) (store : Store) : Type 0 where
  pub ledger : Ledger
  pub reads : reading blocks ≡ Ok ledger
  pub represents : IsStoreOf store (at_opening blocks ledger)

-- or the fault is that of the first test that refuses them, unless there was no memory
abbrev pub IsFaultOf : List (List ℕ) → OpenFault → Type 0
IsFaultOf blocks fault = MatchOption (fault_of fault) (Unit {0}) (λ first. reading blocks ≡ Err first)

abbrev pub Opens : List (List ℕ) → Result Store (Contents × OpenFault) → Type 0
Opens blocks result = MatchResult result (IsOpened blocks) (λ refused. IsFaultOf blocks refused.1)

-- The store has just the cache that was given, and a refusal gives it back.
abbrev pub KeepsCache : Contents → Result Store (Contents × OpenFault) → Type 0
KeepsCache cache result = MatchResult result (λ store. store.cache ≡ cache) (λ refused. refused.0 ≡ cache)

-- The parts of a disk, and the tests of each.

abbrev pub nothing : Unit {0}
nothing = tt

-- none of the tests holds
abbrev pub NoneHolds : List (Bool × Fault) → Type 0
NoneHolds tests = outcome tests nothing ≡ Ok nothing

-- the fault is that of the first one that holds, unless there was no memory
abbrev pub IsFirstOf : List (Bool × Fault) → OpenFault → Type 0
IsFirstOf tests fault = MatchOption (fault_of fault) (Unit {0}) (λ first. outcome tests nothing ≡ Err first)

-- some bytes of a block
abbrev pub IsSpan : List (List ℕ) → (block start len : ℕ) → List ℕ → Type 0
IsSpan blocks block start len bytes = bytes ≡ slice_range (block_on blocks block) start (start + len)

-- the superblock says so, and there are as many blocks
pub record IsDivided (blocks : List (List ℕ)) (g : Geometry) : Type 0 where
  pub super : superblock_at (block_on blocks 0) ≡ Ok g
  pub count : length blocks ≡ block_count g

-- the test of the pointer block
abbrev pub pointer_tests : Geometry → List (List ℕ) → List (Bool × Fault)
pointer_tests g blocks = (bad_pointers g blocks, BadPointer) ∷ []

-- the tests of all slots
abbrev pub index_tests : Geometry → List (List ℕ) → List (Bool × Fault)
index_tests g blocks = flat_map (slot_tests (ledger_in g blocks) blocks) (range_with_len 0 (slot_count g))

-- the first two tests of a used slot: its extent, and the frame that it names
abbrev pub frame_tests : Ledger → ℕ → SlotFields → List (Bool × Fault)
frame_tests l slot f = (not (nat_lt f.extent l.geometry.extents), BadSlot slot) ∷ (not (names_frame l f), BadFrame slot) ∷ []

-- the bytes at the place that a slot names, which lies where it may
pub record IsPlaced (l : Ledger) (f : SlotFields) (bytes : List ℕ) : Type 0 where
  pub known : f.extent < l.geometry.extents
  pub generation : (l.pointer f.extent).generation ≡ f.generation
  pub within : f.offset + f.length ≤ (l.pointer f.extent).offset
  pub inside : f.offset + f.length ≤ largest_pointer l.geometry.format
  pub bytes_are : bytes ≡ bytes_at l f.extent f.offset f.length

-- a slot that was read
pub record IsScanned (l : Ledger) (blocks : List (List ℕ)) (slot : ℕ) (says : Option SlotFields) : Type 0 where
  pub passes : NoneHolds (slot_tests l blocks slot)
  pub says_is : says ≡ l.slot slot

-- so many first slots that were
pub record AreScanned (l : Ledger) (blocks : List (List ℕ)) (slots : List (Option SlotFields)) (count : ℕ) : Type 0 where
  pub pass : (s : ℕ) → s < count → NoneHolds (slot_tests l blocks s)
  pub say : slots ≡ map l.slot (range_with_len 0 count)

-- What is read of a disk, or which test refuses it. No patch of it was made yet.

-- what a cache and its extents give, over all blocks that they stand for
abbrev pub Reads : Contents → Extents → (List (List ℕ) → Type 0) → Type 0
Reads cache extents says =
    (blocks : List (List ℕ)) → IsCacheOf cache (unchanged blocks) → AreExtentsOf extents (unchanged blocks) → says blocks

-- all slots
abbrev pub ReadsSlots : Geometry → Result (List (Option SlotFields)) OpenFault → List (List ℕ) → Type 0
ReadsSlots g result blocks = MatchResult result
    (λ slots. AreScanned (ledger_in g blocks) blocks slots (slot_count g)) (IsFirstOf (index_tests g blocks))

-- one slot, where the lower ones say this
abbrev pub ReadsSlot : Geometry → (lower : List (Option SlotFields)) (slot : ℕ) → Result (Option Entry) OpenFault → List (List ℕ)
    → Type 0
ReadsSlot g lower slot result blocks =
    lower ≡ map (ledger_in g blocks).slot (range_with_len 0 slot) → MatchResult result
    (λ entry. IsScanned (ledger_in g blocks) blocks slot (told entry)) (IsFirstOf (slot_tests (ledger_in g blocks) blocks slot))

-- the frame that a used slot names
abbrev pub ReadsFrame : {X : Type 0} → Geometry → (slot : ℕ) → SlotFields → Result X OpenFault → List (List ℕ) → Type 0
ReadsFrame g slot f result blocks = MatchResult result
    (λ _. NoneHolds (frame_tests (ledger_in g blocks) slot f)) (IsFirstOf (frame_tests (ledger_in g blocks) slot f))

-- the bytes at its place
abbrev pub ReadsPlace : {A : Type 0} → Geometry → (slot : ℕ) → SlotFields → Result (Vec ℕ A) OpenFault → List (List ℕ) → Type 0
ReadsPlace g slot f result blocks = MatchResult result
    (λ bytes. IsPlaced (ledger_in g blocks) f bytes.items) (IsFirstOf (frame_tests (ledger_in g blocks) slot f))

-- the extent is begun, and has room for the shortest frame
abbrev pub is_open : Extents → ℕ → Bool
is_open s e = nat_le 1 (offset_at s e) && nat_le (offset_at s e + MIN_FRAME) (largest_pointer s.geometry.format)

-- each part has its size
pub record IsWholeDisk {A : Type 0} (d : Disk A) : Type 0 where
  pub divided : d.extents.geometry ≡ d.geometry
  pub valid : IsGeometry d.geometry
  pub slots : length d.index ≡ slot_count d.geometry
  pub left : map (λ v. v.items) d.left.items ≡ replicate d.geometry.extents []

-- the blocks are read, with these extents and slots
pub record IsDiskOf {A : Type 0} (blocks : List (List ℕ)) (d : Disk A) : Type 0 where
  pub reads : reading blocks ≡ Ok (ledger_in d.geometry blocks)
  pub extents_are : AreExtentsOf d.extents (unchanged blocks)
  pub slots_are : d.index ≡ map (ledger_in d.geometry blocks).slot (range_with_len 0 (slot_count d.geometry))

-- what is kept of it beside the cache
abbrev pub shelf_of : {A : Type 0} → Disk A → Shelf
shelf_of d = record {
  extents = d.extents;
  slots = d.index;
  current = find (is_open d.extents) (range_with_len 0 d.geometry.extents);
  last_delete = None;
  upgrade = None;
  left = map (λ v. v.items) d.left.items;
}
