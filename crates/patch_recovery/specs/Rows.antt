-- Small disks, whole and damaged.
use Rattle.std.specs.Prelude.{ℕ, ◌-◌, List, [], ◌∷◌, ◌++◌, length, map, replicate, slice_index_or, slice_set, Result}
use Rattle.std.specs.List.{range_with_len}
use Rattle.std.specs.Result.{result_map_both}
use Rattle.patch_frame.specs.declared.geometries.Format.TheVariants.{One, Two}
use Rattle.patch_frame.specs.declared.geometries.Geometry.{Geometry}
use Rattle.patch_frame.specs.declared.pointers.Pointer.{Pointer}
use Rattle.patch_frame.specs.Geometry.{block_count}
use Rattle.patch_frame.specs.Superblock.{spelling}
use Rattle.patch_frame.specs.Slot as slots
use Rattle.patch_frame.specs.Pointer as pointers
use Rattle.patch_frame.specs.Frame as frames
use Rattle.patch_recovery.specs.Reading.{Fault, reading}

-- a block of zeros
abbrev pub zero_block : List ℕ
zero_block = replicate 4096 0

-- a block of bytes that no format has
abbrev pub noise_block : List ℕ
noise_block = replicate 4096 0xff

-- one index block and two extents
abbrev pub small : Geometry
small = record { index = 1; extents = 2; format = One }

-- the same in version 2, with extents of 16 blocks
abbrev pub wide : Geometry
wide = record { index = 1; extents = 2; format = Two 16 }

-- a disk on which nothing was put
abbrev pub new_disk : Geometry → List (List ℕ)
new_disk g = spelling g ∷ replicate (block_count g - 1) zero_block

-- a block with these bytes in front
abbrev pub beginning : List ℕ → List ℕ
beginning bytes = bytes ++ replicate (4096 - length bytes) 0

-- the key k with the value 0102
abbrev pub content_k : frames.Content
content_k = record { key = 0x6b ∷ []; value = 1 ∷ 2 ∷ [] }

-- what its slot says
abbrev pub fields_k : slots.SlotFields
fields_k = record { key = 0x6b ∷ []; extent = 0; generation = 0; offset = 0; length = 19 }

-- a pointer record in generation 0
abbrev pub pointer_to : ℕ → Pointer
pointer_to offset = record { generation = 0; offset = offset }

-- a disk with these bytes in the index, and the frame of the key k at the front of extent 0, with the pointer behind it
abbrev pub disk_with : Geometry → List ℕ → List (List ℕ)
disk_with g index =
    spelling g
    ∷ beginning index
    ∷ beginning (pointers.spelling (pointer_to 19))
    ∷ beginning (frames.spelling content_k)
    ∷ replicate 31 zero_block

-- a disk after one put, of the key k
abbrev pub one_put : List (List ℕ)
one_put = disk_with small (slots.used_spelling fields_k)

-- the same in version 2
abbrev pub one_put_wide : List (List ℕ)
one_put_wide = disk_with wide (slots.used_spelling fields_k)

-- a disk with the slot of that put a second time
abbrev pub twice_put : List (List ℕ)
twice_put = disk_with small (slots.used_spelling fields_k ++ slots.used_spelling fields_k)

-- the blocks with one of them replaced by zeros
abbrev pub zeroed : ℕ → List (List ℕ) → List (List ℕ)
zeroed n blocks = slice_set blocks n zero_block

-- with one of them replaced by noise
abbrev pub spoilt : ℕ → List (List ℕ) → List (List ℕ)
spoilt n blocks = slice_set blocks n noise_block

-- and with two of them exchanged
abbrev pub exchanged : ℕ → ℕ → List (List ℕ) → List (List ℕ)
exchanged a b blocks = slice_set (slice_set blocks a (slice_index_or blocks b [])) b (slice_index_or blocks a [])

-- the pointer records that blocks are read with
abbrev pub pointers_read : List (List ℕ) → Result (List Pointer) Fault
pointers_read blocks =
    result_map_both (λ l. map (λ extent. l.pointer extent) (range_with_len 0 l.geometry.extents)) (λ fault. fault)
    (reading blocks)
