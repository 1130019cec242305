-- The slots as the code keeps them.
use Rattle.std.specs.Prelude.{ℕ, List, Option, take, option_map}
use Rattle.patch_frame.specs.Slot.{SlotFields}
use Rattle.patch_index.specs.declared.entries.Key.{Key}
use Rattle.patch_index.specs.declared.entries.Entry.{Entry}

-- the bytes of a key
abbrev pub key_of : Key → List ℕ
key_of k = take k.length k.bytes

-- what a used slot says
abbrev pub fields_of : Entry → SlotFields
fields_of e = record { key = key_of e.key; extent = e.extent; generation = e.generation; offset = e.offset; length = e.length }

-- and a slot
abbrev pub told : Option Entry → Option SlotFields
told slot = option_map fields_of slot
