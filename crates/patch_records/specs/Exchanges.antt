-- Bytes of a class that are exchanged with the block's.
use Rattle.std.specs.Prelude.{ℕ, Bool, true, false, ◌+◌, List, [], ◌++◌, length, take, drop, slice_range, if◌then◌else◌}
use Rattle.patch_records.specs.declared.classes.Turn.{Turn}
use Rattle.patch_records.specs.declared.classes.Turn.TheVariants.{Take, PutBack}
use Rattle.patch_records.specs.Records.{Class, is_takeable}

-- the bytes with the class's saved bytes laid on them
abbrev pub laid_on : Class → List ℕ → List ℕ
laid_on c bytes = take c.start bytes ++ c.saved ++ drop (c.start + length c.saved) bytes

-- whether a class is taken after the turn
abbrev pub leaves_taken : Turn → Bool
leaves_taken Take = true
leaves_taken PutBack = false

-- the class with the bytes that were there
abbrev pub exchanged_with : Class → List ℕ → Turn → Class
exchanged_with c bytes turn = record c { saved = slice_range bytes c.start (c.start + length c.saved); taken = leaves_taken turn }

-- a class that has the patch's own bytes, with those in place of them on which the patch is laid; a hard one has none
abbrev pub covering : Class → List ℕ → List ℕ → Class
covering c block bytes = record c { saved = if c.hard then [] else slice_range block c.start (c.start + length bytes) }

-- the bytes without the class, where it may be taken and isn't
abbrev pub uncovered : Class → List ℕ → List ℕ
uncovered c bytes = if is_takeable c then laid_on c bytes else bytes

-- the bytes with others laid on them
abbrev pub laid_over : ℕ → List ℕ → List ℕ → List ℕ
laid_over place over bytes = take place bytes ++ over ++ drop (place + length over) bytes
