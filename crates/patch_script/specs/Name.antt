-- The names in a line's object.
use Rattle.std.specs.Prelude.{ℕ, List, codes}
use Rattle.patch_script.specs.declared.defects.Name.{Name}
use Rattle.patch_script.specs.declared.defects.Name.TheVariants.{Op, Block, Start, Len, Hex, After, Drop, Writer, A, B, Take, Back, Group, On, Key, Times, Extent}

abbrev pub name_of : Name → List ℕ
name_of Op = codes "op"
name_of Block = codes "block"
name_of Start = codes "start"
name_of Len = codes "len"
name_of Hex = codes "hex"
name_of After = codes "after"
name_of Drop = codes "drop"
name_of Writer = codes "writer"
name_of A = codes "a"
name_of B = codes "b"
name_of Take = codes "take"
name_of Back = codes "back"
name_of Group = codes "group"
name_of On = codes "on"
name_of Key = codes "key"
name_of Times = codes "times"
name_of Extent = codes "extent"
