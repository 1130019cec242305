-- The data that the object of a line stands for.
use Rattle.std.specs.Prelude.{ℕ, List, [], ◌∷◌}
use Rattle.serde_json.specs.Data.{Data, boolean, number, unsigned, string, array, object, Items, no_items, item, Members, no_members, put}
use Rattle.serde_json.specs.View.{view}
use Rattle.patch_script.specs.declared.objects.Plain.{Plain}
use Rattle.patch_script.specs.declared.objects.Plain.TheVariants.{Text, Whole, Flag, Wholes}
use Rattle.patch_script.specs.declared.objects.Member.{Member}
use Rattle.patch_script.specs.declared.objects.Held.{Held}
use Rattle.patch_script.specs.declared.objects.Held.TheVariants as held
use Rattle.patch_script.specs.declared.objects.Object.{Object}
use Rattle.patch_script.specs.declared.objects.Entry.{Entry}
use Rattle.patch_script.specs.declared.objects.Entry.TheVariants as entry

abbrev pub numbers_data : List ℕ → Items
numbers_data [] = no_items
numbers_data (n ∷ ns) = item (number (unsigned n)) (numbers_data ns)

abbrev pub plain_data : Plain → Data
plain_data (Text text) = string text.now
plain_data (Whole n) = number (unsigned n)
plain_data (Flag b) = boolean b
plain_data (Wholes numbers) = array (numbers_data numbers.items)

-- the members go in one after another, so the last value of a name stays
abbrev pub puts : List Member → Members → Members
puts [] found = found
puts (m ∷ ms) found = puts ms (put m.name.now (plain_data m.value) found)

abbrev pub row_data : List Member → Data
row_data row = object (puts row no_members)

abbrev pub held_data : Held → Data
held_data (held.Row members) = row_data members.items
held_data (held.Tree value) = view value.now

abbrev pub entry_data : Entry → Data
entry_data (entry.Plain plain) = plain_data plain.now
entry_data (entry.Tree value) = view value.now

-- what the object of a line is
abbrev pub object_data : Object → Data
object_data o = held_data o.held
