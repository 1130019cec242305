-- Where the numbers of a class stand: in its record, or in memory of their own.
use Rattle.std.specs.Prelude.{[], ◌-◌, length, min, vec_capacity}
use Rattle.patch_records.specs.Lists.{Lists}
use Rattle.patch_records.specs.declared.lists.Shape.{Shape}
use Rattle.patch_records.specs.declared.lists.Shape.TheVariants.{Nothing, Alone, One, Two, Three, Many}

abbrev pub lists_view : {A : Type 0} → Shape A → Lists
lists_view Nothing = record { members = []; after = []; spare = 0 }
lists_view (Alone ms) = record { members = ms; after = []; spare = 0 }
lists_view (One ms ns) = record { members = ms; after = ns; spare = 0 }
lists_view (Two ms ns) = record { members = ms; after = ns; spare = 0 }
lists_view (Three ms ns) = record { members = ms; after = ns; spare = 0 }
lists_view (Many b) = record {
  members = b.value.members.items;
  after = b.value.after.items;
  spare = min (vec_capacity b.value.members - length b.value.members.items) (vec_capacity b.value.after - length b.value.after.items);
}
