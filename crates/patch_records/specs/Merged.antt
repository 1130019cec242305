-- Two classes as one.
use Rattle.std.specs.Prelude.{ℕ, Bool, true, false, ◌≡◌, ◌+◌, ◌-◌, ◌==◌, ◌&&◌, ◌||◌, nat_le, Option, Some, None, List, ◌++◌, length, replicate, min, max, if◌then◌else◌, IsPermutation}
use Rattle.patch_model.specs.Entry.{is_among}
use Rattle.patch_numbers.specs.Rising.{follow_on}
use Rattle.patch_records.specs.Records.{Class}
use Rattle.patch_records.specs.Exchanges.{laid_over}

-- two classes as one, with these members, which name these, and with room for so many more: on the bytes that they share, what
-- the lower one saved
abbrev pub merged : Class → Class → List ℕ → List ℕ → ℕ → Class
merged low high members after room = record {
  name = min low.name high.name;
  members = members;
  start = min low.start high.start;
  stop = max low.stop high.stop;
  saved = laid_over (low.start - min low.start high.start) low.saved
      (laid_over (high.start - min low.start high.start) high.saved (replicate (max low.stop high.stop - min low.start high.start) 0));
  after = after;
  flying = false;
  hard = false;
  taken = false;
  room = room;
}

-- the class is the two as one
pub record IsMerged (low high c : Class) : Type 0 where
  pub members : IsPermutation (low.members ++ high.members) c.members
  pub after : IsPermutation (low.after ++ high.after) c.after
  pub is : c ≡ merged low high c.members c.after c.room

-- a class has no other members than those of two others, and the lesser of their names
pub record IsUnion (c low high : Class) : Type 0 where
  pub named : c.name ≡ min low.name high.name
  pub members : (n : ℕ) → is_among c.members n ≡ true → (is_among low.members n || is_among high.members n) ≡ true

-- the class has room for the members and the names of a higher one, behind its own
abbrev pub has_room_for : Class → Class → Bool
has_room_for low high =
    nat_le (length high.members) low.room && nat_le (length high.after) low.room
    && follow_on low.members high.members && follow_on low.after high.after

-- the class with the lists of another, and the room there
abbrev pub with_lists : Class → Class → Class
with_lists c other = record c { members = other.members; after = other.after; room = other.room }

-- the class with the members and the names of a higher one behind its own
abbrev pub with_lists_of : Class → Class → Class
with_lists_of low high = record low {
  members = low.members ++ high.members;
  after = low.after ++ high.after;
  room = low.room - max (length high.members) (length high.after);
}

-- the bytes of a higher class are all among those that the lower one saved
abbrev pub is_around : Class → Class → Bool
is_around low high = nat_le low.start high.start && nat_le high.stop low.stop && low.start + length low.saved == low.stop

-- the class with a higher one taken in, whose bytes are among those that it saved
abbrev pub with_all_of : Class → Class → Class
with_all_of low high = record (with_lists_of low high) { name = min low.name high.name; flying = false; hard = false; taken = false }

-- A record that was drawn up of two classes. A growing one has no lists of its own: the lower class's take in the higher one's.
pub record Drawn : Type 0 where
  pub class : Class
  pub growing : Bool

-- the lower class's lists take in the higher one's, as they do too where no record was drawn up
abbrev pub is_growing : Option Drawn → Bool
is_growing (Some drawn) = drawn.growing
is_growing None = true

-- the class that it is in the place of the two
abbrev pub in_its_place : Class → Class → Option Drawn → Class
in_its_place low high (Some drawn) = if drawn.growing then with_lists drawn.class (with_lists_of low high) else drawn.class
in_its_place low high None = with_all_of low high

-- it was drawn up of these
pub record IsDrawn (low high : Class) (drawn : Option Drawn) : Type 0 where
  pub room : is_growing drawn ≡ true → has_room_for low high ≡ true
  pub is : IsMerged low high (in_its_place low high drawn)
