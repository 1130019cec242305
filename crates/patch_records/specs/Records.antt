-- A live class of a block, as the block keeps it.
use Rattle.std.specs.Prelude.{ℕ, Bool, true, false, ◌≡◌, ◌+◌, ◌&&◌, not, nat_le, nat_lt, List, [], ◌∷◌, ◌⊎◌, length, if◌then◌else◌}
use Rattle.std.specs.List.{list_any}
use Rattle.patch_model.specs.Entry.{is_among}

-- a live class: its name and members, its span, the bytes that the block would have there in the other state, the numbers
-- that its members name, of those that were live in the block, whether it is in flight, whether it is hard, whether it is taken back, and how many more members and
-- names it can take in without memory
pub record Class : Type 0 where
  pub name : ℕ
  pub members : List ℕ
  pub start : ℕ
  pub stop : ℕ
  pub saved : List ℕ
  pub after : List ℕ
  pub flying : Bool
  pub hard : Bool
  pub taken : Bool
  pub room : ℕ

abbrev pub no_class : Class
no_class = record { name = 0; members = []; start = 0; stop = 0; saved = []; after = []; flying = false; hard = false; taken = false; room = 0 }

abbrev pub spans : Class → ℕ → Bool
spans c x = nat_le c.start x && nat_lt x c.stop

abbrev pub may_be_taken : Class → Bool
may_be_taken c = not c.flying && not c.hard

-- some member of the class c names some member of the class d
abbrev pub names : Class → Class → Bool
names c d = list_any (λ n. is_among d.members n) c.after

-- the two spans have a common byte
abbrev pub meets : Class → Class → Bool
meets c d = nat_lt c.start d.stop && nat_lt d.start c.stop

-- the class may be taken and isn't
abbrev pub is_takeable : Class → Bool
is_takeable c = may_be_taken c && not c.taken

-- what a view leaves of a record as it is: all but the saved bytes, and that the class is taken
abbrev pub outline_of : Class → Class
outline_of c = record c { saved = []; taken = false }

-- a new class that names these, with the patch's own bytes in place of those that it saves
abbrev pub unlaid_class : ℕ → ℕ → List ℕ → List ℕ → Bool → Class
unlaid_class number start bytes after hard = record {
  name = number;
  members = number ∷ [];
  start = start;
  stop = start + length bytes;
  saved = if hard then [] else bytes;
  after = after;
  flying = false;
  hard = hard;
  taken = false;
  room = 0;
}

abbrev pub departed : Class → Class
departed c = record c { flying = true; saved = [] }

-- the class in flight where one of the numbers is its name
abbrev pub departed_among : List ℕ → Class → Class
departed_among numbers c = if is_among numbers c.name then departed c else c

-- the class as it was, or in flight; that only where one of the numbers is its name
abbrev pub MayHaveDeparted : List ℕ → Class → Class → Type 0
MayHaveDeparted numbers old new = (new ≡ old) ⊎ ((is_among numbers old.name ≡ true) × (new ≡ departed old))

-- the class saved a byte from one place up to another
abbrev pub saves_any : Class → ℕ → ℕ → Bool
saves_any c start stop = nat_lt c.start stop && nat_lt start (c.start + length c.saved)

-- where the bytes end that the class saved
abbrev pub saved_end : Class → ℕ
saved_end c = c.start + length c.saved
