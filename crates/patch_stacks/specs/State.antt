-- One block's bytes with the records of its live classes, and what becomes of them.
use Rattle.std.specs.Prelude.{ℕ, Bool, true, false, ◌≡◌, ◌<◌, ◌≤◌, Some, None, ◌+◌, ◌&&◌, ◌||◌, not, nat_lt, List, [], ◌∷◌, ◌++◌, ◌⊎◌, length, take, drop, slice_range, slice_index_or, slice_set, ◌-◌, Option, position, zero, suc, map, filter, if◌then◌else◌}
use Rattle.std.specs.List.{remove, insert}
use Rattle.patch_model.specs.Entry.{is_among}
use Rattle.patch_records.specs.declared.classes.Turn.{Turn}
use Rattle.patch_stacks.specs.declared.places.Places.{Places}
use Rattle.patch_stacks.specs.declared.members.Members.{Members}
use Rattle.patch_records.specs.declared.classes.Turn.TheVariants.{Take, PutBack}
use Rattle.patch_records.specs.Records.{Class, no_class, is_takeable, names, meets, outline_of, departed, departed_among, MayHaveDeparted}
use Rattle.patch_records.specs.Exchanges.{laid_on, exchanged_with}
use Rattle.patch_records.specs.Merged.{Drawn, IsDrawn}

pub record Block : Type 0 where
  pub bytes : List ℕ
  pub classes : List Class

-- these bytes with no record yet
abbrev pub unlaid : List ℕ → Block
unlaid bytes = record { bytes = bytes; classes = [] }

-- each class that passes a test stands at one of these places
abbrev pub StandWithin : (Class → Bool) → Places → List Class → Type 0
StandWithin q p cs = (i : ℕ) → q (slice_index_or cs i no_class) ≡ true → (p.from ≤ i) × (i < p.to)

-- each class that is taken does so
abbrev pub TakenWithin : Places → List Class → Type 0
TakenWithin p cs = StandWithin (λ c. c.taken) p cs

-- and each that is in flight
abbrev pub FlyingWithin : Places → List Class → Type 0
FlyingWithin p cs = StandWithin (λ c. c.flying) p cs

-- the classes at these places are in flight, each of them
abbrev pub AllFlyAt : Places → List Class → Type 0
AllFlyAt p cs = (i : ℕ) → p.from ≤ i → i < p.to → (slice_index_or cs i no_class).flying ≡ true

-- no number is a member of two classes, and none is above the newest
pub record AreApart (newest : ℕ) (cs : List Class) : Type 0 where
  pub upto : (i n : ℕ) → is_among (slice_index_or cs i no_class).members n ≡ true → n ≤ newest
  pub once : (i j n : ℕ) → is_among (slice_index_or cs i no_class).members n ≡ true → is_among (slice_index_or cs j no_class).members n ≡ true → i ≡ j

-- a member below the number is the name of its class
abbrev pub AreNamesBelow : ℕ → List Class → Type 0
AreNamesBelow limit cs = (i n : ℕ) → is_among (slice_index_or cs i no_class).members n ≡ true → n < limit → (slice_index_or cs i no_class).name ≡ n

-- the names rise with the places, and none is above the newest
pub record AreRising (newest : ℕ) (cs : List Class) : Type 0 where
  pub upto : (i : ℕ) → i < length cs → (slice_index_or cs i no_class).name ≤ newest
  pub rising : (i j : ℕ) → i < j → j < length cs → (slice_index_or cs i no_class).name < (slice_index_or cs j no_class).name

-- the first and the last of these are so, where that is known, and of the members that is known which are below a number
abbrev pub KnownApart : Members → List Class → Type 0
KnownApart m cs = (m.are_apart ≡ true → AreApart m.newest cs) × AreNamesBelow m.others_from cs × (m.are_rising ≡ true → AreRising m.newest cs)

abbrev pub class_at : Block → ℕ → Class
class_at b at = slice_index_or b.classes at no_class

-- the class at the place i depends directly on that at the place j, which stands below it
abbrev pub follows : Block → ℕ → ℕ → Bool
follows b i j = nat_lt j i && (meets (class_at b i) (class_at b j) || names (class_at b i) (class_at b j))

abbrev pub place_of : Block → ℕ → Option ℕ
place_of b number = position (λ c. is_among c.members number) b.classes

-- What keeps the class at a place from being taken: the one at the place k depends directly on it and isn't taken. And from
-- being put back: it depends directly on the one at the place k, which is taken.
abbrev pub hinders : Turn → Block → ℕ → ℕ → Bool
hinders Take b at k = not (class_at b k).taken && follows b k at
hinders PutBack b at k = (class_at b k).taken && follows b at k

-- each class that keeps it so stands at one of these places
abbrev pub HinderWithin : Turn → Block → ℕ → Places → Type 0
HinderWithin turn b at p = (k : ℕ) → hinders turn b at k ≡ true → (p.from ≤ k) × (k < p.to)

-- among the first n places, the least name of a class at one that passes
abbrev pub IsLeastBelow : (ℕ → Bool) → Block → ℕ → Option ℕ → Type 0
IsLeastBelow p b n None = (k : ℕ) → k < n → p k ≡ false
IsLeastBelow p b n (Some m) =
    ((k : ℕ) × (k < n) × (p k ≡ true) × ((class_at b k).name ≡ m)) × ((k : ℕ) → k < n → p k ≡ true → m ≤ (class_at b k).name)

abbrev pub IsLeast : (ℕ → Bool) → Block → Option ℕ → Type 0
IsLeast p b o = IsLeastBelow p b (length b.classes) o

-- the block with one class exchanged
abbrev pub exchanged_at : Block → ℕ → Turn → Block
exchanged_at b at turn = record { bytes = laid_on (class_at b at) b.bytes; classes = slice_set b.classes at (exchanged_with (class_at b at) b.bytes turn) }

-- with the first n classes put back, the lowest place first
abbrev pub restored_to : ℕ → Block → Block
restored_to zero b = b
restored_to (suc n) b = let r = restored_to n b in if (class_at r n).taken then exchanged_at r n PutBack else r

-- with each of the last n classes taken that may be, the highest place first
abbrev pub swept_to : ℕ → Block → Block
swept_to zero b = b
swept_to (suc n) b =
    let r = swept_to n b in
    let at = length b.classes - suc n in
    if is_takeable (class_at r at) then exchanged_at r at Take else r

abbrev pub outline : Block → List Class
outline b = map outline_of b.classes

-- a new class that names these
abbrev pub new_class : Block → ℕ → ℕ → List ℕ → List ℕ → Bool → Class
new_class b number start bytes after hard = record {
  name = number;
  members = number ∷ [];
  start = start;
  stop = start + length bytes;
  saved = if hard then [] else slice_range b.bytes start (start + length bytes);
  after = after;
  flying = false;
  hard = hard;
  taken = false;
  room = 0;
}

-- the block with one more class, which names these
abbrev pub with_laid : Block → ℕ → ℕ → List ℕ → List ℕ → Bool → Block
with_laid b number start bytes after hard = record {
  bytes = take start b.bytes ++ bytes ++ drop (start + length bytes) b.bytes;
  classes = b.classes ++ new_class b number start bytes after hard ∷ [];
}

-- no class of the block has a member below the number
abbrev pub HasNoneBelow : Block → ℕ → Type 0
HasNoneBelow b lowest = (i n : ℕ) → is_among (class_at b i).members n ≡ true → lowest ≤ n

-- numbers of a list, and among them each that is a member of one of the block's classes
pub record KeepsNames (b : Block) (after kept : List ℕ) : Type 0 where
  pub from : (n : ℕ) → is_among kept n ≡ true → is_among after n ≡ true
  pub live : (i n : ℕ) → is_among (class_at b i).members n ≡ true → is_among after n ≡ true → is_among kept n ≡ true

-- the block has one more class, which names such of these as are live in the block, and perhaps more of them
pub record IsLaid (old : Block) (number start : ℕ) (bytes after : List ℕ) (hard : Bool) (new : Block) : Type 0 where
  pub all : List ℕ
  pub names : KeepsNames old after all
  pub is : new ≡ with_laid old number start bytes all hard

abbrev pub departed_at : Block → ℕ → Block
departed_at b at = record b { classes = slice_set b.classes at (departed (class_at b at)) }

abbrev pub landed_at : Block → ℕ → Block
landed_at b at = record b { classes = remove b.classes at }

-- the block with the class of this patch in flight; as it is, where it has none
abbrev pub with_one_departed : Block → ℕ → Block
with_one_departed b number = elim (place_of b number) [ Some at ↦ departed_at b at | None ↦ b ]

-- the block without the class of this patch; as it is, where it has none
abbrev pub with_one_landed : Block → ℕ → Block
with_one_landed b number = elim (place_of b number) [ Some at ↦ landed_at b at | None ↦ b ]

-- the class at this place has this name, and no other
pub record IsOnlyNamed (b : Block) (name at : ℕ) : Type 0 where
  pub within : at < length b.classes
  pub named : (class_at b at).name ≡ name
  pub only : (i : ℕ) → i < length b.classes → (class_at b i).name ≡ name → i ≡ at

-- the block with these classes in flight
abbrev pub with_departed : Block → List ℕ → Block
with_departed b numbers = record b { classes = map (departed_among numbers) b.classes }

-- the block with each class as it was, or in flight; that only where one of the numbers is its name
pub record HasDeparted (numbers : List ℕ) (old new : Block) : Type 0 where
  pub bytes : new.bytes ≡ old.bytes
  pub long : length new.classes ≡ length old.classes
  pub each : (i : ℕ) → MayHaveDeparted numbers (class_at old i) (class_at new i)

-- Classes of these names depart, all of them if that is answered; those that are left may depart afterwards.
pub record AreDeparting (names : List ℕ) (old : Block) (all : Bool) (new : Block) : Type 0 where
  pub done : all ≡ true → new ≡ with_departed old names
  pub left : with_departed new names ≡ with_departed old names
  pub named : HasDeparted names old new

-- the block without the classes in flight
abbrev pub with_landed : Block → Block
with_landed b = record b { classes = filter (λ c. not c.flying) b.classes }

-- a record of the classes at two places as one
pub record Joint : Type 0 where
  pub low : ℕ
  pub high : ℕ
  pub drawn : Option Drawn

-- the joint is that of the classes at these places
abbrev pub IsJointAt : Block → ℕ → ℕ → Joint → Type 0
IsJointAt b low high joint = (joint.low ≡ low) × (joint.high ≡ high) × IsDrawn (class_at b low) (class_at b high) joint.drawn

-- The joint is that of the classes of two patches, which stand at two places, in either order. There is none where they
-- aren't two classes of the block: one of them has no place, or both have the same.
abbrev pub IsJoint : Block → ℕ → ℕ → Option Joint → Type 0
IsJoint b x y None = (i j : ℕ) → place_of b x ≡ Some i → place_of b y ≡ Some j → i ≡ j
IsJoint b x y (Some joint) = (joint.low < joint.high)
    × (((place_of b x ≡ Some joint.low) × (place_of b y ≡ Some joint.high)) ⊎ ((place_of b x ≡ Some joint.high) × (place_of b y ≡ Some joint.low)))
    × IsDrawn (class_at b joint.low) (class_at b joint.high) joint.drawn

-- the class at k moved down to the place front
abbrev pub moved_down : Block → ℕ → ℕ → Block
moved_down b front k = record b { classes = insert (remove b.classes k) front (class_at b k) }

-- up to this place, at most up to high, no class from k on depends directly on one from front up to k; the one there does if it is k
pub record IsRunEnd (b : Block) (front k high stop : ℕ) : Type 0 where
  pub least : k ≤ stop
  pub upto : stop ≤ high
  pub free : (j m : ℕ) → k ≤ j → j < stop → front ≤ m → m < k → follows b j m ≡ false
  pub met : stop ≡ k → (m : ℕ) × (front ≤ m) × (m < k) × (follows b k m ≡ true)

-- the elements from the place k on, so many, moved down to the place front one after the other
unfoldable pub run_down : {X : Type 0} → X → List X → ℕ → ℕ → ℕ → List X
run_down d xs front k zero = xs
run_down d xs front k (suc m) = insert (remove (run_down d xs front k m) (k + m)) (front + m) (slice_index_or (run_down d xs front k m) (k + m) d)

-- the classes from k on, so many, moved down so
abbrev pub run_moved_down : Block → ℕ → ℕ → ℕ → Block
run_moved_down b front k m = record b { classes = run_down no_class b.classes front k m }

-- the class c in place of the two
abbrev pub settled_at : Block → ℕ → ℕ → Class → Block
settled_at b low high c = record b { classes = remove (slice_set b.classes low c) high }

-- the block has the two places of a joint, one below the other
abbrev pub has_places : Block → Option Joint → Bool
has_places b None = false
has_places b (Some joint) = nat_lt joint.low joint.high && nat_lt joint.high (length b.classes)
