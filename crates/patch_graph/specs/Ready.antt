-- What a send takes, by marks on the keys of classes.
use Rattle.std.specs.Prelude.{ℕ, if◌then◌else◌, ◌++◌, ◌∷◌, Bool, true, false, ◌≡◌, ◌≢◌, ◌<◌, ◌≤◌, ◌⊎◌, ◌↔◌, ◌&&◌, not, IsTrue, List, [], length, Option, None, Some, slice_index_or}
use Rattle.std.specs.Option.{option_map_or}
use Rattle.patch_model.specs.declared.limits.TheConstants.{MAX_CACHED}
use Rattle.patch_model.specs.Entry.{Entry, is_flight}
use Rattle.patch_model.specs.Member.{In}
use Rattle.patch_model.specs.Ready.{ready}
use Rattle.patch_model.specs.State.{numbers_of}
use Rattle.patch_links.specs.State.{Class, Slots, Numbers, class_at}
use Rattle.patch_links.specs.Ready.{picks, is_met, AreMet, IsWithin, IsStruck, IsLargestMet}
use Rattle.patch_graph.specs.State.{Graph}
use Rattle.patch_graph.specs.Between.{HasNoRing}
use Rattle.patch_graph.specs.Marks.{is_marked, marked_count}
use Rattle.patch_graph.specs.Meaning.{IsGraphOf}

-- these are the numbers that a send of the block takes, rising
abbrev pub AreReady : Graph → ℕ → List ℕ → Type 0
AreReady g block numbers = (all : List Entry) → IsGraphOf g all → HasNoRing all → numbers ≡ numbers_of (ready all block)

-- whether a send of the block takes any patch
abbrev pub TellsReady : Graph → ℕ → Bool → Type 0
TellsReady g block any = (all : List Entry) → IsGraphOf g all → HasNoRing all → IsTrue any ↔ (ready all block ≢ [])

-- a write of the block can begin: something of it is ready, and nothing in flight
pub record IsOpen (all : List Entry) (block : ℕ) : Type 0 where
  pub some : ready all block ≢ []
  pub still : (e : Entry) → In all e → e.patch.block ≡ block → is_flight e ≡ false

-- none can: nothing of it is ready, or something in flight
abbrev pub IsShut : List Entry → ℕ → Type 0
IsShut all block = (ready all block ≡ []) ⊎ ((e : Entry) × In all e × (e.patch.block ≡ block) × (is_flight e ≡ true))

-- the least block from one on of which a write can begin
abbrev pub IsNextOpen : List Entry → ℕ → Option ℕ → Type 0
IsNextOpen all from None = (block : ℕ) → from ≤ block → block < MAX_CACHED → IsShut all block
IsNextOpen all from (Some least) = (from ≤ least) × (least < MAX_CACHED) × IsOpen all least × ((block : ℕ) → from ≤ block → block < least → IsShut all block)

abbrev pub TellsNextOpen : Graph → ℕ → Option ℕ → Type 0
TellsNextOpen g from found = (all : List Entry) → IsGraphOf g all → HasNoRing all → IsNextOpen all from found

-- the keys of the block's classes are among these
abbrev pub HoldsKeys : Slots → ℕ → List ℕ → Type 0
HoldsKeys slots block keys = (key : ℕ) (c : Class) → class_at slots key ≡ Some c → c.block ≡ block → In keys key

-- the keys from the first one on
abbrev pub AreFirstKeys : List ℕ → Type 0
AreFirstKeys keys = (key : ℕ) → key < length keys → slice_index_or keys key 0 ≡ key

abbrev pub KeepsStruck : Slots → Numbers → (ℕ → Bool) → (ℕ → Bool) → Type 0
KeepsStruck slots numbers old new = (start : ℕ → Bool) → IsWithin old start → IsStruck slots numbers start old → IsStruck slots numbers start new

-- what a round of striking out keeps: every set that is met and was inside is still inside
abbrev pub KeepsMet : Slots → Numbers → (ℕ → Bool) → (ℕ → Bool) → Type 0
KeepsMet slots numbers old new = (other : ℕ → Bool) → AreMet slots numbers other → IsWithin other old → IsWithin other new

-- the class at the key is in the set, and something that it depends on isn't
abbrev pub is_unmet : Slots → Numbers → (ℕ → Bool) → ℕ → Bool
is_unmet slots numbers set key = set key && option_map_or (λ c. not (is_met numbers set c)) (class_at slots key) false

-- a round, with its answer whether it struck any out
pub record IsRound (slots : Slots) (numbers : Numbers) (old new : List Bool) (changed : Bool) : Type 0 where
  pub inside : IsWithin (is_marked new) (is_marked old)
  pub keeps : KeepsMet slots numbers (is_marked old) (is_marked new)
  pub struck : KeepsStruck slots numbers (is_marked old) (is_marked new)
  pub long : length new ≡ length old
  pub fewer : changed ≡ true → marked_count new < marked_count old
  pub same : changed ≡ false → new ≡ old
  pub met : changed ≡ false → AreMet slots numbers (is_marked new)

-- the numbers of the class at the key, if it is marked
abbrev pub members_at : Slots → List Bool → ℕ → List ℕ
members_at slots marks key = if is_marked marks key then option_map_or (λ c. c.members) (class_at slots key) [] else []

-- the numbers of the classes that are marked, of these keys
abbrev pub gathered : Slots → List Bool → List ℕ → List ℕ
gathered slots marks [] = []
gathered slots marks (key ∷ keys) = members_at slots marks key ++ gathered slots marks keys

-- the keys that are marked are those of what a send of the block takes
abbrev pub MarksReady : Graph → ℕ → List Bool → Type 0
MarksReady g block marks = IsLargestMet g.slots g.numbers (picks g.slots block) (is_marked marks)
