-- What may be sent of a block.
use Rattle.std.specs.Prelude.{ℕ, Bool, true, false, ◌≡◌, ◌≢◌, ◌<◌, ◌≤◌, ◌⊎◌, ◌&&◌, ◌==◌, List, [], ◌∷◌, ◌++◌, Option, None, Some}
use Rattle.std.specs.List.{list_all, AllByRecursion}
use Rattle.std.specs.Option.{option_map_or}
use Rattle.patch_model.specs.declared.limits.TheConstants.{MAX_CACHED}
use Rattle.patch_model.specs.Entry.{marks_memory, marks_flight, is_among}
use Rattle.patch_links.specs.State.{Class, Nodes, Slots, Numbers, find, class_at, node_at, leads}
use Rattle.patch_model.specs.Member.{In}

-- the class may be sent with the block, if all that it depends on lets it
abbrev pub is_candidate : ℕ → Class → Bool
is_candidate block c = marks_memory c.mark && c.block == block

abbrev pub picks : Slots → ℕ → ℕ → Bool
picks slots block key = option_map_or (is_candidate block) (class_at slots key) false

-- the number is not live, or its class is in the set of keys
abbrev pub is_met_at : Numbers → (ℕ → Bool) → ℕ → Bool
is_met_at numbers set n = option_map_or set (find numbers n) true

abbrev pub is_met : Numbers → (ℕ → Bool) → Class → Bool
is_met numbers set c = list_all (is_met_at numbers set) c.after

-- all that each class of the set depends on is in the set
abbrev pub AreMet : Slots → Numbers → (ℕ → Bool) → Type 0
AreMet slots numbers set = (key : ℕ) (c : Class) → class_at slots key ≡ Some c → set key ≡ true → is_met numbers set c ≡ true

abbrev pub IsWithin : (ℕ → Bool) → (ℕ → Bool) → Type 0
IsWithin set other = (key : ℕ) → set key ≡ true → other key ≡ true

-- a chain of classes leads from the key out of the set
pub data Escapes (slots : Slots) (numbers : Numbers) (start : ℕ → Bool) : ℕ → Type 0 where
  out : {k j : ℕ} (c : Class) → class_at slots k ≡ Some c → leads numbers c j ≡ true → start j ≡ false → Escapes slots numbers start k
  on : {k j : ℕ} (c : Class) → class_at slots k ≡ Some c → leads numbers c j ≡ true → Escapes slots numbers start j → Escapes slots numbers start k

-- what was struck out of a set escapes from it
abbrev pub IsStruck : Slots → Numbers → (ℕ → Bool) → (ℕ → Bool) → Type 0
IsStruck slots numbers start set = (key : ℕ) → start key ≡ true → set key ≡ false → Escapes slots numbers start key

-- the largest set within the other that is met
pub record IsLargestMet (slots : Slots) (numbers : Numbers) (within set : ℕ → Bool) : Type 0 where
  pub inside : IsWithin set within
  pub met : AreMet slots numbers set
  pub escapes : IsStruck slots numbers within set
  pub largest : (other : ℕ → Bool) → IsWithin other within → AreMet slots numbers other → IsWithin other set

-- a chain of classes, each of which depends directly on the next, another one
pub data Chain (slots : Slots) (numbers : Numbers) : ℕ → ℕ → Type 0 where
  one : {k j : ℕ} (c : Class) → class_at slots k ≡ Some c → k ≢ j → leads numbers c j ≡ true → Chain slots numbers k j
  onward : {k j l : ℕ} (c : Class) → class_at slots k ≡ Some c → k ≢ j → leads numbers c j ≡ true → Chain slots numbers j l → Chain slots numbers k l

-- no chain leads from a class to itself
abbrev pub HasNoRing : Slots → Numbers → Type 0
HasNoRing slots numbers = (key : ℕ) → Chain slots numbers key key → ⊥

-- the classes at these keys may be sent together: each is in memory, and depends on others of them alone; and where no
-- classes form a ring, no more may
pub record IsReadySet (slots : Slots) (numbers : Numbers) (block : ℕ) (set : ℕ → Bool) : Type 0 where
  pub inside : IsWithin set (picks slots block)
  pub met : AreMet slots numbers set
  pub largest : HasNoRing slots numbers → IsLargestMet slots numbers (picks slots block) set

-- each number is below those after it
abbrev pub AreRising : List ℕ → Type 0
AreRising [] = Unit {0}
AreRising (n ∷ ns) = AllByRecursion (λ m. n < m) ns × AreRising ns

-- these are the numbers of the block's ready set, rising
pub record AreReady (slots : Slots) (numbers : Numbers) (block : ℕ) (all : List ℕ) : Type 0 where
  pub set : ℕ → Bool
  pub is : IsReadySet slots numbers block set
  pub rising : AreRising all
  pub just : (n : ℕ) → is_among all n ≡ option_map_or set (find numbers n) false

-- whether the block's ready set has any class
pub record TellsReady (slots : Slots) (numbers : Numbers) (block : ℕ) (any : Bool) : Type 0 where
  pub set : ℕ → Bool
  pub is : IsReadySet slots numbers block set
  pub none : any ≡ false → (key : ℕ) → set key ≡ false
  pub some : any ≡ true → (key : ℕ) × (set key ≡ true)

-- some class of the block is in flight
abbrev pub HasFlying : Slots → ℕ → Type 0
HasFlying slots block = (key : ℕ) × (c : Class) × (class_at slots key ≡ Some c) × (c.block ≡ block) × (marks_flight c.mark ≡ true)

-- a write of the block can begin: some class may be sent with it, and none is in flight
pub record IsOpen (slots : Slots) (numbers : Numbers) (block : ℕ) : Type 0 where
  pub ready : TellsReady slots numbers block true
  pub still : (key : ℕ) (c : Class) → class_at slots key ≡ Some c → c.block ≡ block → marks_flight c.mark ≡ false

-- none can
abbrev pub IsShut : Slots → Numbers → ℕ → Type 0
IsShut slots numbers block = TellsReady slots numbers block false ⊎ HasFlying slots block

-- the least block from one on of which a write can begin
abbrev pub IsNextOpen : Slots → Numbers → ℕ → Option ℕ → Type 0
IsNextOpen slots numbers from None = (block : ℕ) → from ≤ block → block < MAX_CACHED → IsShut slots numbers block
IsNextOpen slots numbers from (Some least) = (from ≤ least) × (least < MAX_CACHED) × IsOpen slots numbers least × ((block : ℕ) → from ≤ block → block < least → IsShut slots numbers block)

-- the same numbers, rising
pub record IsArranged (old new : List ℕ) : Type 0 where
  pub rising : AreRising new
  pub kept : (n : ℕ) → In old n → In new n
  pub no_more : (n : ℕ) → In new n → In old n

-- the numbers of the class at the key
abbrev pub members_at : Nodes → ℕ → List ℕ
members_at nodes key = option_map_or (λ x. x.class.members) (node_at nodes key) []

-- the numbers of the classes at these keys
abbrev pub gathered : Nodes → List ℕ → List ℕ
gathered nodes [] = []
gathered nodes (key ∷ keys) = members_at nodes key ++ gathered nodes keys

-- whether the block has no class
pub record TellsEmpty (slots : Slots) (block : ℕ) (empty : Bool) : Type 0 where
  pub none : empty ≡ true → (key : ℕ) (c : Class) → class_at slots key ≡ Some c → c.block ≢ block
  pub some : empty ≡ false → (key : ℕ) × (c : Class) × (class_at slots key ≡ Some c) × (c.block ≡ block)
