-- What lies on the paths from one class to another.
use Rattle.std.specs.Prelude.{ℕ, Bool, IsTrue, ◌↔◌, true, not, ◌+◌, ◌<◌, ◌≡◌, ◌≢◌, ◌≤◌, ◌⊎◌, ◌==◌, ◌&&◌, ◌||◌, false, is_none, nat_lt, if◌then◌else◌, List, slice_index_or, Option, Some, None}
use Rattle.std.specs.List.{list_all}
use Rattle.std.specs.Option.{option_map, option_map_or}
use Rattle.patch_model.specs.Entry.{Entry}
use Rattle.patch_model.specs.Dependency.{Path, LiesBetween}
use Rattle.patch_links.specs.State.{Class, Slots, Numbers, find, class_at}
use Rattle.patch_graph.specs.State.{Graph}
use Rattle.patch_graph.specs.Marks.{is_marked}
use Rattle.patch_graph.specs.Meaning.{IsGraphOf, IsLiveClass, IsNotLive}

-- reached, no dead end, and neither end
abbrev pub lies : List Bool → List Bool → ℕ → ℕ → ℕ → Bool
lies marks dead_ends from to key = is_marked marks key && not (is_marked dead_ends key) && (not (key == from) && not (key == to))

abbrev pub lesser : Option ℕ → Option ℕ → Option ℕ
lesser None o = o
lesser (Some a) None = Some a
lesser (Some a) (Some b) = if nat_lt a b then Some a else Some b

abbrev pub name_if : Slots → (ℕ → Bool) → ℕ → Option ℕ
name_if slots test key = if test key then option_map (λ c. c.name) (class_at slots key) else None

-- of the classes of the first so many keys that pass, the least name
abbrev pub IsLeastOf : Slots → (ℕ → Bool) → List ℕ → ℕ → Option ℕ → Type 0
IsLeastOf slots test keys upto None = (i : ℕ) (c : Class) → i < upto → class_at slots (slice_index_or keys i 0) ≡ Some c → test (slice_index_or keys i 0) ≡ true → ⊥
IsLeastOf slots test keys upto (Some m) =
    ((k : ℕ) × (c : Class) × (class_at slots k ≡ Some c) × (test k ≡ true) × (c.name ≡ m))
    × ((i : ℕ) (c : Class) → i < upto → class_at slots (slice_index_or keys i 0) ≡ Some c → test (slice_index_or keys i 0) ≡ true → m ≤ c.name)

-- the marks without one key
abbrev pub AreWithout : ℕ → List Bool → List Bool → Type 0
AreWithout to marks dead_ends = (key : ℕ) → is_marked dead_ends key ≡ (is_marked marks key && not (key == to))

-- the class at the key has the last number that was made
abbrev pub is_newest : Slots → ℕ → ℕ → Bool
is_newest slots key made = option_map_or (λ c. c.name + 1 == made) (class_at slots key) false

-- none of the numbers leads to a class
abbrev pub are_gone : Numbers → List ℕ → Bool
are_gone numbers = list_all (λ n. is_none (find numbers n))

-- the class at the key depends on no live one
abbrev pub is_leaf : Slots → Numbers → ℕ → Bool
is_leaf slots numbers key = option_map_or (λ c. are_gone numbers c.after) (class_at slots key) true

-- the number leads to one of the two keys, to none, or to a class that depends on no live one
abbrev pub ends_at : Slots → Numbers → ℕ → ℕ → ℕ → Bool
ends_at slots numbers from to n = option_map_or (λ k. k == from || (k == to || is_leaf slots numbers k)) (find numbers n) true

-- the class at the one key depends directly on no class but that at the other and such as depend on no live one
abbrev pub rests_on_leaves : Slots → Numbers → ℕ → ℕ → Bool
rests_on_leaves slots numbers from to = option_map_or (λ c. list_all (ends_at slots numbers from to) c.after) (class_at slots from) true

-- no two classes depend on each other
abbrev pub HasNoRing : List Entry → Type 0
HasNoRing all = (a b : ℕ) → a ≢ b → Path all a b → Path all b a → ⊥

abbrev pub IsLeastBetween : List Entry → ℕ → ℕ → Option ℕ → Type 0
IsLeastBetween all a b None = (c : ℕ) → LiesBetween all a b c → ⊥
IsLeastBetween all a b (Some m) = LiesBetween all a b m × ((c : ℕ) → LiesBetween all a b c → m ≤ c)

-- a path leads from the class x to the class y, which is another one: no class reaches itself
abbrev pub ReachesOther : List Entry → ℕ → ℕ → Type 0
ReachesOther all x y = (x ≢ y) × Path all x y

-- one of the two numbers isn't that of a live patch, and so names no live class
abbrev pub LacksAnEnd : List Entry → ℕ → ℕ → Type 0
LacksAnEnd all a b = IsNotLive all a ⊎ IsNotLive all b

-- one of the two numbers has no key
abbrev pub LacksAKey : Numbers → ℕ → ℕ → Type 0
LacksAKey numbers a b = (find numbers a ≡ None) ⊎ (find numbers b ≡ None)

-- of the classes of a graph's two live patches: the least name of a third one between them
abbrev pub TellsLeastBetween : Graph → ℕ → ℕ → Option ℕ → Type 0
TellsLeastBetween g a b least = (all : List Entry) (x y : ℕ) → IsGraphOf g all → HasNoRing all → IsLiveClass all a x → IsLiveClass all b y → IsLeastBetween all x y least

-- the same of any two patches that are of the classes at these keys
abbrev pub TellsBetweenKeys : Graph → ℕ → ℕ → Option ℕ → Type 0
TellsBetweenKeys g from to least = (a b : ℕ) → find g.numbers a ≡ Some from → find g.numbers b ≡ Some to → TellsLeastBetween g a b least

-- of the classes of a graph's two live patches: whether a path leads from the one to the other
abbrev pub TellsReach : Graph → ℕ → ℕ → Bool → Type 0
TellsReach g a b reaches = (all : List Entry) (x y : ℕ) → IsGraphOf g all → IsLiveClass all a x → IsLiveClass all b y → IsTrue reaches ↔ ReachesOther all x y
