-- A search through the classes, by marks and a queue of keys.
use Rattle.std.specs.Prelude.{ℕ, Bool, true, false, ◌≡◌, ◌≢◌, ◌<◌, ◌≤◌, ◌⊎◌, ◌+◌, ◌&&◌, List, length, Some, slice_index_or, slice_set}
use Rattle.std.specs.List.{list_any}
use Rattle.std.specs.Option.{option_map_or}
use Rattle.patch_model.specs.Member.{In}
use Rattle.patch_links.specs.State.{Slots, Numbers, find, class_at, leads, leads_at}
use Rattle.patch_graph.specs.State.{Graph}
use Rattle.patch_graph.specs.Marks.{is_marked, marked_count}
use Rattle.patch_graph.specs.declared.searching.Course.{Course}
use Rattle.patch_graph.specs.declared.searching.Way.{Way}
use Rattle.patch_graph.specs.declared.searching.Way.TheVariants.{Down, Up, Among}

abbrev pub queued_at : List ℕ → ℕ → ℕ
queued_at queue i = slice_index_or queue i 0

-- the class at the one key depends directly on that at the other
abbrev pub depends_at : Slots → Numbers → ℕ → ℕ → Bool
depends_at slots numbers key j = option_map_or (λ c. leads numbers c j) (class_at slots key) false

-- a search may come to the key
abbrev pub admits : Way → ℕ → Bool
admits Down key = true
admits Up key = true
admits (Among marks) key = is_marked marks.now key

-- from the class at the one key a search goes on to that at the other
abbrev pub steps : Slots → Numbers → Way → ℕ → ℕ → Bool
steps slots numbers Down key j = depends_at slots numbers key j
steps slots numbers Up key j = depends_at slots numbers j key
steps slots numbers (Among marks) key j = depends_at slots numbers key j && is_marked marks.now j

-- by these numbers a search goes on from the class at the key; some of them may lead to that itself
pub record AreNext (slots : Slots) (numbers : Numbers) (way : Way) (key : ℕ) (next : List ℕ) : Type 0 where
  pub each : (n j : ℕ) → In next n → find numbers n ≡ Some j → admits way j ≡ true → (j ≡ key) ⊎ (steps slots numbers way key j ≡ true)
  pub all : (j : ℕ) → steps slots numbers way key j ≡ true → (j ≡ key) ⊎ ((list_any (leads_at numbers j) next ≡ true) × (admits way j ≡ true))

-- a chain of keys, from each of which it goes on to the next
pub data Chain (goes : ℕ → ℕ → Bool) : ℕ → ℕ → Type 0 where
  once : {k j : ℕ} → goes k j ≡ true → Chain goes k j
  further : {k j l : ℕ} → Chain goes k j → goes j l ≡ true → Chain goes k l

-- the key is the first one, or one that a chain leads to
abbrev pub Reaches : (ℕ → ℕ → Bool) → ℕ → ℕ → Type 0
Reaches goes from key = (from ≡ key) ⊎ Chain goes from key

-- what a search has found that doesn't go on from the key stop, where it has followed so many of the queue
pub record IsSearch (goes : ℕ → ℕ → Bool) (from stop : ℕ) (marks : List Bool) (queue : List ℕ) (head tail : ℕ) : Type 0 where
  pub first : is_marked marks from ≡ true
  pub queued : (i : ℕ) → i < tail → is_marked marks (queued_at queue i) ≡ true
  pub listed : (key : ℕ) → is_marked marks key ≡ true → (i : ℕ) × (i < tail) × (queued_at queue i ≡ key)
  pub reached : (key : ℕ) → is_marked marks key ≡ true → Reaches goes from key
  pub counted : tail ≡ marked_count marks
  pub ordered : head ≤ tail
  pub done : (i j : ℕ) → i < head → queued_at queue i ≢ stop → goes (queued_at queue i) j ≡ true → j < length marks → is_marked marks j ≡ true

-- the marked keys are those that the first one reaches, by chains that end at the key stop where they come to it
pub record IsReachable (goes : ℕ → ℕ → Bool) (from stop : ℕ) (marks : List Bool) : Type 0 where
  pub first : is_marked marks from ≡ true
  pub reached : (key : ℕ) → is_marked marks key ≡ true → Reaches goes from key
  pub closed : (k j : ℕ) → is_marked marks k ≡ true → k ≢ stop → goes k j ≡ true → j < length marks → is_marked marks j ≡ true

-- a search has come so far
abbrev pub IsUnderWay : Graph → Way → ℕ → List Bool → List ℕ → Course → Type 0
IsUnderWay g way stop marks queue c = IsSearch (steps g.slots g.numbers way) c.from stop marks queue c.head c.count

-- any search from the key has come so far
abbrev pub HasBegun : ℕ → List Bool → List ℕ → Course → Type 0
HasBegun from marks queue c = (c.from ≡ from) × ((goes : ℕ → ℕ → Bool) (stop : ℕ) → IsSearch goes c.from stop marks queue c.head c.count)

-- the class of the number was marked and put at the queue's end
pub record IsOpened (numbers : Numbers) (way : Way) (n : ℕ) (old new : List Bool) (old_queue queue : List ℕ) (tail end : ℕ) : Type 0 where
  pub key : ℕ
  pub at : find numbers n ≡ Some key
  pub admitted : admits way key ≡ true
  pub low : key < length old
  pub unmarked : is_marked old key ≡ false
  pub room : tail < length old_queue
  pub marks : new ≡ slice_set old key true
  pub queue_is : queue ≡ slice_set old_queue tail key
  pub end_is : end ≡ tail + 1

-- there was nothing to do
pub record IsPassed (numbers : Numbers) (way : Way) (n : ℕ) (old new : List Bool) (old_queue queue : List ℕ) (tail end : ℕ) : Type 0 where
  pub marks : new ≡ old
  pub queue_is : queue ≡ old_queue
  pub end_is : end ≡ tail
  pub marked : (key : ℕ) → find numbers n ≡ Some key → admits way key ≡ true → key < length old → tail < length old_queue → is_marked old key ≡ true

abbrev pub Visited : Numbers → Way → ℕ → List Bool → List Bool → List ℕ → List ℕ → ℕ → ℕ → Type 0
Visited numbers way n old new old_queue queue tail end = IsOpened numbers way n old new old_queue queue tail end ⊎ IsPassed numbers way n old new old_queue queue tail end

-- so many of the numbers by which the search goes on from the key were looked at
pub record IsLook (slots : Slots) (numbers : Numbers) (way : Way) (from stop key : ℕ) (next : List ℕ) (marks : List Bool) (queue : List ℕ) (head tail upto : ℕ) : Type 0 where
  pub search : IsSearch (steps slots numbers way) from stop marks queue head tail
  pub here : queued_at queue head ≡ key
  pub inside : head < tail
  pub long : length marks ≤ length queue
  pub seen : (m j : ℕ) → m < upto → find numbers (slice_index_or next m 0) ≡ Some j → admits way j ≡ true → j < length marks → is_marked marks j ≡ true

-- what a search has come to: the marks, the queue of the marked keys, and how many they are
pub record Walk : Type 0 where
  pub marks : List Bool
  pub queue : List ℕ
  pub tail : ℕ

abbrev pub walk : List Bool → List ℕ → ℕ → Walk
walk marks queue tail = record { marks = marks; queue = queue; tail = tail }

-- all of these numbers were looked at
abbrev pub HasFollowed : Graph → Way → List ℕ → ℕ → Walk → Walk → Type 0
HasFollowed g way next head old new = (from stop key : ℕ) → AreNext g.slots g.numbers way key next
    → IsLook g.slots g.numbers way from stop key next old.marks old.queue head old.tail 0
    → IsLook g.slots g.numbers way from stop key next new.marks new.queue head new.tail (length next)

-- the search has followed one more of the queue
abbrev pub HasLooked : Graph → Way → ℕ → ℕ → Walk → Walk → Type 0
HasLooked g way stop head old new = (from : ℕ) → head < old.tail
    → IsSearch (steps g.slots g.numbers way) from stop old.marks old.queue head old.tail
    → IsSearch (steps g.slots g.numbers way) from stop new.marks new.queue (head + 1) new.tail
