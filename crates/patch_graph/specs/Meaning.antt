-- Which patches a graph represents.
use Rattle.std.specs.Prelude.{ℕ, Bool, true, false, ◌≡◌, ◌≢◌, ◌⊎◌, ◌<◌, ◌≤◌, ◌==◌, ◌&&◌, List, length, Option, Some, None}
use Rattle.std.specs.List.{list_any}
use Rattle.patch_model.specs.declared.patches.Mark.{Mark}
use Rattle.patch_model.specs.Member.{In}
use Rattle.patch_model.specs.Entry.{Entry, is_durable, is_among}
use Rattle.patch_model.specs.Dependency.{depends_directly}
use Rattle.patch_model.specs.Pile.{covers}
use Rattle.patch_model.specs.Orderly.{IsOrderly, IsNumbered}
use Rattle.patch_links.specs.State.{Class, Slots, Numbers, IsInReach, find, class_at, leads}
use Rattle.patch_graph.specs.State.{Graph, spans}
use Rattle.patch_graph.specs.Skyline.{spans_of}
use Rattle.patch_skyline.specs.Skyline.{top_at}

-- a chain of classes, each of which depends directly on the next
pub data Leads (slots : Slots) (numbers : Numbers) : ℕ → ℕ → Type 0 where
  one : {k j : ℕ} (c : Class) → class_at slots k ≡ Some c → leads numbers c j ≡ true → Leads slots numbers k j
  onward : {k j l : ℕ} (c : Class) → class_at slots k ≡ Some c → leads numbers c j ≡ true → Leads slots numbers j l → Leads slots numbers k l

-- a patch of the one class depends directly on one of the other
pub record DependsOn (all : List Entry) (a b : ℕ) : Type 0 where
  pub e : Entry
  pub f : Entry
  pub in_e : In all e
  pub in_f : In all f
  pub of_a : e.class ≡ a
  pub of_b : f.class ≡ b
  pub depends : depends_directly e.patch f.patch ≡ true

-- the class at the key is a live one of the patches
pub record IsClassOf (all : List Entry) (slots : Slots) (numbers : Numbers) (key : ℕ) (c : Class) : Type 0 where
  pub some : (e : Entry) × In all e × (e.class ≡ c.name)
  pub members : (e : Entry) → In all e → e.class ≡ c.name → is_among c.members e.patch.no ≡ true
  pub only : (n : ℕ) → is_among c.members n ≡ true → (e : Entry) × In all e × (e.patch.no ≡ n) × (e.class ≡ c.name)
  pub looks : (e : Entry) → In all e → e.class ≡ c.name → (e.mark ≡ c.mark) × (e.patch.block ≡ c.block) × (e.hard ≡ c.hard)
  pub live : (e : Entry) → In all e → e.class ≡ c.name → is_durable e ≡ false
  pub found : (e : Entry) → In all e → e.class ≡ c.name → find numbers e.patch.no ≡ Some key
  pub span : (x : ℕ) → spans c x ≡ list_any (λ e. e.class == c.name && covers e.patch x) all
  pub named : (n : ℕ) → is_among c.after n ≡ true → n < length all
  pub sound : (n j : ℕ) (d : Class) → is_among c.after n ≡ true → find numbers n ≡ Some j → class_at slots j ≡ Some d → (d.name ≡ c.name) ⊎ DependsOn all c.name d.name
  pub complete : (e f : Entry) (j : ℕ) → In all e → In all f → e.class ≡ c.name → f.class ≢ c.name → depends_directly e.patch f.patch ≡ true
      → find numbers f.patch.no ≡ Some j → Leads slots numbers key j
  pub within : (n : ℕ) → IsInReach c.reach n → n < length all
  pub reaches : (n j : ℕ) → IsInReach c.reach n → find numbers n ≡ Some j → (j ≡ key) ⊎ Leads slots numbers key j

-- the patch wrote the byte of the block
abbrev pub wrote : ℕ → ℕ → Entry → Bool
wrote block x e = e.patch.block == block && covers e.patch x

-- of the patches that wrote the byte of the block, the last one has this number
pub record IsLast (all : List Entry) (block x n : ℕ) : Type 0 where
  pub e : Entry
  pub inside : In all e
  pub number : e.patch.no ≡ n
  pub wrote_it : wrote block x e ≡ true
  pub last : (f : Entry) → In all f → wrote block x f ≡ true → f.patch.no ≤ n

-- the number of the last patch that wrote the byte of the block; there may be none where each that did is durable
abbrev pub IsTop : List Entry → ℕ → ℕ → Option ℕ → Type 0
IsTop all block x (Some n) = IsLast all block x n
IsTop all block x None = (f : Entry) → In all f → wrote block x f ≡ true → is_durable f ≡ true

-- the graph's classes are the live ones of the patches, and its skylines show who wrote each byte last
pub record IsGraphOf (g : Graph) (all : List Entry) : Type 0 where
  pub orderly : IsOrderly all
  pub numbered : IsNumbered all
  pub made : g.made ≡ length all
  pub classes : (key : ℕ) (c : Class) → class_at g.slots key ≡ Some c → IsClassOf all g.slots g.numbers key c
  pub found : (e : Entry) → In all e → is_durable e ≡ false → (key : ℕ) × (c : Class) × (find g.numbers e.patch.no ≡ Some key) × (class_at g.slots key ≡ Some c) × (c.name ≡ e.class)
  pub live : (n key : ℕ) → find g.numbers n ≡ Some key → (e : Entry) × In all e × (e.patch.no ≡ n) × (is_durable e ≡ false)
  pub tops : (block x : ℕ) → IsTop all block x (top_at (spans_of g.tops block) x)

-- each patch of the block is durable
abbrev pub IsClearOf : List Entry → ℕ → Type 0
IsClearOf all block = (e : Entry) → In all e → e.patch.block ≡ block → is_durable e ≡ true

-- all patches that the one graph represents are those of the other
abbrev pub StandsForSame : Graph → Graph → Type 0
StandsForSame old new = (all : List Entry) → IsGraphOf old all → IsGraphOf new all

-- the patch of this number is durable, or wasn't made
abbrev pub IsNotLive : List Entry → ℕ → Type 0
IsNotLive all n = (e : Entry) → In all e → e.patch.no ≡ n → is_durable e ≡ true

abbrev pub IsLiveClass : List Entry → ℕ → ℕ → Type 0
IsLiveClass all n name = (e : Entry) × In all e × (e.patch.no ≡ n) × (is_durable e ≡ false) × (e.class ≡ name)

abbrev pub HasMark : List Entry → ℕ → Mark → Type 0
HasMark all n mark = (e : Entry) × In all e × (e.patch.no ≡ n) × (e.mark ≡ mark)
