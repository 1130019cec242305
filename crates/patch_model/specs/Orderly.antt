-- What legal steps make true of the patches.
use Rattle.std.specs.Prelude.{ℕ, ◌≡◌, ◌≢◌, ◌<◌, ◌≤◌, ◌&&◌, ◌⊎◌, not, IsTrue, List, Contains, length, map, filter}
use Rattle.patch_model.specs.declared.blocks.TheConstants.{BLOCK}
use Rattle.patch_model.specs.Pile.{end, covers}
use Rattle.patch_model.specs.Entry.{Entry, is_flight, is_durable, is_undoable, is_among, in_memory_of}
use Rattle.patch_model.specs.Dependency.{depends_directly, class_depends, Path}
use Rattle.patch_model.specs.Ready.{IsRising, has, ready}
use Rattle.patch_model.specs.Legal.{touch}
use Rattle.patch_model.specs.History.{History}

-- what the mark of e, and its being hard, say of f, on which it depends directly
pub record IsUnder (e f : Entry) : Type 0 where
  pub durable : IsTrue (is_durable e) → IsTrue (is_durable f)
  pub flight : IsTrue (is_flight e) → IsTrue (is_durable f) ⊎ (IsTrue (is_flight f) × (f.patch.block ≡ e.patch.block))
  pub hard : IsTrue e.hard → IsTrue (is_durable f) ⊎ (IsTrue f.hard × (f.patch.block ≡ e.patch.block))

-- alike in mark, block and hardness
pub record IsLike (e f : Entry) : Type 0 where
  pub mark : e.mark ≡ f.mark
  pub block : e.patch.block ≡ f.patch.block
  pub hard : e.hard ≡ f.hard

-- the patch of the class of this name whose number that is
pub record NamesIt (all : List Entry) (class : ℕ) (f : Entry) : Type 0 where
  pub inside : Contains all f
  pub name : f.class ≡ class
  pub number : f.patch.no ≡ class

-- patches in order of making, whole in their block, after what they name; of a class alike, under its least number
pub record IsOrderly (all : List Entry) : Type 0 where
  pub rising : IsRising all
  pub apart : (e f : Entry) → Contains all e → Contains all f → e.patch.no ≡ f.patch.no → e ≡ f
  pub filled : (e : Entry) → Contains all e → 0 < length e.patch.bytes
  pub fits : (e : Entry) → Contains all e → end e.patch ≤ BLOCK
  pub earlier : (e : Entry) (n : ℕ) → Contains all e → IsTrue (is_among e.patch.after n) → n < e.patch.no
  pub alike : (e f : Entry) → Contains all e → Contains all f → e.class ≡ f.class → IsLike e f
  pub least : (e : Entry) → Contains all e → e.class ≤ e.patch.no
  pub own : (e : Entry) → Contains all e → (f : Entry) × NamesIt all e.class f
  pub under : (e f : Entry) → Contains all e → Contains all f → IsTrue (depends_directly e.patch f.patch) → IsUnder e f

-- each number below the count of the patches is that of one of them
pub record IsNumbered (all : List Entry) : Type 0 where
  pub below : (e : Entry) → Contains all e → e.patch.no < length all
  pub made : (n : ℕ) → n < length all → (e : Entry) × Contains all e × (e.patch.no ≡ n)

-- a block of its whole length, with patches of it alone
pub record IsOrderlyBlock (h : History) (block : ℕ) : Type 0 where
  pub long : length h.first ≡ BLOCK
  pub here : (e : Entry) → Contains h.entries e → e.patch.block ≡ block
  pub orderly : IsOrderly h.entries

-- two undoable classes that touch, with no third one on a path from one to the other
pub record MayJoin (all : List Entry) (a b : ℕ) : Type 0 where
  pub two : a ≢ b
  pub undoable : (e : Entry) → Contains all e → (e.class ≡ a) ⊎ (e.class ≡ b) → IsTrue (is_undoable e)
  pub near : IsTrue (touch all a b)
  pub none_between : (c : ℕ) → c ≢ a → c ≢ b → (Path all a c × Path all c b) ⊎ (Path all b c × Path all c a) → ⊥

-- two patches of one block that change the byte at this place
pub record MeetAt (all : List Entry) (place : ℕ) (e f : Entry) : Type 0 where
  pub in_e : Contains all e
  pub in_f : Contains all f
  pub block : e.patch.block ≡ f.patch.block
  pub covers_e : IsTrue (covers e.patch place)
  pub covers_f : IsTrue (covers f.patch place)

-- the class of f depends directly on that of e, and no path leads the other way
pub record IsClassUnder (all : List Entry) (e f : Entry) : Type 0 where
  pub depends : IsTrue (class_depends all f.class e.class)
  pub never_back : Path all e.class f.class → ⊥

-- a patch of the class of this name that changes the byte at this place
pub record CoversIt (all : List Entry) (class place : ℕ) (f : Entry) : Type 0 where
  pub inside : Contains all f
  pub name : f.class ≡ class
  pub covered : IsTrue (covers f.patch place)

-- the names of the block's classes in memory that a send of it leaves there
abbrev pub left_behind : List Entry → ℕ → List ℕ
left_behind all block = map (λ e. e.class) (filter (λ e. in_memory_of block e && not (has (ready all block) e)) all)
