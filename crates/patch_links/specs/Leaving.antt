-- Classes that leave a block's ready set, one after another.
use Rattle.std.specs.Prelude.{ℕ, Bool, true, false, ◌≡◌, ◌≢◌, ◌≤◌, ◌+◌, ◌==◌, ◌&&◌, ◌++◌, ◌∷◌, [], not, List, length, take, drop, MatchOption}
use Rattle.patch_links.specs.State.{Class, Nodes, Numbers, find, is_at, changed_at}
use Rattle.patch_links.specs.Waiting.{of_block, ready_in, raised, unreadied, AreLinked, AreOwing, passed_by, changed_if_other, followers_at}
use Rattle.patch_links.specs.Lists.{OfBlock, times, once, HoldsJust, due_in, flying_in, classes_of}

-- the first keys are just those of the ready set
pub record HoldsReady (block : ℕ) (nodes : Nodes) (of : OfBlock) : Type 0 where
  pub ready : HoldsJust (ready_in block) nodes (take of.done of.ready)
  pub within : of.done ≤ length of.ready

-- the key of a class that left the ready set stands first of those behind the set's
pub record HasLeft (old new : OfBlock) (key : ℕ) : Type 0 where
  pub done : new.done + 1 ≡ old.done
  pub ahead : (k : ℕ) → times (take new.done new.ready) k + once (key == k) ≡ times (take old.done old.ready) k
  pub behind : drop new.done new.ready ≡ key ∷ drop old.done old.ready
  pub long : length new.ready ≡ length old.ready
  pub rest : new ≡ record old { ready = new.ready; done = new.done }

-- the last of the keys behind those of the ready set was taken out
pub record LosesLast (old new : OfBlock) (key : ℕ) : Type 0 where
  pub was : old.ready ≡ new.ready ++ key ∷ []
  pub within : old.done ≤ length new.ready
  pub changed : new ≡ record old { ready = new.ready }

-- the class at the key left the ready set, or nothing has changed
abbrev pub LeavesIf : Bool → ℕ → Nodes → Nodes → OfBlock → OfBlock → Type 0
LeavesIf true key old new of now = (new ≡ changed_at unreadied old key) × HasLeft of now key
LeavesIf false key old new of now = (new ≡ old) × (now ≡ of)

-- one number more keeps the class out that the number leads to, if it is another one of the block, and so it left the ready
-- set, if it was there
abbrev pub LeavesTo : Numbers → ℕ → ℕ → Nodes → Nodes → OfBlock → OfBlock → ℕ → Type 0
LeavesTo numbers from block old new of now n =
    MatchOption (find numbers n) ((new ≡ old) × (now ≡ of)) (λ key. LeavesIf (not (key == from) && is_at (ready_in block) old key) key (changed_if_other raised from block old key) new of now)

-- no class has come into the ready set
abbrev pub LosesReady : ℕ → Nodes → Nodes → Type 0
LosesReady block old new = (key : ℕ) → is_at (ready_in block) old key ≡ false → is_at (ready_in block) new key ≡ false

-- how often the class depends on those at these keys, where it is another one of the block
abbrev pub owed_to : Nodes → Numbers → ℕ → List ℕ → ℕ → Class → ℕ
owed_to nodes numbers block [] key c = 0
owed_to nodes numbers block (j ∷ keys) key c = passed_by numbers j block (followers_at nodes j) key c + owed_to nodes numbers block keys key c

-- of the block's classes those at the keys behind the ready set's left it, the first of all the one at the key `first`, and
-- their followers wait for them once they are told, and for so many more; of the others just those in the set are due
pub record AreLeaving (block first : ℕ) (numbers : Numbers) (nodes : Nodes) (of : OfBlock) (debt : ℕ → Class → ℕ) : Type 0 where
  pub holds : HoldsReady block nodes of
  pub flying : HoldsJust (flying_in block) nodes of.flying
  pub counted : of.count ≡ classes_of block nodes
  pub room_ready : of.count ≤ of.room_ready
  pub room_flying : of.count ≤ of.room_flying
  pub here : is_at (of_block block) nodes first ≡ true
  pub off : is_at (ready_in block) nodes first ≡ false
  pub due : (key : ℕ) → key ≢ first → is_at (due_in block) nodes key ≡ is_at (ready_in block) nodes key
  pub linked : AreLinked nodes numbers
  pub owing : AreOwing nodes numbers (λ key c. owed_to nodes numbers block (drop of.done of.ready) key c + debt key c)

-- the classes go on to leave, until those wait that so many were to wait for
abbrev pub KeepsLeaving : ℕ → Numbers → Nodes → Nodes → OfBlock → OfBlock → (ℕ → Class → ℕ) → Type 0
KeepsLeaving block numbers old new of now debt = (first : ℕ) → AreLeaving block first numbers old of debt → AreLeaving block first numbers new now (λ key c. 0)
