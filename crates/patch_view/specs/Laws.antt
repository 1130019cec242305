-- Laws of histories, of the sets that may be taken, and of the records that represent them.
use Rattle.std.specs.Prelude.{ℕ, ◌≡◌, ◌≢◌, ◌↔◌, None, IsTrue, List, ◌∷◌}
use Rattle.patch_model.specs.Entry.{Entry, is_among, is_flight, is_memory, is_live, is_undoable}
use Rattle.patch_model.specs.Dependency.{depends_directly}
use Rattle.patch_model.specs.Step.{Send}
use Rattle.patch_model.specs.Execution.{Execution, extended}
use Rattle.patch_model.specs.State.{entries_of}
use Rattle.patch_model.specs.History.{History, HoldsDependents, history_of, without, image}
use Rattle.patch_model.specs.Orderly.{IsOrderlyBlock, left_behind}
use Rattle.patch_model.specs.Member.{In}
use Rattle.patch_model.specs.Refusing.{why_not_taken, why_not_put_back, class_named}
use Rattle.patch_view.specs.History.{IsCoherent, IsNext, MayLand, laid, undoable_classes}
use Rattle.patch_stacks.specs.State.{Block, outline}
use Rattle.patch_view.specs.Meaning.{IsBlockOf}
use Rattle.patch_view.specs.Answers.{IsPatch, MayTake, MayPutBack}

-- the two lists name the same classes
abbrev pub NameTheSame : List ℕ → List ℕ → Type 0
NameTheSame names others = (n : ℕ) → is_among names n ≡ is_among others n

-- an orderly block is coherent
abbrev pub OrderlyIsCoherent : Type 0
OrderlyIsCoherent = (h : History) (block : ℕ) → IsOrderlyBlock h block → IsCoherent h

-- the last patch of an orderly block could come next
abbrev pub LastIsNext : Type 0
LastIsNext = (h : History) (e : Entry) (block : ℕ) → IsOrderlyBlock (laid h e) block → IsNext h e

-- each class in flight of an orderly block may land
abbrev pub FlightMayLand : Type 0
FlightMayLand = (h : History) (block : ℕ) (e : Entry) → IsOrderlyBlock h block → In h.entries e → IsTrue (is_flight e) → MayLand h e.class

-- an undoable class may be taken where each live class that depends directly on it is taken
abbrev pub UppermostMayBeTaken : Type 0
UppermostMayBeTaken =
    (h : History) (taken : List ℕ) (e : Entry) → IsCoherent h → HoldsDependents h taken → In h.entries e → IsTrue (is_undoable e)
    → ((f g : Entry) → In h.entries f → In h.entries g → IsTrue (is_live f) → g.class ≡ e.class → f.class ≢ e.class
    → IsTrue (depends_directly f.patch g.patch) → IsTrue (is_among taken f.class))
    → HoldsDependents h (e.class ∷ taken)

-- a class may be taken just where no cause stands against it
abbrev pub TakenWithoutCause : Type 0
TakenWithoutCause =
    (h : History) (taken : List ℕ) (number : ℕ) → IsCoherent h → HoldsDependents h taken
    → (why_not_taken h taken number ≡ None) ↔ MayTake h taken number

-- and put back likewise
abbrev pub PutBackWithoutCause : Type 0
PutBackWithoutCause =
    (h : History) (taken : List ℕ) (number : ℕ) → IsCoherent h → HoldsDependents h taken
    → (why_not_put_back h taken number ≡ None) ↔ MayPutBack h taken number

-- a patch's number names its class
abbrev pub NumberNamesClass : Type 0
NumberNamesClass = (h : History) (number : ℕ) (e : Entry) → IsCoherent h → IsPatch h number e → class_named h number ≡ e.class

-- records of one outline that represent one history, with the same classes taken, are equal
abbrev pub OneValue : Type 0
OneValue =
    (h : History) (names others : List ℕ) (a b : Block)
    → IsBlockOf a names h → IsBlockOf b others h → NameTheSame names others → outline a ≡ outline b → a ≡ b

-- where all that is in memory may be taken back, the block without it is the image
abbrev pub ImageIsWithout : Type 0
ImageIsWithout =
    (h : History) → IsCoherent h → ((e : Entry) → In h.entries e → IsTrue (is_memory e) → IsTrue (is_undoable e))
    → without h (undoable_classes h) ≡ image h

-- what a send leaves behind in memory may be taken all at once, and the block without it is the image
abbrev pub SendLeavesTheImage : Type 0
SendLeavesTheImage =
    (run : Execution) (block : ℕ)
    → IsCoherent (history_of run block) → IsCoherent (history_of (extended run (Send block)) block)
    → HoldsDependents (history_of run block) (left_behind (entries_of run) block)
    → let h = history_of (extended run (Send block)) block in
    HoldsDependents h (undoable_classes h) × (without h (undoable_classes h) ≡ image h)
