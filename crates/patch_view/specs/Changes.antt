-- What the calls that change a block's records make of the history that these represent, where nothing is taken.
use Rattle.std.specs.Prelude.{ℕ, Bool, List, [], map, Option, Result, OnOk}
use Rattle.std.specs.List.Sorted.{IsNonDecreasing}
use Rattle.patch_model.specs.declared.patches.Undo.{Undo}
use Rattle.patch_model.specs.Entry.{Entry}
use Rattle.patch_model.specs.History.{History}
use Rattle.patch_model.specs.Orderly.{MayJoin}
use Rattle.patch_model.specs.State.{sent}
use Rattle.patch_stacks.specs.State.{Block, Joint, IsJoint}
use Rattle.patch_view.specs.History.{IsNext, MayDepart, laid, made, with_joined}
use Rattle.patch_view.specs.Meaning.{IsBlockOf}
use Rattle.patch_view.specs.Answers.{IsPatch}

-- the patch is laid on any block's history where it may come next, hard or not
abbrev pub Lays : {X E : Type 0} → Block → (number start : ℕ) (bytes after : List ℕ) (hard : Bool) → Result X E → Block → Type 0
Lays old number start bytes after hard result new =
    (h : History) (block : ℕ) (undo : Undo) → IsBlockOf old [] h → IsNext h (made number block start bytes after undo hard)
    → OnOk result (IsBlockOf new [] (laid h (made number block start bytes after undo hard)))

-- the classes of two patches are one, if the joint is theirs
abbrev pub JoinsBy : Block → Option Joint → Block → Type 0
JoinsBy old joint new =
    (h : History) (a b : ℕ) (e f : Entry) → IsJoint old a b joint → IsBlockOf old [] h
    → IsPatch h a e → IsPatch h b f → MayJoin h.entries e.class f.class → IsBlockOf new [] (with_joined h e.class f.class)

-- the classes of these two patches are one
abbrev pub Joins : {X E : Type 0} → Block → (a b : ℕ) → Result X E → Block → Type 0
Joins old a b result new =
    (h : History) (e f : Entry) → IsBlockOf old [] h → IsPatch h a e → IsPatch h b f → MayJoin h.entries e.class f.class
    → OnOk result (IsBlockOf new [] (with_joined h e.class f.class))

-- the classes of a set are in flight, if these are their names
abbrev pub DepartsEach : Block → List ℕ → Block → Type 0
DepartsEach old numbers new =
    (h : History) (set : List Entry) → IsBlockOf old [] h → IsNonDecreasing numbers → MayDepart h numbers set
    → IsBlockOf new [] (record h { entries = map (sent set) h.entries })
