-- What the calls of a view answer.
use Rattle.std.specs.Prelude.{ℕ, Bool, ◌≡◌, ◌↔◌, IsTrue, IsFalse, List, [], Some, None, Result, MatchResult, IsOk}
use Rattle.std.specs.List.{list_all}
use Rattle.patch_model.specs.Entry.{Entry, is_among, is_undoable, is_durable}
use Rattle.patch_model.specs.Member.{In}
use Rattle.patch_model.specs.History.{History, HoldsDependents, Take, Back, moved, without}
use Rattle.patch_model.specs.Refusing.{why_not_taken, why_not_put_back, class_named}
use Rattle.patch_stacks.specs.declared.refusals.TakeRefusal.{TakeRefusal}
use Rattle.patch_stacks.specs.declared.refusals.PutBackRefusal.{PutBackRefusal}
use Rattle.patch_stacks.specs.Refusal.{take_cause, put_back_cause}
use Rattle.patch_stacks.specs.State.{Block, outline}
use Rattle.patch_view.specs.History.{undoable_classes}
use Rattle.patch_view.specs.Meaning.{IsBlockOf}

-- the block's patch of this number
pub record IsPatch (h : History) (no : ℕ) (e : Entry) : Type 0 where
  pub is_in : In h.entries e
  pub number : e.patch.no ≡ no

-- the patch's class may be taken: it is undoable and applied, and the set with it holds its dependents
pub record MayTake (h : History) (taken : List ℕ) (no : ℕ) : Type 0 where
  pub patch : Entry
  pub named : IsPatch h no patch
  pub undoable : IsTrue (is_undoable patch)
  pub applied : IsFalse (is_among taken patch.class)
  pub holds : HoldsDependents h (moved taken (Take patch.class))

-- the patch's class may be put back: it is taken, and the set without it holds its dependents
pub record MayPutBack (h : History) (taken : List ℕ) (no : ℕ) : Type 0 where
  pub patch : Entry
  pub named : IsPatch h no patch
  pub is_taken : IsTrue (is_among taken patch.class)
  pub holds : HoldsDependents h (moved taken (Back patch.class))

-- nothing stood against a take, and the block's records are those with the patch's class taken
pub record IsTaken (h : History) (taken : List ℕ) (no : ℕ) (new : Block) : Type 0 where
  pub none : why_not_taken h taken no ≡ None
  pub represents : IsBlockOf new (moved taken (Take (class_named h no))) h

-- nothing stood against a put back, and they are those with the patch's class put back
pub record IsPutBack (h : History) (taken : List ℕ) (no : ℕ) (new : Block) : Type 0 where
  pub none : why_not_put_back h taken no ≡ None
  pub represents : IsBlockOf new (moved taken (Back (class_named h no))) h

-- a take answers that, or the first cause against it
abbrev pub IsTakeAnswer : {X : Type 0} → History → List ℕ → ℕ → Block → Result X TakeRefusal → Type 0
IsTakeAnswer h taken number new result =
    MatchResult result (λ done. IsTaken h taken number new) (λ refusal. why_not_taken h taken number ≡ Some (take_cause refusal))

-- and a put back likewise
abbrev pub IsPutBackAnswer : {X : Type 0} → History → List ℕ → ℕ → Block → Result X PutBackRefusal → Type 0
IsPutBackAnswer h taken number new result =
    MatchResult result (λ done. IsPutBack h taken number new) (λ refusal. why_not_put_back h taken number ≡ Some (put_back_cause refusal))

-- a take of a block answers so, whatever history its records represent, and whichever classes are taken
abbrev pub AnswersTake : {X : Type 0} → Block → ℕ → Block → Result X TakeRefusal → Type 0
AnswersTake old number new result = (h : History) (taken : List ℕ) → IsBlockOf old taken h → IsTakeAnswer h taken number new result

-- and it is done just where the class may be taken
abbrev pub AcceptsTake : {X : Type 0} → Block → ℕ → Result X TakeRefusal → Type 0
AcceptsTake old number result = (h : History) (taken : List ℕ) → IsBlockOf old taken h → IsOk result ↔ MayTake h taken number

-- a put back likewise
abbrev pub AnswersPutBack : {X : Type 0} → Block → ℕ → Block → Result X PutBackRefusal → Type 0
AnswersPutBack old number new result = (h : History) (taken : List ℕ) → IsBlockOf old taken h → IsPutBackAnswer h taken number new result

abbrev pub AcceptsPutBack : {X : Type 0} → Block → ℕ → Result X PutBackRefusal → Type 0
AcceptsPutBack old number result = (h : History) (taken : List ℕ) → IsBlockOf old taken h → IsOk result ↔ MayPutBack h taken number

-- all undoable classes are taken, if together they hold their dependents
abbrev pub TakesAll : Block → Block → Type 0
TakesAll old new =
    (h : History) (taken : List ℕ) → IsBlockOf old taken h → HoldsDependents h (undoable_classes h) → IsBlockOf new (undoable_classes h) h

-- these are the block's bytes without its undoable classes, if together they hold their dependents
abbrev pub ShowsTaken : Block → List ℕ → Type 0
ShowsTaken b bytes =
    (h : History) (taken : List ℕ) → IsBlockOf b taken h → HoldsDependents h (undoable_classes h) → bytes ≡ without h (undoable_classes h)

-- nothing is taken any more
abbrev pub PutsAllBack : Block → Block → Type 0
PutsAllBack old new = (h : History) (taken : List ℕ) → IsBlockOf old taken h → IsBlockOf new [] h

-- the block is the one before all takes
abbrev pub IsAsBefore : Block → Block → Type 0
IsAsBefore old new =
    (h : History) (taken : List ℕ) (before : Block)
    → IsBlockOf old taken h → IsBlockOf before [] h → outline before ≡ outline old → new ≡ before

-- these are the block's bytes without the classes that are taken
abbrev pub Shows : Block → List ℕ → Type 0
Shows b bytes = (h : History) (taken : List ℕ) → IsBlockOf b taken h → bytes ≡ without h taken

-- whether all patches of the block are durable, whichever classes are taken
abbrev pub TellsClear : Block → Bool → Type 0
TellsClear b result = (h : History) (taken : List ℕ) → IsBlockOf b taken h → result ≡ list_all is_durable h.entries
