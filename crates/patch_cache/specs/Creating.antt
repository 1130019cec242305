-- A patch as a cache makes it.
use Rattle.std.specs.Prelude.{ℕ, Bool, true, ◌≡◌, List, [], Option, None, length}
use Rattle.patch_model.specs.declared.patches.Undo.{Undo}
use Rattle.patch_model.specs.Step.{Create}
use Rattle.patch_model.specs.Execution.{Execution, extended}
use Rattle.patch_model.specs.State.{entries_of}
use Rattle.patch_model.specs.History.{history_of}
use Rattle.patch_model.specs.Legal.{IsLegal, IsLegalCreate}
use Rattle.patch_model.specs.Refusing.{why_not_made}
use Rattle.patch_model.specs.declared.refusals.Refusal.{Refusal}
use Rattle.patch_stacks.specs.State.{Block}
use Rattle.patch_view.specs.Meaning.{IsBlockOf}
use Rattle.patch_graph.specs.State.{Graph}
use Rattle.patch_graph.specs.Meaning.{IsGraphOf}
use Rattle.patch_cache.specs.Contents.{Contents}
use Rattle.patch_cache.specs.Meaning.{IsCacheBy}

-- why a patch isn't made
abbrev pub why_not_created : Execution → (block start : ℕ) (bytes after : List ℕ) → Option Refusal
why_not_created run block start bytes after = why_not_made (length run.first) (entries_of run) block start bytes after

-- no cause stands against the patch
abbrev pub MayBeMade : Execution → (block start : ℕ) (bytes after : List ℕ) → Type 0
MayBeMade run block start bytes after = why_not_created run block start bytes after ≡ None

-- the patch that no cause stands against has the next number, and the cache holds it
abbrev pub IsMadeBy : (whole : Bool) → Execution → (block start : ℕ) (bytes after : List ℕ) → Undo → (number : ℕ) → Contents → Type 0
IsMadeBy whole run block start bytes after undo number c =
    MayBeMade run block start bytes after × (number ≡ length (entries_of run)) × IsCacheBy whole c (extended run (Create block start bytes after undo))

abbrev pub IsMade : Execution → (block start : ℕ) (bytes after : List ℕ) → Undo → (number : ℕ) → Contents → Type 0
IsMade run block start bytes after undo number c = IsMadeBy true run block start bytes after undo number c

-- the patch may be laid on its block, whose state this is, and added to the graph
pub record MayLay (run : Execution) (block start : ℕ) (bytes after : List ℕ) (state : Block) (graph : Graph) : Type 0 where
  pub run_legal : IsLegal run
  pub on_block : IsBlockOf state [] (history_of run block)
  pub in_graph : IsGraphOf graph (entries_of run)
  pub legal : IsLegalCreate (length run.first) (entries_of run) block start bytes after

-- the patch has the next number, and its block and the graph hold it
pub record IsLaid (run : Execution) (block start : ℕ) (bytes after : List ℕ) (undo : Undo) (number : ℕ) (state : Block) (graph : Graph) : Type 0 where
  pub number_is : number ≡ length (entries_of run)
  pub on_block : IsBlockOf state [] (history_of (extended run (Create block start bytes after undo)) block)
  pub in_graph : IsGraphOf graph (entries_of (extended run (Create block start bytes after undo)))
