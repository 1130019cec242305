-- Two classes, as a cache makes one of them.
use Rattle.std.specs.Prelude.{ℕ, Bool, true, ◌≡◌, ◌==◌, ◌&&◌, not, min, nat_le, if◌then◌else◌, List, [], Option, Some, None, MatchOption}
use Rattle.patch_model.specs.declared.refusals.Refusal.{Refusal}
use Rattle.patch_model.specs.declared.patches.Mark.TheVariants.{Memory}
use Rattle.patch_model.specs.declared.refusals.RefusalKind.TheVariants as kind
use Rattle.patch_model.specs.Step.{Merge}
use Rattle.patch_model.specs.Execution.{Execution, extended}
use Rattle.patch_model.specs.Entry.{Entry}
use Rattle.patch_model.specs.State.{entries_of, class_of}
use Rattle.patch_model.specs.Legal.{IsLegal, IsLegalMerge, block_of_patch}
use Rattle.patch_model.specs.Refusing.{bare, with_number, why_no_pair, IsBetween, IsLeastThird}
use Rattle.patch_model.specs.History.{history_of}
use Rattle.patch_stacks.specs.State.{Block}
use Rattle.patch_view.specs.Meaning.{IsBlockOf}
use Rattle.patch_graph.specs.State.{Graph}
use Rattle.patch_graph.specs.Meaning.{IsGraphOf}
use Rattle.patch_graph.specs.Showing.{IsShown}
use Rattle.patch_cache.specs.Contents.{Contents}
use Rattle.patch_cache.specs.Meaning.{IsCacheBy}
use Rattle.patch_graph.specs.declared.classes.LiveClass.{LiveClass}

-- the class of the patch of this number, which is in memory
pub record IsInMemory (all : List Entry) (no : ℕ) (class : LiveClass) : Type 0 where
  pub shown : IsShown all no class
  pub memory : class.mark ≡ Memory

-- the two spans overlap or touch
abbrev pub spans_touch : LiveClass → LiveClass → Bool
spans_touch c d = nat_le c.start d.stop && nat_le d.start c.stop

-- what the classes of the patches a and b themselves show against a merge
abbrev pub why_apart : ℕ → LiveClass → ℕ → LiveClass → Option Refusal
why_apart a c b d =
    if c.name == d.name then Some (bare kind.Same)
    else if not (c.block == d.block) then Some (bare kind.OtherBlock)
    else if c.hard then Some (with_number kind.Hard a)
    else if d.hard then Some (with_number kind.Hard b)
    else if not (spans_touch c d) then Some (bare kind.Apart)
    else None

-- no cause but a third class between them stands against a merge of the classes, which are of this block
abbrev pub ArePaired : Execution → (a b block : ℕ) → Type 0
ArePaired run a b block = (why_no_pair (entries_of run) a b ≡ None) × (block ≡ block_of_patch (entries_of run) a)

-- the least name of a class between them, if there is one
abbrev pub IsThird : Execution → (a b : ℕ) → Option ℕ → Type 0
IsThird run a b third = MatchOption third ((c : ℕ) → IsBetween (entries_of run) a b c → ⊥) (IsLeastThird (entries_of run) a b)

-- the classes may be merged, and are of this block
abbrev pub MayMerge : Execution → (a b block : ℕ) → Type 0
MayMerge run a b block = IsLegalMerge (entries_of run) a b × (block ≡ block_of_patch (entries_of run) a)

-- the class of the merge has the lesser name, and the cache holds it
abbrev pub IsMergedBy : (whole : Bool) → Execution → (a b name : ℕ) → Contents → Type 0
IsMergedBy whole run a b name c =
    IsLegalMerge (entries_of run) a b × (name ≡ min (class_of (entries_of run) a) (class_of (entries_of run) b)) × IsCacheBy whole c (extended run (Merge a b))

abbrev pub IsMerged : Execution → (a b name : ℕ) → Contents → Type 0
IsMerged run a b name c = IsMergedBy true run a b name c

-- the classes may be merged on their block, whose state this is, and in the graph
pub record MayMergeOn (run : Execution) (a b : ℕ) (state : Block) (graph : Graph) : Type 0 where
  pub run_legal : IsLegal run
  pub legal : IsLegalMerge (entries_of run) a b
  pub on_block : IsBlockOf state [] (history_of run (block_of_patch (entries_of run) a))
  pub in_graph : IsGraphOf graph (entries_of run)

-- the class has this name, and its block and the graph hold it
pub record IsMergedOn (run : Execution) (a b name : ℕ) (state : Block) (graph : Graph) : Type 0 where
  pub name_is : name ≡ min (class_of (entries_of run) a) (class_of (entries_of run) b)
  pub on_block : IsBlockOf state [] (history_of (extended run (Merge a b)) (block_of_patch (entries_of run) a))
  pub in_graph : IsGraphOf graph (entries_of (extended run (Merge a b)))
