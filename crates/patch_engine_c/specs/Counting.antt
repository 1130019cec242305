-- What is told of how far a patch has come, and of counts.
use Rattle.std.specs.Prelude.{ℕ, ℤ, pos, ◌≡◌, ◌<◌, ◌≤◌, length, count_by}
use Rattle.std.specs.Global.{Global}
use Rattle.patch_model.specs.declared.patches.Mark.{Mark}
use Rattle.patch_model.specs.declared.patches.Mark.TheVariants.{Durable}
use Rattle.patch_model.specs.declared.refusals.RefusalKind.TheVariants as kind
use Rattle.patch_model.specs.Entry.{is_live}
use Rattle.patch_model.specs.Execution.{Execution}
use Rattle.patch_model.specs.Refusing.{bare}
use Rattle.patch_model.specs.State.{entries_of}
use Rattle.patch_graph.specs.Meaning.{HasMark}
use Rattle.patch_engine.specs.Meaning.{IsEngineOf}
use Rattle.patch_engine.specs.declared.engines.Engine.{Engine}
use Rattle.patch_engine_c.specs.Answering.{Tells}
use Rattle.patch_engine_c.specs.Numbers.{mark_number}

-- the patch has come so far
pub record IsMarked (run : Execution) (patch : ℕ) (number : ℕ) : Type 0 where
  pub mark : Mark
  pub has : HasMark (entries_of run) patch mark
  pub number_is : number ≡ mark_number mark

abbrev pub TellsMark : (number : ℤ) → (patch : ℕ) → (before now : ℕ) → Engine Global → Type 0
TellsMark number patch before now engine = (run : Execution) → IsEngineOf engine run → Tells number
    (IsMarked run patch now)
    (λ cause. (cause ≡ bare kind.Unknown) × (length (entries_of run) ≤ patch) × (now ≡ before))

-- how many blocks there are, patches were made and are live; and below that number all are durable
pub record HasCounted (run : Execution) (blocks made live durable_below : ℕ) : Type 0 where
  pub blocks_are : blocks ≡ length run.first
  pub made_are : made ≡ length (entries_of run)
  pub live_are : live ≡ count_by is_live (entries_of run)
  pub durable : (n : ℕ) → n < durable_below → HasMark (entries_of run) n Durable

abbrev pub TellsCounts : (number : ℤ) → (blocks made live durable_below : ℕ) → Engine Global → Type 0
TellsCounts number blocks made live durable_below engine =
    (number ≡ pos 0) × ((run : Execution) → IsEngineOf engine run → HasCounted run blocks made live durable_below)
