-- What is told of opening a cache, and of beginning anew.
use Rattle.std.specs.Prelude.{ℕ, ℤ, ◌≡◌, false, List, [], IsTrue, IfSome, None, Some}
use Rattle.std.specs.Global.{Global}
use Rattle.patch_model.specs.Execution.{Execution}
use Rattle.patch_model.specs.Renewed.{renewed}
use Rattle.patch_cache.specs.Contents.{is_resident}
use Rattle.patch_cache.specs.Paging.{AreBlocks}
use Rattle.patch_cache.specs.Refusals.{IsCause}
use Rattle.patch_engine.specs.Meaning.{IsEngineOf}
use Rattle.patch_engine.specs.Refusals.{why_not_opened, why_not_begun_anew}
use Rattle.patch_engine.specs.declared.engines.Engine.{Engine}
use Rattle.patch_engine_c.specs.declared.handle.Handle.{Handle}
use Rattle.patch_engine_c.specs.Answering.{Tells}

-- there may be so many blocks; the engine represents an execution of no steps, whatever the first blocks are, and has none of them
pub record IsOpened (blocks : ℕ) (engine : Engine Global) : Type 0 where
  pub allowed : why_not_opened blocks ≡ None
  pub stands : (first : List (List ℕ)) → AreBlocks blocks first → IsEngineOf engine (record { first = first; steps = [] })
  pub none : (n : ℕ) → is_resident engine.cache n ≡ false

-- an open of a closed handle
abbrev pub TellsOpening : (number : ℤ) (blocks : ℕ) → (old new : Handle) → Type 0
TellsOpening number blocks old new = Tells number
    (IsTrue new.is_open × IfSome new.sealed.opened (λ opened. IsOpened blocks opened.engine))
    (λ cause. IsCause (why_not_opened blocks) cause × (new ≡ old))

-- no patch is live and no group is open: the execution begins anew, of the cached blocks
pub record IsBegunAnew (run : Execution) (old new : Engine Global) : Type 0 where
  pub allowed : why_not_begun_anew run old.groups ≡ None
  pub blocks_are : new.cache.blocks ≡ old.cache.blocks
  pub stands : IsEngineOf new (renewed run)

abbrev pub TellsRenewing : (number : ℤ) → (old new : Engine Global) → Type 0
TellsRenewing number old new = (run : Execution) → IsEngineOf old run → Tells number
    (IsBegunAnew run old new)
    (λ cause. (why_not_begun_anew run old.groups ≡ Some cause) × (new ≡ old))
