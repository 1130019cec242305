use Rattle.std.proofs.Common.{subst, sym}
use Rattle.patch_cache.specs.Meaning.{IsCacheOf}
use Rattle.patch_history.specs.History.{execution_of}
use Rattle.patch_c.proofs.opened.Opened.unsynced.Goals as goal

pub returns : goal.returns
returns c h represents =
    c.live.ensures.answer (execution_of h) (subst (λ k. IsCacheOf k (execution_of h)) (sym c.cache.ensures) represents.cache_is)
