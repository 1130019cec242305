use Rattle.std.proofs.Common.{◌∙◌, ap}
use Rattle.patch_cache.specs.Contents.{Contents}
use Rattle.patch_shared_tests.proofs.tests.store_of.Goals as goal

pub returns : goal.returns
returns g c =
    let unchanged = c.cache_of-cache.ensures in (
      unchanged.blocks,
      record { opened = c.in-Ok.ensures.opened unchanged.blocks unchanged.represents; no_steps = ap (λ (x : Contents). x.trace) c.in-Ok.ensures.cache ∙ unchanged.no_steps },
    )
