use Rattle.std.proofs.Common.{◌∙◌, List, ℕ, ap}
use Rattle.patch_cache.specs.Viewing.{bytes_at}
use Rattle.patch_cache.proofs.caches.Cache.copied.Goals as goal

pub returns-in-Ok-clause-bytes : goal.returns-in-Ok-clause-bytes
returns-in-Ok-clause-bytes g c = λ whole run names at.
    c.in-Ok.ensures ∙ ap (λ (bytes : List ℕ). bytes_at bytes c.args.start c.args.len) (c.bytes_of-bytes.ensures.answer whole run names at)
