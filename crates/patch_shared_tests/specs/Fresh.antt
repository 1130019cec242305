-- A cache to which nothing has happened.
use Rattle.std.specs.Prelude.{ℕ, List, [], ◌≡◌}
use Rattle.patch_cache.specs.Contents.{Contents}
use Rattle.patch_cache.specs.Meaning.{IsCacheOf}

-- it was opened on some blocks
pub record IsUnchanged (cache : Contents) : Type 0 where
  pub blocks : List (List ℕ)
  pub represents : IsCacheOf cache (record { first = blocks; steps = [] })
  pub no_steps : cache.trace ≡ []
