use Rattle.patch_cache.proofs.Passing.{cached_last}
use Rattle.patch_cache.proofs.laws.flushed_images_are_cached.Goals as goal

pub returns : goal.returns
returns c = cached_last
