-- A store that was opened, and has done nothing since.
use Rattle.std.proofs.Common.{◌≡◌, ◌∙◌, ap}
use Rattle.patch_cache.specs.Contents.{Contents}
use Rattle.patch_store.specs.Meaning.{Store}
use Rattle.patch_store.specs.Opening.{IsOpened}
use Rattle.patch_disks.specs.Opening.{IsUntouched, IsUnused}

pub unused_store : (s : Store) (cache : Contents) → s.cache ≡ cache → (u : IsUntouched cache) → IsOpened u.first s → IsUnused s
unused_store s cache is u opened = record { blocks = u.first; opened = opened; no_steps = ap (λ (x : Contents). x.trace) is ∙ u.no_steps }
