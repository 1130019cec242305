use Rattle.std.specs.Prelude.{ℕ, ◌≡◌, List, length}
use Rattle.patch_cache.specs.Meaning.{IsCacheOf}
use Rattle.patch_plans.specs.Meaning.{AreExtentsOf}
use Rattle.patch_recovery.specs.Reading.{ledger_in}
use Rattle.patch_store.specs.Opening.{unchanged, AreScanned}
use Rattle.patch_store.proofs.scanning.read_slots.Given as goal

-- the slots so far are read
abbrev pub invariant-loop-slot : goal.invariant-loop-slot
invariant-loop-slot g l = (length l.index ≡ l.slot)
    × ((blocks : List (List ℕ)) → IsCacheOf l.cache (unchanged blocks) → AreExtentsOf l.extents (unchanged blocks)
    → AreScanned (ledger_in l.geometry blocks) blocks l.index l.slot)
