use Rattle.std.proofs.Common.{◌∙◌, refl, sym, subst}
use Rattle.patch_cache.specs.Meaning.{IsCacheOf}
use Rattle.patch_recovery.specs.Reading.{ledger_in}
use Rattle.patch_store.specs.Opening.{unchanged}
use Rattle.patch_store.proofs.Opened.{shelf_opens}
use Rattle.patch_store.proofs.stores.Store.open.Goals as goal

pub returns-in-Ok-clause-opened : goal.returns-in-Ok-clause-opened
returns-in-Ok-clause-opened g c blocks cache =
    let disk = c.in-Ok.ensures.read blocks cache in
    let whole = c.in-Ok.ensures.whole in
    let d = c.in-Ok.disk in
    record {
      ledger = ledger_in d.geometry blocks;
      reads = disk.reads;
      represents = record {
        legal = record {
          bytes = c.blocks_are_bytes.ensures blocks cache;
          reads = disk.reads;
          legal = cache.legal;
          right = tt;
        };
        cache_is = subst (λ x. IsCacheOf x (unchanged blocks)) (sym c.into_store.ensures.cache) cache;
        groups_are = c.into_store.ensures.groups;
        shelf_is = c.into_store.ensures.shelf
            ∙ shelf_opens d.extents blocks d.geometry d.index _ _ whole.divided disk.extents_are disk.slots_are refl whole.left;
        left_out_is = c.into_store.ensures.counted;
      };
    }
