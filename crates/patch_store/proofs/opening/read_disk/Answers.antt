use Rattle.std.proofs.lemmas.Result.{err_from_is_err_and}
use Rattle.patch_store.specs.Opening.{IsFaultOf}
use Rattle.patch_store.proofs.Tested.{passed_on}
use Rattle.patch_store.proofs.Opened.{pointers_refuse, slots_refuse, slots_read}
use Rattle.patch_store.proofs.opening.read_disk.Goals as goal

pub returns-in_err-extents-clause-read : goal.returns-in_err-extents-clause-read
returns-in_err-extents-clause-read g c blocks cache =
    let p = err_from_is_err_and c.from_residual-in_err-extents.result c.from_residual-in_err-extents.ensures.1 in
    passed_on c.from_residual-in_err-extents.result _ (IsFaultOf blocks) c.in_err-extents.field-0.0 p.0 p.1 p.2
    (pointers_refuse blocks c.in_ok-geometry.geometry c.in_err-extents.field-0.0 (c.in_ok-geometry.ensures.read blocks cache)
    (c.in_err-extents.ensures.opened blocks cache))

pub returns-in_err-index-clause-read : goal.returns-in_err-index-clause-read
returns-in_err-index-clause-read g c blocks cache =
    let p = err_from_is_err_and c.from_residual-in_err-index.result c.from_residual-in_err-index.ensures.1 in
    let extents = c.in_ok-extents.ensures.opened blocks cache in
    passed_on c.from_residual-in_err-index.result _ (IsFaultOf blocks) c.in_err-index.field-0.0 p.0 p.1 p.2
    (slots_refuse c.in_ok-extents.extents blocks c.in_ok-geometry.geometry c.in_err-index.field-0.0 (c.in_ok-geometry.ensures.read blocks cache)
    c.in_ok-extents.ensures.geometry extents (c.in_err-index.ensures.read blocks cache extents))

pub returns-clause-read : goal.returns-clause-read
returns-clause-read g c blocks cache =
    let extents = c.in_ok-extents.ensures.opened blocks cache in
    let scanned = c.in_ok-index.ensures.read blocks cache extents in
    record {
      reads = slots_read c.in_ok-extents.extents blocks c.in_ok-geometry.geometry c.in_ok-index.index (c.in_ok-geometry.ensures.read blocks cache)
          c.in_ok-extents.ensures.geometry extents scanned;
      extents_are = extents;
      slots_are = scanned.say;
    }
