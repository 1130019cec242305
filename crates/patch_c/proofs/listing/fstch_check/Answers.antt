use Rattle.std.proofs.Common.{◌≡◌, ◌∙◌, ap, arith, w32, to_z, of_z, to_z-of_z}
use Rattle.std.specs.Prelude.{Some}
use Rattle.patch_history.specs.History.{History}
use Rattle.patch_store.specs.Meaning.{IsStoreOf}
use Rattle.patch_c.specs.Reading.{HasCounted}
use Rattle.patch_c.specs.declared.opened.Opened.{Opened}
use Rattle.patch_handles.specs.Answering.{number_of}
use Rattle.patch_c.proofs.Between.{read_so}
use Rattle.patch_c.proofs.listing.fstch_check.Goals as goal

pub returns-clause-counted : goal.returns-clause-counted
returns-clause-counted c =
    let n : to_z w32 (of_z w32 c.number.result) ≡ number_of c.count-answer.result = grind (arith, to_z-of_z) in
    read_so c.args.handle.now c.deref.result.now
    (λ number opened. (h : History) → IsStoreOf opened.store h → HasCounted h c.args.entries.now c.args.extents.now (number, c.count-answer.new.entries, c.count-answer.new.extents))
    _ c.count-answer.result (ap (λ (o : Opened). Some o) c.deref.ensures ∙ c.in-Some.ensures.value) n c.count-answer.ensures
