use Rattle.std.proofs.Common.{◌∙◌, ap}
use Rattle.std.specs.Prelude.{Some}
use Rattle.patch_c.specs.declared.opened.Opened.{Opened}
use Rattle.patch_c.specs.Saving.{IsSettled}
use Rattle.patch_c.proofs.Between.{between_so}
use Rattle.patch_c.proofs.syncing.fstch_core_synced.Goals as goal

pub returns-clause-settled : goal.returns-clause-settled
returns-clause-settled c =
    between_so c.args.handle.now c.put_back.new.self c.deref_mut.result.now c.settle.new.self (IsSettled c.args.is_done)
    (ap (λ (o : Opened). Some o) c.deref_mut.ensures.value ∙ c.in-Some.ensures.value) c.put_back.ensures.value c.settle.ensures
