use Rattle.std.proofs.Common.{◌≡◌, ◌∙◌, ap, arith, w32, to_z, of_z, to_z-of_z}
use Rattle.std.specs.Prelude.{Some}
use Rattle.patch_history.specs.Command.{Pending}
use Rattle.patch_c.specs.declared.opened.Opened.{Opened}
use Rattle.patch_handles.specs.Answering.{number_of}
use Rattle.patch_c.specs.Answering.{TellsOf}
use Rattle.patch_c.proofs.Between.{read_so}
use Rattle.patch_c.proofs.groups.fstch_group_pending.Goals as goal

pub returns-clause-told : goal.returns-clause-told
returns-clause-told c writer =
    let n : to_z w32 (of_z w32 c.number.result) ≡ number_of c.pending-answer.result = grind (arith, to_z-of_z) in
    read_so c.args.handle.now c.deref.result.now
    (λ number opened. TellsOf writer (Pending c.args.group) number c.args.changes.now c.pending-answer.new.changes opened.store opened.store)
    _ c.pending-answer.result (ap (λ (o : Opened). Some o) c.deref.ensures ∙ c.in-Some.ensures.value) n (c.pending-answer.ensures writer)
