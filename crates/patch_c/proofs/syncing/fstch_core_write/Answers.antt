use Rattle.std.proofs.Common.{◌≡◌, ◌∙◌, ap, arith, w32, to_z, of_z, to_z-of_z}
use Rattle.std.specs.Prelude.{Some, slice_get}
use Rattle.patch_c.specs.declared.opened.Opened.{Opened}
use Rattle.patch_handles.specs.Answering.{number_of}
use Rattle.patch_c.specs.Tape.{events_of, event_told}
use Rattle.patch_c.proofs.Between.{read_so}
use Rattle.patch_c.proofs.syncing.fstch_core_write.Goals as goal

pub returns-clause-told : goal.returns-clause-told
returns-clause-told c =
    let n : to_z w32 (of_z w32 c.number.result) ≡ number_of c.event-answer.result = grind (arith, to_z-of_z) in
    read_so c.args.handle.now c.deref.result.now
    (λ number opened. (number, c.event-answer.new.is_barrier, c.event-answer.new.block, c.event-answer.new.into)
    ≡ event_told (slice_get (events_of opened.device) c.args.number) c.args.is_barrier.now c.args.block.now c.args.into.now)
    _ c.event-answer.result (ap (λ (o : Opened). Some o) c.deref.ensures ∙ c.in-Some.ensures.value) n c.event-answer.ensures
