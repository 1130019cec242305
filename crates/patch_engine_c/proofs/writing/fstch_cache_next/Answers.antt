use Rattle.std.proofs.Common.{◌≡◌, ◌∙◌, ap, arith, w32, to_z, of_z, to_z-of_z}
use Rattle.std.specs.Prelude.{Some}
use Rattle.patch_handles.specs.Answering.{number_of}
use Rattle.patch_engine_c.specs.declared.opened.Opened.{Opened}
use Rattle.patch_engine_c.specs.Writing.{TellsNext}
use Rattle.patch_engine_c.proofs.Between.{read_so}
use Rattle.patch_engine_c.proofs.writing.fstch_cache_next.Goals as goal

pub returns-clause-told : goal.returns-clause-told
returns-clause-told c =
    let n : to_z w32 (of_z w32 c.number.result) ≡ number_of c.next_ready-answer.result = grind (arith, to_z-of_z) in
    read_so c.args.handle.now c.deref_mut.result.now
    (λ number. TellsNext number c.args.block.now c.next_ready-answer.new.block)
    _ c.next_ready-answer.result (ap (λ (o : Opened). Some o) c.deref_mut.ensures.value ∙ c.in-Some.ensures.value) n c.next_ready-answer.ensures.told
