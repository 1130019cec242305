use Rattle.std.proofs.Common.{◌≡◌, ◌∙◌, ap, arith, w32, to_z, of_z, to_z-of_z}
use Rattle.std.specs.Prelude.{Some}
use Rattle.patch_handles.specs.Answering.{number_of}
use Rattle.patch_engine_c.specs.declared.opened.Opened.{Opened}
use Rattle.patch_engine_c.specs.Paging.{TellsAdmitting}
use Rattle.patch_engine_c.proofs.Between.{told_so}
use Rattle.patch_engine_c.proofs.paging.fstch_core_cache_admit.Goals as goal

pub returns-clause-told : goal.returns-clause-told
returns-clause-told c =
    let n : to_z w32 (of_z w32 c.number.result) ≡ number_of c.admit-answer.result = grind (arith, to_z-of_z) in
    told_so c.args.handle.now c.put_back.new.self c.deref_mut.result.now c.admit-answer.new.self
    (λ number. TellsAdmitting number c.args.block c.args.bytes.now)
    _ c.admit-answer.result (ap (λ (o : Opened). Some o) c.deref_mut.ensures.value ∙ c.in-Some.ensures.value) c.put_back.ensures.value n c.admit-answer.ensures
