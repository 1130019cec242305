use Rattle.std.proofs.Common.{◌≡◌, ◌∙◌, ap, arith, w32, to_z, of_z, to_z-of_z}
use Rattle.std.specs.Prelude.{Some}
use Rattle.patch_handles.specs.Answering.{number_of}
use Rattle.patch_engine_c.specs.declared.opened.Opened.{Opened}
use Rattle.patch_engine_c.specs.Reading.{TellsWithout}
use Rattle.patch_engine_c.proofs.Between.{told_so}
use Rattle.patch_engine_c.proofs.reading.fstch_core_cache_without.Goals as goal

pub returns-clause-told : goal.returns-clause-told
returns-clause-told c =
    let n : to_z w32 (of_z w32 c.number.result) ≡ number_of c.without-answer.result = grind (arith, to_z-of_z) in
    told_so c.args.handle.now c.put_back.new.self c.deref_mut.result.now c.without-answer.new.self
    (λ number. TellsWithout number c.args.block c.args.patches.now c.args.start c.args.into.now c.without-answer.new.into c.args.which.now c.without-answer.new.which)
    _ c.without-answer.result (ap (λ (o : Opened). Some o) c.deref_mut.ensures.value ∙ c.in-Some.ensures.value) c.put_back.ensures.value n c.without-answer.ensures
