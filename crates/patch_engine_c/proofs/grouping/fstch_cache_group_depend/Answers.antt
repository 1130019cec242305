use Rattle.std.proofs.Common.{◌≡◌, ◌∙◌, ap, arith, w32, to_z, of_z, to_z-of_z}
use Rattle.std.specs.Prelude.{Some}
use Rattle.patch_handles.specs.Answering.{number_of}
use Rattle.patch_engine_c.specs.declared.opened.Opened.{Opened}
use Rattle.patch_engine_c.specs.Grouping.{TellsDepending}
use Rattle.patch_engine_c.proofs.Between.{told_so}
use Rattle.patch_engine_c.proofs.grouping.fstch_cache_group_depend.Goals as goal

pub returns-clause-told : goal.returns-clause-told
returns-clause-told c =
    let n : to_z w32 (of_z w32 c.number.result) ≡ number_of c.depend-answer.result = grind (arith, to_z-of_z) in
    told_so c.args.handle.now c.put_back.new.self c.deref_mut.result.now c.depend-answer.new.self
    (λ number. TellsDepending number c.args.later c.args.earlier)
    _ c.depend-answer.result (ap (λ (o : Opened). Some o) c.deref_mut.ensures.value ∙ c.in-Some.ensures.value) c.put_back.ensures.value n c.depend-answer.ensures
