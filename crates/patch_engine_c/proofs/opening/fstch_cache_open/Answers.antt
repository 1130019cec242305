use Rattle.std.proofs.Common.{◌≡◌, refl, arith, w32, to_z, of_z, to_z-of_z}
use Rattle.patch_handles.specs.declared.answers.Answer.TheVariants.{Refused}
use Rattle.patch_handles.specs.Answering.{number_of}
use Rattle.patch_engine_c.specs.Answering.{is_refused}
use Rattle.patch_engine_c.proofs.opening.fstch_cache_open.Goals as goal

pub returns-in-Err-clause-told : goal.returns-in-Err-clause-told
returns-in-Err-clause-told c closed =
    let n : to_z w32 (of_z w32 c.number.result) ≡ number_of (Refused c.in-Err.refusal.kind) = grind (arith, to_z-of_z) in
    is_refused c.in-Err.refusal n (c.in-Err.ensures.why, refl)
