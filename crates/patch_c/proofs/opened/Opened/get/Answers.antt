use Rattle.std.proofs.Common.{◌∙◌, ap, sym}
use Rattle.std.specs.Prelude.{option_map}
use Rattle.patch_history.specs.Refusals.{get_cause}
use Rattle.patch_c.proofs.Got.{got_so, absent_so, refused_so}
use Rattle.patch_c.proofs.opened.Opened.get.Goals as goal

pub returns-in-Ok-Some : goal.returns-in-Ok-Some
returns-in-Ok-Some c h represents =
    let got = c.in-Ok-Some.ensures h represents in
    got_so h c.args.key.now c.in-Ok-Some.value.items c.as_slice.result.now c.args.into.now c.args.len.now c.copy_out.result c.copy_out.new.into c.copy_out.new.len
    (got.0, ap (option_map (λ v. v.items)) (sym c.in-Ok-Some.field-0-is) ∙ got.1) c.as_slice.ensures.value
    c.copy_out.ensures.answer c.copy_out.ensures.bytes c.copy_out.ensures.len

pub returns-in-Ok-None : goal.returns-in-Ok-None
returns-in-Ok-None c h represents =
    let got = c.in-Ok-None.ensures h represents in
    absent_so h c.args.key.now c.args.into.now c.args.len.now (got.0, ap (option_map (λ v. v.items)) (sym c.in-Ok-None.field-0-is) ∙ got.1)

pub returns-in-Err : goal.returns-in-Err
returns-in-Err c h represents =
    refused_so h c.args.key.now c.args.into.now c.args.len.now (get_cause c.in-Err.refusal) c.kind.result (c.in-Err.ensures h represents) c.kind.ensures
