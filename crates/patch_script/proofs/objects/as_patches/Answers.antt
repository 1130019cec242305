use Rattle.std.proofs.Common.{◌≡◌, ◌∙◌, take, Some, sym, ap, take_all}
use Rattle.patch_script.proofs.Rows.{wholes_fit}
use Rattle.patch_script.proofs.objects.as_patches.Goals as goal

pub returns : goal.returns
returns c =
    let over = c.loop-whole-test.false in
    let all : take c.loop-whole.whole-index c.args.wholes.now ≡ c.args.wholes.now = take_all c.loop-whole.whole-index c.args.wholes.now over in
    wholes_fit c.args.wholes.now c.type_inv.wholes ∙ ap Some (sym (c.from_vec.ensures ∙ c.loop-whole.invariant.taken ∙ all))
