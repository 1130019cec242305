use Rattle.std.proofs.Common.{◌≡◌, ◌∙◌, ap, subst}
use Rattle.std.specs.Prelude.{IfOk}
use Rattle.std.specs.List.{flat_map}
use Rattle.std.proofs.lemmas.List.{take_all}
use Rattle.patch_model.specs.Runs.{numbers_in}
use Rattle.patch_plans.specs.Rising.{rising}
use Rattle.patch_plans.specs.Groups.{patches_of}
use Rattle.patch_group.proofs.calls.Groups.runs_of.Goals as goal

pub returns : goal.returns
returns g c =
    let gs = c.args.self.now in
    let all = take_all c.loop-group.group-index c.args.groups.now c.loop-group-test.false in
    subst (λ ns. IfOk c.rising_runs.result (λ all. numbers_in all.items ≡ ns)) (ap rising (c.loop-group.invariant ∙ ap (flat_map (patches_of gs)) all)) c.rising_runs.ensures
