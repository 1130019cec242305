use Rattle.std.proofs.Common.{◌≡◌, ◌∙◌, ap, subst}
use Rattle.std.specs.Prelude.{IfOk}
use Rattle.std.specs.List.{flat_map}
use Rattle.patch_model.specs.Runs.{numbers_in}
use Rattle.patch_plans.specs.Rising.{rising}
use Rattle.patch_plans.specs.Groups.{patches_of}
use Rattle.patch_group.proofs.Befores.{after_before}
use Rattle.patch_group.proofs.calls.Groups.runs_before.Goals as goal

pub returns : goal.returns
returns g c =
    let gs = c.args.self.now in
    let names = c.as_slice.ensures.value ∙ c.in_ok-groups.ensures in
    subst (λ ns. IfOk c.runs_of.result (λ runs. numbers_in runs.items ≡ ns)) (ap (λ names. rising (flat_map (patches_of gs) names)) names ∙ after_before gs c.args.writer)
    c.runs_of.ensures
