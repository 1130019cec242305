use Rattle.std.proofs.Common.{◌∙◌, ◌∷◌, refl, sym, ap}
use Rattle.patch_store.proofs.Tried.{to_current, to_empty}
use Rattle.patch_store.proofs.trials.Trial.place_for.Goals as goal

pub returns-in-Some-clause-placed : goal.returns-in-Some-clause-placed
returns-in-Some-clause-placed c s alike =
    to_current s c.args.self.now c.args.len c.in-Some.place alike c.in-Some.ensures.same (c.in-Some.ensures.chosen s alike)

pub returns-clause-placed : goal.returns-clause-placed
returns-clause-placed c s alike =
    to_empty s c.args.self.now _ c.args.len c.from.result alike (c.in_default.ensures.chosen s alike)
    (c.in_ok-first.ensures.cases.0 ∙ ap (λ e. e ∷ c.in_ok-first.rest.now) (sym c.from.ensures)) refl
