use Rattle.std.proofs.Common.{◌∙◌, sym, ap}
use Rattle.patch_model.specs.History.{history_of, image}
use Rattle.patch_engine.proofs.Held.{is_out, is_not_out}
use Rattle.patch_engine.proofs.engines.Engine.image.Goals as goal

pub returns-in-Some-clause-answer : goal.returns-in-Some-clause-answer
returns-in-Some-clause-answer g c = λ run at.
    let held = c.args.self.now.held.items in
    let out = is_out run held c.args.block c.args.number c.in-Some.at c.index.result.now at.flights_are (sym c.in-Some.ensures) (sym c.index.ensures) in
    (out.0, c.image.ensures.bytes ∙ out.1.image_is ∙ ap (λ b. image (history_of run b)) out.2)

pub returns-in-None-clause-answer : goal.returns-in-None-clause-answer
returns-in-None-clause-answer g c = λ run at.
    is_not_out c.flights_are_single.ensures.single run c.args.self.now.held.items c.args.block c.args.number at.cache_is.legal at.flights_are (sym c.in-None.ensures)
