use Rattle.std.proofs.Common.{◌∙◌, sym, ap}
use Rattle.patch_model.specs.State.{entries_of, flying_of, numbers_of}
use Rattle.patch_engine.proofs.Held.{is_out, is_not_out}
use Rattle.patch_engine.proofs.engines.Engine.flight.Goals as goal

pub returns-in-Some : goal.returns-in-Some
returns-in-Some g c = λ run at.
    let held = c.args.self.now.held.items in
    let out = is_out run held c.args.block c.args.number c.in-Some.at c.index.result.now at.flights_are (sym c.in-Some.ensures) (sym c.index.ensures) in
    (out.0, c.numbers.ensures ∙ out.1.numbers_are ∙ ap (λ b. numbers_of (flying_of (entries_of run) b)) out.2)

pub returns-in-None : goal.returns-in-None
returns-in-None g c = λ run at.
    is_not_out c.flights_are_single.ensures.single run c.args.self.now.held.items c.args.block c.args.number at.cache_is.legal at.flights_are (sym c.in-None.ensures)
