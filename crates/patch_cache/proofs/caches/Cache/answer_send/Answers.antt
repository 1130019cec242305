use Rattle.std.proofs.Common.{Some, refl, sym, ap, ◌∙◌}
use Rattle.patch_cache.proofs.Absent.{unmissed}
use Rattle.patch_cache.proofs.Answering.{send_refused, send_given_up, runs_same}
use Rattle.patch_cache.proofs.caches.Cache.answer_send.Goals as goal

pub returns-in-Some-clause-answer : goal.returns-in-Some-clause-answer
returns-in-Some-clause-answer g c = λ whole run runs.
    send_refused whole run c.args.block c.refusal.result c.why_not_sent.new.self c.args.flights.now (sym (c.in-Some.ensures.cause whole run runs.cache_is ∙ unmissed c.args.self.now c.args.block _ c.requires) ∙ ap Some (sym c.refusal.ensures))
    (runs_same whole run c.args.self.now c.why_not_sent.new.self c.args.flights.now c.args.flights.now c.why_not_sent.ensures.same refl runs)

pub returns-in-Ok-clause-answer : goal.returns-in-Ok-clause-answer
returns-in-Ok-clause-answer g c = λ whole run runs.
    c.in-Ok.ensures.answer whole run (runs_same whole run c.args.self.now c.why_not_sent.new.self c.args.flights.now c.args.flights.now c.why_not_sent.ensures.same refl runs)
    (sym (c.in_default.ensures.cause whole run runs.cache_is ∙ unmissed c.args.self.now c.args.block _ c.requires))

pub returns-in-Err-clause-answer : goal.returns-in-Err-clause-answer
returns-in-Err-clause-answer g c = λ whole run runs.
    send_given_up whole run c.args.block c.bare.result c.send_and_hold.new.self c.send_and_hold.new.flights (sym (c.in_default.ensures.cause whole run runs.cache_is ∙ unmissed c.args.self.now c.args.block _ c.requires)) c.bare.ensures
    (runs_same whole run c.args.self.now c.send_and_hold.new.self c.args.flights.now c.send_and_hold.new.flights (c.in-Err.ensures.refused ∙ c.why_not_sent.ensures.same) c.in-Err.ensures.held runs)
