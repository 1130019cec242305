use Rattle.patch_model.specs.Crash.{crash_set}
use Rattle.patch_engine.proofs.laws.promise.Goals as goal

pub returns-clause-order : goal.returns-clause-order
returns-clause-order g c = λ engine run set at closed. c.promise.ensures.order run engine.groups set at.groups_are closed

pub returns-clause-crashes : goal.returns-clause-crashes
returns-clause-crashes g c = λ engine run landed at.
    let closed = c.crash_sets_are_closed.ensures.closed run landed at.cache_is.legal in
    (closed, c.crash_sets_are_closed.ensures.whole run landed at.cache_is.legal, c.promise.ensures.order run engine.groups (crash_set landed) at.groups_are closed)
