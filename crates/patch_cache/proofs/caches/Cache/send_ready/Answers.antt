use Rattle.std.proofs.Common.{refl, sym, subst}
use Rattle.std.proofs.lemmas.Result.{IfOk-from_err}
use Rattle.patch_model.specs.State.{entries_of}
use Rattle.patch_graph.specs.Between.{HasNoRing}
use Rattle.patch_cache.specs.Contents.{Contents}
use Rattle.patch_cache.specs.Meaning.{IsCacheBy}
use Rattle.patch_cache.proofs.Stepping.{on_err}
use Rattle.patch_cache.proofs.caches.Cache.send_ready.Goals as goal

pub returns-clause-begun : goal.returns-clause-begun
returns-clause-begun g c = λ whole run at why.
    let seen = subst (λ (v : Contents). IsCacheBy whole v run) (sym c.self.view_is) at in
    let ring : HasNoRing (entries_of run) = λ x y apart to back. c.paths_form_no_ring.ensures.back run x y at.legal to back in
    c.begin.ensures.begun whole run at (why, c.in_ok-numbers.ensures (entries_of run) seen.graph ring)

pub returns-in_err-numbers-clause-begun : goal.returns-in_err-numbers-clause-begun
returns-in_err-numbers-clause-begun g c = λ whole run at why. IfOk-from_err c.from_residual.result _ c.from_residual.ensures.0

pub returns-in_err-numbers-clause-trace : goal.returns-in_err-numbers-clause-trace
returns-in_err-numbers-clause-trace g c = IfOk-from_err c.from_residual.result _ c.from_residual.ensures.0

pub returns-in_err-numbers-clause-refused : goal.returns-in_err-numbers-clause-refused
returns-in_err-numbers-clause-refused g c = on_err _ refl
