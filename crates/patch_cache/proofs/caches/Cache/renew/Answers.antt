use Rattle.std.proofs.Common.{◌≡◌, ◌∙◌, ℕ, Bool, true, false, map, sym, subst, arith}
use Rattle.patch_model.specs.Execution.{Execution}
use Rattle.patch_model.specs.History.{history_of}
use Rattle.patch_model.specs.Renewed.{renewed}
use Rattle.patch_model.specs.StepOf.{step_of}
use Rattle.patch_cache.specs.Contents.{Contents}
use Rattle.patch_cache.specs.Meaning.{IsCacheBy}
use Rattle.patch_cache.proofs.Clean.{anew}
use Rattle.patch_cache.proofs.Residency.{contents_of}
use Rattle.patch_cache.proofs.caches.Cache.renew.Goals as goal

begun : (g : _) (c : goal.After-clear g) (whole : Bool) (run : Execution) → IsCacheBy whole c.args.self.now run
    → IsCacheBy whole (contents_of c.self.inside.rows.items c.new.result 0 c.self.inside.live (map step_of c.clear.new.self.items)) (renewed run)
begun g c whole run at =
    let seen = subst (λ (v : Contents). IsCacheBy whole v run) (sym c.self.view_is) at in
    let zero : c.self.inside.live ≡ 0 = let none = c.if-self-gt0.false in omega (arith, none) in
    let legal = c.executions_begin_anew.ensures.legal run at.legal in
    let many = c.executions_begin_anew.ensures.count run in
    subst (λ (n : ℕ). IsCacheBy whole (contents_of c.self.inside.rows.items c.new.result 0 n (map step_of c.clear.new.self.items)) (renewed run)) (sym zero)
    (anew whole _ c.new.result (map step_of c.clear.new.self.items) run seen (sym seen.live ∙ zero) c.new.ensures legal many
    (λ b known. c.blocks_are_coherent.ensures.coherent (history_of (renewed run) b) b (c.executions_are_orderly.ensures.blocks (renewed run) b legal (omega (arith, known, many))))
    (λ b known. c.executions_begin_anew.ensures.held run b known)
    (λ b flies. c.flights_are_single.ensures.holds run b at.legal flies))

pub returns-clause-answer : goal.returns-clause-answer
returns-clause-answer g c = λ run at. begun g c true run at

pub returns-clause-paged : goal.returns-clause-paged
returns-clause-paged g c = λ run at. begun g c false run at
