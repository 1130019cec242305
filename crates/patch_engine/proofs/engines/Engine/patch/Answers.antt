use Rattle.std.proofs.Common.{◌≡◌, ◌∙◌, ℕ, sym, ap, subst, length}
use Rattle.patch_model.specs.Execution.{Execution, extended}
use Rattle.patch_model.specs.State.{entries_of}
use Rattle.patch_plans.specs.Groups.{Groups, named, patch_of, with_patch}
use Rattle.patch_plans.specs.Order.{AreGroupsOf}
use Rattle.patch_engine.proofs.Standing.{stands_drained}
use Rattle.patch_engine.proofs.engines.Engine.patch.Goals as goal

pub returns-clause-made : goal.returns-clause-made
returns-clause-made g c = λ run at.
    let a = c.args in
    let old = a.self.now.groups in
    let next : Execution = extended run (patch_of old a.writer a.block a.start a.bytes.now a.after.now a.undo) in
    let number = c.in_ok-no.ensures.number_paged run at.cache_is in
    let joined : c.create_patch.new.self ≡ with_patch old a.writer (length (entries_of run)) = c.in_ok-no.ensures.joined ∙ ap (λ (n : ℕ). with_patch old a.writer n) number in
    record {
      allowed = c.in_ok-no.ensures.allowed_paged run at.cache_is;
      number_is = number;
      groups_are = c.in_ok-no.ensures.joined;
      stands = stands_drained _ c.create_patch.new.cache next c.clear_trace.ensures (c.in_ok-no.ensures.made_paged run at.cache_is)
          (c.flights_stay.ensures run a.block a.start a.bytes.now (named old a.writer a.after.now) a.undo a.self.now.held.items at.flights_are)
          (subst (λ (gs : Groups). AreGroupsOf next gs) (sym joined) (c.order_is_kept.ensures.patches run old a.writer a.block a.start a.bytes.now a.after.now a.undo at.groups_are));
    }
