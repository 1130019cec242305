use Rattle.patch_model.specs.Execution.{extended}
use Rattle.patch_model.specs.Step.{Merge}
use Rattle.patch_engine.proofs.Standing.{stands_drained}
use Rattle.patch_engine.proofs.engines.Engine.merge.Goals as goal

pub returns-clause-merged : goal.returns-clause-merged
returns-clause-merged g c = λ run at.
    let told = c.in_ok-name.ensures.merged_paged run at.cache_is in
    let step = Merge c.args.a c.args.b in
    record {
      legal = told.0;
      name_is = told.1;
      stands = stands_drained _ c.merge.new.self (extended run step) c.clear_trace.ensures told.2
          (c.flights_begin_and_end.ensures.merged run c.args.a c.args.b c.args.self.now.held.items at.flights_are)
          (c.order_is_kept.ensures.steps run c.args.self.now.groups step at.groups_are);
    }
