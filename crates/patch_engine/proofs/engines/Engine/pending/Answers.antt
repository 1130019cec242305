use Rattle.patch_engine.proofs.engines.Engine.pending.Goals as goal

pub returns-clause-count : goal.returns-clause-count
returns-clause-count g c = λ run at. c.pending.ensures.count_paged run at.cache_is at.groups_are
