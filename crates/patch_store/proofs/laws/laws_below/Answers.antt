use Rattle.patch_store.proofs.laws.laws_below.Goals as goal

pub returns : goal.returns
returns c = record {
  extends = c.histories_extend.ensures;
  runs = c.standings_run.ensures;
  kept = c.shelves_are_kept.ensures;
  read = c.histories_are_of_stores.ensures.read;
  agree = c.histories_are_of_stores.ensures.agree;
  extents = c.extents_are_kept.ensures;
  shelves = c.plans_continue.ensures.shelf;
  joins = c.plans_continue.ensures.whole;
  cuts = c.plans_continue.ensures.cut;
  stopped = c.plans_continue.ensures.stopped;
  frames = c.commands_fit.ensures.frames;
  goes = c.commands_fit.ensures.reclaims;
}
