use Rattle.patch_room.proofs.laws.laws_below.Goals as goal

pub returns : goal.returns
returns c = record {
  long = c.frames_are_read_again.ensures.length;
  fit = λ f d format fits. (c.frames_fit_extents.ensures f d format fits).2;
  extents = c.extents_are_kept.ensures;
  kept = c.shelves_are_kept.ensures;
  agree = c.histories_are_of_stores.ensures.agree;
  frames = c.commands_fit.ensures.frames;
  puts = c.commands_fit.ensures.puts;
}
