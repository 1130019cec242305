use Rattle.patch_history.proofs.laws.laws_below.Goals as goal

pub returns : goal.returns
returns c = record {
  frames = record { long = c.frames_are_read_again.ensures.length; fit = c.frames_fit_extents.ensures };
  pointers = record { again = c.pointers_are_read_again.ensures; spelled = c.read_pointers_are_spelled.ensures };
  names = c.names_suffice.ensures;
  puts = c.puts_are_well_made.ensures.well_made;
  again = c.puts_are_well_made.ensures.moves;
  begin = c.stores_grow.ensures.begin;
  grow = c.stores_grow.ensures.grow;
  others = c.stores_grow.ensures.others;
  last = c.ledgers_last.ensures;
  read = c.read_blocks_are_sound.ensures;
  orderly = c.executions_are_orderly.ensures.patches;
  cached = c.cached_blocks_open.ensures;
}
