use Rattle.std.proofs.Common.{◌≡◌, ◌*◌, length, rules, arith}
use Rattle.patch_commands.proofs.Doubling.{laid_more, more_fits}
use Rattle.patch_commands.proofs.values.lay.Goals as goal

pub lay_again-requires-clause-fits : goal.lay_again-requires-clause-fits
lay_again-requires-clause-fits c =
    let room : length c.loop-done.room ≡ length c.args.piece.now * c.args.times = search rules in
    more_fits c.loop-done.done c.min-more.result c.args.times (length c.args.piece.now) _ (omega arith) room

pub loop-done-preserved : goal.loop-done-preserved
loop-done-preserved c = (
  omega arith,
  omega arith,
  laid_more c.args.piece.now c.loop-done.room c.lay_again.new.room c.loop-done.done c.min-more.result (omega arith) c.lay_again.ensures c.loop-done.invariant.2,
)
