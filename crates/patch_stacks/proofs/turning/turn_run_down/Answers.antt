use Rattle.patch_stacks.proofs.Rotating.{run_down-by_turn}
use Rattle.patch_stacks.proofs.turning.turn_run_down.Goals as goal

pub returns : goal.returns
returns g c d = run_down-by_turn c.args.list.now c.rotate_left.new.self c.args.front c.args.k c.args.stop d c.requires.down c.requires.up c.requires.within c.rotate_left.ensures.after
