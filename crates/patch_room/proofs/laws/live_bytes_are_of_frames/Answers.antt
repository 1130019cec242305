use Rattle.patch_room.proofs.Living.{live_bytes_are}
use Rattle.patch_room.proofs.laws.live_bytes_are_of_frames.Goals as goal

pub returns : goal.returns
returns c = live_bytes_are
