use Rattle.std.specs.Prelude.{string_bytes}
use Rattle.patch_disks.proofs.Coming.{all_saved}
use Rattle.patch_disks.proofs.answering.sync_all.Goals as goal

pub returns-clause-answered : goal.returns-clause-answered
returns-clause-answered g c honest r h writer stands =
    all_saved g.D.Device r h writer (string_bytes c.in_ok-told.told) c.save.new.store c.args.device.now c.save.new.device
    c.in_ok-told.ensures (c.in_ok-save.ensures.saved honest h stands)
