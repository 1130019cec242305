use Rattle.std.proofs.Common.{refl}
use Rattle.patch_disks.proofs.Filed.{on_one}
use Rattle.patch_disks.proofs.running.run_lines_on_file.Goals as goal

pub returns : goal.returns
returns g c = record {
  run =
      on_one _ c.args.reclaims c.answer_and_save-ran.result c.args.lines.items _ _ c.in_ok-device.device c.answer_and_save-ran.new.device c.in_ok-device.ensures.lasts
      (c.answer_and_save-ran.ensures.run tt _ refl c.in_ok-device.ensures.opened);
}
