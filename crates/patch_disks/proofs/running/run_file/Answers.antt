use Rattle.patch_device.specs.contracts.files.FileDeviceDevice.TheImpl.{ghosts}
use Rattle.patch_disks.proofs.Filed.{script_on_one}
use Rattle.patch_disks.proofs.running.run_file.Goals as goal

pub returns-clause-done : goal.returns-clause-done
returns-clause-done g c done =
    script_on_one (ghosts g.row.F g.F.FileExt g.F.FileExt-dict g.F.OpenFile g.F.OpenFile-dict g.F.Destruct-dict) c.args.reclaims c.run_lines_on_file-ran.result
    (g.R.Read.remaining c.args.reader.now.inner) _ _ _ c.in-Ok.lines.items c.in-Ok.ensures.parsed
    c.run_lines_on_file-ran.ensures.run (c.conclude-2.ensures.done done)
