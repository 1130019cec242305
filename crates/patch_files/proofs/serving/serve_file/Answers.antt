use Rattle.patch_device.specs.contracts.files.FileDeviceDevice.TheImpl.{ghosts}
use Rattle.patch_files.proofs.Writers.{script_on_one}
use Rattle.patch_files.proofs.serving.serve_file.Goals as goal

pub returns-clause-done : goal.returns-clause-done
returns-clause-done g c done =
    script_on_one (ghosts g.row.F g.F.FileExt g.F.FileExt-dict g.F.OpenFile g.F.OpenFile-dict g.F.Destruct-dict) c.serve_lines_on_file-served.result
    (g.R.Read.remaining c.args.reader.now.inner) _ _ _ c.args.writers c.in-Ok.lines.items c.in-Ok.ensures.parsed
    c.serve_lines_on_file-served.ensures.served (c.conclude-2.ensures.done done)
