use denote.Exit.{no}
use denote.Param.Send.{param_send, arg_send}
use Rattle.patch_files.proofs.Sending.{file_send}
use Rattle.patch_files.proofs.Writers.{fresh_store, new_store}
use Rattle.patch_files.proofs.serving.serve_lines_on_file.Goals as goal

pub serve_jobs-requires-send-D : goal.serve_jobs-requires-send-D
serve_jobs-requires-send-D g c κs within = param_send _ _ (arg_send _ no _ (file_send _ c.type_bounds.send-F))

pub returns-in-Ok : goal.returns-in-Ok
returns-in-Ok g c =
    let opened = c.in_ok-device.ensures in
    let served = c.in-Ok.ensures in
    record {
      served = (
        c.in_ok-device.device,
        c.in-Ok.device,
        opened.lasts,
        served.lasts tt opened.lasts,
        served.served tt _ (fresh_store _ _ opened.new opened.opened) c.args.writers c.args.lines.items
            c.in_ok-jobs.ensures.jobs,
      );
    }

pub serve_jobs-requires-clause-new : goal.serve_jobs-requires-clause-new
serve_jobs-requires-clause-new g c κs within = new_store _ c.in_ok-device.ensures.new
