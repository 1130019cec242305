use Rattle.patch_files.proofs.Writers.{script_served}
use Rattle.patch_files.proofs.serving.serve_script.Goals as goal

pub returns-in-Ok-serve_lines-clause-done : goal.returns-in-Ok-serve_lines-clause-done
returns-in-Ok-serve_lines-clause-done g c honest done =
    script_served (g.R.Read.remaining c.args.reader.now.inner) _ _ _ _ _ c.args.writers c.in-Ok.lines.items
    c.in-Ok.ensures.parsed (c.in-Ok-serve_lines.ensures.served honest) (c.conclude-in-Ok-serve_lines.ensures.done done)
