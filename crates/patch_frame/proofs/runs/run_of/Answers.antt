use Rattle.patch_frame.proofs.RunFrames.{reads_more}
use Rattle.patch_frame.proofs.runs.run_of.Goals as goal

pub loop-rest-preserved : goal.loop-rest-preserved
loop-rest-preserved g c =
    let found = c.in-Ok.ensures.found in
    rw (c.in_ok-push.ensures.items, c.split_at.ensures.back) (reads_more c.args.limit c.args.bytes.now c.loop-rest.frames.items c.loop-rest.rest.now c.in-Ok.frame c.loop-rest.invariant found.0 found.1 found.2)
