use Rattle.std.proofs.Common.{ap, arith}
use Rattle.patch_handles.specs.Answering.{number_of}
use Rattle.patch_engine_c.specs.Paging.{is_refused}
use Rattle.patch_engine_c.proofs.opened.Opened.admit.Goals as goal

pub returns-in-Err : goal.returns-in-Err
returns-in-Err c =
    is_refused c.in-Err.refusal (ap number_of c.admit_answer.ensures) (let long = c.if-bytes-lt-BLOCK.false in omega (arith, long)) c.in-Err.ensures.cause c.in-Err.ensures.refused
