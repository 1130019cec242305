use Rattle.std.proofs.Common.{◌∙◌, ap, not}
use Rattle.patch_model.specs.Entry.{marks_durable}
use Rattle.patch_model.specs.State.{entries_of}
use Rattle.patch_group.proofs.Pending.{pending_at}
use Rattle.patch_group.proofs.counting.none_pending_below.Goals as goal

pub returns-clause-answer : goal.returns-clause-answer
returns-clause-answer g c run r n below =
    let h = c.durable_below.ensures.answer run r n below in
    pending_at (entries_of run) n h.0 (c.executions_are_orderly.ensures.patches run r.legal) h.1 h.2 ∙ ap (λ m. not (marks_durable m)) h.3

pub returns-clause-paged : goal.returns-clause-paged
returns-clause-paged g c run r n below =
    let h = c.durable_below.ensures.paged run r n below in
    pending_at (entries_of run) n h.0 (c.executions_are_orderly.ensures.patches run r.legal) h.1 h.2 ∙ ap (λ m. not (marks_durable m)) h.3
