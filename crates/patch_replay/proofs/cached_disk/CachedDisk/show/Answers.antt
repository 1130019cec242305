use Rattle.std.proofs.Common.{◌∙◌, ap, refl}
use Rattle.patch_script.specs.declared.answers.Answer.TheVariants.{Shown, Refused}
use Rattle.patch_replay.specs.Answering.{IsAnswered}
use Rattle.patch_replay.proofs.cached_disk.CachedDisk.show.Goals as goal

pub returns-in_ok-from_slice-in-Ok : goal.returns-in_ok-from_slice-in-Ok
unfolding IsAnswered
returns-in_ok-from_slice-in-Ok c = λ w at. let r = c.in-Ok.ensures.answer w.run at.runs.cache_is in (rw (r.0) (ap Shown (c.in_ok-from_slice-in-Ok.ensures ∙ r.1)), refl)

pub returns-in-Err : goal.returns-in-Err
unfolding IsAnswered
returns-in-Err c = λ w at.
    (rw (c.in-Err.ensures.answer w.run at.runs.cache_is) (ap Refused c.refusal.ensures), refl)
