use Rattle.std.proofs.Common.{ap}
use Rattle.std.proofs.lemmas.Result.{err_from_is_err_and}
use Rattle.patch_extent.specs.Answers.{setting, asked}
use Rattle.patch_extent.specs.Refusals.{append_cause}
use Rattle.patch_extent.proofs.Finishing.{caused, wanting, none_begun, done_as}
use Rattle.patch_extent.proofs.extents.Extents.append.Goals as goal

pub returns-in_err-why_not_appended-clause-answer : goal.returns-in_err-why_not_appended-clause-answer
returns-in_err-why_not_appended-clause-answer g c run h =
    let p = err_from_is_err_and c.from_residual.result c.from_residual.ensures.1 in
    let told = c.in_err-why_not_appended.ensures in
    rw p.1 (record {
      cause = caused _ _ _ (told.cause run h.cache_is) (ap append_cause p.2);
      begun = none_begun run (asked c.args.writer c.args.extent c.args.bytes.now c.args.after.now) (setting c.args.self.now c.args.groups.now c.args.cache.now) h;
    })

pub returns-in_err-bytes-clause-answer : goal.returns-in_err-bytes-clause-answer
returns-in_err-bytes-clause-answer g c run h =
    let p = err_from_is_err_and c.from_residual-in_err-bytes.result c.from_residual-in_err-bytes.ensures.1 in
    rw p.1 (record {
      cause = wanting _ _ (c.in_ok-why_not_appended.ensures.none run h.cache_is) (ap append_cause p.2);
      begun = none_begun run (asked c.args.writer c.args.extent c.args.bytes.now c.args.after.now) (setting c.args.self.now c.args.groups.now c.args.cache.now) h;
    })

pub returns-clause-answer : goal.returns-clause-answer
returns-clause-answer g c run h =
    let done = done_as run c.args.writer c.args.extent c.in_ok-bytes.bytes c.args.bytes.now c.args.after.now _ _ _ c.in_ok-bytes.ensures (c.in_ok-append_counted.ensures.answer run h) in
    record {
      no_cause = c.in_ok-why_not_appended.ensures.none run h.cache_is;
      place_is = done.place_is;
      patch_is = done.patch_is;
      is_written = done.is_written;
      merge_is = done.merge_is;
    }
