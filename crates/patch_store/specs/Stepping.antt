-- How an extent is won back in steps: its first live frames move, and it is emptied where no other is left.
use Rattle.std.specs.Prelude.{ℕ, nat_le, if◌then◌else◌, List, length, Result}
use Rattle.patch_model.specs.declared.refusals.RefusalKind.TheVariants as kind
use Rattle.patch_model.specs.Refusing.{bare}
use Rattle.patch_frame.specs.Slot.{SlotFields}
use Rattle.patch_history.specs.declared.refusals.ReclaimRefusal.{ReclaimRefusal}
use Rattle.patch_history.specs.Command.{Reply, Done, Refused}
use Rattle.patch_history.specs.Refusals.{reclaim_cause}
use Rattle.patch_store.specs.declared.stepping.Reclaimed.{Reclaimed}
use Rattle.patch_store.specs.declared.stepping.Reclaimed.TheVariants as reclaimed
use Rattle.patch_store.specs.Replies.{reply_to}

-- what has become of an extent with these live frames, of which so many may move
abbrev pub told_of : (most : ℕ) → List (ℕ × SlotFields) → Reclaimed
told_of most frames = if nat_le (length frames) most then reclaimed.Emptied else reclaimed.Begun

-- where frames are left the reclaim is told as one that is given up
abbrev pub reply_of_step : Reclaimed → Reply
reply_of_step reclaimed.Emptied = Done
reply_of_step reclaimed.Begun = Refused (bare kind.OutOfMemory)

abbrev pub reply_of_some : Result Reclaimed ReclaimRefusal → Reply
reply_of_some result = reply_to reclaim_cause reply_of_step result
