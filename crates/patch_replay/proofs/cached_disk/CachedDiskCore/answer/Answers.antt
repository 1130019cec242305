use Rattle.std.proofs.lemmas.Result.{IfOk-weaker}
use Rattle.patch_replay.specs.Answering.{IsAnswered}
use Rattle.patch_replay.proofs.cached_disk.CachedDiskCore.answer.Goals as goal

pub returns-in-Patch : goal.returns-in-Patch
unfolding IsAnswered
returns-in-Patch c = λ w at. rw (c.in-Patch.is) (c.ask.ensures w at)

pub returns-in-Merge : goal.returns-in-Merge
unfolding IsAnswered
returns-in-Merge c = λ w at. rw (c.in-Merge.is) (c.ask_cache.ensures w at)

pub returns-in-Send : goal.returns-in-Send
unfolding IsAnswered
returns-in-Send c = λ w at. rw (c.in-Send.is) (c.ask_cache-in-Send.ensures w at)

pub returns-in-Complete : goal.returns-in-Complete
unfolding IsAnswered
returns-in-Complete c = λ w at. rw (c.in-Complete.is) (c.ask_cache-in-Complete.ensures w at)

pub returns-in-Group : goal.returns-in-Group
unfolding IsAnswered
returns-in-Group c = λ w at. rw (c.in-Group.is) (c.ask-in-Group.ensures w at)

pub returns-in-Engage : goal.returns-in-Engage
unfolding IsAnswered
returns-in-Engage c = λ w at. rw (c.in-Engage.is) (c.ask-in-Engage.ensures w at)

pub returns-in-Disengage : goal.returns-in-Disengage
unfolding IsAnswered
returns-in-Disengage c = λ w at. rw (c.in-Disengage.is) (c.ask-in-Disengage.ensures w at)

pub returns-in-Depend : goal.returns-in-Depend
unfolding IsAnswered
returns-in-Depend c = λ w at. rw (c.in-Depend.is) (c.ask-in-Depend.ensures w at)

pub returns-in-Close : goal.returns-in-Close
unfolding IsAnswered
returns-in-Close c = λ w at. rw (c.in-Close.is) (c.ask-in-Close.ensures w at)

pub returns-in-Pending : goal.returns-in-Pending
unfolding IsAnswered
returns-in-Pending c = λ w at. rw (c.in-Pending.is) (c.ask-in-Pending.ensures w at)

pub returns-in-Sync : goal.returns-in-Sync
unfolding IsAnswered
returns-in-Sync c = λ w at. rw (c.in-Sync.is) (c.sync.ensures w at)

pub returns-in-Show : goal.returns-in-Show
returns-in-Show c = λ w at. rw (c.in-Show.is) (IfOk-weaker c.show.result _ _ (λ answer right. (w, right, at)) (c.show.ensures w at))

pub returns-in-Disk : goal.returns-in-Disk
returns-in-Disk c = λ w at.
    rw (c.in-Disk.is) (IfOk-weaker c.show_disk.result _ _ (λ answer right. (w, right, c.show_disk.ensures.same w at)) (c.show_disk.ensures.answer w at))

pub returns-in_ok-view-in-View : goal.returns-in_ok-view-in-View
unfolding IsAnswered
returns-in_ok-view-in-View c = λ w at. rw (c.in-View.is) (rw (c.in_ok-view-in-View.ensures) at (c.ask_cache-in-View.ensures w at))
