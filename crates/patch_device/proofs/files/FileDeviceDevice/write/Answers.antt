use Rattle.std.proofs.Common.{◌≡◌, [], ◌∷◌, ◌++◌, Some, inr, ◌∙◌}
use Rattle.patch_device.proofs.Filing.{written_then, lands_then}
use Rattle.patch_device.proofs.files.FileDeviceDevice.write.Goals as goal

-- a write that failed may have landed, and is taken for one that did
pub returns-then-not-done-clause-refused : goal.returns-then-not-done-clause-refused
returns-then-not-done-clause-refused g c =
    let same : c.fault-then-not-done.new.self.past.first ≡ c.args.self.now.past.first = rw c.fault-then-not-done.ensures.past c.note_write.ensures.first in
    let more : c.fault-then-not-done.new.self.past.events ≡ c.args.self.now.past.events ++ Some (c.args.n, c.args.from.now) ∷ [] =
    rw c.fault-then-not-done.ensures.past c.note_write.ensures.events in
    rw c.fault-then-not-done.ensures.fault
    (inr (written_then c.args.self.now.past.first c.fault-then-not-done.new.self.past.first c.args.self.now.past.events c.fault-then-not-done.new.self.past.events
    (c.args.n, c.args.from.now) same more))

pub returns-then-not-done-clause-left : goal.returns-then-not-done-clause-left
returns-then-not-done-clause-left g c =
    let same : c.fault-then-not-done.new.self.past.first ≡ c.args.self.now.past.first = rw c.fault-then-not-done.ensures.past c.note_write.ensures.first in
    let more : c.fault-then-not-done.new.self.past.events ≡ c.args.self.now.past.events ++ Some (c.args.n, c.args.from.now) ∷ [] =
    rw c.fault-then-not-done.ensures.past c.note_write.ensures.events in
    lands_then c.args.self.now.barriers c.fault-then-not-done.new.self.barriers c.args.self.now.past.first c.fault-then-not-done.new.self.past.first
    c.args.self.now.past.events c.fault-then-not-done.new.self.past.events
    (c.args.n, c.args.from.now) (c.fault-then-not-done.ensures.barriers ∙ c.note_write.ensures.barriers) same more

pub returns-clause-written : goal.returns-clause-written
returns-clause-written g c =
    written_then c.args.self.now.past.first c.note_write.new.self.past.first c.args.self.now.past.events c.note_write.new.self.past.events (c.args.n, c.args.from.now)
    c.note_write.ensures.first c.note_write.ensures.events

pub returns-clause-left : goal.returns-clause-left
returns-clause-left g c =
    lands_then c.args.self.now.barriers c.note_write.new.self.barriers c.args.self.now.past.first c.note_write.new.self.past.first c.args.self.now.past.events c.note_write.new.self.past.events
    (c.args.n, c.args.from.now) c.note_write.ensures.barriers c.note_write.ensures.first c.note_write.ensures.events
