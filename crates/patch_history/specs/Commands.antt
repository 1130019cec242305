-- The commands and replies of the code.
use Rattle.std.specs.Prelude.{ℕ}
use Rattle.patch_history.specs.Command.{Command, Reply, Put, Get, Delete, Reclaim, Upgrade, Group, Engage, Disengage}
use Rattle.patch_history.specs.Command.{Depend, CloseGroup, Pending, Done, Value, Absent, GroupMade, Count, Refused}
use Rattle.patch_history.specs.declared.commands.Command.{Command as CodeCommand}
use Rattle.patch_history.specs.declared.commands.Command.TheVariants as asked
use Rattle.patch_history.specs.declared.commands.Reply.{Reply as CodeReply}
use Rattle.patch_history.specs.declared.commands.Reply.TheVariants as answered

abbrev pub command_of : {A : Type 0} → CodeCommand A → Command
command_of (asked.Put key value) = Put key value
command_of (asked.Get key) = Get key
command_of (asked.Delete key) = Delete key
command_of (asked.Reclaim extent) = Reclaim extent
command_of asked.Upgrade = Upgrade
command_of asked.Group = Group
command_of (asked.Engage group) = Engage group
command_of (asked.Disengage group) = Disengage group
command_of (asked.Depend group on) = Depend group on
command_of (asked.CloseGroup group) = CloseGroup group
command_of (asked.Pending group) = Pending group

abbrev pub reply_told : {A : Type 0} → CodeReply A → Reply
reply_told answered.Done = Done
reply_told (answered.Value bytes) = Value bytes
reply_told answered.Absent = Absent
reply_told (answered.GroupMade group) = GroupMade group
reply_told (answered.Count count) = Count count
reply_told (answered.Refused refusal) = Refused refusal

-- a writer with a command
abbrev pub asked_by : {A : Type 0} → ℕ × CodeCommand A → ℕ × Command
asked_by ask = (ask.0, command_of ask.1)
