use Rattle.std.proofs.Common.{◌++◌, List, length}
use Rattle.json.specs.Token.{Token}
use Rattle.patch_script.specs.PlainTokens.{AreMembers}
use Rattle.patch_script.specs.declared.objects.Member.{Member}
use Rattle.patch_script.proofs.plain.read_members.Given as goal

-- whatever stands for the rest of the members completes the object
abbrev pub invariant-members : goal.invariant-members
invariant-members l = (more : List Member) (rest : List Token) → AreMembers l.reader more rest → AreMembers l.initial.reader (l.row.items ++ more) rest

abbrev pub decreases-members : goal.decreases-members
decreases-members l = length l.reader
