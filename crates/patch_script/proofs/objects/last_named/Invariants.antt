use Rattle.std.proofs.Common.{◌≡◌, ◌-◌, length, take}
use Rattle.serde_json.specs.Data.{no_members}
use Rattle.serde_json.specs.Find.{get_member}
use Rattle.patch_script.specs.Object.{puts}
use Rattle.patch_script.proofs.objects.last_named.Given as goal

-- none of those that were passed has the name
abbrev pub invariant-loop-passed : goal.invariant-loop-passed
invariant-loop-passed l = get_member l.name (puts l.members no_members) ≡ get_member l.name (puts (take (length l.members - l.passed) l.members) no_members)
