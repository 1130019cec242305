use Rattle.std.proofs.Common.{take, ◌≡◌}
use Rattle.std.specs.Prelude.{count_by}
use Rattle.patch_links.specs.State.{leads_at}
use Rattle.patch_links.proofs.joining.count_leading.Given as goal

abbrev pub invariant-loop-no : goal.invariant-loop-no
invariant-loop-no g l = l.count ≡ count_by (leads_at l.keys.numbers l.key) (take l.no-index l.numbers)
