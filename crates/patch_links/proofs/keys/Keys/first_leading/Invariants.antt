use Rattle.std.proofs.Common.{◌≡◌, ℕ, ◌<◌, None}
use Rattle.patch_links.specs.State.{find}
use Rattle.patch_links.proofs.keys.Keys.first_leading.Given as goal

abbrev pub invariant-loop-no : goal.invariant-loop-no
invariant-loop-no g l = (n : ℕ) → n < l.no → find l.self.numbers n ≡ None
