use Rattle.std.proofs.Common.{ℕ, ◌≤◌, ◌++◌, List, length}
use Rattle.json.specs.Token.{Token}
use Rattle.patch_script.specs.PlainTokens.{AreWholes}
use Rattle.patch_script.proofs.plain.read_wholes.Given as goal

-- whatever stands for the rest of the list completes it
abbrev pub invariant-numbers : goal.invariant-numbers
invariant-numbers l =
    (length l.reader ≤ length l.initial.reader)
    × ((more : List ℕ) (rest : List Token) → AreWholes l.reader more rest → AreWholes l.initial.reader (l.numbers.items ++ more) rest)

abbrev pub decreases-numbers : goal.decreases-numbers
decreases-numbers l = length l.reader
