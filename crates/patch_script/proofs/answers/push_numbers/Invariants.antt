use Rattle.std.proofs.Common.{◌≡◌, ◌++◌, drop, string_bytes}
use Rattle.patch_script.specs.Answer.{behind_commas, numbers_text}
use Rattle.patch_script.proofs.answers.push_numbers.Given as goal

-- what is written so far and what is left are the text of all
abbrev pub invariant-loop-number : goal.invariant-loop-number
invariant-loop-number l = string_bytes l.out ++ behind_commas (drop l.number-index l.rest) ≡ string_bytes l.fn.out ++ numbers_text l.numbers
