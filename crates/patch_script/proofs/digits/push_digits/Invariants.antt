use Rattle.std.proofs.Common.{◌≡◌, ◌++◌, length, string_bytes}
use Rattle.hex.specs.Hex.{encode_lower}
use Rattle.patch_script.proofs.digits.push_digits.Given as goal

-- what is written so far and the digits of what is left are those of all
abbrev pub invariant-loop-block : goal.invariant-loop-block
invariant-loop-block l = string_bytes l.out ++ encode_lower l.rest ≡ string_bytes l.fn.out ++ encode_lower l.bytes

abbrev pub decreases-loop-block : goal.decreases-loop-block
decreases-loop-block l = length l.rest
