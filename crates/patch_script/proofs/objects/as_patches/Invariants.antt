use Rattle.std.proofs.Common.{◌≡◌, ◌≤◌, length, take}
use Rattle.std.specs.Prelude.{vec_len, vec_capacity}
use Rattle.patch_script.proofs.objects.as_patches.Given as goal

-- there is room for all
abbrev pub invariant-loop-whole : goal.invariant-loop-whole
invariant-loop-whole l = record {
  taken : l.numbers.items ≡ take l.whole-index l.wholes;
  counted : vec_len l.numbers ≡ l.whole-index;
  room : length l.wholes ≤ vec_capacity l.numbers;
}
