use Rattle.std.proofs.Common.{◌≡◌, ◌*◌, zero, suc, List, ℕ, length, ap, arith}
use Rattle.std.proofs.Math.Nat.{mul-suc}
use Rattle.std.proofs.lemmas.List.{length-append}
use Rattle.std.specs.Prelude.{nat_le}
use Rattle.std.specs.List.{repeat}
use Rattle.patch_commands.specs.declared.commands.TheConstants.{MAX_VALUE_TEXT}
use Rattle.patch_commands.specs.Value.{is_short}

-- the length of a piece that is laid n times
pub length-repeat : (n : ℕ) (xs : List ℕ) → length (repeat n xs) ≡ length xs * n
length-repeat zero xs = omega arith
length-repeat (suc n) xs = omega (arith, length-append xs (repeat n xs), mul-suc (length xs) n, length-repeat n xs)

-- the length of a value by that of its piece
pub is_short_product : (piece : List ℕ) (times : ℕ) → is_short piece times ≡ nat_le (length piece * times) MAX_VALUE_TEXT
is_short_product piece times = ap (λ n. nat_le n MAX_VALUE_TEXT) (length-repeat times piece)
