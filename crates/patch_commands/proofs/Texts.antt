use Rattle.std.proofs.Common.{◌≡◌, ◌==◌, ◌++◌, ◌∷◌, [], List, ℕ, false, length, refl, codes, arith}
use Rattle.std.proofs.lemmas.Bool.Decides.{nat_tests}
use Rattle.hex.specs.Hex.{encode_lower}
use Rattle.patch_commands.specs.Reply.{value_text}

pub value_text_some : (bytes : List ℕ) → (length bytes == 0) ≡ false → value_text bytes ≡ codes "value " ++ encode_lower bytes
value_text_some [] h = grind (arith, nat_tests)
value_text_some (x ∷ xs) h = refl

pub value_text_none : (bytes : List ℕ) → length bytes ≡ 0 → value_text bytes ≡ codes "value"
value_text_none [] h = refl
value_text_none (x ∷ xs) h = absurd (omega arith)
