use Rattle.std.proofs.Common.{◌≡◌, ℕ, ◌<◌, List, length, get_or, inl, inr, arith}
use Rattle.std.specs.Prelude.{All}
use Rattle.std.proofs.lemmas.Bool.{cases_lt}
use Rattle.std.proofs.lemmas.List.{get_or_past}
use Rattle.patch_frame.proofs.Parts.{IsBytes}
use Rattle.patch_frame.proofs.PointerFields.{pointer_takes}
use Rattle.patch_frame.proofs.laws.read_pointers_are_spelled.Goals as goal

bytes_of : (bytes : List ℕ) → All (λ byte. byte < 256) bytes → IsBytes bytes
bytes_of bytes all i = elim (cases_lt i (length bytes)) [
  | inl less ↦ all i 0 less
  | inr past ↦ let none : get_or bytes i 0 ≡ 0 = get_or_past bytes i 0 past in omega arith
]

pub returns : goal.returns
returns c = λ largest bytes p are long h. pointer_takes largest bytes p (bytes_of bytes are) long h
