-- Steps of the loop that lays a piece again and again.
use Rattle.std.proofs.Common.{◌≡◌, ◌∙◌, ◌+◌, ◌*◌, ◌-◌, ◌≤◌, ◌++◌, zero, suc, List, ℕ, length, take, ap, sym, arith, append_assoc}
use Rattle.std.proofs.lemmas.List.{take_at, take-take}
use Rattle.std.proofs.lemmas.Nat.{mul-le}
use Rattle.std.specs.List.{repeat}
use Rattle.patch_commands.specs.Value.{value_of}
use Rattle.patch_commands.proofs.Lengths.{length-repeat}

repeat-add : (m n : ℕ) (p : List ℕ) → repeat (m + n) p ≡ repeat m p ++ repeat n p
repeat-add zero n p =
    let none : 0 + n ≡ n = omega arith in
    ap (λ k. repeat k p) none
repeat-add (suc m) n p =
    let one : suc m + n ≡ suc (m + n) = omega arith in
    ap (λ k. repeat k p) one ∙ ap (λ t. p ++ t) (repeat-add m n p) ∙ sym (append_assoc p (repeat m p) (repeat n p))

-- what a value begins with is the value of fewer times
take-repeat : (m n : ℕ) (p : List ℕ) → m ≤ n → take (length p * m) (repeat n p) ≡ repeat m p
take-repeat m n p h =
    let parts : n ≡ m + (n - m) = omega arith in
    ap (λ k. take (length p * m) (repeat k p)) parts ∙ ap (λ t. take (length p * m) t) (repeat-add m (n - m) p)
    ∙ take_at (repeat m p) (repeat (n - m) p) (length p * m) (length-repeat m p)

-- there is room for what is laid next
pub more_fits : (done more times n room : ℕ) → done + more ≤ times → room ≡ n * times → n * done + n * more ≤ room
more_fits done more times n room h fits =
    let sum : n * (done + more) ≡ n * done + n * more = omega arith in
    let most = mul-le n (done + more) n times (omega arith) h in
    omega (arith, sum, most)

-- what is laid is laid again, or the first of it
pub laid_more : (p old new : List ℕ) (done more : ℕ) → more ≤ done
    → take (length p * done + length p * more) new ≡ take (length p * done) old ++ take (length p * more) old
    → take (length p * done) old ≡ value_of p done
    → take (length p * (done + more)) new ≡ value_of p (done + more)
laid_more p old new done more less step laid =
    let n = length p in
    let sum : n * (done + more) ≡ n * done + n * more = omega arith in
    let first : take (n * more) old ≡ repeat more p =
    sym (take-take (n * more) (n * done) old (mul-le n more n done (omega arith) less))
    ∙ ap (λ t. take (n * more) t) laid ∙ take-repeat more done p less in
    ap (λ k. take k new) sum ∙ step ∙ ap (λ t. t ++ take (n * more) old) laid ∙ ap (λ t. repeat done p ++ t) first
    ∙ sym (repeat-add done more p)
