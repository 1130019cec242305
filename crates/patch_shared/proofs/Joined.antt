-- What is put together of one writer more.
use Rattle.std.proofs.Common.{◌≡◌, ℕ, ◌+◌, ◌∙◌, Bool, true, false, List, [], ◌∷◌, ◌++◌, length, Ok, Err, refl, sym, ap, arith}
use Rattle.std.specs.Prelude.{if◌then◌else◌, is_ok, is_err, Result, sum_by}
use Rattle.std.proofs.lemmas.List.{length_push}
use Rattle.std.proofs.lemmas.List.Sums.{sum_by_push}

pub not_failed : {T E : Type 0} (r : Result T E) (failed : Bool) → failed ≡ is_err r → failed ≡ false → is_ok r ≡ true
not_failed (Ok x) failed is none = refl
not_failed (Err e) failed is none = absurd (let both : true ≡ false = sym is ∙ none in cc)

-- a writer's list is pushed, and its share joined
pub joined_more : {X Y : Type 0} (size : X → ℕ) (lists next : List X) (one : X) (yielded : List Y) (item : Y) (good : Bool) (long next_long : ℕ)
    (parts had now share : ℕ) (amount sum total counted : ℕ) → good ≡ true → next ≡ (if good then lists ++ one ∷ [] else lists)
    → next_long ≡ (if good then long + 1 else long) → (long ≡ length yielded) × (had ≡ parts + length yielded) × (sum ≡ amount + sum_by size lists)
    → now ≡ had + share → share ≡ 1 → total ≡ sum + counted → counted ≡ size one
    → (next_long ≡ length (yielded ++ item ∷ [])) × (now ≡ parts + length (yielded ++ item ∷ [])) × (total ≡ amount + sum_by size next)
joined_more size lists next one yielded item good long next_long parts had now share amount sum total counted ok items longer so_far merged whole grown size_is =
    let more = length_push yielded item in
    let grows : next_long ≡ long + 1 = longer ∙ ap (λ b. if b then long + 1 else long) ok in
    let all : sum_by size next ≡ sum_by size lists + size one =
    ap (sum_by size) (items ∙ ap (λ b. if b then lists ++ one ∷ [] else lists) ok) ∙ sum_by_push size lists one in
    let a = so_far.0 in
    let b = so_far.1 in
    let c = so_far.2 in
    (omega (arith, more, grows, a), omega (arith, more, b, merged, whole), omega (arith, all, c, grown, size_is))
