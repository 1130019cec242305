-- Places in lists of numbers.
use Rattle.std.proofs.Common.{◌≡◌, ℕ, zero, suc, ◌<◌, ◌∙◌, List, [], ◌∷◌, length, refl, arith}
use Rattle.std.proofs.lemmas.Bool.{false≢true}
use Rattle.std.specs.Prelude.{slice_index_or, IfOk, OnOk, OnErr, Ok, Err}
use Rattle.std.specs.Result.{IsErr}
use Rattle.std.proofs.Common.{Result}
use Rattle.std.specs.List.Sorted.{IsPermutation}
use Rattle.std.proofs.lemmas.List.Sorted.{Contains-permutation}
use Rattle.patch_model.specs.Member.{In, In-from_Contains, Contains-from_In}

-- what stands at a place of a list is the same whatever is given for places past its end
pub same_default : (xs : List ℕ) (i a b : ℕ) → i < length xs → slice_index_or xs i a ≡ slice_index_or xs i b
same_default [] i a b h = absurd (omega arith)
same_default (x ∷ xs) zero a b h = refl
same_default (x ∷ xs) (suc i) a b h = same_default xs i a b (omega arith)

pub place-of : (xs : List ℕ) (n : ℕ) → In xs n → (i : ℕ) × (i < length xs) × (slice_index_or xs i 0 ≡ n)
place-of xs n i = let k = Contains-from_In xs n i in (k.0, k.1, same_default xs k.0 0 n k.1 ∙ k.2)

pub at-place : (xs : List ℕ) (i n : ℕ) → i < length xs → slice_index_or xs i 0 ≡ n → In xs n
at-place xs i n h at = In-from_Contains xs n (i, h, same_default xs i n 0 h ∙ at)

-- a list in another order has the same numbers
pub turned-held : (xs ys : List ℕ) (n : ℕ) → IsPermutation xs ys → In xs n → In ys n
turned-held xs ys n p i = In-from_Contains ys n (Contains-permutation xs ys n p (Contains-from_In xs n i))

pub ok-more : {X E : Type 0} → (r : Result X E) (P Q : X → Type 0) → IfOk r P → ((x : X) → P x → Q x) → IfOk r Q
ok-more (Ok x) P Q h f = f x h
ok-more (Err e) P Q h f = tt

pub err-more : {X E : Type 0} → (r : Result X E) (P Q : Type 0) → OnErr r P → (P → Q) → OnErr r Q
err-more (Ok x) P Q h f = tt
err-more (Err e) P Q h f = f h

pub either-way : {X E : Type 0} → (r : Result X E) (P Q R : Type 0) → OnOk r P → OnErr r Q → (P → R) → (Q → R) → R
either-way (Ok x) P Q R h k f e = f h
either-way (Err x) P Q R h k f e = e k

pub ok-on : {X E : Type 0} → (r : Result X E) (P Q : Type 0) → OnOk r P → (P → Q) → OnOk r Q
ok-on (Ok x) P Q h f = f h
ok-on (Err e) P Q h f = tt

-- what failed holds no value
pub ok-if : {X E : Type 0} → (r : Result X E) (P : X → Type 0) → IsErr r → IfOk r P
ok-if (Ok x) P failed = absurd (cc)
ok-if (Err e) P failed = tt

pub done-if : {X E : Type 0} → (r : Result X E) (P : Type 0) → IsErr r → OnOk r P
done-if (Ok x) P failed = absurd (false≢true failed)
done-if (Err e) P failed = tt

-- what holds in any case holds of what failed
pub err-still : {X E : Type 0} → (r : Result X E) (P : Type 0) → P → OnErr r P
err-still (Ok x) P h = tt
err-still (Err e) P h = h
