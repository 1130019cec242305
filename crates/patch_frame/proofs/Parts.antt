-- Tests in order, and fields one after another.
use Rattle.std.proofs.Common.{◌≡◌, ℕ, zero, suc, ◌+◌, ◌-◌, ◌^◌, ◌<◌, ◌≤◌, Bool, true, false, ◌&&◌, eqb, List, [], ◌∷◌, ◌++◌, length, get_or, take, drop, slice_range, Ok, refl, sym, ap, ◌∙◌, inl, inr, arith, add-one, drop-cons}
use Rattle.std.specs.Int.{w16, w32, to_be_bytes, from_be_bytes}
use Rattle.std.specs.Str.{bytes_eq}
use Rattle.std.proofs.lemmas.Bool.{cases_lt, eqb-true, eqb-false, ne_eqb, and_parts}
use Rattle.std.proofs.lemmas.List.{take_at, drop_at, length-take, length-drop, get_or-drop, get_or-take, get_or_past, drop-drop, drop_all, length-replicate, drop-replicate}
use Rattle.std.proofs.lemmas.Nat.{be_bytes_2, be_bytes_4}
use Rattle.std.proofs.lemmas.List.Folds.{drop_split}
use Rattle.std.proofs.lemmas.Slice.Eq.{bytes_eq-Decides}
use Rattle.patch_frame.specs.Field.{zeros, are_zeros, outcome}

-- ---- tests

pub passes : {X E : Type 0} (b : Bool) (e : E) (tests : List (Bool × E)) (x y : X) → b ≡ false → outcome tests x ≡ Ok y → outcome ((b, e) ∷ tests) x ≡ Ok y
passes true e tests x y h rest = absurd cc
passes false e tests x y h rest = rest

pub same_bytes : (xs ys : List ℕ) → bytes_eq xs ys ≡ true → xs ≡ ys
same_bytes xs ys h = (bytes_eq-Decides xs ys).0 h

pub bytes_same : (xs ys : List ℕ) → xs ≡ ys → bytes_eq xs ys ≡ true
bytes_same xs ys h = (bytes_eq-Decides xs ys).1 h

pub positive : (n : ℕ) → eqb n 0 ≡ false → 0 < n
positive n h = let other = eqb-false n 0 h in omega arith

pub not_zero : (n : ℕ) → 0 < n → eqb n 0 ≡ false
not_zero n h = ne_eqb n 0 (λ e. omega arith)

-- ---- bytes

abbrev pub IsBytes : List ℕ → Type 0
IsBytes bytes = (i : ℕ) → get_or bytes i 0 < 256

pub IsBytes-drop : (n : ℕ) (bytes : List ℕ) → IsBytes bytes → IsBytes (drop n bytes)
IsBytes-drop n bytes h i = rw get_or-drop (h (n + i))

pub IsBytes-take : (n : ℕ) (bytes : List ℕ) → IsBytes bytes → IsBytes (take n bytes)
IsBytes-take n bytes h i =
    elim (cases_lt i n) [
      | inl lt ↦ rw (get_or-take n bytes i 0 lt) (h i)
      | inr le ↦ rw (get_or_past (take n bytes) i 0 (omega (arith, length-take n bytes))) (omega arith)
    ]

pub IsBytes-range : (bytes : List ℕ) (n m : ℕ) → IsBytes bytes → IsBytes (slice_range bytes n m)
IsBytes-range bytes n m h = IsBytes-take (m - n) (drop n bytes) (IsBytes-drop n bytes h)

-- ---- zeros

pub length-zeros : (n : ℕ) → length (zeros n) ≡ n
unfolding zeros
length-zeros n = length-replicate n 0

pub drop-zeros : (m n : ℕ) → drop m (zeros n) ≡ zeros (n - m)
unfolding zeros
drop-zeros m n = drop-replicate m n 0

pub zeros_are_zeros : (n : ℕ) → are_zeros (zeros n) ≡ true
unfolding zeros
zeros_are_zeros zero = refl
zeros_are_zeros (suc n) = zeros_are_zeros n

other_byte : (b : ℕ) (bytes : List ℕ) (P : Type 0) → (eqb (suc b) 0 && are_zeros bytes) ≡ true → P
other_byte b bytes P h =
    let zero-is = eqb-true (suc b) 0 (and_parts (eqb (suc b) 0) (are_zeros bytes) h).0 in
    absurd (omega arith)

pub are_zeros_is : (bytes : List ℕ) → are_zeros bytes ≡ true → bytes ≡ zeros (length bytes)
unfolding zeros
are_zeros_is [] h = refl
are_zeros_is (zero ∷ bytes) h = ap (λ (t : List ℕ). 0 ∷ t) (are_zeros_is bytes h)
are_zeros_is (suc b ∷ bytes) h = other_byte b bytes _ h

-- ---- fields

pub length-range : (bytes : List ℕ) (n m : ℕ) → n ≤ m → m ≤ length bytes → length (slice_range bytes n m) ≡ m - n
length-range bytes n m le within = omega (arith, length-take (m - n) (drop n bytes), length-drop n bytes)

-- from n on stands the field, and behind it, from m on, the rest
pub field_then : (bytes : List ℕ) (n m : ℕ) (field rest : List ℕ) → n ≤ m → slice_range bytes n m ≡ field → drop m bytes ≡ rest → drop n bytes ≡ field ++ rest
field_then bytes n m field rest le is behind = drop_split bytes n m le ∙ rw (is, behind) refl

-- the other way
pub skip : (bytes : List ℕ) (n m : ℕ) (field rest : List ℕ) → drop n bytes ≡ field ++ rest → n + length field ≡ m → (slice_range bytes n m ≡ field) × (drop m bytes ≡ rest)
skip bytes n m field rest stands long =
    let len : length field ≡ m - n = omega arith in
    let first : slice_range bytes n m ≡ field = ap (λ (t : List ℕ). take (m - n) t) stands ∙ take_at field rest (m - n) len in
    let m-is : m ≡ n + (m - n) = omega arith in
    let behind : drop m bytes ≡ rest = ap (λ (k : ℕ). drop k bytes) m-is ∙ sym (drop-drop (m - n) n bytes) ∙ ap (λ (t : List ℕ). drop (m - n) t) stands ∙ drop_at field rest (m - n) len in
    (first, behind)

-- one byte
pub byte_then : (bytes : List ℕ) (n : ℕ) (rest : List ℕ) → n < length bytes → drop (n + 1) bytes ≡ rest → drop n bytes ≡ get_or bytes n 0 ∷ rest
byte_then bytes n rest lt behind = rw (← behind) (rw (add-one, drop-cons bytes n 0 lt) refl)

pub skip_byte : (bytes : List ℕ) (n : ℕ) (byte : ℕ) (rest : List ℕ) → drop n bytes ≡ byte ∷ rest → (get_or bytes n 0 ≡ byte) × (drop (n + 1) bytes ≡ rest)
skip_byte bytes n byte rest stands =
    let here : get_or bytes (n + 0) 0 ≡ byte = sym (get_or-drop n bytes 0 0) ∙ ap (λ (t : List ℕ). get_or t 0 0) stands in
    (ap (λ (k : ℕ). get_or bytes k 0) (omega arith) ∙ here, (skip bytes n (n + 1) (byte ∷ []) rest stands refl).1)

-- ---- numbers

pub number_back : (bytes : List ℕ) (n m : ℕ) → IsBytes bytes → n + 4 ≡ m → m ≤ length bytes → slice_range bytes n m ≡ to_be_bytes w32 (from_be_bytes w32 (slice_range bytes n m))
number_back bytes n m fits e within = sym (be_bytes_4 (slice_range bytes n m) _ (length-range bytes n m (omega arith) within ∙ omega arith) (IsBytes-range bytes n m fits) refl)

pub number_back_2 : (bytes : List ℕ) (n m : ℕ) → IsBytes bytes → n + 2 ≡ m → m ≤ length bytes → slice_range bytes n m ≡ to_be_bytes w16 (from_be_bytes w16 (slice_range bytes n m))
number_back_2 bytes n m fits e within = sym (be_bytes_2 (slice_range bytes n m) _ (length-range bytes n m (omega arith) within ∙ omega arith) (IsBytes-range bytes n m fits) refl)

pub number_below : (bytes : List ℕ) → IsBytes bytes → from_be_bytes w32 bytes < 2 ^ 32
number_below bytes fits = omega (arith, fits 0, fits 1, fits 2, fits 3)

pub number_below_2 : (bytes : List ℕ) → IsBytes bytes → from_be_bytes w16 bytes < 2 ^ 16
number_below_2 bytes fits = omega (arith, fits 0, fits 1)

-- ---- padding

pub padding_is : (bytes : List ℕ) (n m : ℕ) → n ≤ m → m ≤ length bytes → are_zeros (slice_range bytes n m) ≡ true → slice_range bytes n m ≡ zeros (m - n)
padding_is bytes n m le within h = are_zeros_is (slice_range bytes n m) h ∙ ap zeros (length-range bytes n m le within)

pub nothing_left : (bytes : List ℕ) (n : ℕ) → length bytes ≡ n → drop n bytes ≡ []
nothing_left bytes n h = drop_all n bytes (omega arith)
