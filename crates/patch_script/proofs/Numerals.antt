-- What a number of JSON is that begins with a digit.
use Rattle.std.proofs.Common.{◌≡◌, ◌<◌, ◌==◌, ◌∷◌, [], List, ℕ, false, length, get_or, slice_range, zero, suc, inl, inr, refl, arith}
use Rattle.std.proofs.lemmas.Bool.{cases_Bool, eqb-true}
use Rattle.std.specs.Float.Numeral.{digits_len, digits_end}
use Rattle.fast_float.specs.Text.{scan}
use Rattle.serde_json.specs.Read.{number_of, number_from}

no_sign : (bs : List ℕ) → 0 < digits_len bs → (get_or bs 0 0 == 45) ≡ false
no_sign [] h = absurd (omega arith)
no_sign (x ∷ xs) h = elim (cases_Bool (x == 45)) [ inl e ↦ absurd (omega (arith, rw (eqb-true x 45 e) at h)) | inr e ↦ e ]

some_digits : (bs : List ℕ) (n : ℕ) → 0 < length (slice_range bs 0 n) → 0 < n
some_digits bs zero h = absurd (omega (arith, h))
some_digits bs (suc n) h = omega arith

-- a numeral with a digit before its point has no sign
pub number_of_digits : (bs : List ℕ) → 0 < length (scan bs).whole → number_of bs ≡ number_from false (scan bs)
unfolding number_of scan
number_of_digits bs some = rw (no_sign bs (omega (arith, some_digits bs (digits_end bs 0) some))) refl
