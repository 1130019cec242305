-- The fields of a line's object: what each kind of value is, and where a name may be missing.
use Rattle.std.specs.Prelude.{ℕ, ◌^◌, ◌∷◌, ◌++◌, [], List, Option, Some, None, option_map, nat_lt, nat_le, if◌then◌else◌}
use Rattle.std.specs.Result.{result_ok}
use Rattle.patch_model.specs.declared.limits.TheConstants.{MAX_WRITER}
use Rattle.serde_json.specs.Data.{Data, Items, no_items, item}
use Rattle.serde_json.specs.Find.{get, as_number, as_u64, as_str, as_array}
use Rattle.hex.specs.Hex.{decode_of}

infixl 10 ◌>>=◌
abbrev pub ◌>>=◌ : {A B : Type 0} → Option A → (A → Option B) → Option B
(Some x) >>= f = f x
None >>= f = None

abbrev pub if_fits : ℕ → Option ℕ
if_fits n = if nat_lt n (2 ^ 32) then Some n else None

-- A whole number of 32 bits. A number with a sign, a fraction or an exponent is none, since those are read as
-- negative numbers or floats.
abbrev pub whole : Data → Option ℕ
whole d = as_number d >>= as_u64 >>= if_fits

-- the whole numbers of a list
abbrev pub wholes_of : Items → Option (List ℕ)
wholes_of no_items = Some []
wholes_of (item d ds) = whole d >>= λ n. wholes_of ds >>= λ ns. Some (n ∷ ns)

-- what is read, after a front
abbrev pub with_front : List ℕ → Option (List ℕ) → Option (List ℕ)
with_front front read = read >>= λ rest. Some (front ++ rest)

abbrev pub wholes : Data → Option (List ℕ)
wholes d = as_array d >>= wholes_of

-- the bytes of hexadecimal text
abbrev pub hex_bytes : Data → Option (List ℕ)
hex_bytes d = as_str d >>= λ text. result_ok (decode_of text)

-- a field that has to be there
abbrev pub needed : {A : Type 0} → (Data → Option A) → List ℕ → Data → Option A
needed kind name line = get name line >>= kind

abbrev pub given : {A : Type 0} → (Data → Option A) → A → Option Data → Option A
given kind default None = Some default
given kind default (Some d) = kind d

-- a field that may be missing
abbrev pub optional : {A : Type 0} → (Data → Option A) → A → List ℕ → Data → Option A
optional kind default name line = given kind default (get name line)

-- the value of a field that may be missing, where it is there
abbrev pub if_there : {A : Type 0} → (Data → Option A) → List ℕ → Data → Option (Option A)
if_there kind name line = optional (λ d. option_map Some (kind d)) None name line

-- what a writer's number may be
abbrev pub writer_number : Data → Option ℕ
writer_number d = whole d >>= λ n. if nat_le n MAX_WRITER then Some n else None

-- a length that is not 0
abbrev pub positive : Data → Option ℕ
positive d = whole d >>= λ n. if nat_lt 0 n then Some n else None
