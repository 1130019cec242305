-- What a contract sees of rows by number.
use Rattle.std.specs.Prelude.{◌≡◌, ℕ, ◌≤◌, List, map, nat_eq, Option, None, Some, refl, slice_index_or, slice_set}
use Rattle.std.specs.Coded.{Coded, code_by, coded×, coded_ℕ, coded_list, coded_option}
use Rattle.std.specs.List.{IsDistinct, range_with_len}
use Rattle.std.specs.Map.{keys_of, lookup}

-- the row of each number below a bound, if it stands, and how many more come in without memory
pub record Rows (T : Type 0) : Type 0 where
  pub items : List (Option T)
  pub room : ℕ

-- rows are stored as the pair of their fields
abbrev pub rows_code : {T : Type 0} → Coded T → Coded (Rows T)
rows_code {T} code =
    code_by (List (Option T) × ℕ) (coded× (coded_list (coded_option code)) coded_ℕ) (λ r. (r.items, r.room)) (λ p. record { items = p.0; room = p.1 }) (λ _. refl)

module _ {T : Type 0} where
  -- the row of a number; there is none beyond the bound
  abbrev pub row_at : Rows T → ℕ → Option T
  row_at r n = slice_index_or r.items n None

  -- the rows once a number's row is written
  abbrev pub with_row : Rows T → ℕ → T → Rows T
  with_row r n w = record r { items = slice_set r.items n (Some w) }

  -- the row of each number below the bound, by the entries of a map
  abbrev pub rows_of : List (ℕ × T) → ℕ → List (Option T)
  rows_of es bound = map (λ n. lookup (nat_eq n) es) (range_with_len 0 bound)

  -- no number has two rows, and none from the bound on has one
  pub record AreRows (es : List (ℕ × T)) (bound : ℕ) : Type 0 where
    pub unique : IsDistinct nat_eq (keys_of es)
    pub below : (n : ℕ) → bound ≤ n → lookup (nat_eq n) es ≡ None
