-- Rows by number, as the entries of a map with numbers as keys say them.
use Rattle.std.proofs.Common.{◌≡◌, ◌∙◌, ℕ, zero, suc, ◌+◌, ◌<◌, ◌≤◌, ◌≢◌, Bool, true, false, cond, true≢false, List, [], ◌∷◌, length, get_or, set, map, replicate, count_by, slice_get, Option, Some, None, is_some, inl, inr, refl, sym, ap, subst, arith}
use Rattle.std.specs.Prelude.{nat_eq, IfSome, IsOk, OnOk, Result, Ok, Err}
use Rattle.std.specs.Cmp.{nat_eq_equiv}
use Rattle.std.specs.List.{IsDistinct, range_with_len}
use Rattle.std.specs.Map.{keys_of, lookup, values_of}
use Rattle.std.specs.Option.{option_map}
use Rattle.std.proofs.lemmas.Bool.{cases_eq, cases_lt, eq-eqb, ne_eqb}
use Rattle.std.proofs.lemmas.List.{get_or-set_same, get_or-set_other, get_or_past, length-set, set-get_or}
use Rattle.std.proofs.lemmas.List.Folds.{sum_by-replicate}
use Rattle.std.proofs.lemmas.List.FromFn.{fill_by_all, get_or-map-range_with_len, length-map-range_with_len}
use Rattle.std.proofs.lemmas.List.Sums.{sum_by-set}
use Rattle.std.proofs.lemmas.Map.{lookup-none}
use Rattle.std.proofs.lemmas.Map.Entries.{lookup_from_place, none_past_head}
use Rattle.std.proofs.lemmas.Option.{slice_get-map, slice_get_within}
use Rattle.indexmap.specs.IndexMap.{IndexMap, IsUnique, Updates, keys, set_value_at}
use Rattle.indexmap.proofs.CallerLemmas.{keys-with_value_at, updates-with_value_at}
use Rattle.patch_rows.specs.Rows.{AreRows, rows_of}

module _ {T : Type 0} where
  -- there are as many numbers as the bound says
  pub length-rows : (es : List (ℕ × T)) (bound : ℕ) → length (rows_of es bound) ≡ bound
  length-rows es bound = length-map-range_with_len (λ n. lookup (nat_eq n) es) 0 bound

  within : (es : List (ℕ × T)) (bound n : ℕ) → n < bound → get_or (rows_of es bound) n None ≡ lookup (nat_eq n) es
  within es bound n less = get_or-map-range_with_len (λ m. lookup (nat_eq m) es) 0 bound n n None less (omega arith)

  -- the row of a number is what the map has for it
  pub row : (es : List (ℕ × T)) (bound : ℕ) → AreRows es bound → (n : ℕ) → get_or (rows_of es bound) n None ≡ lookup (nat_eq n) es
  row es bound rows n =
      elim (cases_lt n bound) [
        | inl less ↦ within es bound n less
        | inr beyond ↦ get_or_past (rows_of es bound) n None (omega (arith, length-rows es bound)) ∙ sym (rows.below n beyond)
      ]

  -- what the map says where one number's row has changed
  abbrev pub Says : List (ℕ × T) → List (ℕ × T) → ℕ → Option T → Type 0
  Says es fs k w = (q : ℕ) → lookup (nat_eq q) fs ≡ cond (nat_eq k q) w (lookup (nat_eq q) es)

  here : (es fs : List (ℕ × T)) (k : ℕ) (w : Option T) → Says es fs k w → (q : ℕ) → q ≡ k → lookup (nat_eq q) fs ≡ w
  here es fs k w says q same = says q ∙ ap (λ b. cond b w (lookup (nat_eq q) es)) (eq-eqb k q (sym same))

  elsewhere : (es fs : List (ℕ × T)) (k : ℕ) (w : Option T) → Says es fs k w → (q : ℕ) → q ≢ k → lookup (nat_eq q) fs ≡ lookup (nat_eq q) es
  elsewhere es fs k w says q differ = says q ∙ ap (λ b. cond b w (lookup (nat_eq q) es)) (ne_eqb k q (λ e. differ (sym e)))

  -- then that row has changed, and no other
  pub written : (es fs : List (ℕ × T)) (bound k : ℕ) (w : Option T) → Says es fs k w → rows_of fs bound ≡ set (rows_of es bound) k w
  written es fs bound k w says =
      sym (fill_by_all (λ n. lookup (nat_eq n) fs) (set (rows_of es bound) k w) bound None (length-set (rows_of es bound) k w ∙ length-rows es bound) each)
    where
      each : (j : ℕ) → j < bound → get_or (set (rows_of es bound) k w) j None ≡ lookup (nat_eq j) fs
      each j less =
          elim (cases_eq j k) [
            | inl same ↦
                ap (λ i. get_or (set (rows_of es bound) k w) i None) same
                ∙ get_or-set_same (rows_of es bound) k w None (omega (arith, length-rows es bound, same, less))
                ∙ sym (here es fs k w says j same)
            | inr differ ↦ get_or-set_other (rows_of es bound) k j w None differ ∙ within es bound j less ∙ sym (elsewhere es fs k w says j differ)
          ]

  -- and none from the bound on has one, if the changed one has none there
  pub still_rows : (es fs : List (ℕ × T)) (bound k : ℕ) (w : Option T) → AreRows es bound → IsDistinct nat_eq (keys_of fs) → Says es fs k w → (bound ≤ k → w ≡ None) → AreRows fs bound
  still_rows es fs bound k w rows unique says none = record {
    unique = unique;
    below = λ n beyond. elim (cases_eq n k) [
      | inl same ↦ here es fs k w says n same ∙ none (omega (arith, same, beyond))
      | inr differ ↦ elsewhere es fs k w says n differ ∙ rows.below n beyond
    ];
  }

  -- a greater bound is one too
  pub below_more : (es : List (ℕ × T)) (bound more : ℕ) → AreRows es bound → bound ≤ more → AreRows es more
  below_more es bound more rows longer = record { unique = rows.unique; below = λ n beyond. rows.below n (omega arith) }

  abbrev empty_at : ℕ → Option T
  empty_at n = None

  -- no number has a row where the map is empty
  none_listed : (a n : ℕ) → map empty_at (range_with_len a n) ≡ replicate n None
  none_listed a zero = refl
  none_listed a (suc n) = ap (λ rest. None ∷ rest) (none_listed (a + 1) n)

  pub none_kept : (es : List (ℕ × T)) (bound : ℕ) → es ≡ [] → rows_of es bound ≡ replicate bound None
  none_kept es bound empty = ap (λ all. rows_of all bound) empty ∙ none_listed 0 bound

  pub no_rows : (es : List (ℕ × T)) (bound : ℕ) → es ≡ [] → IsDistinct nat_eq (keys_of es) → AreRows es bound
  no_rows es bound empty unique = record { unique = unique; below = λ n beyond. ap (lookup (nat_eq n)) empty }

  rest_absent : (e : ℕ × T) (es : List (ℕ × T)) → IsDistinct nat_eq (keys_of (e ∷ es)) → lookup (nat_eq e.0) es ≡ None
  rest_absent e es unique = lookup-none (nat_eq e.0) es (none_past_head nat_eq_equiv e.0 e es unique (nat_eq_equiv.refl e.0))

  rest_none : (b : Bool) (x : T) (found : Option T) → cond b (Some x) found ≡ None → (b ≡ false) × (found ≡ None)
  rest_none true x found h = absurd (true≢false (ap is_some h))
  rest_none false x found h = (refl, h)

  rest_rows : (e : ℕ × T) (es : List (ℕ × T)) (bound : ℕ) → AreRows (e ∷ es) bound → AreRows es bound
  unfolding IsDistinct
  rest_rows e es bound rows = record { unique = rows.unique.1; below = λ n beyond. (rest_none (nat_eq n e.0) e.1 (lookup (nat_eq n) es) (rows.below n beyond)).1 }

  first_below : (e : ℕ × T) (es : List (ℕ × T)) (bound : ℕ) → AreRows (e ∷ es) bound → e.0 < bound
  first_below e es bound rows =
      elim (cases_lt e.0 bound) [
        | inl less ↦ less
        | inr beyond ↦ absurd (true≢false (sym (nat_eq_equiv.refl e.0) ∙ (rest_none (nat_eq e.0 e.0) e.1 (lookup (nat_eq e.0) es) (rows.below e.0 beyond)).0))
      ]

  -- as many rows stand as the map has entries
  pub counted : (es : List (ℕ × T)) (bound : ℕ) → AreRows es bound → count_by is_some (rows_of es bound) ≡ length es
  counted [] bound rows = ap (count_by is_some) (none_listed 0 bound) ∙ sum_by-replicate (λ (o : Option T). cond (is_some o) 1 0) bound None ∙ omega arith
  counted (e ∷ es) bound rows =
      let less = first_below e es bound rows in
      let put = written es (e ∷ es) bound e.0 (Some e.1) (λ q. ap (λ b. cond b (Some e.1) (lookup (nat_eq q) es)) (nat_eq_equiv.symm q e.0)) in
      let was : get_or (rows_of es bound) e.0 None ≡ None = within es bound e.0 less ∙ rest_absent e es rows.unique in
      let weight : Option T → ℕ = λ o. cond (is_some o) 1 0 in
      let sums = sum_by-set weight (rows_of es bound) e.0 (Some e.1) None (omega (arith, length-rows es bound, less)) in
      omega (arith, ap (count_by is_some) put, sums, ap weight was, counted es bound (rest_rows e es bound rows))

  -- the entry at a place whose key is known
  pub entry_of : (es : List (ℕ × T)) (place k : ℕ) → slice_get (keys_of es) place ≡ Some k → (v : T) × (slice_get es place ≡ Some (k, v))
  entry_of es place k at = by (slice_get es place) refl (sym (slice_get-map (λ e. e.0) es place) ∙ at)
    where
      by : (o : Option (ℕ × T)) → slice_get es place ≡ o → option_map (λ e. e.0) o ≡ Some k → (v : T) × (slice_get es place ≡ Some (k, v))
      by None there h = absurd (true≢false (sym (ap is_some h)))
      by (Some e) there h = let same : e.0 ≡ k = cc in (e.1, there ∙ ap (λ m. Some (m, e.1)) same)

  -- a row stands below the bound
  pub stands_below : (es : List (ℕ × T)) (bound place k : ℕ) → AreRows es bound → slice_get (keys_of es) place ≡ Some k → k < bound
  stands_below es bound place k rows at =
      let e = entry_of es place k at in
      elim (cases_lt k bound) [
        | inl less ↦ less
        | inr beyond ↦ absurd (true≢false (ap is_some (sym (lookup_from_place nat_eq_equiv es place k e.0 rows.unique e.1) ∙ rows.below k beyond)))
      ]

  row_at_place : (es : List (ℕ × T)) (place k : ℕ) → IsDistinct nat_eq (keys_of es) → slice_get (keys_of es) place ≡ Some k → lookup (nat_eq k) es ≡ slice_get (values_of es) place
  row_at_place es place k unique at =
      let e = entry_of es place k at in
      lookup_from_place nat_eq_equiv es place k e.0 unique e.1 ∙ sym (slice_get-map (λ e. e.1) es place ∙ ap (option_map (λ e. e.1)) e.1)

  -- and is the value at its place
  pub row_read : (es : List (ℕ × T)) (bound place k : ℕ) → AreRows es bound → slice_get (keys_of es) place ≡ Some k → (x : T) → slice_get (values_of es) place ≡ Some x → Some x ≡ get_or (rows_of es bound) k None
  row_read es bound place k rows at x read = sym (row es bound rows k ∙ row_at_place es place k rows.unique at ∙ read)

  -- a place with a number lies within the map
  pub place_within : (es : List (ℕ × T)) (place k : ℕ) → slice_get (keys_of es) place ≡ Some k → place < length es
  place_within es place k at = let e = entry_of es place k at in slice_get_within es place (k, e.0) e.1

  -- taking out a row that does not stand changes nothing
  pub none_taken : (rows : List (Option T)) (n : ℕ) → get_or rows n None ≡ None → rows ≡ set rows n None
  none_taken rows n none = sym (ap (set rows n) (sym none) ∙ set-get_or rows n None)

-- what is so where it went well, if it did
pub when_ok : {A B U : Type 0} (r : Result A B) → OnOk r U → IsOk r → U
when_ok (Ok x) u h = u
when_ok (Err x) u h = absurd (true≢false (sym h))

module _ {T S : Type 0} (m : IndexMap ℕ T S) (unique : IsUnique nat_eq m) (place k : ℕ) (at : slice_get (keys m) place ≡ Some k) where
  -- a row that is written at its place changes, and no other does
  pub says_written : (w : T) → Says m.entries (set_value_at m.entries place w) k (Some w)
  says_written w = let e = entry_of m.entries place k at in (updates-with_value_at m place w nat_eq_equiv unique k e.0 e.1).0

  pub written_rows : (bound : ℕ) → AreRows m.entries bound → (w : T) → AreRows (set_value_at m.entries place w) bound
  written_rows bound rows w =
      still_rows m.entries (set_value_at m.entries place w) bound k (Some w) rows (subst (IsDistinct nat_eq) (sym (keys-with_value_at m place w)) unique) (says_written w)
      (λ beyond. absurd (omega (arith, stands_below m.entries bound place k rows at, beyond)))

  -- a row that is taken out at its place goes, and no other does
  pub says_taken : (left : IndexMap ℕ T S) (taken : Option (ℕ × T)) → taken ≡ slice_get m.entries place → IfSome taken (λ p. Updates nat_eq m left p.0 None) → Says m.entries left.entries k None
  says_taken left taken entry updates =
      let e = entry_of m.entries place k at in
      (subst (λ o. IfSome o (λ p. Updates nat_eq m left p.0 None)) (entry ∙ e.1) updates).0
