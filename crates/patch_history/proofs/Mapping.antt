-- What a map says after a put and after a delete.
use Rattle.std.proofs.Common.{◌≡◌, ◌≢◌, ℕ, ◌∙◌, inl, inr, true, false, List, [], ◌∷◌, ◌++◌, Some, None, refl, sym, ap}
use Rattle.std.specs.Prelude.{if◌then◌else◌}
use Rattle.std.specs.Str.{bytes_eq}
use Rattle.std.proofs.lemmas.Bool.{cases_Bool}
use Rattle.std.proofs.lemmas.Slice.Eq.{bytes_eq-Decides}
use Rattle.patch_frame.specs.Frame.{Content}
use Rattle.patch_recovery.specs.Ledger.{value_in}
use Rattle.patch_history.specs.Map.{without_key, with_value}

apart : (a b : List ℕ) → bytes_eq a b ≡ false → a ≢ b
apart a b h e = let on = (bytes_eq-Decides a b).1 e in let no : false ≡ true = sym h ∙ on in cc

pub value_without : (map : List Content) (key k : List ℕ)
    → value_in (without_key map key) k ≡ (if bytes_eq key k then None else value_in map k)
value_without [] key k = elim (cases_Bool (bytes_eq key k)) [ inl u ↦ rw u refl | inr u ↦ rw u refl ]
value_without (c ∷ cs) key k = elim (cases_Bool (bytes_eq c.key key)) [
  | inl u ↦ rw u (value_without cs key k ∙ (elim (cases_Bool (bytes_eq key k)) [
    | inl v ↦ rw v refl
    | inr v ↦ (let off : bytes_eq c.key k ≡ false = ap (λ x. bytes_eq x k) ((bytes_eq-Decides c.key key).0 u) ∙ v in rw (v, off) refl)
  ]))
  | inr u ↦ rw u (elim (cases_Bool (bytes_eq c.key k)) [
    | inl v ↦ (elim (cases_Bool (bytes_eq key k)) [
      | inl w ↦ absurd (apart c.key key u ((bytes_eq-Decides c.key k).0 v ∙ sym ((bytes_eq-Decides key k).0 w)))
      | inr w ↦ rw (v, w) refl
    ])
    | inr v ↦ rw v (value_without cs key k)
  ])
]

value_behind : (map : List Content) (c : Content) (k : List ℕ) → value_in map k ≡ None
    → value_in (map ++ c ∷ []) k ≡ (if bytes_eq c.key k then Some c.value else None)
value_behind [] c k h = refl
value_behind (x ∷ xs) c k h = elim (cases_Bool (bytes_eq x.key k)) [
  | inl u ↦ absurd (let g : Some x.value ≡ None = rw u at h in cc)
  | inr u ↦ rw u (value_behind xs c k (rw u at h))
]

value_before : (map : List Content) (c : Content) (k : List ℕ) → bytes_eq c.key k ≡ false
    → value_in (map ++ c ∷ []) k ≡ value_in map k
value_before [] c k h = rw h refl
value_before (x ∷ xs) c k h =
    elim (cases_Bool (bytes_eq x.key k)) [ inl u ↦ rw u refl | inr u ↦ rw u (value_before xs c k h) ]

pub value_with : (map : List Content) (key value k : List ℕ)
    → value_in (with_value map key value) k ≡ (if bytes_eq key k then Some value else value_in map k)
value_with map key value k = elim (cases_Bool (bytes_eq key k)) [
  | inl u ↦ (let none : value_in (without_key map key) k ≡ None = value_without map key k ∙ (rw u refl) in
      value_behind (without_key map key) (record { key = key; value = value }) k none ∙ (rw u refl))
  | inr u ↦ value_before (without_key map key) (record { key = key; value = value }) k u ∙ value_without map key k ∙ (rw u refl)
]
