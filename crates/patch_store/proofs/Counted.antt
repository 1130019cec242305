-- How many patches the steps of a plan make, and what the shelf and the groups are behind some of them.
use Rattle.std.proofs.Common.{◌≡◌, ℕ, zero, suc, ◌+◌, ◌<◌, ◌∙◌, Bool, true, false, inl, inr, List, [], ◌∷◌, ◌++◌, length, map, take, refl, sym, ap, arith}
use Rattle.std.specs.Prelude.{◌==◌, Option, Some, None, option_to_list}
use Rattle.std.specs.List.{range_with_len}
use Rattle.std.proofs.lemmas.Bool.{cases_Bool}
use Rattle.std.proofs.lemmas.Bool.Decides.{nat_tests}
use Rattle.std.proofs.lemmas.List.{length-append, take-append-le, take-map}
use Rattle.patch_model.specs.Step.{Step}
use Rattle.patch_plans.specs.Groups.{Groups, named, with_patch}
use Rattle.patch_recovery.specs.Change.{Change, Data, Point, Fill, Clear, Widen, Made}
use Rattle.patch_plans.specs.Extents.{Extents, extent_at, generation_at, offset_at}
use Rattle.patch_plans.specs.Planning.{touched, part, parts, names_behind, append_plan}
use Rattle.patch_plans.specs.Writing as extents
use Rattle.patch_plans.specs.Writing.{named_plan, with_patches, merge_with, merge_behind, written, steps_by, steps_of}
use Rattle.patch_history.specs.History.{IsWhole}
use Rattle.patch_history.specs.Shelf.{Shelf, after_point, after_change, after_plan}
use Rattle.patch_history.specs.StoreState.{Standing, made_by, creates, onto}
use Rattle.patch_history.specs.Steps.{ShelvesGoOn}

-- Merges make none.

creates_merged : (n : ℕ) (before : Option ℕ) (steps : List Step) → creates (option_to_list (merge_with n before) ++ steps) ≡ creates steps
creates_merged n None steps = refl
creates_merged n (Some before) steps = refl

creates_behind : (s : Extents) (n : ℕ) (c : Change) (steps : List Step) → creates (option_to_list (merge_behind s n c) ++ steps) ≡ creates steps
creates_behind s n (Data extent offset bytes) steps = refl
creates_behind s n (Point extent generation offset) steps = elim (cases_Bool (offset == 0)) [
  | inl u ↦ rw u refl
  | inr u ↦ rw u (creates_merged n (extent_at s extent).point steps)
]
creates_behind s n (Fill slot fields) steps = refl
creates_behind s n (Clear slot) steps = refl
creates_behind s n Widen steps = refl

-- Each change of a plan makes one.

pub creates_by : (choices : List Bool) (s : Extents) (n : ℕ) (plan : List Made) → creates (steps_by choices (written s n plan)) ≡ length plan
creates_by [] s n [] = refl
creates_by (true ∷ choices) s n [] = refl
creates_by (false ∷ choices) s n [] = refl
creates_by [] s n (m ∷ plan) = let e = creates_by [] (extents.after_change s n m.change) (n + 1) plan in omega (arith, e)
creates_by (true ∷ choices) s n (m ∷ plan) =
    let e = creates_behind s n m.change (steps_by choices (written (extents.after_change s n m.change) (n + 1) plan))
    ∙ creates_by choices (extents.after_change s n m.change) (n + 1) plan in
    omega (arith, e)
creates_by (false ∷ choices) s n (m ∷ plan) = let e = creates_by choices (extents.after_change s n m.change) (n + 1) plan in omega (arith, e)

pub creates_all : (st : Standing) (plan : List Made) (steps : List Step) → IsWhole st plan steps → creates steps ≡ length plan
creates_all st plan steps whole = ap creates whole.1 ∙ creates_by whole.0 st.shelf.extents (made_by st) plan

pub length-named : (gs : Groups) (w : Option ℕ) (n : ℕ) (plan : List Made) → length (named_plan gs w n plan) ≡ length plan
length-named gs w n [] = refl
length-named gs w n (m ∷ plan) = let e = length-named (with_patch gs w n) w (n + 1) plan in omega (arith, e)

pub creates_of : (choices : List Bool) (s : Extents) (gs : Groups) (w : Option ℕ) (n : ℕ) (plan : List Made) → creates (steps_of choices s gs w n plan) ≡ length plan
creates_of choices s gs w n plan = creates_by choices s n (named_plan gs w n plan) ∙ length-named gs w n plan

pub onto_length : (plan made : List Made) → length (onto plan made) ≡ length made + length plan
onto_length [] made = omega arith
onto_length (m ∷ plan) made = let e = onto_length plan (m ∷ made) in omega (arith, e)

-- The groups after one patch more.

pub with_more : (gs : Groups) (w : Option ℕ) (n count : ℕ) → with_patches gs w n (suc count) ≡ with_patch (with_patches gs w n count) w (n + count)
with_more gs w n zero = let z : n ≡ n + 0 = omega arith in ap (with_patch gs w) z
with_more gs w n (suc count) =
    let z : n + 1 + count ≡ n + suc count = omega arith in
    with_more (with_patch gs w n) w (n + 1) count ∙ ap (with_patch (with_patches (with_patch gs w n) w (n + 1) count) w) z

-- What patches name has no part in what a shelf keeps.

pub shelf_named : (s : Shelf) (k : ℕ) (gs : Groups) (w : Option ℕ) (n : ℕ) (plan : List Made) → after_plan s k (named_plan gs w n plan) ≡ after_plan s k plan
shelf_named s k gs w n [] = refl
shelf_named s k gs w n (m ∷ plan) = shelf_named (after_change s k m.change) (k + 1) (with_patch gs w n) w (n + 1) plan

pub take_named : (i : ℕ) (gs : Groups) (w : Option ℕ) (n : ℕ) (plan : List Made) → take i (named_plan gs w n plan) ≡ named_plan gs w n (take i plan)
take_named zero gs w n [] = refl
take_named zero gs w n (m ∷ plan) = refl
take_named (suc i) gs w n [] = refl
take_named (suc i) gs w n (m ∷ plan) =
    ap (λ rest. record m { after = named gs w m.after } ∷ rest) (take_named i (with_patch gs w n) w (n + 1) plan)

pub shelf_taken : (s : Shelf) (k i : ℕ) (gs : Groups) (w : Option ℕ) (n : ℕ) (plan : List Made) → after_plan s k (take i (named_plan gs w n plan)) ≡ after_plan s k (take i plan)
shelf_taken s k i gs w n plan = ap (after_plan s k) (take_named i gs w n plan) ∙ shelf_named s k gs w n (take i plan)

-- The shelf behind one plan and then another.

pub shelf_joined : (s : Shelf) (n : ℕ) (p q : List Made) → after_plan s n (p ++ q) ≡ after_plan (after_plan s n p) (n + length p) q
shelf_joined s n [] q = let z : n ≡ n + 0 = omega arith in ap (λ k. after_plan s k q) z
shelf_joined s n (m ∷ p) q =
    let z : n + 1 + length p ≡ n + length (m ∷ p) = omega arith in
    shelf_joined (after_change s n m.change) (n + 1) p q ∙ ap (λ k. after_plan (after_plan (after_change s n m.change) (n + 1) p) k q) z

-- bytes leave it as it is
pub parts_leave : (s : Shelf) (n extent offset : ℕ) (bytes names ks : List ℕ)
    → after_plan s n (map (λ k. record { change = part extent offset bytes k; after = names }) ks) ≡ s
parts_leave s n extent offset bytes names [] = refl
parts_leave s n extent offset bytes names (k ∷ ks) = parts_leave s (n + 1) extent offset bytes names ks

-- behind an append the extent is current
pub shelf_appended : ShelvesGoOn → (s : Shelf) (n extent : ℕ) (bytes : List ℕ) → 0 < length bytes
    → record s { extents = extents.after_plan s.extents n (append_plan s.extents n extent bytes []); current = Some extent }
    ≡ after_plan s n (append_plan s.extents n extent bytes [])
shelf_appended go s n extent bytes some =
    let o = offset_at s.extents extent in
    let g = generation_at s.extents extent in
    let count = touched o (length bytes) in
    let first : List Made = parts extent o bytes (names_behind s.extents extent []) count in
    let point : Made = record { change = Point extent g (o + length bytes); after = range_with_len n count } in
    let k = n + length first in
    let later = extents.after_change s.extents k (Point extent g (o + length bytes)) in
    let far : (o + length bytes == 0) ≡ false = grind (arith, nat_tests, some) in
    let is : after_plan s n (append_plan s.extents n extent bytes []) ≡ record s { extents = later; current = Some extent } =
    shelf_joined s n first (point ∷ [])
    ∙ ap (λ t. after_point t k extent g (o + length bytes)) (parts_leave s n extent o bytes (names_behind s.extents extent []) (range_with_len 0 count))
    ∙ rw far refl in
    ap (λ x. record s { extents = x; current = Some extent }) (sym (go s n (append_plan s.extents n extent bytes [])) ∙ ap (λ (t : Shelf). t.extents) is) ∙ sym is

-- behind some first patches of one it is as it was
pub shelf_begun : (s : Shelf) (n extent : ℕ) (bytes : List ℕ) (rest : List Made) (count : ℕ) → count < length (append_plan s.extents n extent bytes [])
    → after_plan s n (take count (append_plan s.extents n extent bytes [] ++ rest)) ≡ s
shelf_begun s n extent bytes rest count less =
    let o = offset_at s.extents extent in
    let ks = range_with_len 0 (touched o (length bytes)) in
    let names = names_behind s.extents extent [] in
    let first : List Made = parts extent o bytes names (touched o (length bytes)) in
    let point : Made = record { change = Point extent (generation_at s.extents extent) (o + length bytes); after = range_with_len n (touched o (length bytes)) } in
    let long : length (append_plan s.extents n extent bytes []) ≡ length first + 1 = length-append first (point ∷ []) in
    ap (after_plan s n) (take-append-le count (append_plan s.extents n extent bytes []) rest (omega (arith, less))
    ∙ take-append-le count first (point ∷ []) (omega (arith, less, long))
    ∙ take-map (λ k. record { change = part extent o bytes k; after = names }) count ks)
    ∙ parts_leave s n extent o bytes names (take count ks)
