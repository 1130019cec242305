-- A shelf that stays whole.
use Rattle.std.proofs.Common.{◌≡◌, ℕ, ◌+◌, ◌<◌, ◌∙◌, List, [], ◌∷◌, ◌++◌, length, map, replicate, sym, ap, subst}
use Rattle.std.specs.Prelude.{Option, IfSome, slice_set}
use Rattle.std.proofs.lemmas.List.{length-map, length-set, map-append, replicate_more}
use Rattle.patch_frame.specs.declared.geometries.Geometry.{Geometry}
use Rattle.patch_frame.specs.Geometry.{IsGeometry, slot_count}
use Rattle.patch_frame.specs.Slot.{SlotFields}
use Rattle.patch_plans.specs.Extents.{Extents}
use Rattle.patch_history.specs.Shelf.{Shelf}
use Rattle.patch_store.specs.Meaning.{IsWhole}

-- a list in which one vector was set is as long as before
pub long_left : {V : Type 0} (items : V → List ℕ) (left : List V) (e : ℕ) (v : V) → length (map items (slice_set left e v)) ≡ length (map items left)
long_left items left e v = length-map (slice_set left e v) items ∙ length-set left e v ∙ sym (length-map left items)

-- one vector more, of none
pub none_more : {V : Type 0} (items : V → List ℕ) (left next : List V) (v : V) (n : ℕ) → next ≡ left ++ v ∷ [] → items v ≡ [] → map items left ≡ replicate n []
    → map items next ≡ replicate (n + 1) []
none_more items left next v n is none so_far =
    ap (map items) is ∙ map-append items left (v ∷ []) ∙ ap (λ xs. xs ++ items v ∷ []) so_far ∙ ap (λ x. replicate n [] ++ x ∷ []) none ∙ replicate_more n []

-- a shelf on a disk that is divided so
abbrev pub IsWholeOn : Geometry → Shelf → Type 0
IsWholeOn g s = (g ≡ s.extents.geometry) × IsWhole s

-- as many slots and as many lists of what left the extents
pub whole_with : (g : Geometry) (s : Shelf) (slots : List (Option SlotFields)) (last : Option ℕ) (left : List (List ℕ)) → IsWholeOn g s → length slots ≡ length s.slots
    → length left ≡ length s.left → IsWholeOn g (record s { slots = slots; last_delete = last; left = left })
whole_with g s slots last left whole slots_long left_long = (
  whole.0,
  record {
    geometry = whole.1.geometry;
    slots = slots_long ∙ whole.1.slots;
    left = left_long ∙ whole.1.left;
    current = whole.1.current;
  },
)

-- other extents that are divided as before, and a current one that is among them
pub whole_on : (g : Geometry) (s : Shelf) (e : Extents) (current : Option ℕ) (left : List (List ℕ)) → IsWholeOn g s → e.geometry ≡ s.extents.geometry
    → IfSome current (λ extent. extent < s.extents.geometry.extents) → length left ≡ length s.left
    → IsWholeOn g (record s { extents = e; current = current; left = left })
whole_on g s e current left whole same known left_long = (
  whole.0 ∙ sym same,
  record {
    geometry = subst IsGeometry (sym same) whole.1.geometry;
    slots = whole.1.slots ∙ sym (ap slot_count same);
    left = left_long ∙ whole.1.left ∙ sym (ap (λ (x : Geometry). x.extents) same);
    current = subst (λ (x : Geometry). IfSome current (λ extent. extent < x.extents)) (sym same) known;
  },
)
