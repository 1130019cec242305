-- The bytes of a frame, as they are copied.
use Rattle.std.proofs.Common.{◌≡◌, ℕ, zero, suc, ◌<◌, ◌∙◌, inl, inr, List, [], ◌∷◌, ◌++◌, length, drop, get_or, append-nil, refl, sym, ap, subst, arith}
use Rattle.std.specs.Prelude.{◌==◌, Ok, Option, Some, None}
use Rattle.std.specs.List.{range_with_len}
use Rattle.std.proofs.lemmas.List.{length-map, drop_all}
use Rattle.std.proofs.lemmas.List.FromFn.{length-range_with_len}
use Rattle.patch_model.specs.Execution.{Execution}
use Rattle.patch_frame.specs.declared.geometries.Geometry.{Geometry}
use Rattle.patch_frame.specs.Frame.{Content, frame_at, spelling, length_of}
use Rattle.patch_frame.specs.Geometry.{value_limit}
use Rattle.patch_frame.specs.Slot.{SlotFields}
use Rattle.patch_model.specs.Renewed.{cached_blocks}
use Rattle.patch_recovery.specs.Ledger.{Ledger}
use Rattle.patch_recovery.specs.Reading.{ledger_in}
use Rattle.patch_extent.specs.Answers.{cached_bytes}
use Rattle.patch_plans.specs.Extents.{offset_at}
use Rattle.patch_history.specs.Choosing.{current_for, first_of_any, empty_extents, extent_for_move}
use Rattle.patch_history.specs.Shelf.{Shelf, slot_at}
use Rattle.patch_history.specs.StoreState.{Standing}
use Rattle.patch_store.specs.Meaning.{Store, IsWhole}
use Rattle.patch_store.specs.Framing.{IsAsked}
use Rattle.patch_store.specs.Moving.{IsCached, IsMovable}
use Rattle.patch_store.proofs.Placing.{one_of, first_there, current_place}

same_read : (limit n : ℕ) (bytes read : List ℕ) (d c : Content) → limit ≡ n → bytes ≡ read → frame_at limit bytes ≡ Ok d → frame_at n read ≡ Ok c → d ≡ c
same_read limit n bytes read d c l b x y =
    let is : Ok d ≡ Ok c = sym x ∙ ap (λ k. frame_at k bytes) l ∙ ap (frame_at n) b ∙ y in
    cc

-- what is read of a frame, in just its length, is all of it
pub copied_so : (g : Geometry) (run : Execution) (f : SlotFields) (c d : Content) (copy bytes : List ℕ) (limit long : ℕ) → IsCached g run f c
    → bytes ≡ copy → copy ≡ cached_bytes g run f.extent f.offset f.length → limit ≡ value_limit g.format
    → frame_at limit bytes ≡ Ok d → long ≡ length_of d → bytes ≡ spelling d ++ drop long bytes → copy ≡ spelling c
copied_so g run f c d copy bytes limit long is copied cached limit_is read long_is found =
    let there = copied ∙ cached in
    let same = same_read limit (value_limit g.format) bytes (cached_bytes g run f.extent f.offset f.length) d c limit_is there read is.frame in
    let l : Ledger = ledger_in g (cached_blocks run) in
    let byte : ℕ → ℕ = λ place. l.byte f.extent place in
    let count : length bytes ≡ f.length = ap length there ∙ length-map (range_with_len f.offset f.length) byte ∙ length-range_with_len f.offset f.length in
    let whole : long ≡ f.length = long_is ∙ ap length_of same ∙ is.length in
    let none : drop long bytes ≡ [] = drop_all long bytes (omega (arith, count, whole)) in
    sym copied ∙ found ∙ ap (λ rest. spelling d ++ rest) none ∙ append-nil (spelling d) ∙ ap spelling same

-- What a slot names.

-- a slot that is used is one of them
pub used_within : (slots : List (Option SlotFields)) (slot : ℕ) (f : SlotFields) → get_or slots slot None ≡ Some f → slot < length slots
used_within [] slot f is = absurd (let g : None ≡ Some f = is in cc)
used_within (x ∷ slots) zero f is = omega arith
used_within (x ∷ slots) (suc slot) f is = let less = used_within slots slot f is in omega (arith, less)

-- a frame that moves goes to one of the disk's extents
pub move_known : (s : Shelf) (len extent : ℕ) → IsWhole s → extent_for_move s len ≡ Some extent → extent < s.extents.geometry.extents
move_known s len extent whole is = elim (one_of (current_for s len) (first_of_any (empty_extents s)) extent is) [
  | inl current ↦ (current_place s len extent whole current).known
  | inr empty ↦ (let there = first_there (λ e. offset_at s.extents e == 0) 0 s.extents.geometry.extents extent empty in let less = there.0 in omega (arith, less))
]

-- the store is asked for the frame
pub asked_so : (st : Standing) (slot e : ℕ) (c : Content) (s : Store) → IsMovable st slot e c s → IsAsked st c c.key (spelling c) s
asked_so st slot e c s m = record {
  setting_is = m.standing.setting_is;
  groups_are = m.standing.groups_are;
  shelf_is = m.standing.shelf_is;
  counted = m.standing.counted;
  key_is = refl;
  frame_is = refl;
}

same_fields : (a b : SlotFields) → Some a ≡ Some b → a ≡ b
same_fields a b is = cc

-- by what its slot says
pub asked_by_slot : (st : Standing) (slot e : ℕ) (c : Content) (s : Store) (m : IsMovable st slot e c s) (entry : SlotFields) (extent : ℕ) (key frame : List ℕ)
    → slot_at s.shelf slot ≡ Some entry → extent_for_move s.shelf entry.length ≡ Some extent → key ≡ entry.key
    → (IsCached s.shelf.extents.geometry st.run entry c → frame ≡ spelling c) → IsAsked st c key frame s × (extent ≡ e)
asked_by_slot st slot e c s m entry extent key frame used there key_is frame_is =
    let same : entry ≡ m.fields = same_fields entry m.fields (sym used ∙ ap (λ x. slot_at x slot) m.standing.shelf_is ∙ m.used) in
    let chosen : Some extent ≡ Some e = sym there ∙ ap (λ x. extent_for_move x entry.length) m.standing.shelf_is
    ∙ ap (λ (f : SlotFields). extent_for_move st.shelf f.length) same ∙ m.extent_is in (
      record {
        setting_is = m.standing.setting_is;
        groups_are = m.standing.groups_are;
        shelf_is = m.standing.shelf_is;
        counted = m.standing.counted;
        key_is = key_is ∙ ap (λ (f : SlotFields). f.key) same ∙ sym m.cached.key;
        frame_is = frame_is (subst (λ f. IsCached s.shelf.extents.geometry st.run f c) (sym same) m.cached);
      },
      (let is : extent ≡ e = cc in is),
    )
