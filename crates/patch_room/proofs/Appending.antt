-- What plans make of a shelf: a frame that is appended, and an extent that is emptied.
use Rattle.std.proofs.Common.{◌≡◌, ◌≢◌, ℕ, suc, ◌+◌, ◌<◌, ◌≤◌, ◌∙◌, true, false, List, [], ◌∷◌, ◌++◌, length, map, Some}
use Rattle.std.proofs.Common.{refl, sym, ap, arith, subst}
use Rattle.std.specs.Prelude.{◌==◌}
use Rattle.std.specs.List.{range_with_len}
use Rattle.std.proofs.lemmas.Bool.Decides.{nat_tests}
use Rattle.std.proofs.lemmas.List.{length-set, get_or-set_same, get_or-set_other}
use Rattle.patch_frame.specs.Slot.{SlotFields}
use Rattle.patch_frame.specs.Frame.{Content, spelling}
use Rattle.patch_recovery.specs.Change.{Point, Fill, Made}
use Rattle.patch_plans.specs.Extents.{Extents, no_extent, extent_at, generation_at, offset_at, pointed}
use Rattle.patch_plans.specs.Planning.{reset_plan, touched, part, names_behind}
use Rattle.patch_history.specs.Planning.{frame_plan, fill_plan, fields_for}
use Rattle.patch_history.specs.Shelf.{Shelf, not_current, after_change, after_plan, after_point, after_slot}

pub plan_append : (s : Shelf) (n : ℕ) (p q : List Made)
    → after_plan s n (p ++ q) ≡ after_plan (after_plan s n p) (n + length p) q
plan_append s n [] q = let e : n + 0 ≡ n = omega arith in rw e refl
plan_append s n (m ∷ p) q =
    plan_append (after_change s n m.change) (n + 1) p q
    ∙ ap (λ k. after_plan (after_plan (after_change s n m.change) (n + 1) p) k q) (let e : n + 1 + length p ≡ n + suc (length p) = omega arith in e)

-- the shelf is divided alike, with as many extents
pub record IsAlike (s t : Shelf) : Type 0 where
  pub geometry : t.extents.geometry ≡ s.extents.geometry
  pub count : length t.extents.each ≡ length s.extents.each

-- behind an append of so many bytes to an extent
pub record IsBehindAppend (s t : Shelf) (extent len : ℕ) : Type 0 where
  pub alike : IsAlike s t
  pub current : t.current ≡ Some extent
  pub there : offset_at t.extents extent ≡ offset_at s.extents extent + len
  pub elsewhere : (e : ℕ) → e ≢ extent → offset_at t.extents e ≡ offset_at s.extents e

-- and behind a reset of it
pub record IsBehindReset (s t : Shelf) (extent : ℕ) : Type 0 where
  pub alike : IsAlike s t
  pub current : t.current ≡ not_current extent s.current
  pub there : offset_at t.extents extent ≡ 0
  pub elsewhere : (e : ℕ) → e ≢ extent → offset_at t.extents e ≡ offset_at s.extents e

-- The changes of bytes leave the shelf as it is.
parts_leave : (s : Shelf) (n extent offset : ℕ) (bytes names : List ℕ) (ks : List ℕ)
    → after_plan s n (map (λ k. record { change = part extent offset bytes k; after = names }) ks) ≡ s
parts_leave s n extent offset bytes names [] = refl
parts_leave s n extent offset bytes names (k ∷ ks) = parts_leave s (n + 1) extent offset bytes names ks

module _ (s : Shelf) (n extent generation offset : ℕ) (known : extent < length s.extents.each) where
  point_there : offset_at (after_point s n extent generation offset).extents extent ≡ offset
  point_there =
      ap (λ k. k.pointer.offset)
      (get_or-set_same s.extents.each extent (pointed n generation offset (extent_at s.extents extent)) no_extent known)

  point_elsewhere : (e : ℕ) → e ≢ extent
      → offset_at (after_point s n extent generation offset).extents e ≡ offset_at s.extents e
  point_elsewhere e ne =
      ap (λ k. k.pointer.offset)
      (get_or-set_other s.extents.each extent e (pointed n generation offset (extent_at s.extents extent)) no_extent ne)

  point_alike : IsAlike s (after_point s n extent generation offset)
  point_alike = record {
    geometry = refl;
    count = length-set s.extents.each extent (pointed n generation offset (extent_at s.extents extent));
  }

  -- a slot that is filled then leaves the extents
  point_appends : (len m slot : ℕ) (fields : SlotFields) → offset ≡ offset_at s.extents extent + len → 1 ≤ offset
      → IsBehindAppend s (after_slot (after_point s n extent generation offset) m slot (Some fields)) extent len
  point_appends len m slot fields sum some =
      let off : (offset == 0) ≡ false = grind (arith, nat_tests) in record {
        alike = record { geometry = point_alike.geometry; count = point_alike.count };
        current = rw off refl;
        there = point_there ∙ sum;
        elsewhere = point_elsewhere;
      }

  point_resets : offset ≡ 0 → IsBehindReset s (after_point s n extent generation offset) extent
  point_resets nought =
      let off : (offset == 0) ≡ true = grind (arith, nat_tests) in record {
        alike = point_alike;
        current = rw off refl;
        there = point_there ∙ nought;
        elsewhere = point_elsewhere;
      }

-- Bytes, the pointer behind them, and the slot behind that.
frame_leads : (s : Shelf) (n extent generation offset start slot : ℕ) (bytes names ks behind last : List ℕ) (fields : SlotFields) (len : ℕ)
    → extent < length s.extents.each → offset ≡ offset_at s.extents extent + len → 1 ≤ offset
    → IsBehindAppend s (after_plan s n ((map (λ k. record { change = part extent start bytes k; after = names }) ks
    ++ record { change = Point extent generation offset; after = behind } ∷ []) ++ record { change = Fill slot fields; after = last } ∷ [])) extent len
frame_leads s n extent generation offset start slot bytes names ks behind last fields len known sum some =
    let p = map (λ k. record { change = part extent start bytes k; after = names }) ks in
    let q = record { change = Point extent generation offset; after = behind } ∷ [] in
    let r = record { change = Fill slot fields; after = last } ∷ [] in
    let m = n + length p in
    let k = n + length (p ++ q) in
    let first : after_plan s n (p ++ q) ≡ after_point s m extent generation offset =
    plan_append s n p q ∙ ap (λ t. after_plan t m q) (parts_leave s n extent start bytes names ks) in
    let all : after_plan s n ((p ++ q) ++ r) ≡ after_slot (after_point s m extent generation offset) k slot (Some fields) =
    plan_append s n (p ++ q) r ∙ ap (λ t. after_slot t k slot (Some fields)) first in
    subst (λ t. IsBehindAppend s t extent len) (sym all)
    (point_appends s m extent generation offset known len k slot fields sum some)

pub appended : (s : Shelf) (n extent slot len : ℕ) (c : Content) → extent < length s.extents.each
    → length (spelling c) ≡ len → 1 ≤ len → IsBehindAppend s (after_plan s n (frame_plan s n extent slot c)) extent len
appended s n extent slot len c known long some =
    let start = offset_at s.extents extent in
    let count = touched start (length (spelling c)) in
    frame_leads s n extent (generation_at s.extents extent) (start + length (spelling c)) start slot (spelling c)
    (names_behind s.extents extent []) (range_with_len 0 count) (range_with_len n count)
    (fill_plan s n extent slot c).after (fields_for s extent c) len known (ap (λ k. start + k) long) (omega (arith, some, long))

pub emptied_one : (s : Shelf) (n extent : ℕ) (extents : Extents) (names : List ℕ) → extent < length s.extents.each
    → IsBehindReset s (after_plan s n (reset_plan extents extent names)) extent
emptied_one s n extent extents names known = point_resets s n extent (generation_at extents extent + 1) 0 known refl
