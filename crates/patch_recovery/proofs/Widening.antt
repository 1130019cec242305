-- An upgrade widens the limits and moves nothing.
use Rattle.std.proofs.Common.{◌≡◌, ℕ, zero, suc, ◌+◌, ◌<◌, ◌≤◌, ◌∙◌, inl, inr, Bool, false, List, [], ◌∷◌, ◌++◌}
use Rattle.std.proofs.Common.{length, take, drop, Ok, Err, refl, sym, ap, arith}
use Rattle.std.specs.Prelude.{nat_lt}
use Rattle.std.proofs.lemmas.Bool.{cases_Bool}
use Rattle.std.proofs.lemmas.Bool.Decides.{nat_tests}
use Rattle.patch_frame.specs.declared.faults.FrameFault.TheVariants.{BadValue}
use Rattle.patch_frame.specs.declared.geometries.Format.TheVariants.{One}
use Rattle.patch_frame.specs.declared.geometries.Geometry.{Geometry}
use Rattle.patch_frame.specs.Field.{outcome}
use Rattle.patch_frame.specs.Geometry.{value_limit}
use Rattle.patch_frame.specs.Slot.{SlotFields}
use Rattle.patch_frame.specs.Frame.{Content, frame_at, frame_tests, content_of, value_length}
use Rattle.patch_recovery.specs.Change.{Change, Data, Point, Fill, Clear, Widen, Made, widened}
use Rattle.patch_recovery.specs.Ledger.{Ledger, after, after_all, after_those, bytes_at}
use Rattle.patch_recovery.specs.Right.{IsRight, IsNamed}
use Rattle.patch_recovery.specs.Wider.{Wider, Limits}
use Rattle.patch_recovery.proofs.Agreeing.{AreRight}

two_isnt_one : (g : Geometry) → (widened g).format ≡ One → ⊥
two_isnt_one g h = cc

shape_step : (g : Geometry) (l : Ledger) (c : Change) → IsRight l c → Wider g l.geometry → Wider g (after l c).geometry
shape_step g l Widen right (inl e) = inr (ap (λ h. h.format) (sym e) ∙ right, ap widened e)
shape_step g l Widen right (inr w) = absurd (two_isnt_one g (ap (λ h. h.format) (sym w.1) ∙ right))
shape_step g l (Data e offset bytes) right w = w
shape_step g l (Point e generation offset) right w = w
shape_step g l (Fill slot s) right w = w
shape_step g l (Clear slot) right w = w

-- all changes together
pub shape_all : (l : Ledger) (ms : List Made) → AreRight l ms → Wider l.geometry (after_all l ms).geometry
shape_all l [] right = inl refl
shape_all l (made ∷ ms) right = shape_step l.geometry (after_all l ms) made.change right.0 (shape_all l ms right.1)

-- the first geometry was of version 1, where an upgrade is right
pub first_one : (l : Ledger) (ms : List Made) → AreRight l ms → (after_all l ms).geometry.format ≡ One
    → l.geometry.format ≡ One
first_one l ms right one = elim (shape_all l ms right) [
  | inl e ↦ ap (λ h. h.format) (sym e) ∙ one
  | inr w ↦ w.0
]

shape_kept : (g : Geometry) (k l : Ledger) (c : Change) → (l.geometry.format ≡ One → g.format ≡ One) → IsRight l c
    → Wider g k.geometry → Wider g (after k c).geometry
shape_kept g k l Widen first right (inl e) = inr (first right, ap widened e)
shape_kept g k l Widen first right (inr w) = inr (w.0, ap widened w.1)
shape_kept g k l (Data e offset bytes) first right w = w
shape_kept g k l (Point e generation offset) first right w = w
shape_kept g k l (Fill slot s) first right w = w
shape_kept g k l (Clear slot) first right w = w

-- and those that are kept
pub shape_those : (keeps : ℕ → Bool) (l : Ledger) (ms : List Made) → AreRight l ms
    → Wider l.geometry (after_those keeps l ms).geometry
shape_those keeps l [] right = inl refl
shape_those keeps l (made ∷ ms) right = elim (cases_Bool (keeps (length ms))) [
  | inl u ↦ rw u (shape_kept l.geometry _ (after_all l ms) made.change (first_one l ms right.1) right.0
      (shape_those keeps l ms right.1))
  | inr u ↦ rw u (shape_those keeps l ms right.1)
]

-- a test that holds less often refuses less
outcome-weaker : {X E : Type 0} (front : List (Bool × E)) (t s : Bool) (e : E) (rest : List (Bool × E)) (x y : X)
    → (t ≡ false → s ≡ false) → outcome (front ++ (t, e) ∷ rest) x ≡ Ok y → outcome (front ++ (s, e) ∷ rest) x ≡ Ok y
outcome-weaker [] t s e rest x y f h = elim (cases_Bool t) [
  | inl u ↦ absurd (let g : Err e ≡ Ok y = rw u at h in cc)
  | inr u ↦ rw (f u) (rw u at h)
]
outcome-weaker (p ∷ front) t s e rest x y f h = elim (cases_Bool (p.0)) [
  | inl u ↦ absurd (let g : Err p.1 ≡ Ok y = rw u at h in cc)
  | inr u ↦ rw u (outcome-weaker front t s e rest x y f (rw u at h))
]

-- a frame within a limit is one within a greater
pub frame_within : (small large : ℕ) (bytes : List ℕ) (c : Content) → small ≤ large → frame_at small bytes ≡ Ok c
    → frame_at large bytes ≡ Ok c
frame_within small large bytes c le h =
    let tests = frame_tests small bytes in
    outcome-weaker (take 4 tests) (nat_lt small (value_length bytes)) (nat_lt large (value_length bytes)) BadValue
    (drop 5 tests) (content_of bytes) c
    (λ u. let n : nat_lt large (value_length bytes) ≡ false = grind (arith, nat_tests) in n) h

-- bytes that agree place by place
pub bytes_same : (l k : Ledger) (e a n : ℕ) → ((i : ℕ) → a ≤ i → i < a + n → l.byte e i ≡ k.byte e i)
    → bytes_at l e a n ≡ bytes_at k e a n
bytes_same l k e a zero h = refl
bytes_same l k e a (suc n) h = rw (
  h a (omega arith) (omega arith),
  bytes_same l k e (a + 1) n
      (λ i u v. h i (omega arith) (omega arith)),
) refl

-- a frame that is named stays so where its bytes stay, its extent's pointer only moves on, and limits only widen
pub named_along : (l k : Ledger) (f : SlotFields) → IsNamed l f → Limits l.geometry k.geometry
    → (k.pointer f.extent).generation ≡ (l.pointer f.extent).generation
    → (l.pointer f.extent).offset ≤ (k.pointer f.extent).offset
    → ((i : ℕ) → f.offset ≤ i → i < f.offset + f.length → k.byte f.extent i ≡ l.byte f.extent i) → IsNamed k f
named_along l k f n limits generation offset bytes =
    let inside = n.before_pointer in
    let known = n.extent in
    let extents = limits.extents in
    record {
      extent = omega arith;
      generation = generation ∙ n.generation;
      before_pointer = omega arith;
      content = n.content;
      frame = ap (frame_at (value_limit k.geometry.format)) (bytes_same k l f.extent f.offset f.length bytes)
          ∙ frame_within (value_limit l.geometry.format) (value_limit k.geometry.format)
          (bytes_at l f.extent f.offset f.length) n.content limits.value n.frame;
      key = n.key;
      length = n.length;
    }
