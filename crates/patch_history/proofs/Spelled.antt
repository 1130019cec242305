-- The patches of a store's changes tell the changes: no two that are right where they are made are spelled alike.
use Rattle.std.proofs.Common.{◌≡◌, ◌∙◌, ℕ, ◌+◌, ◌-◌, ◌*◌, ◌/◌, ◌%◌, ◌<◌, ◌≤◌, ◌^◌, inl, inr, List, [], ◌∷◌, ◌++◌, length}
use Rattle.std.proofs.Common.{Option, Some, None, Result, Ok, refl, sym, ap, arith, subst}
use Rattle.std.proofs.lemmas.Bool.{cases_lt}
use Rattle.std.proofs.lemmas.List.{length-append}
use Rattle.patch_model.specs.Patch.{Patch}
use Rattle.patch_frame.specs.declared.faults.FrameFault.{FrameFault}
use Rattle.patch_frame.specs.declared.geometries.Format.{Format}
use Rattle.patch_frame.specs.declared.geometries.Format.TheVariants.{One, Two}
use Rattle.patch_frame.specs.declared.geometries.Geometry.{Geometry}
use Rattle.patch_frame.specs.declared.pointers.Pointer.{Pointer}
use Rattle.patch_frame.specs.Geometry.{IsFormat, IsGeometry, extent_blocks, largest_pointer, longest_frame, first_block}
use Rattle.patch_frame.specs.Pointer as pointers
use Rattle.patch_frame.specs.Slot.{SlotFields}
use Rattle.patch_frame.specs.Slot as slots
use Rattle.patch_recovery.specs.Change.{Change, Data, Point, Fill, Clear, Widen, Made, block_of, start_of, bytes_of, patch_of}
use Rattle.patch_recovery.specs.Change.{patches_of}
use Rattle.patch_recovery.specs.Ledger.{Ledger, after_all}
use Rattle.patch_recovery.specs.Right.{IsSound, IsRight}
use Rattle.patch_recovery.specs.Orders.{AreWellMade}
use Rattle.patch_recovery.specs.Wider.{Wider, limits_of, format_kept}
use Rattle.patch_history.specs.LawsBelow.{Given, Pointers}

-- slots are read again as what they were spelled by
abbrev pub SlotsAgain : Type 0
SlotsAgain =
    (longest : ℕ) (s : Option SlotFields) → longest < 2 ^ 32 → slots.Fits longest s
    → slots.slot_at longest (slots.spelling s) ≡ Ok s

-- The limits of a version.

pointer_small : (f : Format) → IsFormat f → largest_pointer f < 2 ^ 32
pointer_small One is = omega arith
pointer_small (Two x) is = let high = is.1 in omega arith

frame_small : (f : Format) → longest_frame f < 2 ^ 32
frame_small One = omega arith
frame_small (Two x) = omega arith

-- Places of extents.

extents_apart : (g : Geometry) (a b : ℕ) → a < b → first_block g a + extent_blocks g.format ≤ first_block g b
extents_apart g a b less =
    let k : ℕ = b - (a + 1) in
    let is : b ≡ a + 1 + k = omega arith in
    let product : extent_blocks g.format * b ≡ extent_blocks g.format * (a + 1 + k) =
    ap (λ n. extent_blocks g.format * n) is in
    omega arith

-- two places in one block are of one extent
one_extent : (g : Geometry) (a b i j : ℕ) → i < largest_pointer g.format → j < largest_pointer g.format
    → first_block g a + i / 4096 ≡ first_block g b + j / 4096 → a ≡ b
one_extent g a b i j inside_i inside_j same =
    let low_i : i / 4096 < extent_blocks g.format = omega arith in
    let low_j : j / 4096 < extent_blocks g.format = omega arith in
    elim (cases_lt a b) [
      | inl less ↦ let far = extents_apart g a b less in absurd (omega arith)
      | inr le ↦ elim (cases_lt b a) [
        | inl less ↦ let far = extents_apart g b a less in absurd (omega arith)
        | inr ge ↦ omega arith
      ]
    ]

-- and at one place of it
one_place : (g : Geometry) (a b i j : ℕ) → first_block g a + i / 4096 ≡ first_block g b + j / 4096 → a ≡ b
    → i % 4096 ≡ j % 4096 → i ≡ j
one_place g a b i j same one within =
    let first : first_block g a ≡ first_block g b = ap (first_block g) one in
    let blocks : i / 4096 ≡ j / 4096 = omega arith in
    omega arith

-- and two slots
one_index : (s t : ℕ) → 1 + s / 64 ≡ 1 + t / 64 → 64 * (s % 64) ≡ 64 * (t % 64) → s ≡ t
one_index s t block start = omega arith

-- What is read in one way.

one_pointer : (read : Result Pointer FrameFault) (p q : Pointer) → read ≡ Ok p → read ≡ Ok q → p ≡ q
one_pointer read p q a b = let same : Ok p ≡ Ok q = sym a ∙ b in cc

one_slot : (read : Result (Option SlotFields) FrameFault) (s t : Option SlotFields) → read ≡ Ok s → read ≡ Ok t → s ≡ t
one_slot read s t a b = let same : Ok s ≡ Ok t = sym a ∙ b in cc

some_fields : (s t : SlotFields) → Some s ≡ Some t → s ≡ t
some_fields s t e = cc

-- two changes that may be made on one ledger, and are spelled alike on a disk that was divided so
record AreAlike (g : Geometry) (l : Ledger) (c d : Change) : Type 0 where
  right : IsRight l c
  other : IsRight l d
  block : block_of g c ≡ block_of g d
  start : start_of c ≡ start_of d
  bytes : bytes_of g c ≡ bytes_of g d

module _ (again : SlotsAgain) (records : Pointers) (g : Geometry) (l : Ledger) (wider : Wider g l.geometry) (valid : IsGeometry g) where
  same_data : (e x o p : ℕ) (bytes more : List ℕ) → AreAlike g l (Data e o bytes) (Data x p more) → Data e o bytes ≡ Data x p more
  same_data e x o p bytes more a =
      let far = (limits_of g l.geometry wider).pointer in
      let some = a.right.some in
      let other_some = a.other.some in
      let inside = a.right.in_extent in
      let other_inside = a.other.in_extent in
      let low : o < largest_pointer g.format = omega (arith, far, some, inside) in
      let other_low : p < largest_pointer g.format = omega (arith, far, other_some, other_inside) in
      let extent : e ≡ x = one_extent g e x o p low other_low a.block in
      let place : o ≡ p = one_place g e x o p a.block extent a.start in
      let same : bytes ≡ more = a.bytes in
      cc

  same_point : (e x n m o p : ℕ) → AreAlike g l (Point e n o) (Point x m p) → Point e n o ≡ Point x m p
  same_point e x n m o p a =
      let start = a.start in
      let extent : e ≡ x = omega (arith, start) in
      let small = pointer_small l.geometry.format (format_kept g l.geometry valid.format wider) in
      let first : Pointer = record { generation = n; offset = o } in
      let second : Pointer = record { generation = m; offset = p } in
      let read = records.again (largest_pointer l.geometry.format) first small
      (record { generation = a.right.few; offset = a.right.in_extent }) in
      let other_read = records.again (largest_pointer l.geometry.format) second small
      (record { generation = a.other.few; offset = a.other.in_extent }) in
      let same : first ≡ second = one_pointer (pointers.pointer_at (largest_pointer l.geometry.format) (pointers.spelling first)) first second read
      (ap (λ bytes. pointers.pointer_at (largest_pointer l.geometry.format) bytes) a.bytes ∙ other_read) in
      let generation : n ≡ m = ap (λ r. r.generation) same in
      let offset : o ≡ p = ap (λ r. r.offset) same in
      cc

  -- slots that are spelled alike say one thing
  one_saying : (s t : Option SlotFields) → slots.Fits (longest_frame l.geometry.format) s → slots.Fits (longest_frame l.geometry.format) t
      → slots.spelling s ≡ slots.spelling t → s ≡ t
  one_saying s t fits other_fits same =
      let small = frame_small l.geometry.format in
      one_slot (slots.slot_at (longest_frame l.geometry.format) (slots.spelling s)) s t
      (again (longest_frame l.geometry.format) s small fits)
      (ap (λ bytes. slots.slot_at (longest_frame l.geometry.format) bytes) same ∙ again (longest_frame l.geometry.format) t small other_fits)

  same_fill : (s t : ℕ) (f k : SlotFields) → AreAlike g l (Fill s f) (Fill t k) → Fill s f ≡ Fill t k
  same_fill s t f k a =
      let slot : s ≡ t = one_index s t a.block a.start in
      let fields : f ≡ k = some_fields f k (one_saying (Some f) (Some k) a.right.fits a.other.fits a.bytes) in
      cc

  filled_not_cleared : (f : SlotFields) → slots.FitsUsed (longest_frame l.geometry.format) f
      → slots.spelling (Some f) ≡ slots.spelling None → ⊥
  filled_not_cleared f fits same = let none : Some f ≡ None = one_saying (Some f) None fits tt same in cc

  -- where slots stand
  low_slot : (s : ℕ) → s < 64 * l.geometry.index → 1 + s / 64 ≤ g.index
  low_slot s known = let index = (limits_of g l.geometry wider).index in omega (arith, known, index)

  same_change : (c d : Change) → AreAlike g l c d → c ≡ d
  same_change (Data e o bytes) (Data x p more) a = same_data e x o p bytes more a
  same_change (Data e o bytes) (Point x m p) a = let at = a.block in absurd (omega (arith, at))
  same_change (Data e o bytes) (Fill t k) a = let at = a.block in let low = low_slot t a.other.known in absurd (omega (arith, at, low))
  same_change (Data e o bytes) (Clear t) a = let at = a.block in let low = low_slot t a.other.known in absurd (omega (arith, at, low))
  same_change (Data e o bytes) Widen a = let at = a.block in absurd (omega (arith, at))
  same_change (Point e n o) (Data x p more) a = let at = a.block in absurd (omega (arith, at))
  same_change (Point e n o) (Point x m p) a = same_point e x n m o p a
  same_change (Point e n o) (Fill t k) a = let at = a.block in let low = low_slot t a.other.known in absurd (omega (arith, at, low))
  same_change (Point e n o) (Clear t) a = let at = a.block in let low = low_slot t a.other.known in absurd (omega (arith, at, low))
  same_change (Point e n o) Widen a = let at = a.block in absurd (omega (arith, at))
  same_change (Fill s f) (Data x p more) a = let at = a.block in let low = low_slot s a.right.known in absurd (omega (arith, at, low))
  same_change (Fill s f) (Point x m p) a = let at = a.block in let low = low_slot s a.right.known in absurd (omega (arith, at, low))
  same_change (Fill s f) (Fill t k) a = same_fill s t f k a
  same_change (Fill s f) (Clear t) a = absurd (filled_not_cleared f a.right.fits a.bytes)
  same_change (Fill s f) Widen a = let at = a.block in absurd (omega (arith, at))
  same_change (Clear s) (Data x p more) a = let at = a.block in let low = low_slot s a.right.known in absurd (omega (arith, at, low))
  same_change (Clear s) (Point x m p) a = let at = a.block in let low = low_slot s a.right.known in absurd (omega (arith, at, low))
  same_change (Clear s) (Fill t k) a = absurd (filled_not_cleared k a.other.fits (sym a.bytes))
  same_change (Clear s) (Clear t) a = ap Clear (one_index s t a.block a.start)
  same_change (Clear s) Widen a = let at = a.block in absurd (omega (arith, at))
  same_change Widen (Data x p more) a = let at = a.block in absurd (omega (arith, at))
  same_change Widen (Point x m p) a = let at = a.block in absurd (omega (arith, at))
  same_change Widen (Fill t k) a = let at = a.block in absurd (omega (arith, at))
  same_change Widen (Clear t) a = let at = a.block in absurd (omega (arith, at))
  same_change Widen Widen a = refl

-- Lists of changes.

-- what stands in front of the last one
abbrev front_of : {X : Type 0} → List X → List X
front_of [] = []
front_of (x ∷ []) = []
front_of (x ∷ y ∷ ys) = x ∷ front_of (y ∷ ys)

abbrev last_or : {X : Type 0} → X → List X → X
last_or d [] = d
last_or d (x ∷ []) = x
last_or d (x ∷ y ∷ ys) = last_or d (y ∷ ys)

front_pushed : {X : Type 0} → (xs : List X) (x : X) → front_of (xs ++ x ∷ []) ≡ xs
front_pushed [] x = refl
front_pushed (y ∷ []) x = refl
front_pushed (y ∷ z ∷ xs) x = ap (λ rest. y ∷ rest) (front_pushed (z ∷ xs) x)

last_pushed : {X : Type 0} → (d : X) (xs : List X) (x : X) → last_or d (xs ++ x ∷ []) ≡ x
last_pushed d [] x = refl
last_pushed d (y ∷ []) x = refl
last_pushed d (y ∷ z ∷ xs) x = last_pushed d (z ∷ xs) x

never_none : (xs : List Patch) (x : Patch) → xs ++ x ∷ [] ≡ [] → ⊥
never_none xs x e = let long = ap length e in let all = length-append xs (x ∷ []) in omega (arith, long, all)

same_made : (m n : Made) → m.change ≡ n.change → m.after ≡ n.after → m ≡ n
same_made m n change after = λ i. record { change = change i; after = after i }

module _ (again : SlotsAgain) (given : Given) (first : Ledger) (sound : IsSound first) (valid : IsGeometry first.geometry) where
  -- changes that were each well made, and whose patches are the same, are the same
  pub same_changes : (made other : List Made) → AreWellMade first made → AreWellMade first other
      → patches_of first.geometry made ≡ patches_of first.geometry other → made ≡ other
  same_changes [] [] well fine same = refl
  same_changes [] (n ∷ other) well fine same =
      absurd (never_none (patches_of first.geometry other) (patch_of first.geometry (length other) n) (sym same))
  same_changes (m ∷ made) [] well fine same =
      absurd (never_none (patches_of first.geometry made) (patch_of first.geometry (length made) m) same)
  same_changes (m ∷ made) (n ∷ other) well fine same =
      let p = patch_of first.geometry (length made) m in
      let q = patch_of first.geometry (length other) n in
      let fronts = sym (front_pushed (patches_of first.geometry made) p) ∙ ap front_of same
      ∙ front_pushed (patches_of first.geometry other) q in
      let lasts : p ≡ q = sym (last_pushed p (patches_of first.geometry made) p) ∙ ap (last_or p) same
      ∙ last_pushed p (patches_of first.geometry other) q in
      let rest : made ≡ other = same_changes made other well.1 fine.1 fronts in
      let wider = (given.last first made sound well.1).geometry in
      let change : m.change ≡ n.change = same_change again given.pointers first.geometry (after_all first made) wider valid m.change n.change (record {
        right = well.0.right;
        other = subst (λ ms. IsRight (after_all first ms) n.change) (sym rest) fine.0.right;
        block = ap (λ r. r.block) lasts;
        start = ap (λ r. r.start) lasts;
        bytes = ap (λ r. r.bytes) lasts;
      }) in
      let one : m ≡ n = same_made m n change (ap (λ r. r.after) lasts) in
      cc
