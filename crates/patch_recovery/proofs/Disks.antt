-- The disk on which the kept patches are laid shows the ledger of the kept changes.
use Rattle.std.proofs.Common.{◌≡◌, ℕ, ◌<◌, ◌^◌, ◌∙◌, inl, inr, Bool, List, [], ◌∷◌, length, Some, None, refl, sym}
use Rattle.std.proofs.Common.{arith, subst}
use Rattle.std.specs.Prelude.{if◌then◌else◌}
use Rattle.std.proofs.lemmas.Bool.{cases_Bool, or_left, or_right}
use Rattle.patch_frame.specs.declared.geometries.Format.{Format}
use Rattle.patch_frame.specs.declared.geometries.Format.TheVariants.{One, Two}
use Rattle.patch_frame.specs.declared.geometries.Geometry.{Geometry}
use Rattle.patch_frame.specs.Geometry.{IsGeometry, IsFormat, largest_pointer, longest_frame}
use Rattle.patch_frame.specs.Slot.{FitsUsed}
use Rattle.patch_recovery.specs.Change.{Change, Data, Point, Fill, Clear, Widen, Made, patch_of}
use Rattle.patch_recovery.specs.Ledger.{Ledger, after, after_all, after_those}
use Rattle.patch_recovery.specs.Right.{IsRight}
use Rattle.patch_recovery.specs.Orders.{is_widen}
use Rattle.patch_recovery.proofs.Agreeing.{AllKept, AreRight, geometries_agree}
use Rattle.patch_recovery.specs.Wider.{limits_of}
use Rattle.patch_recovery.proofs.Widening.{shape_all, first_one}
use Rattle.patch_recovery.proofs.Sound.{AreHeld, IsHeld, fewer}
use Rattle.patch_recovery.proofs.Blocks.{laid, length-laid}
use Rattle.patch_recovery.proofs.Showing.{Formats, Shows, shows_data, shows_point, shows_slot}
use Rattle.patch_recovery.proofs.Upgrading.{shows_widen}

-- the blocks with the kept patches laid on
abbrev pub those_laid : (ℕ → Bool) → Geometry → List (List ℕ) → List Made → List (List ℕ)
those_laid keeps g first [] = first
those_laid keeps g first (made ∷ ms) = if keeps (length ms) then laid (those_laid keeps g first ms)
    (patch_of g (length ms) made) else those_laid keeps g first ms

-- there are as many blocks
pub length-those_laid : (keeps : ℕ → Bool) (g : Geometry) (first : List (List ℕ)) (ms : List Made)
    → length (those_laid keeps g first ms) ≡ length first
length-those_laid keeps g first [] = refl
length-those_laid keeps g first (made ∷ ms) = elim (cases_Bool (keeps (length ms))) [
  | inl u ↦ rw u (length-laid _ (patch_of g (length ms) made) ∙ length-those_laid keeps g first ms)
  | inr u ↦ rw u (length-those_laid keeps g first ms)
]

-- where an upgrade is right, none was made before
geometry_one : (k : Ledger) (l : Ledger) (c : Change) → (after l c).geometry.format ≡ One
    → ((after k c).geometry ≡ k.geometry) × (l.geometry.format ≡ One)
geometry_one k l Widen one = absurd (let e : Two 16 ≡ One = one in cc)
geometry_one k l (Data e offset bytes) one = (refl, one)
geometry_one k l (Point e generation offset) one = (refl, one)
geometry_one k l (Fill slot s) one = (refl, one)
geometry_one k l (Clear slot) one = (refl, one)

-- where the disk is of version 1 at the end, no kept change is an upgrade
pub never_widened : (keeps : ℕ → Bool) (l : Ledger) (ms : List Made) → (after_all l ms).geometry.format ≡ One
    → (after_those keeps l ms).geometry ≡ l.geometry
never_widened keeps l [] one = refl
never_widened keeps l (made ∷ ms) one =
    let step = geometry_one (after_those keeps l ms) (after_all l ms) made.change one in
    let before = never_widened keeps l ms step.1 in
    elim (cases_Bool (keeps (length ms))) [ inl u ↦ rw u (step.0 ∙ before) | inr u ↦ rw u before ]

longest_small : (f : Format) → longest_frame f < 2 ^ 32
longest_small One = omega arith
longest_small (Two x) = omega arith

pointer_small : (f : Format) → IsFormat f → largest_pointer f < 2 ^ 32
pointer_small One is = omega arith
pointer_small (Two x) is = let high = is.1 in omega arith

module _ (formats : Formats) (keeps : ℕ → Bool) (l : Ledger) (valid : IsGeometry l.geometry) (ms : List Made)
    (right : AreRight l ms) where
  shows_after : (d : List (List ℕ)) → Shows l.geometry d (after_those keeps l ms)
      → (c : Change) (number : ℕ) (names : List ℕ)
      → IsRight (after_all l ms) c → IsHeld keeps l c ms
      → Shows l.geometry (laid d (patch_of l.geometry number (record { change = c; after = names })))
      (after (after_those keeps l ms) c)
  shows_after d shows (Data e offset bytes) number names r held =
      let limits = limits_of l.geometry (after_all l ms).geometry (shape_all l ms right) in
      let extents = limits.extents in
      let largest = limits.pointer in
      let known = r.known in
      let inside = r.in_extent in
      shows_data l.geometry d (after_those keeps l ms) shows e offset bytes
      (patch_of l.geometry number (record { change = Data e offset bytes; after = names })) refl refl refl
      (omega arith) r.some r.one_block (omega arith)
  shows_after d shows (Point e generation offset) number names r held =
      let limits = limits_of l.geometry (after_all l ms).geometry (shape_all l ms right) in
      let extents = limits.extents in
      let largest = limits.pointer in
      let known = r.known in
      let inside = r.in_extent in
      shows_point l.geometry d (after_those keeps l ms) shows formats e generation offset
      (patch_of l.geometry number (record { change = Point e generation offset; after = names })) refl refl refl
      (omega arith) valid.format valid.few_extents
      (pointer_small l.geometry.format valid.format) (record { generation = r.few; offset = omega arith })
  shows_after d shows (Fill slot s) number names r held =
      let limits = limits_of l.geometry (after_all l ms).geometry (shape_all l ms right) in
      let count = limits.slots in
      let known = r.known in
      let widens : AllKept (λ k c. is_widen c) keeps l ms =
      fewer keeps l (Fill slot s) ms (λ k c. is_widen c)
      (λ k c t. or_left _ _ (or_left _ _ (or_right _ _ t))) held in
      let geometry : (after_all l ms).geometry ≡ (after_those keeps l ms).geometry =
      sym (geometries_agree keeps l ms widens) in
      let fits : FitsUsed (longest_frame (after_those keeps l ms).geometry.format) s =
      subst (λ g. FitsUsed (longest_frame g.format) s) geometry r.fits in
      shows_slot l.geometry d (after_those keeps l ms) shows formats slot (Some s)
      (patch_of l.geometry number (record { change = Fill slot s; after = names })) refl refl refl (omega arith)
      (longest_small (after_those keeps l ms).geometry.format) fits
  shows_after d shows (Clear slot) number names r held =
      let limits = limits_of l.geometry (after_all l ms).geometry (shape_all l ms right) in
      let count = limits.slots in
      let known = r.known in
      shows_slot l.geometry d (after_those keeps l ms) shows formats slot None
      (patch_of l.geometry number (record { change = Clear slot; after = names })) refl refl refl (omega arith)
      (longest_small (after_those keeps l ms).geometry.format) tt
  shows_after d shows Widen number names r held =
      let same = never_widened keeps l ms r in
      let one : l.geometry.format ≡ One = first_one l ms right r in
      let few = valid.few_extents in
      let short = valid.short_index in
      shows_widen l.geometry d (after_those keeps l ms)
      (patch_of l.geometry number (record { change = Widen; after = names })) shows same one (omega arith)
      (omega arith) refl refl refl

-- all of them: each kept change is shown, one after another
pub shows_those : (formats : Formats) (keeps : ℕ → Bool) (first : List (List ℕ)) (l : Ledger) (ms : List Made)
    → IsGeometry l.geometry → AreRight l ms → AreHeld keeps l ms → Shows l.geometry first l
    → Shows l.geometry (those_laid keeps l.geometry first ms) (after_those keeps l ms)
shows_those formats keeps first l [] valid right held shows = shows
shows_those formats keeps first l (made ∷ ms) valid right held shows =
    let before = shows_those formats keeps first l ms valid right.1 held.1 shows in
    elim (cases_Bool (keeps (length ms))) [
      | inl u ↦ rw u (shows_after formats keeps l valid ms right.1
          (those_laid keeps l.geometry first ms) before made.change (length ms) made.after right.0 (held.0 u))
      | inr u ↦ rw u before
    ]
