-- The last patches of a pointer record are the newest changes of it.
use Rattle.std.proofs.Common.{◌≡◌, ◌≢◌, ℕ, ◌+◌, ◌/◌, ◌<◌, ◌^◌, ◌∙◌, inl, inr, Bool, true, false, List, [], ◌∷◌, length}
use Rattle.std.proofs.Common.{Some, None, refl, ap, arith}
use Rattle.std.specs.Prelude.{◌==◌, ◌&&◌, fold, if◌then◌else◌}
use Rattle.std.proofs.lemmas.Bool.{cases_Bool}
use Rattle.std.proofs.lemmas.Bool.Decides.{nat_tests}
use Rattle.std.proofs.lemmas.List.Sums.{fold-append}
use Rattle.patch_model.specs.Patch.{Patch}
use Rattle.patch_frame.specs.declared.geometries.Geometry.{Geometry}
use Rattle.patch_frame.specs.Geometry.{IsFormat, IsGeometry, slot_count, slot_block, first_block, pointer_block}
use Rattle.patch_frame.specs.Geometry.{pointer_start}
use Rattle.patch_frame.specs.Geometry.{largest_pointer}
use Rattle.patch_frame.specs.Pointer.{spelling, pointer_of}
use Rattle.patch_recovery.specs.Change.{Change, Data, Point, Fill, Clear, Widen, Made, patch_of, patches_of}
use Rattle.patch_recovery.specs.Ledger.{Ledger, after_all}
use Rattle.patch_recovery.specs.Right.{IsRight}
use Rattle.patch_recovery.specs.Orders.{is_reset}
use Rattle.patch_recovery.specs.Naming.{newest, is_point}
use Rattle.patch_recovery.specs.Wider.{format_kept, limits_of}
use Rattle.patch_plans.specs.Meaning as extents
use Rattle.patch_frame.specs.Passing.{passed, read_is}
use Rattle.patch_frame.specs.declared.faults.FrameFault.TheVariants.{BadValue}
use Rattle.patch_frame.specs.declared.geometries.Format.{Format}
use Rattle.patch_frame.specs.declared.geometries.Format.TheVariants.{One, Two}
use Rattle.patch_frame.specs.declared.pointers.Pointer.{Pointer}
use Rattle.patch_recovery.specs.Right.{IsSound}
use Rattle.patch_recovery.specs.Orders.{AreWellMade}
use Rattle.patch_recovery.specs.Wider.{Limits}
use Rattle.patch_history.specs.LawsBelow.{Given}

off_left : (a b : Bool) → a ≡ false → (a && b) ≡ false
off_left a b h = rw h refl

same_place : (g : Geometry) (e extent : ℕ)
    → (pointer_block g == pointer_block g && pointer_start extent == pointer_start e) ≡ (e == extent)
same_place g e extent = elim (cases_Bool (e == extent)) [
  | inl u ↦ (
      let a : (pointer_block g == pointer_block g) ≡ true = grind (arith, nat_tests) in
      let b : (pointer_start extent == pointer_start e) ≡ true = (let same : e ≡ extent = grind (arith, nat_tests) in grind (arith, nat_tests)) in rw (a, b, u) refl)
  | inr u ↦ (
      let a : (pointer_block g == pointer_block g) ≡ true = grind (arith, nat_tests) in
      let b : (pointer_start extent == pointer_start e) ≡ false = (let ne : e ≢ extent = grind (arith, nat_tests) in grind (arith, nat_tests)) in rw (a, b, u) refl)
]

-- a change of another block
elsewhere : (x y : ℕ) (b : Bool) → x ≢ y → (x == y && b) ≡ false
elsewhere x y b ne = off_left (x == y) b (let t : (x == y) ≡ false = grind (arith, nat_tests) in t)

point_tells : (g : Geometry) (l : Ledger) (n e : ℕ) (c : Change) (names : List ℕ)
    → slot_count l.geometry ≡ slot_count g → IsRight l c
    → extents.is_point g e (patch_of g n (record { change = c; after = names })) ≡ is_point e c
point_tells g l n e (Data extent offset bytes) names slots right =
    elsewhere (first_block g extent + offset / 4096) (pointer_block g) _ (λ same. omega (arith, same))
point_tells g l n e (Point extent generation offset) names slots right = same_place g e extent
point_tells g l n e (Fill slot s) names slots right =
    elsewhere (slot_block slot) (pointer_block g) _ (let known = right.known in λ same. omega arith)
point_tells g l n e (Clear slot) names slots right =
    elsewhere (slot_block slot) (pointer_block g) _ (let known = right.known in λ same. omega arith)
point_tells g l n e Widen names slots right = elsewhere 0 (pointer_block g) _ (λ same. omega (arith, same))

reset_tells : Given → (g : Geometry) (l : Ledger) (n e : ℕ) (c : Change) (names : List ℕ)
    → slot_count l.geometry ≡ slot_count g → largest_pointer l.geometry.format < 2 ^ 32 → IsRight l c
    → extents.is_reset g e (patch_of g n (record { change = c; after = names })) ≡ is_reset e c
reset_tells given g l n e (Data extent offset bytes) names slots small right =
    off_left _ _ (point_tells g l n e (Data extent offset bytes) names slots right)
reset_tells given g l n e (Point extent generation offset) names slots small right =
    let p : Pointer = record { generation = generation; offset = offset } in
    let read = given.pointers.again (largest_pointer l.geometry.format) p small
    (record { generation = right.few; offset = right.in_extent }) in
    let back : pointer_of (spelling (record { generation = generation; offset = offset })) ≡ record { generation = generation; offset = offset } =
    read_is (pointer_of (spelling p)) p (passed _ BadValue [] (pointer_of (spelling p)) p read).1 in
    ap (λ b. b && (pointer_of (spelling (record { generation = generation; offset = offset }))).offset == 0)
    (same_place g e extent)
    ∙ ap (λ p. e == extent && p.offset == 0) back
reset_tells given g l n e (Fill slot s) names slots small right =
    off_left _ _ (point_tells g l n e (Fill slot s) names slots right)
reset_tells given g l n e (Clear slot) names slots small right =
    off_left _ _ (point_tells g l n e (Clear slot) names slots right)
reset_tells given g l n e Widen names slots small right = off_left _ _ (point_tells g l n e Widen names slots right)

last_newest : (g : Geometry) (test : Patch → Bool) (kind : Change → Bool) (l : Ledger) (ms : List Made)
    → AreWellMade l ms
    → ((m : Made) (before : List Made) → AreWellMade l before → IsRight (after_all l before) m.change
    → test (patch_of g (length before) m) ≡ kind m.change)
    → fold (λ last p. if test p then Some p.no else last) None (patches_of g ms) ≡ newest kind ms
last_newest g test kind l [] well tells = refl
last_newest g test kind l (m ∷ ms) well tells =
    fold-append (λ last p. if test p then Some p.no else last) None (patches_of g ms) (patch_of g (length ms) m ∷ [])
    ∙ ap (λ b. if b then Some (length ms) else fold (λ last p. if test p then Some p.no else last) None (patches_of g ms))
    (tells m ms well.1 well.0.right)
    ∙ ap (λ o. if kind m.change then Some (length ms) else o) (last_newest g test kind l ms well.1 tells)

-- every pointer record is shorter than a number of 32 bits
pointer_small : (f : Format) → IsFormat f → largest_pointer f < 2 ^ 32
pointer_small One is = omega arith
pointer_small (Two x) is = let high = is.1 in omega arith

module _ (given : Given) (first : Ledger) (sound : IsSound first) (valid : IsGeometry first.geometry) where
  limits_at : (before : List Made) → AreWellMade first before
      → Limits first.geometry (after_all first before).geometry
  limits_at before well =
      limits_of first.geometry (after_all first before).geometry (given.last first before sound well).geometry

  small_at : (before : List Made) → AreWellMade first before
      → largest_pointer (after_all first before).geometry.format < 2 ^ 32
  small_at before well =
      pointer_small (after_all first before).geometry.format
      (format_kept first.geometry (after_all first before).geometry valid.format
      (given.last first before sound well).geometry)

  pub last_points : (ms : List Made) (all : List Patch) (e : ℕ) → AreWellMade first ms
      → all ≡ patches_of first.geometry ms
      → extents.last_of (extents.is_point first.geometry e) all ≡ newest (is_point e) ms
  last_points ms all e well are =
      ap (λ ps. extents.last_of (extents.is_point first.geometry e) ps) are
      ∙ last_newest first.geometry (extents.is_point first.geometry e) (is_point e) first ms well
      (λ m before w right. point_tells first.geometry (after_all first before) (length before) e m.change m.after
      (limits_at before w).slots right)

  pub last_resets : (ms : List Made) (all : List Patch) (e : ℕ) → AreWellMade first ms
      → all ≡ patches_of first.geometry ms
      → extents.last_of (extents.is_reset first.geometry e) all ≡ newest (is_reset e) ms
  last_resets ms all e well are =
      ap (λ ps. extents.last_of (extents.is_reset first.geometry e) ps) are
      ∙ last_newest first.geometry (extents.is_reset first.geometry e) (is_reset e) first ms well
      (λ m before w right. reset_tells given first.geometry (after_all first before) (length before) e m.change m.after
      (limits_at before w).slots (small_at before w) right)
