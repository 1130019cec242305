-- Blocks that are read show a sound ledger, and blocks that show one are read.
use Rattle.std.proofs.Common.{◌≡◌, ℕ, zero, suc, ◌+◌, ◌<◌, ◌≤◌, ◌⊎◌, ◌∙◌, inl, inr, Bool, true, false, not, List, []}
use Rattle.std.proofs.Common.{◌∷◌, ◌++◌, length, slice_range, Option, Some, None, Result, Ok, Err, refl, sym, ap, arith}
use Rattle.std.proofs.Common.{subst}
use Rattle.std.specs.Prelude.{◌==◌, ◌&&◌, nat_le, nat_lt, is_err}
use Rattle.std.specs.List.{list_any, flat_map, range_with_len}
use Rattle.std.specs.Str.{bytes_eq}
use Rattle.std.proofs.lemmas.Bool.{cases_Bool, cases_eq, cases_lt, and_parts, and_from, or_parts, not-false, both_ways}
use Rattle.std.proofs.lemmas.Bool.Decides.{nat_tests}
use Rattle.std.proofs.lemmas.Slice.Eq.{bytes_eq-Decides}
use Rattle.patch_frame.specs.Passing.{read_is, IsGeometry-at}
use Rattle.patch_model.specs.Member.{In}
use Rattle.patch_frame.specs.declared.faults.FrameFault.{FrameFault}
use Rattle.patch_frame.specs.declared.faults.FrameFault.TheVariants.{BadValue}
use Rattle.patch_frame.specs.declared.geometries.Geometry.{Geometry}
use Rattle.patch_frame.specs.declared.pointers.Pointer.{Pointer}
use Rattle.patch_frame.specs.Field.{are_zeros, outcome}
use Rattle.patch_frame.specs.Frame.{Content, length_of}
use Rattle.patch_frame.specs.Geometry.{IsGeometry, is_geometry, pointer_block, pointer_start}
use Rattle.patch_frame.specs.Geometry.{block_count, slot_count, largest_pointer, longest_frame}
use Rattle.patch_frame.specs.Superblock.{superblock_at}
use Rattle.patch_frame.specs.Slot.{SlotFields, slot_at}
use Rattle.patch_frame.specs.Pointer.{pointer_at, pointer_of}
use Rattle.patch_recovery.specs.Ledger.{Ledger, frame_named, is_frame_of, names_frame, SaysSame}
use Rattle.patch_recovery.specs.Reading.{Fault, FileSize, BadPointer, BadSlot, BadFrame, DuplicateKey, block_on}
use Rattle.patch_recovery.specs.Reading.{record_at, slot_bytes, read_as, ledger_in, bad_pointers, has_key, used_tests}
use Rattle.patch_recovery.specs.Reading.{slot_tests, disk_tests, read_under, reading}
use Rattle.patch_recovery.specs.Right.{IsNamed, IsSound}
use Rattle.patch_recovery.specs.Wider.{limits_of}
use Rattle.patch_recovery.proofs.Widening.{named_along}
use Rattle.patch_recovery.proofs.Showing.{Shows}
use Rattle.patch_recovery.proofs.Upgrading.{super_parts}

-- ---- tests

-- what is read has passed all tests
pub outcome_all : {X E : Type 0} (tests : List (Bool × E)) (x y : X) → outcome tests x ≡ Ok y
    → ((t : Bool × E) → In tests t → t.0 ≡ false) × (x ≡ y)
outcome_all [] x y h = ((λ t i. absurd i), read_is x y h)
outcome_all (p ∷ tests) x y h = elim (cases_Bool (p.0)) [
  | inl u ↦ absurd (let g : Err p.1 ≡ Ok y = rw u at h in cc)
  | inr u ↦ let rest = outcome_all tests x y (rw u at h) in (
    (λ t i. elim i [
      | inl e ↦ ap (λ q. q.0) (sym e) ∙ u
      | inr j ↦ rest.0 t j
    ]),
    rest.1,
  )
]

-- what passes all tests is read
pub outcome_from : {X E : Type 0} (tests : List (Bool × E)) (x : X) → ((t : Bool × E) → In tests t → t.0 ≡ false)
    → outcome tests x ≡ Ok x
outcome_from [] x f = refl
outcome_from (p ∷ tests) x f = rw (f p (inl refl)) (outcome_from tests x (λ t i. f t (inr i)))

-- a member of two lists is one of either
pub In-append : {X : Type 0} (xs ys : List X) (x : X) → In (xs ++ ys) x → In xs x ⊎ In ys x
In-append [] ys x h = inr h
In-append (z ∷ zs) ys x (inl e) = inl (inl e)
In-append (z ∷ zs) ys x (inr h) = elim (In-append zs ys x h) [ inl a ↦ inl (inr a) | inr b ↦ inr b ]

In-front : {X : Type 0} (xs ys : List X) (x : X) → In xs x → In (xs ++ ys) x
In-front [] ys x h = absurd h
In-front (z ∷ zs) ys x (inl e) = inl e
In-front (z ∷ zs) ys x (inr h) = inr (In-front zs ys x h)

In-back : {X : Type 0} (xs ys : List X) (x : X) → In ys x → In (xs ++ ys) x
In-back [] ys x h = h
In-back (z ∷ zs) ys x h = inr (In-back zs ys x h)

into_flat_map : {X Y : Type 0} (f : X → List Y) (xs : List X) (x : X) (y : Y) → In xs x → In (f x) y
    → In (flat_map f xs) y
into_flat_map f [] x y i j = absurd i
into_flat_map f (z ∷ zs) x y (inl e) j = In-front (f z) (flat_map f zs) y (subst (λ w. In (f w) y) (sym e) j)
into_flat_map f (z ∷ zs) x y (inr i) j = In-back (f z) (flat_map f zs) y (into_flat_map f zs x y i j)

-- a member of such a list comes from one of the other
pub from_flat_map : {X Y : Type 0} (f : X → List Y) (xs : List X) (y : Y) → In (flat_map f xs) y → (x : X) × In xs x
    × In (f x) y
from_flat_map f [] y h = absurd h
from_flat_map f (z ∷ zs) y h = elim (In-append (f z) (flat_map f zs) y h) [
  | inl a ↦ (z, inl refl, a)
  | inr b ↦ let r = from_flat_map f zs y b in (r.0, inr r.1, r.2)
]

-- a number of a range is in its list
pub into_range : (a k s : ℕ) → a ≤ s → s < a + k → In (range_with_len a k) s
into_range a zero s from to = absurd (omega arith)
into_range a (suc k) s from to = elim (cases_eq a s) [
  | inl e ↦ inl e
  | inr ne ↦ inr (into_range (a + 1) k s (omega arith) (omega arith))
]

-- and no other is
pub from_range : (a k s : ℕ) → In (range_with_len a k) s → (a ≤ s) × (s < a + k)
from_range a zero s h = absurd h
from_range a (suc k) s (inl e) = (omega arith, omega arith)
from_range a (suc k) s (inr h) = let r = from_range (a + 1) k s h in let low = r.0 in
    let high = r.1 in (omega arith, omega arith)

none_passes : {X : Type 0} (p : X → Bool) (xs : List X) (x : X) → list_any p xs ≡ false → In xs x → p x ≡ false
none_passes p [] x h i = absurd i
none_passes p (y ∷ ys) x h (inl e) = ap p (sym e) ∙ (or_parts (p y) (list_any p ys) h).0
none_passes p (y ∷ ys) x h (inr i) = none_passes p ys x (or_parts (p y) (list_any p ys) h).1 i

-- no member passes the test
pub none_from : {X : Type 0} (p : X → Bool) (xs : List X) → ((x : X) → In xs x → p x ≡ false) → list_any p xs ≡ false
none_from p [] f = refl
none_from p (y ∷ ys) f = rw (f y (inl refl)) (none_from p ys (λ x i. f x (inr i)))

-- functions that agree on the members
pub flat_map-same : {X Y : Type 0} (f h : X → List Y) (xs : List X) → ((x : X) → In xs x → f x ≡ h x)
    → flat_map f xs ≡ flat_map h xs
flat_map-same f h [] e = refl
flat_map-same f h (x ∷ xs) e = rw (e x (inl refl), flat_map-same f h xs (λ y i. e y (inr i))) refl

-- ---- geometries

-- ---- what a slot names

frame_there : (s : SlotFields) (r : Result Content FrameFault) → is_frame_of s r ≡ true → (c : Content) × (r ≡ Ok c)
    × (c.key ≡ s.key) × (length_of c ≡ s.length)
frame_there s (Ok c) h = let p = and_parts (bytes_eq c.key s.key) (length_of c == s.length) h in
    (c, refl, (bytes_eq-Decides c.key s.key).0 p.0, grind (arith, nat_tests, p.1))
frame_there s (Err fault) h = absurd (cc)

-- the test of a named frame tells it
pub named_from : (l : Ledger) (s : SlotFields) → s.extent < l.geometry.extents → names_frame l s ≡ true → IsNamed l s
named_from l s known h =
    let p = and_parts ((l.pointer s.extent).generation == s.generation
    && nat_le (s.offset + s.length) (l.pointer s.extent).offset) (is_frame_of s (frame_named l s)) h in
    let q = and_parts ((l.pointer s.extent).generation == s.generation)
    (nat_le (s.offset + s.length) (l.pointer s.extent).offset) p.0 in
    let f = frame_there s (frame_named l s) p.1 in
    record {
      extent = known;
      generation = grind (arith, nat_tests, q.0);
      before_pointer = grind (arith, nat_tests, q.1);
      content = f.0;
      frame = f.1;
      key = f.2;
      length = f.3;
    }

-- and a named frame passes it
pub names_from : (l : Ledger) (s : SlotFields) → IsNamed l s → names_frame l s ≡ true
names_from l s n =
    let a : ((l.pointer s.extent).generation == s.generation) ≡ true = let e = n.generation in
    grind (arith, nat_tests) in
    let b : nat_le (s.offset + s.length) (l.pointer s.extent).offset ≡ true = let e = n.before_pointer in
    grind (arith, nat_tests) in
    let k : bytes_eq n.content.key s.key ≡ true = (bytes_eq-Decides n.content.key s.key).1 n.key in
    let c : (length_of n.content == s.length) ≡ true = let e = n.length in grind (arith, nat_tests) in
    let f : is_frame_of s (frame_named l s) ≡ true = ap (is_frame_of s) n.frame ∙ and_from _ _ k c in
    and_from _ _ (and_from _ _ a b) f

-- ---- pointers and slots

pointer_is : (largest : ℕ) (bytes : List ℕ) → is_err (pointer_at largest bytes) ≡ false
    → (pointer_at largest bytes ≡ Ok (pointer_of bytes)) × ((pointer_of bytes).offset ≤ largest)
pointer_is largest bytes h = elim (cases_Bool (nat_lt largest (pointer_of bytes).offset)) [
  | inl u ↦ absurd (let g : true ≡ false = rw u at h in cc)
  | inr u ↦ (rw u refl, grind (arith, nat_tests))
]

-- a pointer record that is read is what stands there
pub pointer_back : (largest : ℕ) (bytes : List ℕ) (p : Pointer) → pointer_at largest bytes ≡ Ok p → pointer_of bytes ≡ p
pointer_back largest bytes p h = (outcome_all ((nat_lt largest (pointer_of bytes).offset, BadValue) ∷ [])
    (pointer_of bytes) p h).1

-- a slot that is not refused is read
pub slot_is : (r : Result (Option SlotFields) FrameFault) → is_err r ≡ false → r ≡ Ok (read_as r)
slot_is (Ok s) h = refl
slot_is (Err fault) h = absurd (cc)

-- ---- reading, and what it says

-- what is known of blocks that were read
pub record Opened (first : List (List ℕ)) (l : Ledger) : Type 0 where
  pub valid : IsGeometry l.geometry
  pub shows : Shows l.geometry first l
  pub sound : IsSound l

module _ (first : List (List ℕ)) (long : (b : ℕ) → b < length first
    → length (block_on first b) ≡ 4096) (g : Geometry) (super : superblock_at (block_on first 0) ≡ Ok g)
    (pass : (t : Bool × Fault) → In (disk_tests (ledger_in g first) first) t → t.0 ≡ false) where
  pointers_pass : bad_pointers g first ≡ false
  pointers_pass = pass (bad_pointers g first, BadPointer) (inr (inl refl))

  each_pointer : (e : ℕ) → e < g.extents → is_err (pointer_at (largest_pointer g.format) (record_at g first e)) ≡ false
  each_pointer e known = none_passes (λ extent. is_err
      (pointer_at (largest_pointer g.format) (record_at g first extent))) (range_with_len 0 g.extents) e
      (or_parts (list_any (λ extent. is_err (pointer_at (largest_pointer g.format) (record_at g first extent)))
      (range_with_len 0 g.extents)) (not (are_zeros
      (slice_range (block_on first (pointer_block g)) (pointer_start g.extents) 4096))) pointers_pass).0
      (into_range 0 g.extents e (omega arith) (omega arith))

  slot_passes : (s : ℕ) → s < slot_count g → (t : Bool × Fault) → In (slot_tests (ledger_in g first) first s) t
      → t.0 ≡ false
  slot_passes s known t i = pass t (inr (inr (into_flat_map (slot_tests (ledger_in g first) first)
      (range_with_len 0 (slot_count g)) s t (into_range 0 (slot_count g) s (omega arith) (omega arith)) i)))

  slot_reads : (s : ℕ) → s < slot_count g → slot_at (longest_frame g.format) (slot_bytes first s)
      ≡ Ok ((ledger_in g first).slot s)
  slot_reads s known =
      let t : nat_lt s (slot_count g) ≡ true = grind (arith, nat_tests) in
      rw t (slot_is (slot_at (longest_frame g.format) (slot_bytes first s))
      (slot_passes s known (is_err (slot_at (longest_frame g.format) (slot_bytes first s)), BadSlot s) (inl refl)))

  slot_known : (s : ℕ) (f : SlotFields) → (ledger_in g first).slot s ≡ Some f → s < slot_count g
  slot_known s f h = elim (cases_Bool (nat_lt s (slot_count g))) [
    | inl u ↦ grind (arith, nat_tests)
    | inr u ↦ absurd (let none : None ≡ Some f = rw u at h in cc)
  ]

  used_passes : (s : ℕ) (f : SlotFields) → (ledger_in g first).slot s ≡ Some f → (t : Bool × Fault)
      → In (used_tests (ledger_in g first) s (Some f)) t → t.0 ≡ false
  used_passes s f h t i = slot_passes s (slot_known s f h) t
      (inr (subst (λ o. In (used_tests (ledger_in g first) s o) t) (sym h) i))

  lower_differs : (s o : ℕ) (f h : SlotFields) → (ledger_in g first).slot s ≡ Some f
      → (ledger_in g first).slot o ≡ Some h → s < o → f.key ≡ h.key → ⊥
  lower_differs s o f h at_s at_o less same =
      let none = used_passes o h at_o (
        list_any (λ lower. has_key h.key ((ledger_in g first).slot lower))
            (range_with_len 0 o),
        DuplicateKey o,
      ) (inr (inr (inl refl))) in
      let off = none_passes (λ lower. has_key h.key ((ledger_in g first).slot lower)) (range_with_len 0 o) s none
      (into_range 0 o s (omega arith) (omega arith)) in
      let here : bytes_eq f.key h.key ≡ false = subst (λ x. has_key h.key x ≡ false) at_s off in
      both_ways _ here ((bytes_eq-Decides f.key h.key).1 same)

  opened_in : Opened first (ledger_in g first)
  opened_in =
      let parts = super_parts (block_on first 0) g super in
      let padding = or_parts (list_any (λ extent. is_err
      (pointer_at (largest_pointer g.format) (record_at g first extent))) (range_with_len 0 g.extents))
      (not (are_zeros (slice_range (block_on first (pointer_block g)) (pointer_start g.extents) 4096)))
      pointers_pass in
      let size : not (length first == block_count g) ≡ false =
      pass (not (length first == block_count g), FileSize) (inl refl) in
      let size_is = not-false (length first == block_count g) size in
      record {
        valid = IsGeometry-at g (ap is_geometry (sym parts.is) ∙ parts.valid);
        shows = record {
          long = long;
          count = grind (arith, nat_tests, size_is);
          super = super;
          points = λ e known. (pointer_is (largest_pointer g.format) (record_at g first e) (each_pointer e known)).0;
          padding = not-false _ padding.1;
          slots = slot_reads;
          bytes = λ e i known inside. refl;
        };
        sound = record {
          known = slot_known;
          named = λ s f h.
              let known : not (nat_lt f.extent g.extents) ≡ false =
              used_passes s f h (not (nat_lt f.extent g.extents), BadSlot s) (inl refl) in
              let names : not (names_frame (ledger_in g first) f) ≡ false =
              used_passes s f h (not (names_frame (ledger_in g first) f), BadFrame s) (inr (inl refl)) in
              let less = not-false (nat_lt f.extent g.extents) known in
              named_from (ledger_in g first) f (grind (arith, nat_tests, less)) (not-false _ names);
          single = λ s o f h at_s at_o same. elim (cases_lt s o) [
            | inl less ↦ absurd (lower_differs s o f h at_s at_o less same)
            | inr le ↦ elim (cases_lt o s) [
              | inl more ↦ absurd (lower_differs o s h f at_o at_s more (sym same))
              | inr ge ↦ omega arith
            ]
          ];
          pointers = λ e known. (pointer_is (largest_pointer g.format) (record_at g first e) (each_pointer e known)).1;
        };
      }

opened_under : (first : List (List ℕ)) (l : Ledger) → ((b : ℕ) → b < length first → length (block_on first b) ≡ 4096)
    → (r : Result Geometry FrameFault) → superblock_at (block_on first 0) ≡ r → read_under first r ≡ Ok l
    → Opened first l
opened_under first l long (Ok g) super h =
    let all = outcome_all (disk_tests (ledger_in g first) first) (ledger_in g first) l h in
    subst (λ k. Opened first k) all.1 (opened_in first long g super all.0)
opened_under first l long (Err fault) super h = absurd (cc)

-- blocks that are read show a sound ledger
pub opened : (first : List (List ℕ)) (l : Ledger) → ((b : ℕ) → b < length first → length (block_on first b) ≡ 4096)
    → reading first ≡ Ok l → Opened first l
opened first l long h = opened_under first l long (superblock_at (block_on first 0)) refl h

-- ---- ledgers that agree where it counts

-- ledgers that say the same are sound together
pub sound_alike : (k l : Ledger) → SaysSame k l → IsSound l → IsSound k
sound_alike k l a sound =
    let limits = limits_of l.geometry k.geometry (inl a.geometry) in
    record {
      known = λ s f at. let known = sound.known s f (sym (a.slot s) ∙ at) in let count = limits.slots in omega arith;
      named = λ s f at.
          let n = sound.named s f (sym (a.slot s) ∙ at) in
          let same = a.pointer f.extent n.extent in
          let low = sound.pointers f.extent n.extent in
          let before = n.before_pointer in
          let offset_same : (k.pointer f.extent).offset ≡ (l.pointer f.extent).offset = ap (λ p. p.offset) same in
          named_along l k f n limits (ap (λ p. p.generation) same) (omega arith)
          (λ i from to. a.byte f.extent i n.extent (omega arith));
      single = λ s o f h at_s at_o same. sound.single s o f h (sym (a.slot s) ∙ at_s) (sym (a.slot o) ∙ at_o) same;
      pointers = λ e known.
          let extents = limits.extents in
          let here : e < l.geometry.extents = omega arith in
          let low = sound.pointers e here in
          let offset_same : (k.pointer e).offset ≡ (l.pointer e).offset = ap (λ p. p.offset) (a.pointer e here) in
          let largest = limits.pointer in
          omega arith;
    }
