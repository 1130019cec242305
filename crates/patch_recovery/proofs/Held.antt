-- A closed set of well made patches holds what each of its changes comes after, and the earlier changes of its record.
use Rattle.std.proofs.Common.{◌≡◌, ℕ, ◌+◌, ◌<◌, ◌∙◌, inl, inr, Bool, true, List, [], ◌∷◌, ◌++◌, length, None, refl, sym}
use Rattle.std.proofs.Common.{ap, arith}
use Rattle.std.specs.Prelude.{◌==◌, ◌&&◌, ◌||◌, nat_lt, max, min}
use Rattle.std.proofs.lemmas.Bool.{and_from, or_cases, or_right}
use Rattle.std.proofs.lemmas.Bool.Decides.{nat_tests}
use Rattle.std.proofs.lemmas.List.{length-append}
use Rattle.patch_model.specs.Patch.{Patch}
use Rattle.patch_model.specs.Pile.{end}
use Rattle.patch_model.specs.Entry.{is_among}
use Rattle.patch_model.specs.Dependency.{depends_directly, shares_byte}
use Rattle.patch_model.specs.Member.{In, In-from_Contains}
use Rattle.patch_frame.specs.declared.geometries.Geometry.{Geometry}
use Rattle.patch_frame.specs.Slot.{SlotFields, used_spelling}
use Rattle.patch_recovery.specs.Change.{Change, Data, Point, Fill, Clear, Widen, Made, patch_of, patches_of, block_of}
use Rattle.patch_recovery.specs.Change.{start_of, bytes_of}
use Rattle.patch_recovery.specs.Ledger.{Ledger, after_all}
use Rattle.patch_recovery.specs.Orders.{Reaches, directly, onward, StandsIn, IsWellMade, AreWellMade, comes_after}
use Rattle.patch_recovery.specs.Naming.{is_point}
use Rattle.patch_recovery.proofs.Agreeing.{AllKept, AreRight, on_slot}
use Rattle.patch_recovery.proofs.Sound.{IsHeld, AreHeld, same_record}
use Rattle.patch_recovery.proofs.Showing.{Formats}

-- the numbers that pass are closed under direct dependency
abbrev pub AreClosed : (ℕ → Bool) → List Patch → Type 0
AreClosed keeps all = (p q : Patch) → In all p → In all q → keeps p.no ≡ true → depends_directly p q ≡ true
    → keeps q.no ≡ true

-- a member of the first part of a list
pub In-left : {X : Type 0} (xs ys : List X) (x : X) → In xs x → In (xs ++ ys) x
In-left [] ys x h = absurd h
In-left (z ∷ zs) ys x (inl e) = inl e
In-left (z ∷ zs) ys x (inr h) = inr (In-left zs ys x h)

-- and one of the second
pub In-right : {X : Type 0} (xs ys : List X) (x : X) → In ys x → In (xs ++ ys) x
In-right [] ys x h = h
In-right (z ∷ zs) ys x h = inr (In-right zs ys x h)

-- what is well made is right
pub right_of : (l : Ledger) (ms : List Made) → AreWellMade l ms → AreRight l ms
right_of l [] h = tt
right_of l (made ∷ ms) h = (h.0.right, right_of l ms h.1)

patches_in-split : (g : Geometry) (later : List Made) (made : Made) (before : List Made)
    → In (patches_of g (later ++ made ∷ before)) (patch_of g (length before) made)
patches_in-split g [] made before = In-right (patches_of g before) _ _ (inl refl)
patches_in-split g (x ∷ later) made before = In-left (patches_of g (later ++ made ∷ before)) _ _
    (patches_in-split g later made before)

-- the patch of a change that stands in the list
pub patches_in : (g : Geometry) (all : List Made) (made : Made) (before : List Made) → StandsIn all made before
    → In (patches_of g all) (patch_of g (length before) made)
patches_in g all made before h = rw (h.are) (patches_in-split g h.later made before)

-- a change that stands in the list has a smaller number than the next one
pub earlier_number : (all : List Made) (made : Made) (before : List Made) → StandsIn all made before
    → length before < length all
earlier_number all made before h =
    let long : length all ≡ length h.later + length (made ∷ before) = ap length h.are
    ∙ length-append h.later (made ∷ before) in
    omega arith

AllKept-from : (P : Ledger → Change → Bool) (keeps : ℕ → Bool) (l : Ledger) (ms : List Made)
    → ((other : Made) (before : List Made) → StandsIn ms other before → P (after_all l before) other.change ≡ true
    → keeps (length before) ≡ true) → AllKept P keeps l ms
AllKept-from P keeps l [] f = tt
AllKept-from P keeps l (made ∷ ms) f = (
  λ t. f made ms (record { later = []; are = refl }) t,
  AllKept-from P keeps l ms (λ other before stands t. f other before
      (record { later = made ∷ stands.later; are = ap (λ xs. made ∷ xs) stands.are }) t),
)

reach_kept : (keeps : ℕ → Bool) (all : List Patch) → AreClosed keeps all → (p q : Patch) → Reaches all p q → In all p
    → In all q → keeps p.no ≡ true → keeps q.no ≡ true
reach_kept keeps all closed p q (directly d) in_p in_q h = closed p q in_p in_q h d
reach_kept keeps all closed p q (onward {p = x} {q = r} {r = y} d inside rest) in_p in_q h =
    let in_r = In-from_Contains all r inside in
    reach_kept keeps all closed r q rest in_r in_q (closed p r in_p in_r h d)

-- two patches of one record share its bytes
filled_some : (s : SlotFields) → 0 < length (used_spelling s)
filled_some s = omega arith

slot_bytes_some : Formats → (g : Geometry) (n : ℕ) (c : Change) → on_slot n c ≡ true → 0 < length (bytes_of g c)
slot_bytes_some formats g n (Fill slot s) h = filled_some s
slot_bytes_some formats g n (Clear slot) h = let long = formats.slot_long 17 None tt in omega arith
slot_bytes_some formats g n (Data e offset bytes) h = absurd (cc)
slot_bytes_some formats g n (Point e generation offset) h = absurd (cc)
slot_bytes_some formats g n Widen h = absurd (cc)

sharing : (p q : Patch) → p.block ≡ q.block → p.start ≡ q.start → 0 < length p.bytes → 0 < length q.bytes
    → shares_byte p q ≡ true
sharing p q block start some_p some_q =
    let a : (p.block == q.block) ≡ true = grind (arith, nat_tests) in
    let less : max p.start q.start < min (end p) (end q) = omega arith in
    let b : nat_lt (max p.start q.start) (min (end p) (end q)) ≡ true = grind (arith, nat_tests) in
    and_from _ _ a b

-- two changes begin at the same byte, and have some
record IsOverSame (g : Geometry) (c d : Change) : Type 0 where
  pub block : block_of g c ≡ block_of g d
  pub start : start_of c ≡ start_of d
  pub some : 0 < length (bytes_of g c)
  pub some_other : 0 < length (bytes_of g d)

over_slot : Formats → (g : Geometry) (n : ℕ) (c : Change) (d : Change) → on_slot n c ≡ true → on_slot n d ≡ true
    → IsOverSame g c d
over_slot formats g n (Fill s x) (Fill t y) h k = let a : n ≡ s = grind (arith, nat_tests) in
    let b : n ≡ t = grind (arith, nat_tests) in let e : s ≡ t = sym a ∙ b in rw e (record {
      block = refl;
      start = refl;
      some = filled_some x;
      some_other = filled_some y;
    })
over_slot formats g n (Fill s x) (Clear t) h k = let a : n ≡ s = grind (arith, nat_tests) in
    let b : n ≡ t = grind (arith, nat_tests) in let e : s ≡ t = sym a ∙ b in rw e (record {
      block = refl;
      start = refl;
      some = filled_some x;
      some_other = slot_bytes_some formats g n (Clear t) k;
    })
over_slot formats g n (Clear s) (Fill t y) h k = let a : n ≡ s = grind (arith, nat_tests) in
    let b : n ≡ t = grind (arith, nat_tests) in let e : s ≡ t = sym a ∙ b in rw e (record {
      block = refl;
      start = refl;
      some = slot_bytes_some formats g n (Clear s) h;
      some_other = filled_some y;
    })
over_slot formats g n (Clear s) (Clear t) h k = let a : n ≡ s = grind (arith, nat_tests) in
    let b : n ≡ t = grind (arith, nat_tests) in let e : s ≡ t = sym a ∙ b in rw e (record {
      block = refl;
      start = refl;
      some = slot_bytes_some formats g n (Clear s) h;
      some_other = slot_bytes_some formats g n (Clear t) k;
    })
over_slot formats g n c (Data e offset bytes) h k = absurd (cc)
over_slot formats g n c (Point e generation offset) h k = absurd (cc)
over_slot formats g n c Widen h k = absurd (cc)
over_slot formats g n (Data e offset bytes) d h k = absurd (cc)
over_slot formats g n (Point e generation offset) d h k = absurd (cc)
over_slot formats g n Widen d h k = absurd (cc)

over_point : (g : Geometry) (e generation offset : ℕ) (d : Change) → is_point e d ≡ true
    → IsOverSame g (Point e generation offset) d
over_point g e generation offset (Point x time to) h = let same : e ≡ x = grind (arith, nat_tests) in rw same (record {
  block = refl;
  start = refl;
  some = omega arith;
  some_other = omega arith;
})
over_point g e generation offset (Data x from bytes) h = absurd (cc)
over_point g e generation offset (Fill slot s) h = absurd (cc)
over_point g e generation offset (Clear slot) h = absurd (cc)
over_point g e generation offset Widen h = absurd (cc)

on_own : (n : ℕ) → (n == n) ≡ true
on_own n = grind (arith, nat_tests)

over_record : Formats → (g : Geometry) (c d : Change) → same_record c d ≡ true → IsOverSame g c d
over_record formats g (Fill slot s) d h = over_slot formats g slot (Fill slot s) d (on_own slot) h
over_record formats g (Clear slot) d h = over_slot formats g slot (Clear slot) d (on_own slot) h
over_record formats g (Point e generation offset) d h = over_point g e generation offset d h
over_record formats g (Data e offset bytes) d h = absurd (cc)
over_record formats g Widen d h = absurd (cc)

held_one : Formats → (keeps : ℕ → Bool) (l : Ledger) (made : Made) (ms : List Made) → IsWellMade l made ms
    → AreClosed keeps (patches_of l.geometry (made ∷ ms)) → keeps (length ms) ≡ true
    → IsHeld keeps l made.change ms
held_one formats keeps l made ms well closed h =
    let g = l.geometry in
    AllKept-from (λ k d. comes_after (after_all l ms) made.change k d || same_record made.change d) keeps l ms
    (λ other before stands t.
    let p : Patch = patch_of l.geometry (length ms) made in
    let q : Patch = patch_of l.geometry (length before) other in
    let in_p : In (patches_of l.geometry (made ∷ ms)) p = In-right (patches_of l.geometry ms) _ _ (inl refl) in
    let in_q : In (patches_of l.geometry (made ∷ ms)) q =
    In-left (patches_of l.geometry ms) _ _ (patches_in l.geometry ms other before stands) in
    elim (or_cases _ _ t) [
      | inl after ↦ reach_kept keeps (patches_of l.geometry (made ∷ ms)) closed p q
          (well.reaches other before stands after) in_p in_q h
      | inr same ↦
          let over = over_record formats l.geometry made.change other.change same in
          let less = earlier_number ms other before stands in
          let below : nat_lt (length before) (length ms) ≡ true = grind (arith, nat_tests) in
          let shared : shares_byte p q ≡ true = sharing p q over.block over.start over.some over.some_other in
          let both : (nat_lt (length before) (length ms) && shares_byte p q) ≡ true = and_from _ _ below shared in
          closed p q in_p in_q h (or_right (is_among made.after (length before)) _ both)
    ])

-- so each of the changes holds what it comes after
pub held_those : Formats → (keeps : ℕ → Bool) (l : Ledger) (ms : List Made) → AreWellMade l ms
    → AreClosed keeps (patches_of l.geometry ms) → AreHeld keeps l ms
held_those formats keeps l [] well closed = tt
held_those formats keeps l (made ∷ ms) well closed = (
  λ h. held_one formats keeps l made ms well.0 closed h,
  held_those formats keeps l ms well.1 (λ p q in_p in_q. closed p q (In-left (patches_of l.geometry ms) _ _ in_p)
      (In-left (patches_of l.geometry ms) _ _ in_q)),
)
