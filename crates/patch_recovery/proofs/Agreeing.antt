-- Where all changes of some kind are kept, the kept ones leave what all of them leave.
use Rattle.std.proofs.Common.{◌≡◌, ℕ, ◌+◌, ◌<◌, ◌≤◌, ◌∙◌, inl, inr, Bool, true, false, List, [], ◌∷◌, length, Option}
use Rattle.std.proofs.Common.{Some, refl, sym, ap, arith, subst}
use Rattle.std.specs.Prelude.{◌==◌, ◌&&◌, nat_le, nat_lt}
use Rattle.std.proofs.lemmas.Bool.{cases_Bool, and_from, both_ways}
use Rattle.std.proofs.lemmas.Bool.Decides.{nat_tests}
use Rattle.patch_frame.specs.declared.pointers.Pointer.{Pointer}
use Rattle.patch_frame.specs.Slot.{SlotFields}
use Rattle.patch_recovery.specs.Change.{Change, Data, Point, Fill, Clear, Widen, Made, widened}
use Rattle.patch_recovery.specs.Ledger.{Ledger, after, after_all, after_those, writes_at}
use Rattle.patch_recovery.specs.Right.{IsRight}
use Rattle.patch_recovery.specs.Orders.{is_reset, takes_from, names_extent, is_clear, is_widen}
use Rattle.patch_recovery.specs.Naming.{is_point}

-- the changes of the kind P are kept
abbrev pub AllKept : (Ledger → Change → Bool) → (ℕ → Bool) → Ledger → List Made → Type 0
AllKept P keeps l [] = Unit {0}
AllKept P keeps l (made ∷ ms) = (P (after_all l ms) made.change ≡ true → keeps (length ms) ≡ true)
    × AllKept P keeps l ms

-- each change is right where it was made
abbrev pub AreRight : Ledger → List Made → Type 0
AreRight l [] = Unit {0}
AreRight l (made ∷ ms) = IsRight (after_all l ms) made.change × AreRight l ms

-- what is kept of a kind is kept of each narrower one
pub AllKept-fewer : (P Q : Ledger → Change → Bool) (keeps : ℕ → Bool) (l : Ledger) (ms : List Made)
    → ((k : Ledger) (c : Change) → Q k c ≡ true → P k c ≡ true) → AllKept P keeps l ms → AllKept Q keeps l ms
AllKept-fewer P Q keeps l [] f h = tt
AllKept-fewer P Q keeps l (made ∷ ms) f h = (λ t. h.0 (f _ _ t), AllKept-fewer P Q keeps l ms f h.1)

-- a kind that isn't kept isn't there
pub not_kept : {b k : Bool} → (b ≡ true → k ≡ true) → k ≡ false → b ≡ false
not_kept {b} {k} h u = elim (cases_Bool b) [ inl t ↦ absurd (both_ways _ u (h t)) | inr f ↦ f ]

-- what the changes of a kind alone write
pub agree : {X : Type 0} (view : Ledger → X) (P : Change → Bool)
    → ((l k : Ledger) (c : Change) → view l ≡ view k → view (after l c) ≡ view (after k c))
    → ((k : Ledger) (c : Change) → P c ≡ false → view (after k c) ≡ view k)
    → (keeps : ℕ → Bool) (l : Ledger) (ms : List Made) → AllKept (λ k c. P c) keeps l ms
    → view (after_those keeps l ms) ≡ view (after_all l ms)
agree view P step other keeps l [] h = refl
agree view P step other keeps l (made ∷ ms) h = elim (cases_Bool (keeps (length ms))) [
  | inl u ↦ rw u (step _ _ made.change (agree view P step other keeps l ms h.1))
  | inr u ↦ rw u (agree view P step other keeps l ms h.1 ∙ sym (other _ made.change (not_kept h.0 u)))
]

pointer-step : (e : ℕ) (l k : Ledger) (c : Change) → l.pointer e ≡ k.pointer e
    → (after l c).pointer e ≡ (after k c).pointer e
pointer-step e l k (Point x generation offset) h = elim (cases_Bool (e == x)) [ inl u ↦ rw u refl | inr u ↦ rw u h ]
pointer-step e l k (Data x offset bytes) h = h
pointer-step e l k (Fill slot s) h = h
pointer-step e l k (Clear slot) h = h
pointer-step e l k Widen h = h

pointer-other : (e : ℕ) (k : Ledger) (c : Change) → is_point e c ≡ false → (after k c).pointer e ≡ k.pointer e
pointer-other e k (Point x generation offset) h = rw h refl
pointer-other e k (Data x offset bytes) h = refl
pointer-other e k (Fill slot s) h = refl
pointer-other e k (Clear slot) h = refl
pointer-other e k Widen h = refl

-- where all pointer patches of an extent are kept, its pointer is
pub pointers_agree : (e : ℕ) (keeps : ℕ → Bool) (l : Ledger) (ms : List Made) → AllKept (λ k c. is_point e c) keeps l ms
    → (after_those keeps l ms).pointer e ≡ (after_all l ms).pointer e
pointers_agree e = agree (λ l. l.pointer e) (is_point e) (pointer-step e) (pointer-other e)

byte-step : (e i : ℕ) (l k : Ledger) (c : Change) → l.byte e i ≡ k.byte e i
    → (after l c).byte e i ≡ (after k c).byte e i
byte-step e i l k (Data x offset bytes) h = elim (cases_Bool
    (e == x && nat_le offset i && nat_lt i (offset + length bytes))) [
      | inl u ↦ rw u refl
      | inr u ↦ rw u h
    ]
byte-step e i l k (Point x generation offset) h = h
byte-step e i l k (Fill slot s) h = h
byte-step e i l k (Clear slot) h = h
byte-step e i l k Widen h = h

-- a change that is not over a place leaves its byte
pub byte-other : (e i : ℕ) (k : Ledger) (c : Change) → writes_at e i c ≡ false → (after k c).byte e i ≡ k.byte e i
byte-other e i k (Data x offset bytes) h = rw h refl
byte-other e i k (Point x generation offset) h = refl
byte-other e i k (Fill slot s) h = refl
byte-other e i k (Clear slot) h = refl
byte-other e i k Widen h = refl

-- where all that is over a place is kept, its byte is
pub bytes_agree : (e i : ℕ) (keeps : ℕ → Bool) (l : Ledger) (ms : List Made)
    → AllKept (λ k c. writes_at e i c) keeps l ms
    → (after_those keeps l ms).byte e i ≡ (after_all l ms).byte e i
bytes_agree e i = agree (λ l. l.byte e i) (writes_at e i) (byte-step e i) (byte-other e i)

geometry-step : (l k : Ledger) (c : Change) → l.geometry ≡ k.geometry → (after l c).geometry ≡ (after k c).geometry
geometry-step l k Widen h = ap widened h
geometry-step l k (Data x offset bytes) h = h
geometry-step l k (Point x generation offset) h = h
geometry-step l k (Fill slot s) h = h
geometry-step l k (Clear slot) h = h

geometry-other : (k : Ledger) (c : Change) → is_widen c ≡ false → (after k c).geometry ≡ k.geometry
geometry-other k Widen h = absurd (cc)
geometry-other k (Data x offset bytes) h = refl
geometry-other k (Point x generation offset) h = refl
geometry-other k (Fill slot s) h = refl
geometry-other k (Clear slot) h = refl

-- where an upgrade is kept, the geometry is
pub geometries_agree : (keeps : ℕ → Bool) (l : Ledger) (ms : List Made) → AllKept (λ k c. is_widen c) keeps l ms
    → (after_those keeps l ms).geometry ≡ (after_all l ms).geometry
geometries_agree = agree (λ l. l.geometry) is_widen geometry-step geometry-other

-- the slot is filled or cleared
abbrev pub on_slot : ℕ → Change → Bool
on_slot slot (Fill t s) = slot == t
on_slot slot (Clear t) = slot == t
on_slot slot (Data e offset bytes) = false
on_slot slot (Point e generation offset) = false
on_slot slot Widen = false

slot-step : (n : ℕ) (l k : Ledger) (c : Change) → l.slot n ≡ k.slot n → (after l c).slot n ≡ (after k c).slot n
slot-step n l k (Fill t s) h = elim (cases_Bool (n == t)) [ inl u ↦ rw u refl | inr u ↦ rw u h ]
slot-step n l k (Clear t) h = elim (cases_Bool (n == t)) [ inl u ↦ rw u refl | inr u ↦ rw u h ]
slot-step n l k (Data e offset bytes) h = h
slot-step n l k (Point e generation offset) h = h
slot-step n l k Widen h = h

slot-other : (n : ℕ) (k : Ledger) (c : Change) → on_slot n c ≡ false → (after k c).slot n ≡ k.slot n
slot-other n k (Fill t s) h = rw h refl
slot-other n k (Clear t) h = rw h refl
slot-other n k (Data e offset bytes) h = refl
slot-other n k (Point e generation offset) h = refl
slot-other n k Widen h = refl

-- where all changes of a slot are kept, what it says is
pub slots_agree : (n : ℕ) (keeps : ℕ → Bool) (l : Ledger) (ms : List Made) → AllKept (λ k c. on_slot n c) keeps l ms
    → (after_those keeps l ms).slot n ≡ (after_all l ms).slot n
slots_agree n = agree (λ l. l.slot n) (on_slot n) (slot-step n) (slot-other n)

-- a slot that names an extent, none of whose entries left it by a change that isn't kept
entry-step : (n : ℕ) (f : SlotFields) (l k : Ledger) (c : Change) → (l.slot n ≡ Some f → k.slot n ≡ Some f)
    → (after l c).slot n ≡ Some f → (after k c).slot n ≡ Some f
entry-step n f l k (Fill t s) h g = elim (cases_Bool (n == t)) [
  | inl u ↦ rw u (rw u at g)
  | inr u ↦ rw u (h (rw u at g))
]
entry-step n f l k (Clear t) h g = elim (cases_Bool (n == t)) [
  | inl u ↦ rw u (rw u at g)
  | inr u ↦ rw u (h (rw u at g))
]
entry-step n f l k (Data e offset bytes) h g = h g
entry-step n f l k (Point e generation offset) h g = h g
entry-step n f l k Widen h g = h g

named_still : (e n t : ℕ) (f : SlotFields) (k : Ledger) → k.slot n ≡ Some f → f.extent ≡ e
    → names_extent e (k.slot t) ≡ false → (n == t) ≡ false
named_still e n t f k g x free = elim (cases_Bool (n == t)) [
  | inl u ↦ let same : n ≡ t = grind (arith, nat_tests) in
      let there : k.slot t ≡ Some f = subst (λ m. k.slot m ≡ Some f) same g in
      let here : (e == f.extent) ≡ false = subst (λ o. names_extent e o ≡ false) there free in
      absurd (grind (arith, nat_tests))
  | inr u ↦ u
]

entry-left : (e n : ℕ) (f : SlotFields) (k : Ledger) (c : Change) → k.slot n ≡ Some f → f.extent ≡ e
    → takes_from e k c ≡ false → (after k c).slot n ≡ Some f
entry-left e n f k (Fill t s) g x free = rw (named_still e n t f k g x free) g
entry-left e n f k (Clear t) g x free = rw (named_still e n t f k g x free) g
entry-left e n f k (Data y offset bytes) g x free = g
entry-left e n f k (Point y generation offset) g x free = g
entry-left e n f k Widen g x free = g

-- where all that took from an extent is kept, an entry of it that the kept changes leave is there
pub entries_agree : (e n : ℕ) (f : SlotFields) (keeps : ℕ → Bool) (l : Ledger) (ms : List Made)
    → AllKept (takes_from e) keeps l ms → f.extent ≡ e
    → (after_those keeps l ms).slot n ≡ Some f → (after_all l ms).slot n ≡ Some f
entries_agree e n f keeps l [] h x g = g
entries_agree e n f keeps l (made ∷ ms) h x g = elim (cases_Bool (keeps (length ms))) [
  | inl u ↦ entry-step n f _ _ made.change (entries_agree e n f keeps l ms h.1 x) (rw u at g)
  | inr u ↦ entry-left e n f _ made.change (entries_agree e n f keeps l ms h.1 x (rw u at g)) x (not_kept h.0 u)
]

-- a slot has this key
pub record HasKey (o : Option SlotFields) (key : List ℕ) : Type 0 where
  pub fields : SlotFields
  pub is : o ≡ Some fields
  pub same : fields.key ≡ key

key-step : (n : ℕ) (f : SlotFields) (l k : Ledger) (c : Change) → (l.slot n ≡ Some f → HasKey (k.slot n) f.key)
    → (after l c).slot n ≡ Some f → HasKey ((after k c).slot n) f.key
key-step n f l k (Fill t s) h g = elim (cases_Bool (n == t)) [
  | inl u ↦ rw u (record { fields = f; is = rw u at g; same = refl })
  | inr u ↦ rw u (h (rw u at g))
]
key-step n f l k (Clear t) h g = elim (cases_Bool (n == t)) [
  | inl u ↦ rw u (record { fields = f; is = rw u at g; same = refl })
  | inr u ↦ rw u (h (rw u at g))
]
key-step n f l k (Data e offset bytes) h g = h g
key-step n f l k (Point e generation offset) h g = h g
key-step n f l k Widen h g = h g

key-left : (n : ℕ) (key : List ℕ) (k : Ledger) (c : Change) → IsRight k c → is_clear c ≡ false → HasKey (k.slot n) key
    → HasKey ((after k c).slot n) key
key-left n key k (Fill t s) right free h = elim (cases_Bool (n == t)) [
  | inl u ↦ let same : n ≡ t = grind (arith, nat_tests) in
      rw u (record {
        fields = s;
        is = refl;
        same = sym (right.same_key h.fields (subst (λ m. k.slot m ≡ Some h.fields) same h.is)) ∙ h.same;
      })
  | inr u ↦ rw u h
]
key-left n key k (Clear t) right free h = absurd (cc)
key-left n key k (Data e offset bytes) right free h = h
key-left n key k (Point e generation offset) right free h = h
key-left n key k Widen right free h = h

-- where all clears are kept, a key that the kept changes leave in a slot is there
pub keys_agree : (n : ℕ) (f : SlotFields) (keeps : ℕ → Bool) (l : Ledger) (ms : List Made)
    → AllKept (λ k c. is_clear c) keeps l ms → AreRight l ms
    → (after_those keeps l ms).slot n ≡ Some f → HasKey ((after_all l ms).slot n) f.key
keys_agree n f keeps l [] h right g = record { fields = f; is = g; same = refl }
keys_agree n f keeps l (made ∷ ms) h right g = elim (cases_Bool (keeps (length ms))) [
  | inl u ↦ key-step n f _ _ made.change (keys_agree n f keeps l ms h.1 right.1) (rw u at g)
  | inr u ↦ key-left n f.key _ made.change right.0 (not_kept h.0 u) (keys_agree n f keeps l ms h.1 right.1 (rw u at g))
]

-- one pointer is no further than another, in one generation
pub record IsBehind (p q : Pointer) : Type 0 where
  pub generation : p.generation ≡ q.generation
  pub offset : p.offset ≤ q.offset

behind-step : (e : ℕ) (l k : Ledger) (c : Change) → IsBehind (l.pointer e) (k.pointer e)
    → IsBehind ((after l c).pointer e) ((after k c).pointer e)
behind-step e l k (Point x generation offset) h = elim (cases_Bool (e == x)) [
  | inl u ↦ rw u (record { generation = refl; offset = omega arith })
  | inr u ↦ rw u h
]
behind-step e l k (Data x offset bytes) h = h
behind-step e l k (Fill slot s) h = h
behind-step e l k (Clear slot) h = h
behind-step e l k Widen h = h

behind-left : (e : ℕ) (p : Pointer) (k : Ledger) (c : Change) → IsRight k c → is_reset e c ≡ false
    → IsBehind p (k.pointer e) → IsBehind p ((after k c).pointer e)
behind-left e p k (Point x generation offset) right free h = elim (cases_Bool (e == x)) [
  | inl u ↦ let same : e ≡ x = grind (arith, nat_tests) in elim right.moved [
    | inl a ↦
        let at : (k.pointer e).offset < offset = subst (λ y. (k.pointer y).offset < offset) (sym same) a.further in
        let in_time : generation ≡ (k.pointer e).generation = a.generation_same
        ∙ ap (λ y. (k.pointer y).generation) (sym same) in
        let up = h.offset in
        rw u (record { generation = h.generation ∙ sym in_time; offset = omega arith })
    | inr a ↦ let zero : (offset == 0) ≡ true = let z = a.to_start in grind (arith, nat_tests) in
        absurd (both_ways _ free (and_from _ _ u zero))
  ]
  | inr u ↦ rw u h
]
behind-left e p k (Data x offset bytes) right free h = h
behind-left e p k (Fill slot s) right free h = h
behind-left e p k (Clear slot) right free h = h
behind-left e p k Widen right free h = h

-- where all resets of an extent are kept, its kept pointer is no further, in the same generation
pub pointers_behind : (e : ℕ) (keeps : ℕ → Bool) (l : Ledger) (ms : List Made)
    → AllKept (λ k c. is_reset e c) keeps l ms → AreRight l ms
    → IsBehind ((after_those keeps l ms).pointer e) ((after_all l ms).pointer e)
pointers_behind e keeps l [] h right = record { generation = refl; offset = omega arith }
pointers_behind e keeps l (made ∷ ms) h right = elim (cases_Bool (keeps (length ms))) [
  | inl u ↦ rw u (behind-step e _ _ made.change (pointers_behind e keeps l ms h.1 right.1))
  | inr u ↦ rw u (behind-left e _ _ made.change right.0 (not_kept h.0 u) (pointers_behind e keeps l ms h.1 right.1))
]
