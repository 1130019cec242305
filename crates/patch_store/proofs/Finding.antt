-- The value that a key's slot leads to.
use Rattle.std.proofs.Common.{◌≡◌, ℕ, zero, suc, ◌+◌, ◌-◌, ◌<◌, ◌≤◌, ◌∙◌, inl, inr, Bool, true, false, List, [], ◌∷◌, length, get_or, refl, sym, ap, arith}
use Rattle.std.specs.Prelude.{◌==◌, nat_lt, Option, Some, None, position}
use Rattle.std.specs.List.{position_from}
use Rattle.std.proofs.lemmas.Bool.{cases_Bool}
use Rattle.std.proofs.lemmas.Bool.Decides.{nat_tests}
use Rattle.std.proofs.lemmas.Iterator.Adapters.{position_from-zero}
use Rattle.std.proofs.lemmas.List.Quantifiers.{position-Some}
use Rattle.std.proofs.lemmas.Slice.Eq.{bytes_eq-Decides}
use Rattle.patch_frame.specs.Geometry.{value_limit}
use Rattle.patch_frame.specs.Slot.{SlotFields}
use Rattle.patch_recovery.specs.Ledger.{Ledger, bytes_at, value_in}
use Rattle.patch_recovery.specs.Reading.{has_key, ledger_in}
use Rattle.patch_recovery.specs.Closed.{Opens}
use Rattle.patch_model.specs.Renewed.{cached_blocks}
use Rattle.patch_recovery.specs.Right.{IsNamed}
use Rattle.patch_extent.specs.Answers.{cached_bytes}
use Rattle.patch_history.specs.Refusing.{why_no_key}
use Rattle.patch_history.specs.Shelf.{Shelf}
use Rattle.patch_history.specs.ShelfLedger.{ShelvesAreKept, IsShelfOf}
use Rattle.patch_history.specs.Laws.{HistoriesAreRead, StandingsAgree}
use Rattle.patch_history.specs.History.{History, execution_of, standing_of, ledger_of}
use Rattle.patch_store.specs.Meaning.{Store, IsStoreOf}
use Rattle.patch_store.proofs.Values.{value_stands, read_stands, bytes_alike}

none_from : {X : Type 0} (test : X → Bool) (d : X) (i : ℕ) (xs : List X) → position_from test i xs ≡ None → (k : ℕ) → k < length xs → test (get_or xs k d) ≡ false
none_from test d i [] h k less = absurd (omega (arith, less))
none_from test d i (x ∷ xs) h zero less = elim (cases_Bool (test x)) [
  | inl u ↦ absurd (let g : Some i ≡ None = rw u at h in cc)
  | inr u ↦ u
]
none_from test d i (x ∷ xs) h (suc k) less = elim (cases_Bool (test x)) [
  | inl u ↦ absurd (let g : Some i ≡ None = rw u at h in cc)
  | inr u ↦ none_from test d (i + 1) xs (rw u at h) k (omega (arith, less))
]

pub none_passes : {X : Type 0} (test : X → Bool) (d : X) (xs : List X) → position test xs ≡ None → (k : ℕ) → k < length xs → test (get_or xs k d) ≡ false
none_passes test d xs h = none_from test d 0 xs (sym (position_from-zero test xs) ∙ h)

none_if : {X : Type 0} (o : Option X) → ((x : X) → o ≡ Some x → ⊥) → o ≡ None
none_if None never = refl
none_if (Some x) never = absurd (never x refl)

-- what a slot of the shelf says is what the disk says
slot_said : (shelf : Shelf) (l : Ledger) → IsShelfOf shelf l → (slot : ℕ) (f : SlotFields) → slot < length shelf.slots → get_or shelf.slots slot None ≡ Some f
    → l.slot slot ≡ Some f
slot_said shelf l kept slot f within is = let long = kept.slots in sym (kept.slot slot (omega (arith, within, long))) ∙ is

-- the bytes that a slot's frame has for its value
value_read : (l : Ledger) (blocks : List (List ℕ)) (value : List ℕ → Option (List ℕ)) → Opens blocks l value
    → (f : SlotFields) (named : IsNamed l f) (key : List ℕ) → f.key ≡ key
    → named.content.value ≡ bytes_at (ledger_in l.geometry blocks) f.extent (f.offset + (12 + length key)) (f.length - 16 - length key)
value_read l blocks value opens f named key is =
    let c = named.content in
    let n : length c.key ≡ length key = ap length (named.key ∙ is) in
    let long : 16 + length c.key + length c.value ≡ f.length = named.length in
    let high = opens.sound.pointers f.extent named.extent in
    let below = named.before_pointer in
    let same = opens.same in
    value_stands (value_limit l.geometry.format) l f.extent f.offset f.length c named.frame named.length
    ∙ ap (λ k. bytes_at l f.extent (f.offset + (12 + k)) (f.length - 16 - k)) n
    ∙ sym (bytes_alike opens.l l same f.extent (f.offset + (12 + length key)) (f.length - 16 - length key) named.extent (omega (arith, high, below, long, n)))
    ∙ ap (λ k. bytes_at k f.extent (f.offset + (12 + length key)) (f.length - 16 - length key)) (read_stands blocks opens.l opens.read ∙ ap (λ g. ledger_in g blocks) same.geometry)

-- a used slot that has the key
pub found_so : ShelvesAreKept → HistoriesAreRead → StandingsAgree → (h : History) (s : Store) → IsStoreOf s h
    → (key : List ℕ) (slot : ℕ) (f : SlotFields) → position (has_key key) s.shelf.slots ≡ Some slot → get_or s.shelf.slots slot None ≡ Some f
    → Some (cached_bytes s.shelf.extents.geometry (execution_of h) f.extent (f.offset + (12 + length f.key)) (f.length - 16 - length f.key))
    ≡ value_in (standing_of h).map.entries key
found_so kept reads agree h s was key slot f at is =
    let l = ledger_of h in
    let slots = ap (λ (x : Shelf). x.slots) was.shelf_is in
    let p = position-Some (has_key key) s.shelf.slots slot None at in
    let k : f.key ≡ key = (bytes_eq-Decides f.key key).0 (sym (ap (has_key key) is) ∙ p.1) in
    let n = ap length slots in
    let within = p.0 in
    let used = slot_said (standing_of h).shelf l (kept h) slot f (omega (arith, n, within)) (ap (λ xs. get_or xs slot None) (sym slots) ∙ is) in
    let opens = reads h was.legal in
    let named = opens.sound.named slot f used in
    let told = (agree h was.legal).tells.has slot f named.content used named.frame in
    let divided : l.geometry ≡ s.shelf.extents.geometry = sym (ap (λ (x : Shelf). x.extents.geometry) was.shelf_is ∙ (kept h).geometry) in
    let value = value_read l (cached_blocks (execution_of h)) (value_in (standing_of h).map.entries) opens f named f.key refl in
    sym (ap (value_in (standing_of h).map.entries) (sym k) ∙ told ∙ ap (λ v. Some v) value
    ∙ ap (λ g. Some (cached_bytes g (execution_of h) f.extent (f.offset + (12 + length f.key)) (f.length - 16 - length f.key))) divided)

-- a key that no slot has
pub absent_so : ShelvesAreKept → HistoriesAreRead → StandingsAgree → (h : History) (s : Store) → IsStoreOf s h → (key : List ℕ)
    → position (has_key key) s.shelf.slots ≡ None → None ≡ value_in (standing_of h).map.entries key
absent_so kept reads agree h s was key none =
    sym (none_if (value_in (standing_of h).map.entries key) (λ v told.
    let there = (agree h was.legal).tells.only key v told in
    let known = (reads h was.legal).sound.known there.slot there.fields there.used in
    let slots = ap (λ (x : Shelf). x.slots) was.shelf_is in
    let long = (kept h).slots in
    let n = ap length slots in
    let is : get_or s.shelf.slots there.slot None ≡ Some there.fields = ap (λ xs. get_or xs there.slot None) slots ∙ (kept h).slot there.slot known ∙ there.used in
    let off : has_key key (Some there.fields) ≡ false = sym (ap (has_key key) is) ∙ none_passes (has_key key) None s.shelf.slots none there.slot (omega (arith, known, long, n)) in
    let on : has_key key (Some there.fields) ≡ true = (bytes_eq-Decides there.fields.key key).1 there.same in
    let no : false ≡ true = sym off ∙ on in cc))

-- a slot that has a key isn't empty
pub empty_never : (slots : List (Option SlotFields)) (key : List ℕ) (slot : ℕ) → position (has_key key) slots ≡ Some slot → get_or slots slot None ≡ None → ⊥
empty_never slots key slot at is =
    let p = position-Some (has_key key) slots slot None at in
    let on : false ≡ true = sym (ap (has_key key) is) ∙ p.1 in
    cc

pub key_fits : (key : List ℕ) (empty : Bool) → empty ≡ (length key == 0) → empty ≡ false → length key ≤ 32 → why_no_key key ≡ None
key_fits key empty is some short =
    let a : (length key == 0) ≡ false = sym is ∙ some in
    let b : nat_lt 32 (length key) ≡ false = grind (arith, nat_tests, short) in
    rw (a, b) refl
