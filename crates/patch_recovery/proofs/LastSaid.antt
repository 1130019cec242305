-- What the kept changes say last is what the map has.
use Rattle.std.proofs.Common.{◌≡◌, ◌≢◌, ℕ, zero, suc, ◌+◌, ◌<◌, ◌≤◌, ◌⊎◌, ◌∙◌, inl, inr, Bool, true, false, cond, List}
use Rattle.std.proofs.Common.{[], ◌∷◌, ◌++◌, length, Option, Some, None, Result, Ok, refl, sym, ap, arith, subst}
use Rattle.std.specs.Prelude.{◌==◌, ◌&&◌, is_none}
use Rattle.std.specs.List.{flat_map, range_with_len}
use Rattle.std.specs.Str.{bytes_eq}
use Rattle.std.proofs.lemmas.Bool.{cases_Bool, and_from, both_ways, cases_eq, or_left, or_right}
use Rattle.std.proofs.lemmas.Bool.Decides.{nat_tests}
use Rattle.std.proofs.lemmas.Slice.Eq.{bytes_eq-Decides}
use Rattle.patch_frame.specs.declared.faults.FrameFault.{FrameFault}
use Rattle.patch_frame.specs.Frame.{Content, frame_at}
use Rattle.patch_frame.specs.Geometry.{slot_count, value_limit}
use Rattle.patch_frame.specs.Slot.{SlotFields}
use Rattle.patch_recovery.specs.Change.{Change, Data, Point, Fill, Clear, Widen, Made, widened}
use Rattle.patch_recovery.specs.Ledger.{Ledger, after, after_all, after_those, bytes_at, frame_named, entry_read}
use Rattle.patch_recovery.specs.Ledger.{entry_of, map_of, value_in, writes_at}
use Rattle.patch_recovery.specs.Reading.{has_key}
use Rattle.patch_recovery.specs.Right.{IsRight, IsRightFill, IsRightClear, IsSound}
use Rattle.patch_recovery.specs.Orders.{is_reset, is_clear, is_widen}
use Rattle.patch_recovery.specs.Said.{speaks_of, value_read, said, last_said}
use Rattle.patch_recovery.specs.Lasting.{HasSlot, Tells}
use Rattle.patch_recovery.proofs.Agreeing.{AllKept, AreRight, on_slot, bytes_agree, byte-other, geometries_agree}
use Rattle.patch_recovery.proofs.Agreeing.{slots_agree, keys_agree, pointers_behind}
use Rattle.patch_recovery.specs.Wider.{limits_of, Wider}
use Rattle.patch_recovery.proofs.Widening.{shape_those, first_one, frame_within, bytes_same}
use Rattle.patch_recovery.proofs.Sound.{IsHeld, AreHeld, sound_those, fewer, not_covered, filled, some_alike}
use Rattle.patch_recovery.proofs.Sound.{byte_of_frame}

-- a frame that is read
abbrev ok : Content → Result Content FrameFault
ok c = Ok c

ok_alike : (c d : Content) → ok c ≡ ok d → c ≡ d
ok_alike c d h = cc

some_value : (v w : List ℕ) → Some v ≡ Some w → v ≡ w
some_value v w h = cc

key_same : (a b : List ℕ) → a ≡ b → bytes_eq a b ≡ true
key_same a b h = (bytes_eq-Decides a b).1 h

key_apart : (a b : List ℕ) → (a ≡ b → ⊥) → bytes_eq a b ≡ false
key_apart a b h = elim (cases_Bool (bytes_eq a b)) [ inl u ↦ absurd (h ((bytes_eq-Decides a b).0 u)) | inr u ↦ u ]

-- ---- look-ups

filled_value : (o : Option (List ℕ)) → (o ≡ None) ⊎ ((v : List ℕ) × (o ≡ Some v))
filled_value None = inl refl
filled_value (Some v) = inr (v, refl)

value_behind : (xs ys : List Content) (key : List ℕ) → value_in xs key ≡ None
    → value_in (xs ++ ys) key ≡ value_in ys key
value_behind [] ys key h = refl
value_behind (c ∷ xs) ys key h = elim (cases_Bool (bytes_eq c.key key)) [
  | inl u ↦ absurd (let e : Some c.value ≡ None = rw u at h in cc)
  | inr u ↦ rw u (value_behind xs ys key (rw u at h))
]

value_front : (xs ys : List Content) (key v : List ℕ) → value_in xs key ≡ Some v → value_in (xs ++ ys) key ≡ Some v
value_front [] ys key v h = absurd (cc)
value_front (c ∷ xs) ys key v h = elim (cases_Bool (bytes_eq c.key key)) [
  | inl u ↦ rw u (rw u at h)
  | inr u ↦ rw u (value_front xs ys key v (rw u at h))
]

module _ (l : Ledger) (sound : IsSound l) where
  entry_off : (s : ℕ) (key : List ℕ) (o : Option SlotFields) → l.slot s ≡ o
      → ((f : SlotFields) → l.slot s ≡ Some f → f.key ≡ key → ⊥) → value_in (entry_of l o) key ≡ None
  entry_off s key None at off = refl
  entry_off s key (Some f) at off =
      let n = sound.named s f at in
      let apart : bytes_eq n.content.key key ≡ false =
      key_apart n.content.key key (λ same. off f at (sym n.key ∙ same)) in
      ap (λ r. value_in (entry_read r) key) n.frame ∙ rw apart refl

  entry_on : (s : ℕ) (f : SlotFields) (c : Content) → l.slot s ≡ Some f → frame_named l f ≡ Ok c
      → value_in (entry_of l (l.slot s)) f.key ≡ Some c.value
  entry_on s f c at frame =
      let n = sound.named s f at in
      let same : n.content ≡ c = ok_alike n.content c (sym n.frame ∙ frame) in
      let here : bytes_eq c.key f.key ≡ true = key_same c.key f.key (ap (λ x. x.key) (sym same) ∙ n.key) in
      ap (λ o. value_in (entry_of l o) f.key) at ∙ ap (λ r. value_in (entry_read r) f.key) frame ∙ rw here refl

  value_found : (a n s : ℕ) (f : SlotFields) (c : Content) → a ≤ s → s < a + n → l.slot s ≡ Some f
      → frame_named l f ≡ Ok c
      → value_in (flat_map (λ s. entry_of l (l.slot s)) (range_with_len a n)) f.key ≡ Some c.value
  value_found a zero s f c from to at frame = absurd (omega arith)
  value_found a (suc n) s f c from to at frame = elim (cases_eq a s) [
    | inl e ↦ value_front (entry_of l (l.slot a)) (flat_map (λ s. entry_of l (l.slot s)) (range_with_len (a + 1) n))
        f.key c.value (subst (λ k. value_in (entry_of l (l.slot k)) f.key ≡ Some c.value) (sym e)
        (entry_on s f c at frame))
    | inr ne ↦ value_behind (entry_of l (l.slot a)) (flat_map (λ s. entry_of l (l.slot s)) (range_with_len (a + 1) n))
        f.key
        (entry_off a f.key (l.slot a) refl (λ h at_a same. ne (sound.single a s h f at_a at same)))
        ∙ value_found (a + 1) n s f c (omega arith) (omega arith) at frame
  ]

  -- the value of a key in a used slot
  pub value_known : (s : ℕ) (f : SlotFields) (c : Content) → l.slot s ≡ Some f → frame_named l f ≡ Ok c
      → value_in (map_of l) f.key ≡ Some c.value
  value_known s f c at frame = let known = sound.known s f at in
      value_found 0 (slot_count l.geometry) s f c (omega arith) (omega arith) at frame

  entry_named : (s : ℕ) (key v : List ℕ) (o : Option SlotFields) → l.slot s ≡ o → value_in (entry_of l o) key ≡ Some v
      → HasSlot l key
  entry_named s key v None at h = absurd (cc)
  entry_named s key v (Some f) at h =
      let n = sound.named s f at in
      let there : value_in (n.content ∷ []) key ≡ Some v = ap (λ r. value_in (entry_read r) key) (sym n.frame) ∙ h in
      elim (cases_Bool (bytes_eq n.content.key key)) [
        | inl u ↦ record {
          slot = s;
          fields = f;
          used = at;
          same = sym n.key ∙ (bytes_eq-Decides n.content.key key).0 u;
        }
        | inr u ↦ absurd (let e : None ≡ Some v = rw u at there in cc)
      ]

  value_slot : (a n : ℕ) (key v : List ℕ) → value_in (flat_map (λ s. entry_of l (l.slot s)) (range_with_len a n)) key
      ≡ Some v → HasSlot l key
  value_slot a zero key v h = absurd (cc)
  value_slot a (suc n) key v h = elim (filled_value (value_in (entry_of l (l.slot a)) key)) [
    | inl none ↦ value_slot (a + 1) n key v (sym (value_behind (entry_of l (l.slot a))
        (flat_map (λ s. entry_of l (l.slot s)) (range_with_len (a + 1) n)) key none) ∙ h)
    | inr some ↦ entry_named a key some.0 (l.slot a) refl some.1
  ]

-- ---- what is told

tells_first : (l : Ledger) → IsSound l → Tells l (value_in (map_of l))
tells_first l sound = record {
  has = value_known l sound;
  only = λ key v. value_slot l sound 0 (slot_count l.geometry) key v;
}

-- so the map has what was told
pub told_is : (l : Ledger) (told : List ℕ → Option (List ℕ)) → IsSound l → Tells l told → (key : List ℕ)
    → value_in (map_of l) key ≡ told key
told_is l told sound tells key = elim (filled_value (value_in (map_of l) key)) [
  | inl none ↦ elim (filled_value (told key)) [
    | inl also ↦ none ∙ sym also
    | inr some ↦
        let there = tells.only key some.0 some.1 in
        let n = sound.named there.slot there.fields there.used in
        let found : value_in (map_of l) key ≡ Some n.content.value = ap (value_in (map_of l)) (sym there.same)
        ∙ value_known l sound there.slot there.fields n.content there.used n.frame in
        absurd (let e : None ≡ Some n.content.value = sym none ∙ found in cc)
  ]
  | inr some ↦
      let there = value_slot l sound 0 (slot_count l.geometry) key some.0 some.1 in
      let n = sound.named there.slot there.fields there.used in
      ap (value_in (map_of l)) (sym there.same) ∙ value_known l sound there.slot there.fields n.content there.used
      n.frame
      ∙ sym (tells.has there.slot there.fields n.content there.used n.frame) ∙ ap told there.same
]

-- a change that is kept leaves the frames of the other slots
module _ (keeps : ℕ → Bool) (l : Ledger) (ms : List Made) (right : AreRight l ms)
    (sound : IsSound (after_those keeps l ms)) where
  -- a frame that a kept slot names is read as before when one more change is kept
  pub frame_kept : (c : Change) → IsRight (after_all l ms) c → IsHeld keeps l c ms → (s : ℕ) (f : SlotFields)
      → (after_those keeps l ms).slot s ≡ Some f
      → (x : Content) → frame_named (after_those keeps l ms) f ≡ Ok x
      → frame_named (after (after_those keeps l ms) c) f ≡ Ok x
  frame_kept (Data e offset bytes) r held s f at x frame =
      let n = sound.named s f at in
      let resets : AllKept (λ k c. is_reset e c) keeps l ms =
      fewer keeps l (Data e offset bytes) ms (λ k c. is_reset e c) (λ k c t. or_left _ _ t) held in
      let behind = pointers_behind e keeps l ms resets right in
      ap (frame_at (value_limit (after_those keeps l ms).geometry.format))
      (bytes_same (after (after_those keeps l ms) (Data e offset bytes))
      (after_those keeps l ms) f.extent f.offset f.length
      (λ i from to. byte-other f.extent i (after_those keeps l ms) (Data e offset bytes)
      (not_covered f.extent e offset i (length bytes)
      (λ same.
      let low : ((after_those keeps l ms).pointer f.extent).offset ≤ ((after_all l ms).pointer e).offset =
      subst (λ x. ((after_those keeps l ms).pointer x).offset ≤ ((after_all l ms).pointer e).offset)
      (sym same) behind.offset in
      let past = r.past_pointer in
      let inside = n.before_pointer in
      omega arith))))
      ∙ frame
  frame_kept (Point e generation offset) r held s f at x frame = frame
  frame_kept (Fill slot t) r held s f at x frame = frame
  frame_kept (Clear slot) r held s f at x frame = frame
  frame_kept Widen r held s f at x frame =
      let wider : Wider (after_those keeps l ms).geometry (after (after_those keeps l ms) Widen).geometry =
      elim (shape_those keeps l ms right) [
        | inl e ↦ inr (ap (λ g. g.format) e ∙ first_one l ms right r, refl)
        | inr w ↦ inl (ap widened w.1 ∙ sym w.1)
      ] in
      frame_within (value_limit (after_those keeps l ms).geometry.format)
      (value_limit (after (after_those keeps l ms) Widen).geometry.format)
      (bytes_at (after_those keeps l ms) f.extent f.offset f.length) x (limits_of _ _ wider).value frame

  -- a change of no slot
  tells_same : (told : List ℕ → Option (List ℕ)) (c : Change) → IsRight (after_all l ms) c → IsHeld keeps l c ms
      → ((s : ℕ) → (after (after_those keeps l ms) c).slot s ≡ (after_those keeps l ms).slot s)
      → Tells (after_those keeps l ms) told → Tells (after (after_those keeps l ms) c) told
  tells_same told c r held slots tells = record {
    has = λ s f x at frame.
        let was = sym (slots s) ∙ at in
        let n = sound.named s f was in
        let now = frame_kept c r held s f was n.content n.frame in
        tells.has s f n.content was n.frame ∙ ap (λ y. Some y.value) (ok_alike n.content x (sym now ∙ frame));
    only = λ key v h. let there = tells.only key v h in record {
      slot = there.slot;
      fields = there.fields;
      used = slots there.slot ∙ there.used;
      same = there.same;
    };
  }

  tells_fill : (told : List ℕ → Option (List ℕ)) (s : ℕ) (f : SlotFields) → IsRightFill (after_all l ms) s f
      → IsHeld keeps l (Fill s f) ms
      → Tells (after_those keeps l ms) told → Tells (after (after_those keeps l ms) (Fill s f))
      (λ key. cond (bytes_eq f.key key) (value_read (frame_named (after_all l ms) f)) (told key))
  tells_fill told s f r held tells =
      let widens : AllKept (λ k c. is_widen c) keeps l ms =
      fewer keeps l (Fill s f) ms (λ k c. is_widen c) (λ k c t. or_left _ _ (or_left _ _ (or_right _ _ t))) held in
      let geometry : (after_those keeps l ms).geometry ≡ (after_all l ms).geometry =
      geometries_agree keeps l ms widens in
      let mine : AllKept (λ k c. on_slot s c) keeps l ms =
      fewer keeps l (Fill s f) ms (λ k c. on_slot s c) (λ k c t. or_right _ _ t) held in
      let byte : (i : ℕ) → f.offset ≤ i → i < f.offset + f.length
      → (after_those keeps l ms).byte f.extent i ≡ (after_all l ms).byte f.extent i =
      λ i from to. bytes_agree f.extent i keeps l ms (fewer keeps l (Fill s f) ms (λ k c. writes_at f.extent i c)
      (λ k c t. or_left _ _ (or_left _ _ (or_left _ _ (byte_of_frame f i from to k c t)))) held) in
      let frame_same : frame_named (after_those keeps l ms) f ≡ frame_named (after_all l ms) f =
      ap (λ g. frame_at (value_limit g.format) (bytes_at (after_those keeps l ms) f.extent f.offset f.length)) geometry
      ∙ ap (frame_at (value_limit (after_all l ms).geometry.format))
      (bytes_same (after_those keeps l ms) (after_all l ms) f.extent f.offset f.length byte) in
      -- the slot itself had this key, or was empty
      let own : (g : SlotFields) → (after_those keeps l ms).slot s ≡ Some g
      → g.key ≡ f.key = λ g at. elim (filled ((after_all l ms).slot s)) [
        | inl none ↦
            let clears : AllKept (λ k c. is_clear c) keeps l ms =
            fewer keeps l (Fill s f) ms (λ k c. is_clear c)
            (λ k c t. or_left _ _ (or_right _ _ (and_from _ _ (ap is_none none) t))) held in
            let there = keys_agree s g keeps l ms clears right at in
            absurd (let e : None ≡ Some there.fields = sym none ∙ there.is in cc)
        | inr some ↦
            let there : (after_those keeps l ms).slot s ≡ Some some.0 = slots_agree s keeps l ms mine ∙ some.1 in
            let same : g ≡ some.0 = some_alike (sym at ∙ there) in
            ap (λ y. y.key) same ∙ r.same_key some.0 some.1
      ] in
      let other : (t : ℕ) (g : SlotFields) → (t == s) ≡ false → (after_those keeps l ms).slot t ≡ Some g → f.key ≡ g.key
      → ⊥ = λ t g off at same.
      let apart : t ≢ s = λ e. absurd (grind (arith, nat_tests)) in
      elim (filled ((after_all l ms).slot s)) [
        | inl none ↦
            let clears : AllKept (λ k c. is_clear c) keeps l ms =
            fewer keeps l (Fill s f) ms (λ k c. is_clear c)
            (λ k c t. or_left _ _ (or_right _ _ (and_from _ _ (ap is_none none) t))) held in
            let there = keys_agree t g keeps l ms clears right at in
            r.only t there.fields apart there.is (there.same ∙ sym same)
        | inr some ↦
            let there : (after_those keeps l ms).slot s ≡ Some some.0 = slots_agree s keeps l ms mine ∙ some.1 in
            apart (sound.single t s g some.0 at there (sym same ∙ sym (r.same_key some.0 some.1)))
      ] in
      record {
        has = λ t g x at frame. elim (cases_Bool (t == s)) [
          | inl u ↦
              let same : f ≡ g = some_alike (rw u at at) in
              let here : bytes_eq f.key g.key ≡ true = key_same f.key g.key (ap (λ y. y.key) same) in
              let now : frame_named (after_all l ms) f ≡ Ok x = sym frame_same
              ∙ ap (frame_named (after_those keeps l ms)) same ∙ frame in
              rw here (ap value_read now)
          | inr u ↦
              let was : (after_those keeps l ms).slot t ≡ Some g = rw u at at in
              let away : bytes_eq f.key g.key ≡ false = key_apart f.key g.key (other t g u was) in
              rw away (tells.has t g x was frame)
        ];
        only = λ key v h. elim (cases_Bool (bytes_eq f.key key)) [
          | inl u ↦ record {
            slot = s;
            fields = f;
            used = let one : (s == s) ≡ true = grind (arith, nat_tests) in rw one refl;
            same = (bytes_eq-Decides f.key key).0 u;
          }
          | inr u ↦
              let there = tells.only key v (rw u at h) in
              elim (cases_Bool (there.slot == s)) [
                | inl same ↦
                    let at : there.slot ≡ s = grind (arith, nat_tests) in
                    let mine : (after_those keeps l ms).slot s ≡ Some there.fields =
                    subst (λ t. (after_those keeps l ms).slot t ≡ Some there.fields) at there.used in
                    absurd (both_ways _ u (key_same f.key key (sym (own there.fields mine) ∙ there.same)))
                | inr off ↦ record {
                  slot = there.slot;
                  fields = there.fields;
                  used = rw off (there.used);
                  same = there.same;
                }
              ]
        ];
      }

  tells_clear : (told : List ℕ → Option (List ℕ)) (s : ℕ) → IsRightClear (after_all l ms) s
      → IsHeld keeps l (Clear s) ms
      → Tells (after_those keeps l ms) told → Tells (after (after_those keeps l ms) (Clear s))
      (λ key. cond (has_key key ((after_all l ms).slot s)) None (told key))
  tells_clear told s r held tells =
      let mine : AllKept (λ k c. on_slot s c) keeps l ms =
      fewer keeps l (Clear s) ms (λ k c. on_slot s c) (λ k c t. or_right _ _ t) held in
      let there : (after_those keeps l ms).slot s ≡ Some r.fields = slots_agree s keeps l ms mine ∙ r.used in
      record {
        has = λ t g x at frame. elim (cases_Bool (t == s)) [
          | inl u ↦ absurd (let none : None ≡ Some g = rw u at at in cc)
          | inr u ↦
              let was : (after_those keeps l ms).slot t ≡ Some g = rw u at at in
              let apart : t ≢ s = λ e. absurd (grind (arith, nat_tests)) in
              let away : has_key g.key ((after_all l ms).slot s) ≡ false = ap (has_key g.key) r.used
              ∙ key_apart r.fields.key g.key (λ same. apart (sound.single t s g r.fields was there (sym same))) in
              rw away (tells.has t g x was frame)
        ];
        only = λ key v h. elim (cases_Bool (has_key key ((after_all l ms).slot s))) [
          | inl u ↦ absurd (let none : None ≡ Some v = rw u at h in cc)
          | inr u ↦
              let had = tells.only key v (rw u at h) in
              elim (cases_Bool (had.slot == s)) [
                | inl same ↦
                    let at : had.slot ≡ s = grind (arith, nat_tests) in
                    let one : had.fields ≡ r.fields = some_alike
                    (sym (subst (λ t. (after_those keeps l ms).slot t ≡ Some had.fields) at had.used) ∙ there) in
                    absurd (both_ways _ u (ap (has_key key) r.used
                    ∙ key_same r.fields.key key (ap (λ y. y.key) (sym one) ∙ had.same)))
                | inr off ↦ record { slot = had.slot; fields = had.fields; used = rw off (had.used); same = had.same }
              ]
        ];
      }

  tells_after : (told : List ℕ → Option (List ℕ)) (c : Change) → IsRight (after_all l ms) c → IsHeld keeps l c ms
      → Tells (after_those keeps l ms) told
      → Tells (after (after_those keeps l ms) c) (λ key. cond (speaks_of key (after_all l ms) c)
      (said (after_all l ms) c) (told key))
  tells_after told (Data e offset bytes) r held tells = tells_same told (Data e offset bytes) r held (λ s. refl) tells
  tells_after told (Point e generation offset) r held tells =
      tells_same told (Point e generation offset) r held (λ s. refl) tells
  tells_after told Widen r held tells = tells_same told Widen r held (λ s. refl) tells
  tells_after told (Fill s f) r held tells = tells_fill told s f r held tells
  tells_after told (Clear s) r held tells = tells_clear told s r held tells

-- so the map of the kept changes tells what they said last
pub tells_those : (keeps : ℕ → Bool) (l : Ledger) (ms : List Made) → IsSound l → AreRight l ms → AreHeld keeps l ms
    → Tells (after_those keeps l ms) (last_said keeps l ms)
tells_those keeps l [] sound right held = tells_first l sound
tells_those keeps l (made ∷ ms) sound right held =
    let before = tells_those keeps l ms sound right.1 held.1 in
    let was = sound_those keeps l ms sound right.1 held.1 in
    let state : Bool → Type 0 = λ kept. Tells (cond kept (after (after_those keeps l ms) made.change)
    (after_those keeps l ms))
    (λ key. cond (kept && speaks_of key (after_all l ms) made.change) (said (after_all l ms) made.change)
    (last_said keeps l ms key)) in
    elim (cases_Bool (keeps (length ms))) [
      | inl u ↦ subst state (sym u) (tells_after keeps l ms right.1 was (last_said keeps l ms) made.change right.0
          (held.0 u) before)
      | inr u ↦ subst state (sym u) before
    ]
