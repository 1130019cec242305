-- What the kept changes leave is sound.
use Rattle.std.proofs.Common.{◌≡◌, ◌≢◌, ℕ, ◌+◌, ◌<◌, ◌≤◌, ◌⊎◌, ◌∙◌, inl, inr, Bool, true, false, List, [], ◌∷◌, length}
use Rattle.std.proofs.Common.{Option, Some, None, refl, sym, ap, arith, subst, cond}
use Rattle.std.specs.Prelude.{◌==◌, ◌&&◌, ◌||◌, nat_le, nat_lt, is_none}
use Rattle.std.proofs.lemmas.Bool.{cases_Bool, and_parts, and_from, cases_lt, or_left, or_right}
use Rattle.std.proofs.lemmas.Bool.Decides.{nat_tests}
use Rattle.patch_frame.specs.declared.geometries.Format.TheVariants.{One}
use Rattle.patch_frame.specs.declared.geometries.Geometry.{Geometry}
use Rattle.patch_frame.specs.Geometry.{largest_pointer, slot_count, value_limit}
use Rattle.patch_frame.specs.Slot.{SlotFields}
use Rattle.patch_recovery.specs.Change.{Change, Data, Point, Fill, Clear, Widen, Made, widened}
use Rattle.patch_recovery.specs.Ledger.{Ledger, after, after_all, after_those, bytes_at, writes_at}
use Rattle.patch_recovery.specs.Right.{IsRight, IsRightData, IsRightPoint, IsRightFill, IsNamed, IsSound}
use Rattle.patch_recovery.specs.Orders.{is_of_frame, is_reset, takes_from, is_clear, is_widen, comes_after}
use Rattle.patch_recovery.specs.Naming.{is_point}
use Rattle.patch_frame.specs.Frame.{frame_at}
use Rattle.patch_frame.specs.declared.pointers.Pointer.{Pointer}
use Rattle.patch_recovery.proofs.Agreeing.{AllKept, AllKept-fewer, AreRight, on_slot, pointers_agree, bytes_agree}
use Rattle.patch_recovery.proofs.Agreeing.{byte-other, geometries_agree, slots_agree, entries_agree, keys_agree}
use Rattle.patch_recovery.proofs.Agreeing.{pointers_behind}
use Rattle.patch_recovery.specs.Wider.{Wider, Limits, limits_of}
use Rattle.patch_recovery.proofs.Widening.{shape_all, shape_those, first_one, named_along}
use Rattle.patch_recovery.proofs.Widening.{bytes_same}

-- of one record
abbrev pub same_record : Change → Change → Bool
same_record (Fill slot s) c = on_slot slot c
same_record (Clear slot) c = on_slot slot c
same_record (Point extent generation offset) c = is_point extent c
same_record (Data extent offset bytes) c = false
same_record Widen c = false

-- what a change comes after is kept, and so are the earlier changes of its record
abbrev pub IsHeld : (ℕ → Bool) → Ledger → Change → List Made → Type 0
IsHeld keeps l c ms = AllKept (λ k d. comes_after (after_all l ms) c k d || same_record c d) keeps l ms

-- and so it is for each change that is kept itself
abbrev pub AreHeld : (ℕ → Bool) → Ledger → List Made → Type 0
AreHeld keeps l [] = Unit {0}
AreHeld keeps l (made ∷ ms) = (keeps (length ms) ≡ true → IsHeld keeps l made.change ms) × AreHeld keeps l ms

-- so each narrower kind is kept
pub fewer : (keeps : ℕ → Bool) (l : Ledger) (c : Change) (ms : List Made) (Q : Ledger → Change → Bool)
    → ((k : Ledger) (d : Change) → Q k d ≡ true → (comes_after (after_all l ms) c k d || same_record c d) ≡ true)
    → IsHeld keeps l c ms → AllKept Q keeps l ms
fewer keeps l c ms Q h held = AllKept-fewer (λ k d. comes_after (after_all l ms) c k d
    || same_record c d) Q keeps l ms h held

alike : (g : Geometry) → Limits g g
alike g = limits_of g g (inl refl)

-- a slot says one thing
pub some_alike : {f g : SlotFields} → Some f ≡ Some g → f ≡ g
some_alike {f} {g} h = cc

-- a place before the bytes
pub not_covered : (e x offset i count : ℕ) → (e ≡ x → i < offset)
    → (e == x && nat_le offset i && nat_lt i (offset + count)) ≡ false
not_covered e x offset i count h = elim (cases_Bool (e == x)) [
  | inl u ↦ let below : i < offset = h (grind (arith, nat_tests)) in
      let t : nat_le offset i ≡ false = grind (arith, nat_tests) in rw (u, t) refl
  | inr u ↦ rw u refl
]

-- a slot is empty or used
pub filled : (o : Option SlotFields) → (o ≡ None) ⊎ ((f : SlotFields) × (o ≡ Some f))
filled None = inl refl
filled (Some f) = inr (f, refl)

-- what is over a byte of a frame is of the frame
pub byte_of_frame : (f : SlotFields) (i : ℕ) → f.offset ≤ i → i < f.offset + f.length → (k : Ledger) (c : Change)
    → writes_at f.extent i c ≡ true → is_of_frame f k c ≡ true
byte_of_frame f i from to k (Data e offset bytes) h =
    let parts = and_parts (f.extent == e && nat_le offset i) (nat_lt i (offset + length bytes)) h in
    let front = and_parts (f.extent == e) (nat_le offset i) parts.0 in
    let a : nat_lt offset (f.offset + f.length) ≡ true = grind (arith, nat_tests, front.1) in
    let b : nat_lt f.offset (offset + length bytes) ≡ true = grind (arith, nat_tests, parts.1) in
    and_from _ _ (and_from _ _ front.0 a) b
byte_of_frame f i from to k (Point e generation offset) h = absurd (cc)
byte_of_frame f i from to k (Fill slot s) h = absurd (cc)
byte_of_frame f i from to k (Clear slot) h = absurd (cc)
byte_of_frame f i from to k Widen h = absurd (cc)

-- the extent's pointer lies past what a slot names, in its generation
record IsPast (f : SlotFields) (p : Pointer) : Type 0 where
  pub generation : p.generation ≡ f.generation
  pub past : f.offset + f.length ≤ p.offset

past_step : (f : SlotFields) → 0 < f.length → (m l : Ledger) (c : Change) (kept : Bool) → IsRight l c
    → (is_of_frame f l c ≡ true → kept ≡ true)
    → (IsPast f (l.pointer f.extent) → IsPast f (m.pointer f.extent)) → IsPast f ((after l c).pointer f.extent)
    → IsPast f ((cond kept (after m c) m).pointer f.extent)
past_step f long m l (Point x generation offset) true right own before now = elim (cases_Bool (f.extent == x)) [
  | inl u ↦ rw u (rw u at now)
  | inr u ↦ rw u (before (rw u at now))
]
past_step f long m l (Point x generation offset) false right own before now = elim (cases_Bool (f.extent == x)) [
  | inl u ↦
      let here : IsPast f (record { generation = generation; offset = offset }) = rw u at now in
      let same : f.extent ≡ x = grind (arith, nat_tests) in
      elim right.moved [
        | inl a ↦
            let time : (l.pointer f.extent).generation ≡ f.generation = ap (λ y. (l.pointer y).generation) same
            ∙ sym a.generation_same ∙ here.generation in
            elim (cases_lt (l.pointer x).offset (f.offset + f.length)) [
              | inl less ↦
                  let past = here.past in
                  let in_time = here.generation in
                  let b : (f.generation == generation) ≡ true = grind (arith, nat_tests) in
                  let c : nat_lt (l.pointer x).offset (f.offset + f.length) ≡ true = grind (arith, nat_tests) in
                  let d : nat_le (f.offset + f.length) offset ≡ true = grind (arith, nat_tests) in
                  absurd (let wrong : false ≡ true = own (and_from _ _ (and_from _ _ (and_from _ _ u b) c) d) in cc)
              | inr past ↦ before (record {
                generation = time;
                past = subst (λ y. f.offset + f.length ≤ (l.pointer y).offset) (sym same) past;
              })
            ]
        | inr a ↦ let start = a.to_start in let past = here.past in absurd (omega arith)
      ]
  | inr u ↦ before (rw u at now)
]
past_step f long m l (Data x offset bytes) true right own before now = before now
past_step f long m l (Data x offset bytes) false right own before now = before now
past_step f long m l (Fill slot s) true right own before now = before now
past_step f long m l (Fill slot s) false right own before now = before now
past_step f long m l (Clear slot) true right own before now = before now
past_step f long m l (Clear slot) false right own before now = before now
past_step f long m l Widen true right own before now = before now
past_step f long m l Widen false right own before now = before now

-- where the pointer patch that went past a frame is kept, the kept pointer lies past it too
past_frame : (f : SlotFields) → 0 < f.length → (keeps : ℕ → Bool) (l : Ledger) (ms : List Made) → AreRight l ms
    → AllKept (is_of_frame f) keeps l ms
    → IsPast f ((after_all l ms).pointer f.extent) → IsPast f ((after_those keeps l ms).pointer f.extent)
past_frame f long keeps l [] right own now = now
past_frame f long keeps l (made ∷ ms) right own now =
    past_step f long (after_those keeps l ms) (after_all l ms) made.change (keeps (length ms)) right.0 own.0
    (past_frame f long keeps l ms right.1 own.1) now

module _ (keeps : ℕ → Bool) (l : Ledger) (ms : List Made) (right : AreRight l ms)
    (sound : IsSound (after_those keeps l ms)) where
  -- both divide the disk alike
  extents_alike : (after_those keeps l ms).geometry.extents ≡ (after_all l ms).geometry.extents
  extents_alike = (limits_of _ _ (shape_those keeps l ms right)).extents
      ∙ sym (limits_of _ _ (shape_all l ms right)).extents

  slots_alike : slot_count (after_those keeps l ms).geometry ≡ slot_count (after_all l ms).geometry
  slots_alike = (limits_of _ _ (shape_those keeps l ms right)).slots ∙ sym (limits_of _ _ (shape_all l ms right)).slots

  pointers_alike : largest_pointer (after_those keeps l ms).geometry.format
      ≡ largest_pointer (after_all l ms).geometry.format
  pointers_alike = (limits_of _ _ (shape_those keeps l ms right)).pointer
      ∙ sym (limits_of _ _ (shape_all l ms right)).pointer

  sound_data : (e offset : ℕ) (bytes : List ℕ) → IsRightData (after_all l ms) e offset bytes
      → IsHeld keeps l (Data e offset bytes) ms → IsSound (after (after_those keeps l ms) (Data e offset bytes))
  sound_data e offset bytes r held =
      let k = after_those keeps l ms in
      let resets : AllKept (λ k c. is_reset e c) keeps l ms =
      fewer keeps l (Data e offset bytes) ms (λ k c. is_reset e c) (λ k c t. or_left _ _ t) held in
      let behind = pointers_behind e keeps l ms resets right in
      record {
        known = sound.known;
        named = λ slot f g. let n = sound.named slot f g in
            named_along (after_those keeps l ms) (after (after_those keeps l ms) (Data e offset bytes)) f n
            (alike _) refl (omega arith)
            (λ i from to. byte-other f.extent i (after_those keeps l ms) (Data e offset bytes)
            (not_covered f.extent e offset i (length bytes)
            (λ same.
            let at : ((after_those keeps l ms).pointer f.extent).offset ≤ ((after_all l ms).pointer e).offset =
            subst (λ x. ((after_those keeps l ms).pointer x).offset ≤ ((after_all l ms).pointer e).offset)
            (sym same) behind.offset in
            let past = r.past_pointer in
            let inside = n.before_pointer in
            omega arith)));
        single = sound.single;
        pointers = sound.pointers;
      }

  sound_point : (e generation offset : ℕ) → IsRightPoint (after_all l ms) e generation offset
      → IsHeld keeps l (Point e generation offset) ms → IsSound
      (after (after_those keeps l ms) (Point e generation offset))
  sound_point e generation offset r held =
      let k = after_those keeps l ms in
      let mine : AllKept (λ k c. is_point e c) keeps l ms =
      fewer keeps l (Point e generation offset) ms (λ k c. is_point e c) (λ k c t. or_right _ _ t) held in
      let agree : (after_those keeps l ms).pointer e ≡ (after_all l ms).pointer e = pointers_agree e keeps l ms mine in
      record {
        known = sound.known;
        named = λ slot f g. let n = sound.named slot f g in
            elim (cases_Bool (f.extent == e)) [
              | inl u ↦ let same : f.extent ≡ e = grind (arith, nat_tests) in elim r.moved [
                | inl a ↦
                    let time : generation ≡ ((after_those keeps l ms).pointer f.extent).generation = a.generation_same
                    ∙ ap (λ p. p.generation) (sym agree)
                    ∙ ap (λ x. ((after_those keeps l ms).pointer x).generation) (sym same) in
                    let on : ((after_those keeps l ms).pointer f.extent).offset ≡ ((after_all l ms).pointer e).offset =
                    ap (λ x. ((after_those keeps l ms).pointer x).offset) same ∙ ap (λ p. p.offset) agree in
                    let further = a.further in
                    let up : ((after_those keeps l ms).pointer f.extent).offset ≤ offset = omega arith in
                    named_along (after_those keeps l ms)
                    (after (after_those keeps l ms) (Point e generation offset)) f n (alike _) (rw u time) (rw u up)
                    (λ i from to. refl)
                | inr a ↦
                    let zero : (offset == 0) ≡ true = let z = a.to_start in grind (arith, nat_tests) in
                    let takers : AllKept (takes_from e) keeps l ms =
                    fewer keeps l (Point e generation offset) ms (takes_from e)
                    (λ k c t. or_left _ _ (and_from _ _ zero t)) held in
                    absurd (a.unnamed slot f (entries_agree e slot f keeps l ms takers same g) same)
              ]
              | inr u ↦ named_along (after_those keeps l ms)
                  (after (after_those keeps l ms) (Point e generation offset)) f n (alike _) (rw u refl)
                  (rw u (omega arith)) (λ i from to. refl)
            ];
        single = sound.single;
        pointers = λ x known. elim (cases_Bool (x == e)) [
          | inl u ↦ let alike = pointers_alike in let fit = r.in_extent in rw u (omega arith)
          | inr u ↦ rw u (sound.pointers x known)
        ];
      }

  sound_fill : (s : ℕ) (f : SlotFields) → IsRightFill (after_all l ms) s f → IsHeld keeps l (Fill s f) ms
      → IsSound (after (after_those keeps l ms) (Fill s f))
  sound_fill s f r held =
      let widens : AllKept (λ k c. is_widen c) keeps l ms =
      fewer keeps l (Fill s f) ms (λ k c. is_widen c) (λ k c t. or_left _ _ (or_left _ _ (or_right _ _ t))) held in
      let geometry : (after_those keeps l ms).geometry ≡ (after_all l ms).geometry =
      geometries_agree keeps l ms widens in
      let mine : AllKept (λ k c. on_slot s c) keeps l ms =
      fewer keeps l (Fill s f) ms (λ k c. on_slot s c) (λ k c t. or_right _ _ t) held in
      let own : AllKept (is_of_frame f) keeps l ms = fewer keeps l (Fill s f) ms (is_of_frame f)
      (λ k c t. or_left _ _ (or_left _ _ (or_left _ _ t))) held in
      let past : IsPast f ((after_those keeps l ms).pointer f.extent) =
      past_frame f (let long = r.fits.some_frame in omega arith) keeps l ms right own
      (record { generation = r.named.generation; past = r.named.before_pointer }) in
      let byte : (i : ℕ) → f.offset ≤ i → i < f.offset + f.length
      → (after_those keeps l ms).byte f.extent i ≡ (after_all l ms).byte f.extent i =
      λ i from to. bytes_agree f.extent i keeps l ms (fewer keeps l (Fill s f) ms (λ k c. writes_at f.extent i c)
      (λ k c t. or_left _ _ (or_left _ _ (or_left _ _ (byte_of_frame f i from to k c t)))) held) in
      let here : IsNamed (after (after_those keeps l ms) (Fill s f)) f = record {
        extent = let known = r.named.extent in let extents = extents_alike in omega arith;
        generation = past.generation;
        before_pointer = past.past;
        content = r.named.content;
        frame = ap (λ g. frame_at (value_limit g.format) (bytes_at (after_those keeps l ms) f.extent f.offset f.length))
            geometry
            ∙ ap (frame_at (value_limit (after_all l ms).geometry.format))
            (bytes_same (after_those keeps l ms) (after_all l ms) f.extent f.offset f.length byte) ∙ r.named.frame;
        key = r.named.key;
        length = r.named.length;
      } in
      let only : (t : ℕ) (g : SlotFields) → (t == s) ≡ false → (after_those keeps l ms).slot t ≡ Some g → g.key ≡ f.key
      → ⊥ = λ t g off at same.
      let apart : t ≢ s = λ e. absurd (grind (arith, nat_tests)) in
      elim (filled ((after_all l ms).slot s)) [
        | inl none ↦
            let clears : AllKept (λ k c. is_clear c) keeps l ms =
            fewer keeps l (Fill s f) ms (λ k c. is_clear c)
            (λ k c t. or_left _ _ (or_right _ _ (and_from _ _ (ap is_none none) t))) held in
            let there = keys_agree t g keeps l ms clears right at in
            r.only t there.fields apart there.is (there.same ∙ same)
        | inr some ↦
            let there : (after_those keeps l ms).slot s ≡ Some some.0 = slots_agree s keeps l ms mine ∙ some.1 in
            apart (sound.single t s g some.0 at there (same ∙ sym (r.same_key some.0 some.1)))
      ] in
      record {
        known = λ t g at. elim (cases_Bool (t == s)) [
          | inl u ↦ let known = r.known in let count = slots_alike in
              let same : t ≡ s = grind (arith, nat_tests) in omega arith
          | inr u ↦ sound.known t g (rw u at at)
        ];
        named = λ t g at. elim (cases_Bool (t == s)) [
          | inl u ↦ subst (λ h. IsNamed (after (after_those keeps l ms) (Fill s f)) h) (some_alike (rw u at at)) here
          | inr u ↦ named_along (after_those keeps l ms) (after (after_those keeps l ms) (Fill s f)) g
              (sound.named t g (rw u at at)) (alike _) refl (omega arith) (λ i from to. refl)
        ];
        single = λ t o g h at_t at_o same. elim (cases_Bool (t == s)) [
          | inl u ↦ elim (cases_Bool (o == s)) [
            | inl v ↦ grind (arith, nat_tests)
            | inr v ↦ let mine : f ≡ g = some_alike (rw u at at_t) in
                absurd (only o h v (rw v at at_o) (sym same ∙ ap (λ y. y.key) (sym mine)))
          ]
          | inr u ↦ elim (cases_Bool (o == s)) [
            | inl v ↦ let mine : f ≡ h = some_alike (rw v at at_o) in
                absurd (only t g u (rw u at at_t) (same ∙ ap (λ y. y.key) (sym mine)))
            | inr v ↦ sound.single t o g h (rw u at at_t) (rw v at at_o) same
          ]
        ];
        pointers = sound.pointers;
      }

  sound_clear : (s : ℕ) → IsSound (after (after_those keeps l ms) (Clear s))
  sound_clear s =
      let was : (t : ℕ) (g : SlotFields) → (after (after_those keeps l ms) (Clear s)).slot t ≡ Some g
      → (after_those keeps l ms).slot t ≡ Some g = λ t g at. elim (cases_Bool (t == s)) [
        | inl u ↦ absurd (let none : None ≡ Some g = rw u at at in cc)
        | inr u ↦ rw u at at
      ] in
      record {
        known = λ t g at. sound.known t g (was t g at);
        named = λ t g at. named_along (after_those keeps l ms) (after (after_those keeps l ms) (Clear s)) g
            (sound.named t g (was t g at)) (alike _) refl (omega arith) (λ i from to. refl);
        single = λ t o g h at_t at_o same. sound.single t o g h (was t g at_t) (was o h at_o) same;
        pointers = sound.pointers;
      }

  sound_widen : (after_all l ms).geometry.format ≡ One → IsSound (after (after_those keeps l ms) Widen)
  sound_widen one =
      let wider : Wider (after_those keeps l ms).geometry (widened (after_those keeps l ms).geometry) =
      elim (shape_those keeps l ms right) [
        | inl e ↦ inr (ap (λ g. g.format) e ∙ first_one l ms right one, refl)
        | inr w ↦ inl (ap widened w.1 ∙ sym w.1)
      ] in
      let limits = limits_of _ _ wider in
      record {
        known = λ t g at. let count = limits.slots in let known = sound.known t g at in omega arith;
        named = λ t g at. named_along (after_those keeps l ms) (after (after_those keeps l ms) Widen) g
            (sound.named t g at) limits refl (omega arith) (λ i from to. refl);
        single = sound.single;
        pointers = λ x known. let fits = sound.pointers x (let same = limits.extents in omega arith) in
            let long = limits.pointer in omega arith;
      }

  sound_after : (c : Change) → IsRight (after_all l ms) c → IsHeld keeps l c ms
      → IsSound (after (after_those keeps l ms) c)
  sound_after (Data e offset bytes) r held = sound_data e offset bytes r held
  sound_after (Point e generation offset) r held = sound_point e generation offset r held
  sound_after (Fill s f) r held = sound_fill s f r held
  sound_after (Clear s) r held = sound_clear s
  sound_after Widen r held = sound_widen r

-- what the kept changes leave, where what each kept one comes after is kept
pub sound_those : (keeps : ℕ → Bool) (l : Ledger) (ms : List Made) → IsSound l → AreRight l ms → AreHeld keeps l ms
    → IsSound (after_those keeps l ms)
sound_those keeps l [] sound right held = sound
sound_those keeps l (made ∷ ms) sound right held =
    let before = sound_those keeps l ms sound right.1 held.1 in
    elim (cases_Bool (keeps (length ms))) [
      | inl u ↦ rw u (sound_after keeps l ms right.1 before made.change right.0 (held.0 u))
      | inr u ↦ rw u before
    ]
