-- A slot that is read is spelled so, and what is spelled so is read.
use Rattle.std.proofs.Common.{◌≡◌, ℕ, ◌-◌, ◌^◌, ◌<◌, ◌≤◌, true, false, not, ◌||◌, eqb, ltb, List, [], ◌∷◌, ◌++◌, length, get_or, drop, slice_range, Option, Some, None, Result, Ok, Err, refl, sym, ap, subst, ◌∙◌, append_assoc, append-nil, inl, inr, ◌⊎◌, arith}
use Rattle.std.specs.Prelude.{IfOk}
use Rattle.std.specs.Int.{w16, w32, to_be_bytes, from_be_bytes}
use Rattle.std.proofs.lemmas.Bool.{ltb-false, le-ltb, ne_eqb, eq-eqb, not-false, or_parts, or_from, cond-true, cond-false, cases_Bool}
use Rattle.std.proofs.lemmas.Nat.{from_be_bytes-to_be_bytes_2, from_be_bytes-to_be_bytes_4}
use Rattle.std.proofs.lemmas.List.{length-append, get_or-replicate}
use Rattle.patch_frame.specs.Passing.{read_is, passed}
use Rattle.patch_frame.specs.declared.faults.FrameFault.{FrameFault}
use Rattle.patch_frame.specs.declared.faults.FrameFault.TheVariants.{BadMagic, BadKey, BadValue, NotZero}
use Rattle.patch_frame.specs.declared.slots.SlotState.{SlotState}
use Rattle.patch_frame.specs.Field.{zeros, are_zeros, outcome, Gives}
use Rattle.patch_frame.specs.Slot.{SlotFields, fields, Fits, FitsUsed, used_spelling, spelling, state, key_length, key_end, frame_length, fields_of, empty_tests, used_tests, slot_at}
use Rattle.patch_frame.proofs.Parts.{passes, IsBytes, IsBytes-range, length-zeros, zeros_are_zeros, are_zeros_is, length-range, number_back, number_back_2, number_below, number_below_2, padding_is, nothing_left, field_then, skip, byte_then, skip_byte, positive, not_zero}

regroup : (a c d e f g h : List ℕ) → a ++ c ++ d ++ e ++ f ++ g ++ h ≡ a ++ (c ++ (d ++ (e ++ (f ++ (g ++ h)))))
regroup a c d e f g h = simp append_assoc

pub spelled_fields : (s : SlotFields) → used_spelling s ≡ 1 ∷ (length s.key ∷ (to_be_bytes w16 s.extent ++ (to_be_bytes w32 s.generation ++ (to_be_bytes w32 s.offset ++ (to_be_bytes w32 s.length ++ (s.key ++ zeros (48 - length s.key)))))))
spelled_fields s = regroup (1 ∷ length s.key ∷ []) (to_be_bytes w16 s.extent) (to_be_bytes w32 s.generation) (to_be_bytes w32 s.offset) (to_be_bytes w32 s.length) s.key (zeros (48 - length s.key))

pub length-used_spelling : (s : SlotFields) → length s.key ≤ 48 → length (used_spelling s) ≡ 64
length-used_spelling s short =
    let apart = ap length (spelled_fields s) in
    let ended = length-append s.key (zeros (48 - length s.key)) in
    let padded = length-zeros (48 - length s.key) in
    omega arith

pub length-spelling : (longest : ℕ) (s : Option SlotFields) → Fits longest s → length (spelling s) ≡ 64
length-spelling longest None fits = length-zeros 64
length-spelling longest (Some s) fits = let short = fits.short_key in length-used_spelling s (omega arith)

-- what the tests of a used slot say
pub record IsUsed (longest : ℕ) (bytes : List ℕ) : Type 0 where
  pub used : state bytes ≡ 1
  pub some_key : 0 < key_length bytes
  pub short_key : key_length bytes ≤ 32
  pub padding : are_zeros (slice_range bytes (key_end bytes) 64) ≡ true
  pub some_frame : 17 ≤ frame_length bytes
  pub short_frame : frame_length bytes ≤ longest

tests_pass : (longest : ℕ) (bytes : List ℕ) (s : Option SlotFields) → eqb (state bytes) 0 ≡ false → outcome (used_tests longest bytes) (Some (fields_of bytes)) ≡ Ok s → IsUsed longest bytes × (Some (fields_of bytes) ≡ s)
tests_pass longest bytes s some h =
    let x = Some (fields_of bytes) in
    let t0 = passed (ltb 1 (state bytes)) BadMagic (drop 1 (used_tests longest bytes)) x s h in
    let t1 = passed (eqb (key_length bytes) 0 || ltb 32 (key_length bytes)) BadKey (drop 2 (used_tests longest bytes)) x s t0.1 in
    let t2 = passed (not (are_zeros (slice_range bytes (key_end bytes) 64))) NotZero (drop 3 (used_tests longest bytes)) x s t1.1 in
    let t3 = passed (ltb (frame_length bytes) 17 || ltb longest (frame_length bytes)) BadValue [] x s t2.1 in
    let above = positive (state bytes) some in
    let below : state bytes ≤ 1 = ltb-false _ _ t0.0 in
    let key = or_parts (eqb (key_length bytes) 0) (ltb 32 (key_length bytes)) t1.0 in
    let frame = or_parts (ltb (frame_length bytes) 17) (ltb longest (frame_length bytes)) t3.0 in (
      record {
        used = omega arith;
        some_key = positive (key_length bytes) key.0;
        short_key = ltb-false _ _ key.1;
        padding = not-false _ t2.0;
        some_frame = ltb-false _ _ frame.0;
        short_frame = ltb-false _ _ frame.1;
      },
      read_is x s t3.1,
    )

is_spelled : (longest : ℕ) (bytes : List ℕ) → IsBytes bytes → length bytes ≡ 64 → IsUsed longest bytes → FitsUsed longest (fields_of bytes) × (bytes ≡ used_spelling (fields_of bytes))
is_spelled longest bytes fits long is =
    let s = fields_of bytes in
    let short = is.short_key in
    let key : length s.key ≡ key_length bytes = length-range bytes 16 (key_end bytes) (omega arith) (omega arith) ∙ omega arith in
    let zs : slice_range bytes (key_end bytes) 64 ≡ zeros (48 - length s.key) = padding_is bytes (key_end bytes) 64 (omega arith) (omega arith) is.padding ∙ ap zeros (omega arith) in
    let at_padding = field_then bytes (key_end bytes) 64 (zeros (48 - length s.key)) [] (omega arith) zs (nothing_left bytes 64 long) in
    let at_padding-is : drop (key_end bytes) bytes ≡ zeros (48 - length s.key) = at_padding ∙ append-nil (zeros (48 - length s.key)) in
    let at_key = field_then bytes 16 (key_end bytes) s.key (zeros (48 - length s.key)) (omega arith) refl at_padding-is in
    let at_length = field_then bytes 12 16 (to_be_bytes w32 s.length) (s.key ++ zeros (48 - length s.key)) (omega arith) (number_back bytes 12 16 fits refl (omega arith)) at_key in
    let at_offset = field_then bytes 8 12 (to_be_bytes w32 s.offset) (to_be_bytes w32 s.length ++ (s.key ++ zeros (48 - length s.key))) (omega arith) (number_back bytes 8 12 fits refl (omega arith)) at_length in
    let at_generation = field_then bytes 4 8 (to_be_bytes w32 s.generation) (to_be_bytes w32 s.offset ++ (to_be_bytes w32 s.length ++ (s.key ++ zeros (48 - length s.key)))) (omega arith) (number_back bytes 4 8 fits refl (omega arith)) at_offset in
    let rest = to_be_bytes w16 s.extent ++ (to_be_bytes w32 s.generation ++ (to_be_bytes w32 s.offset ++ (to_be_bytes w32 s.length ++ (s.key ++ zeros (48 - length s.key))))) in
    let at_extent : drop 2 bytes ≡ rest = field_then bytes 2 4 (to_be_bytes w16 s.extent) (to_be_bytes w32 s.generation ++ (to_be_bytes w32 s.offset ++ (to_be_bytes w32 s.length ++ (s.key ++ zeros (48 - length s.key))))) (omega arith) (number_back_2 bytes 2 4 fits refl (omega arith)) at_generation in
    let at_key_length : drop 1 bytes ≡ length s.key ∷ rest = byte_then bytes 1 rest (omega arith) at_extent ∙ ap (λ (n : ℕ). n ∷ rest) (sym key) in
    let at_state : drop 0 bytes ≡ 1 ∷ (length s.key ∷ rest) = byte_then bytes 0 (length s.key ∷ rest) (omega arith) at_key_length ∙ ap (λ (n : ℕ). n ∷ (length s.key ∷ rest)) is.used in (
      record {
        some_key = omega (arith, is.some_key);
        short_key = omega (arith, is.short_key);
        extent = number_below_2 (slice_range bytes 2 4) (IsBytes-range bytes 2 4 fits);
        generation = number_below (slice_range bytes 4 8) (IsBytes-range bytes 4 8 fits);
        offset = number_below (slice_range bytes 8 12) (IsBytes-range bytes 8 12 fits);
        some_frame = is.some_frame;
        short_frame = is.short_frame;
      },
      at_state ∙ sym (spelled_fields s),
    )

empty_takes : (longest : ℕ) (bytes : List ℕ) (s : Option SlotFields) → length bytes ≡ 64 → outcome (empty_tests bytes) None ≡ Ok s → Fits longest s × (bytes ≡ spelling s)
empty_takes longest bytes s long h =
    let t = passed (not (are_zeros bytes)) NotZero [] None s h in
    let zs : bytes ≡ zeros 64 = are_zeros_is bytes (not-false _ t.0) ∙ ap zeros long in
    subst (λ (x : Option SlotFields). Fits longest x × (bytes ≡ spelling x)) (read_is None s t.1) (tt, zs)

used_takes : (longest : ℕ) (bytes : List ℕ) (s : Option SlotFields) → IsBytes bytes → length bytes ≡ 64 → eqb (state bytes) 0 ≡ false → outcome (used_tests longest bytes) (Some (fields_of bytes)) ≡ Ok s → Fits longest s × (bytes ≡ spelling s)
used_takes longest bytes s fits long some h =
    let t = tests_pass longest bytes s some h in
    subst (λ (x : Option SlotFields). Fits longest x × (bytes ≡ spelling x)) t.1 (is_spelled longest bytes fits long t.0)

takes_by : (longest : ℕ) (bytes : List ℕ) (s : Option SlotFields) → IsBytes bytes → length bytes ≡ 64 → (eqb (state bytes) 0 ≡ true) ⊎ (eqb (state bytes) 0 ≡ false) → slot_at longest bytes ≡ Ok s → Fits longest s × (bytes ≡ spelling s)
takes_by longest bytes s fits long (inl e) h = empty_takes longest bytes s long (sym (cond-true (eqb (state bytes) 0) (outcome (empty_tests bytes) None) (outcome (used_tests longest bytes) (Some (fields_of bytes))) e) ∙ h)
takes_by longest bytes s fits long (inr e) h = used_takes longest bytes s fits long e (sym (cond-false (eqb (state bytes) 0) (outcome (empty_tests bytes) None) (outcome (used_tests longest bytes) (Some (fields_of bytes))) e) ∙ h)

pub slot_takes : (longest : ℕ) (bytes : List ℕ) (s : Option SlotFields) → IsBytes bytes → length bytes ≡ 64 → slot_at longest bytes ≡ Ok s → Fits longest s × (bytes ≡ spelling s)
slot_takes longest bytes s fits long h = takes_by longest bytes s fits long (cases_Bool (eqb (state bytes) 0)) h

-- ---- the other way

used_passes : (longest : ℕ) (bytes : List ℕ) → IsUsed longest bytes → slot_at longest bytes ≡ Ok (Some (fields_of bytes))
used_passes longest bytes is =
    let x = Some (fields_of bytes) in
    let used = is.used in
    let some : eqb (state bytes) 0 ≡ false = ne_eqb (state bytes) 0 (λ e. omega arith) in
    let b1 : (eqb (key_length bytes) 0 || ltb 32 (key_length bytes)) ≡ false = or_from _ _ (not_zero (key_length bytes) is.some_key) (le-ltb 32 (key_length bytes) is.short_key) in
    let b3 : (ltb (frame_length bytes) 17 || ltb longest (frame_length bytes)) ≡ false = or_from _ _ (le-ltb _ _ is.some_frame) (le-ltb _ _ is.short_frame) in
    cond-false (eqb (state bytes) 0) (outcome (empty_tests bytes) None) (outcome (used_tests longest bytes) x) some
    ∙ passes (ltb 1 (state bytes)) BadMagic (drop 1 (used_tests longest bytes)) x x (le-ltb 1 (state bytes) (omega arith))
    (passes (eqb (key_length bytes) 0 || ltb 32 (key_length bytes)) BadKey (drop 2 (used_tests longest bytes)) x x b1
    (passes (not (are_zeros (slice_range bytes (key_end bytes) 64))) NotZero (drop 3 (used_tests longest bytes)) x x (ap not is.padding)
    (passes (ltb (frame_length bytes) 17 || ltb longest (frame_length bytes)) BadValue [] x x b3 refl)))

same_fields : (a b : SlotFields) → a.key ≡ b.key → a.extent ≡ b.extent → a.generation ≡ b.generation → a.offset ≡ b.offset → a.length ≡ b.length → a ≡ b
same_fields a b k e g o l =
    ap (λ (t : List ℕ). record { key = t; extent = a.extent; generation = a.generation; offset = a.offset; length = a.length }) k
    ∙ ap (λ (t : ℕ). record { key = b.key; extent = t; generation = a.generation; offset = a.offset; length = a.length }) e
    ∙ ap (λ (t : ℕ). record { key = b.key; extent = b.extent; generation = t; offset = a.offset; length = a.length }) g
    ∙ ap (λ (t : ℕ). record { key = b.key; extent = b.extent; generation = b.generation; offset = t; length = a.length }) o
    ∙ ap (λ (t : ℕ). record { key = b.key; extent = b.extent; generation = b.generation; offset = b.offset; length = t }) l

is_used : (longest : ℕ) (bytes : List ℕ) (s : SlotFields) → longest < 2 ^ 32 → FitsUsed longest s → bytes ≡ used_spelling s → IsUsed longest bytes × (fields_of bytes ≡ s)
is_used longest bytes s small fits e =
    let some_key = fits.some_key in
    let short_key = fits.short_key in
    let some_frame = fits.some_frame in
    let short_frame = fits.short_frame in
    let z = zeros (48 - length s.key) in
    let r6 = s.key ++ z in
    let r5 = to_be_bytes w32 s.length ++ r6 in
    let r4 = to_be_bytes w32 s.offset ++ r5 in
    let r3 = to_be_bytes w32 s.generation ++ r4 in
    let r2 = to_be_bytes w16 s.extent ++ r3 in
    let all : drop 0 bytes ≡ 1 ∷ (length s.key ∷ r2) = e ∙ spelled_fields s in
    let used = skip_byte bytes 0 1 (length s.key ∷ r2) all in
    let key_len = skip_byte bytes 1 (length s.key) r2 used.1 in
    let key_len-is : key_length bytes ≡ length s.key = key_len.0 in
    let extent = skip bytes 2 4 (to_be_bytes w16 s.extent) r3 key_len.1 refl in
    let generation = skip bytes 4 8 (to_be_bytes w32 s.generation) r4 extent.1 refl in
    let offset = skip bytes 8 12 (to_be_bytes w32 s.offset) r5 generation.1 refl in
    let long = skip bytes 12 16 (to_be_bytes w32 s.length) r6 offset.1 refl in
    let key = skip bytes 16 (key_end bytes) s.key z long.1 (omega arith) in
    let padding = skip bytes (key_end bytes) 64 z [] (key.1 ∙ sym (append-nil z)) (omega (arith, length-zeros (48 - length s.key))) in
    let extent-is : from_be_bytes w16 (slice_range bytes 2 4) ≡ s.extent = ap (from_be_bytes w16) extent.0 ∙ from_be_bytes-to_be_bytes_2 s.extent fits.extent in
    let generation-is : from_be_bytes w32 (slice_range bytes 4 8) ≡ s.generation = ap (from_be_bytes w32) generation.0 ∙ from_be_bytes-to_be_bytes_4 s.generation fits.generation in
    let offset-is : from_be_bytes w32 (slice_range bytes 8 12) ≡ s.offset = ap (from_be_bytes w32) offset.0 ∙ from_be_bytes-to_be_bytes_4 s.offset fits.offset in
    let long-is : frame_length bytes ≡ s.length = ap (from_be_bytes w32) long.0 ∙ from_be_bytes-to_be_bytes_4 s.length (omega arith) in (
      record {
        used = used.0;
        some_key = omega arith;
        short_key = omega arith;
        padding = ap are_zeros padding.0 ∙ zeros_are_zeros (48 - length s.key);
        some_frame = omega arith;
        short_frame = omega arith;
      },
      same_fields (fields_of bytes) s key.0 extent-is generation-is offset-is long-is,
    )

first_of_zeros : (bytes : List ℕ) → bytes ≡ zeros 64 → get_or bytes 0 0 ≡ 0
unfolding zeros
first_of_zeros bytes e = ap (λ (t : List ℕ). get_or t 0 0) e ∙ get_or-replicate 64 0 0 0 (omega arith)

empty_again : (longest : ℕ) (bytes : List ℕ) → bytes ≡ zeros 64 → slot_at longest bytes ≡ Ok None
empty_again longest bytes e =
    let first : state bytes ≡ 0 = first_of_zeros bytes e in
    cond-true (eqb (state bytes) 0) (outcome (empty_tests bytes) None) (outcome (used_tests longest bytes) (Some (fields_of bytes))) (eq-eqb _ _ first)
    ∙ passes (not (are_zeros bytes)) NotZero [] None None (ap (λ (t : List ℕ). not (are_zeros t)) e ∙ ap not (zeros_are_zeros 64)) refl

pub slot_again : (longest : ℕ) (bytes : List ℕ) (s : Option SlotFields) → longest < 2 ^ 32 → Fits longest s → bytes ≡ spelling s → slot_at longest bytes ≡ Ok s
slot_again longest bytes None small fits e = empty_again longest bytes e
slot_again longest bytes (Some s) small fits e =
    let is = is_used longest bytes s small fits e in
    used_passes longest bytes is.0 ∙ ap (λ (x : SlotFields). Ok (Some x)) is.1

-- ---- at the call

pub is_found : (longest : ℕ) (bytes : List ℕ) (r : Result SlotState FrameFault) → IsBytes bytes → length bytes ≡ 64 → Gives fields r (slot_at longest bytes) → IfOk r (λ slot. Fits longest (fields slot) × (bytes ≡ spelling (fields slot)))
is_found longest bytes (Ok slot) fits long given = slot_takes longest bytes (fields slot) fits long given
is_found longest bytes (Err e) fits long given = tt

pub is_given : (longest : ℕ) (bytes : List ℕ) (r : Result SlotState FrameFault) → longest < 2 ^ 32 → Gives fields r (slot_at longest bytes) → (s : Option SlotFields) → Fits longest s → bytes ≡ spelling s → Gives fields r (Ok s)
is_given longest bytes r small given s fits e = subst (λ (read : Result (Option SlotFields) FrameFault). Gives fields r read) (slot_again longest bytes s small fits e) given
