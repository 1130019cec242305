-- What is read is spelled so, and what is spelled so is read.
use Rattle.std.proofs.Common.{◌≡◌, ℕ, ◌+◌, ◌^◌, ◌<◌, ◌≤◌, false, not, ◌||◌, eqb, ltb, List, [], ◌∷◌, ◌++◌, length, drop, slice_range, Result, Ok, Err, refl, sym, ap, subst, ◌∙◌, append_assoc, append-nil, arith}
use Rattle.std.specs.Prelude.{codes, IfOk}
use Rattle.std.specs.Int.{w32, to_be_bytes, from_be_bytes}
use Rattle.std.specs.Str.{bytes_eq}
use Rattle.std.proofs.lemmas.Bool.{ltb-false, le-ltb, not-false, or_parts}
use Rattle.std.proofs.lemmas.Nat.{from_be_bytes-to_be_bytes_4}
use Rattle.std.proofs.lemmas.List.{length-append, drop_at}
use Rattle.patch_frame.specs.Passing.{read_is, passed}
use Rattle.patch_frame.specs.declared.faults.FrameFault.{FrameFault}
use Rattle.patch_frame.specs.declared.faults.FrameFault.TheVariants.{BadMagic, BadKey, BadValue, Short, NotZero}
use Rattle.patch_frame.specs.declared.framing.Frame.{Frame}
use Rattle.patch_frame.specs.Field.{zeros, are_zeros, Gives}
use Rattle.patch_frame.specs.Frame.{Content, content, Fits, spelling, length_of, key_length, value_length, key_end, value_end, content_of, frame_tests, frame_at}
use Rattle.patch_frame.proofs.Parts.{passes, same_bytes, bytes_same, IsBytes, length-zeros, zeros_are_zeros, are_zeros_is, length-range, number_back, field_then, skip, byte_then, skip_byte, positive, not_zero}

regroup : (a b c d e f g rest : List ℕ) → a ++ b ++ c ++ d ++ e ++ f ++ g ++ rest ≡ a ++ (b ++ (c ++ (d ++ (e ++ (f ++ (g ++ rest))))))
regroup a b c d e f g rest = simp append_assoc

-- the spelling with what follows it, field by field
pub spelled_fields : (c : Content) (rest : List ℕ) → spelling c ++ rest ≡ codes "FCH1" ++ (length c.key ∷ (zeros 3 ++ (to_be_bytes w32 (length c.value) ++ (c.key ++ (c.value ++ (codes "1HCF" ++ rest))))))
spelled_fields c rest = regroup (codes "FCH1") (length c.key ∷ []) (zeros 3) (to_be_bytes w32 (length c.value)) c.key c.value (codes "1HCF") rest

length_parts : (b d e f : List ℕ) → length (b ++ (d ++ (e ++ f))) ≡ length b + (length d + (length e + length f))
length_parts b d e f = simp length-append

pub length-spelling : (c : Content) → length (spelling c) ≡ length_of c
length-spelling c =
    let apart = ap length (sym (append-nil (spelling c)) ∙ spelled_fields c []) in
    let counted = length_parts (zeros 3) (to_be_bytes w32 (length c.value)) c.key (c.value ++ codes "1HCF") in
    let ended = length-append c.value (codes "1HCF") in
    let padded = length-zeros 3 in
    omega arith

same_content : (a b : Content) → a.key ≡ b.key → a.value ≡ b.value → a ≡ b
same_content a b k v = ap (λ (t : List ℕ). record { key = t; value = a.value }) k ∙ ap (λ (t : List ℕ). record { key = b.key; value = t }) v

-- what each test says
pub record IsFrame (limit : ℕ) (bytes : List ℕ) : Type 0 where
  pub head : 12 ≤ length bytes
  pub begin : slice_range bytes 0 4 ≡ codes "FCH1"
  pub some_key : 0 < key_length bytes
  pub short_key : key_length bytes ≤ 32
  pub padding : slice_range bytes 5 8 ≡ zeros 3
  pub short_value : value_length bytes ≤ limit
  pub whole : value_end bytes + 4 ≤ length bytes
  pub finish : slice_range bytes (value_end bytes) (value_end bytes + 4) ≡ codes "1HCF"

tests_pass : (limit : ℕ) (bytes : List ℕ) (c : Content) → frame_at limit bytes ≡ Ok c → IsFrame limit bytes × (content_of bytes ≡ c)
tests_pass limit bytes c h =
    let fields = content_of bytes in
    let t0 = passed (ltb (length bytes) 12) Short (drop 1 (frame_tests limit bytes)) fields c h in
    let t1 = passed (not (bytes_eq (slice_range bytes 0 4) (codes "FCH1"))) BadMagic (drop 2 (frame_tests limit bytes)) fields c t0.1 in
    let t2 = passed (eqb (key_length bytes) 0 || ltb 32 (key_length bytes)) BadKey (drop 3 (frame_tests limit bytes)) fields c t1.1 in
    let t3 = passed (not (are_zeros (slice_range bytes 5 8))) NotZero (drop 4 (frame_tests limit bytes)) fields c t2.1 in
    let t4 = passed (ltb limit (value_length bytes)) BadValue (drop 5 (frame_tests limit bytes)) fields c t3.1 in
    let t5 = passed (ltb (length bytes) (value_end bytes + 4)) Short (drop 6 (frame_tests limit bytes)) fields c t4.1 in
    let t6 = passed (not (bytes_eq (slice_range bytes (value_end bytes) (value_end bytes + 4)) (codes "1HCF"))) BadMagic [] fields c t5.1 in
    let head : 12 ≤ length bytes = ltb-false _ _ t0.0 in
    let key = or_parts (eqb (key_length bytes) 0) (ltb 32 (key_length bytes)) t2.0 in
    let zs = are_zeros_is (slice_range bytes 5 8) (not-false _ t3.0) in
    let zl : length (slice_range bytes 5 8) ≡ 3 = length-range bytes 5 8 (omega arith) (omega arith) in (
      record {
        head = head;
        begin = same_bytes _ _ (not-false _ t1.0);
        some_key = positive (key_length bytes) key.0;
        short_key = ltb-false _ _ key.1;
        padding = zs ∙ ap zeros zl;
        short_value = ltb-false _ _ t4.0;
        whole = ltb-false _ _ t5.0;
        finish = same_bytes _ _ (not-false _ t6.0);
      },
      read_is fields c t6.1,
    )

-- the fields that stand there are those of the spelling
is_spelled : (limit : ℕ) (bytes : List ℕ) → IsBytes bytes → IsFrame limit bytes → Fits limit (content_of bytes) × (bytes ≡ spelling (content_of bytes) ++ drop (value_end bytes + 4) bytes)
is_spelled limit bytes fits is =
    let c = content_of bytes in
    let whole = is.whole in
    let head = is.head in
    let key : length c.key ≡ key_length bytes = length-range bytes 12 (key_end bytes) (omega arith) (omega arith) ∙ omega arith in
    let value : length c.value ≡ value_length bytes = length-range bytes (key_end bytes) (value_end bytes) (omega arith) (omega arith) ∙ omega arith in
    let number : slice_range bytes 8 12 ≡ to_be_bytes w32 (length c.value) = number_back bytes 8 12 fits refl (omega arith) ∙ ap (to_be_bytes w32) (sym value) in
    -- what stands behind each field
    let rest = drop (value_end bytes + 4) bytes in
    let r6 = codes "1HCF" ++ rest in
    let r5 = c.value ++ r6 in
    let r4 = c.key ++ r5 in
    let r3 = to_be_bytes w32 (length c.value) ++ r4 in
    let r2 = zeros 3 ++ r3 in
    let r1 = length c.key ∷ r2 in
    let at_end = field_then bytes (value_end bytes) (value_end bytes + 4) (codes "1HCF") rest (omega arith) is.finish refl in
    let at_value = field_then bytes (key_end bytes) (value_end bytes) c.value r6 (omega arith) refl at_end in
    let at_key = field_then bytes 12 (key_end bytes) c.key r5 (omega arith) refl at_value in
    let at_number = field_then bytes 8 12 (to_be_bytes w32 (length c.value)) r4 (omega arith) number at_key in
    let at_padding = field_then bytes 5 8 (zeros 3) r3 (omega arith) is.padding at_number in
    let at_length : drop 4 bytes ≡ r1 = byte_then bytes 4 r2 (omega arith) at_padding ∙ ap (λ (n : ℕ). n ∷ r2) (sym key) in
    let at_begin = field_then bytes 0 4 (codes "FCH1") r1 (omega arith) is.begin at_length in
    (record { some_key = omega (arith, is.some_key); short_key = omega (arith, is.short_key); short_value = omega (arith, is.short_value) }, at_begin ∙ sym (spelled_fields c rest))

frame_passes : (limit : ℕ) (bytes : List ℕ) → IsFrame limit bytes → frame_at limit bytes ≡ Ok (content_of bytes)
frame_passes limit bytes is =
    let fields = content_of bytes in
    let some_key = is.some_key in
    let b1 : not (bytes_eq (slice_range bytes 0 4) (codes "FCH1")) ≡ false = ap not (bytes_same _ _ is.begin) in
    let b2 : (eqb (key_length bytes) 0 || ltb 32 (key_length bytes)) ≡ false = rw (not_zero (key_length bytes) some_key, le-ltb 32 (key_length bytes) is.short_key) refl in
    let b3 : not (are_zeros (slice_range bytes 5 8)) ≡ false = ap (λ (t : List ℕ). not (are_zeros t)) is.padding ∙ ap not (zeros_are_zeros 3) in
    let b6 : not (bytes_eq (slice_range bytes (value_end bytes) (value_end bytes + 4)) (codes "1HCF")) ≡ false = ap not (bytes_same _ _ is.finish) in
    passes (ltb (length bytes) 12) Short (drop 1 (frame_tests limit bytes)) fields fields (le-ltb _ _ is.head)
    (passes (not (bytes_eq (slice_range bytes 0 4) (codes "FCH1"))) BadMagic (drop 2 (frame_tests limit bytes)) fields fields b1
    (passes (eqb (key_length bytes) 0 || ltb 32 (key_length bytes)) BadKey (drop 3 (frame_tests limit bytes)) fields fields b2
    (passes (not (are_zeros (slice_range bytes 5 8))) NotZero (drop 4 (frame_tests limit bytes)) fields fields b3
    (passes (ltb limit (value_length bytes)) BadValue (drop 5 (frame_tests limit bytes)) fields fields (le-ltb _ _ is.short_value)
    (passes (ltb (length bytes) (value_end bytes + 4)) Short (drop 6 (frame_tests limit bytes)) fields fields (le-ltb _ _ is.whole)
    (passes (not (bytes_eq (slice_range bytes (value_end bytes) (value_end bytes + 4)) (codes "1HCF"))) BadMagic [] fields fields b6 refl))))))

-- what is spelled stands there
is_framed : (limit : ℕ) (bytes : List ℕ) (c : Content) (rest : List ℕ) → limit < 2 ^ 32 → Fits limit c → bytes ≡ spelling c ++ rest → IsFrame limit bytes × (content_of bytes ≡ c)
is_framed limit bytes c rest small fits e =
    let some_key = fits.some_key in
    let short_key = fits.short_key in
    let short_value = fits.short_value in
    let r6 = codes "1HCF" ++ rest in
    let r5 = c.value ++ r6 in
    let r4 = c.key ++ r5 in
    let r3 = to_be_bytes w32 (length c.value) ++ r4 in
    let r2 = zeros 3 ++ r3 in
    let r1 = length c.key ∷ r2 in
    let all : drop 0 bytes ≡ codes "FCH1" ++ r1 = e ∙ spelled_fields c rest in
    let begin = skip bytes 0 4 (codes "FCH1") r1 all refl in
    let key_len = skip_byte bytes 4 (length c.key) r2 begin.1 in
    let padding = skip bytes 5 8 (zeros 3) r3 key_len.1 (omega (arith, length-zeros 3)) in
    let number = skip bytes 8 12 (to_be_bytes w32 (length c.value)) r4 padding.1 refl in
    let value_len : value_length bytes ≡ length c.value = ap (from_be_bytes w32) number.0 ∙ from_be_bytes-to_be_bytes_4 (length c.value) (omega arith) in
    let key_len-is : key_length bytes ≡ length c.key = key_len.0 in
    let key = skip bytes 12 (key_end bytes) c.key r5 number.1 (omega arith) in
    let value = skip bytes (key_end bytes) (value_end bytes) c.value r6 key.1 (omega arith) in
    let finish = skip bytes (value_end bytes) (value_end bytes + 4) (codes "1HCF") rest value.1 refl in
    let long : length bytes ≡ length_of c + length rest = ap length e ∙ length-append (spelling c) rest ∙ ap (λ (n : ℕ). n + length rest) (length-spelling c) in (
      record {
        head = omega arith;
        begin = begin.0;
        some_key = omega arith;
        short_key = omega arith;
        padding = padding.0;
        short_value = omega arith;
        whole = omega arith;
        finish = finish.0;
      },
      same_content (content_of bytes) c key.0 value.0,
    )

pub frame_again : (limit : ℕ) (bytes : List ℕ) (c : Content) (rest : List ℕ) → limit < 2 ^ 32 → Fits limit c → bytes ≡ spelling c ++ rest → frame_at limit bytes ≡ Ok c
frame_again limit bytes c rest small fits e =
    let is = is_framed limit bytes c rest small fits e in
    frame_passes limit bytes is.0 ∙ ap (λ (x : Content). Ok x) is.1

pub frame_takes : (limit : ℕ) (bytes : List ℕ) (c : Content) → IsBytes bytes → frame_at limit bytes ≡ Ok c → Fits limit c × (bytes ≡ spelling c ++ drop (length_of c) bytes)
frame_takes limit bytes c fits h =
    let t = tests_pass limit bytes c h in
    let s = is_spelled limit bytes fits t.0 in
    let c' = content_of bytes in
    let behind : drop (length_of c') bytes ≡ drop (value_end bytes + 4) bytes = ap (drop (length_of c')) s.1 ∙ drop_at (spelling c') (drop (value_end bytes + 4) bytes) (length_of c') (length-spelling c') in
    subst (λ (x : Content). Fits limit x × (bytes ≡ spelling x ++ drop (length_of x) bytes)) t.1 (s.0, s.1 ∙ ap (λ (t : List ℕ). spelling c' ++ t) (sym behind))

-- ---- at the call

pub is_found : (limit : ℕ) (bytes : List ℕ) (r : Result Frame FrameFault) → IsBytes bytes → IfOk r (λ frame. frame.length ≡ length_of (content frame)) → Gives content r (frame_at limit bytes)
    → IfOk r (λ frame. Fits limit (content frame) × (frame.length ≡ length_of (content frame)) × (bytes ≡ spelling (content frame) ++ drop frame.length bytes))
is_found limit bytes (Ok frame) fits long given =
    let t = frame_takes limit bytes (content frame) fits given in
    (t.0, long, t.1 ∙ ap (λ (n : ℕ). spelling (content frame) ++ drop n bytes) (sym long))
is_found limit bytes (Err e) fits long given = tt

pub is_given : (limit : ℕ) (bytes : List ℕ) (r : Result Frame FrameFault) → limit < 2 ^ 32 → Gives content r (frame_at limit bytes)
    → (c : Content) (rest : List ℕ) → Fits limit c → bytes ≡ spelling c ++ rest → Gives content r (Ok c)
is_given limit bytes r small given c rest fits e = subst (λ (read : Result Content FrameFault). Gives content r read) (frame_again limit bytes c rest small fits e) given
