-- A pointer record that is read is spelled so, and what is spelled so is read.
use Rattle.std.proofs.Common.{◌≡◌, ℕ, ◌^◌, ◌<◌, ltb, List, [], ◌++◌, length, slice_range, Result, Ok, Err, refl, sym, ap, subst, ◌∙◌, append-nil, arith}
use Rattle.std.specs.Prelude.{IfOk}
use Rattle.std.specs.Int.{w32, to_be_bytes, from_be_bytes}
use Rattle.std.proofs.lemmas.Bool.{ltb-false, le-ltb}
use Rattle.std.proofs.lemmas.Nat.{from_be_bytes-to_be_bytes_4}
use Rattle.patch_frame.specs.Passing.{read_is, passed}
use Rattle.patch_frame.specs.declared.faults.FrameFault.{FrameFault}
use Rattle.patch_frame.specs.declared.faults.FrameFault.TheVariants.{BadValue}
use Rattle.patch_frame.specs.declared.pointers.Pointer.{Pointer}
use Rattle.patch_frame.specs.Pointer.{Fits, spelling, pointer_of, pointer_at}
use Rattle.patch_frame.proofs.Parts.{passes, skip, IsBytes, IsBytes-range, number_back, number_below, field_then, nothing_left}

is_spelled : (bytes : List ℕ) → IsBytes bytes → length bytes ≡ 8 → bytes ≡ spelling (pointer_of bytes)
is_spelled bytes fits long =
    let p = pointer_of bytes in
    let second = field_then bytes 4 8 (to_be_bytes w32 p.offset) [] (omega arith) (number_back bytes 4 8 fits refl (omega arith)) (nothing_left bytes 8 long) in
    let first = field_then bytes 0 4 (to_be_bytes w32 p.generation) (to_be_bytes w32 p.offset ++ []) (omega arith) (number_back bytes 0 4 fits refl (omega arith)) second in
    first

pub pointer_takes : (largest : ℕ) (bytes : List ℕ) (p : Pointer) → IsBytes bytes → length bytes ≡ 8 → pointer_at largest bytes ≡ Ok p → Fits largest p × (bytes ≡ spelling p)
pointer_takes largest bytes p fits long h =
    let t = passed (ltb largest (pointer_of bytes).offset) BadValue [] (pointer_of bytes) p h in
    let here : Fits largest (pointer_of bytes) × (bytes ≡ spelling (pointer_of bytes)) =
    (record { generation = number_below (slice_range bytes 0 4) (IsBytes-range bytes 0 4 fits); offset = ltb-false _ _ t.0 }, is_spelled bytes fits long) in
    subst (λ (x : Pointer). Fits largest x × (bytes ≡ spelling x)) (read_is (pointer_of bytes) p t.1) here

pub is_found : (largest : ℕ) (bytes : List ℕ) (r : Result Pointer FrameFault) → IsBytes bytes → length bytes ≡ 8 → r ≡ pointer_at largest bytes → IfOk r (λ p. Fits largest p × (bytes ≡ spelling p))
is_found largest bytes (Ok p) fits long given = pointer_takes largest bytes p fits long (sym given)
is_found largest bytes (Err e) fits long given = tt

pub pointer_again : (largest : ℕ) (p : Pointer) → largest < 2 ^ 32 → Fits largest p → pointer_at largest (spelling p) ≡ Ok p
pointer_again largest p small fits =
    let bytes = spelling p in
    let offset-fits = fits.offset in
    let generation = skip bytes 0 4 (to_be_bytes w32 p.generation) (to_be_bytes w32 p.offset) refl refl in
    let offset = skip bytes 4 8 (to_be_bytes w32 p.offset) [] (generation.1 ∙ sym (append-nil (to_be_bytes w32 p.offset))) refl in
    let generation-is : (pointer_of bytes).generation ≡ p.generation = ap (from_be_bytes w32) generation.0 ∙ from_be_bytes-to_be_bytes_4 p.generation fits.generation in
    let offset-is : (pointer_of bytes).offset ≡ p.offset = ap (from_be_bytes w32) offset.0 ∙ from_be_bytes-to_be_bytes_4 p.offset (omega arith) in
    let same : pointer_of bytes ≡ p = ap (λ (t : ℕ). record { generation = t; offset = (pointer_of bytes).offset }) generation-is ∙ ap (λ (t : ℕ). record { generation = p.generation; offset = t }) offset-is in
    passes (ltb largest (pointer_of bytes).offset) BadValue [] (pointer_of bytes) (pointer_of bytes) (le-ltb _ _ (omega arith)) refl ∙ ap (λ (x : Pointer). Ok x) same
