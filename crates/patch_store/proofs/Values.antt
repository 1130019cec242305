-- The value of a frame that is read, among its bytes.
use Rattle.std.proofs.Common.{◌≡◌, ℕ, zero, suc, ◌+◌, ◌-◌, ◌<◌, ◌≤◌, ◌∙◌, false, List, [], ◌∷◌, length, map, take, drop, get_or, slice_range, Result, Ok, Err, Bool, refl, sym, ap, arith}
use Rattle.std.specs.Prelude.{nat_lt}
use Rattle.std.specs.List.{range_with_len}
use Rattle.std.proofs.lemmas.Bool.Decides.{nat_tests}
use Rattle.std.proofs.lemmas.List.{length-drop, length-take-le}
use Rattle.std.proofs.lemmas.List.FromFn.{take-map-range_with_len}
use Rattle.patch_frame.specs.Frame.{Content, content_of, frame_tests, key_length, value_length, key_end, value_end, frame_at, length_of}
use Rattle.patch_frame.specs.declared.faults.FrameFault.TheVariants.{Short}
use Rattle.patch_frame.specs.Passing.{passed, read_is}
use Rattle.patch_recovery.specs.Ledger.{Ledger, bytes_at, SaysSame}
use Rattle.patch_recovery.specs.Reading.{reading, read_under, disk_tests, ledger_in, block_on}
use Rattle.patch_frame.specs.declared.faults.FrameFault.{FrameFault}
use Rattle.patch_frame.specs.declared.geometries.Geometry.{Geometry}
use Rattle.patch_frame.specs.Field.{outcome}
use Rattle.patch_frame.specs.Geometry.{largest_pointer}
use Rattle.patch_frame.specs.Superblock.{superblock_at}

drop_range : {X : Type 0} (f : ℕ → X) (o n a : ℕ) → drop a (map f (range_with_len o n)) ≡ map f (range_with_len (o + a) (n - a))
drop_range f o n zero = let s : o + 0 ≡ o = omega arith in let t : n - 0 ≡ n = omega arith in rw (s, t) refl
drop_range f o zero (suc a) = let t : 0 - suc a ≡ 0 = omega arith in rw t refl
drop_range f o (suc n) (suc a) =
    let s : o + 1 + a ≡ o + suc a = omega arith in
    let t : n - a ≡ suc n - suc a = omega arith in
    drop_range f (o + 1) n a ∙ ap (λ x. map f (range_with_len x (n - a))) s ∙ ap (λ x. map f (range_with_len (o + suc a) x)) t

-- some of the bytes of a place are those of a place within it
pub bytes_within : (l : Ledger) (e o n a b : ℕ) → a ≤ b → b ≤ n → slice_range (bytes_at l e o n) a b ≡ bytes_at l e (o + a) (b - a)
bytes_within l e o n a b low high =
    ap (take (b - a)) (drop_range (λ place. l.byte e place) o n a)
    ∙ take-map-range_with_len (λ place. l.byte e place) (o + a) (n - a) (b - a) (omega (arith, low, high))

pub length_range : (xs : List ℕ) (a b : ℕ) → a ≤ b → b ≤ length xs → length (slice_range xs a b) ≡ b - a
length_range xs a b low high = let d = length-drop a xs in length-take-le (b - a) (drop a xs) (omega (arith, d, low, high))

-- what is read is what the tests are about
outcome_is : {X E : Type 0} (tests : List (Bool × E)) (x y : X) → outcome tests x ≡ Ok y → y ≡ x
outcome_is [] x y is = sym (read_is x y is)
outcome_is (test ∷ tests) x y is = outcome_is tests x y (passed test.0 test.1 tests x y is).1

-- and each test was passed
outcome_passed : {X E : Type 0} (tests : List (Bool × E)) (x y : X) (d : Bool × E) → outcome tests x ≡ Ok y → (i : ℕ) → i < length tests → (get_or tests i d).0 ≡ false
outcome_passed [] x y d is i less = absurd (omega (arith, less))
outcome_passed (test ∷ tests) x y d is zero less = (passed test.0 test.1 tests x y is).0
outcome_passed (test ∷ tests) x y d is (suc i) less = outcome_passed tests x y d (passed test.0 test.1 tests x y is).1 i (omega (arith, less))

-- A frame that is read stands whole, and its value stands behind its key
pub record StandsWhole (bytes : List ℕ) (c : Content) : Type 0 where
  pub long : length_of c ≤ length bytes
  pub value : c.value ≡ slice_range bytes (12 + length c.key) (12 + length c.key + length c.value)

pub frame_stands : (limit : ℕ) (bytes : List ℕ) (c : Content) → frame_at limit bytes ≡ Ok c → StandsWhole bytes c
frame_stands limit bytes c is =
    let less : 5 < 7 = omega arith in
    let no : nat_lt (length bytes) (value_end bytes + 4) ≡ false = outcome_passed (frame_tests limit bytes) (content_of bytes) c (false, Short) is 5 less in
    let whole : value_end bytes + 4 ≤ length bytes = grind (arith, nat_tests, no) in
    let e : content_of bytes ≡ c = sym (outcome_is (frame_tests limit bytes) (content_of bytes) c is) in
    let key : length c.key ≡ key_length bytes = ap (λ (d : Content). length d.key) (sym e) ∙ length_range bytes 12 (key_end bytes) (omega arith) (omega (arith, whole)) ∙ (let z : 12 + key_length bytes - 12 ≡ key_length bytes = omega arith in z) in
    let value : length c.value ≡ value_length bytes = ap (λ (d : Content). length d.value) (sym e) ∙ length_range bytes (key_end bytes) (value_end bytes) (omega arith) (omega (arith, whole)) ∙ (let z : key_end bytes + value_length bytes - key_end bytes ≡ value_length bytes = omega arith in z) in
    record {
      long = omega (arith, whole, key, value);
      value = ap (λ (d : Content). d.value) (sym e) ∙ (let s : key_end bytes ≡ 12 + length c.key = omega (arith, key) in let t : value_end bytes ≡ 12 + length c.key + length c.value = omega (arith, key, value) in
          ap (λ x. slice_range bytes x (value_end bytes)) s ∙ ap (λ x. slice_range bytes (12 + length c.key) x) t);
    }

-- of a frame among the bytes of an extent
pub value_stands : (limit : ℕ) (l : Ledger) (e o n : ℕ) (c : Content) → frame_at limit (bytes_at l e o n) ≡ Ok c → length_of c ≡ n
    → c.value ≡ bytes_at l e (o + (12 + length c.key)) (n - 16 - length c.key)
value_stands limit l e o n c is long =
    let stands = frame_stands limit (bytes_at l e o n) c is in
    let count : 12 + length c.key + length c.value - (12 + length c.key) ≡ n - 16 - length c.key = omega (arith, long) in
    stands.value
    ∙ bytes_within l e o n (12 + length c.key) (12 + length c.key + length c.value) (omega arith) (omega (arith, long))
    ∙ ap (bytes_at l e (o + (12 + length c.key))) count

under : (blocks : List (List ℕ)) (super : Result Geometry FrameFault) (l : Ledger) → read_under blocks super ≡ Ok l → l ≡ ledger_in l.geometry blocks
under blocks (Ok g) l is = let e = outcome_is (disk_tests (ledger_in g blocks) blocks) (ledger_in g blocks) l is in e ∙ ap (λ (k : Ledger). ledger_in k.geometry blocks) (sym e)
under blocks (Err fault) l is = absurd cc

-- what is read is what stands there
pub read_stands : (blocks : List (List ℕ)) (l : Ledger) → reading blocks ≡ Ok l → l ≡ ledger_in l.geometry blocks
read_stands blocks l is = under blocks (superblock_at (block_on blocks 0)) l is

-- two ledgers that say the same have the same bytes
pub bytes_alike : (k l : Ledger) → SaysSame k l → (e o n : ℕ) → e < l.geometry.extents → o + n ≤ largest_pointer l.geometry.format
    → bytes_at k e o n ≡ bytes_at l e o n
bytes_alike k l same e o zero known within = refl
bytes_alike k l same e o (suc n) known within =
    let here = same.byte e o known (omega (arith, within)) in
    ap (λ b. b ∷ bytes_at k e (o + 1) n) here ∙ ap (λ bs. l.byte e o ∷ bs) (bytes_alike k l same e (o + 1) n known (omega (arith, within)))
