-- Blocks that show a sound ledger are read, as a ledger that says the same.
use Rattle.std.specs.Result.{result_map_both}
use Rattle.std.proofs.Common.{◌≡◌, ℕ, ◌+◌, ◌*◌, ◌/◌, ◌%◌, ◌<◌, ◌⊎◌, ◌∙◌, inl, inr, Bool, true, false, not, List, length}
use Rattle.std.proofs.Common.{slice_range, Option, Some, None, Ok, refl, sym, ap, arith}
use Rattle.std.specs.Prelude.{◌==◌, nat_lt, slice_index, is_err}
use Rattle.std.specs.List.{list_any, flat_map, range_with_len}
use Rattle.std.specs.Str.{bytes_eq}
use Rattle.std.proofs.lemmas.Bool.{cases_Bool}
use Rattle.std.proofs.lemmas.Bool.Decides.{nat_tests}
use Rattle.std.proofs.lemmas.Slice.Eq.{bytes_eq-Decides}
use Rattle.patch_model.specs.Member.{In}
use Rattle.patch_frame.specs.declared.geometries.Geometry.{Geometry}
use Rattle.patch_frame.specs.Field.{are_zeros}
use Rattle.patch_frame.specs.Frame.{frame_at}
use Rattle.patch_frame.specs.Geometry.{first_block, pointer_block, pointer_start, block_count, slot_count}
use Rattle.patch_frame.specs.Geometry.{largest_pointer, extent_blocks, value_limit}
use Rattle.patch_frame.specs.Slot.{SlotFields}
use Rattle.patch_frame.specs.Pointer.{pointer_at, pointer_of}
use Rattle.patch_recovery.specs.Ledger.{Ledger, bytes_at, frame_named, entry_read, entry_of, map_of, SaysSame}
use Rattle.patch_recovery.specs.Reading.{Fault, block_on, record_at, read_as, ledger_in, has_key, used_tests}
use Rattle.patch_recovery.specs.Reading.{slot_tests, disk_tests, read_under, reading, map_read}
use Rattle.patch_recovery.specs.Right.{IsSound}
use Rattle.patch_recovery.specs.Wider.{Wider, Limits, limits_of}
use Rattle.patch_recovery.proofs.Widening.{bytes_same}
use Rattle.patch_recovery.proofs.Showing.{Shows}
use Rattle.patch_recovery.proofs.Opening.{outcome_from, from_range, none_from, flat_map-same, from_flat_map, names_from}
use Rattle.patch_recovery.proofs.Opening.{pointer_back, sound_alike}

-- blocks stand where they stood
record SameAddresses (g h : Geometry) : Type 0 where
  pub pointers : pointer_block h ≡ pointer_block g
  pub first : (e : ℕ) → first_block h e ≡ first_block g e

addresses : (g h : Geometry) → Limits g h → SameAddresses g h
addresses g h limits =
    let index = limits.index in
    let largest = limits.pointer in
    let long : extent_blocks h.format ≡ extent_blocks g.format = omega arith in
    record {
      pointers = ap (λ n. n + 1) index;
      first = λ e. let product : extent_blocks h.format * e ≡ extent_blocks g.format * e = ap (λ n. n * e) long in
          omega arith;
    }

filled : (o : Option SlotFields) → (o ≡ None) ⊎ ((f : SlotFields) × (o ≡ Some f))
filled None = inl refl
filled (Some f) = inr (f, refl)

-- what stands there says what is shown
pub agrees_shown : (g : Geometry) (d : List (List ℕ)) (l : Ledger) → Wider g l.geometry → Shows g d l → IsSound l
    → SaysSame (ledger_in l.geometry d) l
agrees_shown g d l wider shows sound =
    let limits = limits_of g l.geometry wider in
    let at = addresses g l.geometry limits in
    record {
      geometry = refl;
      pointer = λ e known.
          let extents = limits.extents in
          ap (λ b. pointer_of (slice_range (block_on d b) (pointer_start e) (pointer_start e + 8))) at.pointers
          ∙ pointer_back (largest_pointer g.format) (record_at g d e) (l.pointer e) (shows.points e (omega arith));
      slot = λ s. elim (cases_Bool (nat_lt s (slot_count l.geometry))) [
        | inl u ↦
            let less : s < slot_count l.geometry = grind (arith, nat_tests) in
            let count = limits.slots in
            rw u (ap read_as (shows.slots s (omega arith)))
        | inr u ↦ rw u (elim (filled (l.slot s)) [
          | inl none ↦ sym none
          | inr some ↦ let known = sound.known s some.0 some.1 in absurd (grind (arith, nat_tests))
        ])
      ];
      byte = λ e i known inside.
          let extents = limits.extents in
          let largest = limits.pointer in
          ap (λ n. slice_index (block_on d (n + i / 4096)) (i % 4096)) (at.first e)
          ∙ shows.bytes e i (omega arith) (omega arith);
    }

record_same : (g h : Geometry) (d : List (List ℕ)) (e : ℕ) → SameAddresses g h → record_at h d e ≡ record_at g d e
record_same g h d e at = ap (λ b. slice_range (block_on d b) (pointer_start e) (pointer_start e + 8)) at.pointers

key_other : (key : List ℕ) (o : Option SlotFields) → ((f : SlotFields) → o ≡ Some f → f.key ≡ key → ⊥)
    → has_key key o ≡ false
key_other key None f = refl
key_other key (Some s) f = elim (cases_Bool (bytes_eq s.key key)) [
  | inl u ↦ absurd (f s refl ((bytes_eq-Decides s.key key).0 u))
  | inr u ↦ u
]

module _ (g : Geometry) (d : List (List ℕ)) (l : Ledger) (wider : Wider g l.geometry) (shows : Shows g d l)
    (sound : IsSound (ledger_in l.geometry d)) where
  used_pass : (s : ℕ) → s < slot_count l.geometry → (o : Option SlotFields) → (ledger_in l.geometry d).slot s ≡ o
      → (t : Bool × Fault) → In (used_tests (ledger_in l.geometry d) s o) t → t.0 ≡ false
  used_pass s known None at t i = absurd i
  used_pass s known (Some f) at t (inl e) =
      let n = sound.named s f at in
      let less : nat_lt f.extent l.geometry.extents ≡ true = let k = n.extent in grind (arith, nat_tests) in
      ap (λ q. q.0) (sym e) ∙ ap not less
  used_pass s known (Some f) at t (inr (inl e)) =
      ap (λ q. q.0) (sym e) ∙ ap not (names_from (ledger_in l.geometry d) f (sound.named s f at))
  used_pass s known (Some f) at t (inr (inr (inl e))) =
      ap (λ q. q.0) (sym e) ∙ none_from (λ lower. has_key f.key ((ledger_in l.geometry d).slot lower))
      (range_with_len 0 s) (λ o i.
      let r = from_range 0 s o i in
      let less = r.1 in
      key_other f.key ((ledger_in l.geometry d).slot o) (λ h at_o same.
      let one = sound.single o s h f at_o at same in absurd (omega arith)))
  used_pass s known (Some f) at t (inr (inr (inr i))) = absurd i

  tests_pass : (t : Bool × Fault) → In (disk_tests (ledger_in l.geometry d) d) t → t.0 ≡ false
  tests_pass t (inl e) =
      let blocks = (limits_of g l.geometry wider).blocks in
      let count = shows.count in
      let size : (length d == block_count l.geometry) ≡ true = grind (arith, nat_tests) in
      ap (λ q. q.0) (sym e) ∙ ap not size
  tests_pass t (inr (inl e)) =
      let limits = limits_of g l.geometry wider in
      let at = addresses g l.geometry limits in
      let extents = limits.extents in
      let each : list_any (λ extent. is_err (pointer_at (largest_pointer l.geometry.format)
      (record_at l.geometry d extent))) (range_with_len 0 l.geometry.extents) ≡ false =
      none_from (λ extent. is_err (pointer_at (largest_pointer l.geometry.format) (record_at l.geometry d extent)))
      (range_with_len 0 l.geometry.extents) (λ x i.
      let r = from_range 0 l.geometry.extents x i in
      let less = r.1 in
      ap (λ n. is_err (pointer_at n (record_at l.geometry d x))) limits.pointer
      ∙ ap (λ b. is_err (pointer_at (largest_pointer g.format) b)) (record_same g l.geometry d x at)
      ∙ ap is_err (shows.points x (omega arith))) in
      let zeros : are_zeros (slice_range (block_on d (pointer_block l.geometry))
      (pointer_start l.geometry.extents) 4096) ≡ true =
      ap (λ b. are_zeros (slice_range (block_on d b) (pointer_start l.geometry.extents) 4096)) at.pointers
      ∙ ap (λ n. are_zeros (slice_range (block_on d (pointer_block g)) (pointer_start n) 4096)) extents
      ∙ shows.padding in
      ap (λ q. q.0) (sym e) ∙ rw (each, zeros) refl
  tests_pass t (inr (inr i)) =
      let r = from_flat_map (slot_tests (ledger_in l.geometry d) d) (range_with_len 0 (slot_count l.geometry)) t i in
      let in_range = from_range 0 (slot_count l.geometry) r.0 r.1 in
      let known : r.0 < slot_count l.geometry = let k = in_range.1 in omega arith in
      let count = (limits_of g l.geometry wider).slots in
      elim (r.2) [
        | inl e ↦ ap (λ q. q.0) (sym e) ∙ ap is_err (shows.slots r.0 (omega arith))
        | inr j ↦ used_pass r.0 known ((ledger_in l.geometry d).slot r.0) refl t j
      ]

  reads_shown : reading d ≡ Ok (ledger_in l.geometry d)
  reads_shown = ap (read_under d) shows.super ∙ outcome_from (disk_tests (ledger_in l.geometry d) d)
      (ledger_in l.geometry d) tests_pass

-- what is read names the same frames
entry_alike : (k l : Ledger) → SaysSame k l → IsSound l → (s : ℕ) (o : Option SlotFields) → l.slot s ≡ o
    → entry_of k o ≡ entry_of l o
entry_alike k l a sound s None at = refl
entry_alike k l a sound s (Some f) at =
    let n = sound.named s f at in
    let low = sound.pointers f.extent n.extent in
    let before = n.before_pointer in
    let same : frame_named k f ≡ frame_named l f = ap (λ h. frame_at (value_limit h.format)
    (bytes_at k f.extent f.offset f.length)) a.geometry
    ∙ ap (frame_at (value_limit l.geometry.format)) (bytes_same k l f.extent f.offset f.length
    (λ i from to. a.byte f.extent i n.extent (omega arith))) in
    ap entry_read same

-- ledgers that say the same have one map
pub map_alike : (k l : Ledger) → SaysSame k l → IsSound l → map_of k ≡ map_of l
map_alike k l a sound =
    ap (λ h. flat_map (λ s. entry_of k (k.slot s)) (range_with_len 0 (slot_count h))) a.geometry
    ∙ flat_map-same (λ s. entry_of k (k.slot s)) (λ s. entry_of l (l.slot s)) (range_with_len 0 (slot_count l.geometry))
    (λ s i. ap (entry_of k) (a.slot s) ∙ entry_alike k l a sound s (l.slot s) refl)

-- blocks that show a sound ledger are read, and have its map
pub record Reopened (d : List (List ℕ)) (l : Ledger) : Type 0 where
  pub is : Ledger
  pub read : reading d ≡ Ok is
  pub agrees : SaysSame is l
  pub map : map_read d ≡ Ok (map_of l)

-- so the blocks are read
pub reopened : (g : Geometry) (d : List (List ℕ)) (l : Ledger) → Wider g l.geometry → Shows g d l → IsSound l
    → Reopened d l
reopened g d l wider shows sound =
    let agrees = agrees_shown g d l wider shows sound in
    let read = reads_shown g d l wider shows (sound_alike (ledger_in l.geometry d) l agrees sound) in
    record {
      is = ledger_in l.geometry d;
      read = read;
      agrees = agrees;
      map = ap (result_map_both map_of (λ fault. fault)) read
          ∙ ap (λ m. Ok m) (map_alike (ledger_in l.geometry d) l agrees sound);
    }
