-- The blocks show what the ledger says, before and after a change.
use Rattle.std.proofs.Common.{◌≡◌, ◌≢◌, ℕ, ◌+◌, ◌-◌, ◌*◌, ◌/◌, ◌%◌, ◌<◌, ◌≤◌, ◌^◌, ◌⊎◌, ◌∙◌, inl, inr, true, cond, List}
use Rattle.std.proofs.Common.{length, get_or, slice_range, Option, Ok, sym, ap, arith}
use Rattle.std.specs.Prelude.{◌==◌, ◌&&◌, nat_le, nat_lt, slice_index}
use Rattle.std.proofs.lemmas.Bool.{cases_Bool, cases_eq, cases_lt, and_parts, and_from, both_ways}
use Rattle.std.proofs.lemmas.Bool.Decides.{nat_tests}
use Rattle.std.proofs.Math.Nat.{div-add-mod}
use Rattle.patch_model.specs.Patch.{Patch}
use Rattle.patch_model.specs.Pile.{end, lay}
use Rattle.patch_frame.specs.declared.geometries.Format.{Format}
use Rattle.patch_frame.specs.declared.geometries.Format.TheVariants.{One, Two}
use Rattle.patch_frame.specs.declared.geometries.Geometry.{Geometry}
use Rattle.patch_frame.specs.declared.pointers.Pointer.{Pointer}
use Rattle.patch_frame.specs.Field.{are_zeros}
use Rattle.patch_frame.specs.Geometry.{IsFormat, first_block, pointer_block, pointer_start, block_count, slot_block}
use Rattle.patch_frame.specs.Geometry.{slot_start, slot_count, extent_blocks, largest_pointer, longest_frame}
use Rattle.patch_frame.specs.Superblock.{superblock_at}
use Rattle.patch_frame.specs.Slot.{SlotFields, slot_at}
use Rattle.patch_frame.specs.Slot as slots
use Rattle.patch_frame.specs.Pointer.{pointer_at}
use Rattle.patch_frame.specs.Pointer as pointers
use Rattle.patch_recovery.specs.Change.{Data, Point}
use Rattle.patch_recovery.specs.Ledger.{Ledger, after}
use Rattle.patch_recovery.specs.Reading.{block_on, record_at, slot_bytes}
use Rattle.patch_model.specs.Laying.{length-lay, lay-inside}
use Rattle.patch_recovery.proofs.Blocks.{laid, laid_here, laid_elsewhere, length-laid, range_before}
use Rattle.patch_recovery.proofs.Blocks.{range_behind, range_of, byte_off, slot_low, slot_inside, slots_apart}
use Rattle.patch_recovery.proofs.Blocks.{extent_high, extent_within, same_place}

-- what the formats' readers and spellings say of one another
pub record Formats : Type 0 where
  pub slot_read : (longest : ℕ) (s : Option SlotFields) → longest < 2 ^ 32 → slots.Fits longest s
      → slot_at longest (slots.spelling s) ≡ Ok s
  pub slot_long : (longest : ℕ) (s : Option SlotFields) → slots.Fits longest s → length (slots.spelling s) ≡ 64
  pub pointer_read : (largest : ℕ) (p : Pointer) → largest < 2 ^ 32 → pointers.Fits largest p
      → pointer_at largest (pointers.spelling p) ≡ Ok p

-- the blocks, divided as g says, show the ledger
pub record Shows (g : Geometry) (d : List (List ℕ)) (l : Ledger) : Type 0 where
  pub long : (b : ℕ) → b < length d → length (block_on d b) ≡ 4096
  pub count : length d ≡ block_count g
  pub super : superblock_at (block_on d 0) ≡ Ok l.geometry
  pub points : (e : ℕ) → e < g.extents → pointer_at (largest_pointer g.format) (record_at g d e) ≡ Ok (l.pointer e)
  pub padding : are_zeros (slice_range (block_on d (pointer_block g)) (pointer_start g.extents) 4096) ≡ true
  pub slots : (s : ℕ) → s < slot_count g → slot_at (longest_frame l.geometry.format) (slot_bytes d s) ≡ Ok (l.slot s)
  pub bytes : (e i : ℕ) → e < g.extents → i < largest_pointer g.format
      → slice_index (block_on d (first_block g e + i / 4096)) (i % 4096) ≡ l.byte e i

-- the blocks stay as long as they are
pub long_laid : (d : List (List ℕ)) (p : Patch) → ((b : ℕ) → b < length d → length (block_on d b) ≡ 4096)
    → p.block < length d → end p ≤ 4096
    → (b : ℕ) → b < length (laid d p) → length (block_on (laid d p) b) ≡ 4096
long_laid d p long there fits b inside =
    let known : b < length d = let e = length-laid d p in omega arith in
    let whole = long b known in
    elim (cases_eq b p.block) [
      | inl same ↦ ap length (laid_here d p b same there) ∙ length-lay (block_on d b) p (omega arith) ∙ whole
      | inr other ↦ ap length (laid_elsewhere d p b other) ∙ whole
    ]

some_blocks : (f : Format) → IsFormat f → 1 ≤ extent_blocks f
some_blocks One is = omega arith
some_blocks (Two x) is = let low = is.0 in omega arith

module _ (g : Geometry) (d : List (List ℕ)) (l : Ledger) (shows : Shows g d l) where
  -- bytes of an extent
  pub shows_data : (e offset : ℕ) (bytes : List ℕ) (p : Patch) → p.block ≡ first_block g e + offset / 4096
      → p.start ≡ offset % 4096 → p.bytes ≡ bytes
      → e < g.extents → 0 < length bytes → offset % 4096 + length bytes ≤ 4096
      → offset + length bytes ≤ largest_pointer g.format
      → Shows g (laid d p) (after l (Data e offset bytes))
  shows_data e offset bytes p block start is known some one_block inside =
      let low : offset < largest_pointer g.format = omega arith in
      let within : first_block g e + offset / 4096 < block_count g = extent_within g e offset known low in
      let high : pointer_block g < first_block g e + offset / 4096 = extent_high g e offset in
      let count = shows.count in
      let there : p.block < length d = omega arith in
      let long : length p.bytes ≡ length bytes = ap length is in
      let fits : end p ≤ 4096 = omega arith in
      let whole : length (block_on d p.block) ≡ 4096 = shows.long p.block there in
      let other : (b : ℕ) → b ≤ pointer_block g → block_on (laid d p) b ≡ block_on d b =
      λ b le. laid_elsewhere d p b (λ e. absurd (omega arith)) in
      record {
        long = long_laid d p shows.long there fits;
        count = length-laid d p ∙ shows.count;
        super = ap superblock_at (other 0 (omega arith)) ∙ shows.super;
        points = λ x in_range. ap (λ b. pointer_at (largest_pointer g.format)
            (slice_range b (pointer_start x) (pointer_start x + 8))) (other (pointer_block g) (omega arith))
            ∙ shows.points x in_range;
        padding = ap (λ b. are_zeros (slice_range b (pointer_start g.extents) 4096))
            (other (pointer_block g) (omega arith)) ∙ shows.padding;
        slots = λ s in_range. ap (λ b. slot_at (longest_frame l.geometry.format)
            (slice_range b (slot_start s) (slot_start s + 64)))
            (other (slot_block s) (let less = slot_low g s in_range in omega arith)) ∙ shows.slots s in_range;
        bytes = λ x i in_range in_extent.
            let at_o = div-add-mod offset 4096 in
            let at_i = div-add-mod i 4096 in
            let small_i : i % 4096 < 4096 = omega arith in
            elim (cases_Bool (x == e && nat_le offset i && nat_lt i (offset + length bytes))) [
              | inl u ↦
                  let parts = and_parts (x == e && nat_le offset i) (nat_lt i (offset + length bytes)) u in
                  let front = and_parts (x == e) (nat_le offset i) parts.0 in
                  let same : x ≡ e = grind (arith, nat_tests, front.0) in
                  let from : offset ≤ i = grind (arith, nat_tests, front.1) in
                  let to : i < offset + length bytes = grind (arith, nat_tests, parts.1) in
                  let block_same : i / 4096 ≡ offset / 4096 = omega arith in
                  let first : first_block g x ≡ first_block g e = ap (first_block g) same in
                  let here : first_block g x + i / 4096 ≡ p.block = omega arith in
                  let whole_i : length (block_on d (first_block g x + i / 4096)) ≡ 4096 =
                  shows.long (first_block g x + i / 4096) (omega arith) in
                  rw u (ap (λ b. slice_index b (i % 4096)) (laid_here d p (first_block g x + i / 4096) here there)
                  ∙ lay-inside (block_on d (first_block g x + i / 4096)) p (i % 4096) 0 (omega arith) (omega arith)
                  (omega arith)
                  ∙ ap (λ bs. get_or bs (i % 4096 - p.start) 0) is
                  ∙ ap (λ k. get_or bytes k 0) (let at : i % 4096 - p.start ≡ i - offset = omega arith in at))
              | inr u ↦ rw u (elim (cases_eq (first_block g x + i / 4096) p.block) [
                | inl here ↦
                    let both = same_place g x e i offset in_extent low (here ∙ block) in
                    let block_same = both.1 in
                    let whole_i : length (block_on d (first_block g x + i / 4096)) ≡ 4096 =
                    shows.long (first_block g x + i / 4096) (omega arith) in
                    let off : (i % 4096 < p.start) ⊎ (end p ≤ i % 4096) = elim (cases_lt i offset) [
                      | inl less ↦ inl (omega arith)
                      | inr from ↦ elim (cases_lt i (offset + length bytes)) [
                        | inl to ↦
                            let a : (x == e) ≡ true = let one = both.0 in grind (arith, nat_tests) in
                            let b : nat_le offset i ≡ true = grind (arith, nat_tests) in
                            let c : nat_lt i (offset + length bytes) ≡ true = grind (arith, nat_tests) in
                            absurd (both_ways _ u (and_from _ _ (and_from _ _ a b) c))
                        | inr past ↦ inr (omega arith)
                      ]
                    ] in
                    ap (λ b. slice_index b (i % 4096)) (laid_here d p (first_block g x + i / 4096) here there)
                    ∙ byte_off (block_on d (first_block g x + i / 4096)) p (i % 4096) 0 (omega arith) off
                    ∙ shows.bytes x i in_range in_extent
                | inr away ↦ ap (λ b. slice_index b (i % 4096)) (laid_elsewhere d p (first_block g x + i / 4096) away)
                    ∙ shows.bytes x i in_range in_extent
              ])
            ];
      }

  -- a pointer record
  pub shows_point : Formats → (e generation offset : ℕ) (p : Patch) → p.block ≡ pointer_block g
      → p.start ≡ pointer_start e → p.bytes ≡ pointers.spelling (record { generation = generation; offset = offset })
      → e < g.extents → IsFormat g.format → g.extents ≤ 254 → largest_pointer g.format < 2 ^ 32
      → pointers.Fits (largest_pointer g.format) (record { generation = generation; offset = offset })
      → Shows g (laid d p) (after l (Point e generation offset))
  shows_point formats e generation offset p block start is known format few small fit =
      let extents : pointer_block g < block_count g = let product : extent_blocks g.format * g.extents
      ≡ extent_blocks g.format * (1 + (g.extents - 1)) = ap (λ n. extent_blocks g.format * n) (omega arith) in
      let some : 1 ≤ extent_blocks g.format = some_blocks g.format format in omega arith in
      let count = shows.count in
      let there : p.block < length d = omega arith in
      let long : length p.bytes ≡ 8 = ap length is in
      let fits : end p ≤ 4096 = omega arith in
      let whole : length (block_on d (pointer_block g)) ≡ 4096 = shows.long (pointer_block g) (omega arith) in
      let other : (b : ℕ) → b ≢ pointer_block g → block_on (laid d p) b ≡ block_on d b =
      λ b ne. laid_elsewhere d p b (λ e. ne (e ∙ block)) in
      let here : block_on (laid d p) (pointer_block g) ≡ lay (block_on d (pointer_block g)) p =
      laid_here d p (pointer_block g) (sym block) there in
      record {
        long = long_laid d p shows.long there fits;
        count = length-laid d p ∙ shows.count;
        super = ap superblock_at (other 0 (λ e. absurd (omega arith))) ∙ shows.super;
        points = λ x in_range. elim (cases_Bool (x == e)) [
          | inl u ↦ let same : x ≡ e = grind (arith, nat_tests) in
              rw u (ap (λ b. pointer_at (largest_pointer g.format)
              (slice_range b (pointer_start x) (pointer_start x + 8))) here
              ∙ ap (pointer_at (largest_pointer g.format))
              (range_of (block_on d (pointer_block g)) p (pointer_start x) (pointer_start x + 8) (omega arith)
              (omega arith) (omega arith) ∙ is)
              ∙ formats.pointer_read (largest_pointer g.format)
              (record { generation = generation; offset = offset }) small fit)
          | inr u ↦ let apart : x ≢ e = λ same. absurd (grind (arith, nat_tests)) in
              rw u (ap (λ b. pointer_at (largest_pointer g.format)
              (slice_range b (pointer_start x) (pointer_start x + 8))) here
              ∙ ap (pointer_at (largest_pointer g.format)) (elim (cases_lt x e) [
                | inl less ↦ range_before (block_on d (pointer_block g)) p (pointer_start x) (pointer_start x + 8)
                    (omega arith) (omega arith)
                | inr le ↦ range_behind (block_on d (pointer_block g)) p (pointer_start x) (pointer_start x + 8)
                    (omega arith) (omega arith) (omega arith)
              ])
              ∙ shows.points x in_range)
        ];
        padding = ap (λ b. are_zeros (slice_range b (pointer_start g.extents) 4096)) here
            ∙ ap are_zeros (range_behind (block_on d (pointer_block g)) p (pointer_start g.extents) 4096 (omega arith)
            (omega arith) (omega arith)) ∙ shows.padding;
        slots = λ s in_range. let less = slot_low g s in_range in
            ap (λ b. slot_at (longest_frame l.geometry.format) (slice_range b (slot_start s) (slot_start s + 64)))
            (other (slot_block s) (λ e. absurd (omega arith))) ∙ shows.slots s in_range;
        bytes = λ x i in_range in_extent. let high = extent_high g x i in
            ap (λ b. slice_index b (i % 4096)) (other (first_block g x + i / 4096) (λ e. absurd (omega arith)))
            ∙ shows.bytes x i in_range in_extent;
      }

  -- a slot, filled or cleared
  pub shows_slot : Formats → (s : ℕ) (o : Option SlotFields) (p : Patch) → p.block ≡ slot_block s
      → p.start ≡ slot_start s → p.bytes ≡ slots.spelling o
      → s < slot_count g → longest_frame l.geometry.format < 2 ^ 32 → slots.Fits (longest_frame l.geometry.format) o
      → Shows g (laid d p) (record l { slot = λ t. cond (t == s) o (l.slot t) })
  shows_slot formats s o p block start is known small fit =
      let low = slot_low g s known in
      let count = shows.count in
      let there : p.block < length d = omega arith in
      let inside = slot_inside s in
      let long : length p.bytes ≡ 64 = ap length is ∙ formats.slot_long (longest_frame l.geometry.format) o fit in
      let fits : end p ≤ 4096 = omega arith in
      let other : (b : ℕ) → b ≢ slot_block s → block_on (laid d p) b ≡ block_on d b =
      λ b ne. laid_elsewhere d p b (λ e. ne (e ∙ block)) in
      record {
        long = long_laid d p shows.long there fits;
        count = length-laid d p ∙ shows.count;
        super = ap superblock_at (other 0 (λ e. absurd (omega arith))) ∙ shows.super;
        points = λ x in_range. ap (λ b. pointer_at (largest_pointer g.format)
            (slice_range b (pointer_start x) (pointer_start x + 8)))
            (other (pointer_block g) (λ e. absurd (omega arith))) ∙ shows.points x in_range;
        padding = ap (λ b. are_zeros (slice_range b (pointer_start g.extents) 4096))
            (other (pointer_block g) (λ e. absurd (omega arith))) ∙ shows.padding;
        slots = λ t in_range. elim (cases_Bool (t == s)) [
          | inl u ↦ let same : t ≡ s = grind (arith, nat_tests) in
              let block_same : slot_block t ≡ slot_block s = ap slot_block same in
              let start_same : slot_start t ≡ slot_start s = ap slot_start same in
              let whole : length (block_on d (slot_block t)) ≡ 4096 = shows.long (slot_block t) (omega arith) in
              rw u (ap (λ b. slot_at (longest_frame l.geometry.format)
              (slice_range b (slot_start t) (slot_start t + 64)))
              (laid_here d p (slot_block t) (block_same ∙ sym block) there)
              ∙ ap (slot_at (longest_frame l.geometry.format))
              (range_of (block_on d (slot_block t)) p (slot_start t) (slot_start t + 64) (omega arith) (omega arith)
              (omega arith) ∙ is)
              ∙ formats.slot_read (longest_frame l.geometry.format) o small fit)
          | inr u ↦ let apart : t ≢ s = λ same. absurd (grind (arith, nat_tests)) in
              rw u (elim (cases_eq (slot_block t) (slot_block s)) [
                | inl block_same ↦
                    let whole : length (block_on d (slot_block t)) ≡ 4096 = shows.long (slot_block t) (omega arith) in
                    let fit_t = slot_inside t in
                    let clear : slice_range (lay (block_on d (slot_block t)) p) (slot_start t) (slot_start t + 64)
                    ≡ slice_range (block_on d (slot_block t)) (slot_start t) (slot_start t + 64) =
                    elim (slots_apart t s apart) [
                      | inl ne ↦ absurd (ne block_same)
                      | inr far ↦ elim far [
                        | inl less ↦ range_before (block_on d (slot_block t)) p (slot_start t) (slot_start t + 64)
                            (omega arith) (omega arith)
                        | inr more ↦ range_behind (block_on d (slot_block t)) p (slot_start t) (slot_start t + 64)
                            (omega arith) (omega arith) (omega arith)
                      ]
                    ] in
                    ap (λ b. slot_at (longest_frame l.geometry.format)
                    (slice_range b (slot_start t) (slot_start t + 64)))
                    (laid_here d p (slot_block t) (block_same ∙ sym block) there)
                    ∙ ap (slot_at (longest_frame l.geometry.format)) clear
                    ∙ shows.slots t in_range
                | inr ne ↦ ap (λ b. slot_at (longest_frame l.geometry.format)
                    (slice_range b (slot_start t) (slot_start t + 64))) (other (slot_block t) ne)
                    ∙ shows.slots t in_range
              ])
        ];
        bytes = λ x i in_range in_extent. let high = extent_high g x i in
            ap (λ b. slice_index b (i % 4096)) (other (first_block g x + i / 4096) (λ e. absurd (omega arith)))
            ∙ shows.bytes x i in_range in_extent;
      }
