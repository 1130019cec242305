-- A slot that is read, and the frame that it names.
use Rattle.std.proofs.Common.{◌≡◌, ℕ, ◌+◌, ◌-◌, ◌<◌, ◌≤◌, ◌∙◌, inl, inr, Bool, true, false, List, [], ◌∷◌, ◌++◌, length, map, get_or, slice_range, Ok, Err, refl, sym, ap, subst, arith}
use Rattle.std.specs.Prelude.{◌==◌, not, nat_lt, nat_le, is_err, is_some, position, Option, Some, None, Result, All, if◌then◌else◌}
use Rattle.std.specs.List.{list_any, range_with_len}
use Rattle.std.proofs.lemmas.Bool.{cases_lt}
use Rattle.std.proofs.lemmas.Bool.Decides.{nat_tests}
use Rattle.std.proofs.lemmas.List.{take_all}
use Rattle.std.proofs.lemmas.List.FromFn.{fill_by_all, map-range_with_len_more}
use Rattle.patch_model.specs.declared.blocks.TheConstants.{BLOCK}
use Rattle.patch_model.specs.declared.refusals.Refusal.{Refusal}
use Rattle.patch_model.specs.declared.refusals.RefusalKind.TheVariants as kind
use Rattle.patch_model.specs.Refusal.{code_of}
use Rattle.patch_model.specs.Refusing.{bare, why_not_shown}
use Rattle.patch_frame.specs.declared.faults.FrameFault.{FrameFault}
use Rattle.patch_frame.specs.declared.geometries.Geometry.{Geometry}
use Rattle.patch_frame.specs.declared.pointers.Pointer.{Pointer}
use Rattle.patch_frame.specs.Field.{outcome}
use Rattle.patch_frame.specs.Frame.{frame_at}
use Rattle.patch_frame.specs.Geometry.{slot_count, slot_block, slot_start, block_count, largest_pointer, longest_frame, value_limit}
use Rattle.patch_frame.specs.Passing.{passed, read_is}
use Rattle.patch_frame.specs.Pointer.{pointer_of, pointer_at}
use Rattle.patch_frame.specs.Slot.{SlotFields, slot_at}
use Rattle.patch_cache.specs.Refusals.{IsCause}
use Rattle.patch_model.specs.Renewed.{cached_blocks}
use Rattle.patch_recovery.specs.Ledger.{Ledger, bytes_at, is_frame_of, names_frame}
use Rattle.patch_recovery.specs.Reading.{Fault, BadSlot, BadFrame, DuplicateKey, block_on, ledger_in, read_as, record_at, slot_bytes, slot_tests, used_tests, has_key}
use Rattle.patch_extent.specs.Answers.{cached_bytes}
use Rattle.patch_extent.specs.declared.places.Place.{Place}
use Rattle.patch_plans.specs.Extents.{Extents, extent_at, generation_at, offset_at}
use Rattle.patch_plans.specs.Meaning.{AreExtentsOf}
use Rattle.patch_extent.specs.Refusing.{why_not_read}
use Rattle.patch_history.specs.declared.refusals.OpenFault.{OpenFault}
use Rattle.patch_store.specs.Opening.{nothing, unchanged, NoneHolds, IsSpan, IsFirstOf, IsPlaced, IsScanned, AreScanned, frame_tests}
use Rattle.patch_store.proofs.Tested.{behind_passing, fault_before, place_found, any_made}
use Rattle.patch_store.proofs.Values.{length_range}

-- the cached blocks of an execution of no steps are its first ones
pub cached_unchanged : (blocks : List (List ℕ)) → cached_blocks (unchanged blocks) ≡ blocks
cached_unchanged blocks = sym (fill_by_all (λ k. get_or blocks k []) blocks (length blocks) [] refl (λ k less. refl))

-- a whole block is lent
pub whole_block : (blocks : List (List ℕ)) (n : ℕ) (bytes : List ℕ) → All (λ block. length block ≡ BLOCK) blocks → n < length blocks
    → IsSpan blocks n 0 BLOCK bytes → bytes ≡ block_on blocks n
whole_block blocks n bytes long there is =
    let whole : length (block_on blocks n) ≡ 4096 = long n [] there in
    is ∙ take_all 4096 (block_on blocks n) (omega (arith, whole))

-- and a span of a block can be
pub span_shown : (blocks : List (List ℕ)) (block start len : ℕ) → block < length blocks → start + len ≤ BLOCK
    → why_not_shown (length blocks) block start len ≡ None
span_shown blocks block start len there fits =
    let known : nat_le (length blocks) block ≡ false = grind (arith, nat_tests, there) in
    let inside : nat_lt BLOCK (start + len) ≡ false = grind (arith, nat_tests, fits) in
    rw (known, inside) refl

pub span_long : (blocks : List (List ℕ)) (block start len : ℕ) (bytes : List ℕ) → All (λ b. length b ≡ BLOCK) blocks → block < length blocks
    → start + len ≤ BLOCK → IsSpan blocks block start len bytes → length bytes ≡ len
span_long blocks block start len bytes long there fits is =
    let whole : length (block_on blocks block) ≡ BLOCK = long block [] there in
    ap length is ∙ length_range (block_on blocks block) start (start + len) (omega arith) (omega (arith, whole, fits))
    ∙ (let z : start + len - start ≡ len = omega arith in z)

-- the pointer of an extent, as the ledger has it
pointer_read : (largest : ℕ) (bytes : List ℕ) (p : Pointer) → pointer_at largest bytes ≡ Ok p → pointer_of bytes ≡ p
pointer_read largest bytes p is = read_is (pointer_of bytes) p (passed _ _ [] (pointer_of bytes) p is).1

pub pointer_is : (s : Extents) (blocks : List (List ℕ)) (e : ℕ) → AreExtentsOf s (unchanged blocks) → e < s.geometry.extents
    → (ledger_in s.geometry blocks).pointer e ≡ (extent_at s e).pointer
pointer_is s blocks e extents known =
    pointer_read (largest_pointer s.geometry.format) (record_at s.geometry blocks e) (extent_at s e).pointer
    (subst (λ b. pointer_at (largest_pointer s.geometry.format) (record_at s.geometry b e) ≡ Ok (extent_at s e).pointer) (cached_unchanged blocks) (extents.records e known))

-- What a slot's bytes say.

pub slot_bad : (l : Ledger) (blocks : List (List ℕ)) (slot : ℕ) (fault : FrameFault)
    → slot_at (longest_frame l.geometry.format) (slot_bytes blocks slot) ≡ Err fault → outcome (slot_tests l blocks slot) nothing ≡ Err (BadSlot slot)
slot_bad l blocks slot fault is = ap (λ r. outcome ((is_err r, BadSlot slot) ∷ used_tests l slot (l.slot slot)) nothing) is

pub slot_is : (g : Geometry) (blocks : List (List ℕ)) (slot : ℕ) (says : Option SlotFields) → slot < slot_count g
    → slot_at (longest_frame g.format) (slot_bytes blocks slot) ≡ Ok says → says ≡ (ledger_in g blocks).slot slot
slot_is g blocks slot says within is =
    let there : nat_lt slot (slot_count g) ≡ true = grind (arith, nat_tests, within) in
    sym (ap (λ b. if b then read_as (slot_at (longest_frame g.format) (slot_bytes blocks slot)) else None) there ∙ ap read_as is)

pub slot_read : (g : Geometry) (blocks : List (List ℕ)) (slot : ℕ) (says : Option SlotFields) → slot < slot_count g
    → slot_at (longest_frame g.format) (slot_bytes blocks slot) ≡ Ok says
    → slot_tests (ledger_in g blocks) blocks slot ≡ (false, BadSlot slot) ∷ used_tests (ledger_in g blocks) slot says
slot_read g blocks slot says within is =
    ap (λ o. (is_err (slot_at (longest_frame g.format) (slot_bytes blocks slot)), BadSlot slot) ∷ used_tests (ledger_in g blocks) slot o)
    (sym (slot_is g blocks slot says within is))
    ∙ ap (λ r. (is_err r, BadSlot slot) ∷ used_tests (ledger_in g blocks) slot says) is

-- the last test of a used slot, behind those of its frame: that no lower one has the key
abbrev again : Ledger → ℕ → SlotFields → Bool × Fault
again l slot f = (list_any (λ lower. has_key f.key (l.slot lower)) (range_with_len 0 slot), DuplicateKey slot)

-- Where the frame stands.

-- a slot of bytes at their place names a frame where they are one
pub names_if : (l : Ledger) (f : SlotFields) (bytes : List ℕ) → IsPlaced l f bytes
    → names_frame l f ≡ is_frame_of f (frame_at (value_limit l.geometry.format) bytes)
names_if l f bytes placed =
    let same : ((l.pointer f.extent).generation == f.generation) ≡ true = let e = placed.generation in grind (arith, nat_tests, e) in
    let within : nat_le (f.offset + f.length) (l.pointer f.extent).offset ≡ true = let w = placed.within in grind (arith, nat_tests, w) in
    rw (same, within) (ap (λ b. is_frame_of f (frame_at (value_limit l.geometry.format) b)) (sym placed.bytes_are))

pub frame_good : (l : Ledger) (slot : ℕ) (f : SlotFields) → f.extent < l.geometry.extents → names_frame l f ≡ true → NoneHolds (frame_tests l slot f)
frame_good l slot f known names =
    let there : nat_lt f.extent l.geometry.extents ≡ true = grind (arith, nat_tests, known) in
    rw (there, names) refl

pub frame_bad : (l : Ledger) (slot : ℕ) (f : SlotFields) → f.extent < l.geometry.extents → names_frame l f ≡ false
    → outcome (frame_tests l slot f) nothing ≡ Err (BadFrame slot)
frame_bad l slot f known names =
    let there : nat_lt f.extent l.geometry.extents ≡ true = grind (arith, nat_tests, known) in
    rw (there, names) refl

pub extent_bad : (l : Ledger) (slot : ℕ) (f : SlotFields) → l.geometry.extents ≤ f.extent → outcome (frame_tests l slot f) nothing ≡ Err (BadSlot slot)
extent_bad l slot f past =
    let none : nat_lt f.extent l.geometry.extents ≡ false = grind (arith, nat_tests, past) in
    rw none refl

pub generation_bad : (l : Ledger) (slot : ℕ) (f : SlotFields) → f.extent < l.geometry.extents → ((l.pointer f.extent).generation == f.generation) ≡ false
    → outcome (frame_tests l slot f) nothing ≡ Err (BadFrame slot)
generation_bad l slot f known other = frame_bad l slot f known (rw other refl)

pub past_bad : (l : Ledger) (slot : ℕ) (f : SlotFields) → f.extent < l.geometry.extents → (l.pointer f.extent).generation ≡ f.generation
    → nat_le (f.offset + f.length) (l.pointer f.extent).offset ≡ false → outcome (frame_tests l slot f) nothing ≡ Err (BadFrame slot)
past_bad l slot f known same past =
    let there : ((l.pointer f.extent).generation == f.generation) ≡ true = grind (arith, nat_tests, same) in
    frame_bad l slot f known (rw (there, past) refl)

-- Why a place isn't read, by the three tests of it.

abbrev why_by : (past_all same past_pointer : Bool) → Option Refusal
why_by a b c = if a then Some (bare kind.NoSuchExtent) else if not b then Some (bare kind.OldGeneration) else if c then Some (bare kind.PastPointer) else None

apart : (a b : Refusal) → (code_of a.kind == code_of b.kind) ≡ false → a ≡ b → ⊥
apart a b differ same =
    let e : code_of a.kind ≡ code_of b.kind = ap (λ (r : Refusal). code_of r.kind) same in
    let here : (code_of a.kind == code_of b.kind) ≡ true = grind (arith, nat_tests, e) in
    let both : true ≡ false = sym here ∙ differ in
    absurd cc

by_none : (a b c : Bool) → why_by a b c ≡ None → (a ≡ false) × (b ≡ true) × (c ≡ false)
by_none true b c h = absurd cc
by_none false false c h = absurd cc
by_none false true true h = absurd cc
by_none false true false h = (refl, refl, refl)

by_extent : (a b c : Bool) → IsCause (why_by a b c) (bare kind.NoSuchExtent) → a ≡ true
by_extent true b c h = refl
by_extent false false c h = absurd (apart (bare kind.NoSuchExtent) (bare kind.OldGeneration) refl h)
by_extent false true true h = absurd (apart (bare kind.NoSuchExtent) (bare kind.PastPointer) refl h)
by_extent false true false h = absurd (apart (bare kind.NoSuchExtent) (bare kind.OutOfMemory) refl h)

by_generation : (a b c : Bool) → IsCause (why_by a b c) (bare kind.OldGeneration) → (a ≡ false) × (b ≡ false)
by_generation true b c h = absurd (apart (bare kind.OldGeneration) (bare kind.NoSuchExtent) refl h)
by_generation false false c h = (refl, refl)
by_generation false true true h = absurd (apart (bare kind.OldGeneration) (bare kind.PastPointer) refl h)
by_generation false true false h = absurd (apart (bare kind.OldGeneration) (bare kind.OutOfMemory) refl h)

by_pointer : (a b c : Bool) → IsCause (why_by a b c) (bare kind.PastPointer) → (a ≡ false) × (b ≡ true)
by_pointer true b c h = absurd (apart (bare kind.PastPointer) (bare kind.NoSuchExtent) refl h)
by_pointer false false c h = absurd (apart (bare kind.PastPointer) (bare kind.OldGeneration) refl h)
by_pointer false true true h = (refl, refl)
by_pointer false true false h = absurd (apart (bare kind.PastPointer) (bare kind.OutOfMemory) refl h)

past_pointer : (c : Bool) → IsCause (why_by false true c) (bare kind.PastPointer) → c ≡ true
past_pointer true h = refl
past_pointer false h = absurd (apart (bare kind.PastPointer) (bare kind.OutOfMemory) refl h)

-- What a read of the place that a slot names tells of its tests.

abbrev pub place_of : SlotFields → Place
place_of f = record { extent = f.extent; generation = f.generation; offset = f.offset; len = f.length }

same_by : (s : Extents) (blocks : List (List ℕ)) (f : SlotFields) → AreExtentsOf s (unchanged blocks) → f.extent < s.geometry.extents
    → (f.generation == generation_at s f.extent) ≡ true → ((ledger_in s.geometry blocks).pointer f.extent).generation ≡ f.generation
same_by s blocks f extents known same =
    let e : f.generation ≡ generation_at s f.extent = grind (arith, nat_tests, same) in
    ap (λ (p : Pointer). p.generation) (pointer_is s blocks f.extent extents known) ∙ sym e

-- it was read
pub placed : (s : Extents) (blocks : List (List ℕ)) (f : SlotFields) (bytes : List ℕ) → AreExtentsOf s (unchanged blocks) → why_not_read s (place_of f) ≡ None
    → bytes ≡ cached_bytes s.geometry (unchanged blocks) f.extent f.offset f.length → IsPlaced (ledger_in s.geometry blocks) f bytes
placed s blocks f bytes extents none is =
    let t = by_none (nat_le s.geometry.extents f.extent) (f.generation == generation_at s f.extent) (nat_lt (offset_at s f.extent) (f.offset + f.length)) none in
    let past = t.0 in
    let short = t.2 in
    let known : f.extent < s.geometry.extents = grind (arith, nat_tests, past) in
    let low : f.offset + f.length ≤ offset_at s f.extent = grind (arith, nat_tests, short) in
    let at = ap (λ (p : Pointer). p.offset) (pointer_is s blocks f.extent extents known) in
    record {
      known = known;
      generation = same_by s blocks f extents known t.1;
      within = omega (arith, low, at);
      inside = (let fits = (extents.whole.fits f.extent).offset in omega (arith, low, fits));
      bytes_are = is ∙ ap (λ b. bytes_at (ledger_in s.geometry b) f.extent f.offset f.length) (cached_unchanged blocks);
    }

-- there is no such extent
pub not_placed : (s : Extents) (blocks : List (List ℕ)) (f : SlotFields) (slot : ℕ) → IsCause (why_not_read s (place_of f)) (bare kind.NoSuchExtent)
    → outcome (frame_tests (ledger_in s.geometry blocks) slot f) nothing ≡ Err (BadSlot slot)
not_placed s blocks f slot cause =
    let past = by_extent (nat_le s.geometry.extents f.extent) (f.generation == generation_at s f.extent) (nat_lt (offset_at s f.extent) (f.offset + f.length)) cause in
    extent_bad (ledger_in s.geometry blocks) slot f (grind (arith, nat_tests, past))

-- it has another generation
pub old_place : (s : Extents) (blocks : List (List ℕ)) (f : SlotFields) (slot : ℕ) → AreExtentsOf s (unchanged blocks)
    → IsCause (why_not_read s (place_of f)) (bare kind.OldGeneration) → outcome (frame_tests (ledger_in s.geometry blocks) slot f) nothing ≡ Err (BadFrame slot)
old_place s blocks f slot extents cause =
    let t = by_generation (nat_le s.geometry.extents f.extent) (f.generation == generation_at s f.extent) (nat_lt (offset_at s f.extent) (f.offset + f.length)) cause in
    let past = t.0 in
    let known : f.extent < s.geometry.extents = grind (arith, nat_tests, past) in
    let at = ap (λ (p : Pointer). p.generation) (pointer_is s blocks f.extent extents known) in
    let old = t.1 in
    let other : (((ledger_in s.geometry blocks).pointer f.extent).generation == f.generation) ≡ false =
    ap (λ x. x == f.generation) at ∙ (let g : (generation_at s f.extent == f.generation) ≡ false = grind (arith, nat_tests, old) in g) in
    generation_bad (ledger_in s.geometry blocks) slot f known other

-- it passes the pointer
pub past_place : (s : Extents) (blocks : List (List ℕ)) (f : SlotFields) (slot : ℕ) → AreExtentsOf s (unchanged blocks)
    → IsCause (why_not_read s (place_of f)) (bare kind.PastPointer) → outcome (frame_tests (ledger_in s.geometry blocks) slot f) nothing ≡ Err (BadFrame slot)
past_place s blocks f slot extents cause =
    let past_all = nat_le s.geometry.extents f.extent in
    let same = f.generation == generation_at s f.extent in
    let over = nat_lt (offset_at s f.extent) (f.offset + f.length) in
    let t = by_pointer past_all same over cause in
    let past = t.0 in
    let known : f.extent < s.geometry.extents = grind (arith, nat_tests, past) in
    let first = subst (λ a. IsCause (why_by a same over) (bare kind.PastPointer)) t.0 cause in
    let c : over ≡ true = past_pointer over (subst (λ b. IsCause (why_by false b over) (bare kind.PastPointer)) t.1 first) in
    let at = ap (λ (p : Pointer). p.offset) (pointer_is s blocks f.extent extents known) in
    let far : offset_at s f.extent < f.offset + f.length = grind (arith, nat_tests, c) in
    let g : nat_le (f.offset + f.length) ((ledger_in s.geometry blocks).pointer f.extent).offset ≡ false = grind (arith, nat_tests, far, at) in
    past_bad (ledger_in s.geometry blocks) slot f known (same_by s blocks f extents known t.1) g

-- What is read at a slot's place.

pub slot_there : (g : Geometry) (slot : ℕ) → slot < slot_count g → slot_block slot < block_count g
slot_there g slot within = omega (arith, within)

slot_gives : (g : Geometry) (blocks : List (List ℕ)) (slot block start longest : ℕ) (bytes : List ℕ) (told : Result (Option SlotFields) FrameFault)
    → block ≡ slot_block slot → start ≡ slot_start slot → longest ≡ longest_frame g.format → IsSpan blocks block start 64 bytes
    → slot_at longest bytes ≡ told → slot_at (longest_frame g.format) (slot_bytes blocks slot) ≡ told
slot_gives g blocks slot block start longest bytes told at from limit is said =
    let there : bytes ≡ slot_bytes blocks slot =
    is ∙ ap (λ n. slice_range (block_on blocks n) start (start + 64)) at
    ∙ ap (λ n. slice_range (block_on blocks (slot_block slot)) n (n + 64)) from in
    sym (ap (λ n. slot_at n bytes) limit ∙ ap (slot_at (longest_frame g.format)) there) ∙ said

pub slot_says : (g : Geometry) (blocks : List (List ℕ)) (slot block start longest : ℕ) (bytes : List ℕ) (says : Option SlotFields)
    → block ≡ slot_block slot → start ≡ slot_start slot → longest ≡ longest_frame g.format → IsSpan blocks block start 64 bytes
    → slot_at longest bytes ≡ Ok says → slot_at (longest_frame g.format) (slot_bytes blocks slot) ≡ Ok says
slot_says g blocks slot block start longest bytes says at from limit is said =
    slot_gives g blocks slot block start longest bytes (Ok says) at from limit is said

-- it is spelled wrongly
pub slot_misspelled : (g : Geometry) (blocks : List (List ℕ)) (slot block start longest : ℕ) (bytes : List ℕ) (fault : FrameFault)
    → block ≡ slot_block slot → start ≡ slot_start slot → longest ≡ longest_frame g.format → IsSpan blocks block start 64 bytes
    → slot_at longest bytes ≡ Err fault → outcome (slot_tests (ledger_in g blocks) blocks slot) nothing ≡ Err (BadSlot slot)
slot_misspelled g blocks slot block start longest bytes fault at from limit is said =
    slot_bad (ledger_in g blocks) blocks slot fault (slot_gives g blocks slot block start longest bytes (Err fault) at from limit is said)

-- it is empty
pub slot_empty : (g : Geometry) (blocks : List (List ℕ)) (slot : ℕ) → slot < slot_count g
    → slot_at (longest_frame g.format) (slot_bytes blocks slot) ≡ Ok None → IsScanned (ledger_in g blocks) blocks slot None
slot_empty g blocks slot within is = record {
  passes = ap (λ tests. outcome tests nothing) (slot_read g blocks slot None within is);
  says_is = slot_is g blocks slot None within is;
}

-- its frame is refused
pub slot_refuses : (g : Geometry) (blocks : List (List ℕ)) (slot : ℕ) (f : SlotFields) (fault : OpenFault) → slot < slot_count g
    → slot_at (longest_frame g.format) (slot_bytes blocks slot) ≡ Ok (Some f) → IsFirstOf (frame_tests (ledger_in g blocks) slot f) fault
    → IsFirstOf (slot_tests (ledger_in g blocks) blocks slot) fault
slot_refuses g blocks slot f fault within is h =
    subst (λ tests. IsFirstOf tests fault) (sym (slot_read g blocks slot (Some f) within is))
    (fault_before (frame_tests (ledger_in g blocks) slot f) (again (ledger_in g blocks) slot f ∷ []) nothing fault h)

-- a lower slot has its key
pub slot_repeats : (g : Geometry) (blocks : List (List ℕ)) (slot : ℕ) (f : SlotFields) → slot < slot_count g
    → slot_at (longest_frame g.format) (slot_bytes blocks slot) ≡ Ok (Some f) → NoneHolds (frame_tests (ledger_in g blocks) slot f)
    → (again (ledger_in g blocks) slot f).0 ≡ true → outcome (slot_tests (ledger_in g blocks) blocks slot) nothing ≡ Err (DuplicateKey slot)
slot_repeats g blocks slot f within is pass lower =
    ap (λ tests. outcome tests nothing) (slot_read g blocks slot (Some f) within is)
    ∙ behind_passing (frame_tests (ledger_in g blocks) slot f) (again (ledger_in g blocks) slot f ∷ []) nothing pass
    ∙ (rw lower refl)

-- none has
pub slot_passes : (g : Geometry) (blocks : List (List ℕ)) (slot : ℕ) (f : SlotFields) → slot < slot_count g
    → slot_at (longest_frame g.format) (slot_bytes blocks slot) ≡ Ok (Some f) → NoneHolds (frame_tests (ledger_in g blocks) slot f)
    → (again (ledger_in g blocks) slot f).0 ≡ false → IsScanned (ledger_in g blocks) blocks slot (Some f)
slot_passes g blocks slot f within is pass none = record {
  passes = ap (λ tests. outcome tests nothing) (slot_read g blocks slot (Some f) within is)
      ∙ behind_passing (frame_tests (ledger_in g blocks) slot f) (again (ledger_in g blocks) slot f ∷ []) nothing pass
      ∙ (rw none refl);
  says_is = slot_is g blocks slot (Some f) within is;
}

-- where the key is looked for among the lower slots
pub key_found : (l : Ledger) (slot : ℕ) (key : List ℕ) (lower : List (Option SlotFields)) (place : Option ℕ) → lower ≡ map l.slot (range_with_len 0 slot)
    → place ≡ position (has_key key) lower → is_some place ≡ list_any (λ s. has_key key (l.slot s)) (range_with_len 0 slot)
key_found l slot key lower place are is =
    ap is_some (is ∙ ap (position (has_key key)) are) ∙ place_found (has_key key) (map l.slot (range_with_len 0 slot)) None
    ∙ any_made (has_key key) l.slot (range_with_len 0 slot)

-- one slot more was read
pub scanned_more : (l : Ledger) (blocks : List (List ℕ)) (slots next : List (Option SlotFields)) (slot : ℕ) (says : Option SlotFields)
    → AreScanned l blocks slots slot → IsScanned l blocks slot says → next ≡ slots ++ says ∷ [] → AreScanned l blocks next (slot + 1)
scanned_more l blocks slots next slot says before this is = record {
  pass = λ s less. elim (cases_lt s slot) [
    | inl below ↦ before.pass s below
    | inr from ↦ (let here : slot ≡ s = omega (arith, less, from) in subst (λ n. NoneHolds (slot_tests l blocks n)) here this.passes)
  ];
  say = is ∙ ap (λ xs. xs ++ says ∷ []) before.say ∙ ap (λ o. map l.slot (range_with_len 0 slot) ++ o ∷ []) this.says_is
      ∙ sym (map-range_with_len_more l.slot 0 slot slot (omega arith));
}
