-- An upgrade, a put, a delete, a put and a reclaim are changes of a store.
use Rattle.std.proofs.Common.{◌≡◌, ◌≢◌, ℕ, zero, suc, ◌+◌, ◌-◌, ◌*◌, ◌<◌, ◌≤◌, ◌∙◌, inl, inr, Bool, true, false, List}
use Rattle.std.proofs.Common.{[], ◌∷◌, ◌++◌, length, replicate, slice_range, take, drop, Some, None, refl, sym, ap}
use Rattle.std.proofs.Common.{arith, subst}
use Rattle.std.specs.Prelude.{◌==◌, ◌&&◌, ◌||◌, not, nat_lt, IsTrue}
use Rattle.std.specs.List.{AllByRecursion, list_all}
use Rattle.std.proofs.lemmas.Bool.{cases_Bool, cases_eq, and_parts}
use Rattle.std.proofs.lemmas.Bool.Decides.{nat_tests}
use Rattle.std.proofs.lemmas.List.{take-replicate, drop-replicate}
use Rattle.std.proofs.lemmas.List.Elements.{All-from_recursion}
use Rattle.std.proofs.Math.Nat.{div-add-mod}
use Rattle.patch_model.specs.declared.blocks.TheConstants.{BLOCK}
use Rattle.patch_model.specs.Entry.{is_among}
use Rattle.patch_frame.specs.Field.{zeros}
use Rattle.patch_frame.specs.Geometry.{IsGeometry, slot_block, slot_start}
use Rattle.patch_frame.specs.Slot.{SlotFields, slot_at}
use Rattle.patch_recovery.specs.Change.{Change, Data, Point, Fill, Clear, Widen, Made}
use Rattle.patch_recovery.specs.Ledger.{Ledger, after, after_all}
use Rattle.patch_recovery.specs.Reading.{block_on, slot_bytes, read_as}
use Rattle.patch_recovery.specs.Orders.{takes_from, AreWellMade}
use Rattle.patch_recovery.specs.Naming.{NamesSuffice}
use Rattle.patch_recovery.specs.Store.{IsOfStore, StoresBegin, StoresGrow}
use Rattle.patch_recovery.specs.Putting.{Put, bytes_put, PutsAreWellMade}
use Rattle.patch_recovery.specs.Rows.{new_disk, zero_block}
use Rattle.patch_recovery.specs.Runs.{three, first_ledger, run_of, content_a, content_b, fields_at, made}
use Rattle.patch_recovery.specs.Runs.{upgrade_and_put, up_to_delete, up_to_second_put, up_to_move, each_command}
use Rattle.patch_recovery.proofs.Agreeing.{AllKept}
use Rattle.patch_recovery.proofs.Sound.{some_alike}

-- ---- the new disk

long_replicate : (n : ℕ) → AllByRecursion (λ block. length block ≡ BLOCK) (replicate n zero_block)
long_replicate zero = tt
long_replicate (suc n) = (refl, long_replicate n)

-- each slot of a new disk is empty
no_slot : (s : ℕ) → first_ledger.slot s ≡ None
unfolding zeros
no_slot s = elim (cases_Bool (nat_lt s 64)) [
  | inl u ↦
      let less : s < 64 = grind (arith, nat_tests) in
      let at = div-add-mod s 64 in
      let block : slot_block s ≡ 1 = omega arith in
      let start : slot_start s ≡ 64 * s = omega arith in
      let count : 64 * s + 64 - 64 * s ≡ 64 = omega arith in
      let enough : 64 ≤ 4096 - 64 * s = omega arith in
      let bytes : slot_bytes (new_disk three) s ≡ replicate 64 0 =
      ap (λ b. slice_range (block_on (new_disk three) b) (slot_start s) (slot_start s + 64)) block
      ∙ ap (λ n. slice_range zero_block n (n + 64)) start
      ∙ ap (λ n. take n (drop (64 * s) zero_block)) count
      ∙ ap (take 64) (drop-replicate (64 * s) 4096 0)
      ∙ take-replicate 64 (4096 - 64 * s) 0 enough in
      let empty : read_as (slot_at 32816 (slot_bytes (new_disk three) s)) ≡ None =
      ap (λ b. read_as (slot_at 32816 b)) bytes in
      rw u empty
  | inr u ↦ rw u refl
]

begun : StoresBegin → IsOfStore (run_of []) first_ledger []
unfolding zeros
begun begin =
    begin (new_disk three) first_ledger
    (All-from_recursion (λ block. length block ≡ BLOCK) (new_disk three) (refl, long_replicate 50)) refl

-- ---- slots that stay empty

-- no slot but slot 0 is filled or cleared
abbrev leaves_others : Change → Bool
leaves_others (Fill slot s) = slot == 0
leaves_others (Clear slot) = slot == 0
leaves_others (Data extent offset bytes) = true
leaves_others (Point extent generation offset) = true
leaves_others Widen = true

other_slot : (n : ℕ) → n ≢ 0 → (l : Ledger) (c : Change) → leaves_others c ≡ true → (after l c).slot n ≡ l.slot n
other_slot n ne l (Fill slot s) h = let off : (n == slot) ≡ false = grind (arith, nat_tests) in rw off refl
other_slot n ne l (Clear slot) h = let off : (n == slot) ≡ false = grind (arith, nat_tests) in rw off refl
other_slot n ne l (Data extent offset bytes) h = refl
other_slot n ne l (Point extent generation offset) h = refl
other_slot n ne l Widen h = refl

-- after such changes every other slot is empty
others_empty : (n : ℕ) → n ≢ 0 → (ms : List Made) → list_all (λ m. leaves_others m.change) ms ≡ true
    → (after_all first_ledger ms).slot n ≡ None
others_empty n ne [] h = no_slot n
others_empty n ne (m ∷ ms) h =
    let parts = and_parts (leaves_others m.change) (list_all (λ m. leaves_others m.change) ms) h in
    other_slot n ne (after_all first_ledger ms) m.change parts.0 ∙ others_empty n ne ms parts.1

-- what is nowhere isn't somewhere
nowhere : {X : Type 0} {s : SlotFields} → Some s ≡ None → X
nowhere h = absurd (cc)

-- ---- the commands

three_valid : IsGeometry first_ledger.geometry
unfolding zeros
three_valid = record {
  some_index = omega arith;
  short_index = omega arith;
  some_extents = omega arith;
  few_extents = omega arith;
  format = tt;
  blocks = omega arith;
}

-- the one number from a on and below a + 1 is named
only_one : (a n : ℕ) (names : List ℕ) → a < suc n → n < suc a → IsTrue (is_among names a) → IsTrue (is_among names n)
only_one a n names from to h = let same : a ≡ n = omega arith in subst (λ k. IsTrue (is_among names k)) same h

upgraded : NamesSuffice → AreWellMade first_ledger (made Widen [] ∷ [])
unfolding zeros
upgraded suffice = (suffice first_ledger (made Widen []) [] tt refl tt, tt)

-- the first put
abbrev put_a : Put
put_a = record {
  slot = 0;
  content = content_a;
  extent = 0;
  bytes_names = [];
  pointer_names = 1 ∷ [];
  slot_names = 2 ∷ 0 ∷ [];
}

put_once : NamesSuffice → PutsAreWellMade → AreWellMade first_ledger upgrade_and_put
unfolding zeros
put_once suffice puts =
    let before : List Made = made Widen [] ∷ [] in
    let at : ((after_all first_ledger (made Widen [] ∷ [])).pointer 0).offset ≡ 0 = refl in
    let time : ((after_all first_ledger (made Widen [] ∷ [])).pointer 0).generation ≡ 0 = refl in
    let long : length (bytes_put first_ledger (made Widen [] ∷ []) put_a) ≡ 2 = refl in
    (puts first_ledger (made Widen [] ∷ []) put_a three_valid (upgraded suffice) (record {
      known = omega arith;
      slot = omega arith;
      content = record { some_key = omega arith; short_key = omega arith; short_value = omega arith };
      generation = omega arith;
      room = omega arith;
      only = λ other t ne there. nowhere (sym there ∙ others_empty other ne (made Widen [] ∷ []) refl);
      same_key = λ t there. nowhere (sym there ∙ no_slot 0);
      bytes_named = tt;
      pointer_named = λ n from to. only_one 1 n (1 ∷ []) (omega arith) (omega arith) refl;
      slot_named = refl;
      upgrade_named = refl;
      cleared_named = λ empty. tt;
    })).well_made

deleted : NamesSuffice → PutsAreWellMade → AreWellMade first_ledger up_to_delete
unfolding zeros
deleted suffice puts =
    let before = put_once suffice puts in (
      suffice first_ledger (made (Clear 0) []) upgrade_and_put before
          (record { known = omega arith; fields = fields_at content_a 0 0; used = refl }) tt,
      before,
    )

-- the second one
abbrev put_b : Put
put_b = record {
  slot = 0;
  content = content_b;
  extent = 0;
  bytes_names = [];
  pointer_names = 5 ∷ [];
  slot_names = 6 ∷ 4 ∷ 0 ∷ [];
}

put_twice : NamesSuffice → PutsAreWellMade → AreWellMade first_ledger up_to_second_put
unfolding zeros
put_twice suffice puts =
    let at : ((after_all first_ledger up_to_delete).pointer 0).offset ≡ 18 = refl in
    let time : ((after_all first_ledger up_to_delete).pointer 0).generation ≡ 0 = refl in
    let long : length (bytes_put first_ledger up_to_delete put_b) ≡ 6 = refl in
    (puts first_ledger up_to_delete put_b three_valid (deleted suffice puts) (record {
      known = omega arith;
      slot = omega arith;
      content = record { some_key = omega arith; short_key = omega arith; short_value = omega arith };
      generation = omega arith;
      room = omega arith;
      only = λ other t ne there. nowhere (sym there ∙ others_empty other ne up_to_delete refl);
      same_key = λ t there. nowhere (sym there);
      bytes_named = tt;
      pointer_named = λ n from to. only_one 5 n (5 ∷ []) (omega arith) (omega arith) refl;
      slot_named = refl;
      upgrade_named = refl;
      cleared_named = λ empty. refl;
    })).well_made

-- and its move
abbrev move_b : Put
move_b = record {
  slot = 0;
  content = content_b;
  extent = 1;
  bytes_names = [];
  pointer_names = 8 ∷ [];
  slot_names = 9 ∷ 0 ∷ [];
}

moved : NamesSuffice → PutsAreWellMade → AreWellMade first_ledger up_to_move
unfolding zeros
moved suffice puts =
    let at : ((after_all first_ledger up_to_second_put).pointer 1).offset ≡ 0 = refl in
    let time : ((after_all first_ledger up_to_second_put).pointer 1).generation ≡ 0 = refl in
    let long : length (bytes_put first_ledger up_to_second_put move_b) ≡ 9 = refl in
    (puts first_ledger up_to_second_put move_b three_valid (put_twice suffice puts) (record {
      known = omega arith;
      slot = omega arith;
      content = record { some_key = omega arith; short_key = omega arith; short_value = omega arith };
      generation = omega arith;
      room = omega arith;
      only = λ other t ne there. nowhere (sym there ∙ others_empty other ne up_to_second_put refl);
      same_key = λ t there. sym (ap (λ s. s.key) (some_alike {f = fields_at content_b 0 18} {g = t} there));
      bytes_named = tt;
      pointer_named = λ n from to. only_one 8 n (8 ∷ []) (omega arith) (omega arith) refl;
      slot_named = refl;
      upgrade_named = refl;
      cleared_named = λ empty. nowhere empty;
    })).well_made

-- a change of the kind that stands somewhere in the list is kept
kept_at : (P : Ledger → Change → Bool) (keeps : ℕ → Bool) (l : Ledger) (later : List Made) (other : Made)
    (before : List Made)
    → AllKept P keeps l (later ++ other ∷ before) → P (after_all l before) other.change ≡ true
    → keeps (length before) ≡ true
kept_at P keeps l [] other before h t = h.0 t
kept_at P keeps l (x ∷ later) other before h t = kept_at P keeps l later other before h.1 t

-- the test that each change of the kind is kept
abbrev are_kept : (Ledger → Change → Bool) → (ℕ → Bool) → Ledger → List Made → Bool
are_kept P keeps l [] = true
are_kept P keeps l (m ∷ ms) = (not (P (after_all l ms) m.change) || keeps (length ms)) && are_kept P keeps l ms

kept_if : (p k : Bool) → (not p || k) ≡ true → p ≡ true → k ≡ true
kept_if true k h t = h
kept_if false k h t = absurd (cc)

AllKept-from_test : (P : Ledger → Change → Bool) (keeps : ℕ → Bool) (l : Ledger) (ms : List Made)
    → are_kept P keeps l ms ≡ true → AllKept P keeps l ms
AllKept-from_test P keeps l [] h = tt
AllKept-from_test P keeps l (m ∷ ms) h =
    let parts = and_parts (not (P (after_all l ms) m.change) || keeps (length ms)) (are_kept P keeps l ms) h in
    (kept_if (P (after_all l ms) m.change) (keeps (length ms)) parts.0, AllKept-from_test P keeps l ms parts.1)

-- each change that took an entry from extent 0 is named by the reset
takers : AllKept (takes_from 0) (is_among (4 ∷ 10 ∷ [])) first_ledger up_to_move
unfolding zeros
takers = AllKept-from_test (takes_from 0) (is_among (4 ∷ 10 ∷ [])) first_ledger up_to_move refl

reclaimed : NamesSuffice → PutsAreWellMade → AreWellMade first_ledger each_command
unfolding zeros
reclaimed suffice puts =
    let before = moved suffice puts in (
      suffice first_ledger (made (Point 0 1 0) (4 ∷ 10 ∷ [])) up_to_move before
          (record {
            known = omega arith;
            few = omega arith;
            in_extent = omega arith;
            moved = inr (record {
              raised = refl;
              to_start = refl;
              unnamed = λ slot s there. elim (cases_eq slot 0) [
                | inl e ↦
                    let here : Some (fields_at content_b 1 0) ≡ Some s =
                    subst (λ n. (after_all first_ledger up_to_move).slot n ≡ Some s) e there in
                    let at : 1 ≡ s.extent = ap (λ f. f.extent) (some_alike here) in
                    λ bad. absurd (omega arith)
                | inr ne ↦ nowhere (sym there ∙ others_empty slot ne up_to_move refl)
              ];
            });
          })
          (λ at_start other earlier stands taken since.
          kept_at (takes_from 0) (is_among (4 ∷ 10 ∷ [])) first_ledger stands.later other earlier
          (subst (AllKept (takes_from 0) (is_among (4 ∷ 10 ∷ [])) first_ledger) stands.are takers) taken),
      before,
    )

-- changes that are well made over the new disk are those of a store
grown : StoresBegin → StoresGrow → (ms : List Made) → AreWellMade first_ledger ms
    → IsOfStore (run_of ms) first_ledger ms
grown begin grow [] well = begun begin
grown begin grow (m ∷ ms) well = grow (run_of ms) first_ledger m ms (grown begin grow ms well.1) well.0

-- so the laws speak of this execution
pub is_of_store : StoresBegin → StoresGrow → NamesSuffice → PutsAreWellMade
    → IsOfStore (run_of each_command) first_ledger each_command
is_of_store begin grow suffice puts = grown begin grow each_command (reclaimed suffice puts)
