-- How a survey grows, slot by slot.
use Rattle.std.proofs.Common.{◌≡◌, ℕ, ◌∙◌, inl, inr, List, [], ◌∷◌, ◌++◌, Option, Some, None, refl, sym, ap, subst}
use Rattle.std.specs.Prelude.{◌+◌, Result, Ok, Err, MatchOption, option_map, option_and_then, slice_range}
use Rattle.patch_frame.specs.declared.faults.FrameFault.{FrameFault}
use Rattle.patch_frame.specs.declared.geometries.Geometry.{Geometry}
use Rattle.patch_frame.specs.Geometry.{longest_frame}
use Rattle.patch_frame.specs.Slot.{SlotFields, slot_at}
use Rattle.patch_recovery.specs.Reading.{Fault, reading, read_as}
use Rattle.patch_model.specs.declared.refusals.Refusal.{Refusal}
use Rattle.patch_history.specs.Refusals.{fault_of, open_cause}
use Rattle.patch_history.specs.declared.refusals.OpenFault.{OpenFault}
use Rattle.patch_history.specs.declared.refusals.OpenFault.TheVariants as opening
use Rattle.patch_disks.specs.Stopping.{TellsTest}
use Rattle.patch_disks.specs.declared.endings.Stop.{Stop}
use Rattle.patch_disks.specs.declared.endings.Stop.TheVariants as stop
use Rattle.patch_disks.specs.Surveying.{slot_in, key_named, key_under, without_slot, IsBad, AreBad}
use Rattle.patch_disks.specs.declared.surveying.BadSlot.{BadSlot}

-- the first block says nothing
pub under_none : (r : Result Geometry FrameFault) (fault : FrameFault) (start : ℕ) (block : List ℕ) → r ≡ Err fault → None ≡ key_under r start block
under_none r fault start block is = sym (ap (λ x. key_under x start block) is)

-- the slot's bytes are read so
pub under_said : (r : Result Geometry FrameFault) (g : Geometry) (longest start : ℕ) (block bytes : List ℕ) (said : Result (Option SlotFields) FrameFault)
    → r ≡ Ok g → longest ≡ longest_frame g.format → bytes ≡ slice_range block start (start + 64) → slot_at longest bytes ≡ said
    → option_map (λ s. s.key) (read_as said) ≡ key_under r start block
under_said r g longest start block bytes said is longest_is bytes_are says =
    sym (ap (λ x. key_under x start block) is
    ∙ ap (λ x. option_map (λ s. s.key) (read_as x)) (ap (λ l. slot_at l (slice_range block start (start + 64))) (sym longest_is)
    ∙ ap (slot_at longest) (sym bytes_are) ∙ says))

-- Why a disk is refused, where that names a slot.

abbrev refusal_in : Refusal → Stop → Refusal
refusal_in other stop.Read = other
refusal_in other stop.Write = other
refusal_in other (stop.Refused why) = why

by_test : (blocks : List (List ℕ)) (slot : ℕ) (bad : BadSlot) (fault : OpenFault) (test : Option Fault) → fault_of fault ≡ test
    → MatchOption test (Unit {0}) (λ first. reading blocks ≡ Err first) → Some slot ≡ option_and_then slot_in test → bad.why ≡ open_cause fault
    → bad.key ≡ key_named blocks slot → IsBad blocks slot bad
by_test blocks slot bad fault None is refused names told key_is = absurd (cc)
by_test blocks slot bad fault (Some test) is refused names told key_is =
    record { test = test; refused = refused; names = sym names; fault = fault; is_of = is; told = told; key_is = key_is }

pub bad_so : (blocks : List (List ℕ)) (slot : ℕ) (bad : BadSlot) → TellsTest blocks (stop.Refused bad.why)
    → ((fault : OpenFault) → bad.why ≡ open_cause fault → Some slot ≡ option_and_then slot_in (fault_of fault))
    → bad.key ≡ key_named blocks slot → IsBad blocks slot bad
bad_so blocks slot bad (inl (inl starved)) names key_is =
    let none : Some slot ≡ None = names opening.OutOfMemory (ap (refusal_in bad.why) starved) in absurd (cc)
bad_so blocks slot bad (inl (inr count)) names key_is =
    let none : Some slot ≡ None = names opening.FileSize (ap (refusal_in bad.why) count.0) in absurd (cc)
bad_so blocks slot bad (inr test) names key_is =
    let told = ap (refusal_in bad.why) test.1 in
    by_test blocks slot bad test.0 (fault_of test.0) refl test.2 (names test.0 told) told key_is

-- one slot more
pub bad_more : (blocks left later : List (List ℕ)) (bad : List BadSlot) (one : BadSlot) (slot : ℕ) → AreBad blocks bad left → IsBad left slot one
    → later ≡ without_slot left slot → AreBad blocks (bad ++ one ∷ []) later
bad_more blocks left later [] one slot so_far is after =
    (slot, subst (λ x. IsBad x slot one) so_far is, after ∙ ap (λ x. without_slot x slot) so_far)
bad_more blocks left later (other ∷ bad) one slot so_far is after =
    (so_far.0, so_far.1, bad_more (without_slot blocks so_far.0) left later bad one slot so_far.2 is after)
