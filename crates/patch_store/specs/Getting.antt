-- The value of a key, as it is read.
use Rattle.std.specs.Prelude.{ℕ, ◌≡◌, ◌+◌, ◌-◌, length, List, Option, None, Result, MatchResult, option_map, Vec}
use Rattle.patch_model.specs.Execution.{Execution}
use Rattle.patch_frame.specs.declared.framing.TheConstants.{KEY_START, OVERHEAD}
use Rattle.patch_frame.specs.declared.geometries.Geometry.{Geometry}
use Rattle.patch_frame.specs.Slot.{SlotFields}
use Rattle.patch_extent.specs.Answers.{cached_bytes}
use Rattle.patch_cache.specs.Refusals.{IsCause}
use Rattle.patch_recovery.specs.Ledger.{value_in}
use Rattle.patch_history.specs.declared.refusals.GetRefusal.{GetRefusal}
use Rattle.patch_history.specs.History.{History, standing_of}
use Rattle.patch_history.specs.Refusals.{get_cause}
use Rattle.patch_history.specs.Refusing.{why_no_key}
use Rattle.patch_store.specs.Meaning.{Store}

-- the value is that of the map of the commands; a key that can't be one is refused
abbrev pub IsGot : {A : Type 0} → History → (key : List ℕ) → Result (Option (Vec ℕ A)) GetRefusal → Type 0
IsGot h key result = MatchResult result
    (λ found. (why_no_key key ≡ None) × (option_map (λ v. v.items) found ≡ value_in (standing_of h).map.entries key))
    (λ refusal. IsCause (why_no_key key) (get_cause refusal))

-- the bytes of the value in the frame that a slot names, as they are cached: they stand behind the key
abbrev pub value_bytes : Geometry → Execution → SlotFields → List ℕ
value_bytes g run f = cached_bytes g run f.extent (f.offset + (KEY_START + length f.key)) (f.length - OVERHEAD - length f.key)

-- where the store's cache has them
abbrev pub value_kept : Store → Execution → SlotFields → List ℕ
value_kept s run f = value_bytes s.shelf.extents.geometry run f
