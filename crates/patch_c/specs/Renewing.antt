-- When a store begins anew behind a sync.
use Rattle.std.specs.Prelude.{ℕ, Bool, ◌≡◌, ◌⊎◌, ◌||◌, nat_lt, length, List, IsTrue}
use Rattle.patch_model.specs.State.{entries_of}
use Rattle.patch_history.specs.History.{History, execution_of, standing_of}
use Rattle.patch_store.specs.Meaning.{Store, IsStoreOf}
use Rattle.patch_store.specs.Renewing.{HasBegunAnew, IsUnderWay}
use Rattle.patch_c.specs.LegalStores.{StandsSomewhere}

-- more than 1,048,576 patches were made, or more than 512 groups
abbrev pub is_worn : History → Bool
is_worn h = nat_lt 1048576 (length (entries_of (execution_of h))) || nat_lt 512 (length (standing_of h).groups.groups)

-- a worn store has begun anew, unless something is under way; any other is as it was
abbrev pub IsRenewed : History → (old new : Store) → Type 0
IsRenewed h old new =
    (IsTrue (is_worn h) × HasBegunAnew h new) ⊎ ((IsTrue (is_worn h) → IsUnderWay h) × (new ≡ old))

-- one that has begun anew stands so again, over the same blocks
abbrev pub RenewalsStay : Type 0
RenewalsStay =
    (spent : Bool) (blocks : List (List ℕ)) (old new : Store) → ∥ StandsSomewhere spent old blocks ∥₁
    → ((h : History) → IsStoreOf old h → HasBegunAnew h new) → ∥ StandsSomewhere spent new blocks ∥₁
