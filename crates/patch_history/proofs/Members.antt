-- Members of lists, and numbers of ranges.
use Rattle.std.proofs.Common.{◌≡◌, ℕ, zero, suc, ◌+◌, ◌<◌, ◌≤◌, ◌⊎◌, inl, inr, List, [], ◌∷◌, ◌++◌, Some, arith}
use Rattle.std.specs.List.{range_with_len}
use Rattle.patch_frame.specs.Slot.{SlotFields}
use Rattle.patch_recovery.specs.Change.{Made}
use Rattle.patch_model.specs.Member.{In}

-- a member of the first part of a list
pub In-left : {X : Type 0} (xs ys : List X) (x : X) → In xs x → In (xs ++ ys) x
In-left [] ys x h = absurd h
In-left (z ∷ zs) ys x (inl e) = inl e
In-left (z ∷ zs) ys x (inr h) = inr (In-left zs ys x h)

-- and one of the second
pub In-right : {X : Type 0} (xs ys : List X) (x : X) → In ys x → In (xs ++ ys) x
In-right [] ys x h = h
In-right (z ∷ zs) ys x h = inr (In-right zs ys x h)

-- a member of two lists is one of either
pub In-append : {X : Type 0} (xs ys : List X) (x : X) → In (xs ++ ys) x → In xs x ⊎ In ys x
In-append [] ys x h = inr h
In-append (z ∷ zs) ys x (inl e) = inl (inl e)
In-append (z ∷ zs) ys x (inr h) = elim (In-append zs ys x h) [ inl a ↦ inl (inr a) | inr b ↦ inr b ]

-- a number of a range
pub from_range : (a k s : ℕ) → In (range_with_len a k) s → (a ≤ s) × (s < a + k)
from_range a zero s h = absurd h
from_range a (suc k) s (inl e) = (omega arith, omega arith)
from_range a (suc k) s (inr h) =
    let r = from_range (a + 1) k s h in
    let low = r.0 in
    let high = r.1 in
    (omega arith, omega arith)

-- what there is is one thing
pub some_number : (x y : ℕ) → Some x ≡ Some y → x ≡ y
some_number x y h = cc

pub some_fields : (f g : SlotFields) → Some f ≡ Some g → f ≡ g
some_fields f g h = cc

pub some_plan : (p q : List Made) → Some p ≡ Some q → p ≡ q
some_plan p q h = cc
