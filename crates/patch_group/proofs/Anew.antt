-- Groups that begin anew.
use Rattle.std.proofs.Common.{◌≡◌, ℕ, Bool, true, false, List, [], ◌∷◌, Some, None, map, refl, ap, arith}
use Rattle.std.specs.Prelude.{◌||◌}
use Rattle.std.specs.List.{list_any}
use Rattle.std.proofs.lemmas.Bool.{both_ways}
use Rattle.patch_model.specs.declared.refusals.RefusalKind.TheVariants as kind
use Rattle.patch_model.specs.Refusing.{bare}
use Rattle.patch_plans.specs.Groups.{Groups, no_groups}
use Rattle.patch_group.specs.Records.{AreSealed, groups_of}
use Rattle.patch_group.specs.Renewing.{is_in_use, why_not_renewed}
use Rattle.patch_group.specs.declared.records.Record.{Record}

-- a test of what each is mapped to
pub any_mapped : {X Y : Type 0} (f : X → Y) (p : Y → Bool) (xs : List X) → list_any p (map f xs) ≡ list_any (λ x. p (f x)) xs
any_mapped f p [] = refl
any_mapped f p (x ∷ xs) = ap (λ b. p (f x) || b) (any_mapped f p xs)

pub in_use : (gs : Groups) → list_any is_in_use gs.groups ≡ true → why_not_renewed gs ≡ Some (bare kind.Live)
in_use gs t = rw t refl

pub not_in_use : (gs : Groups) → list_any is_in_use gs.groups ≡ false → why_not_renewed gs ≡ None
not_in_use gs f = rw f refl

pub none_at_all : {A : Type 0} (groups : List (Record A)) (engaged : List (ℕ × ℕ)) → groups ≡ [] → engaged ≡ [] → groups_of groups engaged ≡ no_groups
none_at_all groups engaged none free = rw (none, free) refl

pub none_sealed : AreSealed no_groups
none_sealed = record { sealed = λ q p h. absurd (none_behind p h); free = λ g t. absurd (both_ways false refl t) }
  where
    none_behind : (p : ℕ) → Rattle.std.specs.List.Contains [] p → ⊥
    none_behind p h = let less = h.1 in absurd (omega arith)
