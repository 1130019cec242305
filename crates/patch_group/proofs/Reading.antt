-- The group of a number, as it is kept.
use Rattle.std.proofs.Common.{◌≡◌, ℕ, zero, suc, ◌<◌, ◌≤◌, ◌∙◌, Bool, false, not, List, [], ◌∷◌, Some, None, length, map, get_or, refl, sym, ap, subst, arith}
use Rattle.std.specs.Prelude.{slice_get}
use Rattle.std.proofs.lemmas.List.{length-map}
use Rattle.patch_plans.specs.Groups.{Group, Groups, fresh, group_at, is_open}
use Rattle.patch_group.specs.declared.records.Record.{Record}
use Rattle.patch_group.specs.Records.{group_of}
use Rattle.patch_group.proofs.Keeping.{get_or-map}

past : (xs : List Group) (k : ℕ) → length xs ≤ k → get_or xs k fresh ≡ fresh
past [] k high = refl
past (x ∷ xs) zero high = absurd (omega (arith, high))
past (x ∷ xs) (suc k) high = past xs k (omega (arith, high))

-- what is told of the group at a place of the list
abbrev open_in : List Group → ℕ → Bool
open_in xs k = elim (slice_get xs k) [ Some group ↦ not group.closed | None ↦ false ]

open_there : (xs : List Group) (k : ℕ) → k < length xs → open_in xs k ≡ not (get_or xs k fresh).closed
open_there [] k low = absurd (omega (arith, low))
open_there (x ∷ xs) zero low = refl
open_there (x ∷ xs) (suc k) low = open_there xs k (omega (arith, low))

open_past : (xs : List Group) (k : ℕ) → length xs ≤ k → open_in xs k ≡ false
open_past [] k high = refl
open_past (x ∷ xs) zero high = absurd (omega (arith, high))
open_past (x ∷ xs) (suc k) high = open_past xs k (omega (arith, high))

module _ {A : Type 0} (records seen : List (Record A)) (gs : Groups) (group at : ℕ) (same : seen ≡ records) (view : map group_of records ≡ gs.groups) (named : at ≡ group) where
  reached : group_at gs group ≡ get_or (map group_of seen) at fresh
  reached =
      ap (λ xs. get_or xs group fresh) (sym view) ∙ ap (λ k. get_or (map group_of records) k fresh) (sym named) ∙ ap (λ rs. get_or (map group_of rs) at fresh) (sym same)

  long_as : length gs.groups ≡ length seen
  long_as = ap length (sym view) ∙ length-map records group_of ∙ ap length (sym same)

  pub group_there : (r : Record A) → at < length seen → r ≡ get_or seen at r → group_at gs group ≡ group_of r
  group_there r low is = reached ∙ get_or-map group_of seen at r fresh low ∙ ap group_of (sym is)

  pub group_missing : length seen ≤ at → group_at gs group ≡ fresh
  group_missing high = reached ∙ past (map group_of seen) at (subst (λ n. n ≤ at) (sym (length-map seen group_of)) high)

  pub open_told : (r : Record A) → at < length seen → r ≡ get_or seen at r → not r.closed ≡ is_open gs group
  open_told r low is =
      let known : group < length gs.groups = let long = long_as in omega (arith, long, named, low) in
      sym (open_there gs.groups group known ∙ ap (λ x. not x.closed) (group_there r low is))

  pub shut_told : length seen ≤ at → false ≡ is_open gs group
  shut_told high =
      let far : length gs.groups ≤ group = let long = long_as in omega (arith, long, named, high) in
      sym (open_past gs.groups group far)
