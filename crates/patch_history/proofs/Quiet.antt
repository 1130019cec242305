-- Changes that leave the map as it is.
use Rattle.std.proofs.Common.{◌≡◌, ℕ, zero, suc, ◌+◌, ◌∙◌, true, List, [], ◌∷◌, ◌++◌, map, Option}
use Rattle.std.proofs.Common.{refl}
use Rattle.std.specs.Prelude.{take}
use Rattle.patch_recovery.specs.Change.{Change, Data, Point, Fill, Clear, Widen, Made}
use Rattle.patch_recovery.specs.Ledger.{Ledger, after, after_all}
use Rattle.patch_recovery.specs.Said.{last_said}
use Rattle.patch_plans.specs.Groups.{Groups, with_patch}
use Rattle.patch_plans.specs.Writing.{named_plan}
use Rattle.patch_history.specs.StoreState.{onto}

-- each key has what it had, and the disk is divided as it was
pub record IsQuiet (first : Ledger) (made : List Made) (m : Made) : Type 0 where
  pub said : (key : List ℕ)
      → last_said (λ number. true) first (m ∷ made) key ≡ last_said (λ number. true) first made key
  pub geometry : (after (after_all first made) m.change).geometry ≡ (after_all first made).geometry

abbrev pub AllQuiet : Ledger → List Made → List Made → Type 0
AllQuiet first made [] = Unit {0}
AllQuiet first made (m ∷ plan) = IsQuiet first made m × AllQuiet first (m ∷ made) plan

pub quiet_take : (first : Ledger) (k : ℕ) (plan made : List Made) → AllQuiet first made plan
    → AllQuiet first made (take k plan)
quiet_take first zero plan made q = tt
quiet_take first (suc k) [] made q = tt
quiet_take first (suc k) (m ∷ plan) made q = (q.0, quiet_take first k plan (m ∷ made) q.1)

pub quiet_append : (first : Ledger) (p q made : List Made) → AllQuiet first made p → AllQuiet first (onto p made) q
    → AllQuiet first made (p ++ q)
quiet_append first [] q made h k = k
quiet_append first (m ∷ p) q made h k = (h.0, quiet_append first p q (m ∷ made) h.1 k)

pub quiet_said : (first : Ledger) (plan made : List Made) (key : List ℕ) → AllQuiet first made plan
    → last_said (λ number. true) first (onto plan made) key ≡ last_said (λ number. true) first made key
quiet_said first [] made key q = refl
quiet_said first (m ∷ plan) made key q = quiet_said first plan (m ∷ made) key q.1 ∙ q.0.said key

pub quiet_geometry : (first : Ledger) (plan made : List Made) → AllQuiet first made plan
    → (after_all first (onto plan made)).geometry ≡ (after_all first made).geometry
quiet_geometry first [] made q = refl
quiet_geometry first (m ∷ plan) made q = quiet_geometry first plan (m ∷ made) q.1 ∙ q.0.geometry

-- Bytes and pointers say nothing of a key, whatever was made before.

abbrev pub IsSilent : Change → Type 0
IsSilent (Data extent offset bytes) = Unit {0}
IsSilent (Point extent generation offset) = Unit {0}
IsSilent (Fill slot s) = ⊥
IsSilent (Clear slot) = ⊥
IsSilent Widen = ⊥

silent_said : (first : Ledger) (made : List Made) (c : Change) (names : List ℕ) → IsSilent c
    → IsQuiet first made (record { change = c; after = names })
silent_said first made (Data extent offset bytes) names h = record { said = λ key. refl; geometry = refl }
silent_said first made (Point extent generation offset) names h = record { said = λ key. refl; geometry = refl }
silent_said first made (Fill slot s) names h = absurd h
silent_said first made (Clear slot) names h = absurd h
silent_said first made Widen names h = absurd h

abbrev pub AllSilent : List Made → Type 0
AllSilent [] = Unit {0}
AllSilent (m ∷ plan) = IsSilent m.change × AllSilent plan

pub silent_quiet : (first : Ledger) (plan made : List Made) → AllSilent plan → AllQuiet first made plan
silent_quiet first [] made h = tt
silent_quiet first (m ∷ plan) made h =
    (silent_said first made m.change m.after h.0, silent_quiet first plan (m ∷ made) h.1)

pub silent_append : (p q : List Made) → AllSilent p → AllSilent q → AllSilent (p ++ q)
silent_append [] q h k = k
silent_append (m ∷ p) q h k = (h.0, silent_append p q h.1 k)

pub silent_take : (k : ℕ) (p : List Made) → AllSilent p → AllSilent (take k p)
silent_take zero p h = tt
silent_take (suc k) [] h = tt
silent_take (suc k) (m ∷ p) h = (h.0, silent_take k p h.1)

pub silent_named : (gs : Groups) (w : Option ℕ) (n : ℕ) (p : List Made) → AllSilent p → AllSilent (named_plan gs w n p)
silent_named gs w n [] h = tt
silent_named gs w n (m ∷ p) h = (h.0, silent_named (with_patch gs w n) w (n + 1) p h.1)

pub silent_changes : (names : List ℕ) (f : ℕ → Change) (xs : List ℕ) → ((x : ℕ) → IsSilent (f x))
    → AllSilent (map (λ k. record { change = f k; after = names }) xs)
silent_changes names f [] h = tt
silent_changes names f (x ∷ xs) h = (h x, silent_changes names f xs h)
