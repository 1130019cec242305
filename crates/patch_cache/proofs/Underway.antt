-- Writes under way, in the places of their blocks.
use Rattle.std.proofs.Common.{◌≡◌, ℕ, zero, suc, ◌+◌, ◌<◌, List, [], ◌∷◌, length, get_or, set, refl, sym, ap, subst, arith, Option, Some, None, cond}
use Rattle.std.specs.Prelude.{◌==◌, ◌&&◌, IsTrue, Contains, slice_get, count_by, is_some}
use Rattle.std.specs.List.{list_any}
use Rattle.std.proofs.lemmas.Bool.{both_ways, and_parts, eqb-true, eq-eqb}
use Rattle.patch_model.specs.Entry.{Entry, is_flight}
use Rattle.patch_model.specs.Execution.{Execution}
use Rattle.patch_model.specs.Member.{In-from_Contains, Contains-from_In, list_any-from, list_any-at}
use Rattle.patch_model.specs.State.{entries_of, state_of, has_flight}
use Rattle.patch_cache.specs.Meaning.{IsWriteOf}
use Rattle.std.proofs.lemmas.List.Sums.{sum_by-cons}
use Rattle.patch_cache.specs.Contents.{Write}

count_cons : {X : Type 0} (w : Option X) (ws : List (Option X)) → count_by is_some (w ∷ ws) ≡ cond (is_some w) 1 0 + count_by is_some ws
count_cons w ws = sum_by-cons (λ y. cond (is_some y) 1 0) w ws

counted : {X : Type 0} → (w : Option X) (old new : List (Option X)) → count_by is_some new ≡ count_by is_some old + 1 → count_by is_some (w ∷ new) ≡ count_by is_some (w ∷ old) + 1
counted w old new h = rw (count_cons w new, count_cons w old) (omega arith)

-- one more, where none was
pub one_more : {X : Type 0} → (ws : List (Option X)) (i : ℕ) (x : X) → i < length ws → get_or ws i None ≡ None → count_by is_some (set ws i (Some x)) ≡ count_by is_some ws + 1
one_more [] i x within none = absurd (omega arith)
one_more (w ∷ ws) zero x within none = rw (count_cons (Some x) ws, count_cons w ws, none) (omega arith)
one_more (w ∷ ws) (suc i) x within none = counted w ws (set ws i (Some x)) (one_more ws i x (omega arith) none)

-- one less, where one was
pub one_less : {X : Type 0} → (ws : List (Option X)) (i : ℕ) (x : X) → slice_get ws i ≡ Some (Some x) → count_by is_some (set ws i None) + 1 ≡ count_by is_some ws
one_less [] i x at = absurd (cc)
one_less (w ∷ ws) zero x at = let same : w ≡ Some x = cc in rw (count_cons None ws, count_cons w ws, same) (omega arith)
one_less (w ∷ ws) (suc i) x at = sym (counted w (set ws i None) ws (sym (one_less ws i x at)))

-- a flight of the block is that of its write
pub no_stranger : (run : Execution) (w : Option Write) (block number : ℕ) → ((f g : ℕ × ℕ) → Contains (state_of run).flights f → Contains (state_of run).flights g → f.0 ≡ g.0 → f ≡ g)
    → IsWriteOf run block w → ((write : Write) → w ≡ Some write → write.sequence ≡ number → ⊥) → Contains (state_of run).flights (block, number) → ⊥
no_stranger run None block number single still none flies =
    both_ways _ still (list_any-from (λ f. f.0 == block) (state_of run).flights (block, number) (In-from_Contains (state_of run).flights (block, number) flies) (eq-eqb block block refl))
no_stranger run (Some write) block number single here none flies =
    let one : (block, write.sequence) ≡ (block, number) = single (block, write.sequence) (block, number) here.0 flies refl in
    none write refl (ap (λ f. f.1) one)

-- a flight is of a block that there is
pub placed : (run : Execution) (block number : ℕ) → (IsTrue (has_flight (state_of run) block) → IsTrue (list_any (λ e. is_flight e && e.patch.block == block) (entries_of run)))
    → ((e : Entry) → Contains (entries_of run) e → e.patch.block < length run.first) → Contains (state_of run).flights (block, number) → block < length run.first
placed run block number holds known flies =
    let some = holds (list_any-from (λ f. f.0 == block) (state_of run).flights (block, number) (In-from_Contains (state_of run).flights (block, number) flies) (eq-eqb block block refl)) in
    let r = list_any-at (λ e. is_flight e && e.patch.block == block) (entries_of run) some in
    subst (λ n. n < length run.first) (eqb-true r.0.patch.block block (and_parts (is_flight r.0) (r.0.patch.block == block) r.2).1) (known r.0 (Contains-from_In (entries_of run) r.0 r.1))

-- a place with one is counted
pub counted_at : {X : Type 0} → (ws : List (Option X)) (i : ℕ) (x : X) → get_or ws i None ≡ Some x → count_by is_some (set ws i None) + 1 ≡ count_by is_some ws
counted_at [] i x at = absurd (cc)
counted_at (w ∷ ws) zero x at = rw (count_cons None ws, count_cons w ws, at) (omega arith)
counted_at (w ∷ ws) (suc i) x at = sym (counted w (set ws i None) ws (sym (counted_at ws i x at)))
