-- Two classes merge, and a write begins, just where no cause of a refusal holds.
use Rattle.std.proofs.Common.{◌≡◌, ◌≢◌, ℕ, zero, suc, ◌<◌, inl, inr, true, false, None, List, [], ◌∷◌, length, refl, ap, arith}
use Rattle.std.specs.Prelude.{◌==◌, ◌||◌, not, nat_le, ◌↔◌}
use Rattle.std.proofs.lemmas.Bool.{cases_Bool, and_parts, and_from, not-true, not-false}
use Rattle.std.proofs.lemmas.Bool.Decides.{nat_tests}
use Rattle.std.proofs.lemmas.List.{nil_from_length}
use Rattle.patch_model.specs.Step.{Send}
use Rattle.patch_model.specs.Execution.{Execution}
use Rattle.patch_model.specs.Entry.{Entry, is_memory}
use Rattle.patch_model.specs.Ready.{ready}
use Rattle.patch_model.specs.State.{class_of, has_flight, state_of, entries_of}
use Rattle.patch_model.specs.Legal.{IsLegalStep, IsLegalMerge, is_undoable_at, block_of_patch, touch}
use Rattle.patch_model.specs.Refusing.{why_no_pair, why_not_sent, is_memory_at, is_hard_at, IsBetween}
use Rattle.patch_model.proofs.Making.{passed}

undoable-from : (all : List Entry) (n : ℕ) → is_memory_at all n ≡ true → is_hard_at all n ≡ false → is_undoable_at all n ≡ true
undoable-from [] n m h = m
undoable-from (x ∷ xs) zero m h = and_from (is_memory x) (not x.hard) m (rw h refl)
undoable-from (x ∷ xs) (suc n) m h = undoable-from xs n m h

-- a patch that was made, is in memory, and isn't hard
record IsSoftAt (all : List Entry) (n : ℕ) : Type 0 where
  made : n < length all
  memory : is_memory_at all n ≡ true
  soft : is_hard_at all n ≡ false

soft-from : (all : List Entry) (n : ℕ) → is_undoable_at all n ≡ true → IsSoftAt all n
soft-from [] n h = absurd (let bad : false ≡ true = h in cc)
soft-from (x ∷ xs) zero h = let p = and_parts (is_memory x) (not x.hard) h in record { made = omega arith; memory = p.0; soft = not-true x.hard p.1 }
soft-from (x ∷ xs) (suc n) h = let r = soft-from xs n h in let less : n < length xs = r.made in record { made = omega arith; memory = r.memory; soft = r.soft }

pub pair_is_legal : (all : List Entry) (a b : ℕ) → why_no_pair all a b ≡ None → ((c : ℕ) → IsBetween all a b c → ⊥) → IsLegalMerge all a b
pair_is_legal all a b h none =
    let known = passed (nat_le (length all) a || nat_le (length all) b) _ _ h in
    let memory_a = passed (not (is_memory_at all a)) _ _ known.1 in
    let memory_b = passed (not (is_memory_at all b)) _ _ memory_a.1 in
    let two = passed (class_of all a == class_of all b) _ _ memory_b.1 in
    let block = passed (not (block_of_patch all a == block_of_patch all b)) _ _ two.1 in
    let hard_a = passed (is_hard_at all a) _ _ block.1 in
    let hard_b = passed (is_hard_at all b) _ _ hard_a.1 in
    let near = passed (not (touch all (class_of all a) (class_of all b))) _ _ hard_b.1 in
    record {
      undoable_a = undoable-from all a (not-false (is_memory_at all a) memory_a.0) hard_a.0;
      undoable_b = undoable-from all b (not-false (is_memory_at all b) memory_b.0) hard_b.0;
      two = grind (arith, nat_tests, two.0);
      one_block = (let same : (block_of_patch all a == block_of_patch all b) ≡ true = not-false (block_of_patch all a == block_of_patch all b) block.0 in grind (arith, nat_tests));
      near = not-false (touch all (class_of all a) (class_of all b)) near.0;
      none_between = none;
    }

pub legal_is_pair : (all : List Entry) (a b : ℕ) → IsLegalMerge all a b → why_no_pair all a b ≡ None
legal_is_pair all a b l =
    let x = soft-from all a l.undoable_a in
    let y = soft-from all b l.undoable_b in
    let made_a : nat_le (length all) a ≡ false = let less : a < length all = x.made in grind (arith, nat_tests) in
    let made_b : nat_le (length all) b ≡ false = let less : b < length all = y.made in grind (arith, nat_tests) in
    let two : (class_of all a == class_of all b) ≡ false = let ne : class_of all a ≢ class_of all b = l.two in grind (arith, nat_tests) in
    let block : (block_of_patch all a == block_of_patch all b) ≡ true = let same : block_of_patch all a ≡ block_of_patch all b = l.one_block in grind (arith, nat_tests) in
    let near : touch all (class_of all a) (class_of all b) ≡ true = l.near in
    let memory_a : is_memory_at all a ≡ true = x.memory in
    let memory_b : is_memory_at all b ≡ true = y.memory in
    let soft_a : is_hard_at all a ≡ false = x.soft in
    let soft_b : is_hard_at all b ≡ false = y.soft in
    rw (made_a, made_b, memory_a, memory_b, two, block, soft_a, soft_b, near) refl

pub near_or_legal : (all : List Entry) (a b : ℕ) → ((why_no_pair all a b ≡ None) × ((c : ℕ) → IsBetween all a b c → ⊥)) ↔ IsLegalMerge all a b
near_or_legal all a b = (λ h. pair_is_legal all a b h.0 h.1, λ l. (legal_is_pair all a b l, l.none_between))

sent_is_legal : (run : Execution) (block : ℕ) → why_not_sent run block ≡ None → (block < length run.first) × IsLegalStep (length run.first) (state_of run) (Send block)
sent_is_legal run block h =
    let known = passed (nat_le (length run.first) block) _ _ h in
    let still = passed (has_flight (state_of run) block) _ _ known.1 in
    let some = passed (length (ready (entries_of run) block) == 0) _ _ still.1 in
    (grind (arith, nat_tests, known.0), (still.0, λ none. (let zero_long : length (ready (entries_of run) block) ≡ 0 = ap length none in grind (arith, nat_tests, some.0))))

legal_is_sent : (run : Execution) (block : ℕ) → block < length run.first → IsLegalStep (length run.first) (state_of run) (Send block) → why_not_sent run block ≡ None
legal_is_sent run block there l =
    let known : nat_le (length run.first) block ≡ false = grind (arith, nat_tests) in
    let still : has_flight (state_of run) block ≡ false = l.0 in
    let some : (length (ready (entries_of run) block) == 0) ≡ false = elim (cases_Bool (length (ready (entries_of run) block) == 0)) [
      | inl u ↦ absurd (l.1 (nil_from_length (ready (entries_of run) block) (grind (arith, nat_tests, u))))
      | inr u ↦ u
    ] in
    rw (known, still, some) refl

pub sent_or_legal : (run : Execution) (block : ℕ) → (why_not_sent run block ≡ None) ↔ ((block < length run.first) × IsLegalStep (length run.first) (state_of run) (Send block))
sent_or_legal run block = (λ h. sent_is_legal run block h, λ l. legal_is_sent run block l.0 l.1)
