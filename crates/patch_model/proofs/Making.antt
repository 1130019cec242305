-- A patch is made just where no cause of a refusal holds.
use Rattle.std.proofs.Common.{◌≡◌, ℕ, ◌+◌, ◌<◌, ◌≤◌, inl, inr, Bool, true, false, Option, Some, None, List, [], ◌∷◌, length, refl, arith}
use Rattle.std.specs.Prelude.{nat_lt, nat_le, ◌==◌, count_by, cond}
use Rattle.std.specs.List.{AllByRecursion, list_any}
use Rattle.std.proofs.lemmas.Bool.{cases_Bool}
use Rattle.std.proofs.lemmas.Bool.Decides.{nat_tests}
use Rattle.std.proofs.lemmas.List.Elements.{All-from_recursion, recursion_from_All}
use Rattle.patch_model.specs.declared.blocks.TheConstants.{BLOCK}
use Rattle.patch_model.specs.declared.limits.TheConstants.{MAX_PATCHES, MAX_LIVE}
use Rattle.patch_model.specs.declared.refusals.Refusal.{Refusal}
use Rattle.patch_model.specs.Entry.{Entry, is_live}
use Rattle.patch_model.specs.Legal.{IsLegalCreate}
use Rattle.patch_model.specs.Refusing.{why_not_made}

-- the one of two that a test doesn't choose
pub passed : (b : Bool) (r : Refusal) (rest : Option Refusal) → cond b (Some r) rest ≡ None → (b ≡ false) × (rest ≡ None)
passed true r rest h = absurd (cc)
passed false r rest h = (refl, h)

none_from : (n : ℕ) (after : List ℕ) → list_any (λ k. nat_le n k) after ≡ false → AllByRecursion (λ k. k < n) after
none_from n [] h = tt
none_from n (k ∷ ks) h = elim (cases_Bool (nat_le n k)) [
  | inl u ↦ absurd (let bad : true ≡ false = rw u at h in cc)
  | inr u ↦ (let less : k < n = grind (arith, nat_tests) in less, none_from n ks (rw u at h))
]

none_to : (n : ℕ) (after : List ℕ) → AllByRecursion (λ k. k < n) after → list_any (λ k. nat_le n k) after ≡ false
none_to n [] h = refl
none_to n (k ∷ ks) h = let less : k < n = h.0 in let off : nat_le n k ≡ false = grind (arith, nat_tests) in rw off (none_to n ks h.1)

pub made_is_legal : (blocks block start : ℕ) (all : List Entry) (bytes after : List ℕ) → why_not_made blocks all block start bytes after ≡ None → IsLegalCreate blocks all block start bytes after
made_is_legal blocks block start all bytes after h =
    let a = passed (nat_le blocks block) _ _ h in
    let b = passed (length bytes == 0) _ _ a.1 in
    let c = passed (nat_lt BLOCK (start + length bytes)) _ _ b.1 in
    let d = passed (list_any (λ n. nat_le (length all) n) after) _ _ c.1 in
    let e = passed (nat_le MAX_PATCHES (length all)) _ _ d.1 in
    let f = passed (nat_le MAX_LIVE (count_by is_live all)) _ _ e.1 in
    record {
      known = grind (arith, nat_tests, a.0);
      some = grind (arith, nat_tests, b.0);
      fits = grind (arith, nat_tests, c.0);
      made = All-from_recursion (λ n. n < length all) after (none_from (length all) after d.0);
      numbers_left = grind (arith, nat_tests, e.0);
      room = grind (arith, nat_tests, f.0);
    }

pub legal_is_made : (blocks block start : ℕ) (all : List Entry) (bytes after : List ℕ) → IsLegalCreate blocks all block start bytes after → why_not_made blocks all block start bytes after ≡ None
legal_is_made blocks block start all bytes after l =
    let a : nat_le blocks block ≡ false = let h : block < blocks = l.known in grind (arith, nat_tests) in
    let b : (length bytes == 0) ≡ false = let h : 0 < length bytes = l.some in grind (arith, nat_tests) in
    let c : nat_lt BLOCK (start + length bytes) ≡ false = let h : start + length bytes ≤ BLOCK = l.fits in grind (arith, nat_tests) in
    let d : list_any (λ n. nat_le (length all) n) after ≡ false = none_to (length all) after (recursion_from_All (λ n. n < length all) after l.made) in
    let e : nat_le MAX_PATCHES (length all) ≡ false = let h : length all < MAX_PATCHES = l.numbers_left in grind (arith, nat_tests) in
    let f : nat_le MAX_LIVE (count_by is_live all) ≡ false = let h : count_by is_live all < MAX_LIVE = l.room in grind (arith, nat_tests) in
    rw (a, b, c, d, e, f) refl
