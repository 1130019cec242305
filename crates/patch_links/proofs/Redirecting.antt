-- Numbers that lead to another key.
use Rattle.std.proofs.Common.{◌≡◌, ℕ, zero, suc, ◌+◌, ◌<◌, ◌∙◌, inl, inr, Bool, true, false, List, [], ◌∷◌, length, refl, sym, ap, arith, subst, Option, Some, None, take}
use Rattle.std.specs.Prelude.{◌==◌, ◌≢◌, ◌||◌, slice_index_or, if◌then◌else◌}
use Rattle.std.specs.Option.{option_map}
use Rattle.std.proofs.lemmas.Bool.{cases_Bool, cases_eq, eq-eqb, ne_eqb, or_right}
use Rattle.std.proofs.lemmas.List.{take_all}
use Rattle.patch_model.specs.Entry.{is_among}
use Rattle.patch_links.specs.State.{Numbers, find}
use Rattle.patch_links.specs.Merging.{AreRedirected}

among-more : (xs : List ℕ) (i m n : ℕ) → i < length xs → slice_index_or xs i 0 ≡ m → is_among (take (suc i) xs) n ≡ (is_among (take i xs) n || m == n)
among-more [] i m n h at = absurd (omega arith)
among-more (x ∷ xs) zero m n h at = ap (λ y. y == n || false) at ∙ none (m == n)
  where
    none : (b : Bool) → (b || false) ≡ b
    none true = refl
    none false = refl
among-more (x ∷ xs) (suc i) m n h at = elim (cases_Bool (x == n)) [
  | inl t ↦ ap (λ b. b || is_among (take (suc i) xs) n) t ∙ sym (ap (λ b. b || is_among (take i xs) n || m == n) t)
  | inr t ↦ ap (λ b. b || is_among (take (suc i) xs) n) t ∙ among-more xs i m n (omega arith) at ∙ sym (ap (λ b. b || is_among (take i xs) n || m == n) t)
]

turned-twice : (key : ℕ) (b : Bool) (o : Option ℕ) → option_map (λ k. key) (if b then option_map (λ k. key) o else o) ≡ option_map (λ k. key) o
turned-twice key true None = refl
turned-twice key true (Some k) = refl
turned-twice key false o = refl

-- one more of them leads there
pub redirected-more : (members : List ℕ) (key : ℕ) (old mid new : Numbers) (i m : ℕ) → i < length members → slice_index_or members i 0 ≡ m → AreRedirected (take i members) key old mid
    → find new m ≡ option_map (λ k. key) (find mid m) → ((n : ℕ) → n ≢ m → find new n ≡ find mid n) → AreRedirected (take (i + 1) members) key old new
redirected-more members key old mid new i m h at p here others = subst (λ j. AreRedirected (take j members) key old new) (let e : suc i ≡ i + 1 = omega arith in e) (λ n. elim (cases_eq m n) [
  | inl e ↦
      let among : is_among (take (suc i) members) n ≡ true = among-more members i m n h at ∙ or_right (is_among (take i members) n) _ (eq-eqb m n e) in
      ap (find new) (sym e) ∙ here ∙ ap (λ k. option_map (λ j. key) (find mid k)) e ∙ ap (option_map (λ k. key)) (p n) ∙ turned-twice key (is_among (take i members) n) (find old n)
      ∙ sym (ap (λ b. if b then option_map (λ k. key) (find old n) else find old n) among)
  | inr d ↦ others n (λ e. d (sym e)) ∙ p n ∙ sym (ap (λ b. if b then option_map (λ k. key) (find old n) else find old n) (among-more members i m n h at ∙ ap (λ b. is_among (take i members) n || b) (ne_eqb m n d) ∙ none (is_among (take i members) n)))
])
  where
    none : (b : Bool) → (b || false) ≡ b
    none true = refl
    none false = refl

pub redirected-all : (members : List ℕ) (key : ℕ) (old new : Numbers) (i : ℕ) → length members ≡ i → AreRedirected (take i members) key old new → AreRedirected members key old new
redirected-all members key old new i all p = subst (λ ms. AreRedirected ms key old new) (take_all i members (omega arith)) p
