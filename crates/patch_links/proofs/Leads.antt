-- Which key a number leads to, by the map's entries.
use Rattle.std.proofs.Common.{◌≡◌, ℕ, Bool, true, false, ◌∙◌, ◌<◌, List, [], ◌∷◌, refl, sym, ap, subst, Option, None, Some, cond, filter, ◌⊎◌, inl, inr, true≢false}
use Rattle.std.specs.Prelude.{nat_eq, is_some, IsSome, Result, Ok, Err, IsOk, OnOk, OnErr}
use Rattle.std.specs.List.{AllByRecursion, IsDistinct}
use Rattle.std.specs.Map.{lookup, keys_of}
use Rattle.std.proofs.lemmas.Bool.{eqb-true}
use Rattle.patch_links.specs.State.{Numbers, find}
use Rattle.patch_links.specs.Keys.{live_of, led_to}

absent : (m : ℕ) (es : List (ℕ × Option ℕ)) → AllByRecursion (λ y. nat_eq m y ≡ false) (keys_of es) → lookup (nat_eq m) es ≡ None
absent m [] h = refl
absent m (e ∷ es) h = ap (λ b. cond b (Some e.1) (lookup (nat_eq m) es)) h.0 ∙ absent m es h.1

-- a number leads where the map says
pub led : (n : ℕ) (es : List (ℕ × Option ℕ)) → IsDistinct nat_eq (keys_of es) → find (live_of es) n ≡ led_to (lookup (nat_eq n) es)
unfolding IsDistinct
led n [] d = refl
led n ((m, None) ∷ es) d = by (nat_eq n m) refl (led n es d.1)
  where
    by : (b : Bool) → nat_eq n m ≡ b → find (live_of es) n ≡ led_to (lookup (nat_eq n) es) → find (live_of es) n ≡ led_to (cond (nat_eq n m) (Some None) (lookup (nat_eq n) es))
    by true u h = h ∙ ap led_to (subst (λ k. lookup (nat_eq k) es ≡ None) (sym (eqb-true n m u)) (absent m es d.0)) ∙ sym (ap (λ b. led_to (cond b (Some None) (lookup (nat_eq n) es))) u)
    by false u h = h ∙ sym (ap (λ b. led_to (cond b (Some None) (lookup (nat_eq n) es))) u)
led n ((m, Some k) ∷ es) d = by (nat_eq n m) refl (led n es d.1)
  where
    by : (b : Bool) → nat_eq n m ≡ b → find (live_of es) n ≡ led_to (lookup (nat_eq n) es) → cond (nat_eq n m) (Some k) (find (live_of es) n) ≡ led_to (cond (nat_eq n m) (Some (Some k)) (lookup (nat_eq n) es))
    by true u h = ap (λ b. cond b (Some k) (find (live_of es) n)) u ∙ sym (ap (λ b. led_to (cond b (Some (Some k)) (lookup (nat_eq n) es))) u)
    by false u h = ap (λ b. cond b (Some k) (find (live_of es) n)) u ∙ h ∙ sym (ap (λ b. led_to (cond b (Some (Some k)) (lookup (nat_eq n) es))) u)

-- those that lead nowhere are no matter
swept : (es : List (ℕ × Option ℕ)) → live_of (filter (λ e. is_some e.1) es) ≡ live_of es
swept [] = refl
swept ((m, None) ∷ es) = swept es
swept ((m, Some k) ∷ es) = ap (λ all. (m, k) ∷ all) (swept es)

pub swept_to : (es kept : List (ℕ × Option ℕ)) → kept ≡ filter (λ e. is_some e.1) es → live_of kept ≡ live_of es
swept_to es kept e = ap live_of e ∙ swept es

-- nor for how low a number leads anywhere
pub swept_below : (lowest : ℕ) (es kept : List (ℕ × Option ℕ)) → kept ≡ filter (λ e. is_some e.1) es
    → ((n : ℕ) → n < lowest → find (live_of es) n ≡ None) → (n : ℕ) → n < lowest → find (live_of kept) n ≡ None
swept_below lowest es kept e none n less = ap (λ all. find all n) (swept_to es kept e) ∙ none n less

-- what is so where it went well, if it can't have gone wrong
pub done : {A B U N W : Type 0} (r : Result A B) → OnOk r U → OnErr r N → (W → IsOk r) → (W ⊎ (N → ⊥)) → U
done (Ok x) u n s w = u
done (Err x) u n s (inl w) = absurd (true≢false (sym (s w)))
done (Err x) u n s (inr f) = absurd (f n)

-- a number leads where it was put
pub led_here : (n : ℕ) (key : Option ℕ) (es : List (ℕ × Option ℕ)) → IsDistinct nat_eq (keys_of es) → lookup (nat_eq n) es ≡ Some key → find (live_of es) n ≡ key
led_here n key es d h = led n es d ∙ ap led_to h

-- and where it did, where the map says of it what it said
pub led_others : (n : ℕ) (es fs : List (ℕ × Option ℕ)) → IsDistinct nat_eq (keys_of es) → IsDistinct nat_eq (keys_of fs) → lookup (nat_eq n) fs ≡ lookup (nat_eq n) es → find (live_of fs) n ≡ find (live_of es) n
led_others n es fs d f h = led n fs f ∙ ap led_to h ∙ sym (led n es d)

-- there is room, or the map has the number
pub may_fail : {W : Type 0} (numbers : Numbers) (n : ℕ) (es : List (ℕ × Option ℕ)) → IsDistinct nat_eq (keys_of es) → numbers ≡ live_of es → W ⊎ IsSome (find numbers n) → W ⊎ (lookup (nat_eq n) es ≡ None → ⊥)
may_fail numbers n es d e (inl w) = inl w
may_fail numbers n es d e (inr h) = inr (λ none. true≢false (sym (subst IsSome (ap (λ all. find all n) e ∙ led n es d ∙ ap led_to none) h)))
