-- Lemmas: plans one after another.
use Rattle.std.proofs.Common.{◌≡◌, ℕ, zero, suc, ◌+◌, List, [], ◌∷◌, ◌++◌, length, Bool, true, false, refl, sym, ap, ◌∙◌, arith}
use Rattle.std.proofs.lemmas.List.{append_assoc}
use Rattle.std.specs.Prelude.{Option, option_to_list, replicate}
use Rattle.patch_plans.specs.Groups.{Groups, named, with_patch}
use Rattle.patch_recovery.specs.Change.{Made, step_of}
use Rattle.patch_plans.specs.Extents.{Extents}
use Rattle.patch_plans.specs.Writing.{after_change, after_plan, with_patches, named_plan, Written, written, steps_by, steps_of, merge_behind}

+-suc : (n k : ℕ) → (n + 1) + k ≡ n + suc k
+-suc n k = omega arith

pub after_plan-++ : (s : Extents) (n : ℕ) (p q : List Made) → after_plan s n (p ++ q) ≡ after_plan (after_plan s n p) (n + length p) q
after_plan-++ s n [] q = let e : n + 0 ≡ n = omega arith in rw e refl
after_plan-++ s n (m ∷ p) q = let e = +-suc n (length p) in after_plan-++ (after_change s n m.change) (n + 1) p q ∙ ap (λ k. after_plan (after_plan (after_change s n m.change) (n + 1) p) k q) e

pub with_patches-+ : (gs : Groups) (w : Option ℕ) (n j k : ℕ) → with_patches gs w n (j + k) ≡ with_patches (with_patches gs w n j) w (n + j) k
with_patches-+ gs w n zero k = let e : n + 0 ≡ n = omega arith in let f : 0 + k ≡ k = omega arith in rw (e, f) refl
with_patches-+ gs w n (suc j) k =
    let e = +-suc n j in
    let f : suc j + k ≡ suc (j + k) = omega arith in
    ap (with_patches gs w n) f ∙ with_patches-+ (with_patch gs w n) w (n + 1) j k ∙ ap (λ i. with_patches (with_patches (with_patch gs w n) w (n + 1) j) w i k) e

pub named_plan-++ : (gs : Groups) (w : Option ℕ) (n : ℕ) (p q : List Made) → named_plan gs w n (p ++ q) ≡ named_plan gs w n p ++ named_plan (with_patches gs w n (length p)) w (n + length p) q
named_plan-++ gs w n [] q = let e : n + 0 ≡ n = omega arith in rw e refl
named_plan-++ gs w n (m ∷ p) q =
    let rest = named_plan-++ (with_patch gs w n) w (n + 1) p q in
    let place = ap (λ i. named_plan (with_patch gs w n) w (n + 1) p ++ named_plan (with_patches (with_patch gs w n) w (n + 1) (length p)) w i q) (+-suc n (length p)) in
    ap (λ xs. record m { after = named gs w m.after } ∷ xs) (rest ∙ place)

pub written-++ : (s : Extents) (n : ℕ) (p q : List Made) → written s n (p ++ q) ≡ written s n p ++ written (after_plan s n p) (n + length p) q
written-++ s n [] q = let e : n + 0 ≡ n = omega arith in rw e refl
written-++ s n (m ∷ p) q =
    let rest = written-++ (after_change s n m.change) (n + 1) p q in
    let place = ap (λ i. written (after_change s n m.change) (n + 1) p ++ written (after_plan (after_change s n m.change) (n + 1) p) i q) (+-suc n (length p)) in
    ap (λ xs. record { create = step_of s.geometry m; merge = merge_behind s n m.change } ∷ xs) (rest ∙ place)

-- the choices are one for each patch of the first list
pub steps_by-++ : (cs ds : List Bool) (ws vs : List Written) → length cs ≡ length ws → steps_by (cs ++ ds) (ws ++ vs) ≡ steps_by cs ws ++ steps_by ds vs
steps_by-++ [] ds [] vs h = refl
steps_by-++ [] ds (w ∷ ws) vs h = absurd (omega (arith, h))
steps_by-++ (c ∷ cs) ds [] vs h = absurd (omega (arith, h))
steps_by-++ (true ∷ cs) ds (w ∷ ws) vs h =
    let e : length cs ≡ length ws = omega (arith, h) in
    ap (λ xs. w.create ∷ xs) (ap (λ xs. option_to_list w.merge ++ xs) (steps_by-++ cs ds ws vs e) ∙ sym (append_assoc (option_to_list w.merge) (steps_by cs ws) (steps_by ds vs)))
steps_by-++ (false ∷ cs) ds (w ∷ ws) vs h =
    let e : length cs ≡ length ws = omega (arith, h) in
    ap (λ xs. w.create ∷ xs) (steps_by-++ cs ds ws vs e)

-- what the groups add changes neither the count of a plan's patches, nor what it leaves of the extents
pub length-named_plan : (gs : Groups) (w : Option ℕ) (n : ℕ) (p : List Made) → length (named_plan gs w n p) ≡ length p
length-named_plan gs w n [] = refl
length-named_plan gs w n (m ∷ p) = ap suc (length-named_plan (with_patch gs w n) w (n + 1) p)

pub after_plan-named_plan : (s : Extents) (gs : Groups) (w : Option ℕ) (n : ℕ) (p : List Made) → after_plan s n (named_plan gs w n p) ≡ after_plan s n p
after_plan-named_plan s gs w n [] = refl
after_plan-named_plan s gs w n (m ∷ p) = after_plan-named_plan (after_change s n m.change) (with_patch gs w n) w (n + 1) p

pub length-written : (s : Extents) (n : ℕ) (p : List Made) → length (written s n p) ≡ length p
length-written s n [] = refl
length-written s n (m ∷ p) = ap suc (length-written (after_change s n m.change) (n + 1) p)

-- What is written of two plans, one after the other, is that of the first and then that of the second.
written_both : (s : Extents) (gs : Groups) (w : Option ℕ) (n : ℕ) (p q : List Made)
    → written s n (named_plan gs w n (p ++ q))
    ≡ written s n (named_plan gs w n p) ++ written (after_plan s n p) (n + length p) (named_plan (with_patches gs w n (length p)) w (n + length p) q)
written_both s gs w n p q =
    let named_p = named_plan gs w n p in
    let named_q = named_plan (with_patches gs w n (length p)) w (n + length p) q in
    ap (written s n) (named_plan-++ gs w n p q) ∙ written-++ s n named_p named_q
    ∙ ap (λ t. written s n named_p ++ written t (n + length named_p) named_q) (after_plan-named_plan s gs w n p)
    ∙ ap (λ k. written s n named_p ++ written (after_plan s n p) (n + k) named_q) (length-named_plan gs w n p)

-- So are the steps, with a choice for each patch of the first,
pub joined : (s : Extents) (gs : Groups) (w : Option ℕ) (n : ℕ) (p q : List Made) (cs ds : List Bool) → length cs ≡ length p
    → steps_of (cs ++ ds) s gs w n (p ++ q)
    ≡ steps_of cs s gs w n p ++ steps_of ds (after_plan s n p) (with_patches gs w n (length p)) w (n + length p) q
joined s gs w n p q cs ds h =
    let named_p = named_plan gs w n p in
    let count : length cs ≡ length (written s n named_p) = h ∙ sym (length-named_plan gs w n p) ∙ sym (length-written s n named_p) in
    ap (λ ws. steps_by (cs ++ ds) ws) (written_both s gs w n p q)
    ∙ steps_by-++ cs ds (written s n named_p) (written (after_plan s n p) (n + length p) (named_plan (with_patches gs w n (length p)) w (n + length p) q)) count

steps_by_none-++ : (ws vs : List Written) → steps_by [] (ws ++ vs) ≡ steps_by [] ws ++ steps_by [] vs
steps_by_none-++ [] vs = refl
steps_by_none-++ (w ∷ ws) vs = ap (λ xs. w.create ∷ xs) (steps_by_none-++ ws vs)

-- and without a merge.
pub joined_none : (s : Extents) (gs : Groups) (w : Option ℕ) (n : ℕ) (p q : List Made)
    → steps_of [] s gs w n (p ++ q)
    ≡ steps_of [] s gs w n p ++ steps_of [] (after_plan s n p) (with_patches gs w n (length p)) w (n + length p) q
joined_none s gs w n p q = ap (steps_by []) (written_both s gs w n p q) ∙ steps_by_none-++ (written s n (named_plan gs w n p)) _

-- a choice of no merge for each patch is that of none at all
pub no_choices : (ws : List Written) (k : ℕ) → length ws ≡ k → steps_by (replicate k false) ws ≡ steps_by [] ws
no_choices [] zero h = refl
no_choices [] (suc k) h = absurd (omega (arith, h))
no_choices (w ∷ ws) zero h = absurd (omega (arith, h))
no_choices (w ∷ ws) (suc k) h = ap (λ xs. w.create ∷ xs) (no_choices ws k (omega (arith, h)))

pub no_choices_of : (s : Extents) (gs : Groups) (w : Option ℕ) (n : ℕ) (p : List Made) → steps_of (replicate (length p) false) s gs w n p ≡ steps_of [] s gs w n p
no_choices_of s gs w n p = no_choices (written s n (named_plan gs w n p)) (length p) (length-written s n (named_plan gs w n p) ∙ length-named_plan gs w n p)
