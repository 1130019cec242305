-- Places of a list, and what stands there.
use Rattle.std.proofs.Common.{◌≡◌, ◌∙◌, ℕ, ◌-◌, ◌<◌, ◌≤◌, Bool, true, List, length, sym, ap, arith, Vec}
use Rattle.std.specs.List.{list_all}
use Rattle.std.proofs.lemmas.Bool.{eqb-true}
use Rattle.patch_model.specs.Entry.{is_among}
use Rattle.patch_model.specs.Member.{list_any-at, list_all-at}
use Rattle.std.specs.Prelude.{◌==◌, Option, Some, None, IfSome, SomeIff, vec_len}

pub in_vec : {X Z : Type 0} (v : Vec X Z) (at : ℕ) → at < length v.items → at < vec_len v
in_vec v at within = omega (arith, v.ok.0)

pub not_past : (at count : ℕ) → at < count → at ≤ count
not_past at count within = omega arith

-- the last of so many
pub last_within : (o : Option ℕ) (behind count : ℕ) → SomeIff o (1 ≤ behind) (behind - 1) → behind ≤ count → IfSome o (λ at. at < count)
last_within None behind count s fits = tt
last_within (Some at) behind count s fits = let some = s.0 in let is = s.1 in omega arith

-- what is so of each number of a list
pub all-among : (p : ℕ → Bool) (ns : List ℕ) → list_all p ns ≡ true → (n : ℕ) → is_among ns n ≡ true → p n ≡ true
all-among p ns all n on =
    let q = list_any-at (λ m. m == n) ns on in
    let e : q.0 ≡ n = eqb-true _ _ q.2 in
    ap p (sym e) ∙ list_all-at p ns q.0 all q.1
