-- A direct dependency of one class on another, with the patches that make it: the lemmas of every crate's proofs.
use Rattle.std.proofs.Common.{◌≡◌, ◌≢◌, ℕ, Bool, true, List, refl}
use Rattle.std.specs.Prelude.{◌==◌, ◌&&◌, not}
use Rattle.std.specs.List.{list_any}
use Rattle.std.proofs.lemmas.Bool.{and_parts, and_from, eqb-true, eq-eqb, ne_eqb, not-true, not_from_false, both_ways}
use Rattle.patch_model.specs.Entry.{Entry}
use Rattle.patch_model.specs.Dependency.{depends_directly, class_depends}
use Rattle.patch_model.specs.Member.{In, list_any-at, list_any-from}

pub record Link (all : List Entry) (a b : ℕ) : Type 0 where
  pub from : Entry
  pub to : Entry
  pub in_from : In all from
  pub in_to : In all to
  pub name_from : from.class ≡ a
  pub name_to : to.class ≡ b
  pub depends : depends_directly from.patch to.patch ≡ true

-- a member of the class a depends directly on one of b, which may be the same class
abbrev pub some_depends : List Entry → ℕ → ℕ → Bool
some_depends all a b = list_any (λ e. e.class == a && list_any (λ f. f.class == b && depends_directly e.patch f.patch) all) all

pub Link-some : (all : List Entry) (a b : ℕ) → some_depends all a b ≡ true → Link all a b
Link-some all a b t =
    let q = list_any-at (λ e. e.class == a && list_any (λ f. f.class == b && depends_directly e.patch f.patch) all) all t in
    let u = and_parts (q.0.class == a) (list_any (λ f. f.class == b && depends_directly q.0.patch f.patch) all) q.2 in
    let v = list_any-at (λ f. f.class == b && depends_directly q.0.patch f.patch) all u.1 in
    let w = and_parts (v.0.class == b) (depends_directly q.0.patch v.0.patch) v.2 in
    record { from = q.0; to = v.0; in_from = q.1; in_to = v.1; name_from = eqb-true _ _ u.0; name_to = eqb-true _ _ w.0; depends = w.1 }

pub some-Link : (all : List Entry) (a b : ℕ) (e f : Entry) → In all e → In all f → e.class ≡ a → f.class ≡ b → depends_directly e.patch f.patch ≡ true
    → some_depends all a b ≡ true
some-Link all a b e f i j is_a is_b d =
    list_any-from (λ g. g.class == a && list_any (λ k. k.class == b && depends_directly g.patch k.patch) all) all e i
    (and_from _ _ (eq-eqb _ _ is_a) (list_any-from (λ k. k.class == b && depends_directly e.patch k.patch) all f j (and_from _ _ (eq-eqb _ _ is_b) d)))

pub depends-apart : (all : List Entry) (a b : ℕ) → class_depends all a b ≡ true → a ≢ b
depends-apart all a b t e = both_ways _ (not-true _ (and_parts (not (a == b)) (some_depends all a b) t).0) (eq-eqb _ _ e)

pub Link-at : (all : List Entry) (a b : ℕ) → class_depends all a b ≡ true → Link all a b
Link-at all a b t = Link-some all a b (and_parts (not (a == b)) (some_depends all a b) t).1

pub Link-from : (all : List Entry) (e f : Entry) → In all e → In all f → e.class ≢ f.class → depends_directly e.patch f.patch ≡ true → class_depends all e.class f.class ≡ true
Link-from all e f i j apart d =
    and_from _ _ (not_from_false _ (ne_eqb e.class f.class apart)) (some-Link all e.class f.class e f i j refl refl d)
