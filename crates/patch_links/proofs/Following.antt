-- The followers of a class are those that depend on it.
use Rattle.std.proofs.Common.{◌≡◌, ℕ, ◌<◌, ◌∙◌, Bool, true, false, inl, inr, List, [], refl, sym, ap, subst, arith, Some, None}
use Rattle.std.specs.Prelude.{◌==◌, count_by}
use Rattle.std.specs.Option.{option_map, option_map_or}
use Rattle.std.proofs.lemmas.Bool.{cases_eq, eq-eqb}
use Rattle.patch_model.specs.Member.{In, list_any-at, list_any-from}
use Rattle.patch_links.specs.State.{Class, Node, Nodes, Numbers, find, leads_at, node_at, class_at, slots_of}
use Rattle.patch_links.specs.Invariants.{AreMembers, has_member}
use Rattle.patch_links.specs.Waiting.{AreLinked}
use Rattle.patch_links.specs.Following.{AreFollowers}
use Rattle.patch_links.proofs.Counts.{count-some, count-zero}
use Rattle.patch_links.proofs.Places.{at-is, slots-at, cases_option}

-- the node of a class
node_of : (nodes : Nodes) (j : ℕ) (c : Class) → class_at (slots_of nodes) j ≡ Some c → (x : Node) × (node_at nodes j ≡ Some x) × (x.class ≡ c)
node_of nodes j c at = elim (cases_option (node_at nodes j)) [
  | inl none ↦ let e = sym (slots-at nodes j ∙ ap (option_map (λ x. x.class)) none) ∙ at in absurd (cc)
  | inr some ↦ let e = sym (slots-at nodes j ∙ ap (option_map (λ x. x.class)) some.1) ∙ at in (some.0, some.1, cc)
]

found-leads : (numbers : Numbers) (n j : ℕ) → find numbers n ≡ Some j → leads_at numbers j n ≡ true
found-leads numbers n j at = ap (λ q. option_map_or (λ k. k == j) q false) at ∙ eq-eqb j j refl

some-counts : (p : ℕ → Bool) (xs : List ℕ) (x : ℕ) → In xs x → p x ≡ true → 0 < count_by p xs
some-counts p xs x i t = elim (cases_eq (count_by p xs) 0) [
  | inl none ↦ let u = count-zero p xs x none i in absurd (cc)
  | inr some ↦ omega arith
]

pub followers_are : (nodes : Nodes) (numbers : Numbers) (key : ℕ) (y : Node) → AreMembers nodes numbers → AreLinked nodes numbers → node_at nodes key ≡ Some y
    → AreFollowers (slots_of nodes) numbers key y.followers
followers_are nodes numbers key y members linked at = record {
  each = λ n j i found other.
      let led = found-leads numbers n j found in
      let x = at-is (has_member n) nodes j (sym (members n j) ∙ led) in
      let counts = linked j key x.0 y other x.1 at in
      let many = some-counts (leads_at numbers j) y.followers n i led in
      let w = count-some (leads_at numbers key) x.0.class.after (omega arith) in
      (x.0.class, slots-at nodes j ∙ ap (option_map (λ z. z.class)) x.1, list_any-from (leads_at numbers key) x.0.class.after w.0 w.1 w.2);
  all = λ j c other is t.
      let x = node_of nodes j c is in
      let w = list_any-at (leads_at numbers key) c.after t in
      let many : 0 < count_by (leads_at numbers key) x.0.class.after = some-counts (leads_at numbers key) x.0.class.after w.0 (subst (λ (z : Class). In z.after w.0) (sym x.2) w.1) w.2 in
      let counts = linked j key x.0 y other x.1 at in
      let v = count-some (leads_at numbers j) y.followers (omega arith) in
      list_any-from (leads_at numbers j) y.followers v.0 v.1 v.2;
}

-- where there is no class nothing depends on it
pub no_followers : (nodes : Nodes) (numbers : Numbers) (key : ℕ) → AreMembers nodes numbers → node_at nodes key ≡ None → AreFollowers (slots_of nodes) numbers key []
no_followers nodes numbers key members none = record {
  each = λ n j i found other. absurd (elim i [ ]);
  all = λ j c other is t.
      let w = list_any-at (leads_at numbers key) c.after t in
      let x = at-is (has_member w.0) nodes key (sym (members w.0 key) ∙ w.2) in
      absurd (cc);
}
