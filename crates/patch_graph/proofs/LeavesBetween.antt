-- Nothing lies between two classes where the first one depends on no other class that has dependencies.
use Rattle.std.proofs.Common.{◌≡◌, ℕ, ◌⊎◌, ◌∙◌, inl, inr, true, false, List, refl, sym, ap, subst, Some, None}
use Rattle.std.specs.Prelude.{◌≢◌, ◌==◌, ◌&&◌, ◌||◌, is_none}
use Rattle.std.specs.List.{list_all}
use Rattle.std.specs.Option.{option_map_or}
use Rattle.std.proofs.lemmas.Bool.{cases_eq, and_parts, or_cases, both_ways, eqb-true, not-true}
use Rattle.patch_model.specs.Entry.{Entry, is_live}
use Rattle.patch_model.specs.Dependency.{Path}
use Rattle.patch_model.specs.Member.{list_any-at, list_all-at}
use Rattle.patch_links.specs.State.{Class, Slots, Numbers, find, class_at, leads, leads_at}
use Rattle.patch_graph.specs.State.{Graph}
use Rattle.patch_graph.specs.Meaning.{Leads, one, onward, IsLiveClass, IsGraphOf}
use Rattle.patch_graph.specs.Between.{are_gone, is_leaf, ends_at, rests_on_leaves, HasNoRing, IsLeastBetween}
use Rattle.patch_graph.proofs.ReadySet.{placed, class_same}
use Rattle.patch_graph.proofs.Searches.{found-lead}
use Rattle.patch_graph.proofs.Reaching.{Leads-path, path-leads}

-- a class that depends on no live one leads nowhere
leaf-step : (slots : Slots) (numbers : Numbers) (k j : ℕ) (c : Class) → is_leaf slots numbers k ≡ true → class_at slots k ≡ Some c → leads numbers c j ≡ true → ⊥
leaf-step slots numbers k j c leaf at t =
    let w = list_any-at (leads_at numbers j) c.after t in
    let gone : are_gone numbers c.after ≡ true = sym (ap (λ o. option_map_or (λ d. are_gone numbers d.after) o true) at) ∙ leaf in
    let none : is_none (find numbers w.0) ≡ true = list_all-at (λ n. is_none (find numbers n)) c.after w.0 gone w.1 in
    let some : is_none (find numbers w.0) ≡ false = ap is_none (found-lead numbers j w.0 w.2) in
    both_ways _ some none

leaf-chain : (slots : Slots) (numbers : Numbers) (k j : ℕ) → is_leaf slots numbers k ≡ true → Leads slots numbers k j → ⊥
leaf-chain slots numbers k l leaf (one c at t) = leaf-step slots numbers k l c leaf at t
leaf-chain slots numbers k l leaf (onward {j = j} c at t rest) = leaf-step slots numbers k j c leaf at t

-- the first class of a chain that isn't where it begins
record IsFirstOther (slots : Slots) (numbers : Numbers) (from k : ℕ) : Type 0 where
  key : ℕ
  c : Class
  at : class_at slots from ≡ Some c
  step : leads numbers c key ≡ true
  other : key ≢ from
  rest : (key ≡ k) ⊎ Leads slots numbers key k

first-other : (slots : Slots) (numbers : Numbers) (from p k : ℕ) → p ≡ from → k ≢ from → Leads slots numbers p k → IsFirstOther slots numbers from k
first-other slots numbers from p k e differs (one c at t) =
    record { key = k; c = c; at = subst (λ z. class_at slots z ≡ Some c) e at; step = t; other = differs; rest = inl refl }
first-other slots numbers from p k e differs (onward {j = j} c at t rest) = elim (cases_eq j from) [
  | inl same ↦ first-other slots numbers from j k same differs rest
  | inr other ↦ record { key = j; c = c; at = subst (λ z. class_at slots z ≡ Some c) e at; step = t; other = other; rest = inr rest }
]

-- the first other class is the second end, or depends on no live one
first-ends : (slots : Slots) (numbers : Numbers) (from to k : ℕ) → rests_on_leaves slots numbers from to ≡ true → (f : IsFirstOther slots numbers from k) → (f.key ≡ to) ⊎ (is_leaf slots numbers f.key ≡ true)
first-ends slots numbers from to k t f =
    let c = f.c in
    let key = f.key in
    let w = list_any-at (leads_at numbers key) c.after f.step in
    let all = sym (ap (λ o. option_map_or (λ d. list_all (ends_at slots numbers from to) d.after) o true) f.at) ∙ t in
    let ends : ends_at slots numbers from to w.0 ≡ true = list_all-at (ends_at slots numbers from to) c.after w.0 all w.1 in
    let here = sym (ap (λ o. option_map_or (λ k. k == from || (k == to || is_leaf slots numbers k)) o true) (found-lead numbers key w.0 w.2)) ∙ ends in
    elim (or_cases (key == from) (key == to || is_leaf slots numbers key) here) [
      | inl u ↦ absurd (f.other (eqb-true key from u))
      | inr u ↦ elim (or_cases (key == to) (is_leaf slots numbers key) u) [ inl v ↦ inl (eqb-true key to v) | inr v ↦ inr v ]
    ]

pub leaves_is : (g : Graph) (all : List Entry) (a b x y from to : ℕ) → IsGraphOf g all → HasNoRing all → IsLiveClass all a x → IsLiveClass all b y
    → find g.numbers a ≡ Some from → find g.numbers b ≡ Some to → rests_on_leaves g.slots g.numbers from to ≡ true → IsLeastBetween all x y None
leaves_is g all a b x y from to r no_ring la lb fa fb leaves m between =
    let qa = placed g all r la.0 from la.1 (ap (find g.numbers) la.2 ∙ fa) in
    let qb = placed g all r lb.0 to lb.1 (ap (find g.numbers) lb.2 ∙ fb) in
    let nx : qa.0.name ≡ x = qa.2 ∙ la.4 in
    let ny : qb.0.name ≡ y = qb.2 ∙ lb.4 in
    let e = list_any-at (λ e. e.class == m && is_live e) all between.live in
    let e2 = and_parts (e.0.class == m) (is_live e.0) e.2 in
    let f = r.found e.0 e.1 (not-true _ e2.1) in
    let named : f.1.name ≡ m = f.4 ∙ eqb-true e.0.class m e2.0 in
    let not_from : f.0 ≢ from = λ k. between.not_first (sym named ∙ ap (λ z. z.name) (class_same f.1 qa.0 (sym f.3 ∙ ap (class_at g.slots) k ∙ qa.1)) ∙ nx) in
    let not_to : f.0 ≢ to = λ k. between.not_last (sym named ∙ ap (λ z. z.name) (class_same f.1 qb.0 (sym f.3 ∙ ap (class_at g.slots) k ∙ qb.1)) ∙ ny) in
    let back : Leads g.slots g.numbers to f.0 → ⊥ = λ way. elim (Leads-path g all r to f.0 qb.0 f.1 way qb.1 f.3) [
      | inl s ↦ between.not_last (sym named ∙ sym s ∙ ny)
      | inr p ↦ no_ring y m (λ s. between.not_last (sym s)) (subst (λ z. Path all z m) ny (subst (λ z. Path all qb.0.name z) named p)) between.to
    ] in
    let on : Leads g.slots g.numbers f.0 to = elim (path-leads g all r m y f.0 to f.1 qb.0 between.to named ny f.3 qb.1) [ inl k ↦ absurd (not_to k) | inr q ↦ q ] in
    let out : Leads g.slots g.numbers from f.0 = elim (path-leads g all r x m from f.0 qa.0 f.1 between.from nx named qa.1 f.3) [ inl k ↦ absurd (not_from (sym k)) | inr q ↦ q ] in
    let first = first-other g.slots g.numbers from from f.0 refl not_from out in
    elim (first-ends g.slots g.numbers from to f.0 leaves first) [
      | inl at_to ↦ elim first.rest [ inl k ↦ not_to (sym k ∙ at_to) | inr way ↦ back (subst (λ z. Leads g.slots g.numbers z f.0) at_to way) ]
      | inr leaf ↦ elim first.rest [
        | inl k ↦ leaf-chain g.slots g.numbers f.0 to (subst (λ z. is_leaf g.slots g.numbers z ≡ true) k leaf) on
        | inr way ↦ leaf-chain g.slots g.numbers first.key f.0 leaf way
      ]
    ]
