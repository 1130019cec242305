-- By which numbers a search goes on.
use Rattle.std.proofs.Common.{◌≡◌, ℕ, ◌∙◌, inl, inr, Bool, true, false, List, [], refl, sym, ap, Option, Some, None, Bor}
use Rattle.std.specs.Prelude.{◌==◌}
use Rattle.std.specs.List.{list_any}
use Rattle.std.specs.Option.{option_map_or}
use Rattle.std.proofs.lemmas.Bool.{cases_eq, and_parts, and_from, both_ways, eq-eqb}
use Rattle.patch_model.specs.Member.{In, list_any-from}
use Rattle.patch_links.specs.State.{Class, Slots, Numbers, find, class_at, leads, leads_at}
use Rattle.patch_links.specs.Following.{AreFollowers}
use Rattle.patch_graph.specs.Marks.{is_marked}
use Rattle.patch_graph.specs.Search.{depends_at, AreNext}
use Rattle.patch_graph.specs.declared.searching.Way.{Way}
use Rattle.patch_graph.specs.declared.searching.Way.TheVariants.{Down, Up, Among}

-- the class that depends
pub depending : (slots : Slots) (numbers : Numbers) (key j : ℕ) → depends_at slots numbers key j ≡ true → (c : Class) × (class_at slots key ≡ Some c) × (leads numbers c j ≡ true)
depending slots numbers key j t = by (class_at slots key) refl t
  where
    by : (o : Option Class) → class_at slots key ≡ o → option_map_or (λ c. leads numbers c j) o false ≡ true → (c : Class) × (class_at slots key ≡ Some c) × (leads numbers c j ≡ true)
    by None at u = absurd (cc)
    by (Some c) at u = (c, at, u)

pub depends : (slots : Slots) (numbers : Numbers) (key j : ℕ) (c : Class) → class_at slots key ≡ Some c → leads numbers c j ≡ true → depends_at slots numbers key j ≡ true
depends slots numbers key j c at t = ap (λ o. option_map_or (λ d. leads numbers d j) o false) at ∙ t

led-by : (numbers : Numbers) (n j : ℕ) (next : List ℕ) → In next n → find numbers n ≡ Some j → list_any (leads_at numbers j) next ≡ true
led-by numbers n j next i at = list_any-from (leads_at numbers j) next n i (ap (λ o. option_map_or (λ k. k == j) o false) at ∙ eq-eqb j j refl)

-- by what a class depends on
pub next_down : (slots : Slots) (numbers : Numbers) (key : ℕ) (c : Class) → class_at slots key ≡ Some c → AreNext slots numbers Down key c.after
next_down slots numbers key c at = record {
  each = λ n j i found let_in. inr (depends slots numbers key j c at (led-by numbers n j c.after i found));
  all = λ j t. inr (sym (ap (λ o. option_map_or (λ d. leads numbers d j) o false) at) ∙ t, refl);
}

-- but for where it may not come
pub next_among : (slots : Slots) (numbers : Numbers) (marks : Bor (List Bool)) (key : ℕ) (c : Class) → class_at slots key ≡ Some c → AreNext slots numbers (Among marks) key c.after
next_among slots numbers marks key c at = record {
  each = λ n j i found let_in. inr (and_from (depends_at slots numbers key j) (is_marked marks.now j) (depends slots numbers key j c at (led-by numbers n j c.after i found)) let_in);
  all = λ j t.
      let u = and_parts (depends_at slots numbers key j) (is_marked marks.now j) t in
      inr (sym (ap (λ o. option_map_or (λ d. leads numbers d j) o false) at) ∙ u.0, u.1);
}

-- where there is no class it goes nowhere
none-depends : (slots : Slots) (numbers : Numbers) (key j : ℕ) → class_at slots key ≡ None → depends_at slots numbers key j ≡ false
none-depends slots numbers key j none = ap (λ o. option_map_or (λ d. leads numbers d j) o false) none

pub none_down : (slots : Slots) (numbers : Numbers) (key : ℕ) → class_at slots key ≡ None → AreNext slots numbers Down key []
none_down slots numbers key none = record {
  each = λ n j i found let_in. elim i [ ];
  all = λ j t. absurd (both_ways _ (none-depends slots numbers key j none) t);
}

pub none_among : (slots : Slots) (numbers : Numbers) (marks : Bor (List Bool)) (key : ℕ) → class_at slots key ≡ None → AreNext slots numbers (Among marks) key []
none_among slots numbers marks key none = record {
  each = λ n j i found let_in. elim i [ ];
  all = λ j t. absurd (both_ways _ (none-depends slots numbers key j none) (and_parts (depends_at slots numbers key j) (is_marked marks.now j) t).0);
}

-- by what depends on it
pub next_up : (slots : Slots) (numbers : Numbers) (key : ℕ) (followers : List ℕ) → AreFollowers slots numbers key followers → AreNext slots numbers Up key followers
next_up slots numbers key followers are = record {
  each = λ n j i found let_in. elim (cases_eq j key) [
    | inl e ↦ inl e
    | inr other ↦ let c = are.each n j i found other in inr (depends slots numbers j key c.0 c.1 c.2)
  ];
  all = λ j t. elim (cases_eq j key) [
    | inl e ↦ inl e
    | inr other ↦ let c = depending slots numbers j key t in inr (are.all j c.0 other c.1 c.2, refl)
  ];
}

-- whichever way but up
pub next_class : (slots : Slots) (numbers : Numbers) (way : Way) (key : ℕ) (c : Class) → (way ≡ Up → ⊥) → class_at slots key ≡ Some c → AreNext slots numbers way key c.after
next_class slots numbers Down key c other at = next_down slots numbers key c at
next_class slots numbers Up key c other at = absurd (other refl)
next_class slots numbers (Among marks) key c other at = next_among slots numbers marks key c at

pub next_none : (slots : Slots) (numbers : Numbers) (way : Way) (key : ℕ) → (way ≡ Up → ⊥) → class_at slots key ≡ None → AreNext slots numbers way key []
next_none slots numbers Down key other none = none_down slots numbers key none
next_none slots numbers Up key other none = absurd (other refl)
next_none slots numbers (Among marks) key other none = none_among slots numbers marks key none
