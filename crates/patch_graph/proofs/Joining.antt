-- No class comes to another key where two are made one, and which two can be.
use Rattle.std.proofs.Common.{◌≡◌, ℕ, ◌<◌, ◌∙◌, inl, inr, Bool, true, false, List, Option, refl, sym, ap, subst, Some, None}
use Rattle.std.specs.Prelude.{◌==◌, ◌&&◌, ◌≢◌, not}
use Rattle.std.specs.Option.{option_map_or}
use Rattle.std.proofs.lemmas.Bool.{cases_Bool, cases_eq, and_parts, and_from, both_ways, eqb-true, eq-eqb, not-true, not_from_false, false_from_ne_true}
use Rattle.patch_model.specs.Entry.{Entry, marks_memory, is_memory}
use Rattle.patch_model.specs.Member.{In}
use Rattle.patch_links.specs.State.{Class, Links, Slots, Numbers, find, class_at}
use Rattle.patch_links.specs.Merging.{HasJoined, may_join, may_join_at}
use Rattle.patch_graph.specs.State.{Graph, KeysFit}
use Rattle.patch_graph.specs.Meaning.{IsGraphOf}
use Rattle.patch_graph.specs.Merging.{AreOfOneBlock, CantBeOne, may_be_one}

-- a class that passes the test
at-test : (slots : Slots) (key : ℕ) (test : Class → Bool) → option_map_or test (class_at slots key) false ≡ true → (c : Class) × (class_at slots key ≡ Some c) × (test c ≡ true)
at-test slots key test t = elim (class_at slots key) as (λ o. option_map_or test o false ≡ true → (c : Class) × (o ≡ Some c) × (test c ≡ true)) [
  | Some c ↦ λ h. (c, refl, h)
  | None ↦ λ h. absurd (cc)
] t

pub joined-fit : (keep gone room : ℕ) (old new : Links) → HasJoined keep gone old new → (may_join_at keep gone old.slots ≡ false → new ≡ old) → KeysFit old.slots room → KeysFit new.slots room
joined-fit keep gone room old new joined idle fit = elim (cases_Bool (may_join_at keep gone old.slots)) [
  | inr off ↦ subst (λ (z : Links). KeysFit z.slots room) (sym (idle off)) fit
  | inl t ↦
      let parts = and_parts (not (keep == gone)) _ t in
      let c = at-test old.slots keep (λ c. option_map_or (may_join c) (class_at old.slots gone) false) parts.1 in
      let d = at-test old.slots gone (may_join c.0) c.2 in
      let apart : keep ≢ gone = λ e. both_ways _ (not-true _ parts.0) (eq-eqb keep gone e) in
      let j = joined c.0 d.0 apart c.1 d.1 d.2 in
      λ key e at. elim (cases_eq key keep) [
        | inl same ↦ subst (λ k. k < room) (sym same) (fit keep c.0 c.1)
        | inr other ↦ elim (cases_eq key gone) [
          | inl same ↦ let none : class_at new.slots key ≡ None = ap (class_at new.slots) same ∙ j.none in absurd (cc)
          | inr third ↦ fit key e (sym (j.others key other third) ∙ at)
        ]
      ]
]

-- of two numbers that lead to keys it is told by the keys
pub at-keys : (slots : Slots) (numbers : Numbers) (a b k j : ℕ) → find numbers a ≡ Some k → find numbers b ≡ Some j → may_be_one slots numbers a b ≡ false → may_join_at k j slots ≡ false
at-keys slots numbers a b k j fa fb off =
    subst (λ (o : Option ℕ). option_map_or (λ i. may_join_at k i slots) o false ≡ false) fb
    (subst (λ (o : Option ℕ). option_map_or (λ l. option_map_or (λ i. may_join_at l i slots) (find numbers b) false) o false ≡ false) fa off)

may-join-back : (c d : Class) → may_join c d ≡ true → may_join d c ≡ true
may-join-back c d t =
    let outer = and_parts (marks_memory c.mark && marks_memory d.mark) _ t in
    let inner = and_parts (marks_memory c.mark) _ outer.0 in
    and_from _ _ (and_from _ _ inner.1 inner.0) (eq-eqb d.block c.block (sym (eqb-true c.block d.block outer.1)))

-- and it is the same of the two the other way around
swapped : (keep gone : ℕ) (slots : Slots) → may_join_at keep gone slots ≡ true → may_join_at gone keep slots ≡ true
swapped keep gone slots t =
    let parts = and_parts (not (keep == gone)) _ t in
    let c = at-test slots keep (λ c. option_map_or (may_join c) (class_at slots gone) false) parts.1 in
    let d = at-test slots gone (may_join c.0) c.2 in
    let apart : (gone == keep) ≡ false = false_from_ne_true (gone == keep) (λ same. both_ways _ (not-true _ parts.0) (eq-eqb keep gone (sym (eqb-true gone keep same)))) in
    and_from _ _ (not_from_false _ apart)
    (subst (λ (o : Option Class). option_map_or (λ x. option_map_or (may_join x) (class_at slots keep) false) o false ≡ true) (sym d.1)
    (subst (λ (o : Option Class). option_map_or (may_join d.0) o false ≡ true) (sym c.1) (may-join-back c.0 d.0 d.2)))

pub at-keys-back : (slots : Slots) (numbers : Numbers) (a b k j : ℕ) → find numbers a ≡ Some k → find numbers b ≡ Some j → may_be_one slots numbers a b ≡ false → may_join_at j k slots ≡ false
at-keys-back slots numbers a b k j fa fb off =
    false_from_ne_true _ (λ t. both_ways _ (at-keys slots numbers a b k j fa fb off) (swapped j k slots t))

-- the number is of a patch in memory, of this block
abbrev IsInMemory : List Entry → ℕ → ℕ → Type 0
IsInMemory all n block = (e : Entry) × In all e × (e.patch.no ≡ n) × (is_memory e ≡ true) × (e.patch.block ≡ block)

pair-of : (all : List Entry) (a b m n : ℕ) → m ≡ n → IsInMemory all a m → IsInMemory all b n → AreOfOneBlock all a b
pair-of all a b m n same e f = record {
  e = e.0;
  f = f.0;
  in_e = e.1;
  in_f = f.1;
  of_a = e.2;
  of_b = f.2;
  memory_e = e.3;
  memory_f = f.3;
  block = e.4 ∙ same ∙ sym f.4;
}

-- so it is where its class is at the key
in-memory : (g : Graph) (all : List Entry) → IsGraphOf g all → (n key : ℕ) (c : Class) → find g.numbers n ≡ Some key → class_at g.slots key ≡ Some c → marks_memory c.mark ≡ true → IsInMemory all n c.block
in-memory g all r n key c at here memory =
    let l = r.live n key at in
    let f = r.found l.0 l.1 l.3 in
    let led : find g.numbers n ≡ Some f.0 = subst (λ m. find g.numbers m ≡ Some f.0) l.2 f.2 in
    let same : f.0 ≡ key = cc in
    let there : class_at g.slots f.0 ≡ Some c = ap (class_at g.slots) same ∙ here in
    let alike : f.1 ≡ c = cc in
    let looks = (r.classes key c here).looks l.0 l.1 (sym f.4 ∙ ap (λ (x : Class). x.name) alike) in
    (l.0, l.1, l.2, ap marks_memory looks.0 ∙ memory, looks.1)

-- numbers whose keys are of two such classes are of patches in memory, of one block
of-classes : (g : Graph) (all : List Entry) (a b k j : ℕ) (c d : Class) → IsGraphOf g all → find g.numbers a ≡ Some k → find g.numbers b ≡ Some j
    → class_at g.slots k ≡ Some c → class_at g.slots j ≡ Some d → may_join c d ≡ true → AreOfOneBlock all a b
of-classes g all a b k j c d r fa fb at there t =
    let outer = and_parts (marks_memory c.mark && marks_memory d.mark) (c.block == d.block) t in
    let inner = and_parts (marks_memory c.mark) (marks_memory d.mark) outer.0 in
    pair-of all a b c.block d.block (eqb-true c.block d.block outer.1) (in-memory g all r a k c fa at inner.0) (in-memory g all r b j d fb there inner.1)

of-keys : (g : Graph) (all : List Entry) (a b k j : ℕ) → IsGraphOf g all → find g.numbers a ≡ Some k → find g.numbers b ≡ Some j → may_join_at k j g.slots ≡ true → AreOfOneBlock all a b
of-keys g all a b k j r fa fb t =
    let parts = and_parts (not (k == j)) (option_map_or (λ c. option_map_or (may_join c) (class_at g.slots j) false) (class_at g.slots k) false) t in
    let c = at-test g.slots k (λ c. option_map_or (may_join c) (class_at g.slots j) false) parts.1 in
    let d = at-test g.slots j (may_join c.0) c.2 in
    of-classes g all a b k j c.0 d.0 r fa fb c.1 d.1 d.2

led : (numbers : Numbers) (n : ℕ) (test : ℕ → Bool) → option_map_or test (find numbers n) false ≡ true → (k : ℕ) × (find numbers n ≡ Some k) × (test k ≡ true)
led numbers n test h = elim (find numbers n) as (λ o. option_map_or test o false ≡ true → (k : ℕ) × (o ≡ Some k) × (test k ≡ true)) [
  | Some k ↦ λ u. (k, refl, u)
  | None ↦ λ u. absurd (cc)
] h

one-block : (g : Graph) (all : List Entry) (a b : ℕ) → IsGraphOf g all → may_be_one g.slots g.numbers a b ≡ true → AreOfOneBlock all a b
one-block g all a b r t =
    let k = led g.numbers a (λ k. option_map_or (λ j. may_join_at k j g.slots) (find g.numbers b) false) t in
    let j = led g.numbers b (λ j. may_join_at k.0 j g.slots) k.2 in
    of-keys g all a b k.0 j.0 r k.1 j.1 j.2

pub none-to-join : (g : Graph) (all : List Entry) (a b : ℕ) → IsGraphOf g all → CantBeOne all a b → may_be_one g.slots g.numbers a b ≡ false
none-to-join g all a b r off = false_from_ne_true _ (λ t. off (one-block g all a b r t))
