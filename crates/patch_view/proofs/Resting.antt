-- Of two classes of which the lower doesn't depend on the upper, the upper depends on the lower just where their spans meet
-- or it names one of its members.
use Rattle.std.proofs.Common.{◌≡◌, ℕ, ◌<◌, ◌⊎◌, ◌∙◌, true, false, inl, inr, List, length, refl, sym, ap, arith, min, max}
use Rattle.std.specs.Prelude.{◌==◌, ◌&&◌, ◌||◌, ◌≢◌, nat_lt}
use Rattle.std.proofs.lemmas.Bool.{cases_Bool, cases_order, and_parts, and_from, and_left, or_cases, or_left, or_right, both_ways, eqb-true, eq-eqb, ltb-true, lt-ltb, le-ltb, false_from_ne_true}
use Rattle.patch_model.specs.Link.{Link-some, some-Link}
use Rattle.patch_model.specs.Pile.{end, covers}
use Rattle.patch_model.specs.Entry.{is_among}
use Rattle.patch_model.specs.Dependency.{shares_byte, class_depends}
use Rattle.patch_model.specs.Member.{list_any-at, list_any-from}
use Rattle.patch_model.specs.History.{History}
use Rattle.patch_view.specs.History.{IsCoherent, class_names}
use Rattle.patch_records.specs.Records.{Class, names, meets}
use Rattle.patch_stacks.specs.State.{Block, class_at, follows}
use Rattle.patch_view.specs.Meaning.{IsClassOf, IsBlockOf}
use Rattle.patch_view.proofs.Sets.{class_depends_on, class_depends-apart, ordered_on}
use Rattle.patch_model.specs.Laying.{covers-to}
use Rattle.patch_view.proofs.Chain.{later_depends, covering}
use Rattle.patch_records.proofs.Bytes.{spans-at, spans-from}

-- a class depends on one of which it names a member
pub names-depends : (h : History) (t u : List ℕ) (c d : Class) → IsClassOf h t c → IsClassOf h u d → names c d ≡ true → class_depends_on h c.name d.name ≡ true
names-depends h t u c d r s on =
    let q = list_any-at (λ n. is_among d.members n) c.after on in
    let e = list_any-at (λ g. g.class == c.name && is_among g.patch.after q.0) h.entries (r.after q.0 (list_any-from (λ m. m == q.0) c.after q.0 q.1 (eq-eqb q.0 q.0 refl))) in
    let p = and_parts (e.0.class == c.name) (is_among e.0.patch.after q.0) e.2 in
    let f = list_any-at (λ g. g.patch.no == q.0 && g.class == d.name) h.entries (sym (s.members q.0) ∙ q.2) in
    let v = and_parts (f.0.patch.no == q.0) (f.0.class == d.name) f.2 in
    some-Link h.entries c.name d.name e.0 f.0 e.1 f.1 (eqb-true _ _ p.0) (eqb-true _ _ v.1)
    (or_left _ (nat_lt f.0.patch.no e.0.patch.no && shares_byte e.0.patch f.0.patch) (ap (is_among e.0.patch.after) (eqb-true _ _ v.0) ∙ p.1))

-- of two that meet one depends on the other
pub meets-depends : (h : History) (t u : List ℕ) (c d : Class) → IsCoherent h → IsClassOf h t c → IsClassOf h u d → c.name ≢ d.name → meets c d ≡ true
    → (class_depends_on h c.name d.name ≡ true) ⊎ (class_depends_on h d.name c.name ≡ true)
meets-depends h t u c d o r s apart on =
    let p = and_parts (nat_lt c.start d.stop) (nat_lt d.start c.stop) on in
    let a : c.start < d.stop = ltb-true _ _ p.0 in
    let b : d.start < c.stop = ltb-true _ _ p.1 in
    let some_c : c.start < c.stop = r.some in
    let some_d : d.start < d.stop = s.some in
    let x : ℕ = max c.start d.start in
    let e = covering h c.name (max c.start d.start) (sym (r.span (max c.start d.start)) ∙ spans-from c (max c.start d.start) (omega arith) (omega arith)) in
    let f = covering h d.name (max c.start d.start) (sym (s.span (max c.start d.start)) ∙ spans-from d (max c.start d.start) (omega arith) (omega arith)) in
    elim (cases_order e.0.patch.no f.0.patch.no) [
      | inl same ↦ absurd (apart (sym e.2 ∙ ap (λ g. g.class) (o.numbers e.0 f.0 e.1 f.1 same) ∙ f.2))
      | inr k ↦ elim k [
        | inl less ↦ inr (some-Link h.entries d.name c.name f.0 e.0 f.1 e.1 f.2 e.2 (later_depends h f.0 e.0 (max c.start d.start) o f.1 e.1 f.3 e.3 less))
        | inr more ↦ inl (some-Link h.entries c.name d.name e.0 f.0 e.1 f.1 e.2 f.2 (later_depends h e.0 f.0 (max c.start d.start) o e.1 f.1 e.3 f.3 more))
      ]
    ]

-- one that depends on another meets it or names a member of it
pub depends-rests : (h : History) (t u : List ℕ) (c d : Class) → IsCoherent h → IsClassOf h t c → IsClassOf h u d
    → ((n : ℕ) → is_among d.members n ≡ true → class_names h c.name n ≡ true → is_among c.after n ≡ true) → class_depends_on h c.name d.name ≡ true
    → (meets c d || names c d) ≡ true
depends-rests h t u c d o r s named on =
    let k = Link-some h.entries c.name d.name on in
    elim (or_cases (is_among k.from.patch.after k.to.patch.no) (nat_lt k.to.patch.no k.from.patch.no && shares_byte k.from.patch k.to.patch) k.depends) [
      | inl v ↦
          let goes : class_names h c.name k.to.patch.no ≡ true = list_any-from (λ g. g.class == c.name && is_among g.patch.after k.to.patch.no) h.entries k.from k.in_from (and_from _ _ (eq-eqb _ _ k.name_from) v) in
          let member : is_among d.members k.to.patch.no ≡ true = s.members k.to.patch.no
          ∙ list_any-from (λ g. g.patch.no == k.to.patch.no && g.class == d.name) h.entries k.to k.in_to (and_from _ _ (eq-eqb k.to.patch.no k.to.patch.no refl) (eq-eqb _ _ k.name_to)) in
          let q = list_any-at (λ m. m == k.to.patch.no) c.after (named k.to.patch.no member goes) in
          or_right (meets c d) _ (list_any-from (λ n. is_among d.members n) c.after q.0 q.1 (ap (is_among d.members) (eqb-true _ _ q.2) ∙ member))
      | inr v ↦
          let p = and_parts (nat_lt k.to.patch.no k.from.patch.no) (shares_byte k.from.patch k.to.patch) v in
          let w = and_parts (k.from.patch.block == k.to.patch.block) (nat_lt (max k.from.patch.start k.to.patch.start) (min (end k.from.patch) (end k.to.patch))) p.1 in
          let less : max k.from.patch.start k.to.patch.start < min (end k.from.patch) (end k.to.patch) = ltb-true _ _ w.1 in
          let x : ℕ = max k.from.patch.start k.to.patch.start in
          let in_c = spans-at c (max k.from.patch.start k.to.patch.start) (r.span (max k.from.patch.start k.to.patch.start)
          ∙ list_any-from (λ g. g.class == c.name && covers g.patch (max k.from.patch.start k.to.patch.start)) h.entries k.from k.in_from
          (and_from _ _ (eq-eqb _ _ k.name_from) (covers-to k.from.patch (max k.from.patch.start k.to.patch.start) (omega arith) (omega arith)))) in
          let in_d = spans-at d (max k.from.patch.start k.to.patch.start) (s.span (max k.from.patch.start k.to.patch.start)
          ∙ list_any-from (λ g. g.class == d.name && covers g.patch (max k.from.patch.start k.to.patch.start)) h.entries k.to k.in_to
          (and_from _ _ (eq-eqb _ _ k.name_to) (covers-to k.to.patch (max k.from.patch.start k.to.patch.start) (omega arith) (omega arith)))) in
          or_left _ (names c d) (and_from _ _ (lt-ltb c.start d.stop (omega (arith, in_c, in_d))) (lt-ltb d.start c.stop (omega (arith, in_c, in_d))))
    ]

pub rests-depends : (h : History) (t u : List ℕ) (c d : Class) → IsCoherent h → IsClassOf h t c → IsClassOf h u d
    → ((n : ℕ) → is_among d.members n ≡ true → class_names h c.name n ≡ true → is_among c.after n ≡ true) → c.name ≢ d.name
    → class_depends_on h d.name c.name ≡ false → (meets c d || names c d) ≡ class_depends_on h c.name d.name
rests-depends h t u c d o r s named apart never = elim (cases_Bool (class_depends_on h c.name d.name)) [
  | inl on ↦ depends-rests h t u c d o r s named on ∙ sym on
  | inr off ↦ false_from_ne_true _ (λ on. elim (or_cases (meets c d) (names c d) on) [
    | inl m ↦ elim (meets-depends h t u c d o r s apart m) [ inl v ↦ both_ways _ off v | inr v ↦ both_ways _ never v ]
    | inr n ↦ both_ways _ off (names-depends h t u c d r s n)
  ]) ∙ sym off
]

-- which record rests on which
pub linked : {b : Block} {taken : List ℕ} {h : History} → IsBlockOf b taken h → (i j : ℕ) → i < length b.classes → j < length b.classes
    → (class_at b i).name ≢ (class_at b j).name → follows b i j ≡ class_depends_on h (class_at b i).name (class_at b j).name
linked {b} {taken} {h} r i j h_i h_j apart = elim (cases_order j i) [
  | inl same ↦ absurd (apart (ap (λ k. (class_at b k).name) (sym same)))
  | inr o ↦ elim o [
    | inl below ↦ ap (λ z. z && (meets (class_at b i) (class_at b j) || names (class_at b i) (class_at b j))) (lt-ltb j i below)
        ∙ rests-depends h taken taken (class_at b i) (class_at b j) r.coherent (r.classes i h_i) (r.classes j h_j) (λ n on goes. r.named i j n h_i h_j on goes) apart (ordered_on r j i below h_i)
    | inr above ↦ and_left _ _ (le-ltb j i (omega arith)) ∙ sym (ordered_on r i j above h_j)
  ]
]

pub linked_as : {b : Block} {taken : List ℕ} {h : History} → IsBlockOf b taken h → (i j : ℕ) → i < length b.classes → j < length b.classes
    → (class_at b i).name ≢ (class_at b j).name → follows b i j ≡ class_depends h.entries (class_at b i).name (class_at b j).name
linked_as {b} {taken} {h} r i j h_i h_j apart = linked r i j h_i h_j apart ∙ sym (class_depends-apart h (class_at b i).name (class_at b j).name apart)

-- what a record rests on is another class
pub follows-apart : {b : Block} {taken : List ℕ} {h : History} → IsBlockOf b taken h → (i j : ℕ) → i < length b.classes → j < length b.classes
    → follows b i j ≡ true → (class_at b i).name ≢ (class_at b j).name
follows-apart {b} {taken} {h} r i j h_i h_j on q =
    let less : j < i = ltb-true _ _ (and_parts (nat_lt j i) (meets (class_at b i) (class_at b j) || names (class_at b i) (class_at b j)) on).0 in
    let e : i ≡ j = r.distinct i j h_i h_j q in
    omega arith
