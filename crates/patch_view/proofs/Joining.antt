-- Two classes made one.
use Rattle.std.proofs.Common.{◌≡◌, ℕ, ◌+◌, ◌-◌, ◌<◌, ◌≤◌, ◌⊎◌, ◌∙◌, true, false, not, inl, inr, Bool, List, [], ◌∷◌, ◌++◌, length, map, get_or, refl, sym, ap, arith, subst, get_or-set_same, get_or-set_other, min, max, replicate}
use Rattle.std.specs.Prelude.{◌==◌, ◌&&◌, ◌||◌, ◌≢◌, nat_lt, slice_set, IsPermutation}
use Rattle.std.specs.List.{list_any, list_all}
use Rattle.std.proofs.lemmas.Bool.{cases_Bool, cases_eq, cases_lt, cases_order, and_parts, and_from, or_left, or_right, or_from, or_cases, both_ways, eqb-true, eq-eqb, ne_eqb, not-true, cond-false}
use Rattle.std.proofs.lemmas.List.{length-set, length-replicate}
use Rattle.std.proofs.lemmas.List.Edits.{length-remove}
use Rattle.patch_model.specs.Marked.{only_memory}
use Rattle.patch_model.specs.Pile.{end, covers, pile}
use Rattle.patch_model.specs.Entry.{Entry, is_durable, is_memory, is_among, marks_memory, marks_durable}
use Rattle.patch_model.specs.Dependency.{depends_directly, class_depends}
use Rattle.patch_model.specs.State.{joined}
use Rattle.patch_model.specs.Member.{In, list_any-from, map-In}
use Rattle.patch_model.specs.History.{History, pile_of, without}
use Rattle.patch_model.specs.Unchanged.{hard-joined, mark-joined, patch-joined}
use Rattle.patch_view.proofs.Sets.{class_depends_on, class_depends-apart, none-held, never-from, ordered_on}
use Rattle.patch_view.specs.History.{IsCoherent, with_joined, class_covers, class_names, comes_before, below, top}
use Rattle.patch_records.specs.Records.{Class, no_class, spans, may_be_taken}
use Rattle.patch_stacks.specs.State.{Block, class_at, settled_at}
use Rattle.patch_records.specs.Merged.{merged, IsMerged}
use Rattle.patch_records.specs.Exchanges.{laid_over}
use Rattle.patch_view.specs.Meaning.{IsClassOf, IsBlockOf}
use Rattle.patch_view.proofs.Chain.{same_byte, covering, before-at, before-from, later_depends}
use Rattle.patch_records.proofs.Bytes.{laid-inside, spans-at, spans-from, length-laid_over, outside-low}
use Rattle.patch_view.proofs.Steps.{record_of, depends-from}
use Rattle.patch_view.proofs.Marking.{any-map, all-map, kept-patches}
use Rattle.patch_stacks.proofs.ClassFields.{named-remove}
use Rattle.patch_stacks.proofs.ClassPlaces.{stood, stood_is}
use Rattle.patch_stacks.proofs.MergedClasses.{among-merged, spans-merged, merged-long, after-merged, joined_place, was-member}

shuffle_or : (a b u v : Bool) → ((a || b) || (u || v)) ≡ ((a || u) || (b || v))
shuffle_or true b u v = refl
shuffle_or false b true v = elim b as (λ z. ((false || z) || (true || v)) ≡ ((false || true) || (z || v))) [ true ↦ refl | false ↦ refl ]
shuffle_or false true false v = refl
shuffle_or false false false v = refl

shuffle_and : (a b u v : Bool) → ((a && b) && (u && v)) ≡ ((a && u) && (b && v))
shuffle_and false b u v = refl
shuffle_and true b false v = elim b as (λ z. ((true && z) && (false && v)) ≡ ((true && false) && (z && v))) [ true ↦ refl | false ↦ refl ]
shuffle_and true true true v = refl
shuffle_and true false true v = refl

or_and : (a b r : Bool) → ((a || b) && r) ≡ ((a && r) || (b && r))
or_and true b true = refl
or_and true true false = refl
or_and true false false = refl
or_and false b r = refl

not_or : (a b r l : Bool) → (not ((a || b) && r) || l) ≡ ((not (a && r) || l) && (not (b && r) || l))
not_or true true true true = refl
not_or true true true false = refl
not_or true true false l = refl
not_or true false true true = refl
not_or true false true false = refl
not_or true false false l = refl
not_or false true true true = refl
not_or false true true false = refl
not_or false true false l = refl
not_or false false r l = refl

any-either : {X : Type 0} (p q r : X → Bool) (xs : List X) → ((x : X) → p x ≡ (q x || r x)) → list_any p xs ≡ (list_any q xs || list_any r xs)
any-either p q r [] same = refl
any-either p q r (x ∷ xs) same = let e = same x in let i = any-either p q r xs same in
    rw (e, i) (shuffle_or (q x) (r x) (list_any q xs) (list_any r xs))

all-both : {X : Type 0} (p q r : X → Bool) (xs : List X) → ((x : X) → p x ≡ (q x && r x)) → list_all p xs ≡ (list_all q xs && list_all r xs)
all-both p q r [] same = refl
all-both p q r (x ∷ xs) same = let e = same x in let i = all-both p q r xs same in
    rw (e, i) (shuffle_and (q x) (r x) (list_all q xs) (list_all r xs))

pub joined-in : (c d : ℕ) (e : Entry) → (e.class ≡ c) ⊎ (e.class ≡ d) → (joined c d e).class ≡ min c d
joined-in c d e (inl is) = let t : (e.class == c || e.class == d) ≡ true = or_left _ (e.class == d) (eq-eqb _ _ is) in rw t refl
joined-in c d e (inr is) = let t : (e.class == c || e.class == d) ≡ true = or_right (e.class == c) _ (eq-eqb _ _ is) in rw t refl

pub joined-out : (c d : ℕ) (e : Entry) → e.class ≢ c → e.class ≢ d → joined c d e ≡ e
joined-out c d e not_c not_d = let t : (e.class == c || e.class == d) ≡ false = or_from _ _ (ne_eqb _ _ not_c) (ne_eqb _ _ not_d) in rw t refl

pub cases_in : (c d : ℕ) (e : Entry) → ((e.class ≡ c) ⊎ (e.class ≡ d)) ⊎ ((e.class ≢ c) × (e.class ≢ d))
cases_in c d e = elim (cases_eq e.class c) [
  | inl is ↦ inl (inl is)
  | inr not_c ↦ elim (cases_eq e.class d) [ inl is ↦ inl (inr is) | inr not_d ↦ inr (not_c, not_d) ]
]

min_is : (c d n : ℕ) → n ≡ min c d → (n ≡ c) ⊎ (n ≡ d)
min_is c d n e = elim (cases_lt c d) [ inl less ↦ inl (omega arith) | inr more ↦ inr (omega arith) ]

pub joined-merged : (c d : ℕ) (e : Entry) → ((joined c d e).class == min c d) ≡ (e.class == c || e.class == d)
joined-merged c d e = elim (cases_in c d e) [
  | inl is ↦ let t : (joined c d e).class ≡ min c d = joined-in c d e is in
      eq-eqb _ _ t ∙ sym (elim is [ inl i ↦ or_left _ (e.class == d) (eq-eqb _ _ i) | inr i ↦ or_right (e.class == c) _ (eq-eqb _ _ i) ])
  | inr out ↦ let t : joined c d e ≡ e = joined-out c d e out.0 out.1 in
      ap (λ z. z.class == min c d) t ∙ ne_eqb _ _ (λ q. elim (min_is c d e.class q) [ inl i ↦ out.0 i | inr i ↦ out.1 i ])
      ∙ sym (or_from _ _ (ne_eqb _ _ out.0) (ne_eqb _ _ out.1))
]

pub joined-other : (c d k : ℕ) (e : Entry) → k ≢ c → k ≢ d → ((joined c d e).class == k) ≡ (e.class == k)
joined-other c d k e not_c not_d = elim (cases_in c d e) [
  | inl is ↦ let t : (joined c d e).class ≡ min c d = joined-in c d e is in
      ne_eqb _ _ (λ q. elim (min_is c d k (sym q ∙ t)) [ inl i ↦ not_c i | inr i ↦ not_d i ])
      ∙ sym (ne_eqb _ _ (λ q. elim is [ inl i ↦ not_c (sym q ∙ i) | inr i ↦ not_d (sym q ∙ i) ]))
  | inr out ↦ ap (λ z. z.class == k) (joined-out c d e out.0 out.1)
]

pub covers-merged : (h : History) (c d x : ℕ) → class_covers (with_joined h c d) (min c d) x ≡ (class_covers h c x || class_covers h d x)
covers-merged h c d x =
    any-map (joined c d) (λ e. e.class == min c d && covers e.patch x) (λ e. (e.class == c || e.class == d) && covers e.patch x) h.entries
    (λ e. ap (λ z. z && covers (joined c d e).patch x) (joined-merged c d e) ∙ ap (λ z. (e.class == c || e.class == d) && covers z x) (patch-joined c d e))
    ∙ any-either (λ e. (e.class == c || e.class == d) && covers e.patch x) (λ e. e.class == c && covers e.patch x) (λ e. e.class == d && covers e.patch x) h.entries
    (λ e. or_and (e.class == c) (e.class == d) (covers e.patch x))

pub covers-other : (h : History) (c d k x : ℕ) → k ≢ c → k ≢ d → class_covers (with_joined h c d) k x ≡ class_covers h k x
covers-other h c d k x not_c not_d =
    any-map (joined c d) (λ e. e.class == k && covers e.patch x) (λ e. e.class == k && covers e.patch x) h.entries
    (λ e. ap (λ z. z && covers (joined c d e).patch x) (joined-other c d k e not_c not_d) ∙ ap (λ z. e.class == k && covers z x) (patch-joined c d e))

-- what was made before the merged class was made before both
pub before-merged : (h : History) (c d x : ℕ) (e : Entry)
    → comes_before (with_joined h c d) (min c d) x (joined c d e) ≡ (comes_before h c x e && comes_before h d x e)
before-merged h c d x e =
    all-map (joined c d) (λ g. not (g.class == min c d && covers g.patch x) || nat_lt (joined c d e).patch.no g.patch.no)
    (λ g. not ((g.class == c || g.class == d) && covers g.patch x) || nat_lt e.patch.no g.patch.no) h.entries
    (λ g. ap (λ z. not (z && covers (joined c d g).patch x) || nat_lt (joined c d e).patch.no (joined c d g).patch.no) (joined-merged c d g)
    ∙ ap (λ z. not ((g.class == c || g.class == d) && covers z x) || nat_lt (joined c d e).patch.no z.no) (patch-joined c d g)
    ∙ ap (λ z. not ((g.class == c || g.class == d) && covers g.patch x) || nat_lt z.no g.patch.no) (patch-joined c d e))
    ∙ all-both (λ g. not ((g.class == c || g.class == d) && covers g.patch x) || nat_lt e.patch.no g.patch.no)
    (λ g. not (g.class == c && covers g.patch x) || nat_lt e.patch.no g.patch.no)
    (λ g. not (g.class == d && covers g.patch x) || nat_lt e.patch.no g.patch.no) h.entries
    (λ g. not_or (g.class == c) (g.class == d) (covers g.patch x) (nat_lt e.patch.no g.patch.no))

pub before-other : (h : History) (c d k x : ℕ) (e : Entry) → k ≢ c → k ≢ d → comes_before (with_joined h c d) k x (joined c d e) ≡ comes_before h k x e
before-other h c d k x e not_c not_d =
    all-map (joined c d) (λ g. not (g.class == k && covers g.patch x) || nat_lt (joined c d e).patch.no g.patch.no)
    (λ g. not (g.class == k && covers g.patch x) || nat_lt e.patch.no g.patch.no) h.entries
    (λ g. ap (λ z. not (z && covers (joined c d g).patch x) || nat_lt (joined c d e).patch.no (joined c d g).patch.no) (joined-other c d k g not_c not_d)
    ∙ ap (λ z. not (g.class == k && covers z x) || nat_lt (joined c d e).patch.no z.no) (patch-joined c d g)
    ∙ ap (λ z. not (g.class == k && covers g.patch x) || nat_lt z.no g.patch.no) (patch-joined c d e))

pub below-other : (h : History) (c d k x : ℕ) → k ≢ c → k ≢ d → below (with_joined h c d) k x ≡ below h k x
below-other h c d k x not_c not_d = ap (λ ps. get_or (pile h.first ps) x 0)
    (kept-patches (joined c d) (comes_before (with_joined h c d) k x) (comes_before h k x) h.entries (patch-joined c d) (λ e. before-other h c d k x e not_c not_d))

pub without-joined : (h : History) (c d : ℕ) → without (with_joined h c d) [] ≡ without h []
without-joined h c d = ap (λ ps. pile h.first ps)
    (kept-patches (joined c d) (λ e. not (is_among [] e.class)) (λ e. not (is_among [] e.class)) h.entries (patch-joined c d) (λ e. refl))

-- the merged class's byte is under both
below-both : (h : History) (c d x : ℕ) → below (with_joined h c d) (min c d) x ≡ get_or (pile_of h (λ e. comes_before h c x e && comes_before h d x e)) x 0
below-both h c d x = ap (λ ps. get_or (pile h.first ps) x 0)
    (kept-patches (joined c d) (comes_before (with_joined h c d) (min c d) x) (λ e. comes_before h c x e && comes_before h d x e) h.entries (patch-joined c d)
    (λ e. before-merged h c d x e))

-- a byte that the other class doesn't cover
before-off : (h : History) (d x : ℕ) (e : Entry) → class_covers h d x ≡ false → comes_before h d x e ≡ true
before-off h d x e off = before-from h d x e (λ f i is on. absurd (both_ways _ off (list_any-from (λ g. g.class == d && covers g.patch x) h.entries f i (and_from _ _ (eq-eqb _ _ is) on))))

pub below-second : (h : History) (c d x : ℕ) → IsCoherent h → class_covers h c x ≡ false → below (with_joined h c d) (min c d) x ≡ below h d x
below-second h c d x o off = below-both h c d x ∙ same_byte h _ _ x o (λ e i on. let t = before-off h c x e off in rw t refl)

-- a byte of both: the lower class's
pub below-lower : (h : History) (c d x : ℕ) → IsCoherent h → c ≢ d → class_depends_on h c d ≡ false → class_covers h c x ≡ true
    → below (with_joined h c d) (min c d) x ≡ below h c x
below-lower h c d x o two none on =
    let fc = covering h c x on in
    below-both h c d x ∙ same_byte h (λ e. comes_before h c x e && comes_before h d x e) (comes_before h c x) x o (λ e i on_e. elim (cases_Bool (comes_before h c x e)) [
      | inr u ↦ rw u refl
      | inl u ↦ let before : e.patch.no < fc.0.patch.no = before-at h c x e fc.0 u fc.1 fc.2 fc.3 in
          let t : comes_before h d x e ≡ true = before-from h d x e (λ g j is on_g. elim (cases_order fc.0.patch.no g.patch.no) [
            | inl same ↦ absurd (two (sym fc.2 ∙ ap (λ z. z.class) (o.numbers fc.0 g fc.1 j same) ∙ is))
            | inr either ↦ elim either [
              | inl less ↦ omega arith
              | inr more ↦ absurd (both_ways _ none (ap (λ z. class_depends_on h z d) (sym fc.2) ∙ ap (λ z. class_depends_on h fc.0.class z) (sym is)
                  ∙ depends-from h fc.0 g fc.1 j (later_depends h fc.0 g x o fc.1 j fc.3 on_g more)))
            ]
          ]) in rw (u, t) refl
    ])

and_or : (p a b : Bool) → (p && (a || b)) ≡ ((p && a) || (p && b))
and_or true a b = refl
and_or false a b = refl

-- what a patch depends on, in the merged class and in others
inner-other : (h : History) (c d k : ℕ) (e : Entry) → k ≢ c → k ≢ d
    → list_any (λ g. g.class == k && depends_directly (joined c d e).patch g.patch) (map (joined c d) h.entries) ≡ list_any (λ g. g.class == k && depends_directly e.patch g.patch) h.entries
inner-other h c d k e not_c not_d = any-map (joined c d) (λ g. g.class == k && depends_directly (joined c d e).patch g.patch) (λ g. g.class == k && depends_directly e.patch g.patch) h.entries
    (λ g. ap (λ z. z && depends_directly (joined c d e).patch (joined c d g).patch) (joined-other c d k g not_c not_d)
    ∙ ap (λ z. g.class == k && depends_directly z (joined c d g).patch) (patch-joined c d e)
    ∙ ap (λ z. g.class == k && depends_directly e.patch z) (patch-joined c d g))

inner-merged : (h : History) (c d : ℕ) (e : Entry)
    → list_any (λ g. g.class == min c d && depends_directly (joined c d e).patch g.patch) (map (joined c d) h.entries)
    ≡ (list_any (λ g. g.class == c && depends_directly e.patch g.patch) h.entries || list_any (λ g. g.class == d && depends_directly e.patch g.patch) h.entries)
inner-merged h c d e = any-map (joined c d) (λ g. g.class == min c d && depends_directly (joined c d e).patch g.patch) (λ g. (g.class == c || g.class == d) && depends_directly e.patch g.patch) h.entries
    (λ g. ap (λ z. z && depends_directly (joined c d e).patch (joined c d g).patch) (joined-merged c d g)
    ∙ ap (λ z. (g.class == c || g.class == d) && depends_directly z (joined c d g).patch) (patch-joined c d e)
    ∙ ap (λ z. (g.class == c || g.class == d) && depends_directly e.patch z) (patch-joined c d g))
    ∙ any-either (λ g. (g.class == c || g.class == d) && depends_directly e.patch g.patch) (λ g. g.class == c && depends_directly e.patch g.patch) (λ g. g.class == d && depends_directly e.patch g.patch) h.entries
    (λ g. or_and (g.class == c) (g.class == d) (depends_directly e.patch g.patch))

pub depends-others : (h : History) (c d a k : ℕ) → a ≢ c → a ≢ d → k ≢ c → k ≢ d → class_depends_on (with_joined h c d) a k ≡ class_depends_on h a k
depends-others h c d a k not_a not_b not_c not_d =
    any-map (joined c d) (λ e. e.class == a && list_any (λ g. g.class == k && depends_directly e.patch g.patch) (map (joined c d) h.entries))
    (λ e. e.class == a && list_any (λ g. g.class == k && depends_directly e.patch g.patch) h.entries) h.entries
    (λ e. ap (λ z. z && list_any (λ g. g.class == k && depends_directly (joined c d e).patch g.patch) (map (joined c d) h.entries)) (joined-other c d a e not_a not_b)
    ∙ ap (λ z. e.class == a && z) (inner-other h c d k e not_c not_d))

pub depends-merged : (h : History) (c d k : ℕ) → k ≢ c → k ≢ d
    → class_depends_on (with_joined h c d) (min c d) k ≡ (class_depends_on h c k || class_depends_on h d k)
depends-merged h c d k not_c not_d =
    any-map (joined c d) (λ e. e.class == min c d && list_any (λ g. g.class == k && depends_directly e.patch g.patch) (map (joined c d) h.entries))
    (λ e. (e.class == c || e.class == d) && list_any (λ g. g.class == k && depends_directly e.patch g.patch) h.entries) h.entries
    (λ e. ap (λ z. z && list_any (λ g. g.class == k && depends_directly (joined c d e).patch g.patch) (map (joined c d) h.entries)) (joined-merged c d e)
    ∙ ap (λ z. (e.class == c || e.class == d) && z) (inner-other h c d k e not_c not_d))
    ∙ any-either (λ e. (e.class == c || e.class == d) && list_any (λ g. g.class == k && depends_directly e.patch g.patch) h.entries)
    (λ e. e.class == c && list_any (λ g. g.class == k && depends_directly e.patch g.patch) h.entries)
    (λ e. e.class == d && list_any (λ g. g.class == k && depends_directly e.patch g.patch) h.entries) h.entries
    (λ e. or_and (e.class == c) (e.class == d) (list_any (λ g. g.class == k && depends_directly e.patch g.patch) h.entries))

pub depends-on_merged : (h : History) (c d a : ℕ) → a ≢ c → a ≢ d
    → class_depends_on (with_joined h c d) a (min c d) ≡ (class_depends_on h a c || class_depends_on h a d)
depends-on_merged h c d a not_c not_d =
    any-map (joined c d) (λ e. e.class == a && list_any (λ g. g.class == min c d && depends_directly e.patch g.patch) (map (joined c d) h.entries))
    (λ e. e.class == a && (list_any (λ g. g.class == c && depends_directly e.patch g.patch) h.entries || list_any (λ g. g.class == d && depends_directly e.patch g.patch) h.entries)) h.entries
    (λ e. ap (λ z. z && list_any (λ g. g.class == min c d && depends_directly (joined c d e).patch g.patch) (map (joined c d) h.entries)) (joined-other c d a e not_c not_d)
    ∙ ap (λ z. e.class == a && z) (inner-merged h c d e))
    ∙ any-either (λ e. e.class == a && (list_any (λ g. g.class == c && depends_directly e.patch g.patch) h.entries || list_any (λ g. g.class == d && depends_directly e.patch g.patch) h.entries))
    (λ e. e.class == a && list_any (λ g. g.class == c && depends_directly e.patch g.patch) h.entries)
    (λ e. e.class == a && list_any (λ g. g.class == d && depends_directly e.patch g.patch) h.entries) h.entries
    (λ e. and_or (e.class == a) (list_any (λ g. g.class == c && depends_directly e.patch g.patch) h.entries) (list_any (λ g. g.class == d && depends_directly e.patch g.patch) h.entries))

-- the history afterwards
pub orderly-joined : (h : History) (c d : ℕ) → IsCoherent h
    → ((e : Entry) → In h.entries e → (e.class ≡ c) ⊎ (e.class ≡ d) → (is_memory e ≡ true) × (e.hard ≡ false)) → IsCoherent (with_joined h c d)
orderly-joined h c d o soft = record {
  long = o.long;
  fits = λ y i. let r = map-In (joined c d) h.entries y i in subst (λ z. end z ≤ 4096) (sym (patch-joined c d r.0) ∙ ap (λ z. z.patch) r.2) (o.fits r.0 r.1);
  some = λ y i. let r = map-In (joined c d) h.entries y i in subst (λ z. 0 < length z.bytes) (sym (patch-joined c d r.0) ∙ ap (λ z. z.patch) r.2) (o.some r.0 r.1);
  one_block = λ y z i j. let r = map-In (joined c d) h.entries y i in let s = map-In (joined c d) h.entries z j in
      ap (λ k. k.block) (ap (λ k. k.patch) (sym r.2) ∙ patch-joined c d r.0) ∙ o.one_block r.0 s.0 r.1 s.1 ∙ ap (λ k. k.block) (sym (patch-joined c d s.0) ∙ ap (λ k. k.patch) s.2);
  numbers = λ y z i j same. let r = map-In (joined c d) h.entries y i in let s = map-In (joined c d) h.entries z j in
      let one : r.0 ≡ s.0 = o.numbers r.0 s.0 r.1 s.1 (ap (λ k. k.no) (sym (patch-joined c d r.0) ∙ ap (λ k. k.patch) r.2) ∙ same ∙ ap (λ k. k.no) (ap (λ k. k.patch) (sym s.2) ∙ patch-joined c d s.0)) in
      sym r.2 ∙ ap (joined c d) one ∙ s.2;
  named_earlier = λ y n i t. let r = map-In (joined c d) h.entries y i in let p : y.patch ≡ r.0.patch = ap (λ z. z.patch) (sym r.2) ∙ patch-joined c d r.0 in
      subst (λ z. n < z.no) (sym p) (o.named_earlier r.0 n r.1 (ap (λ z. is_among z.after n) (sym p) ∙ t));
  class_first = λ y i. let r = map-In (joined c d) h.entries y i in
      let old : r.0.class ≤ r.0.patch.no = o.class_first r.0 r.1 in
      let p : (joined c d r.0).patch.no ≡ r.0.patch.no = ap (λ z. z.no) (patch-joined c d r.0) in
      subst (λ z. z.class ≤ z.patch.no) r.2 (elim (cases_in c d r.0) [
        | inl is ↦ let k : (joined c d r.0).class ≡ min c d = joined-in c d r.0 is in elim is [ inl q ↦ omega arith | inr q ↦ omega arith ]
        | inr out ↦ let k : (joined c d r.0).class ≡ r.0.class = ap (λ z. z.class) (joined-out c d r.0 out.0 out.1) in omega arith
      ]);
  one_mark = λ y z i j same. let r = map-In (joined c d) h.entries y i in let s = map-In (joined c d) h.entries z j in
      let c_y : (joined c d r.0).class ≡ y.class = ap (λ k. k.class) r.2 in
      let c_z : (joined c d s.0).class ≡ z.class = ap (λ k. k.class) s.2 in
      let old : (r.0.mark ≡ s.0.mark) × (r.0.hard ≡ s.0.hard) = elim (cases_in c d r.0) [
        | inl a ↦ elim (cases_in c d s.0) [
          | inl b ↦ let p = soft r.0 r.1 a in let q = soft s.0 s.1 b in (only_memory r.0.mark p.0 ∙ sym (only_memory s.0.mark q.0), p.1 ∙ sym q.1)
          | inr b ↦ absurd (elim (min_is c d s.0.class (ap (λ k. k.class) (sym (joined-out c d s.0 b.0 b.1)) ∙ c_z ∙ sym same ∙ sym c_y ∙ joined-in c d r.0 a)) [ inl q ↦ b.0 q | inr q ↦ b.1 q ])
        ]
        | inr a ↦ elim (cases_in c d s.0) [
          | inl b ↦ absurd (elim (min_is c d r.0.class (ap (λ k. k.class) (sym (joined-out c d r.0 a.0 a.1)) ∙ c_y ∙ same ∙ sym c_z ∙ joined-in c d s.0 b)) [ inl q ↦ a.0 q | inr q ↦ a.1 q ])
          | inr b ↦ o.one_mark r.0 s.0 r.1 s.1 (ap (λ k. k.class) (sym (joined-out c d r.0 a.0 a.1)) ∙ c_y ∙ same ∙ sym c_z ∙ ap (λ k. k.class) (joined-out c d s.0 b.0 b.1))
        ]
      ] in (
        ap (λ k. k.mark) (sym r.2) ∙ mark-joined c d r.0 ∙ old.0 ∙ sym (mark-joined c d s.0) ∙ ap (λ k. k.mark) s.2,
        ap (λ k. k.hard) (sym r.2) ∙ hard-joined c d r.0 ∙ old.1 ∙ sym (hard-joined c d s.0) ∙ ap (λ k. k.hard) s.2,
      );
  durable_first = λ y z i j dep t. let r = map-In (joined c d) h.entries y i in let s = map-In (joined c d) h.entries z j in
      let goes : depends_directly r.0.patch s.0.patch ≡ true =
      ap (λ k. depends_directly k s.0.patch) (sym (patch-joined c d r.0) ∙ ap (λ k. k.patch) r.2) ∙ ap (λ k. depends_directly y.patch k) (sym (patch-joined c d s.0) ∙ ap (λ k. k.patch) s.2) ∙ dep in
      ap is_memory (sym s.2) ∙ ap marks_memory (mark-joined c d s.0)
      ∙ o.durable_first r.0 s.0 r.1 s.1 goes (ap marks_durable (sym (mark-joined c d r.0)) ∙ ap is_durable r.2 ∙ t);
}

-- what another class names doesn't change
names-apart : (h : History) (c d k n : ℕ) → k ≢ c → k ≢ d → class_names (with_joined h c d) k n ≡ class_names h k n
names-apart h c d k n not_c not_d = any-map (joined c d) (λ e. e.class == k && is_among e.patch.after n) (λ e. e.class == k && is_among e.patch.after n) h.entries
    (λ e. ap (λ z. z && is_among (joined c d e).patch.after n) (joined-other c d k e not_c not_d) ∙ ap (λ z. e.class == k && is_among z.after n) (patch-joined c d e))

-- the merged class names what both name
names-merged : (h : History) (c d n : ℕ) → class_names (with_joined h c d) (min c d) n ≡ (class_names h c n || class_names h d n)
names-merged h c d n =
    any-map (joined c d) (λ e. e.class == min c d && is_among e.patch.after n) (λ e. (e.class == c || e.class == d) && is_among e.patch.after n) h.entries
    (λ e. ap (λ z. z && is_among (joined c d e).patch.after n) (joined-merged c d e) ∙ ap (λ z. (e.class == c || e.class == d) && is_among z.after n) (patch-joined c d e))
    ∙ any-either (λ e. (e.class == c || e.class == d) && is_among e.patch.after n) (λ e. e.class == c && is_among e.patch.after n)
    (λ e. e.class == d && is_among e.patch.after n) h.entries (λ e. or_and (e.class == c) (e.class == d) (is_among e.patch.after n))

-- another class's record doesn't change
pub apart-class : (h : History) (c d : ℕ) (k : Class) → IsClassOf h [] k → k.name ≢ c → k.name ≢ d → IsClassOf (with_joined h c d) [] k
apart-class h c d k r not_c not_d = record {
  known = any-map (joined c d) (λ e. e.class == k.name) (λ e. e.class == k.name) h.entries (λ e. joined-other c d k.name e not_c not_d) ∙ r.known;
  named_by_member = r.named_by_member;
  members = λ n. r.members n ∙ sym (any-map (joined c d) (λ e. e.patch.no == n && e.class == k.name) (λ e. e.patch.no == n && e.class == k.name) h.entries
      (λ e. ap (λ z. z.no == n && (joined c d e).class == k.name) (patch-joined c d e) ∙ ap (λ z. e.patch.no == n && z) (joined-other c d k.name e not_c not_d)));
  after = λ n t. names-apart h c d k.name n not_c not_d ∙ r.after n t;
  marked = λ y i of. let q = map-In (joined c d) h.entries y i in
      let is : q.0.class ≡ k.name = eqb-true _ _ (sym (joined-other c d k.name q.0 not_c not_d) ∙ eq-eqb _ _ (ap (λ z. z.class) q.2 ∙ of)) in
      let old = r.marked q.0 q.1 is in (
        ap is_durable (sym q.2) ∙ ap marks_durable (mark-joined c d q.0) ∙ old.0,
        ap is_memory (sym q.2) ∙ ap marks_memory (mark-joined c d q.0) ∙ old.1,
        ap (λ z. z.hard) (sym q.2) ∙ hard-joined c d q.0 ∙ old.2,
      );
  span = λ x. r.span x ∙ sym (covers-other h c d k.name x not_c not_d);
  flag = r.flag;
  some = r.some;
  fits = r.fits;
  long = r.long;
  no_saved = r.no_saved;
  saved = λ m x on. let off : k.taken ≡ false = r.flag in
      r.saved m x on ∙ cond-false k.taken (top h k.name x) (below h k.name x) off ∙ sym (below-other h c d k.name x not_c not_d)
      ∙ sym (cond-false k.taken (top (with_joined h c d) k.name x) (below (with_joined h c d) k.name x) off);
}

soft-of : (h : History) (k : Class) → IsClassOf h [] k → may_be_taken k ≡ true → (e : Entry) → In h.entries e → e.class ≡ k.name
    → (is_durable e ≡ false) × (is_memory e ≡ true) × (e.hard ≡ false)
soft-of h k r may e i is = let old = r.marked e i is in let p = and_parts (not k.flying) (not k.hard) may in (old.0, old.1 ∙ p.0, old.2 ∙ not-true _ p.1)

-- the merged class's saved bytes
merged-saved : (h : History) (low high : Class) (ms us : List ℕ) (space : ℕ) (x : ℕ) → IsCoherent h → IsClassOf h [] low → IsClassOf h [] high → may_be_taken low ≡ true → may_be_taken high ≡ true
    → low.name ≢ high.name → class_depends_on h low.name high.name ≡ false → (spans low x || spans high x) ≡ true
    → get_or (merged low high ms us space).saved (x - (merged low high ms us space).start) 0 ≡ below (with_joined h low.name high.name) (min low.name high.name) x
merged-saved h low high ms us space x o rl rh may_l may_h two none on =
    let long_l : low.start + length low.saved ≡ low.stop = rl.long may_l in
    let long_h : high.start + length high.saved ≡ high.stop = rh.long may_h in
    let zeros : List ℕ = replicate (max low.stop high.stop - min low.start high.start) 0 in
    let z : length (replicate (max low.stop high.stop - min low.start high.start) 0) ≡ max low.stop high.stop - min low.start high.start = length-replicate (max low.stop high.stop - min low.start high.start) 0 in
    let fits_h : high.start - min low.start high.start + length high.saved ≤ length (replicate (max low.stop high.stop - min low.start high.start) 0) = omega arith in
    let inner : length (laid_over (high.start - min low.start high.start) high.saved (replicate (max low.stop high.stop - min low.start high.start) 0)) ≡ max low.stop high.stop - min low.start high.start =
    length-laid_over (high.start - min low.start high.start) high.saved (replicate (max low.stop high.stop - min low.start high.start) 0) fits_h ∙ z in
    let fits_l : low.start - min low.start high.start + length low.saved ≤ length (laid_over (high.start - min low.start high.start) high.saved (replicate (max low.stop high.stop - min low.start high.start) 0)) = omega arith in
    elim (cases_Bool (spans low x)) [
      | inl u ↦
          let p : (low.start ≤ x) × (x < low.stop) = spans-at low x u in
          let off : low.taken ≡ false = rl.flag in
          let same : x - min low.start high.start - (low.start - min low.start high.start) ≡ x - low.start = omega arith in
          laid-inside (laid_over (high.start - min low.start high.start) high.saved (replicate (max low.stop high.stop - min low.start high.start) 0)) low.saved
          (low.start - min low.start high.start) (x - min low.start high.start) (omega arith) (omega arith) fits_l
          ∙ ap (λ i. get_or low.saved i 0) same
          ∙ rl.saved may_l x u ∙ cond-false low.taken (top h low.name x) (below h low.name x) off
          ∙ sym (below-lower h low.name high.name x o two none (sym (rl.span x) ∙ u))
      | inr u ↦
          let v : spans high x ≡ true = elim (or_cases (spans low x) (spans high x) on) [ inl a ↦ absurd (both_ways _ u a) | inr b ↦ b ] in
          let p : (high.start ≤ x) × (x < high.stop) = spans-at high x v in
          let off : high.taken ≡ false = rh.flag in
          let same : x - min low.start high.start - (high.start - min low.start high.start) ≡ x - high.start = omega arith in
          outside-low low.saved (laid_over (high.start - min low.start high.start) high.saved (replicate (max low.stop high.stop - min low.start high.start) 0))
          (low.start - min low.start high.start) (x - min low.start high.start) fits_l
          (elim (cases_lt x low.start) [ inl before ↦ inl (omega arith) | inr from ↦ elim (cases_lt x low.stop) [ inl to ↦ absurd (both_ways _ u (spans-from low x from to)) | inr behind ↦ inr (omega arith) ] ])
          ∙ laid-inside (replicate (max low.stop high.stop - min low.start high.start) 0) high.saved
          (high.start - min low.start high.start) (x - min low.start high.start) (omega arith) (omega arith) fits_h
          ∙ ap (λ i. get_or high.saved i 0) same
          ∙ rh.saved may_h x v ∙ cond-false high.taken (top h high.name x) (below h high.name x) off
          ∙ sym (below-second h low.name high.name x o (sym (rl.span x) ∙ u))
    ]

-- the merged class's record
merged-class_of : (h : History) (low high : Class) (ms us : List ℕ) (space : ℕ) → IsPermutation (low.members ++ high.members) ms → IsPermutation (low.after ++ high.after) us → IsCoherent h → IsClassOf h [] low → IsClassOf h [] high → may_be_taken low ≡ true → may_be_taken high ≡ true
    → low.name ≢ high.name → class_depends_on h low.name high.name ≡ false → low.start ≤ high.stop → high.start ≤ low.stop
    → IsClassOf (with_joined h low.name high.name) [] (merged low high ms us space)
merged-class_of h low high ms us space pm pa o rl rh may_l may_h two none near_a near_b =
    let some_l : low.start < low.stop = rl.some in
    let some_h : high.start < high.stop = rh.some in
    let fit_l : low.stop ≤ 4096 = rl.fits in
    let fit_h : high.stop ≤ 4096 = rh.fits in
    let c : ℕ = low.name in
    record {
      known = any-map (joined low.name high.name) (λ e. e.class == min low.name high.name) (λ e. e.class == low.name || e.class == high.name) h.entries (λ e. joined-merged low.name high.name e)
          ∙ any-either (λ e. e.class == low.name || e.class == high.name) (λ e. e.class == low.name) (λ e. e.class == high.name) h.entries (λ e. refl) ∙ or_left _ _ rl.known;
      named_by_member = among-merged low high ms (min low.name high.name) pm ∙ (elim (min_is low.name high.name (min low.name high.name) refl) [
        | inl is ↦ or_left _ _ (ap (is_among low.members) is ∙ rl.named_by_member)
        | inr is ↦ or_right (is_among low.members (min low.name high.name)) _ (ap (is_among high.members) is ∙ rh.named_by_member)
      ]);
      members = λ n. among-merged low high ms n pm
          ∙ ap (λ z. z || is_among high.members n) (rl.members n) ∙ ap (λ z. list_any (λ e. e.patch.no == n && e.class == low.name) h.entries || z) (rh.members n)
          ∙ sym (any-map (joined low.name high.name) (λ e. e.patch.no == n && e.class == min low.name high.name) (λ e. e.patch.no == n && (e.class == low.name || e.class == high.name)) h.entries
          (λ e. ap (λ z. z.no == n && (joined low.name high.name e).class == min low.name high.name) (patch-joined low.name high.name e) ∙ ap (λ z. e.patch.no == n && z) (joined-merged low.name high.name e))
          ∙ any-either (λ e. e.patch.no == n && (e.class == low.name || e.class == high.name)) (λ e. e.patch.no == n && e.class == low.name) (λ e. e.patch.no == n && e.class == high.name) h.entries
          (λ e. and_or (e.patch.no == n) (e.class == low.name) (e.class == high.name)));
      after = λ n t. names-merged h low.name high.name n ∙ (elim (or_cases (is_among low.after n) (is_among high.after n) (sym (after-merged low high us n pa) ∙ t)) [
        | inl u ↦ or_left _ (class_names h high.name n) (rl.after n u)
        | inr u ↦ or_right (class_names h low.name n) _ (rh.after n u)
      ]);
      marked = λ y i of. let q = map-In (joined low.name high.name) h.entries y i in
          let is : (q.0.class == low.name || q.0.class == high.name) ≡ true = sym (joined-merged low.name high.name q.0) ∙ eq-eqb _ _ (ap (λ z. z.class) q.2 ∙ of) in
          let old : (is_durable q.0 ≡ false) × (is_memory q.0 ≡ true) × (q.0.hard ≡ false) = elim (or_cases (q.0.class == low.name) (q.0.class == high.name) is) [
            | inl u ↦ soft-of h low rl may_l q.0 q.1 (eqb-true _ _ u)
            | inr u ↦ soft-of h high rh may_h q.0 q.1 (eqb-true _ _ u)
          ] in (
            ap is_durable (sym q.2) ∙ ap marks_durable (mark-joined low.name high.name q.0) ∙ old.0,
            ap is_memory (sym q.2) ∙ ap marks_memory (mark-joined low.name high.name q.0) ∙ old.1,
            ap (λ z. z.hard) (sym q.2) ∙ hard-joined low.name high.name q.0 ∙ old.2,
          );
      span = λ x. spans-merged low high ms us space x near_a near_b some_l some_h ∙ ap (λ z. z || spans high x) (rl.span x) ∙ ap (λ z. class_covers h low.name x || z) (rh.span x)
          ∙ sym (covers-merged h low.name high.name x);
      flag = refl;
      some = omega arith;
      fits = omega arith;
      long = λ m. merged-long low high ms us space (rl.long may_l) (rh.long may_h) some_l some_h;
      no_saved = λ m. absurd (cc);
      saved = λ m x on. merged-saved h low high ms us space x o rl rh may_l may_h two none (sym (spans-merged low high ms us space x near_a near_b some_l some_h) ∙ on);
    }

pub merged-class : (h : History) (low high m : Class) → IsMerged low high m → IsCoherent h → IsClassOf h [] low → IsClassOf h [] high → may_be_taken low ≡ true → may_be_taken high ≡ true
    → low.name ≢ high.name → class_depends_on h low.name high.name ≡ false → low.start ≤ high.stop → high.start ≤ low.stop
    → IsClassOf (with_joined h low.name high.name) [] m
merged-class h low high m is o rl rh may_l may_h two none near_a near_b =
    subst (λ z. IsClassOf (with_joined h low.name high.name) [] z) (sym is.is)
    (merged-class_of h low high m.members m.after m.room is.members is.after o rl rh may_l may_h two none near_a near_b)

-- the two classes stand together: what lies between them in the list does not keep the higher one up
pub record MayJoinAt (b : Block) (h : History) (low high : ℕ) : Type 0 where
  pub less : low < high
  pub within : high < length b.classes
  pub may_low : may_be_taken (class_at b low) ≡ true
  pub may_high : may_be_taken (class_at b high) ≡ true
  pub near_a : (class_at b low).start ≤ (class_at b high).stop
  pub near_b : (class_at b high).start ≤ (class_at b low).stop
  pub free : (k : ℕ) → low < k → k < high → class_depends h.entries (class_at b high).name (class_at b k).name ≡ false

joins_of : (b : Block) (h : History) (low high : ℕ) (ms us : List ℕ) (space : ℕ) → IsBlockOf b [] h → MayJoinAt b h low high
    → IsPermutation ((class_at b low).members ++ (class_at b high).members) ms → IsPermutation ((class_at b low).after ++ (class_at b high).after) us
    → IsBlockOf (settled_at b low high (merged (class_at b low) (class_at b high) ms us space)) [] (with_joined h (class_at b low).name (class_at b high).name)
joins_of b h low high ms us space r m pm pa =
    let c : Class = merged (class_at b low) (class_at b high) ms us space in
    let is_c : IsMerged (class_at b low) (class_at b high) (merged (class_at b low) (class_at b high) ms us space) = record { members = pm; after = pa; is = refl } in
    let less = m.less in
    let within = m.within in
    let w_low : low < length b.classes = omega arith in
    let l : length (slice_set b.classes low c) ≡ length b.classes = length-set b.classes low c in
    let w_set : high < length (slice_set b.classes low c) = omega arith in
    let lr : length (settled_at b low high c).classes + 1 ≡ length (slice_set b.classes low c) = length-remove (slice_set b.classes low c) high w_set in
    let rl = r.classes low w_low in
    let rh = r.classes high within in
    let two : (class_at b low).name ≢ (class_at b high).name = (λ q. let e : low ≡ high = r.distinct low high w_low within q in absurd (omega arith)) in
    let none : class_depends_on h (class_at b low).name (class_at b high).name ≡ false = ordered_on r low high less within in
    let at_ : (i : ℕ) → ((i ≡ low) × (stood high i ≡ low) × (class_at (settled_at b low high c) i ≡ c))
    ⊎ ((stood high i ≢ low) × (i ≢ low) × (class_at (settled_at b low high c) i ≡ class_at b (stood high i))) = (λ i. joined_place b low high i c less within) in
    let w : (i : ℕ) → i < length (settled_at b low high c).classes → stood high i < length b.classes = (λ i h_i. elim (stood_is high i) [ inl s ↦ omega arith | inr s ↦ omega arith ]) in
    let away : (i : ℕ) → stood high i ≢ high = (λ i q. elim (stood_is high i) [ inl s ↦ omega arith | inr s ↦ omega arith ]) in
    let not_low : (i : ℕ) → i < length (settled_at b low high c).classes → stood high i ≢ low → (class_at b (stood high i)).name ≢ (class_at b low).name =
    (λ i h_i s q. s (r.distinct (stood high i) low (w i h_i) w_low q)) in
    let not_high : (i : ℕ) → i < length (settled_at b low high c).classes → (class_at b (stood high i)).name ≢ (class_at b high).name =
    (λ i h_i q. away i (r.distinct (stood high i) high (w i h_i) within q)) in
    record {
      coherent = orderly-joined h (class_at b low).name (class_at b high).name r.coherent (λ e i is. elim is [
        | inl q ↦ let s = soft-of h (class_at b low) rl m.may_low e i q in (s.1, s.2)
        | inr q ↦ let s = soft-of h (class_at b high) rh m.may_high e i q in (s.1, s.2)
      ]);
      holds = none-held (with_joined h (class_at b low).name (class_at b high).name);
      bytes = r.bytes ∙ sym (without-joined h (class_at b low).name (class_at b high).name);
      classes = λ i h_i. elim (at_ i) [
        | inl s ↦ rw s.2 (merged-class h (class_at b low) (class_at b high) c is_c r.coherent rl rh m.may_low m.may_high two none m.near_a m.near_b)
        | inr s ↦ rw s.2 (apart-class h (class_at b low).name (class_at b high).name (class_at b (stood high i)) (r.classes (stood high i) (w i h_i)) (not_low i h_i s.0) (not_high i h_i))
      ];
      complete = λ y i t. let q = map-In (joined (class_at b low).name (class_at b high).name) h.entries y i in
          let of : (joined (class_at b low).name (class_at b high).name q.0).class ≡ y.class = ap (λ z. z.class) q.2 in
          elim (cases_in (class_at b low).name (class_at b high).name q.0) [
            | inl is ↦ named-remove (slice_set b.classes low c) high y.class low w_set (omega arith) (omega arith)
                (ap (λ k. k.name) (get_or-set_same b.classes low c no_class w_low) ∙ sym (joined-in (class_at b low).name (class_at b high).name q.0 is) ∙ of)
            | inr out ↦
                let low_ : is_durable q.0 ≡ false = ap marks_durable (sym (mark-joined (class_at b low).name (class_at b high).name q.0)) ∙ ap is_durable q.2 ∙ t in
                let k = record_of b [] h q.0 r q.1 low_ in
                let ne_h : k.0 ≢ high = (λ z. out.1 (sym k.2 ∙ ap (λ n. (class_at b n).name) z)) in
                let ne_l : k.0 ≢ low = (λ z. out.0 (sym k.2 ∙ ap (λ n. (class_at b n).name) z)) in
                named-remove (slice_set b.classes low c) high y.class k.0 w_set (rw l k.1) ne_h
                (ap (λ d. d.name) (get_or-set_other b.classes low k.0 c no_class ne_l) ∙ k.2
                ∙ ap (λ z. z.class) (sym (joined-out (class_at b low).name (class_at b high).name q.0 out.0 out.1)) ∙ of)
          ];
      distinct = λ i j h_i h_j same. elim (at_ i) [
        | inl s ↦ elim (at_ j) [
          | inl t ↦ s.0 ∙ sym t.0
          | inr t ↦ absurd (let n : (class_at b (stood high j)).name ≡ min (class_at b low).name (class_at b high).name = sym (ap (λ d. d.name) t.2) ∙ sym same ∙ ap (λ d. d.name) s.2 in
              elim (min_is (class_at b low).name (class_at b high).name (class_at b (stood high j)).name n) [ inl q ↦ not_low j h_j t.0 q | inr q ↦ not_high j h_j q ])
        ]
        | inr s ↦ elim (at_ j) [
          | inl t ↦ absurd (let n : (class_at b (stood high i)).name ≡ min (class_at b low).name (class_at b high).name = sym (ap (λ d. d.name) s.2) ∙ same ∙ ap (λ d. d.name) t.2 in
              elim (min_is (class_at b low).name (class_at b high).name (class_at b (stood high i)).name n) [ inl q ↦ not_low i h_i s.0 q | inr q ↦ not_high i h_i q ])
          | inr t ↦
              let e : stood high i ≡ stood high j = r.distinct (stood high i) (stood high j) (w i h_i) (w j h_j) (sym (ap (λ d. d.name) s.2) ∙ same ∙ ap (λ d. d.name) t.2) in
              elim (stood_is high i) [ inl u ↦ elim (stood_is high j) [ inl v ↦ omega arith | inr v ↦ omega arith ] | inr u ↦ elim (stood_is high j) [ inl v ↦ omega arith | inr v ↦ omega arith ] ]
        ]
      ];
      named = λ i j n h_i h_j on goes.
          let k = was-member b low high j n ms us space less within pm h_j on in
          elim (at_ i) [
            | inl s ↦
                let either : (class_names h (class_at b low).name n || class_names h (class_at b high).name n) ≡ true =
                sym (names-merged h (class_at b low).name (class_at b high).name n)
                ∙ ap (λ d. class_names (with_joined h (class_at b low).name (class_at b high).name) d.name n) (sym s.2) ∙ goes in
                ap (λ d. is_among d.after n) s.2 ∙ after-merged (class_at b low) (class_at b high) us n pa
                ∙ (elim (or_cases (class_names h (class_at b low).name n) (class_names h (class_at b high).name n) either) [
                  | inl u ↦ or_left _ (is_among (class_at b high).after n) (r.named low k.0 n w_low k.1 k.2 u)
                  | inr u ↦ or_right (is_among (class_at b low).after n) _ (r.named high k.0 n within k.1 k.2 u)
                ])
            | inr s ↦
                let goes_on : class_names h (class_at b (stood high i)).name n ≡ true =
                sym (names-apart h (class_at b low).name (class_at b high).name (class_at b (stood high i)).name n (not_low i h_i s.0) (not_high i h_i))
                ∙ ap (λ d. class_names (with_joined h (class_at b low).name (class_at b high).name) d.name n) (sym s.2) ∙ goes in
                ap (λ d. is_among d.after n) s.2 ∙ r.named (stood high i) k.0 n (w i h_i) k.1 k.2 goes_on
          ];
      ordered = λ i j lt h_j.
          let h_i : i < length (settled_at b low high c).classes = omega arith in
          let lts : stood high i < stood high j = elim (stood_is high i) [ inl u ↦ elim (stood_is high j) [ inl v ↦ omega arith | inr v ↦ omega arith ] | inr u ↦ elim (stood_is high j) [ inl v ↦ omega arith | inr v ↦ omega arith ] ] in
          elim (at_ i) [
            | inl s ↦ elim (at_ j) [
              | inl t ↦ absurd (omega arith)
              | inr t ↦ let sl = s.1 in let nl = not_low j h_j t.0 in let nh = not_high j h_j in
                  rw (s.2, t.2) (never-from (with_joined h (class_at b low).name (class_at b high).name) (min (class_at b low).name (class_at b high).name) (class_at b (stood high j)).name
                  (depends-merged h (class_at b low).name (class_at b high).name (class_at b (stood high j)).name nl nh
                  ∙ or_from _ _ (ordered_on r low (stood high j) (omega arith) (w j h_j))
                  (elim (cases_order (stood high j) high) [
                    | inl q ↦ absurd (away j q)
                    | inr q ↦ elim q [
                      | inl before ↦ sym (class_depends-apart h (class_at b high).name (class_at b (stood high j)).name (λ z. nh (sym z))) ∙ m.free (stood high j) (omega arith) before
                      | inr behind ↦ ordered_on r high (stood high j) behind (w j h_j)
                    ]
                  ])))
            ]
            | inr s ↦ let nl = not_low i h_i s.0 in let nh = not_high i h_i in elim (at_ j) [
              | inl t ↦ let tl = t.1 in
                  rw (s.2, t.2) (never-from (with_joined h (class_at b low).name (class_at b high).name) (class_at b (stood high i)).name (min (class_at b low).name (class_at b high).name)
                  (depends-on_merged h (class_at b low).name (class_at b high).name (class_at b (stood high i)).name nl nh
                  ∙ or_from _ _ (ordered_on r (stood high i) low (omega arith) w_low) (ordered_on r (stood high i) high (omega arith) within)))
              | inr t ↦
                  rw (s.2, t.2) (never-from (with_joined h (class_at b low).name (class_at b high).name) (class_at b (stood high i)).name (class_at b (stood high j)).name
                  (depends-others h (class_at b low).name (class_at b high).name (class_at b (stood high i)).name (class_at b (stood high j)).name nl nh
                  (not_low j h_j t.0) (not_high j h_j)
                  ∙ ordered_on r (stood high i) (stood high j) lts (w j h_j)))
            ]
          ];
    }

pub joins : (b : Block) (h : History) (low high : ℕ) (c : Class) → IsBlockOf b [] h → MayJoinAt b h low high → IsMerged (class_at b low) (class_at b high) c
    → IsBlockOf (settled_at b low high c) [] (with_joined h (class_at b low).name (class_at b high).name)
joins b h low high c r m is_c = subst (λ z. IsBlockOf (settled_at b low high z) [] (with_joined h (class_at b low).name (class_at b high).name)) (sym is_c.is)
    (joins_of b h low high c.members c.after c.room r m is_c.members is_c.after)
