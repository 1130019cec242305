-- What lies between two classes.
use Rattle.std.proofs.Common.{◌≡◌, ℕ, ◌+◌, ◌<◌, ◌≤◌, ◌⊎◌, ◌∙◌, inl, inr, Bool, true, false, not, List, length, refl, sym, ap, arith, subst, Option, Some, None}
use Rattle.std.specs.Prelude.{◌==◌, ◌&&◌, nat_lt, if◌then◌else◌, slice_index_or, slice_set}
use Rattle.std.specs.Option.{option_map, option_map_or}
use Rattle.std.proofs.lemmas.Bool.{cases_Bool, cases_eq, and_parts, and_from, or_cases, both_ways, eqb-true, eq-eqb, ne_eqb, ltb-true, ltb-false, not-true, false_from_ne_true}
use Rattle.std.proofs.lemmas.List.{get_or-set_same, get_or-set_other, length-set}
use Rattle.patch_model.specs.Entry.{Entry, is_live, is_among}
use Rattle.patch_model.specs.Dependency.{Path, LiesBetween, shares_byte, one as one_path, onward as onward_path}
use Rattle.patch_model.specs.Member.{list_any-at, list_any-from}
use Rattle.patch_model.proofs.Rings.{Path-append}
use Rattle.patch_links.specs.State.{Class, Slots, find, class_at}
use Rattle.patch_graph.specs.State.{Graph, KeysFit}
use Rattle.patch_graph.specs.Marks.{is_marked, AreClear, HoldsMarked}
use Rattle.patch_links.specs.Ready.{Escapes, out, on, IsLargestMet}
use Rattle.patch_graph.specs.Meaning.{Leads, one, onward, DependsOn, IsLiveClass, IsGraphOf}
use Rattle.patch_graph.specs.Search.{steps, IsReachable}
use Rattle.patch_graph.specs.declared.searching.Way.TheVariants.{Down}
use Rattle.patch_graph.specs.Between.{lies, lesser, name_if, IsLeastOf, AreWithout, HasNoRing, is_newest, IsLeastBetween}
use Rattle.patch_graph.proofs.Facts.{known}
use Rattle.patch_graph.proofs.Places.{place-of}
use Rattle.patch_graph.proofs.Settling.{marked_below}
use Rattle.patch_graph.proofs.ReadySet.{closed, placed, class_same}
use Rattle.patch_graph.proofs.Reaching.{reaches_is, marked-step, marked-path, Leads-path, path-leads, from-depends, one-key, reached-down}

-- so far, where the copy was clear at first
pub record IsPartWithout (to : ℕ) (marks : List Bool) (keys : List ℕ) (old rest : List Bool) (upto : ℕ) : Type 0 where
  pub sound : (key : ℕ) → is_marked rest key ≡ true → (is_marked marks key && not (key == to)) ≡ true
  pub complete : (i : ℕ) → i < upto → (is_marked marks (slice_index_or keys i 0) && not (slice_index_or keys i 0 == to)) ≡ true → is_marked rest (slice_index_or keys i 0) ≡ true
  pub long : length rest ≡ length old

-- what escapes from the marks without one key leads to that key
pub escapes-leads : (g : Graph) (all : List Entry) (r : IsGraphOf g all) (from to : ℕ) (marks : List Bool) (start : ℕ → Bool) → IsReachable (steps g.slots g.numbers Down) from to marks → KeysFit g.slots (length marks)
    → ((key : ℕ) → start key ≡ (is_marked marks key && not (key == to))) → (k : ℕ) → start k ≡ true → Escapes g.slots g.numbers start k → Leads g.slots g.numbers k to
escapes-leads g all r from to marks start s low is k m (out {j = j} c at t u) =
    let m1 = and_parts (is_marked marks k) (not (k == to)) (sym (is k) ∙ m) in
    let m2 = marked-step g all r from to marks s low k j c m1.0 (λ e. both_ways _ (not-true _ m1.1) (eq-eqb k to e)) at t in
    let e : j ≡ to = elim (cases_eq j to) [
      | inl e ↦ e
      | inr d ↦ let v : start j ≡ true = is j ∙ and_from _ _ m2 (ap not (ne_eqb j to d)) in absurd (both_ways _ u v)
    ] in
    subst (λ z. Leads g.slots g.numbers k z) e (one c at t)
escapes-leads g all r from to marks start s low is k m (on {j = j} c at t e) =
    let m1 = and_parts (is_marked marks k) (not (k == to)) (sym (is k) ∙ m) in
    let m2 = marked-step g all r from to marks s low k j c m1.0 (λ e. both_ways _ (not-true _ m1.1) (eq-eqb k to e)) at t in
    elim (cases_eq j to) [
      | inl e2 ↦ subst (λ z. Leads g.slots g.numbers k z) e2 (one c at t)
      | inr d ↦ onward c at t (escapes-leads g all r from to marks start s low is j (is j ∙ and_from _ _ m2 (ap not (ne_eqb j to d))) e)
    ]

-- what is left over leads never to the key, and the rest of the marked classes do
pub left_over : (g : Graph) (from to : ℕ) (marks : List Bool) (start rest : ℕ → Bool) → ((key : ℕ) → start key ≡ (is_marked marks key && not (key == to)))
    → IsLargestMet g.slots g.numbers start rest → (k : ℕ) → rest k ≡ true → Leads g.slots g.numbers k to → ⊥
left_over g from to marks start rest is l k t way =
    let there = l.inside to (closed g.slots g.numbers rest l.met k to way t) in
    let two = and_parts (is_marked marks to) (not (to == to)) (sym (is to) ∙ there) in
    both_ways _ (not-true _ two.1) (eq-eqb to to refl)

least-same : (slots : Slots) (test : ℕ → Bool) (keys : List ℕ) (n : ℕ) (o : Option ℕ) → IsLeastOf slots test keys n o
    → ((c : Class) → class_at slots (slice_index_or keys n 0) ≡ Some c → test (slice_index_or keys n 0) ≡ true → ⊥) → IsLeastOf slots test keys (n + 1) o
least-same slots test keys n None p none = λ i c h at t. elim (cases_eq i n) [
  | inl e ↦ none c (ap (λ k. class_at slots (slice_index_or keys k 0)) (sym e) ∙ at) (ap (λ k. test (slice_index_or keys k 0)) (sym e) ∙ t)
  | inr d ↦ p i c (omega arith) at t
]
least-same slots test keys n (Some m) p none = (
  p.0,
  λ i c h at t. elim (cases_eq i n) [
    | inl e ↦ absurd (none c (ap (λ k. class_at slots (slice_index_or keys k 0)) (sym e) ∙ at) (ap (λ k. test (slice_index_or keys k 0)) (sym e) ∙ t))
    | inr d ↦ p.1 i c (omega arith) at t
  ],
)

-- two classes at one place have one name
same-name : (slots : Slots) (keys : List ℕ) (i n : ℕ) (c d : Class) → i ≡ n → class_at slots (slice_index_or keys i 0) ≡ Some d → class_at slots (slice_index_or keys n 0) ≡ Some c → d.name ≡ c.name
same-name slots keys i n c d e at2 at = ap (λ z. z.name) (class_same d c (sym at2 ∙ ap (λ k. class_at slots (slice_index_or keys k 0)) e ∙ at))

least-new : (slots : Slots) (test : ℕ → Bool) (keys : List ℕ) (n : ℕ) (o : Option ℕ) (c : Class) → IsLeastOf slots test keys n o → class_at slots (slice_index_or keys n 0) ≡ Some c
    → test (slice_index_or keys n 0) ≡ true → IsLeastOf slots test keys (n + 1) (lesser o (Some c.name))
least-new slots test keys n None c p at t = (
  (slice_index_or keys n 0, c, at, t, refl),
  λ i d h at2 t2. elim (cases_eq i n) [
    | inl e ↦ let names = same-name slots keys i n c d e at2 at in omega arith
    | inr d2 ↦ absurd (p i d (omega arith) at2 t2)
  ],
)
least-new slots test keys n (Some m) c p at t = elim (cases_Bool (nat_lt m c.name)) [
  | inl u ↦
      let less : m < c.name = ltb-true m c.name u in
      rw u (
        p.0,
        λ i d h at2 t2. elim (cases_eq i n) [
          | inl e ↦ let names = same-name slots keys i n c d e at2 at in omega arith
          | inr d2 ↦ p.1 i d (omega arith) at2 t2
        ],
      )
  | inr u ↦
      let more : c.name ≤ m = ltb-false m c.name u in
      rw u (
        (slice_index_or keys n 0, c, at, t, refl),
        λ i d h at2 t2. elim (cases_eq i n) [
          | inl e ↦ let names = same-name slots keys i n c d e at2 at in omega arith
          | inr d2 ↦ let a : m ≤ d.name = p.1 i d (omega arith) at2 t2 in omega arith
        ],
      )
]

lesser-none : (o : Option ℕ) → lesser o None ≡ o
lesser-none None = refl
lesser-none (Some a) = refl

cases_slot : (slots : Slots) (key : ℕ) → (class_at slots key ≡ None) ⊎ ((c : Class) × (class_at slots key ≡ Some c))
cases_slot slots key = elim (class_at slots key) as (λ o. (o ≡ None) ⊎ ((c : Class) × (o ≡ Some c))) [ None ↦ inl refl | Some c ↦ inr (c, refl) ]

pub least-none : (slots : Slots) (test : ℕ → Bool) (keys : List ℕ) → IsLeastOf slots test keys 0 None
least-none slots test keys i c h at t = absurd (omega arith)

-- with one more key
pub least-more : (slots : Slots) (test : ℕ → Bool) (keys : List ℕ) (n : ℕ) (o : Option ℕ) → IsLeastOf slots test keys n o
    → IsLeastOf slots test keys (n + 1) (lesser o (name_if slots test (slice_index_or keys n 0)))
least-more slots test keys n o p =
    let key = slice_index_or keys n 0 in
    elim (cases_Bool (test key)) [
      | inr u ↦
          let e : name_if slots test key ≡ None = ap (λ b. if b then option_map (λ c. c.name) (class_at slots key) else None) u in
          subst (IsLeastOf slots test keys (n + 1)) (sym (ap (lesser o) e ∙ lesser-none o)) (least-same slots test keys n o p (λ c at t. both_ways _ u t))
      | inl u ↦ elim (cases_slot slots key) [
        | inl none ↦
            let e : name_if slots test key ≡ None = ap (λ b. if b then option_map (λ c. c.name) (class_at slots key) else None) u ∙ ap (option_map (λ c. c.name)) none in
            subst (IsLeastOf slots test keys (n + 1)) (sym (ap (lesser o) e ∙ lesser-none o)) (least-same slots test keys n o p (λ c at t. cc))
        | inr c ↦
            let e : name_if slots test key ≡ Some c.0.name = ap (λ b. if b then option_map (λ c. c.name) (class_at slots key) else None) u ∙ ap (option_map (λ c. c.name)) c.1 in
            subst (IsLeastOf slots test keys (n + 1)) (sym (ap (lesser o) e)) (least-new slots test keys n o c.0 p c.1 u)
      ]
    ]

-- a copy without one key
pub without-none : (to : ℕ) (marks : List Bool) (keys : List ℕ) (rest : List Bool) → AreClear rest → IsPartWithout to marks keys rest rest 0
without-none to marks keys rest clear = record { sound = λ k t. absurd (both_ways _ (clear k) t); complete = λ i h. absurd (omega arith); long = refl }

pub without-one : (to : ℕ) (marks : List Bool) (keys : List ℕ) (old rest : List Bool) (upto key : ℕ) → length marks ≤ length old → slice_index_or keys upto 0 ≡ key
    → (is_marked marks key && not (key == to)) ≡ true → IsPartWithout to marks keys old rest upto → IsPartWithout to marks keys old (slice_set rest key true) (upto + 1)
without-one to marks keys old rest upto key short here t p =
    let low = marked_below marks key (and_parts (is_marked marks key) (not (key == to)) t).0 in
    let long = p.long in
    let on : is_marked (slice_set rest key true) key ≡ true = get_or-set_same rest key true false (omega arith) in
    record {
      sound = λ k u. elim (cases_eq k key) [ inl e ↦ ap (λ z. is_marked marks z && not (z == to)) e ∙ t | inr d ↦ p.sound k (sym (get_or-set_other rest key k true false d) ∙ u) ];
      complete = λ i h u. elim (cases_eq (slice_index_or keys i 0) key) [
        | inl e ↦ ap (is_marked (slice_set rest key true)) e ∙ on
        | inr d ↦ get_or-set_other rest key (slice_index_or keys i 0) true false d ∙ p.complete i (elim (cases_eq i upto) [ inl s ↦ absurd (d (ap (λ j. slice_index_or keys j 0) s ∙ here)) | inr s ↦ omega arith ]) u
      ];
      long = length-set rest key true ∙ p.long;
    }

pub without-not : (to : ℕ) (marks : List Bool) (keys : List ℕ) (old rest : List Bool) (upto key : ℕ) → slice_index_or keys upto 0 ≡ key
    → (is_marked marks key && not (key == to)) ≡ false → IsPartWithout to marks keys old rest upto → IsPartWithout to marks keys old rest (upto + 1)
without-not to marks keys old rest upto key here t p = record {
  sound = p.sound;
  complete = λ i h u. elim (cases_eq i upto) [
    | inl s ↦ absurd (both_ways _ (ap (λ z. is_marked marks z && not (z == to)) (ap (λ j. slice_index_or keys j 0) s ∙ here) ∙ t) u)
    | inr s ↦ p.complete i (omega arith) u
  ];
  long = p.long;
}

pub without-all : (to : ℕ) (marks : List Bool) (keys : List ℕ) (old rest : List Bool) (upto : ℕ) → length keys ≡ upto → HoldsMarked marks keys
    → IsPartWithout to marks keys old rest upto → AreWithout to marks rest
without-all to marks keys old rest upto all held p key = elim (cases_Bool (is_marked marks key && not (key == to))) [
  | inl t ↦
      let i = place-of keys key (held key (and_parts (is_marked marks key) (not (key == to)) t).0) in
      let b = i.1 in
      sym (ap (is_marked rest) i.2) ∙ p.complete i.0 (omega arith) (ap (λ z. is_marked marks z && not (z == to)) i.2 ∙ t) ∙ sym t
  | inr t ↦ false_from_ne_true _ (λ u. both_ways _ t (p.sound key u)) ∙ sym t
]

pub without-held : (to : ℕ) (marks : List Bool) (keys : List ℕ) (rest : List Bool) → HoldsMarked marks keys → AreWithout to marks rest → HoldsMarked rest keys
without-held to marks keys rest held w key t = held key (and_parts (is_marked marks key) (not (key == to)) (sym (w key) ∙ t)).0

module _ (g : Graph) (all : List Entry) (r : IsGraphOf g all) where
  module _ (x y from to : ℕ) (cx cy : Class) (keys : List ℕ) (marks old rest : List Bool) (low : KeysFit g.slots (length marks)) (no_ring : HasNoRing all) (held : HoldsMarked marks keys)
      (ax : class_at g.slots from ≡ Some cx) (ay : class_at g.slots to ≡ Some cy) (nx : cx.name ≡ x) (ny : cy.name ≡ y)
      (s : IsReachable (steps g.slots g.numbers Down) from to marks) (w : AreWithout to marks old) (l : IsLargestMet g.slots g.numbers (is_marked old) (is_marked rest)) where
    test-lies : (k : ℕ) (c : Class) → class_at g.slots k ≡ Some c → lies marks rest from to k ≡ true → LiesBetween all x y c.name
    test-lies k c at t =
        let t1 = and_parts (is_marked marks k && not (is_marked rest k)) (not (k == from) && not (k == to)) t in
        let t2 = and_parts (is_marked marks k) (not (is_marked rest k)) t1.0 in
        let t3 = and_parts (not (k == from)) (not (k == to)) t1.1 in
        let not_from : k ≡ from → ⊥ = λ e. both_ways _ (not-true _ t3.0) (eq-eqb k from e) in
        let not_to : k ≡ to → ⊥ = λ e. both_ways _ (not-true _ t3.1) (eq-eqb k to e) in
        let differ_x : c.name ≡ x → ⊥ = λ e. not_from (one-key g all r k from c cx at ax (e ∙ sym nx)) in
        let differ_y : c.name ≡ y → ⊥ = λ e. not_to (one-key g all r k to c cy at ay (e ∙ sym ny)) in
        let v = r.classes k c at in
        let start : is_marked old k ≡ true = w k ∙ and_from _ _ t2.0 t3.1 in
        let way = escapes-leads g all r from to marks (is_marked old) s low w k start (l.escapes k start (not-true _ t2.1)) in
        record {
          live = list_any-from (λ e. e.class == c.name && is_live e) all v.some.0 v.some.1 (and_from _ _ (eq-eqb v.some.0.class c.name v.some.2) (ap not (v.live v.some.0 v.some.1 v.some.2)));
          not_first = differ_x;
          not_last = differ_y;
          from = elim (reached-down g.slots g.numbers from k (s.reached k t2.0)) [
            | inl e ↦ absurd (not_from (sym e))
            | inr q ↦ elim (Leads-path g all r from k cx c q ax at) [ inl e ↦ absurd (differ_x (sym e ∙ nx)) | inr p ↦ subst (λ z. Path all z c.name) nx p ]
          ];
          to = elim (Leads-path g all r k to c cy way at ay) [ inl e ↦ absurd (differ_y (e ∙ ny)) | inr p ↦ subst (λ z. Path all c.name z) ny p ];
        }

    lies-test : (m : ℕ) → LiesBetween all x y m → (k : ℕ) × (c : Class) × (class_at g.slots k ≡ Some c) × (lies marks rest from to k ≡ true) × (c.name ≡ m)
    lies-test m b =
        let e = list_any-at (λ e. e.class == m && is_live e) all b.live in
        let e2 = and_parts (e.0.class == m) (is_live e.0) e.2 in
        let of_m = eqb-true e.0.class m e2.0 in
        let f = r.found e.0 e.1 (not-true _ e2.1) in
        let named : f.1.name ≡ m = f.4 ∙ of_m in
        let not_from : f.0 ≡ from → ⊥ = λ k. b.not_first (sym named ∙ ap (λ z. z.name) (class_same f.1 cx (sym f.3 ∙ ap (class_at g.slots) k ∙ ax)) ∙ nx) in
        let not_to : f.0 ≡ to → ⊥ = λ k. b.not_last (sym named ∙ ap (λ z. z.name) (class_same f.1 cy (sym f.3 ∙ ap (class_at g.slots) k ∙ ay)) ∙ ny) in
        let hit : is_marked marks f.0 ≡ true = elim (marked-path g all r from to marks s low x m from f.0 cx f.1 b.from nx named ax f.3 s.first) [
          | inr h ↦ h
          | inl h ↦ elim (Leads-path g all r to f.0 cy f.1 h.1 ay f.3) [
            | inl e ↦ absurd (b.not_last (sym named ∙ sym e ∙ ny))
            | inr q ↦ absurd (no_ring y m (λ e. b.not_last (sym e)) (subst (λ z. Path all z m) ny (subst (λ z. Path all cy.name z) named q)) b.to)
          ]
        ] in
        let off : is_marked rest f.0 ≡ false = false_from_ne_true _ (λ t. elim (path-leads g all r m y f.0 to f.1 cy b.to named ny f.3 ay) [
          | inl k ↦ not_to k
          | inr q ↦ left_over g from to marks (is_marked old) (is_marked rest) w l f.0 t q
        ]) in
        (f.0, f.1, f.3, and_from _ _ (and_from _ _ hit (ap not off)) (and_from _ _ (ap not (ne_eqb f.0 from not_from)) (ap not (ne_eqb f.0 to not_to))), named)

    pub least-lies : (o : Option ℕ) → IsLeastOf g.slots (lies marks rest from to) keys (length keys) o → IsLeastBetween all x y o
    least-lies None p = λ m b.
        let k = lies-test m b in
        let t = and_parts (is_marked marks k.0 && not (is_marked rest k.0)) (not (k.0 == from) && not (k.0 == to)) k.3 in
        let i = place-of keys k.0 (held k.0 (and_parts (is_marked marks k.0) (not (is_marked rest k.0)) t.0).0) in
        p i.0 k.1 i.1 (ap (class_at g.slots) i.2 ∙ k.2) (ap (lies marks rest from to) i.2 ∙ k.3)
    least-lies (Some m) p = (
      subst (LiesBetween all x y) p.0.4 (test-lies p.0.0 p.0.1 p.0.2 p.0.3),
      λ n b.
          let k = lies-test n b in
          let t = and_parts (is_marked marks k.0 && not (is_marked rest k.0)) (not (k.0 == from) && not (k.0 == to)) k.3 in
          let i = place-of keys k.0 (held k.0 (and_parts (is_marked marks k.0) (not (is_marked rest k.0)) t.0).0) in
          let a : m ≤ k.1.name = p.1 i.0 k.1 i.1 (ap (class_at g.slots) i.2 ∙ k.2) (ap (lies marks rest from to) i.2 ∙ k.3) in
          let e = k.4 in omega arith,
    )

pub between_is : (g : Graph) (all : List Entry) (a b x y from to : ℕ) (keys : List ℕ) (marks old rest : List Bool) (o : Option ℕ) → IsGraphOf g all → HasNoRing all → KeysFit g.slots (length marks)
    → IsLiveClass all a x → IsLiveClass all b y → find g.numbers a ≡ Some from → find g.numbers b ≡ Some to → HoldsMarked marks keys
    → IsReachable (steps g.slots g.numbers Down) from to marks → AreWithout to marks old → IsLargestMet g.slots g.numbers (is_marked old) (is_marked rest)
    → IsLeastOf g.slots (lies marks rest from to) keys (length keys) o → IsLeastBetween all x y o
between_is g all a b x y from to keys marks old rest o r no_ring low la lb fa fb held s w l least =
    let qa = placed g all r la.0 from la.1 (ap (find g.numbers) la.2 ∙ fa) in
    let qb = placed g all r lb.0 to lb.1 (ap (find g.numbers) lb.2 ∙ fb) in
    least-lies g all r x y from to qa.0 qb.0 keys marks old rest low no_ring held qa.1 qb.1 (qa.2 ∙ la.4) (qb.2 ∙ lb.4) s w l o least

-- where the one class isn't reached from the other, nothing lies between
pub unreached_is : (g : Graph) (all : List Entry) (a b x y from to : ℕ) (marks : List Bool) → IsGraphOf g all → KeysFit g.slots (length marks) → IsLiveClass all a x → IsLiveClass all b y
    → find g.numbers a ≡ Some from → find g.numbers b ≡ Some to → IsReachable (steps g.slots g.numbers Down) from to marks → is_marked marks to ≡ false → IsLeastBetween all x y None
unreached_is g all a b x y from to marks r low la lb fa fb s off m between =
    let qa = placed g all r la.0 from la.1 (ap (find g.numbers) la.2 ∙ fa) in
    let qb = placed g all r lb.0 to lb.1 (ap (find g.numbers) lb.2 ∙ fb) in
    let differ : from ≡ to → ⊥ = λ e. both_ways _ off (ap (is_marked marks) (sym e) ∙ s.first) in
    let other : x ≡ y → ⊥ = λ e. differ (one-key g all r from to qa.0 qb.0 qa.1 qb.1 ((qa.2 ∙ la.4) ∙ e ∙ sym (qb.2 ∙ lb.4))) in
    both_ways _ off ((reaches_is g all a b x y from to marks r low la lb differ fa fb s).1 (other, Path-append between.from between.to))

-- a path's last step
last-step : (all : List Entry) (a b : ℕ) → Path all a b → (m : ℕ) × DependsOn all m b
last-step all a b (one_path t) = (a, from-depends all a b t)
last-step all a b (onward_path {b = m} t p) = last-step all m b p

-- nothing depends on the class of the last number
pub newest_is : (g : Graph) (all : List Entry) (b x y to : ℕ) → IsGraphOf g all → IsLiveClass all b y → find g.numbers b ≡ Some to → is_newest g.slots to g.made ≡ true → IsLeastBetween all x y None
newest_is g all b x y to r lb fb t m between =
    let q = placed g all r lb.0 to lb.1 (ap (find g.numbers) lb.2 ∙ fb) in
    let t2 : (q.0.name + 1 == g.made) ≡ true = sym (ap (λ o. option_map_or (λ c. c.name + 1 == g.made) o false) q.1) ∙ t in
    let last : q.0.name + 1 ≡ g.made = eqb-true (q.0.name + 1) g.made t2 in
    let named : q.0.name ≡ y = q.2 ∙ lb.4 in
    let d = (last-step all m y between.to).1 in
    let made = r.made in
    let e_low = (known g all r).numbered d.e d.in_e in
    let f_high = (known g all r).least d.f d.in_f in
    let of_y = d.of_b in
    elim (or_cases (is_among d.e.patch.after d.f.patch.no) (nat_lt d.f.patch.no d.e.patch.no && shares_byte d.e.patch d.f.patch) d.depends) [
      | inl u ↦ let h = (known g all r).earlier d.e d.f.patch.no d.in_e u in omega arith
      | inr u ↦ let h : d.f.patch.no < d.e.patch.no = ltb-true d.f.patch.no d.e.patch.no (and_parts (nat_lt d.f.patch.no d.e.patch.no) (shares_byte d.e.patch d.f.patch) u).0 in omega arith
    ]
