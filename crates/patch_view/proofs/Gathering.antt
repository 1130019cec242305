-- Two classes made one, of a history that the records represent.
use Rattle.std.proofs.Common.{◌≡◌, ℕ, zero, suc, ◌+◌, ◌-◌, ◌<◌, ◌≤◌, ◌∙◌, true, false, not, inl, inr, List, [], ◌∷◌, length, map, min, refl, sym, ap, arith, subst}
use Rattle.std.specs.Prelude.{◌≢◌, ◌==◌, ◌&&◌, ◌||◌, Some, None, nat_le}
use Rattle.std.specs.List.{list_any}
use Rattle.patch_model.specs.Member.{list_any-at, list_any-from, In, Contains-from_In}
use Rattle.patch_model.specs.Dependency.{Path, one, onward, class_depends}
use Rattle.patch_model.specs.Legal.{touch}
use Rattle.patch_model.specs.Pile.{end, covers}
use Rattle.patch_model.specs.Entry.{Entry, is_memory, is_undoable}
use Rattle.patch_model.specs.State.{joined}
use Rattle.patch_model.specs.History.{History}
use Rattle.patch_model.specs.Orderly.{MayJoin}
use Rattle.patch_view.proofs.Resting.{linked_as}
use Rattle.patch_model.specs.Laying.{covers-to}
use Rattle.patch_records.proofs.Bytes.{spans-at}
use Rattle.patch_view.proofs.Joining.{joins, cases_in, joined-out}
use Rattle.patch_view.proofs.Chain.{undoable-not_durable}
use Rattle.patch_view.proofs.Answering.{no_place}
use Rattle.patch_view.proofs.Marking.{named_place}
use Rattle.patch_view.specs.Answers.{IsPatch}
use Rattle.std.proofs.lemmas.Bool.{cases_eq, cases_order, both_ways, and_parts, and_from, or_left, or_right, eq-eqb, eqb-true, leb-true, false_from_ne_true}
use Rattle.patch_view.specs.History.{IsCoherent, with_joined}
use Rattle.patch_records.specs.Records.{Class, no_class, spans, may_be_taken}
use Rattle.patch_stacks.specs.State.{Block, Joint, IsJoint, class_at, settled_at, place_of}
use Rattle.patch_records.specs.Merged.{IsMerged}
use Rattle.patch_stacks.specs.Rearranged.{IsRearranged, RestOn, AreNear, IsMadeOne}
use Rattle.patch_view.specs.Meaning.{IsClassOf, IsBlockOf}
use Rattle.patch_view.proofs.Steps.{record_of}
use Rattle.patch_view.proofs.Naming.{like_named}
use Rattle.std.proofs.lemmas.List.Folds.{list_any_at}
use Rattle.patch_stacks.proofs.Joints.{place-or-none}

-- a block's history stays what its records represent, in whatever order these stand above those that they follow
pub rearranged-represents : (a b : Block) (taken : List ℕ) (h : History) → IsRearranged a b → IsBlockOf a taken h → IsBlockOf b taken h
rearranged-represents a b taken h o r =
    let l = o.long in
    let w : (i : ℕ) → i < length b.classes → i < length a.classes = (λ i h_i. rw l at h_i) in
    record {
      coherent = r.coherent;
      holds = r.holds;
      bytes = o.bytes ∙ r.bytes;
      classes = λ i h_i. subst (λ c. IsClassOf h taken c) (sym (o.each i (w i h_i))) (r.classes (o.came i) (o.within i (w i h_i)));
      complete = λ e i low.
          let q = record_of a taken h e r i low in
          let p = o.all q.0 q.1 in
          list_any_at (λ c. c.name == e.class) b.classes p.0 no_class (rw l p.1) (eq-eqb _ _ (ap (λ c. c.name) (o.each p.0 p.1 ∙ ap (class_at a) p.2) ∙ q.2));
      distinct = λ i j h_i h_j same.
          let e : o.came i ≡ o.came j = r.distinct (o.came i) (o.came j) (o.within i (w i h_i)) (o.within j (w j h_j))
          (ap (λ c. c.name) (sym (o.each i (w i h_i))) ∙ same ∙ ap (λ c. c.name) (o.each j (w j h_j))) in
          elim (cases_order i j) [
            | inl q ↦ q
            | inr p ↦ elim p [
              | inl less ↦ elim (o.past i j less (w j h_j)) [ inl s ↦ absurd (omega arith) | inr s ↦ let t = s.0 in absurd (omega arith) ]
              | inr more ↦ elim (o.past j i more (w i h_i)) [ inl s ↦ absurd (omega arith) | inr s ↦ let t = s.0 in absurd (omega arith) ]
            ]
          ];
      named = like_named a b h h (λ i h_i.
          (o.came i, o.within i (w i h_i), ap (λ c. c.name) (o.each i (w i h_i)), ap (λ c. c.members) (o.each i (w i h_i)), ap (λ c. c.after) (o.each i (w i h_i)))) (λ c n. refl) r.named;
      ordered = λ i j less h_j.
          let w_j = o.within j (w j h_j) in
          let v_i : i < length a.classes = (let v = w j h_j in omega arith) in
          let w_i = o.within i v_i in
          rw (o.each i v_i, o.each j (w j h_j)) (elim (o.past i j less (w j h_j)) [
            | inl s ↦ r.ordered (o.came i) (o.came j) s w_j
            | inr s ↦ sym (linked_as r (o.came i) (o.came j) w_i w_j (λ q. let e : o.came i ≡ o.came j = r.distinct (o.came i) (o.came j) w_i w_j q in let t = s.0 in omega arith)) ∙ s.1
          ]);
    }

-- what rests on a class depends on it, directly or through others
rest-path : (b : Block) (h : History) (front k : ℕ) → IsBlockOf b [] h → k ≤ length b.classes → RestOn b front k
    → (n i : ℕ) → i < n → front < i → i < k → Path h.entries (class_at b i).name (class_at b front).name
rest-path b h front k r within on zero i none f t = absurd (omega arith)
rest-path b h front k r within on (suc n) i upto f t =
    let p = on i f t in
    let from : front ≤ p.0 = p.1 in
    let below : p.0 < i = p.2 in
    let w_i : i < length b.classes = omega arith in
    let w_m : p.0 < length b.classes = omega arith in
    let apart : (class_at b i).name ≢ (class_at b p.0).name = (λ q. let z : i ≡ p.0 = r.distinct i p.0 w_i w_m q in absurd (omega arith)) in
    let d : class_depends h.entries (class_at b i).name (class_at b p.0).name ≡ true = sym (linked_as r i p.0 w_i w_m apart) ∙ p.3 in
    elim (cases_eq p.0 front) [
      | inl is ↦ one (ap (λ n. class_depends h.entries (class_at b i).name (class_at b n).name) (sym is) ∙ d)
      | inr ne ↦ onward d (rest-path b h front k r within on n p.0 (omega arith) (omega arith) (omega arith))
    ]

-- a patch's bytes are in its class's span
member-span : (h : History) (k : Class) (e : Entry) → IsCoherent h → IsClassOf h [] k → In h.entries e → e.class ≡ k.name → (k.start ≤ e.patch.start) × (end e.patch ≤ k.stop)
member-span h k e o r i is =
    let some : 0 < length e.patch.bytes = o.some e i in
    let on : (x : ℕ) → e.patch.start ≤ x → x < end e.patch → spans k x ≡ true =
    (λ x f t. r.span x ∙ list_any-from (λ g. g.class == k.name && covers g.patch x) h.entries e i (and_from _ _ (eq-eqb _ _ is) (covers-to e.patch x f t))) in
    let a = spans-at k e.patch.start (on e.patch.start (omega arith) (omega arith)) in
    let b = spans-at k (end e.patch - 1) (on (end e.patch - 1) (omega arith) (omega arith)) in
    let last : end e.patch - 1 < k.stop = b.1 in
    (a.0, omega arith)

undoable-may : (h : History) (k : Class) → IsClassOf h [] k → ((e : Entry) → In h.entries e → e.class ≡ k.name → is_undoable e ≡ true) → may_be_taken k ≡ true
undoable-may h k r soft =
    let q = list_any-at (λ e. e.class == k.name) h.entries r.known in
    let is : q.0.class ≡ k.name = eqb-true _ _ q.2 in
    let m = r.marked q.0 q.1 is in
    ap (λ z. z && not k.hard) (sym m.1) ∙ ap (λ z. is_memory q.0 && not z) (sym m.2) ∙ soft q.0 q.1 is

-- two classes may be made one at the place of the lower one, where the higher one depends on none between them
placed-joins : (b : Block) (h : History) (low high : ℕ) (c : Class) → IsMerged (class_at b low) (class_at b high) c → low < high → high < length b.classes → IsBlockOf b [] h
    → MayJoin h.entries (class_at b low).name (class_at b high).name
    → ((k : ℕ) → low < k → k < high → class_depends h.entries (class_at b high).name (class_at b k).name ≡ false)
    → IsBlockOf (settled_at b low high c) [] (with_joined h (class_at b low).name (class_at b high).name)
placed-joins b h low high c is_c less within r m free =
    let w_l : low < length b.classes = omega arith in
    let q = list_any-at (λ e. e.class == (class_at b low).name && list_any (λ f. f.class == (class_at b high).name && nat_le e.patch.start (end f.patch) && nat_le f.patch.start (end e.patch)) h.entries) h.entries m.near in
    let p = and_parts _ _ q.2 in
    let v = list_any-at (λ f. f.class == (class_at b high).name && nat_le q.0.patch.start (end f.patch) && nat_le f.patch.start (end q.0.patch)) h.entries p.1 in
    let u = and_parts _ _ v.2 in
    let u2 = and_parts _ _ u.0 in
    let a = member-span h (class_at b low) q.0 r.coherent (r.classes low w_l) q.1 (eqb-true _ _ p.0) in
    let z = member-span h (class_at b high) v.0 r.coherent (r.classes high within) v.1 (eqb-true _ _ u2.0) in
    let t1 : q.0.patch.start ≤ end v.0.patch = leb-true _ _ u2.1 in
    let t2 : v.0.patch.start ≤ end q.0.patch = leb-true _ _ u.1 in
    let a0 : (class_at b low).start ≤ q.0.patch.start = a.0 in
    let a1 : end q.0.patch ≤ (class_at b low).stop = a.1 in
    let b0 : (class_at b high).start ≤ v.0.patch.start = z.0 in
    let b1 : end v.0.patch ≤ (class_at b high).stop = z.1 in
    joins b h low high c r (record {
      less = less;
      within = within;
      may_low = undoable-may h (class_at b low) (r.classes low w_l) (λ e i is. m.undoable e (Contains-from_In h.entries e i) (inl is));
      may_high = undoable-may h (class_at b high) (r.classes high within) (λ e i is. m.undoable e (Contains-from_In h.entries e i) (inr is));
      near_a = omega arith;
      near_b = omega arith;
      free = free;
    }) is_c

-- of two that are near to one another, and that may be made one, the higher one depends on none between them
near-free : (old mid : Block) (h : History) (low high front : ℕ) → high < length mid.classes → IsBlockOf mid [] h → AreNear old mid low high front
    → MayJoin h.entries (class_at mid front).name (class_at mid high).name
    → (k : ℕ) → front < k → k < high → class_depends h.entries (class_at mid high).name (class_at mid k).name ≡ false
near-free old mid h low high front w_h s near m k f t =
    let w_f : front < length mid.classes = omega arith in
    let w_k : k < length mid.classes = omega arith in
    let not_high : (class_at mid high).name ≢ (class_at mid k).name = (λ z. let e : high ≡ k = s.distinct high k w_h w_k z in omega arith) in
    elim near.between [
      | inl none ↦ sym (linked_as s high k w_h w_k not_high) ∙ none k f t
      | inr on ↦ false_from_ne_true (class_depends h.entries (class_at mid high).name (class_at mid k).name) (λ d.
          let not_low : (class_at mid k).name ≢ (class_at mid front).name = (λ z. let e : k ≡ front = s.distinct k front w_k w_f z in omega arith) in
          m.none_between (class_at mid k).name not_low (λ z. not_high (sym z))
          (inr (one d, rest-path mid h front high s (omega arith) on (k + 1) k (omega arith) f t)))
    ]

-- two classes that were made one are so in the history
pub made-one-joins : (old new : Block) (h : History) (low high : ℕ) (c : Class) → IsMerged (class_at old low) (class_at old high) c → high < length old.classes → IsBlockOf old [] h
    → IsMadeOne old low high c new → MayJoin h.entries (class_at old low).name (class_at old high).name
    → IsBlockOf new [] (with_joined h (class_at old low).name (class_at old high).name)
made-one-joins old new h low high c is_c within r made may =
    let near = made.near in
    let mid = made.mid in
    let front = made.front in
    let long = near.order.long in
    let s = rearranged-represents old mid [] h near.order r in
    let w_h : high < length mid.classes = omega arith in
    let same_low : class_at old low ≡ class_at mid front = sym near.same_low in
    let same_high : class_at old high ≡ class_at mid high = sym near.same_high in
    let m : MayJoin h.entries (class_at mid front).name (class_at mid high).name =
    subst (λ n. MayJoin h.entries n (class_at mid high).name) (ap (λ c. c.name) same_low) (subst (λ n. MayJoin h.entries (class_at old low).name n) (ap (λ c. c.name) same_high) may) in
    let is_new : IsMerged (class_at mid front) (class_at mid high) c =
    subst (λ z. IsMerged z (class_at mid high) c) same_low (subst (λ z. IsMerged (class_at old low) z c) same_high is_c) in
    subst (λ b. IsBlockOf b [] (with_joined h (class_at old low).name (class_at old high).name)) (sym made.is)
    (subst (λ z. IsBlockOf (settled_at mid front high c) [] (with_joined h z.name (class_at old high).name)) (sym same_low)
    (subst (λ z. IsBlockOf (settled_at mid front high c) [] (with_joined h (class_at mid front).name z.name)) (sym same_high)
    (placed-joins mid h front high c is_new near.to w_h s m (near-free old mid h low high front w_h s near m))))

pub joined-comm : (c d : ℕ) (e : Entry) → joined c d e ≡ joined d c e
joined-comm c d e = elim (cases_in c d e) [
  | inr out ↦ joined-out c d e out.0 out.1 ∙ sym (joined-out d c e out.1 out.0)
  | inl is ↦ let m : min c d ≡ min d c = omega arith in elim is [
    | inl i ↦ let t : (e.class == c || e.class == d) ≡ true = or_left _ (e.class == d) (eq-eqb _ _ i) in
        let u : (e.class == d || e.class == c) ≡ true = or_right (e.class == d) _ (eq-eqb _ _ i) in rw (t, u) (ap (λ n. record e { class = n }) m)
    | inr i ↦ let t : (e.class == c || e.class == d) ≡ true = or_right (e.class == c) _ (eq-eqb _ _ i) in
        let u : (e.class == d || e.class == c) ≡ true = or_left _ (e.class == c) (eq-eqb _ _ i) in rw (t, u) (ap (λ n. record e { class = n }) m)
  ]
]

map-comm : (c d : ℕ) (es : List Entry) → map (joined c d) es ≡ map (joined d c) es
map-comm c d [] = refl
map-comm c d (e ∷ es) = ap (λ z. z ∷ map (joined c d) es) (joined-comm c d e) ∙ ap (λ zs. joined d c e ∷ zs) (map-comm c d es)

pub with_joined-comm : (h : History) (c d : ℕ) → with_joined h c d ≡ with_joined h d c
with_joined-comm h c d = ap (λ es. let k : History = record h { entries = es } in k) (map-comm c d h.entries)

touch-comm : (h : History) (c d : ℕ) → touch h.entries c d ≡ true → touch h.entries d c ≡ true
touch-comm h c d t =
    let q = list_any-at (λ e. e.class == c && list_any (λ f. f.class == d && nat_le e.patch.start (end f.patch) && nat_le f.patch.start (end e.patch)) h.entries) h.entries t in
    let p = and_parts _ _ q.2 in
    let v = list_any-at (λ f. f.class == d && nat_le q.0.patch.start (end f.patch) && nat_le f.patch.start (end q.0.patch)) h.entries p.1 in
    let u = and_parts _ _ v.2 in
    let w = and_parts _ _ u.0 in
    list_any-from (λ e. e.class == d && list_any (λ f. f.class == c && nat_le e.patch.start (end f.patch) && nat_le f.patch.start (end e.patch)) h.entries) h.entries v.0 v.1
    (and_from _ _ w.0 (list_any-from (λ f. f.class == c && nat_le v.0.patch.start (end f.patch) && nat_le f.patch.start (end v.0.patch)) h.entries q.0 q.1 (and_from _ _ (and_from _ _ p.0 u.1) w.1)))

pub may_join-comm : (h : History) (c d : ℕ) → MayJoin h.entries c d → MayJoin h.entries d c
may_join-comm h c d m = record {
  two = λ q. m.two (sym q);
  undoable = λ e i is. m.undoable e i (elim is [ inl q ↦ inr q | inr q ↦ inl q ]);
  near = touch-comm h c d m.near;
  none_between = λ k a z b. m.none_between k z a (elim b [ inl q ↦ inr q | inr q ↦ inl q ]);
}

pub joins_named : (b new : Block) (h : History) (x y i j : ℕ) (e f : Entry) → IsBlockOf b [] h → place_of b x ≡ Some i → place_of b y ≡ Some j → IsPatch h x e → IsPatch h y f
    → MayJoin h.entries e.class f.class
    → ((k : History) → IsBlockOf b [] k → MayJoin k.entries (class_at b i).name (class_at b j).name → IsBlockOf new [] (with_joined k (class_at b i).name (class_at b j).name))
    → IsBlockOf new [] (with_joined h e.class f.class)
joins_named b new h x y i j e f r is_i is_j p q may answer =
    let a = (named_place b h x i e r is_i p).1 in
    let z = (named_place b h y j f r is_j q).1 in
    subst (λ n. IsBlockOf new [] (with_joined h n f.class)) a (subst (λ n. IsBlockOf new [] (with_joined h (class_at b i).name n)) z
    (answer h r (subst (λ n. MayJoin h.entries n (class_at b j).name) (sym a) (subst (λ n. MayJoin h.entries e.class n) (sym z) may))))

pub joins_swapped : (b new : Block) (h : History) (x y i j : ℕ) (e f : Entry) → IsBlockOf b [] h → place_of b x ≡ Some i → place_of b y ≡ Some j → IsPatch h x e → IsPatch h y f
    → MayJoin h.entries e.class f.class
    → ((k : History) → IsBlockOf b [] k → MayJoin k.entries (class_at b j).name (class_at b i).name → IsBlockOf new [] (with_joined k (class_at b j).name (class_at b i).name))
    → IsBlockOf new [] (with_joined h e.class f.class)
joins_swapped b new h x y i j e f r is_i is_j p q may answer =
    subst (λ k. IsBlockOf new [] k) (with_joined-comm h f.class e.class) (joins_named b new h y x j i f e r is_j is_i q p (may_join-comm h e.class f.class may) answer)

pub joins_same : (b : Block) (h : History) (x y i j : ℕ) (e f : Entry) → IsBlockOf b [] h → place_of b x ≡ Some i → place_of b y ≡ Some j → IsPatch h x e → IsPatch h y f
    → MayJoin h.entries e.class f.class → i ≡ j → ⊥
joins_same b h x y i j e f r is_i is_j p q may same =
    may.two (sym (named_place b h x i e r is_i p).1 ∙ ap (λ n. (class_at b n).name) same ∙ (named_place b h y j f r is_j q).1)

pub joins_nowhere : (b : Block) (h : History) (x : ℕ) (e : Entry) → IsBlockOf b [] h → place_of b x ≡ None → IsPatch h x e → is_undoable e ≡ true → ⊥
joins_nowhere b h x e r none p u = both_ways _ (undoable-not_durable e u) (no_place b [] h x r none e p)

-- of two patches that may be made one there is a joint
pub joint-none : (b : Block) (h : History) (x y : ℕ) (e f : Entry) → IsJoint b x y None → IsBlockOf b [] h → IsPatch h x e → IsPatch h y f → MayJoin h.entries e.class f.class → ⊥
joint-none b h x y e f none r p q may = elim (place-or-none (place_of b x)) [
  | inr away ↦ joins_nowhere b h x e r away p (may.undoable e (Contains-from_In h.entries e p.is_in) (inl refl))
  | inl i ↦ elim (place-or-none (place_of b y)) [
    | inr away ↦ joins_nowhere b h y f r away q (may.undoable f (Contains-from_In h.entries f q.is_in) (inr refl))
    | inl j ↦ joins_same b h x y i.0 j.0 e f r i.1 j.1 p q may (none i.0 j.0 i.1 j.1)
  ]
]

pub joint-joins : (b new : Block) (h : History) (x y : ℕ) (e f : Entry) (joint : Joint) → IsJoint b x y (Some joint) → IsBlockOf b [] h → IsPatch h x e → IsPatch h y f → MayJoin h.entries e.class f.class
    → ((k : History) → IsBlockOf b [] k → MayJoin k.entries (class_at b joint.low).name (class_at b joint.high).name → IsBlockOf new [] (with_joined k (class_at b joint.low).name (class_at b joint.high).name))
    → IsBlockOf new [] (with_joined h e.class f.class)
joint-joins b new h x y e f joint is r p q may answer = elim is.1 [
  | inl at_ ↦ joins_named b new h x y joint.low joint.high e f r at_.0 at_.1 p q may answer
  | inr at_ ↦ joins_swapped b new h x y joint.high joint.low e f r at_.0 at_.1 p q may answer
]
