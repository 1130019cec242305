-- What lies between two classes, by what leads to the second one.
use Rattle.std.proofs.Common.{◌≡◌, ℕ, ◌≤◌, ◌∙◌, inl, inr, Bool, true, false, not, List, length, sym, ap, arith, subst, Option, Some, None, Bor}
use Rattle.std.specs.Prelude.{◌==◌, ◌&&◌, ◌≢◌}
use Rattle.std.proofs.lemmas.Bool.{and_parts, and_from, both_ways, eqb-true, eq-eqb, ne_eqb, not-true}
use Rattle.patch_model.specs.Entry.{Entry, is_live}
use Rattle.patch_model.specs.Dependency.{Path, LiesBetween}
use Rattle.patch_model.specs.Member.{list_any-at, list_any-from}
use Rattle.patch_model.proofs.Rings.{Path-append}
use Rattle.patch_links.specs.State.{Class, find, class_at}
use Rattle.patch_graph.specs.State.{Graph, KeysFit}
use Rattle.patch_graph.specs.Marks.{is_marked, AreClear, HoldsMarked}
use Rattle.patch_graph.specs.Meaning.{Leads, one, onward, IsLiveClass, IsGraphOf}
use Rattle.patch_graph.specs.Search.{depends_at, steps, IsReachable}
use Rattle.patch_graph.specs.declared.searching.Way.TheVariants.{Up, Among}
use Rattle.patch_graph.specs.Between.{lies, IsLeastOf, HasNoRing, IsLeastBetween}
use Rattle.patch_graph.proofs.Places.{place-of}
use Rattle.patch_graph.proofs.Settling.{marked_below}
use Rattle.patch_graph.proofs.ReadySet.{placed, class_same}
use Rattle.patch_graph.proofs.Going.{depends}
use Rattle.patch_graph.proofs.Reaching.{target, Leads-path, path-leads, joined-leads, one-key, reached-up, reached-among}

-- where there are no dead ends
lies-parts : (met dead : List Bool) (from to k : ℕ) → lies met dead from to k ≡ true → (is_marked met k ≡ true) × ((not (k == from) && not (k == to)) ≡ true)
lies-parts met dead from to k t =
    let u = and_parts (is_marked met k && not (is_marked dead k)) (not (k == from) && not (k == to)) t in
    ((and_parts (is_marked met k) (not (is_marked dead k)) u.0).0, u.1)

lies-from : (met dead : List Bool) (from to k : ℕ) → AreClear dead → is_marked met k ≡ true → (not (k == from) && not (k == to)) ≡ true → lies met dead from to k ≡ true
lies-from met dead from to k none t u = and_from _ _ (and_from _ _ t (ap not (none k))) u

module _ (g : Graph) (all : List Entry) (r : IsGraphOf g all) where
  -- no two classes lead to each other
  apart : HasNoRing all → (k j : ℕ) (c d : Class) → class_at g.slots k ≡ Some c → class_at g.slots j ≡ Some d → k ≢ j → Leads g.slots g.numbers k j → Leads g.slots g.numbers j k → ⊥
  apart no_ring k j c d at at2 other out back =
      let differ : c.name ≢ d.name = λ e. other (one-key g all r k j c d at at2 e) in
      elim (Leads-path g all r k j c d out at at2) [
        | inl e ↦ differ e
        | inr p ↦ elim (Leads-path g all r j k d c back at2 at) [ inl e ↦ differ (sym e) | inr q ↦ no_ring c.name d.name differ p q ]
      ]

  module _ (to : ℕ) (marks : List Bool) (low : KeysFit g.slots (length marks)) (up : IsReachable (steps g.slots g.numbers Up) to (length marks) marks) where
    -- no marked class is where the search may stop
    no_stop : (k : ℕ) → is_marked marks k ≡ true → k ≢ length marks
    no_stop k m e = let h = marked_below marks k m in absurd (omega (arith, h, e))

    -- a class that leads to the second end is marked
    above : (k : ℕ) → Leads g.slots g.numbers k to → is_marked marks k ≡ true
    above k (one c at t) = up.closed to k up.first (no_stop to up.first) (depends g.slots g.numbers k to c at t) (low k c at)
    above k (onward {j = j} c at t rest) = let m = above j rest in up.closed j k m (no_stop j m) (depends g.slots g.numbers k j c at t) (low k c at)

  module _ (x y from to : ℕ) (cx cy : Class) (keys : List ℕ) (marks : Bor (List Bool)) (met dead : List Bool) (none : AreClear dead) (low : KeysFit g.slots (length marks.now)) (wide : KeysFit g.slots (length met)) (no_ring : HasNoRing all)
      (held : HoldsMarked met keys) (ax : class_at g.slots from ≡ Some cx) (ay : class_at g.slots to ≡ Some cy) (nx : cx.name ≡ x) (ny : cy.name ≡ y)
      (up : IsReachable (steps g.slots g.numbers Up) to (length marks.now) marks.now) (down : IsReachable (steps g.slots g.numbers (Among marks)) from to met) where
    test-lies : (k : ℕ) (c : Class) → class_at g.slots k ≡ Some c → lies met dead from to k ≡ true → LiesBetween all x y c.name
    test-lies k c at t =
        let t1 = lies-parts met dead from to k t in
        let t3 = and_parts (not (k == from)) (not (k == to)) t1.1 in
        let not_from : k ≢ from = λ e. both_ways _ (not-true _ t3.0) (eq-eqb k from e) in
        let not_to : k ≢ to = λ e. both_ways _ (not-true _ t3.1) (eq-eqb k to e) in
        let differ_x : c.name ≡ x → ⊥ = λ e. not_from (one-key g all r k from c cx at ax (e ∙ sym nx)) in
        let differ_y : c.name ≡ y → ⊥ = λ e. not_to (one-key g all r k to c cy at ay (e ∙ sym ny)) in
        let v = r.classes k c at in
        let way : Leads g.slots g.numbers from k × (is_marked marks.now k ≡ true) = elim (reached-among g.slots g.numbers marks from k (down.reached k t1.0)) [ inl e ↦ absurd (not_from (sym e)) | inr q ↦ q ] in
        let on : Leads g.slots g.numbers k to = elim (reached-up g.slots g.numbers to k (up.reached k way.1)) [ inl e ↦ absurd (not_to (sym e)) | inr q ↦ q ] in
        record {
          live = list_any-from (λ e. e.class == c.name && is_live e) all v.some.0 v.some.1 (and_from _ _ (eq-eqb v.some.0.class c.name v.some.2) (ap not (v.live v.some.0 v.some.1 v.some.2)));
          not_first = differ_x;
          not_last = differ_y;
          from = elim (Leads-path g all r from k cx c way.0 ax at) [ inl e ↦ absurd (differ_x (sym e ∙ nx)) | inr p ↦ subst (λ z. Path all z c.name) nx p ];
          to = elim (Leads-path g all r k to c cy on at ay) [ inl e ↦ absurd (differ_y (e ∙ ny)) | inr p ↦ subst (λ z. Path all c.name z) ny p ];
        }

    -- a search among what leads to the second end comes to each class that lies between
    comes : (m : ℕ) → m ≢ to → Leads g.slots g.numbers m to → is_marked marks.now m ≡ true → (cm : Class) → class_at g.slots m ≡ Some cm → (k : ℕ) → is_marked met k ≡ true → k ≢ to → Leads g.slots g.numbers k m → is_marked met m ≡ true
    comes m not_to on marked cm am k t other (one c at u) = down.closed k m t other (and_from (depends_at g.slots g.numbers k m) (is_marked marks.now m) (depends g.slots g.numbers k m c at u) marked) (wide m cm am)
    comes m not_to on marked cm am k t other (onward {j = j} c at u rest) =
        let w = target g all r c j u in
        let cj = w.1 in
        let aj = w.4 in
        let not_last : j ≢ to = λ e. apart no_ring m to cm cy am ay not_to on (subst (λ z. Leads g.slots g.numbers z m) e rest) in
        let marked_j : is_marked marks.now j ≡ true = above to marks.now low up j (joined-leads g all r j m to rest on) in
        comes m not_to on marked cm am j (down.closed k j t other (and_from (depends_at g.slots g.numbers k j) (is_marked marks.now j) (depends g.slots g.numbers k j c at u) marked_j) (wide j cj aj)) not_last rest

    lies-test : (m : ℕ) → LiesBetween all x y m → (k : ℕ) × (c : Class) × (class_at g.slots k ≡ Some c) × (lies met dead from to k ≡ true) × (c.name ≡ m)
    lies-test m b =
        let e = list_any-at (λ e. e.class == m && is_live e) all b.live in
        let e2 = and_parts (e.0.class == m) (is_live e.0) e.2 in
        let of_m = eqb-true e.0.class m e2.0 in
        let f = r.found e.0 e.1 (not-true _ e2.1) in
        let named : f.1.name ≡ m = f.4 ∙ of_m in
        let not_from : f.0 ≢ from = λ k. b.not_first (sym named ∙ ap (λ z. z.name) (class_same f.1 cx (sym f.3 ∙ ap (class_at g.slots) k ∙ ax)) ∙ nx) in
        let not_to : f.0 ≢ to = λ k. b.not_last (sym named ∙ ap (λ z. z.name) (class_same f.1 cy (sym f.3 ∙ ap (class_at g.slots) k ∙ ay)) ∙ ny) in
        let out : Leads g.slots g.numbers from f.0 = elim (path-leads g all r x m from f.0 cx f.1 b.from nx named ax f.3) [ inl k ↦ absurd (not_from (sym k)) | inr q ↦ q ] in
        let on : Leads g.slots g.numbers f.0 to = elim (path-leads g all r m y f.0 to f.1 cy b.to named ny f.3 ay) [ inl k ↦ absurd (not_to k) | inr q ↦ q ] in
        let marked : is_marked marks.now f.0 ≡ true = above to marks.now low up f.0 on in
        let not_last : from ≢ to = λ k. apart no_ring f.0 from f.1 cx f.3 ax not_from (subst (λ z. Leads g.slots g.numbers f.0 z) (sym k) on) out in
        let t = comes f.0 not_to on marked f.1 f.3 from down.first not_last out in
        (f.0, f.1, f.3, lies-from met dead from to f.0 none t (and_from _ _ (ap not (ne_eqb f.0 from not_from)) (ap not (ne_eqb f.0 to not_to))), named)

    pub least-lies : (o : Option ℕ) → IsLeastOf g.slots (lies met dead from to) keys (length keys) o → IsLeastBetween all x y o
    least-lies None p = λ m b.
        let k = lies-test m b in
        let t = lies-parts met dead from to k.0 k.3 in
        let i = place-of keys k.0 (held k.0 t.0) in
        p i.0 k.1 i.1 (ap (class_at g.slots) i.2 ∙ k.2) (ap (lies met dead from to) i.2 ∙ k.3)
    least-lies (Some m) p = (
      subst (LiesBetween all x y) p.0.4 (test-lies p.0.0 p.0.1 p.0.2 p.0.3),
      λ n b.
          let k = lies-test n b in
          let t = lies-parts met dead from to k.0 k.3 in
          let i = place-of keys k.0 (held k.0 t.0) in
          let a : m ≤ k.1.name = p.1 i.0 k.1 i.1 (ap (class_at g.slots) i.2 ∙ k.2) (ap (lies met dead from to) i.2 ∙ k.3) in
          let e = k.4 in omega arith,
    )

pub above_is : (g : Graph) (all : List Entry) (a b x y from to : ℕ) (keys : List ℕ) (marks : Bor (List Bool)) (met dead : List Bool) (o : Option ℕ) → AreClear dead → IsGraphOf g all → HasNoRing all → KeysFit g.slots (length marks.now) → KeysFit g.slots (length met)
    → IsLiveClass all a x → IsLiveClass all b y → find g.numbers a ≡ Some from → find g.numbers b ≡ Some to → HoldsMarked met keys
    → IsReachable (steps g.slots g.numbers Up) to (length marks.now) marks.now → IsReachable (steps g.slots g.numbers (Among marks)) from to met
    → IsLeastOf g.slots (lies met dead from to) keys (length keys) o → IsLeastBetween all x y o
above_is g all a b x y from to keys marks met dead o none r no_ring low wide la lb fa fb held up down least =
    let qa = placed g all r la.0 from la.1 (ap (find g.numbers) la.2 ∙ fa) in
    let qb = placed g all r lb.0 to lb.1 (ap (find g.numbers) lb.2 ∙ fb) in
    least-lies g all r x y from to qa.0 qb.0 keys marks met dead none low wide no_ring held qa.1 qb.1 (qa.2 ∙ la.4) (qb.2 ∙ lb.4) up down o least

-- where no path leads from the one class to the other, nothing lies between
pub never_reached : (g : Graph) (all : List Entry) (a b x y from to : ℕ) (marks : List Bool) → IsGraphOf g all → KeysFit g.slots (length marks) → IsLiveClass all a x → IsLiveClass all b y
    → find g.numbers a ≡ Some from → find g.numbers b ≡ Some to → IsReachable (steps g.slots g.numbers Up) to (length marks) marks → is_marked marks from ≡ false → IsLeastBetween all x y None
never_reached g all a b x y from to marks r low la lb fa fb up off m between =
    let qa = placed g all r la.0 from la.1 (ap (find g.numbers) la.2 ∙ fa) in
    let qb = placed g all r lb.0 to lb.1 (ap (find g.numbers) lb.2 ∙ fb) in
    let nx : qa.0.name ≡ x = qa.2 ∙ la.4 in
    let ny : qb.0.name ≡ y = qb.2 ∙ lb.4 in
    elim (path-leads g all r x y from to qa.0 qb.0 (Path-append between.from between.to) nx ny qa.1 qb.1) [
      | inl e ↦ both_ways _ off (ap (is_marked marks) e ∙ up.first)
      | inr way ↦ both_ways _ off (above g all r to marks low up from way)
    ]
