-- What a merge of two classes leaves.
use Rattle.std.proofs.Common.{◌≡◌, ℕ, zero, suc, ◌+◌, ◌<◌, ◌≤◌, ◌⊎◌, ◌∙◌, inl, inr, true, false, List, ◌++◌, map, min, max, refl, sym, ap, arith, subst, Some, None}
use Rattle.std.specs.Prelude.{◌==◌, ◌&&◌, ◌||◌, ◌≢◌, nat_le, nat_lt, if◌then◌else◌}
use Rattle.std.specs.Option.{option_map, option_map_or}
use Rattle.std.proofs.lemmas.Bool.{cases_Bool, cases_eq, cases_lt, and_parts, and_from, or_right, eqb-true, eq-eqb, ne_eqb, ltb-true, lt-ltb, leb-true, le-leb, false_from_ne_true}
use Rattle.patch_model.specs.Entry.{Entry, is_durable, is_among}
use Rattle.patch_model.specs.State.{joined}
use Rattle.patch_model.specs.Dependency.{depends_directly}
use Rattle.patch_model.specs.Pile.{covers, end}
use Rattle.patch_model.specs.Orderly.{IsOrderly}
use Rattle.patch_model.specs.Member.{In, list_any-at, list_any-from}
use Rattle.patch_links.specs.State.{Class, Slots, Numbers, IsInReach, find, class_at, leads, leads_at}
use Rattle.patch_graph.specs.State.{Graph, spans}
use Rattle.patch_graph.specs.Skyline.{Skylines, spans_of}
use Rattle.patch_skyline.specs.Skyline.{top_at}
use Rattle.patch_graph.proofs.Tops.{tops-kept}
use Rattle.patch_graph.specs.Meaning.{Leads, one, onward, DependsOn, IsClassOf, IsGraphOf}
use Rattle.patch_links.specs.Merging.{joined_class, IsJoined}
use Rattle.patch_graph.proofs.Facts.{known}
use Rattle.patch_graph.proofs.Steps.{patch-joined, In-map, map-In, length-map, numbered-map}
use Rattle.patch_graph.proofs.ReadySet.{placed, cases_found, some_same, class_same, In-left, In-right, In-parts, is_among-In, In-is_among}
use Rattle.patch_graph.proofs.OneMore.{covers-from, same_bool}
use Rattle.patch_graph.proofs.Searches.{found-lead}
use Rattle.patch_graph.proofs.Reaching.{one-key}

-- the name of a class after the classes x and y got one name
abbrev named_now : ℕ → ℕ → ℕ → ℕ
named_now x y n = if n == x || n == y then min x y else n

class-joined : (x y : ℕ) (e : Entry) → (joined x y e).class ≡ named_now x y e.class
class-joined x y e = elim (cases_Bool (e.class == x || e.class == y)) [ inl u ↦ rw u refl | inr u ↦ rw u refl ]

mark-joined : (x y : ℕ) (e : Entry) → (joined x y e).mark ≡ e.mark
mark-joined x y e = elim (cases_Bool (e.class == x || e.class == y)) [ inl u ↦ rw u refl | inr u ↦ rw u refl ]

hard-joined : (x y : ℕ) (e : Entry) → (joined x y e).hard ≡ e.hard
hard-joined x y e = elim (cases_Bool (e.class == x || e.class == y)) [ inl u ↦ rw u refl | inr u ↦ rw u refl ]

durable-joined : (x y : ℕ) (e : Entry) → is_durable (joined x y e) ≡ is_durable e
durable-joined x y e = elim (cases_Bool (e.class == x || e.class == y)) [ inl u ↦ rw u refl | inr u ↦ rw u refl ]

named-both : (x y n : ℕ) → (n ≡ x) ⊎ (n ≡ y) → named_now x y n ≡ min x y
named-both x y n (inl e) = ap (λ b. if b || n == y then min x y else n) (eq-eqb n x e)
named-both x y n (inr e) = ap (λ b. if b then min x y else n) (or_right (n == x) _ (eq-eqb n y e))

named-other : (x y n : ℕ) → n ≢ x → n ≢ y → named_now x y n ≡ n
named-other x y n dx dy = ap (λ b. if b || n == y then min x y else n) (ne_eqb n x dx) ∙ ap (λ b. if b then min x y else n) (ne_eqb n y dy)

least-both : (x y : ℕ) → (min x y ≡ x) ⊎ (min x y ≡ y)
least-both x y = elim (cases_lt x y) [ inl h ↦ inl (omega arith) | inr h ↦ inr (omega arith) ]

-- which classes get the common name
both-named : (x y n : ℕ) → named_now x y n ≡ min x y → (n ≡ x) ⊎ (n ≡ y)
both-named x y n e = elim (cases_eq n x) [
  | inl s ↦ inl s
  | inr dx ↦ elim (cases_eq n y) [
    | inl s ↦ inr s
    | inr dy ↦ let s : n ≡ min x y = sym (named-other x y n dx dy) ∙ e in elim (least-both x y) [ inl m ↦ absurd (dx (s ∙ m)) | inr m ↦ absurd (dy (s ∙ m)) ]
  ]
]

-- and which keep another one
other-named : (x y m n : ℕ) → m ≢ x → m ≢ y → named_now x y n ≡ m → n ≡ m
other-named x y m n mx my e = elim (cases_eq n x) [
  | inl s ↦ absurd (elim (least-both x y) [ inl l ↦ mx (sym e ∙ named-both x y n (inl s) ∙ l) | inr l ↦ my (sym e ∙ named-both x y n (inl s) ∙ l) ])
  | inr dx ↦ elim (cases_eq n y) [
    | inl s ↦ absurd (elim (least-both x y) [ inl l ↦ mx (sym e ∙ named-both x y n (inr s) ∙ l) | inr l ↦ my (sym e ∙ named-both x y n (inr s) ∙ l) ])
    | inr dy ↦ sym (named-other x y n dx dy) ∙ e
  ]
]

among-parts : (ms ns : List ℕ) (n : ℕ) → is_among (ms ++ ns) n ≡ true → (is_among ms n ≡ true) ⊎ (is_among ns n ≡ true)
among-parts ms ns n t = elim (In-parts ms ns n (is_among-In (ms ++ ns) n t)) [ inl i ↦ inl (In-is_among ms n i) | inr i ↦ inr (In-is_among ns n i) ]

among-left : (ms ns : List ℕ) (n : ℕ) → is_among ms n ≡ true → is_among (ms ++ ns) n ≡ true
among-left ms ns n t = In-is_among (ms ++ ns) n (In-left ms ns n (is_among-In ms n t))

among-right : (ms ns : List ℕ) (n : ℕ) → is_among ns n ≡ true → is_among (ms ++ ns) n ≡ true
among-right ms ns n t = In-is_among (ms ++ ns) n (In-right ms ns n (is_among-In ns n t))

before : (n : ℕ) → 0 < n → (p : ℕ) × (p + 1 ≡ n)
before zero h = absurd (omega arith)
before (suc p) h = (p, omega arith)

-- alike, and a patch of the one overlaps or touches one of the other
pub record MayMerge (all : List Entry) (c d : Class) : Type 0 where
  pub block : d.block ≡ c.block
  pub mark : d.mark ≡ c.mark
  pub hard : d.hard ≡ c.hard
  pub e : Entry
  pub f : Entry
  pub in_e : In all e
  pub in_f : In all f
  pub of_c : e.class ≡ c.name
  pub of_d : f.class ≡ d.name
  pub e_begins : e.patch.start ≤ end f.patch
  pub f_begins : f.patch.start ≤ end e.patch

module _ (made : ℕ) (tops : Skylines) (keep gone : ℕ) (c d : Class) (old new : Slots) (numbers rest : Numbers) (all : List Entry)
    (r : IsGraphOf (record { made = made; slots = old; numbers = numbers; tops = tops }) all)
    (differ : keep ≢ gone) (at_c : class_at old keep ≡ Some c) (at_d : class_at old gone ≡ Some d)
    (may : MayMerge all c d) (a : IsJoined keep gone c d old new numbers rest) where
  abbrev g : Graph
  g = record { made = made; slots = old; numbers = numbers; tops = tops }

  abbrev x : ℕ
  x = c.name

  abbrev y : ℕ
  y = d.name

  abbrev f : Entry → Entry
  f e = joined x y e

  abbrev both : Class
  both = joined_class c d

  -- the key that a class has now
  abbrev key_now : ℕ → ℕ
  key_now k = if k == gone then keep else k

  key-gone : (k : ℕ) → k ≡ gone → key_now k ≡ keep
  key-gone k e = ap (λ b. if b then keep else k) (eq-eqb k gone e)

  key-other : (k : ℕ) → k ≢ gone → key_now k ≡ k
  key-other k o = ap (λ b. if b then keep else k) (ne_eqb k gone o)

  -- the members of the class that goes are the numbers found there
  goes : (n k : ℕ) → find numbers n ≡ Some k → is_among d.members n ≡ true → k ≡ gone
  goes n k there t =
      let e = (r.classes gone d at_d).only n t in
      some_same k gone (sym there ∙ ap (find numbers) (sym e.2) ∙ (r.classes gone d at_d).found e.0 e.1 e.3)

  gone-has : (n : ℕ) → find numbers n ≡ Some gone → is_among d.members n ≡ true
  gone-has n there =
      let l = r.live n gone there in
      let p = placed g all r l.0 gone l.1 (ap (find numbers) l.2 ∙ there) in
      let same = class_same p.0 d (sym p.1 ∙ at_d) in
      subst (λ m. is_among d.members m ≡ true) l.2 ((r.classes gone d at_d).members l.0 l.1 (sym p.2 ∙ ap (λ z. z.name) same))

  find-now : (n k : ℕ) → find numbers n ≡ Some k → find rest n ≡ Some (key_now k)
  find-now n k there = elim (cases_eq k gone) [
    | inl e ↦
        let t = gone-has n (there ∙ ap (λ z. Some z) e) in
        a.numbers n ∙ ap (λ b. if b then option_map (λ k. keep) (find numbers n) else find numbers n) t ∙ ap (option_map (λ k. keep)) there ∙ ap (λ z. Some z) (sym (key-gone k e))
    | inr o ↦
        let t : is_among d.members n ≡ false = false_from_ne_true _ (λ u. o (goes n k there u)) in
        a.numbers n ∙ ap (λ b. if b then option_map (λ k. keep) (find numbers n) else find numbers n) t ∙ there ∙ ap (λ z. Some z) (sym (key-other k o))
  ]

  find-none : (n : ℕ) → find numbers n ≡ None → find rest n ≡ None
  find-none n none = elim (cases_Bool (is_among d.members n)) [
    | inl t ↦ a.numbers n ∙ ap (λ b. if b then option_map (λ k. keep) (find numbers n) else find numbers n) t ∙ ap (option_map (λ k. keep)) none
    | inr t ↦ a.numbers n ∙ ap (λ b. if b then option_map (λ k. keep) (find numbers n) else find numbers n) t ∙ none
  ]

  -- what is found now was found, and its class with it
  find-was : (n j : ℕ) → find rest n ≡ Some j → (k : ℕ) × (z : Class) × (find numbers n ≡ Some k) × (class_at old k ≡ Some z) × (key_now k ≡ j)
  find-was n j at = elim (cases_found numbers n) [
    | inl none ↦ let e = find-none n none in absurd (cc)
    | inr k ↦
        let l = r.live n k.0 k.1 in
        let p = placed g all r l.0 k.0 l.1 (ap (find numbers) l.2 ∙ k.1) in
        (k.0, p.0, k.1, p.1, some_same (key_now k.0) j (sym (find-now n k.0 k.1) ∙ at))
  ]

  not-keep : (k : ℕ) (z : Class) → class_at old k ≡ Some z → k ≢ keep → z.name ≢ x
  not-keep k z at o e = o (one-key g all r k keep z c at at_c e)

  not-gone : (k : ℕ) (z : Class) → class_at old k ≡ Some z → k ≢ gone → z.name ≢ y
  not-gone k z at o e = o (one-key g all r k gone z d at at_d e)

  -- what a class has become
  image : (k : ℕ) (z : Class) → class_at old k ≡ Some z → (w : Class) × (class_at new (key_now k) ≡ Some w) × (w.name ≡ named_now x y z.name) × ((n : ℕ) → is_among z.after n ≡ true → is_among w.after n ≡ true)
  image k z at = elim (cases_eq k gone) [
    | inl e ↦
        let same = class_same z d (sym at ∙ ap (class_at old) e ∙ at_d) in (
          both,
          ap (class_at new) (key-gone k e) ∙ a.here,
          sym (named-both x y z.name (inr (ap (λ q. q.name) same))),
          λ n t. among-right c.after d.after n (subst (λ q. is_among q.after n ≡ true) same t),
        )
    | inr o ↦ elim (cases_eq k keep) [
      | inl e ↦
          let same = class_same z c (sym at ∙ ap (class_at old) e ∙ at_c) in (
            both,
            ap (class_at new) (key-other k o ∙ e) ∙ a.here,
            sym (named-both x y z.name (inl (ap (λ q. q.name) same))),
            λ n t. among-left c.after d.after n (subst (λ q. is_among q.after n ≡ true) same t),
          )
      | inr o2 ↦
          (z, ap (class_at new) (key-other k o) ∙ a.others k o2 o ∙ at, sym (named-other x y z.name (not-keep k z at o2) (not-gone k z at o)), λ n t. t)
    ]
  ]

  leads-now : (z w : Class) (j : ℕ) → ((n : ℕ) → is_among z.after n ≡ true → is_among w.after n ≡ true) → leads numbers z j ≡ true → leads rest w (key_now j) ≡ true
  leads-now z w j more t =
      let n = list_any-at (leads_at numbers j) z.after t in
      let there = find-now n.0 j (found-lead numbers j n.0 n.2) in
      list_any-from (leads_at rest (key_now j)) w.after n.0 (is_among-In w.after n.0 (more n.0 (In-is_among z.after n.0 n.1)))
      (ap (λ o. option_map_or (λ k. k == key_now j) o false) there ∙ eq-eqb (key_now j) (key_now j) refl)

  Leads-now : (k j : ℕ) → Leads old numbers k j → Leads new rest (key_now k) (key_now j)
  Leads-now k j (one z at t) = let w = image k z at in one w.0 w.1 (leads-now z w.0 j w.3 t)
  Leads-now k l (onward {j = j} z at t onwards) = let w = image k z at in onward w.0 w.1 (leads-now z w.0 j w.3 t) (Leads-now j l onwards)

  depends-now : (m n : ℕ) → DependsOn all m n → DependsOn (map f all) (named_now x y m) (named_now x y n)
  depends-now m n z = record {
    e = f z.e;
    f = f z.f;
    in_e = In-map f all z.e z.in_e;
    in_f = In-map f all z.f z.in_f;
    of_a = class-joined x y z.e ∙ ap (named_now x y) z.of_a;
    of_b = class-joined x y z.f ∙ ap (named_now x y) z.of_b;
    depends = ap (λ p. depends_directly p (f z.f).patch) (patch-joined x y z.e) ∙ ap (λ p. depends_directly z.e.patch p) (patch-joined x y z.f) ∙ z.depends;
  }

  -- where a class depends on what is found now
  sound-now : (k : ℕ) (z : Class) (n j : ℕ) (w : Class) → class_at old k ≡ Some z → is_among z.after n ≡ true → find rest n ≡ Some j → class_at new j ≡ Some w
      → (w.name ≡ named_now x y z.name) ⊎ DependsOn (map f all) (named_now x y z.name) w.name
  sound-now k z n j w at t there at2 =
      let was = find-was n j there in
      let im = image was.0 was.1 was.3 in
      let same = class_same w im.0 (sym at2 ∙ ap (class_at new) (sym was.4) ∙ im.1) in
      let name : w.name ≡ named_now x y was.1.name = ap (λ q. q.name) same ∙ im.2 in
      elim ((r.classes k z at).sound n was.0 was.1 t was.2 was.3) [
        | inl s ↦ inl (name ∙ ap (named_now x y) s)
        | inr q ↦ inr (subst (λ m. DependsOn (map f all) (named_now x y z.name) m) (sym name) (depends-now z.name was.1.name q))
      ]

  -- an entry of the new list, and what it was
  back : (e : Entry) → In (map f all) e → (e0 : Entry) × In all e0 × (f e0 ≡ e) × (e.patch ≡ e0.patch) × (e.class ≡ named_now x y e0.class)
  back e i = let b = map-In f all e i in
      (b.0, b.1, b.2, ap (λ q. q.patch) (sym b.2) ∙ patch-joined x y b.0, ap (λ q. q.class) (sym b.2) ∙ class-joined x y b.0)

  -- a class's direct dependency is a chain still
  complete-now : (k : ℕ) (z : Class) (e0 e1 h : Entry) (j : ℕ) → class_at old k ≡ Some z → In all e0 → e0.class ≡ z.name → e1.patch ≡ e0.patch → In (map f all) h
      → h.class ≢ named_now x y z.name → depends_directly e1.patch h.patch ≡ true → find rest h.patch.no ≡ Some j → Leads new rest (key_now k) j
  complete-now k z e0 e1 h j at i s same ih other depends there =
      let h0 = back h ih in
      let was = find-was h.patch.no j there in
      let way = (r.classes k z at).complete e0 h0.0 was.0 i h0.1 s (λ q. other (h0.4 ∙ ap (named_now x y) q))
      (ap (λ p. depends_directly p h0.0.patch) (sym same) ∙ ap (λ p. depends_directly e1.patch p) (sym h0.3) ∙ depends)
      (ap (λ p. find numbers p.no) (sym h0.3) ∙ was.2) in
      subst (λ q. Leads new rest (key_now k) q) was.4 (Leads-now k was.0 way)

  -- what a class reaches it reaches still
  reaches-now : (k : ℕ) (z : Class) (n j : ℕ) → class_at old k ≡ Some z → IsInReach z.reach n → find rest n ≡ Some j → (j ≡ key_now k) ⊎ Leads new rest (key_now k) j
  reaches-now k z n j at i there =
      let was = find-was n j there in
      elim ((r.classes k z at).reaches n was.0 i was.2) [
        | inl e ↦ inl (sym was.4 ∙ ap key_now e)
        | inr way ↦ inr (subst (λ q. Leads new rest (key_now k) q) was.4 (Leads-now k was.0 way))
      ]

  -- a class that is neither of the two
  other-class : (k : ℕ) (z : Class) → class_at old k ≡ Some z → k ≢ keep → k ≢ gone → IsClassOf (map f all) new rest k z
  other-class k z at ok og =
      let w = r.classes k z at in
      let nx = not-keep k z at ok in
      let ny = not-gone k z at og in
      let same : named_now x y z.name ≡ z.name = named-other x y z.name nx ny in
      let own : (e : Entry) → In (map f all) e → e.class ≡ z.name → (e0 : Entry) × In all e0 × (f e0 ≡ e) × (e.patch ≡ e0.patch) × (e0.class ≡ z.name) =
      λ e i s. let b = back e i in (b.0, b.1, b.2, b.3, other-named x y z.name b.0.class nx ny (sym b.4 ∙ s)) in
      let new_class : (e0 : Entry) → e0.class ≡ z.name → (f e0).class ≡ z.name = λ e0 s. class-joined x y e0 ∙ ap (named_now x y) s ∙ same in
      record {
        some = (f w.some.0, In-map f all w.some.0 w.some.1, new_class w.some.0 w.some.2);
        members = λ e i s. let b = own e i s in subst (λ p. is_among z.members p.no ≡ true) (sym b.3) (w.members b.0 b.1 b.4);
        only = λ n t. let e = w.only n t in (f e.0, In-map f all e.0 e.1, ap (λ p. p.no) (patch-joined x y e.0) ∙ e.2, new_class e.0 e.3);
        looks = λ e i s. let b = own e i s in let l = w.looks b.0 b.1 b.4 in
            (ap (λ q. q.mark) (sym b.2) ∙ mark-joined x y b.0 ∙ l.0, ap (λ p. p.block) b.3 ∙ l.1, ap (λ q. q.hard) (sym b.2) ∙ hard-joined x y b.0 ∙ l.2);
        live = λ e i s. let b = own e i s in ap is_durable (sym b.2) ∙ durable-joined x y b.0 ∙ w.live b.0 b.1 b.4;
        found = λ e i s. let b = own e i s in
            ap (λ p. find rest p.no) b.3 ∙ find-now b.0.patch.no k (w.found b.0 b.1 b.4) ∙ ap (λ q. Some q) (key-other k og);
        span = λ p. w.span p ∙ same_bool _ _
            (λ t. let e = list_any-at (λ e. e.class == z.name && covers e.patch p) all t in
            let t2 = and_parts (e.0.class == z.name) (covers e.0.patch p) e.2 in
            list_any-from (λ e. e.class == z.name && covers e.patch p) (map f all) (f e.0) (In-map f all e.0 e.1)
            (and_from _ _ (eq-eqb (f e.0).class z.name (new_class e.0 (eqb-true e.0.class z.name t2.0))) (ap (λ q. covers q p) (patch-joined x y e.0) ∙ t2.1)))
            (λ t. let e = list_any-at (λ e. e.class == z.name && covers e.patch p) (map f all) t in
            let t2 = and_parts (e.0.class == z.name) (covers e.0.patch p) e.2 in
            let b = own e.0 e.1 (eqb-true e.0.class z.name t2.0) in
            list_any-from (λ e. e.class == z.name && covers e.patch p) all b.0 b.1 (and_from _ _ (eq-eqb b.0.class z.name b.4) (ap (λ q. covers q p) (sym b.3) ∙ t2.1)));
        named = λ n t. let b = w.named n t in let m = length-map f all in omega arith;
        sound = λ n j v t there at2. elim (sound-now k z n j v at t there at2) [
          | inl s ↦ inl (s ∙ same)
          | inr q ↦ inr (subst (λ m. DependsOn (map f all) m v.name) same q)
        ];
        complete = λ e h j ie ih s other depends there.
            let b = own e ie s in
            subst (λ q. Leads new rest q j) (key-other k og) (complete-now k z b.0 e h j at b.1 b.4 b.3 ih (λ q. other (q ∙ same)) depends there);
        within = λ n i. let b = w.within n i in let m = length-map f all in omega arith;
        reaches = λ n j i there. subst (λ q. (j ≡ q) ⊎ Leads new rest q j) (key-other k og) (reaches-now k z n j at i there);
      }

  -- the two spans overlap or touch
  spans-meet : (c.start ≤ d.stop) × (d.start ≤ c.stop)
  spans-meet =
      let p = inside keep c at_c may.e may.in_e may.of_c in
      let q = inside gone d at_d may.f may.in_f may.of_d in
      let n1 = may.e_begins in let n2 = may.f_begins in
      let p0 = p.0 in let p1 = p.1 in let q0 = q.0 in let q1 = q.1 in
      (omega arith, omega arith)
    where
      inside : (k : ℕ) (z : Class) → class_at old k ≡ Some z → (e : Entry) → In all e → e.class ≡ z.name → (z.start ≤ e.patch.start) × (end e.patch ≤ z.stop)
      inside k z at e i s =
          let full = (known g all r).filled e i in
          let low : spans z e.patch.start ≡ true = (r.classes k z at).span e.patch.start ∙ list_any-from (λ e2. e2.class == z.name && covers e2.patch e.patch.start) all e i
          (and_from _ _ (eq-eqb e.class z.name s) (covers-from e.patch e.patch.start (omega arith) full)) in
          let place : (p : ℕ) × (p + 1 ≡ end e.patch) = before (end e.patch) (omega arith) in
          let e1 = place.1 in
          let high : spans z place.0 ≡ true = (r.classes k z at).span place.0 ∙ list_any-from (λ e2. e2.class == z.name && covers e2.patch place.0) all e i
          (and_from _ _ (eq-eqb e.class z.name s) (covers-from e.patch place.0 (omega arith) (omega arith))) in
          let a1 : z.start ≤ e.patch.start = leb-true z.start e.patch.start (and_parts (nat_le z.start e.patch.start) (nat_lt e.patch.start z.stop) low).0 in
          let a2 : place.0 < z.stop = ltb-true place.0 z.stop (and_parts (nat_le z.start place.0) (nat_lt place.0 z.stop) high).1 in
          (a1, omega arith)

  spans-both : (p : ℕ) → spans both p ≡ true → (spans c p ≡ true) ⊎ (spans d p ≡ true)
  spans-both p t =
      let t2 = and_parts (nat_le (min c.start d.start) p) (nat_lt p (max c.stop d.stop)) t in
      let low : min c.start d.start ≤ p = leb-true (min c.start d.start) p t2.0 in
      let high : p < max c.stop d.stop = ltb-true p (max c.stop d.stop) t2.1 in
      let m0 = spans-meet.0 in let m1 = spans-meet.1 in
      let full_c = some-span_of keep c at_c in let full_d = some-span_of gone d at_d in
      elim (cases_lt p c.start) [
        | inl h ↦ inr (and_from _ _ (le-leb d.start p (omega arith)) (lt-ltb p d.stop (omega arith)))
        | inr h ↦ elim (cases_lt p c.stop) [
          | inl h2 ↦ inl (and_from _ _ (le-leb c.start p h) (lt-ltb p c.stop h2))
          | inr h2 ↦ inr (and_from _ _ (le-leb d.start p (omega arith)) (lt-ltb p d.stop (omega arith)))
        ]
      ]
    where
      some-span_of : (k : ℕ) (z : Class) → class_at old k ≡ Some z → z.start < z.stop
      some-span_of k z at =
          let w = r.classes k z at in
          let e = w.some in
          let full = (known g all r).filled e.0 e.1 in
          let low : spans z e.0.patch.start ≡ true = w.span e.0.patch.start ∙ list_any-from (λ e2. e2.class == z.name && covers e2.patch e.0.patch.start) all e.0 e.1
          (and_from _ _ (eq-eqb e.0.class z.name e.2) (covers-from e.0.patch e.0.patch.start (omega arith) full)) in
          let t = and_parts (nat_le z.start e.0.patch.start) (nat_lt e.0.patch.start z.stop) low in
          let a1 : z.start ≤ e.0.patch.start = leb-true z.start e.0.patch.start t.0 in
          let a2 : e.0.patch.start < z.stop = ltb-true e.0.patch.start z.stop t.1 in
          omega arith

  both-spans : (p : ℕ) → (spans c p ≡ true) ⊎ (spans d p ≡ true) → spans both p ≡ true
  both-spans p (inl t) =
      let t2 = and_parts (nat_le c.start p) (nat_lt p c.stop) t in
      let a1 : c.start ≤ p = leb-true c.start p t2.0 in let a2 : p < c.stop = ltb-true p c.stop t2.1 in
      and_from _ _ (le-leb (min c.start d.start) p (omega arith)) (lt-ltb p (max c.stop d.stop) (omega arith))
  both-spans p (inr t) =
      let t2 = and_parts (nat_le d.start p) (nat_lt p d.stop) t in
      let a1 : d.start ≤ p = leb-true d.start p t2.0 in let a2 : p < d.stop = ltb-true p d.stop t2.1 in
      and_from _ _ (le-leb (min c.start d.start) p (omega arith)) (lt-ltb p (max c.stop d.stop) (omega arith))

  -- one of the two classes, with its key
  abbrev IsOneOf : ℕ → Class → Type 0
  IsOneOf k z = (class_at old k ≡ Some z) × ((z.name ≡ x) ⊎ (z.name ≡ y)) × (key_now k ≡ keep) × (z.mark ≡ c.mark) × (z.block ≡ c.block) × (z.hard ≡ c.hard)

  first : IsOneOf keep c
  first = (at_c, inl refl, key-other keep differ, refl, refl, refl)

  second : IsOneOf gone d
  second = (at_d, inr refl, key-gone gone refl, may.mark, may.block, may.hard)

  -- a patch of the joint class was of one of the two
  of-both : (e : Entry) → In (map f all) e → e.class ≡ min x y
      → (e0 : Entry) × In all e0 × (f e0 ≡ e) × (e.patch ≡ e0.patch) × ((k : ℕ) × (z : Class) × IsOneOf k z × (e0.class ≡ z.name) × ((n : ℕ) → is_among z.members n ≡ true → is_among both.members n ≡ true))
  of-both e i s =
      let b = back e i in (
        b.0,
        b.1,
        b.2,
        b.3,
        elim (both-named x y b.0.class (sym b.4 ∙ s)) [
          | inl q ↦ (keep, c, first, q, λ n t. among-left c.members d.members n t)
          | inr q ↦ (gone, d, second, q, λ n t. among-right c.members d.members n t)
        ],
      )

  new-both : (e0 : Entry) → (e0.class ≡ x) ⊎ (e0.class ≡ y) → (f e0).class ≡ min x y
  new-both e0 s = class-joined x y e0 ∙ named-both x y e0.class s

  both-of : (k : ℕ) (z : Class) (e0 : Entry) → IsOneOf k z → e0.class ≡ z.name → (f e0).class ≡ min x y
  both-of k z e0 o s = new-both e0 (elim o.1 [ inl q ↦ inl (s ∙ q) | inr q ↦ inr (s ∙ q) ])

  one-after : (n : ℕ) → is_among both.after n ≡ true → (k : ℕ) × (z : Class) × IsOneOf k z × (is_among z.after n ≡ true)
  one-after n t = elim (among-parts c.after d.after n t) [ inl u ↦ (keep, c, first, u) | inr u ↦ (gone, d, second, u) ]

  one-member : (n : ℕ) → is_among both.members n ≡ true → (k : ℕ) × (z : Class) × IsOneOf k z × (is_among z.members n ≡ true)
  one-member n t = elim (among-parts c.members d.members n t) [ inl u ↦ (keep, c, first, u) | inr u ↦ (gone, d, second, u) ]

  one-span : (p : ℕ) → spans both p ≡ true → (k : ℕ) × (z : Class) × IsOneOf k z × (spans z p ≡ true)
  one-span p t = elim (spans-both p t) [ inl u ↦ (keep, c, first, u) | inr u ↦ (gone, d, second, u) ]

  joint-class : IsClassOf (map f all) new rest keep both
  joint-class =
      let w = r.classes keep c at_c in
      record {
        some = (f w.some.0, In-map f all w.some.0 w.some.1, new-both w.some.0 (inl w.some.2));
        members = λ e i s. let b = of-both e i s in let o = b.4 in
            o.4 e.patch.no (subst (λ p. is_among o.1.members p.no ≡ true) (sym b.3) ((r.classes o.0 o.1 o.2.0).members b.0 b.1 o.3));
        only = λ n t. let o = one-member n t in let e = (r.classes o.0 o.1 o.2.0).only n o.3 in
            (f e.0, In-map f all e.0 e.1, ap (λ p. p.no) (patch-joined x y e.0) ∙ e.2, both-of o.0 o.1 e.0 o.2 e.3);
        looks = λ e i s. let b = of-both e i s in let o = b.4 in let l = (r.classes o.0 o.1 o.2.0).looks b.0 b.1 o.3 in
            (ap (λ q. q.mark) (sym b.2) ∙ mark-joined x y b.0 ∙ l.0 ∙ o.2.3, ap (λ p. p.block) b.3 ∙ l.1 ∙ o.2.4, ap (λ q. q.hard) (sym b.2) ∙ hard-joined x y b.0 ∙ l.2 ∙ o.2.5);
        live = λ e i s. let b = of-both e i s in let o = b.4 in ap is_durable (sym b.2) ∙ durable-joined x y b.0 ∙ (r.classes o.0 o.1 o.2.0).live b.0 b.1 o.3;
        found = λ e i s. let b = of-both e i s in let o = b.4 in
            ap (λ p. find rest p.no) b.3 ∙ find-now b.0.patch.no o.0 ((r.classes o.0 o.1 o.2.0).found b.0 b.1 o.3) ∙ ap (λ q. Some q) o.2.2;
        span = λ p. same_bool _ _
            (λ t. let o = one-span p t in
            let e = list_any-at (λ e. e.class == o.1.name && covers e.patch p) all (sym ((r.classes o.0 o.1 o.2.0).span p) ∙ o.3) in
            let t2 = and_parts (e.0.class == o.1.name) (covers e.0.patch p) e.2 in
            list_any-from (λ e. e.class == min x y && covers e.patch p) (map f all) (f e.0) (In-map f all e.0 e.1)
            (and_from _ _ (eq-eqb (f e.0).class (min x y) (both-of o.0 o.1 e.0 o.2 (eqb-true e.0.class o.1.name t2.0))) (ap (λ q. covers q p) (patch-joined x y e.0) ∙ t2.1)))
            (λ t. let e = list_any-at (λ e. e.class == min x y && covers e.patch p) (map f all) t in
            let t2 = and_parts (e.0.class == min x y) (covers e.0.patch p) e.2 in
            let b = of-both e.0 e.1 (eqb-true e.0.class (min x y) t2.0) in
            let o = b.4 in
            let on : spans o.1 p ≡ true = (r.classes o.0 o.1 o.2.0).span p ∙ list_any-from (λ e. e.class == o.1.name && covers e.patch p) all b.0 b.1
            (and_from _ _ (eq-eqb b.0.class o.1.name o.3) (ap (λ q. covers q p) (sym b.3) ∙ t2.1)) in
            both-spans p (which o.0 o.1 o.2 p on));
        named = λ n t. let o = one-after n t in let b = (r.classes o.0 o.1 o.2.0).named n o.3 in let m = length-map f all in omega arith;
        sound = λ n j v t there at2. let o = one-after n t in
            let same : named_now x y o.1.name ≡ min x y = named-both x y o.1.name o.2.1 in
            elim (sound-now o.0 o.1 n j v o.2.0 o.3 there at2) [
              | inl s ↦ inl (s ∙ same)
              | inr q ↦ inr (subst (λ m. DependsOn (map f all) m v.name) same q)
            ];
        complete = λ e h j ie ih s other depends there.
            let b = of-both e ie s in let o = b.4 in
            subst (λ q. Leads new rest q j) o.2.2 (complete-now o.0 o.1 b.0 e h j o.2.0 b.1 o.3 b.3 ih (λ q. other (q ∙ named-both x y o.1.name o.2.1)) depends there);
        within = λ n i. let b = w.within n i in let m = length-map f all in omega arith;
        reaches = λ n j i there. subst (λ q. (j ≡ q) ⊎ Leads new rest q j) (key-other keep differ) (reaches-now keep c n j at_c i there);
      }
    where
      which : (k : ℕ) (z : Class) → IsOneOf k z → (p : ℕ) → spans z p ≡ true → (spans c p ≡ true) ⊎ (spans d p ≡ true)
      which k z o p t = elim o.1 [
        | inl q ↦ inl (subst (λ v. spans v p ≡ true) (class_same z c (sym o.0 ∙ ap (class_at old) (one-key g all r k keep z c o.0 at_c q) ∙ at_c)) t)
        | inr q ↦ inr (subst (λ v. spans v p ≡ true) (class_same z d (sym o.0 ∙ ap (class_at old) (one-key g all r k gone z d o.0 at_d q) ∙ at_d)) t)
      ]

  pub merges : IsOrderly (map f all) → IsGraphOf (record { made = made; slots = new; numbers = rest; tops = tops }) (map f all)
  merges o = record {
    orderly = o;
    numbered = numbered-map f all (patch-joined x y) r.numbered;
    made = r.made ∙ sym (length-map f all);
    classes = λ k z at. elim (cases_eq k keep) [
      | inl e ↦ let same = class_same z both (sym at ∙ ap (class_at new) e ∙ a.here) in
          subst (λ v. IsClassOf (map f all) new rest k v) (sym same) (subst (λ q. IsClassOf (map f all) new rest q both) (sym e) joint-class)
      | inr ok ↦ elim (cases_eq k gone) [
        | inl e ↦ let none = a.none in let there = ap (class_at new) (sym e) ∙ at in absurd (cc)
        | inr og ↦ other-class k z (sym (a.others k ok og) ∙ at) ok og
      ]
    ];
    found = λ e i alive.
        let b = back e i in
        let w = r.found b.0 b.1 (sym (durable-joined x y b.0) ∙ ap is_durable b.2 ∙ alive) in
        let im = image w.0 w.1 w.3 in
        (key_now w.0, im.0, ap (λ p. find rest p.no) b.3 ∙ find-now b.0.patch.no w.0 w.2, im.1, im.2 ∙ ap (named_now x y) w.4 ∙ sym b.4);
    live = λ n j at.
        let was = find-was n j at in
        let w = r.live n was.0 was.2 in
        (f w.0, In-map f all w.0 w.1, ap (λ p. p.no) (patch-joined x y w.0) ∙ w.2, durable-joined x y w.0 ∙ w.3);
    tops = λ b p. tops-kept f all b p (top_at (spans_of tops b) p) (patch-joined x y) (λ e i d. sym (durable-joined x y e) ∙ d) (r.tops b p);
  }
