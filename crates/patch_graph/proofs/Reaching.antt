-- What a search finds are the paths.
use Rattle.std.proofs.Common.{◌≡◌, ℕ, ◌<◌, ◌≤◌, ◌⊎◌, ◌∙◌, inl, inr, Bool, true, false, not, List, length, refl, sym, ap, subst, arith, Option, Some, None, IsTrue, Bor}
use Rattle.std.specs.Prelude.{◌==◌, ◌&&◌, ◌≢◌, ◌↔◌}
use Rattle.std.specs.List.{list_any}
use Rattle.std.proofs.lemmas.Bool.{cases_Bool, cases_eq, and_parts, and_from, both_ways, eqb-true, eq-eqb, ne_eqb}
use Rattle.patch_model.specs.Entry.{Entry, is_durable, marks_durable, is_among}
use Rattle.patch_model.specs.Dependency.{depends_directly, Path, one as one_path, onward as onward_path, class_depends}
use Rattle.patch_model.specs.Member.{In, list_any-at, list_any-from}
use Rattle.patch_links.specs.State.{Class, Slots, Numbers, find, class_at, leads, leads_at}
use Rattle.patch_graph.specs.State.{Graph, KeysFit}
use Rattle.patch_graph.specs.Marks.{is_marked}
use Rattle.patch_graph.proofs.Facts.{known}
use Rattle.patch_graph.specs.Meaning.{Leads, one, onward, DependsOn, IsGraphOf, IsLiveClass, IsNotLive}
use Rattle.patch_graph.specs.Between.{ReachesOther, LacksAnEnd, LacksAKey}
use Rattle.patch_graph.specs.Search.{depends_at, Chain, once, further, Reaches, steps, IsReachable}
use Rattle.patch_graph.specs.declared.searching.Way.TheVariants.{Down, Up, Among}
use Rattle.patch_graph.proofs.Going.{depending, depends}
use Rattle.patch_graph.proofs.ReadySet.{placed, some_same, class_same, In-is_among}
use Rattle.patch_graph.proofs.Searches.{found-lead}

depends-from : (all : List Entry) (a b : ℕ) → a ≢ b → DependsOn all a b → class_depends all a b ≡ true
depends-from all a b other d = and_from _ _ (ap not (ne_eqb a b other)) (list_any-from (λ e. e.class == a && list_any (λ f. f.class == b && depends_directly e.patch f.patch) all) all d.e d.in_e
    (and_from _ _ (eq-eqb d.e.class a d.of_a) (list_any-from (λ f. f.class == b && depends_directly d.e.patch f.patch) all d.f d.in_f (and_from _ _ (eq-eqb d.f.class b d.of_b) d.depends))))

pub from-depends : (all : List Entry) (a b : ℕ) → class_depends all a b ≡ true → DependsOn all a b
from-depends all a b t =
    let u = and_parts (not (a == b)) (list_any (λ e. e.class == a && list_any (λ f. f.class == b && depends_directly e.patch f.patch) all) all) t in
    let e = list_any-at (λ e. e.class == a && list_any (λ f. f.class == b && depends_directly e.patch f.patch) all) all u.1 in
    let e2 = and_parts (e.0.class == a) (list_any (λ f. f.class == b && depends_directly e.0.patch f.patch) all) e.2 in
    let f = list_any-at (λ f. f.class == b && depends_directly e.0.patch f.patch) all e2.1 in
    let f2 = and_parts (f.0.class == b) (depends_directly e.0.patch f.0.patch) f.2 in
    record { e = e.0; f = f.0; in_e = e.1; in_f = f.1; of_a = eqb-true e.0.class a e2.0; of_b = eqb-true f.0.class b f2.0; depends = f2.1 }

pub joined-path : (all : List Entry) (a b c : ℕ) → Path all a b → Path all b c → Path all a c
joined-path all a b c (one_path t) q = onward_path t q
joined-path all a b c (onward_path {b = d} t p) q = onward_path t (joined-path all d b c p q)

onward-leads : (slots : Slots) (numbers : Numbers) (k j l : ℕ) (c : Class) → Leads slots numbers k j → class_at slots j ≡ Some c → leads numbers c l ≡ true → Leads slots numbers k l
onward-leads slots numbers k j l c (one d at2 t2) at t = onward d at2 t2 (one c at t)
onward-leads slots numbers k j l c (onward {j = m} d at2 t2 rest) at t = onward d at2 t2 (onward-leads slots numbers m j l c rest at t)

-- what a search down comes to depends on nothing but what leads there
chain-down : (slots : Slots) (numbers : Numbers) (k j : ℕ) → Chain (steps slots numbers Down) k j → Leads slots numbers k j
chain-down slots numbers k j (once t) = let c = depending slots numbers k j t in one c.0 c.1 c.2
chain-down slots numbers k l (further {j = j} chain t) = let c = depending slots numbers j l t in onward-leads slots numbers k j l c.0 (chain-down slots numbers k j chain) c.1 c.2

pub reached-down : (slots : Slots) (numbers : Numbers) (from key : ℕ) → Reaches (steps slots numbers Down) from key → (from ≡ key) ⊎ Leads slots numbers from key
reached-down slots numbers from key (inl e) = inl e
reached-down slots numbers from key (inr chain) = inr (chain-down slots numbers from key chain)

-- and what one up comes to leads to where it began
chain-up : (slots : Slots) (numbers : Numbers) (k j : ℕ) → Chain (steps slots numbers Up) k j → Leads slots numbers j k
chain-up slots numbers k j (once t) = let c = depending slots numbers j k t in one c.0 c.1 c.2
chain-up slots numbers k l (further {j = j} chain t) = let c = depending slots numbers l j t in onward c.0 c.1 c.2 (chain-up slots numbers k j chain)

pub reached-up : (slots : Slots) (numbers : Numbers) (to key : ℕ) → Reaches (steps slots numbers Up) to key → (to ≡ key) ⊎ Leads slots numbers key to
reached-up slots numbers to key (inl e) = inl e
reached-up slots numbers to key (inr chain) = inr (chain-up slots numbers to key chain)

-- one among marked keys comes to these alone
chain-among : (slots : Slots) (numbers : Numbers) (marks : Bor (List Bool)) (k j : ℕ) → Chain (steps slots numbers (Among marks)) k j → Leads slots numbers k j × (is_marked marks.now j ≡ true)
chain-among slots numbers marks k j (once t) =
    let u = and_parts (depends_at slots numbers k j) (is_marked marks.now j) t in
    let c = depending slots numbers k j u.0 in
    (one c.0 c.1 c.2, u.1)
chain-among slots numbers marks k l (further {j = j} chain t) =
    let u = and_parts (depends_at slots numbers j l) (is_marked marks.now l) t in
    let c = depending slots numbers j l u.0 in
    (onward-leads slots numbers k j l c.0 (chain-among slots numbers marks k j chain).0 c.1 c.2, u.1)

pub reached-among : (slots : Slots) (numbers : Numbers) (marks : Bor (List Bool)) (from key : ℕ) → Reaches (steps slots numbers (Among marks)) from key
    → (from ≡ key) ⊎ (Leads slots numbers from key × (is_marked marks.now key ≡ true))
reached-among slots numbers marks from key (inl e) = inl e
reached-among slots numbers marks from key (inr chain) = inr (chain-among slots numbers marks from key chain)

module _ (g : Graph) (all : List Entry) (r : IsGraphOf g all) where
  -- the class that a number leads to
  pub target : (c : Class) (j : ℕ) → leads g.numbers c j ≡ true → (n : ℕ) × (d : Class) × (is_among c.after n ≡ true) × (find g.numbers n ≡ Some j) × (class_at g.slots j ≡ Some d)
  target c j t =
      let w = list_any-at (leads_at g.numbers j) c.after t in
      let at = found-lead g.numbers j w.0 w.2 in
      let l = r.live w.0 j at in
      let q = placed g all r l.0 j l.1 (ap (find g.numbers) l.2 ∙ at) in
      (w.0, q.0, In-is_among c.after w.0 w.1, at, q.1)

  pub step-path : (k j : ℕ) (c d : Class) → class_at g.slots k ≡ Some c → class_at g.slots j ≡ Some d → leads g.numbers c j ≡ true → (c.name ≡ d.name) ⊎ Path all c.name d.name
  step-path k j c d at at2 t =
      let w = target c j t in
      elim ((r.classes k c at).sound w.0 j d w.2 w.3 at2) [
        | inl s ↦ inl (sym s)
        | inr x ↦ elim (cases_eq c.name d.name) [ inl s ↦ inl s | inr other ↦ inr (one_path (depends-from all c.name d.name other x)) ]
      ]

  pub Leads-path : (k j : ℕ) (c d : Class) → Leads g.slots g.numbers k j → class_at g.slots k ≡ Some c → class_at g.slots j ≡ Some d → (c.name ≡ d.name) ⊎ Path all c.name d.name
  Leads-path k j c d (one x at2 t) at at3 = let s = class_same x c (sym at2 ∙ at) in step-path k j c d at at3 (subst (λ z. leads g.numbers z j ≡ true) s t)
  Leads-path k l c d (onward {j = j} x at2 t rest) at at3 =
      let s = class_same x c (sym at2 ∙ at) in
      let w = target x j t in
      let m = w.1 in
      let first = step-path k j c m at w.4 (subst (λ z. leads g.numbers z j ≡ true) s t) in
      let last = Leads-path j l m d rest w.4 at3 in
      elim first [
        | inl e ↦ elim last [ inl e2 ↦ inl (e ∙ e2) | inr p ↦ inr (subst (λ z. Path all z d.name) (sym e) p) ]
        | inr p ↦ elim last [ inl e2 ↦ inr (subst (λ z. Path all c.name z) e2 p) | inr q ↦ inr (joined-path all c.name m.name d.name p q) ]
      ]

  -- what leads to a live class is live
  abbrev Live : ℕ → Type 0
  Live a = (e : Entry) → In all e → e.class ≡ a → is_durable e ≡ false

  live-step : (a b : ℕ) → DependsOn all a b → Live b → Live a
  live-step a b d live e i s = elim (cases_Bool (is_durable e)) [
    | inr u ↦ u
    | inl t ↦
        let like = (known g all r).alike e d.e i d.in_e (s ∙ sym d.of_a) in
        let t2 : is_durable d.e ≡ true = sym (ap marks_durable like.0) ∙ t in
        absurd (both_ways _ (live d.f d.in_f d.of_b) ((known g all r).durable d.e d.f d.in_e d.in_f d.depends t2))
  ]

  pub live-path : (a b : ℕ) → Path all a b → Live b → Live a
  live-path a b (one_path t) live = live-step a b (from-depends all a b t) live
  live-path a b (onward_path {b = c} t p) live = live-step a c (from-depends all a c t) (live-path c b p live)

  -- two classes of one name have one key
  pub one-key : (k j : ℕ) (c d : Class) → class_at g.slots k ≡ Some c → class_at g.slots j ≡ Some d → c.name ≡ d.name → k ≡ j
  one-key k j c d at at2 s =
      let w = r.classes k c at in
      some_same k j (sym (w.found w.some.0 w.some.1 w.some.2) ∙ (r.classes j d at2).found w.some.0 w.some.1 (w.some.2 ∙ s))

  depends-leads : (k j : ℕ) (c d : Class) → class_at g.slots k ≡ Some c → class_at g.slots j ≡ Some d → DependsOn all c.name d.name → (k ≡ j) ⊎ Leads g.slots g.numbers k j
  depends-leads k j c d at at2 x = elim (cases_eq d.name c.name) [
    | inl e ↦ inl (one-key k j c d at at2 (sym e))
    | inr n ↦ inr ((r.classes k c at).complete x.e x.f j x.in_e x.in_f x.of_a (λ e. n (sym x.of_b ∙ e)) x.depends ((r.classes j d at2).found x.f x.in_f x.of_b))
  ]

  pub joined-leads : (k j l : ℕ) → Leads g.slots g.numbers k j → Leads g.slots g.numbers j l → Leads g.slots g.numbers k l
  joined-leads k j l (one c at t) q = onward c at t q
  joined-leads k j l (onward {j = i} c at t p) q = onward c at t (joined-leads i j l p q)

  pub path-leads : (a b k j : ℕ) (c d : Class) → Path all a b → c.name ≡ a → d.name ≡ b → class_at g.slots k ≡ Some c → class_at g.slots j ≡ Some d → (k ≡ j) ⊎ Leads g.slots g.numbers k j
  path-leads a b k j c d (one_path t) ea eb at at2 =
      depends-leads k j c d at at2 (subst (λ z. DependsOn all z d.name) (sym ea) (subst (λ z. DependsOn all a z) (sym eb) (from-depends all a b t)))
  path-leads a b k j c d (onward_path {b = mid} t p) ea eb at at2 =
      let x = from-depends all a mid t in
      let live_mid = live-path mid b p (λ e i same. (r.classes j d at2).live e i (same ∙ sym eb)) in
      let f = r.found x.f x.in_f (live_mid x.f x.in_f x.of_b) in
      let named : f.1.name ≡ mid = f.4 ∙ x.of_b in
      let first = depends-leads k f.0 c f.1 at f.3 (subst (λ z. DependsOn all z f.1.name) (sym ea) (subst (λ z. DependsOn all a z) (sym named) x)) in
      let last = path-leads mid b f.0 j f.1 d p named eb f.3 at2 in
      elim first [
        | inl e ↦ elim last [ inl e2 ↦ inl (e ∙ e2) | inr q ↦ inr (subst (λ z. Leads g.slots g.numbers z j) (sym e) q) ]
        | inr q ↦ elim last [ inl e2 ↦ inr (subst (λ z. Leads g.slots g.numbers k z) e2 q) | inr q2 ↦ inr (joined-leads k f.0 j q q2) ]
      ]

  module _ (from to : ℕ) (marks : List Bool) (s : IsReachable (steps g.slots g.numbers Down) from to marks) (low : KeysFit g.slots (length marks)) where
    pub marked-step : (k j : ℕ) (c : Class) → is_marked marks k ≡ true → k ≢ to → class_at g.slots k ≡ Some c → leads g.numbers c j ≡ true → is_marked marks j ≡ true
    marked-step k j c t other at led =
        let w = target c j led in
        s.closed k j t other (depends g.slots g.numbers k j c at led) (low j w.1 w.4)

    -- the key is marked, or the search came to the key to, which leads to it
    abbrev IsMet : ℕ → Type 0
    IsMet j = ((is_marked marks to ≡ true) × Leads g.slots g.numbers to j) ⊎ (is_marked marks j ≡ true)

    marked-Leads : (k j : ℕ) → Leads g.slots g.numbers k j → is_marked marks k ≡ true → IsMet j
    marked-Leads k j (one c at t) m = elim (cases_eq k to) [
      | inl e ↦ inl (subst (λ z. is_marked marks z ≡ true) e m, subst (λ z. Leads g.slots g.numbers z j) e (one c at t))
      | inr o ↦ inr (marked-step k j c m o at t)
    ]
    marked-Leads k l (onward {j = j} c at t rest) m = elim (cases_eq k to) [
      | inl e ↦ inl (subst (λ z. is_marked marks z ≡ true) e m, subst (λ z. Leads g.slots g.numbers z l) e (onward c at t rest))
      | inr o ↦ marked-Leads j l rest (marked-step k j c m o at t)
    ]

    pub marked-path : (a b k j : ℕ) (c d : Class) → Path all a b → c.name ≡ a → d.name ≡ b → class_at g.slots k ≡ Some c → class_at g.slots j ≡ Some d → is_marked marks k ≡ true → IsMet j
    marked-path a b k j c d p ea eb at at2 m = elim (path-leads a b k j c d p ea eb at at2) [
      | inl e ↦ inr (subst (λ z. is_marked marks z ≡ true) e m)
      | inr q ↦ marked-Leads k j q m
    ]

-- two classes at two keys, of which the first is where a search began
pub reaches_is : (g : Graph) (all : List Entry) (a b x y from to : ℕ) (marks : List Bool) → IsGraphOf g all → KeysFit g.slots (length marks)
    → IsLiveClass all a x → IsLiveClass all b y → from ≢ to → find g.numbers a ≡ Some from → find g.numbers b ≡ Some to
    → IsReachable (steps g.slots g.numbers Down) from to marks → IsTrue (is_marked marks to) ↔ ReachesOther all x y
reaches_is g all a b x y from to marks r low la lb apart fa fb s =
    let qa = placed g all r la.0 from la.1 (ap (find g.numbers) la.2 ∙ fa) in
    let qb = placed g all r lb.0 to lb.1 (ap (find g.numbers) lb.2 ∙ fb) in
    let na : qa.0.name ≡ x = qa.2 ∙ la.4 in
    let nb : qb.0.name ≡ y = qb.2 ∙ lb.4 in
    let differ : x ≢ y = λ e. apart (one-key g all r from to qa.0 qb.0 qa.1 qb.1 (na ∙ e ∙ sym nb)) in (
      (λ t. (
        differ,
        elim (reached-down g.slots g.numbers from to (s.reached to t)) [
          | inl e ↦ absurd (apart e)
          | inr l ↦ elim (Leads-path g all r from to qa.0 qb.0 l qa.1 qb.1) [
            | inl e ↦ absurd (differ (sym na ∙ e ∙ nb))
            | inr p ↦ subst (λ z. Path all z y) na (subst (λ z. Path all qa.0.name z) nb p)
          ]
        ],
      )),
      (λ p. elim (marked-path g all r from to marks s low x y from to qa.0 qb.0 p.1 na nb qa.1 qb.1 s.first) [ inl m ↦ m.0 | inr m ↦ m ]),
    )

-- two live patches at one key are of one class, which doesn't reach itself
pub reaches-not : (g : Graph) (all : List Entry) (a b x y from to : ℕ) → IsGraphOf g all → IsLiveClass all a x → IsLiveClass all b y
    → find g.numbers a ≡ Some from → find g.numbers b ≡ Some to → from ≡ to → ReachesOther all x y → ⊥
reaches-not g all a b x y from to r la lb fa fb e p =
    let qa = placed g all r la.0 from la.1 (ap (find g.numbers) la.2 ∙ fa) in
    let qb = placed g all r lb.0 to lb.1 (ap (find g.numbers) lb.2 ∙ fb) in
    let same = class_same qa.0 qb.0 (sym qa.1 ∙ ap (class_at g.slots) e ∙ qb.1) in
    p.0 (sym (qa.2 ∙ la.4) ∙ ap (λ z. z.name) same ∙ qb.2 ∙ lb.4)

-- a number that isn't live has no key
not_found : (g : Graph) (all : List Entry) (n : ℕ) → IsGraphOf g all → IsNotLive all n → find g.numbers n ≡ None
not_found g all n r off = by (find g.numbers n) refl
  where
    by : (found : Option ℕ) → find g.numbers n ≡ found → found ≡ None
    by None at = refl
    by (Some key) at = let l = r.live n key at in absurd (both_ways _ l.3 (off l.0 l.1 l.2))

pub lacks-key : (g : Graph) (all : List Entry) (a b : ℕ) → IsGraphOf g all → LacksAnEnd all a b → LacksAKey g.numbers a b
lacks-key g all a b r off = elim off [ inl x ↦ inl (not_found g all a r x) | inr x ↦ inr (not_found g all b r x) ]

-- where both have one, none is lacking
pub has-keys : (numbers : Numbers) (a b from to : ℕ) → find numbers a ≡ Some from → find numbers b ≡ Some to → LacksAKey numbers a b → ⊥
has-keys numbers a b from to fa fb off = elim off [ inl x ↦ cc | inr x ↦ cc ]

pub is_found : (g : Graph) (all : List Entry) (n x : ℕ) → IsGraphOf g all → IsLiveClass all n x → find g.numbers n ≡ None → ⊥
is_found g all n x r l none =
    let f = r.found l.0 l.1 l.3 in
    let hit : find g.numbers n ≡ Some f.0 = subst (λ m. find g.numbers m ≡ Some f.0) l.2 f.2 in
    cc

pub is_low : (g : Graph) (all : List Entry) (n x k room : ℕ) → IsGraphOf g all → KeysFit g.slots room → IsLiveClass all n x → find g.numbers n ≡ Some k → k < room
is_low g all n x k room r fit l at =
    let q = placed g all r l.0 k l.1 (ap (find g.numbers) l.2 ∙ at) in
    fit k q.0 q.1

-- a live class has a key for which there is room
pub beyond : (g : Graph) (all : List Entry) (n x k room : ℕ) → IsGraphOf g all → KeysFit g.slots room → IsLiveClass all n x → find g.numbers n ≡ Some k → room ≤ k → ⊥
beyond g all n x k room r fit l at far = let low = is_low g all n x k room r fit l at in omega arith
