-- Putting classes in flight.
use Rattle.std.proofs.Common.{◌≡◌, ℕ, ◌⊎◌, ◌∙◌, inl, inr, Bool, true, false, List, [], ◌∷◌, map, refl, sym, ap, arith, subst, Some, None}
use Rattle.std.specs.Prelude.{◌==◌, ◌&&◌, if◌then◌else◌}
use Rattle.std.specs.Option.{option_map}
use Rattle.std.proofs.lemmas.Bool.{cases_Bool, both_ways}
use Rattle.std.specs.List.{list_any}
use Rattle.patch_model.specs.declared.patches.Mark.TheVariants.{Flight}
use Rattle.patch_model.specs.Entry.{Entry, is_durable, is_among}
use Rattle.patch_model.specs.Ready.{has, ready, ReadyIsOnly}
use Rattle.patch_model.specs.State.{sent}
use Rattle.patch_model.specs.Dependency.{depends_directly}
use Rattle.patch_model.specs.Pile.{covers}
use Rattle.patch_model.specs.Orderly.{IsOrderly}
use Rattle.patch_model.specs.Member.{In, In-filter, filter-In}
use Rattle.patch_model.specs.Entries.{has-In, In-has}
use Rattle.patch_graph.proofs.Steps.{patch-sent, In-map, map-In, length-map, numbered-map}
use Rattle.patch_links.specs.State.{Class, Slots, Numbers, IsInReach, find, class_at, leads}
use Rattle.patch_graph.specs.State.{Graph, spans, KeysFit}
use Rattle.patch_graph.proofs.Facts.{known}
use Rattle.patch_graph.specs.Skyline.{Skylines, spans_of}
use Rattle.patch_skyline.specs.Skyline.{top_at}
use Rattle.patch_graph.proofs.Tops.{tops-kept}
use Rattle.patch_graph.specs.Meaning.{Leads, one, onward, DependsOn, IsClassOf, IsGraphOf}
use Rattle.patch_links.specs.Ready.{picks, IsLargestMet}
use Rattle.patch_links.specs.MarkFlight.{flown, AreFlown}
use Rattle.patch_graph.proofs.ReadySet.{placed, chosen, chosen_set, chosen-ready, chosen-at, at-chosen, some_same, class_same}

pub cases_class : (slots : Slots) (key : ℕ) → (class_at slots key ≡ None) ⊎ ((c : Class) × (class_at slots key ≡ Some c))
cases_class slots key = elim (class_at slots key) as (λ o. (o ≡ None) ⊎ ((c : Class) × (o ≡ Some c))) [ None ↦ inl refl | Some c ↦ inr (c, refl) ]

-- no class comes to another key
pub flown-fit : (set : ℕ → Bool) (old new : Slots) (room : ℕ) → AreFlown set old new → KeysFit old room → KeysFit new room
flown-fit set old new room a fit key d at = elim (cases_class old key) [
  | inl none ↦ let e : class_at new key ≡ None = a key ∙ ap (option_map (λ c. if set key then flown c else c)) none in absurd (cc)
  | inr c ↦ fit key c.0 c.1
]

class-sent : (set : List Entry) (e : Entry) → (sent set e).class ≡ e.class
class-sent set e = elim (cases_Bool (has set e)) [ inl u ↦ rw u refl | inr u ↦ rw u refl ]

hard-sent : (set : List Entry) (e : Entry) → (sent set e).hard ≡ e.hard
hard-sent set e = elim (cases_Bool (has set e)) [ inl u ↦ rw u refl | inr u ↦ rw u refl ]

module _ (made : ℕ) (tops : Skylines) (old new : Slots) (numbers : Numbers) (all : List Entry) (block : ℕ) (taken : ℕ → Bool)
    (r : IsGraphOf (record { made = made; slots = old; numbers = numbers; tops = tops }) all)
    (l : IsLargestMet old numbers (picks old block) taken) (a : AreFlown taken old new) where
  abbrev g : Graph
  g = record { made = made; slots = old; numbers = numbers; tops = tops }

  abbrev set : List Entry
  set = chosen_set g all r block taken l

  abbrev f : Entry → Entry
  f e = sent set e

  abbrev turned : ℕ → Class → Class
  turned key c = if taken key then flown c else c

  -- a class's patches are sent where its key is marked
  sent-where : (key : ℕ) (c : Class) (e : Entry) → class_at old key ≡ Some c → In all e → e.class ≡ c.name → has set e ≡ taken key
  sent-where key c e at i s =
      let there = (r.classes key c at).found e i s in
      elim (cases_Bool (taken key)) [
        | inl t ↦ In-has set e (In-filter (chosen g all r block taken l) all e i (chosen-at g all r block taken l e key there t)) ∙ sym t
        | inr t ↦ elim (cases_Bool (has set e)) [
          | inr u ↦ u ∙ sym t
          | inl u ↦
              let k = has-In all set e (known g all r).numbers (λ x j. (filter-In (chosen g all r block taken l) all x j).0) i u in
              let c2 = at-chosen g all r block taken l e (filter-In (chosen g all r block taken l) all e k).1 in
              let same = some_same c2.0 key (sym c2.1 ∙ there) in
              absurd (both_ways _ t (subst (λ z. taken z ≡ true) same c2.2))
        ]
      ]

  class-now : (key : ℕ) (c : Class) → class_at old key ≡ Some c → class_at new key ≡ Some (turned key c)
  class-now key c at = a key ∙ ap (option_map (turned key)) at

  class-was : (key : ℕ) (d : Class) → class_at new key ≡ Some d → (c : Class) × (class_at old key ≡ Some c) × (d ≡ turned key c)
  class-was key d at = elim (cases_class old key) [
    | inl none ↦ let e : class_at new key ≡ None = a key ∙ ap (option_map (turned key)) none in absurd (cc)
    | inr c ↦ (c.0, c.1, class_same d (turned key c.0) (sym at ∙ class-now key c.0 c.1))
  ]

  name-turned : (key : ℕ) (c : Class) → (turned key c).name ≡ c.name
  name-turned key c = elim (cases_Bool (taken key)) [ inl t ↦ rw t refl | inr t ↦ rw t refl ]

  after-turned : (key : ℕ) (c : Class) → (turned key c).after ≡ c.after
  after-turned key c = elim (cases_Bool (taken key)) [ inl t ↦ rw t refl | inr t ↦ rw t refl ]

  leads-turned : (key j : ℕ) (c : Class) → leads numbers c j ≡ true → leads numbers (turned key c) j ≡ true
  leads-turned key j c t = elim (cases_Bool (taken key)) [ inl u ↦ rw u t | inr u ↦ rw u t ]

  Leads-now : (k j : ℕ) → Leads old numbers k j → Leads new numbers k j
  Leads-now k j (one c at t) = one (turned k c) (class-now k c at) (leads-turned k j c t)
  Leads-now k m (onward {j = j} c at t rest) = onward (turned k c) (class-now k c at) (leads-turned k j c t) (Leads-now j m rest)

  sent-depends : (x y : ℕ) → DependsOn all x y → DependsOn (map f all) x y
  sent-depends x y d = record {
    e = f d.e;
    f = f d.f;
    in_e = In-map f all d.e d.in_e;
    in_f = In-map f all d.f d.in_f;
    of_a = class-sent set d.e ∙ d.of_a;
    of_b = class-sent set d.f ∙ d.of_b;
    depends = ap (λ p. depends_directly p (f d.f).patch) (patch-sent set d.e) ∙ ap (λ p. depends_directly d.e.patch p) (patch-sent set d.f) ∙ d.depends;
  }

  live-sent : (e : Entry) → is_durable e ≡ false → is_durable (f e) ≡ false
  live-sent e d = elim (cases_Bool (has set e)) [ inl u ↦ rw u refl | inr u ↦ rw u d ]

  sent-live : (e : Entry) → is_durable (f e) ≡ false → In all e → is_durable e ≡ false
  sent-live e d i = elim (cases_Bool (is_durable e)) [
    | inr u ↦ u
    | inl t ↦ elim (cases_Bool (has set e)) [
      | inr u ↦ sym (ap (λ b. is_durable (if b then record e { mark = Flight } else e)) u) ∙ d
      | inl u ↦
          let k = has-In all set e (known g all r).numbers (λ x j. (filter-In (chosen g all r block taken l) all x j).0) i u in
          let c2 = at-chosen g all r block taken l e (filter-In (chosen g all r block taken l) all e k).1 in
          (placed g all r e c2.0 i c2.1).3
    ]
  ]

  members-turned : (key : ℕ) (c : Class) (n : ℕ) → is_among c.members n ≡ true → is_among (turned key c).members n ≡ true
  members-turned key c n t = elim (cases_Bool (taken key)) [ inl u ↦ rw u t | inr u ↦ rw u t ]

  turned-members : (key : ℕ) (c : Class) (n : ℕ) → is_among (turned key c).members n ≡ true → is_among c.members n ≡ true
  turned-members key c n t = elim (cases_Bool (taken key)) [ inl u ↦ rw u at t | inr u ↦ rw u at t ]

  turned-after : (key : ℕ) (c : Class) (n : ℕ) → is_among (turned key c).after n ≡ true → is_among c.after n ≡ true
  turned-after key c n t = subst (λ z. is_among z n ≡ true) (after-turned key c) t

  turned-reach : (key : ℕ) (c : Class) (n : ℕ) → IsInReach (turned key c).reach n → IsInReach c.reach n
  turned-reach key c n i = elim (cases_Bool (taken key)) [ inl u ↦ rw u at i | inr u ↦ rw u at i ]

  span-turned : (key : ℕ) (c : Class) (x : ℕ) → spans (turned key c) x ≡ spans c x
  span-turned key c x = elim (cases_Bool (taken key)) [ inl u ↦ rw u refl | inr u ↦ rw u refl ]

  any-sent : (n x : ℕ) (es : List Entry) → list_any (λ e. e.class == n && covers e.patch x) (map f es) ≡ list_any (λ e. e.class == n && covers e.patch x) es
  any-sent n x [] = refl
  any-sent n x (e ∷ es) = let c = class-sent set e in let p = patch-sent set e in let rest = any-sent n x es in cc

  looks-turned : (key : ℕ) (c : Class) (e : Entry) → class_at old key ≡ Some c → In all e → e.class ≡ c.name → (e.mark ≡ c.mark) × (e.patch.block ≡ c.block) × (e.hard ≡ c.hard)
      → ((f e).mark ≡ (turned key c).mark) × ((f e).patch.block ≡ (turned key c).block) × ((f e).hard ≡ (turned key c).hard)
  looks-turned key c e at i s k =
      let w = sent-where key c e at i s in
      elim (cases_Bool (taken key)) [ inl u ↦ rw (w, u) (refl, k.1, k.2) | inr u ↦ rw (w, u) k ]

  class-of-now : (key : ℕ) (c : Class) → class_at old key ≡ Some c → IsClassOf (map f all) new numbers key (turned key c)
  class-of-now key c at =
      let w = r.classes key c at in
      let name = name-turned key c in
      let own : (x e : Entry) → f e ≡ x → x.class ≡ (turned key c).name → e.class ≡ c.name = λ x e fe s. sym (class-sent set e) ∙ ap (λ z. z.class) fe ∙ s ∙ name in
      record {
        some = (f w.some.0, In-map f all w.some.0 w.some.1, class-sent set w.some.0 ∙ w.some.2 ∙ sym name);
        members = λ x i s. let y = map-In f all x i in
            let m = w.members y.0 y.1 (own x y.0 y.2 s) in
            let n : y.0.patch.no ≡ x.patch.no = ap (λ p. p.no) (sym (patch-sent set y.0)) ∙ ap (λ z. z.patch.no) y.2 in
            members-turned key c x.patch.no (subst (λ z. is_among c.members z ≡ true) n m);
        only = λ n t.
            let x = w.only n (turned-members key c n t) in
            (f x.0, In-map f all x.0 x.1, ap (λ p. p.no) (patch-sent set x.0) ∙ x.2, class-sent set x.0 ∙ x.3 ∙ sym name);
        looks = λ x i s. let y = map-In f all x i in
            let o = own x y.0 y.2 s in
            let k = looks-turned key c y.0 at y.1 o (w.looks y.0 y.1 o) in
            (sym (ap (λ z. z.mark) y.2) ∙ k.0, sym (ap (λ z. z.patch.block) y.2) ∙ k.1, sym (ap (λ z. z.hard) y.2) ∙ k.2);
        live = λ x i s. let y = map-In f all x i in sym (ap is_durable y.2) ∙ live-sent y.0 (w.live y.0 y.1 (own x y.0 y.2 s));
        found = λ x i s. let y = map-In f all x i in sym (ap (λ z. find numbers z.patch.no) y.2) ∙ ap (λ p. find numbers p.no) (patch-sent set y.0) ∙ w.found y.0 y.1 (own x y.0 y.2 s);
        span = λ x. span-turned key c x ∙ w.span x ∙ sym (ap (λ n. list_any (λ e. e.class == n && covers e.patch x) (map f all)) name ∙ any-sent c.name x all);
        named = λ n t. let b = w.named n (turned-after key c n t) in let m = length-map f all in omega arith;
        sound = λ n j d t there at2.
            let b = class-was j d at2 in
            let dn : d.name ≡ b.0.name = ap (λ z. z.name) b.2 ∙ name-turned j b.0 in
            elim (w.sound n j b.0 (turned-after key c n t) there b.1) [
              | inl s ↦ inl (dn ∙ s ∙ sym name)
              | inr x ↦ inr (subst (λ z. DependsOn (map f all) z d.name) (sym name) (subst (λ z. DependsOn (map f all) c.name z) (sym dn) (sent-depends c.name b.0.name x)))
            ];
        complete = λ x y j ix iy s other depends there.
            let x0 = map-In f all x ix in
            let y0 = map-In f all y iy in
            let px : x.patch ≡ x0.0.patch = sym (ap (λ z. z.patch) x0.2) ∙ patch-sent set x0.0 in
            let py : y.patch ≡ y0.0.patch = sym (ap (λ z. z.patch) y0.2) ∙ patch-sent set y0.0 in
            let cy : y.class ≡ y0.0.class = sym (ap (λ z. z.class) y0.2) ∙ class-sent set y0.0 in
            Leads-now key j (w.complete x0.0 y0.0 j x0.1 y0.1 (own x x0.0 x0.2 s) (λ e. other (cy ∙ e ∙ sym name))
            (ap (λ p. depends_directly p y0.0.patch) (sym px) ∙ ap (λ p. depends_directly x.patch p) (sym py) ∙ depends)
            (ap (λ p. find numbers p.no) (sym py) ∙ there));
        within = λ n i. let b = w.within n (turned-reach key c n i) in let m = length-map f all in omega arith;
        reaches = λ n j i there. elim (w.reaches n j (turned-reach key c n i) there) [ inl e ↦ inl e | inr way ↦ inr (Leads-now key j way) ];
      }

  represents : IsOrderly (map f all) → IsGraphOf (record { made = made; slots = new; numbers = numbers; tops = tops }) (map f all)
  represents o = record {
    orderly = o;
    numbered = numbered-map f all (patch-sent set) r.numbered;
    made = r.made ∙ sym (length-map f all);
    classes = λ key d at. let b = class-was key d at in subst (λ z. IsClassOf (map f all) new numbers key z) (sym b.2) (class-of-now key b.0 b.1);
    found = λ x i alive.
        let y = map-In f all x i in
        let w = r.found y.0 y.1 (sent-live y.0 (ap is_durable y.2 ∙ alive) y.1) in
        (w.0, turned w.0 w.1, sym (ap (λ z. find numbers z.patch.no) y.2) ∙ ap (λ p. find numbers p.no) (patch-sent set y.0) ∙ w.2, class-now w.0 w.1 w.3, name-turned w.0 w.1 ∙ w.4 ∙ sym (class-sent set y.0) ∙ ap (λ z. z.class) y.2);
    live = λ n k at. let w = r.live n k at in (f w.0, In-map f all w.0 w.1, ap (λ p. p.no) (patch-sent set w.0) ∙ w.2, live-sent w.0 w.3);
    tops = λ b x. tops-kept f all b x (top_at (spans_of tops b) x) (patch-sent set) (λ e i d. sent-live e d i) (r.tops b x);
  }

  represents-ready : ReadyIsOnly → IsOrderly (map (sent (ready all block)) all) → IsGraphOf (record { made = made; slots = new; numbers = numbers; tops = tops }) (map (sent (ready all block)) all)
  represents-ready only = let is = chosen-ready g all r block taken l only in
      subst (λ s. IsOrderly (map (sent s) all) → IsGraphOf (record { made = made; slots = new; numbers = numbers; tops = tops }) (map (sent s) all)) is represents

pub flies : ReadyIsOnly → (made : ℕ) (tops : Skylines) (old new : Slots) (numbers : Numbers) (all : List Entry) (block : ℕ) (taken : ℕ → Bool)
    → IsGraphOf (record { made = made; slots = old; numbers = numbers; tops = tops }) all → IsLargestMet old numbers (picks old block) taken → AreFlown taken old new
    → IsOrderly (map (sent (ready all block)) all) → IsGraphOf (record { made = made; slots = new; numbers = numbers; tops = tops }) (map (sent (ready all block)) all)
flies only made tops old new numbers all block taken r l a o = represents-ready made tops old new numbers all block taken r l a only o
