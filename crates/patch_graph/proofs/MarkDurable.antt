-- What the classes in flight of a block leave, made durable.
use Rattle.std.proofs.Common.{◌≡◌, ℕ, ◌∙◌, inl, inr, Bool, true, false, List, [], ◌∷◌, map, refl, sym, ap, arith, subst, Some, None}
use Rattle.std.specs.Prelude.{◌==◌, ◌&&◌, if◌then◌else◌}
use Rattle.std.specs.Option.{option_map_or}
use Rattle.std.specs.List.{list_any}
use Rattle.std.proofs.lemmas.Bool.{cases_Bool, and_parts, and_from, both_ways, eqb-true, eq-eqb, false_from_ne_true}
use Rattle.patch_model.specs.Entry.{Entry, marks_flight, is_flight, is_durable, is_among}
use Rattle.patch_model.specs.State.{landed}
use Rattle.patch_model.specs.Dependency.{depends_directly}
use Rattle.patch_model.specs.Pile.{covers}
use Rattle.patch_model.specs.Orderly.{IsOrderly}
use Rattle.patch_model.specs.Member.{In, list_any-at, list_any-from}
use Rattle.patch_links.specs.State.{Class, Slots, Numbers, find, class_at, leads, leads_at}
use Rattle.patch_graph.specs.State.{Graph, KeysFit}
use Rattle.patch_graph.specs.Skyline.{Skylines, spans_of}
use Rattle.patch_skyline.specs.Skyline.{top_at}
use Rattle.patch_graph.proofs.Tops.{tops-kept}
use Rattle.patch_graph.specs.Meaning.{Leads, one, onward, DependsOn, IsClassOf, IsGraphOf}
use Rattle.patch_links.specs.MarkDurable.{lands, lands_at, AreLanded}
use Rattle.patch_graph.proofs.Facts.{known}
use Rattle.patch_graph.proofs.Steps.{patch-landed, In-map, map-In, length-map, numbered-map}
use Rattle.patch_graph.proofs.ReadySet.{placed, cases_found, some_same, class_same}
use Rattle.patch_graph.proofs.Searches.{found-lead}
use Rattle.patch_graph.proofs.Reaching.{target}

-- the set has each key whose class is in flight of the block
abbrev pub HasLanding : Slots → ℕ → (ℕ → Bool) → Type 0
HasLanding slots block set = (key : ℕ) → lands_at slots block key ≡ true → set key ≡ true

lands-here : (slots : Slots) (block key : ℕ) (c : Class) → class_at slots key ≡ Some c → lands_at slots block key ≡ lands block c
lands-here slots block key c at = ap (λ o. option_map_or (lands block) o false) at

class-landed : (block : ℕ) (e : Entry) → (landed block e).class ≡ e.class
class-landed block e = elim (cases_Bool (is_flight e && e.patch.block == block)) [ inl u ↦ rw u refl | inr u ↦ rw u refl ]

-- what isn't in flight of the block stays as it is
stays-same : (block : ℕ) (e : Entry) → (is_flight e && e.patch.block == block) ≡ false → landed block e ≡ e
stays-same block e u = rw u refl

now-durable : (block : ℕ) (e : Entry) → (is_flight e && e.patch.block == block) ≡ true → is_durable (landed block e) ≡ true
now-durable block e u = rw u refl

any-landed : (block n x : ℕ) (es : List Entry) → list_any (λ e. e.class == n && covers e.patch x) (map (landed block) es) ≡ list_any (λ e. e.class == n && covers e.patch x) es
any-landed block n x [] = refl
any-landed block n x (e ∷ es) = let c = class-landed block e in let p = patch-landed block e in let rest = any-landed block n x es in cc

-- a class that is left was there
was-there : (old new : Slots) (numbers rest : Numbers) (block : ℕ) (set : ℕ → Bool) → AreLanded old new numbers rest block set → (key : ℕ) (d : Class) → class_at new key ≡ Some d → class_at old key ≡ Some d
was-there old new numbers rest block set a key d at = elim (cases_Bool (set key && lands_at old block key)) [
  | inl t ↦ let none : class_at new key ≡ None = a.slots key ∙ ap (λ b. if b then None else class_at old key) t in absurd (cc)
  | inr t ↦ sym (a.slots key ∙ ap (λ b. if b then None else class_at old key) t) ∙ at
]

-- no class comes to another key
pub landed-fit : (old new : Slots) (numbers rest : Numbers) (block room : ℕ) (set : ℕ → Bool) → AreLanded old new numbers rest block set → KeysFit old room → KeysFit new room
landed-fit old new numbers rest block room set a fit key d at = fit key d (was-there old new numbers rest block set a key d at)

module _ (made : ℕ) (tops : Skylines) (block : ℕ) (old new : Slots) (numbers rest : Numbers) (all : List Entry) (set : ℕ → Bool)
    (r : IsGraphOf (record { made = made; slots = old; numbers = numbers; tops = tops }) all)
    (a : AreLanded old new numbers rest block set) (whole : HasLanding old block set) where
  abbrev g : Graph
  g = record { made = made; slots = old; numbers = numbers; tops = tops }

  abbrev f : Entry → Entry
  f e = landed block e

  -- whether a class lands is told by each of its patches
  lands-by : (key : ℕ) (c : Class) (e : Entry) → class_at old key ≡ Some c → In all e → e.class ≡ c.name → (is_flight e && e.patch.block == block) ≡ lands block c
  lands-by key c e at i s =
      let k = (r.classes key c at).looks e i s in
      ap (λ m. marks_flight m && e.patch.block == block) k.0 ∙ ap (λ b. marks_flight c.mark && b == block) k.1

  same-of : (key : ℕ) (c : Class) (e : Entry) → class_at old key ≡ Some c → In all e → e.class ≡ c.name → lands block c ≡ false → f e ≡ e
  same-of key c e at i s off = stays-same block e (lands-by key c e at i s ∙ off)

  set-at : (key : ℕ) (c : Class) → class_at old key ≡ Some c → lands block c ≡ true → set key ≡ true
  set-at key c at t = whole key (lands-here old block key c at ∙ t)

  class-now : (key : ℕ) (c : Class) → class_at old key ≡ Some c → lands block c ≡ false → class_at new key ≡ Some c
  class-now key c at off =
      let none : (set key && lands_at old block key) ≡ false = false_from_ne_true _ (λ t. both_ways _ (lands-here old block key c at ∙ off) (and_parts (set key) (lands_at old block key) t).1) in
      a.slots key ∙ ap (λ b. if b then None else class_at old key) none ∙ at

  class-was : (key : ℕ) (d : Class) → class_at new key ≡ Some d → (class_at old key ≡ Some d) × (lands block d ≡ false)
  class-was key d at = elim (cases_Bool (set key && lands_at old block key)) [
    | inl t ↦ let none : class_at new key ≡ None = a.slots key ∙ ap (λ b. if b then None else class_at old key) t in absurd (cc)
    | inr t ↦
        let there : class_at old key ≡ Some d = sym (a.slots key ∙ ap (λ b. if b then None else class_at old key) t) ∙ at in
        (there, false_from_ne_true _ (λ u. both_ways _ t (and_from _ _ (set-at key d there u) (lands-here old block key d there ∙ u))))
  ]

  -- a number of a class that stays is found where it was
  find-now : (n key : ℕ) (c : Class) → find numbers n ≡ Some key → class_at old key ≡ Some c → lands block c ≡ false → find rest n ≡ Some key
  find-now n key c there at off = a.kept n (λ k d here at2 t. false_from_ne_true _ (λ m.
      let w = r.classes k d at2 in
      let e = w.only n m in
      let hit : find numbers n ≡ Some k = subst (λ z. find numbers z ≡ Some k) e.2 (w.found e.0 e.1 e.3) in
      let same = some_same key k (sym there ∙ hit) in
      let classes = class_same c d (sym at ∙ ap (class_at old) same ∙ at2) in
      both_ways _ off (subst (λ z. lands block z ≡ true) (sym classes) t))) ∙ there

  find-gone : (n key : ℕ) (c : Class) → find numbers n ≡ Some key → class_at old key ≡ Some c → lands block c ≡ true → find rest n ≡ None
  find-gone n key c there at t =
      let l = r.live n key there in
      let p = placed g all r l.0 key l.1 (ap (find numbers) l.2 ∙ there) in
      let same = class_same p.0 c (sym p.1 ∙ at) in
      let m = (r.classes key c at).members l.0 l.1 (sym p.2 ∙ ap (λ z. z.name) same) in
      a.gone key n c (set-at key c at t) at t (subst (λ z. is_among c.members z ≡ true) l.2 m)

  find-none : (n : ℕ) → find numbers n ≡ None → find rest n ≡ None
  find-none n none = a.kept n (λ k d here at t. false_from_ne_true _ (λ m.
      let w = r.classes k d at in
      let e = w.only n m in
      let hit : find numbers n ≡ Some k = subst (λ z. find numbers z ≡ Some k) e.2 (w.found e.0 e.1 e.3) in
      cc)) ∙ none

  -- what is found now was found before, at a class that stays
  find-was : (n key : ℕ) → find rest n ≡ Some key → (c : Class) × (find numbers n ≡ Some key) × (class_at old key ≡ Some c) × (lands block c ≡ false)
  find-was n key at = elim (cases_found numbers n) [
    | inl none ↦ let gone = find-none n none in absurd (cc)
    | inr k ↦
        let l = r.live n k.0 k.1 in
        let p = placed g all r l.0 k.0 l.1 (ap (find numbers) l.2 ∙ k.1) in
        elim (cases_Bool (lands block p.0)) [
          | inl t ↦ let gone = find-gone n k.0 p.0 k.1 p.1 t in absurd (cc)
          | inr t ↦
              let same = some_same k.0 key (sym (find-now n k.0 p.0 k.1 p.1 t) ∙ at) in
              (p.0, k.1 ∙ ap (λ z. Some z) same, ap (class_at old) (sym same) ∙ p.1, t)
        ]
  ]

  -- what a class in flight depends on is in flight of its block, where it is live
  lands-below : (k j : ℕ) (c d : Class) → class_at old k ≡ Some c → class_at old j ≡ Some d → leads numbers c j ≡ true → lands block c ≡ true → lands block d ≡ true
  lands-below k j c d at at2 led t =
      let w = target g all r c j led in
      elim ((r.classes k c at).sound w.0 j d w.2 w.3 at2) [
        | inl s ↦
            let e = (r.classes k c at).some in
            let there = (r.classes k c at).found e.0 e.1 e.2 in
            let hit = (r.classes j d at2).found e.0 e.1 (e.2 ∙ sym s) in
            let keys = some_same k j (sym there ∙ hit) in
            let same = class_same c d (sym at ∙ ap (class_at old) keys ∙ at2) in
            subst (λ z. lands block z ≡ true) same t
        | inr x ↦
            let own : (is_flight x.e && x.e.patch.block == block) ≡ true = lands-by k c x.e at x.in_e x.of_a ∙ t in
            let parts = and_parts (is_flight x.e) (x.e.patch.block == block) own in
            let alive = (r.classes j d at2).live x.f x.in_f x.of_b in
            elim ((known g all r).flight x.e x.f x.in_e x.in_f x.depends parts.0) [
              | inl dead ↦ absurd (both_ways _ alive dead)
              | inr h ↦ sym (lands-by j d x.f at2 x.in_f x.of_b) ∙ and_from _ _ h.0 (eq-eqb x.f.patch.block block (h.1 ∙ eqb-true x.e.patch.block block parts.1))
            ]
      ]

  stays-above : (k j : ℕ) (c d : Class) → class_at old k ≡ Some c → class_at old j ≡ Some d → leads numbers c j ≡ true → lands block d ≡ false → lands block c ≡ false
  stays-above k j c d at at2 led off = false_from_ne_true _ (λ t. both_ways _ off (lands-below k j c d at at2 led t))

  leads-now : (k j : ℕ) (c d : Class) → class_at old j ≡ Some d → lands block d ≡ false → leads numbers c j ≡ true → leads rest c j ≡ true
  leads-now k j c d at off led =
      let n = list_any-at (leads_at numbers j) c.after led in
      let there = found-lead numbers j n.0 n.2 in
      let here = find-now n.0 j d there at off in
      list_any-from (leads_at rest j) c.after n.0 n.1 (ap (λ o. option_map_or (λ k. k == j) o false) here ∙ eq-eqb j j refl)

  -- a chain to a class that stays is of classes that stay
  chain-stays : (k j : ℕ) (c d : Class) → Leads old numbers k j → class_at old k ≡ Some c → class_at old j ≡ Some d → lands block d ≡ false → (lands block c ≡ false) × Leads new rest k j
  chain-stays k j c d (one x at2 t) at at3 off =
      let same = class_same x c (sym at2 ∙ at) in
      let led = subst (λ z. leads numbers z j ≡ true) same t in
      let first = stays-above k j c d at at3 led off in
      (first, one c (class-now k c at first) (leads-now k j c d at3 off led))
  chain-stays k l c d (onward {j = j} x at2 t onwards) at at3 off =
      let same = class_same x c (sym at2 ∙ at) in
      let led = subst (λ z. leads numbers z j ≡ true) same t in
      let w = target g all r c j led in
      let rest_stays = chain-stays j l w.1 d onwards w.4 at3 off in
      let first = stays-above k j c w.1 at w.4 led rest_stays.0 in
      (first, onward c (class-now k c at first) (leads-now k j c w.1 w.4 rest_stays.0 led) rest_stays.1)

  landed-depends : (x y : ℕ) → DependsOn all x y → DependsOn (map f all) x y
  landed-depends x y d = record {
    e = f d.e;
    f = f d.f;
    in_e = In-map f all d.e d.in_e;
    in_f = In-map f all d.f d.in_f;
    of_a = class-landed block d.e ∙ d.of_a;
    of_b = class-landed block d.f ∙ d.of_b;
    depends = ap (λ p. depends_directly p (f d.f).patch) (patch-landed block d.e) ∙ ap (λ p. depends_directly d.e.patch p) (patch-landed block d.f) ∙ d.depends;
  }

  own-class : (x e : Entry) (n : ℕ) → f e ≡ x → x.class ≡ n → e.class ≡ n
  own-class x e n fe s = sym (class-landed block e) ∙ ap (λ z. z.class) fe ∙ s

  own-patch : (x e : Entry) → f e ≡ x → x.patch ≡ e.patch
  own-patch x e fe = ap (λ z. z.patch) (sym fe) ∙ patch-landed block e

  class-of-now : (key : ℕ) (c : Class) → class_at old key ≡ Some c → lands block c ≡ false → IsClassOf (map f all) new rest key c
  class-of-now key c at off =
      let w = r.classes key c at in
      let own : (x : Entry) → In (map f all) x → x.class ≡ c.name → In all x × (x.class ≡ c.name) =
      λ x i s. let y = map-In f all x i in
      let o = own-class x y.0 c.name y.2 s in
      let same : y.0 ≡ x = sym (same-of key c y.0 at y.1 o off) ∙ y.2 in
      (subst (λ z. In all z) same y.1, s) in
      record {
        some = (f w.some.0, In-map f all w.some.0 w.some.1, class-landed block w.some.0 ∙ w.some.2);
        members = λ x i s. w.members x (own x i s).0 s;
        only = λ n t. let x = w.only n t in (f x.0, In-map f all x.0 x.1, ap (λ p. p.no) (patch-landed block x.0) ∙ x.2, class-landed block x.0 ∙ x.3);
        looks = λ x i s. w.looks x (own x i s).0 s;
        live = λ x i s. w.live x (own x i s).0 s;
        found = λ x i s. find-now x.patch.no key c (w.found x (own x i s).0 s) at off;
        span = λ x. w.span x ∙ sym (any-landed block c.name x all);
        named = λ n t. let b = w.named n t in let m = length-map f all in omega arith;
        sound = λ n j d t there at2.
            let was = find-was n j there in
            elim (w.sound n j d t was.1 (class-was j d at2).0) [ inl s ↦ inl s | inr x ↦ inr (landed-depends c.name d.name x) ];
        complete = λ x y j ix iy s other depends there.
            let y0 = map-In f all y iy in
            let was = find-was y.patch.no j there in
            let py = own-patch y y0.0 y0.2 in
            let way = w.complete x y0.0 j (own x ix s).0 y0.1 s (λ e. other (ap (λ z. z.class) (sym y0.2) ∙ class-landed block y0.0 ∙ e))
            (ap (λ p. depends_directly x.patch p) (sym py) ∙ depends) (ap (λ p. find numbers p.no) (sym py) ∙ was.1) in
            (chain-stays key j c was.0 way at was.2 was.3).1;
        within = λ n i. let b = w.within n i in let m = length-map f all in omega arith;
        reaches = λ n j i there.
            let was = find-was n j there in
            elim (w.reaches n j i was.1) [ inl e ↦ inl e | inr way ↦ inr (chain-stays key j c was.0 way at was.2 was.3).1 ];
      }

  -- a patch that is live now was live, and of a class that stays
  live-now : (e : Entry) → is_durable (f e) ≡ false → (is_durable e ≡ false) × ((is_flight e && e.patch.block == block) ≡ false)
  live-now e alive = elim (cases_Bool (is_flight e && e.patch.block == block)) [
    | inl t ↦ absurd (both_ways _ alive (now-durable block e t))
    | inr t ↦ (ap is_durable (sym (stays-same block e t)) ∙ alive, t)
  ]

  pub lands-all : IsOrderly (map f all) → IsGraphOf (record { made = made; slots = new; numbers = rest; tops = tops }) (map f all)
  lands-all o = record {
    orderly = o;
    numbered = numbered-map f all (patch-landed block) r.numbered;
    made = r.made ∙ sym (length-map f all);
    classes = λ key d at. let b = class-was key d at in class-of-now key d b.0 b.1;
    found = λ x i alive.
        let y = map-In f all x i in
        let l = live-now y.0 (ap is_durable y.2 ∙ alive) in
        let w = r.found y.0 y.1 l.0 in
        let off = sym (lands-by w.0 w.1 y.0 w.3 y.1 (sym w.4)) ∙ l.1 in
        let p = own-patch x y.0 y.2 in
        (w.0, w.1, ap (λ z. find rest z.no) p ∙ find-now y.0.patch.no w.0 w.1 w.2 w.3 off, class-now w.0 w.1 w.3 off, w.4 ∙ own-class x y.0 x.class y.2 refl);
    live = λ n k at.
        let was = find-was n k at in
        let w = r.live n k was.1 in
        let p = placed g all r w.0 k w.1 (ap (find numbers) w.2 ∙ was.1) in
        let same = class_same p.0 was.0 (sym p.1 ∙ was.2) in
        let stays = same-of k was.0 w.0 was.2 w.1 (sym p.2 ∙ ap (λ z. z.name) same) was.3 in
        (f w.0, In-map f all w.0 w.1, ap (λ p. p.no) (patch-landed block w.0) ∙ w.2, ap is_durable stays ∙ w.3);
    tops = λ b x. tops-kept f all b x (top_at (spans_of tops b) x) (patch-landed block) (λ e i d. (live-now e d).0) (r.tops b x);
  }
