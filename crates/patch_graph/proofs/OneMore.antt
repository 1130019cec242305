-- One more patch.
use Rattle.std.proofs.Common.{◌≡◌, ℕ, ◌+◌, ◌<◌, ◌≤◌, ◌⊎◌, ◌∙◌, inl, inr, Bool, true, false, not, List, [], ◌∷◌, ◌++◌, length, max, min, refl, sym, ap, arith, subst, Option, Some, None, length-append}
use Rattle.std.specs.Prelude.{◌==◌, ◌&&◌, ◌||◌, ◌≢◌, nat_le, nat_lt}
use Rattle.std.specs.Option.{option_map_or}
use Rattle.std.specs.List.{list_all, list_any}
use Rattle.std.proofs.lemmas.Bool.{cases_Bool, cases_eq, cases_lt, and_parts, and_from, and_left, or_cases, or_left, or_right, both_ways, eqb-true, eq-eqb, ne_eqb, ltb-true, lt-ltb, leb-true, le-leb, false_from_ne_true}
use Rattle.std.proofs.lemmas.List.Folds.{list_any-append}
use Rattle.patch_model.specs.Patch.{Patch}
use Rattle.patch_model.specs.Pile.{end, covers}
use Rattle.patch_model.specs.Dependency.{shares_byte, depends_directly}
use Rattle.patch_model.specs.Entry.{Entry, is_durable, is_among}
use Rattle.patch_model.specs.State.{is_made_hard, fresh}
use Rattle.patch_model.specs.Orderly.{IsOrderly, IsNumbered}
use Rattle.patch_model.specs.Member.{In, In-from_Contains, Contains-from_In, list_all-at, list_all-from, list_any-at, list_any-from}
use Rattle.patch_model.specs.declared.patches.Undo.{Undo}
use Rattle.patch_model.specs.declared.patches.Undo.TheVariants.{Keep, MayDrop}
use Rattle.patch_links.specs.State.{Class, no_reach, IsInReach, find, class_at, leads, leads_at}
use Rattle.patch_links.specs.declared.nodes.Reach.{Reach}
use Rattle.patch_graph.specs.Naming.{IsNamedBelow}
use Rattle.patch_graph.proofs.Hardness.{IsHardOf, hard-through}
use Rattle.patch_graph.specs.State.{Graph, spans}
use Rattle.patch_graph.proofs.Facts.{IsOrdered, ordered, known}
use Rattle.patch_skyline.specs.declared.skylines.Span.{Span}
use Rattle.patch_graph.specs.Skyline.{spans_of, IsLaidOn}
use Rattle.patch_skyline.specs.Skyline.{has_byte, top_at, IsTopWithin}
use Rattle.patch_graph.specs.Meaning.{Leads, one, onward, DependsOn, IsClassOf, wrote, IsLast, IsTop, IsGraphOf}
use Rattle.patch_graph.specs.Adding.{AreDependencies, lets_drop, is_hard, new_class, IsAdded, IsDrawnUp, IsPatch}
use Rattle.patch_graph.proofs.ReadySet.{placed, cases_found, some_same, class_same, In-left, In-right, In-parts, is_among-In, In-is_among}

shares : (p q : Patch) (x : ℕ) → p.block ≡ q.block → covers p x ≡ true → covers q x ≡ true → shares_byte p q ≡ true
shares p q x same a b =
    let a2 = and_parts (nat_le p.start x) (nat_lt x (end p)) a in let b2 = and_parts (nat_le q.start x) (nat_lt x (end q)) b in
    let p1 : p.start ≤ x = leb-true p.start x a2.0 in let p2 : x < end p = ltb-true x (end p) a2.1 in
    let q1 : q.start ≤ x = leb-true q.start x b2.0 in let q2 : x < end q = ltb-true x (end q) b2.1 in
    and_from _ _ (eq-eqb p.block q.block same) (lt-ltb (max p.start q.start) (min (end p) (end q)) (omega arith))

pub covers-from : (p : Patch) (x : ℕ) → p.start ≤ x → x < end p → covers p x ≡ true
covers-from p x a b = and_from _ _ (le-leb p.start x a) (lt-ltb x (end p) b)

-- a byte in both spans
common : (a b c d : ℕ) → a < d → c < b → a < b → c < d → (x : ℕ) × (a ≤ x) × (x < b) × (c ≤ x) × (x < d)
common a b c d ad cb ab cd = elim (cases_lt a c) [
  | inl h ↦ (c, omega arith, cb, omega arith, cd)
  | inr h ↦ (a, omega arith, ab, h, ad)
]

pub same_bool : (a b : Bool) → (a ≡ true → b ≡ true) → (b ≡ true → a ≡ true) → a ≡ b
same_bool true b f g = sym (f refl)
same_bool false true f g = g refl
same_bool false false f g = refl

or-nothing : (b : Bool) → (false || (b || false)) ≡ b
or-nothing true = refl
or-nothing false = refl

single : (m n : ℕ) → is_among (m ∷ []) n ≡ true → m ≡ n
single m n t = elim (or_cases (m == n) false t) [ inl s ↦ eqb-true m n s | inr s ↦ absurd (cc) ]

module _ (g : Graph) (all : List Entry) (p : Patch) (r : IsGraphOf g all) (no : p.no ≡ g.made) (orderly : IsOrderly (all ++ fresh all p ∷ [])) where
  abbrev e : Entry
  e = fresh all p

  abbrev more : List Entry
  more = all ++ e ∷ []

  old-in : (x : Entry) → In all x → In more x
  old-in x i = In-left all (e ∷ []) x i

  new-in : In more e
  new-in = In-right all (e ∷ []) e (inl refl)

  split : (x : Entry) → In more x → In all x ⊎ (x ≡ e)
  split x i = elim (In-parts all (e ∷ []) x i) [ inl j ↦ inl j | inr j ↦ elim j [ inl s ↦ inr (sym s) | inr k ↦ absurd k ] ]

  longer : length more ≡ length all + 1
  longer = length-append all (e ∷ [])

  numbered : IsNumbered more
  numbered = record {
    below = λ x h. let l = longer in let m = r.made in elim (split x (In-from_Contains more x h)) [
      | inl i ↦ let b = (known g all r).numbered x i in omega arith
      | inr n ↦ let b : x.patch.no ≡ g.made = ap (λ y. y.patch.no) n ∙ no in omega arith
    ];
    made = λ n h. let l = longer in let m = r.made in elim (cases_lt n (length all)) [
      | inl b ↦ let x = (known g all r).made n b in (x.0, Contains-from_In more x.0 (old-in x.0 x.1), x.2)
      | inr b ↦ (e, Contains-from_In more e new-in, no ∙ omega arith)
    ];
  }

  o : IsOrdered more
  o = ordered more orderly numbered

  below : (x : Entry) → In all x → x.patch.no < g.made
  below x i = let n = (known g all r).numbered x i in let m = r.made in omega arith

  class_below : (x : Entry) → In all x → x.class < g.made
  class_below x i = let n = below x i in let l = (known g all r).least x i in omega arith

  below-other : (n : ℕ) → n < g.made → n ≢ g.made
  below-other n l same = omega arith

  module _ (block start stop : ℕ) (deps : List ℕ) (after : List ℕ) (undo : Undo) (reach : Reach) (hard : Bool) (is : IsPatch p g.made block start stop after undo)
      (are : AreDependencies g block start stop after deps) where
    abbrev added : Class
    added = new_class g.made block start stop deps reach hard

    abbrev top : Span
    top = record { start = start; stop = stop; no = g.made }

    wide : start < stop
    wide = let f = o.filled e new-in in let a1 = is.start_is in let a2 = is.end_is in omega arith

    -- the patch that wrote a byte of the span last
    last-at : (n : ℕ) → IsTopWithin (spans_of g.tops block) start stop n → (f : Entry) × In all f × (f.patch.no ≡ n) × (shares_byte p f.patch ≡ true)
    last-at n w =
        let l = subst (IsTop all block w.0) w.3 (r.tops block w.0) in
        let t = and_parts (l.e.patch.block == block) (covers l.e.patch w.0) l.wrote_it in
        let on_block : p.block ≡ l.e.patch.block = is.block_is ∙ sym (eqb-true l.e.patch.block block t.0) in
        let s1 = is.start_is in let s2 = is.end_is in let w1 = w.1 in let w2 = w.2 in
        (l.e, l.inside, l.number, shares p l.e.patch w.0 on_block (covers-from p w.0 (omega arith) (omega arith)) t.1)

    -- what a number of the list says: its class, where that is live, has a patch on which the new one depends directly
    deps-sound : (n j : ℕ) (d : Class) → In deps n → find g.numbers n ≡ Some j → class_at g.slots j ≡ Some d → (f : Entry) × In all f × (f.class ≡ d.name) × (depends_directly p f.patch ≡ true)
    deps-sound n j d i there at = elim (are.only n i) [
      | inl k ↦
          let l = r.live n j there in
          (l.0, l.1, of l.0 l.1 l.2, or_left (is_among p.after l.0.patch.no) _ (subst (λ l2. is_among l2 l.0.patch.no ≡ true) (sym is.after_is) (In-is_among after l.0.patch.no (subst (λ m. In after m) (sym l.2) k))))
      | inr w ↦
          let f = last-at n w in
          let b = below f.0 f.1 in
          (f.0, f.1, of f.0 f.1 f.2, or_right (is_among p.after f.0.patch.no) _ (and_from _ _ (lt-ltb f.0.patch.no p.no (omega arith)) f.3))
    ]
      where
        of : (f : Entry) → In all f → f.patch.no ≡ n → f.class ≡ d.name
        of f k s = let q = placed g all r f j k (ap (find g.numbers) s ∙ there) in sym q.2 ∙ ap (λ z. z.name) (class_same q.0 d (sym q.1 ∙ at))

    -- the number is that of the patch f, or of one that depends directly on it
    record IsAbove (f : Entry) (n : ℕ) : Type 0 where
      pub e : Entry
      pub inside : In all e
      pub number : e.patch.no ≡ n
      pub alive : is_durable e ≡ false
      pub above : (e ≡ f) ⊎ (depends_directly e.patch f.patch ≡ true)

    -- each live patch over which the new one writes has such a number in the list
    deps-above : (f : Entry) → In all f → is_durable f ≡ false → (nat_lt f.patch.no p.no && shares_byte p f.patch) ≡ true → (n : ℕ) × In deps n × IsAbove f n
    deps-above f i alive shared =
        let both = and_parts (p.block == f.patch.block) (nat_lt (max p.start f.patch.start) (min (end p) (end f.patch))) (and_parts (nat_lt f.patch.no p.no) (shares_byte p f.patch) shared).1 in
        let common_bytes : max p.start f.patch.start < min (end p) (end f.patch) = ltb-true (max p.start f.patch.start) (min (end p) (end f.patch)) both.1 in
        by-byte (max p.start f.patch.start) (omega arith) (omega arith) (covers-from f.patch (max p.start f.patch.start) (omega arith) (omega arith))
        (sym (eqb-true p.block f.patch.block both.0) ∙ is.block_is)
      where
        by-byte : (x : ℕ) → p.start ≤ x → x < end p → covers f.patch x ≡ true → f.patch.block ≡ block → (n : ℕ) × In deps n × IsAbove f n
        by-byte x low high on of = elim (cases_top (top_at (spans_of g.tops block) x)) [
          | inl none ↦ absurd (both_ways _ alive (subst (IsTop all block x) none (r.tops block x) f i wrote_it))
          | inr n ↦
              let l = subst (IsTop all block x) n.1 (r.tops block x) in
              let s1 = is.start_is in let s2 = is.end_is in
              (n.0, are.last n.0 (x, omega arith, omega arith, n.1) (let b = below l.e l.inside in let no = l.number in omega arith), higher n.0 l)
        ]
          where
            wrote_it : wrote block x f ≡ true
            wrote_it = and_from _ _ (eq-eqb f.patch.block block of) on

            cases_top : (t : Option ℕ) → (t ≡ None) ⊎ ((n : ℕ) × (t ≡ Some n))
            cases_top (Some n) = inr (n, refl)
            cases_top None = inl refl

            higher : (n : ℕ) → IsLast all block x n → IsAbove f n
            higher n l = elim (cases_eq l.e.patch.no f.patch.no) [
              | inl s ↦ let same = (known g all r).numbers l.e f l.inside i s in
                  record { e = l.e; inside = l.inside; number = l.number; alive = ap is_durable same ∙ alive; above = inl same }
              | inr other ↦
                  let over = l.last f i wrote_it in
                  let s = l.number in
                  let w = and_parts (l.e.patch.block == block) (covers l.e.patch x) l.wrote_it in
                  let depends : depends_directly l.e.patch f.patch ≡ true =
                  or_right (is_among l.e.patch.after f.patch.no) _ (and_from _ _ (lt-ltb f.patch.no l.e.patch.no (omega arith)) (shares l.e.patch f.patch x (eqb-true l.e.patch.block block w.0 ∙ sym of) w.1 on)) in
                  record {
                    e = l.e;
                    inside = l.inside;
                    number = l.number;
                    alive = false_from_ne_true _ (λ d. both_ways _ alive ((known g all r).durable l.e f l.inside i depends d));
                    above = inr depends;
                  }
            ]

    -- the class of a live number that is named is that of one in the list, or a chain leads there from one
    named-leads : (n j : ℕ) → IsNamedBelow g.made after n → find g.numbers n ≡ Some j
        → (m : ℕ) × In deps m × (k : ℕ) × (find g.numbers m ≡ Some k) × ((k ≡ j) ⊎ Leads g.slots g.numbers k j)
    named-leads n j named there = elim (are.named n named) [
      | inl none ↦ absurd (cc)
      | inr covered ↦ elim covered [
        | inl i ↦ (n, i, j, there, inl refl)
        | inr w ↦
            let b = w.2 in
            let l = r.live w.0 b.key b.leads in
            let q = placed g all r l.0 b.key l.1 (ap (find g.numbers) l.2 ∙ b.leads) in
            let inside : IsInReach q.0.reach n = subst (λ z. IsInReach z n) (ap (λ o. option_map_or (λ c. c.reach) o no_reach) q.1) b.inside in
            (w.0, w.1, b.key, b.leads, elim ((r.classes b.key q.0 q.1).reaches n j inside there) [ inl e ↦ inl (sym e) | inr way ↦ inr way ])
      ]
    ]

    -- and so is that of each live patch on which the new one depends directly
    deps-complete : (f : Entry) (j : ℕ) → In all f → depends_directly p f.patch ≡ true → find g.numbers f.patch.no ≡ Some j
        → (n : ℕ) × In deps n × (k : ℕ) × (find g.numbers n ≡ Some k) × ((k ≡ j) ⊎ Leads g.slots g.numbers k j)
    deps-complete f j i t there = elim (or_cases (is_among p.after f.patch.no) (nat_lt f.patch.no p.no && shares_byte p f.patch) t) [
      | inl named ↦ named-leads f.patch.no j (is_among-In after f.patch.no (subst (λ l. is_among l f.patch.no ≡ true) is.after_is named), below f i) there
      | inr shared ↦
          let alive = (placed g all r f j i there).3 in
          let a = deps-above f i alive shared in
          let u = a.2 in
          let b = r.found u.e u.inside u.alive in (
            a.0,
            a.1,
            b.0,
            ap (find g.numbers) (sym u.number) ∙ b.2,
            elim u.above [
              | inl same ↦ inl (some_same b.0 j (sym b.2 ∙ ap (λ z. find g.numbers z.patch.no) same ∙ there))
              | inr depends ↦ elim (cases_eq f.class b.1.name) [
                | inl s ↦ inl (some_same b.0 j (sym ((r.classes b.0 b.1 b.3).found f i s) ∙ there))
                | inr other ↦ inr ((r.classes b.0 b.1 b.3).complete u.e f j u.inside i (sym b.4) other depends there)
              ]
            ],
          )
    ]

    drop-at : (n : ℕ) → lets_drop g.slots g.numbers block n ≡ true → (j : ℕ) (d : Class) → find g.numbers n ≡ Some j → class_at g.slots j ≡ Some d → (d.hard && d.block == block) ≡ true
    drop-at n t j d there at =
        let t2 : option_map_or (λ k. option_map_or (λ c. c.hard && c.block == block) (class_at g.slots k) false) (Some j) true ≡ true = subst (λ q. option_map_or (λ k. option_map_or (λ c. c.hard && c.block == block) (class_at g.slots k) false) q true ≡ true) there t in
        subst (λ q. option_map_or (λ c. c.hard && c.block == block) q false ≡ true) at t2

    at-drop : (n : ℕ) → ((j : ℕ) → find g.numbers n ≡ Some j → (d : Class) × (class_at g.slots j ≡ Some d) × ((d.hard && d.block == block) ≡ true)) → lets_drop g.slots g.numbers block n ≡ true
    at-drop n f = elim (cases_found g.numbers n) [
      | inl none ↦ ap (λ q. option_map_or (λ k. option_map_or (λ c. c.hard && c.block == block) (class_at g.slots k) false) q true) none
      | inr s ↦
          let d = f s.0 s.1 in
          ap (λ q. option_map_or (λ k. option_map_or (λ c. c.hard && c.block == block) (class_at g.slots k) false) q true) s.1 ∙ ap (λ q. option_map_or (λ c. c.hard && c.block == block) q false) d.1 ∙ d.2
    ]

    abbrev drops : Entry → Bool
    drops f = not (depends_directly p f.patch) || is_durable f || (f.hard && f.patch.block == p.block)

    drops-all : list_all (lets_drop g.slots g.numbers block) deps ≡ true → list_all drops all ≡ true
    drops-all t = list_all-from drops all (λ f i. elim (cases_Bool (depends_directly p f.patch)) [
      | inr u ↦ rw u refl
      | inl u ↦ elim (cases_Bool (is_durable f)) [
        | inl v ↦ rw (u, v) refl
        | inr v ↦
            let b = r.found f i v in
            let n = deps-complete f b.0 i u b.2 in
            let l = r.live n.0 n.2 n.3 in
            let q = placed g all r l.0 n.2 l.1 (ap (find g.numbers) l.2 ∙ n.3) in
            let z = and_parts q.0.hard (q.0.block == block) (drop-at n.0 (list_all-at (lets_drop g.slots g.numbers block) deps n.0 t n.1) n.2 q.0 n.3 q.1) in
            let first : IsHardOf block q.0 = (z.0, eqb-true q.0.block block z.1) in
            let hard_one : IsHardOf block b.1 = elim n.4 [
              | inl same ↦ subst (λ c. IsHardOf block c) (class_same q.0 b.1 (sym q.1 ∙ ap (class_at g.slots) same ∙ b.3)) first
              | inr way ↦ hard-through g all r block n.2 b.0 q.0 b.1 q.1 b.3 way first
            ] in
            let looks = (r.classes b.0 b.1 b.3).looks f i (sym b.4) in
            or_right (not (depends_directly p f.patch) || is_durable f) _ (and_from _ _ (looks.2 ∙ hard_one.0) (eq-eqb f.patch.block p.block (looks.1 ∙ hard_one.1 ∙ sym is.block_is)))
      ]
    ])

    all-drops : list_all drops all ≡ true → list_all (lets_drop g.slots g.numbers block) deps ≡ true
    all-drops t = list_all-from (lets_drop g.slots g.numbers block) deps (λ n i. at-drop n (λ j there.
        let l = r.live n j there in
        let q = placed g all r l.0 j l.1 (ap (find g.numbers) l.2 ∙ there) in
        let f = deps-sound n j q.0 i there q.1 in
        let w = r.classes j q.0 q.1 in
        let u = list_all-at drops all f.0 t f.1 in
        let alive = w.live f.0 f.1 f.2 in
        let looks = w.looks f.0 f.1 f.2 in
        let good : (f.0.hard && f.0.patch.block == p.block) ≡ true = elim (or_cases (not (depends_directly p f.0.patch) || is_durable f.0) (f.0.hard && f.0.patch.block == p.block) u) [
          | inr v ↦ v
          | inl v ↦ elim (or_cases (not (depends_directly p f.0.patch)) (is_durable f.0) v) [
            | inl x ↦ absurd (both_ways _ (ap not f.3) x)
            | inr x ↦ absurd (both_ways _ alive x)
          ]
        ] in
        let g2 = and_parts f.0.hard (f.0.patch.block == p.block) good in
        (q.0, q.1, and_from _ _ (sym looks.2 ∙ g2.0) (eq-eqb q.0.block block (sym looks.1 ∙ eqb-true f.0.patch.block p.block g2.1 ∙ is.block_is)))))

    hard-by : (u : Undo) → is_hard g.slots g.numbers block u deps ≡ elim u [ Keep ↦ false | MayDrop ↦ list_all drops all ]
    hard-by Keep = refl
    hard-by MayDrop = same_bool _ _ drops-all all-drops

    hard-same : is_hard g.slots g.numbers block undo deps ≡ is_made_hard all p
    hard-same = hard-by undo ∙ ap (λ u. elim u [ Keep ↦ false | MayDrop ↦ list_all drops all ]) (sym is.undo_is)

    module _ (h : Graph) (key : ℕ) (c : Class) (a : IsAdded g h key c) where
      find-same : (n : ℕ) → n < g.made → find h.numbers n ≡ find g.numbers n
      find-same n l = a.rest n (below-other n l)

      -- a live number was made
      live-below : (n j : ℕ) → find g.numbers n ≡ Some j → n < g.made
      live-below n j at = let l = r.live n j at in let b = below l.0 l.1 in let s = l.2 in omega arith

      find-more : (n j : ℕ) → find g.numbers n ≡ Some j → find h.numbers n ≡ Some j
      find-more n j at = find-same n (live-below n j at) ∙ at

      other-key : (k : ℕ) (d : Class) → class_at g.slots k ≡ Some d → k ≢ key
      other-key k d at same = let v = a.vacant in let w = subst (λ j. class_at g.slots j ≡ Some d) same at in cc

      class-more : (k : ℕ) (d : Class) → class_at g.slots k ≡ Some d → class_at h.slots k ≡ Some d
      class-more k d at = a.others k (other-key k d at) ∙ at

      class-back : (k : ℕ) (d : Class) → k ≢ key → class_at h.slots k ≡ Some d → class_at g.slots k ≡ Some d
      class-back k d other at = sym (a.others k other) ∙ at

      lead : (j n : ℕ) → leads_at g.numbers j n ≡ true → leads_at h.numbers j n ≡ true
      lead j n t = elim (cases_found g.numbers n) [
        | inl none ↦ let u : leads_at g.numbers j n ≡ false = ap (λ q. option_map_or (λ k. k == j) q false) none in absurd (both_ways _ u t)
        | inr s ↦ ap (λ q. option_map_or (λ k. k == j) q false) (find-same n (live-below n s.0 s.1)) ∙ t
      ]

      leads-more : (d : Class) (j : ℕ) → leads g.numbers d j ≡ true → leads h.numbers d j ≡ true
      leads-more d j t =
          let w = list_any-at (leads_at g.numbers j) d.after t in
          list_any-from (leads_at h.numbers j) d.after w.0 w.1 (lead j w.0 w.2)

      Leads-more : (k j : ℕ) → Leads g.slots g.numbers k j → Leads h.slots h.numbers k j
      Leads-more k j (one d at t) = one d (class-more k d at) (leads-more d j t)
      Leads-more k l (onward {j = j} d at t rest) = onward d (class-more k d at) (leads-more d j t) (Leads-more j l rest)

      DependsOn-more : (x y : ℕ) → DependsOn all x y → DependsOn more x y
      DependsOn-more x y d = record { e = d.e; f = d.f; in_e = old-in d.e d.in_e; in_f = old-in d.f d.in_f; of_a = d.of_a; of_b = d.of_b; depends = d.depends }

      never-new : (x : Entry) → In all x → depends_directly x.patch e.patch ≡ true → ⊥
      never-new x i t =
          let b = below x i in
          elim (or_cases _ _ t) [
            | inl named ↦ let l : e.patch.no < x.patch.no = o.earlier x e.patch.no (old-in x i) named in omega arith
            | inr shared ↦ let l : e.patch.no < x.patch.no = ltb-true e.patch.no x.patch.no (and_parts (nat_lt e.patch.no x.patch.no) (shares_byte x.patch e.patch) shared).0 in omega arith
          ]

      or-none : (b : Bool) → (b || (false || false)) ≡ b
      or-none true = refl
      or-none false = refl

      old-class : (k : ℕ) (d : Class) → class_at g.slots k ≡ Some d → IsClassOf more h.slots h.numbers k d
      old-class k d at =
          let w = r.classes k d at in
          let small : d.name < g.made = let b = class_below w.some.0 w.some.1 in let s = w.some.2 in omega arith in
          let not_new : e.class ≡ d.name → ⊥ = λ s. omega arith in
          record {
            some = (w.some.0, old-in w.some.0 w.some.1, w.some.2);
            members = λ x i s. elim (split x i) [ inl j ↦ w.members x j s | inr n ↦ absurd (not_new (ap (λ y. y.class) (sym n) ∙ s)) ];
            only = λ n t. let x = w.only n t in (x.0, old-in x.0 x.1, x.2, x.3);
            looks = λ x i s. elim (split x i) [ inl j ↦ w.looks x j s | inr n ↦ absurd (not_new (ap (λ y. y.class) (sym n) ∙ s)) ];
            live = λ x i s. elim (split x i) [ inl j ↦ w.live x j s | inr n ↦ absurd (not_new (ap (λ y. y.class) (sym n) ∙ s)) ];
            found = λ x i s. elim (split x i) [ inl j ↦ find-more x.patch.no k (w.found x j s) | inr n ↦ absurd (not_new (ap (λ y. y.class) (sym n) ∙ s)) ];
            span = λ x.
                let f : Entry → Bool = λ y. y.class == d.name && covers y.patch x in
                let off : f e ≡ false = and_left _ _ (ne_eqb e.class d.name not_new) in
                w.span x ∙ sym (list_any-append f all (e ∷ []) ∙ ap (λ b. list_any f all || (b || false)) off ∙ or-none (list_any f all));
            named = λ n t. let b = w.named n t in let l = longer in omega arith;
            sound = λ n j d2 t there at2.
                let b = w.named n t in
                let m = r.made in
                let there2 : find g.numbers n ≡ Some j = sym (find-same n (omega arith)) ∙ there in
                let l = r.live n j there2 in
                let q = placed g all r l.0 j l.1 (ap (find g.numbers) l.2 ∙ there2) in
                let back = class-back j d2 (other-key j q.0 q.1) at2 in
                elim (w.sound n j d2 t there2 back) [ inl s ↦ inl s | inr x ↦ inr (DependsOn-more d.name d2.name x) ];
            within = λ n i. let b = w.within n i in let l = longer in omega arith;
            reaches = λ n j i there.
                let b = w.within n i in
                let m = r.made in
                let there2 : find g.numbers n ≡ Some j = sym (find-same n (omega arith)) ∙ there in
                elim (w.reaches n j i there2) [ inl s ↦ inl s | inr way ↦ inr (Leads-more k j way) ];
            complete = λ x y j ix iy s other depends there. elim (split x ix) [
              | inl jx ↦ elim (split y iy) [
                | inl jy ↦ Leads-more k j (w.complete x y j jx jy s other depends (sym (find-same y.patch.no (below y jy)) ∙ there))
                | inr n ↦ absurd (never-new x jx (subst (λ z. depends_directly x.patch z.patch ≡ true) n depends))
              ]
              | inr n ↦ absurd (not_new (ap (λ y. y.class) (sym n) ∙ s))
            ];
          }

      module _ (hard_is : hard ≡ is_hard g.slots g.numbers block undo deps) (c_is : c ≡ added) (reached : (n : ℕ) → IsInReach reach n → IsNamedBelow g.made after n) where
        -- a chain leads from the new class to what one of its list leads to
        added-leads : (n j k : ℕ) → In deps n → find g.numbers n ≡ Some k → (k ≡ j) ⊎ Leads g.slots g.numbers k j → Leads h.slots h.numbers key j
        added-leads n j k i there way =
            let first : leads h.numbers added k ≡ true = list_any-from (leads_at h.numbers k) deps n i (ap (λ q. option_map_or (λ m. m == k) q false) (find-more n k there) ∙ eq-eqb k k refl) in
            elim way [
              | inl e ↦ subst (Leads h.slots h.numbers key) e (one added (a.here ∙ ap (λ z. Some z) c_is) first)
              | inr l ↦ onward added (a.here ∙ ap (λ z. Some z) c_is) first (Leads-more k j l)
            ]

        only-new : (x : Entry) → In more x → x.class ≡ g.made → x ≡ e
        only-new x i s = elim (split x i) [ inl j ↦ let b = class_below x j in absurd (omega arith) | inr n ↦ n ]

        new-span : (x : ℕ) → spans added x ≡ list_any (λ y. y.class == g.made && covers y.patch x) more
        new-span x =
            let f : Entry → Bool = λ y. y.class == g.made && covers y.patch x in
            let off : list_any f all ≡ false = false_from_ne_true _ (λ t. let y = list_any-at f all t in let b = class_below y.0 y.1 in let s = eqb-true y.0.class g.made (and_parts (y.0.class == g.made) (covers y.0.patch x) y.2).0 in omega arith) in
            let own : (e.class == g.made) ≡ true = eq-eqb p.no g.made no in
            let here : f e ≡ spans added x = ap (λ b. b && covers p x) own ∙ ap (λ z. nat_le z x && nat_lt x (end p)) is.start_is ∙ ap (λ z. nat_le start x && nat_lt x z) is.end_is in
            sym (list_any-append f all (e ∷ []) ∙ ap (λ b. b || (f e || false)) off ∙ ap (λ b. false || (b || false)) here ∙ or-nothing (spans added x))

        new-class-of : IsClassOf more h.slots h.numbers key added
        new-class-of = record {
          some = (e, new-in, no);
          members = λ x i s. let n = only-new x i s in or_left _ _ (eq-eqb g.made x.patch.no (sym (ap (λ z. z.patch.no) n ∙ no)));
          only = λ n t. (e, new-in, no ∙ single g.made n t, no);
          looks = λ x i s. let n = only-new x i s in
              (ap (λ z. z.mark) n, ap (λ z. z.patch.block) n ∙ is.block_is, ap (λ z. z.hard) n ∙ sym hard-same ∙ sym hard_is);
          live = λ x i s. let n = only-new x i s in ap is_durable n;
          found = λ x i s. let n = only-new x i s in ap (λ z. find h.numbers z.patch.no) n ∙ ap (find h.numbers) no ∙ a.number;
          span = new-span;
          named = λ n t. let b = are.are_made n (is_among-In deps n t) in let l = longer in let m = r.made in omega arith;
          sound = λ n j d t there at.
              let i = is_among-In deps n t in
              let there2 : find g.numbers n ≡ Some j = sym (find-same n (are.are_made n i)) ∙ there in
              let l = r.live n j there2 in
              let q = placed g all r l.0 j l.1 (ap (find g.numbers) l.2 ∙ there2) in
              let f = deps-sound n j d i there2 (class-back j d (other-key j q.0 q.1) at) in
              inr (record { e = e; f = f.0; in_e = new-in; in_f = old-in f.0 f.1; of_a = no; of_b = f.2; depends = f.3 });
          complete = λ x y j ix iy s other depends there.
              let n = only-new x ix s in
              elim (split y iy) [
                | inr m ↦ absurd (other (ap (λ z. z.class) m ∙ no))
                | inl jy ↦
                    let t : depends_directly p y.patch ≡ true = subst (λ z. depends_directly z.patch y.patch ≡ true) n depends in
                    let v = deps-complete y j jy t (sym (find-same y.patch.no (below y jy)) ∙ there) in
                    added-leads v.0 j v.2 v.1 v.3 v.4
              ];
          within = λ n i. let b = (reached n i).1 in let l = longer in let m = r.made in omega arith;
          reaches = λ n j i there.
              let u = reached n i in
              let v = named-leads n j u (sym (find-same n u.1) ∙ there) in
              inr (added-leads v.0 j v.2 v.1 v.3 v.4);
        }

        laid : IsLaidOn g.tops h.tops block top
        laid = subst (λ z. IsLaidOn g.tops h.tops z.block (record { start = z.start; stop = z.stop; no = g.made })) c_is a.laid

        -- where the new patch didn't write, who did last is as it was
        more-top : (b x : ℕ) (t : Option ℕ) → (wrote b x e ≡ true → ⊥) → IsTop all b x t → IsTop more b x t
        more-top b x (Some n) off t = record {
          e = t.e;
          inside = old-in t.e t.inside;
          number = t.number;
          wrote_it = t.wrote_it;
          last = λ f i w. elim (split f i) [ inl j ↦ t.last f j w | inr s ↦ absurd (off (subst (λ z. wrote b x z ≡ true) s w)) ];
        }
        more-top b x None off t = λ f i w. elim (split f i) [ inl j ↦ t f j w | inr s ↦ absurd (off (subst (λ z. wrote b x z ≡ true) s w)) ]

        within : (x : ℕ) → covers p x ≡ has_byte top x
        within x = ap (λ z. nat_le z x && nat_lt x (end p)) is.start_is ∙ ap (λ z. nat_le start x && nat_lt x z) is.end_is

        new-tops : (b x : ℕ) → IsTop more b x (top_at (spans_of h.tops b) x)
        new-tops b x = elim (cases_eq b block) [
          | inr other ↦ subst (λ z. IsTop more b x (top_at z x)) (sym (laid.others b other))
              (more-top b x (top_at (spans_of g.tops b) x) (λ w. other (sym (eqb-true p.block b (and_parts (p.block == b) (covers p x) w).0) ∙ is.block_is)) (r.tops b x))
          | inl s ↦ subst (λ z. IsTop more z x (top_at (spans_of h.tops z) x)) (sym s) (elim (cases_Bool (has_byte top x)) [
            | inl t ↦ subst (IsTop more block x) (sym (laid.here.here x t)) (record {
              e = e;
              inside = new-in;
              number = no;
              wrote_it = and_from _ _ (eq-eqb p.block block is.block_is) (within x ∙ t);
              last = λ f i w. elim (split f i) [ inl j ↦ let l = below f j in omega arith | inr n ↦ let l : f.patch.no ≡ g.made = ap (λ z. z.patch.no) n ∙ no in omega arith ];
            })
            | inr t ↦ subst (IsTop more block x) (sym (laid.here.beside x t))
                (more-top block x (top_at (spans_of g.tops block) x) (λ w. both_ways _ t (sym (within x) ∙ (and_parts (p.block == block) (covers p x) w).1)) (r.tops block x))
          ])
        ]

        represents : IsGraphOf h more
        represents = record {
          orderly = orderly;
          numbered = numbered;
          made = let l = longer in let m = r.made in let m2 = a.made in omega arith;
          classes = λ k d at. elim (cases_eq k key) [
            | inl s ↦
                let same : d ≡ added = class_same d added (sym at ∙ ap (class_at h.slots) s ∙ a.here ∙ ap (λ z. Some z) c_is) in
                subst (λ z. IsClassOf more h.slots h.numbers k z) (sym same) (subst (λ z. IsClassOf more h.slots h.numbers z added) (sym s) new-class-of)
            | inr other ↦ old-class k d (class-back k d other at)
          ];
          found = λ x i alive. elim (split x i) [
            | inl j ↦ let f = r.found x j alive in (f.0, f.1, find-more x.patch.no f.0 f.2, class-more f.0 f.1 f.3, f.4)
            | inr n ↦ (key, added, ap (λ z. find h.numbers z.patch.no) n ∙ ap (find h.numbers) no ∙ a.number, a.here ∙ ap (λ z. Some z) c_is, sym no ∙ ap (λ z. z.class) (sym n))
          ];
          live = λ n k at. elim (cases_eq n g.made) [
            | inl s ↦ (e, new-in, no ∙ sym s, refl)
            | inr other ↦ let l = r.live n k (sym (a.rest n other) ∙ at) in (l.0, old-in l.0 l.1, l.2, l.3)
          ];
          tops = new-tops;
        }

-- what is told of a patch that is drawn up
pub tells : (g : Graph) (all : List Entry) (p : Patch) (block start stop : ℕ) (after : List ℕ) (undo : Undo) (c : Class)
    → IsGraphOf g all → IsPatch p g.made block start stop after undo → IsOrderly (all ++ fresh all p ∷ []) → IsDrawnUp g block start stop undo after c
    → (c.name ≡ p.no) × (c.hard ≡ is_made_hard all p)
tells g all p block start stop after undo c r is o d = (
  ap (λ (z : Class). z.name) d.is ∙ sym is.no,
  ap (λ (z : Class). z.hard) d.is ∙ hard-same g all p r is.no o block start stop d.deps after undo d.reach c.hard is d.are,
)

-- the graph with that patch put in
pub puts-in : (g h : Graph) (all : List Entry) (p : Patch) (block start stop : ℕ) (after : List ℕ) (undo : Undo) (key : ℕ) (c : Class)
    → IsGraphOf g all → IsPatch p g.made block start stop after undo → IsOrderly (all ++ fresh all p ∷ []) → IsDrawnUp g block start stop undo after c → IsAdded g h key c
    → IsGraphOf h (all ++ fresh all p ∷ [])
puts-in g h all p block start stop after undo key c r is o d a =
    let hard : Bool = is_hard g.slots g.numbers block undo d.deps in
    represents g all p r is.no o block start stop d.deps after undo d.reach hard is d.are h key c a refl d.is d.reached
