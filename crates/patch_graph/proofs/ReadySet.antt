-- The classes that are marked are those of the largest set that may be written.
use Rattle.std.proofs.Common.{◌≡◌, ℕ, ◌<◌, ◌≤◌, ◌⊎◌, ◌∙◌, inl, inr, Bool, true, false, List, [], ◌∷◌, ◌++◌, length, map, refl, sym, ap, arith, subst, Option, Some, None, IsTrue}
use Rattle.std.specs.Prelude.{◌==◌, ◌≢◌, ◌↔◌, if◌then◌else◌}
use Rattle.std.specs.Option.{option_map_or, option_map, MatchOption}
use Rattle.std.specs.List.{list_any, filter, Contains, AllByRecursion}
use Rattle.std.proofs.lemmas.Bool.{cases_Bool, cases_eq, and_parts, and_from, both_ways, eqb-true, eq-eqb}
use Rattle.patch_model.specs.declared.patches.Mark.{Mark}
use Rattle.patch_model.specs.declared.patches.Mark.TheVariants.{Memory, Flight, Durable}
use Rattle.patch_model.specs.Entry.{Entry, marks_memory, is_durable, in_memory_of, is_among}
use Rattle.patch_model.specs.Dependency.{depends_directly}
use Rattle.patch_model.specs.Ready.{ready, IsWritable, IsLargestWritable, IsRising, ReadyIsOnly}
use Rattle.patch_model.specs.Member.{In, In-from_Contains, Contains-from_In, In-filter, filter-In, list_all-at, list_all-from, list_any-at, list_any-from}
use Rattle.patch_model.specs.Entries.{rising-filter}
use Rattle.patch_links.specs.State.{Class, Slots, Numbers, find, class_at, leads, leads_at}
use Rattle.patch_graph.specs.State.{Graph}
use Rattle.patch_graph.specs.Marks.{is_marked}
use Rattle.patch_links.specs.Ready.{is_candidate, picks, is_met_at, AreMet, IsWithin, IsLargestMet, AreRising, IsArranged}
use Rattle.patch_graph.specs.Ready.{gathered, members_at}
use Rattle.patch_graph.proofs.Facts.{known}
use Rattle.patch_graph.specs.declared.classes.LiveClass.{LiveClass}
use Rattle.patch_graph.specs.Showing.{shown, IsShown}
use Rattle.patch_graph.specs.Meaning.{Leads, one, onward, IsGraphOf, IsNotLive, IsLiveClass, HasMark}
use Rattle.patch_graph.proofs.Arranging.{rising_same as numbers_same}

pub some_same : (a b : ℕ) → ◌≡◌ {A = Option ℕ} (Some a) (Some b) → a ≡ b
some_same a b e = cc

pub class_same : (a b : Class) → ◌≡◌ {A = Option Class} (Some a) (Some b) → a ≡ b
class_same a b e = cc

memory-live : (m : Mark) → marks_memory m ≡ true → (e : Entry) → e.mark ≡ m → is_durable e ≡ false
memory-live Memory t e same = ap (λ k. elim k [ Memory ↦ false | Flight ↦ false | Durable ↦ true ]) same
memory-live Flight t e same = absurd (cc)
memory-live Durable t e same = absurd (cc)

pub cases_found : (numbers : Numbers) (n : ℕ) → (find numbers n ≡ None) ⊎ ((key : ℕ) × (find numbers n ≡ Some key))
cases_found numbers n = elim (find numbers n) as (λ o. (o ≡ None) ⊎ ((key : ℕ) × (o ≡ Some key))) [ None ↦ inl refl | Some k ↦ inr (k, refl) ]

-- what is met by a set leads into it
met-leads : (slots : Slots) (numbers : Numbers) (set : ℕ → Bool) → AreMet slots numbers set → (k : ℕ) (c : Class) (j : ℕ) → class_at slots k ≡ Some c → leads numbers c j ≡ true → set k ≡ true → set j ≡ true
met-leads slots numbers set met k c j at t h =
    let r = list_any-at (leads_at numbers j) c.after t in
    let m = list_all-at (is_met_at numbers set) c.after r.0 (met k c at h) r.1 in
    elim (find numbers r.0) as (λ o. option_map_or (λ k. k == j) o false ≡ true → option_map_or set o true ≡ true → set j ≡ true) [
      | Some i ↦ λ same in_set. subst (λ x. set x ≡ true) (eqb-true i j same) in_set
      | None ↦ λ same in_set. absurd (cc)
    ] r.2 m

pub closed : (slots : Slots) (numbers : Numbers) (set : ℕ → Bool) → AreMet slots numbers set → (k j : ℕ) → Leads slots numbers k j → set k ≡ true → set j ≡ true
closed slots numbers set met k j (one c at t) h = met-leads slots numbers set met k c j at t h
closed slots numbers set met k l (onward {j = j} c at t rest) h = closed slots numbers set met j l rest (met-leads slots numbers set met k c j at t h)

module _ (g : Graph) (all : List Entry) (r : IsGraphOf g all) where
  -- a live number's entry, and its class
  pub placed : (e : Entry) (key : ℕ) → In all e → find g.numbers e.patch.no ≡ Some key → (c : Class) × (class_at g.slots key ≡ Some c) × (c.name ≡ e.class) × (is_durable e ≡ false)
  placed e key i at =
      let l = r.live e.patch.no key at in
      let same : l.0 ≡ e = (known g all r).numbers l.0 e l.1 i l.2 in
      let alive : is_durable e ≡ false = subst (λ x. is_durable x ≡ false) same l.3 in
      let f = r.found e i alive in
      let keys : f.0 ≡ key = some_same f.0 key (sym f.2 ∙ at) in
      (f.1, subst (λ k. class_at g.slots k ≡ Some f.1) keys f.3, f.4, alive)

  module _ (block : ℕ) (set : ℕ → Bool) (l : IsLargestMet g.slots g.numbers (picks g.slots block) set) where
    abbrev pub chosen : Entry → Bool
    chosen e = option_map_or set (find g.numbers e.patch.no) false

    abbrev pub chosen_set : List Entry
    chosen_set = filter chosen all

    pub chosen-at : (e : Entry) (key : ℕ) → find g.numbers e.patch.no ≡ Some key → set key ≡ true → chosen e ≡ true
    chosen-at e key at t = ap (λ o. option_map_or set o false) at ∙ t

    pub at-chosen : (e : Entry) → chosen e ≡ true → (key : ℕ) × (find g.numbers e.patch.no ≡ Some key) × (set key ≡ true)
    at-chosen e t = elim (find g.numbers e.patch.no) as (λ o. option_map_or set o false ≡ true → (key : ℕ) × (o ≡ Some key) × (set key ≡ true)) [
      | Some k ↦ λ h. (k, refl, h)
      | None ↦ λ h. absurd (cc)
    ] t

    -- what is known of a class in the set
    candidate : (key : ℕ) (c : Class) → class_at g.slots key ≡ Some c → set key ≡ true → is_candidate block c ≡ true
    candidate key c at t = sym (ap (λ o. option_map_or (is_candidate block) o false) at) ∙ l.inside key t

    chosen-In : (e : Entry) → In chosen_set e → In all e × (chosen e ≡ true)
    chosen-In e i = filter-In chosen all e i

    in_memory : (e : Entry) → In all e → chosen e ≡ true → in_memory_of block e ≡ true
    in_memory e i t =
        let a = at-chosen e t in
        let p = placed e a.0 i a.1 in
        let looks = (r.classes a.0 p.0 p.1).looks e i (sym p.2) in
        let good = and_parts _ _ (candidate a.0 p.0 p.1 a.2) in
        and_from _ _ (ap marks_memory looks.0 ∙ good.0) (ap (λ b. b == block) looks.1 ∙ good.1)

    whole : (e f : Entry) → In all e → chosen e ≡ true → In all f → f.class ≡ e.class → chosen f ≡ true
    whole e f i t j same =
        let a = at-chosen e t in
        let p = placed e a.0 i a.1 in
        chosen-at f a.0 ((r.classes a.0 p.0 p.1).found f j (same ∙ sym p.2)) a.2

    met : (e f : Entry) → In all e → chosen e ≡ true → In all f → depends_directly e.patch f.patch ≡ true → (is_durable f ≡ true) ⊎ (chosen f ≡ true)
    met e f i t j depends = elim (cases_Bool (is_durable f)) [
      | inl d ↦ inl d
      | inr d ↦
          let a = at-chosen e t in
          let p = placed e a.0 i a.1 in
          let k = r.classes a.0 p.0 p.1 in
          let b = r.found f j d in
          elim (cases_eq f.class p.0.name) [
            | inl same ↦ inr (chosen-at f a.0 (k.found f j same) a.2)
            | inr other ↦
                let way = k.complete e f b.0 i j (sym p.2) other depends b.2 in
                inr (chosen-at f b.0 b.2 (closed g.slots g.numbers set l.met a.0 b.0 way a.2))
          ]
    ]

    writable : IsWritable all block chosen_set
    writable = record {
      in_memory = λ e h. let m = chosen-In e (In-from_Contains _ e h) in (Contains-from_In all e m.0, in_memory e m.0 m.1);
      whole = λ e f h k same.
          let m = chosen-In e (In-from_Contains _ e h) in
          let j = In-from_Contains all f k in
          Contains-from_In _ f (In-filter chosen all f j (whole e f m.0 m.1 j same));
      met = λ e f h k depends.
          let m = chosen-In e (In-from_Contains _ e h) in
          let j = In-from_Contains all f k in
          elim (met e f m.0 m.1 j depends) [ inl d ↦ inl d | inr t ↦ inr (Contains-from_In _ f (In-filter chosen all f j t)) ];
    }

    -- the keys of the classes of another set
    module _ (other : List Entry) (w : IsWritable all block other) where
      abbrev has_key : ℕ → Entry → Bool
      has_key key e = option_map_or (λ k. k == key) (find g.numbers e.patch.no) false

      abbrev keys : ℕ → Bool
      keys key = list_any (has_key key) other

      key-from : (e : Entry) (key : ℕ) → In other e → find g.numbers e.patch.no ≡ Some key → keys key ≡ true
      key-from e key i at = list_any-from (has_key key) other e i (ap (λ o. option_map_or (λ k. k == key) o false) at ∙ eq-eqb key key refl)

      from-key : (key : ℕ) → keys key ≡ true → (e : Entry) × In other e × (find g.numbers e.patch.no ≡ Some key)
      from-key key t =
          let a = list_any-at (has_key key) other t in (
            a.0,
            a.1,
            elim (find g.numbers a.0.patch.no) as (λ o. option_map_or (λ k. k == key) o false ≡ true → o ≡ Some key) [
              | Some k ↦ λ h. ap (λ n. Some n) (eqb-true k key h)
              | None ↦ λ h. absurd (cc)
            ] a.2,
          )

      inside : (e : Entry) → In other e → In all e × (in_memory_of block e ≡ true)
      inside e i = let m = w.in_memory e (Contains-from_In _ e i) in (In-from_Contains all e m.0, m.1)

      live-other : (e : Entry) → In other e → is_durable e ≡ false
      live-other e i = let m = (inside e i).1 in memory-live e.mark (and_parts _ _ m).0 e refl

      keys-within : IsWithin keys (picks g.slots block)
      keys-within key t =
          let a = from-key key t in
          let i = inside a.0 a.1 in
          let p = placed a.0 key i.0 a.2 in
          let looks = (r.classes key p.0 p.1).looks a.0 i.0 (sym p.2) in
          let good = and_parts _ _ i.1 in
          ap (λ o. option_map_or (is_candidate block) o false) p.1 ∙ and_from _ _ (sym (ap marks_memory looks.0) ∙ good.0) (sym (ap (λ b. b == block) looks.1) ∙ good.1)

      met-key : (key n j : ℕ) (c : Class) → class_at g.slots key ≡ Some c → keys key ≡ true → is_among c.after n ≡ true → find g.numbers n ≡ Some j → keys j ≡ true
      met-key key n j c at t i there =
          let a = from-key key t in
          let ia = inside a.0 a.1 in
          let p = placed a.0 key ia.0 a.2 in
          let c_same : p.0 ≡ c = class_same p.0 c (sym p.1 ∙ at) in
          let named : c.name ≡ a.0.class = ap (λ x. x.name) (sym c_same) ∙ p.2 in
          let l = r.live n j there in
          let q = placed l.0 j l.1 (ap (find g.numbers) l.2 ∙ there) in
          elim ((r.classes key c at).sound n j q.0 i there q.1) [
            | inl same ↦
                let back = (r.classes key c at).found l.0 l.1 (sym q.2 ∙ same) in
                let keys_same : key ≡ j = some_same key j (sym back ∙ ap (find g.numbers) l.2 ∙ there) in
                subst (λ k. keys k ≡ true) keys_same t
            | inr d ↦
                let e_in : Contains other d.e = w.whole a.0 d.e (Contains-from_In _ a.0 a.1) (Contains-from_In _ d.e d.in_e) (d.of_a ∙ named) in
                elim (w.met d.e d.f e_in (Contains-from_In _ d.f d.in_f) d.depends) [
                  | inl dead ↦ absurd (both_ways _ ((r.classes j q.0 q.1).live d.f d.in_f d.of_b) dead)
                  | inr h ↦ key-from d.f j (In-from_Contains other d.f h) ((r.classes j q.0 q.1).found d.f d.in_f d.of_b)
                ]
          ]

      met-there : (key n : ℕ) (c : Class) → class_at g.slots key ≡ Some c → keys key ≡ true → is_among c.after n ≡ true → is_met_at g.numbers keys n ≡ true
      met-there key n c at t i = elim (cases_found g.numbers n) [
        | inl e ↦ ap (λ q. option_map_or keys q true) e
        | inr s ↦ ap (λ q. option_map_or keys q true) s.1 ∙ met-key key n s.0 c at t i s.1
      ]

      keys-met : AreMet g.slots g.numbers keys
      keys-met key c at t = list_all-from (is_met_at g.numbers keys) c.after (λ n i.
          met-there key n c at t (list_any-from (λ m. m == n) c.after n i (eq-eqb n n refl)))

      larger : (e : Entry) → In other e → In chosen_set e
      larger e i =
          let a = inside e i in
          let f = r.found e a.0 (live-other e i) in
          In-filter chosen all e a.0 (chosen-at e f.0 f.2 (l.largest keys keys-within keys-met f.0 (key-from e f.0 i f.2)))

    pub chosen-largest : IsLargestWritable all block chosen_set
    chosen-largest = record {
      writable = writable;
      largest = λ other w e h. Contains-from_In _ e (larger other w e (In-from_Contains other e h));
    }

    pub chosen-ready : ReadyIsOnly → chosen_set ≡ ready all block
    chosen-ready only = only all block chosen_set (known g all r).rising chosen-largest (rising-filter chosen all (known g all r).rising)

pub In-left : {X : Type 0} → (xs ys : List X) (x : X) → In xs x → In (xs ++ ys) x
In-left [] ys x i = absurd i
In-left (y ∷ xs) ys x (inl e) = inl e
In-left (y ∷ xs) ys x (inr i) = inr (In-left xs ys x i)

pub In-right : {X : Type 0} → (xs ys : List X) (x : X) → In ys x → In (xs ++ ys) x
In-right [] ys x i = i
In-right (y ∷ xs) ys x i = inr (In-right xs ys x i)

pub In-parts : {X : Type 0} → (xs ys : List X) (x : X) → In (xs ++ ys) x → In xs x ⊎ In ys x
In-parts [] ys x i = inr i
In-parts (y ∷ xs) ys x (inl e) = inl (inl e)
In-parts (y ∷ xs) ys x (inr i) = elim (In-parts xs ys x i) [ inl j ↦ inl (inr j) | inr j ↦ inr j ]

-- the numbers of the marked classes
gathered-from : (slots : Slots) (marks : List Bool) (keys : List ℕ) (key n : ℕ) → In keys key → In (members_at slots marks key) n → In (gathered slots marks keys) n
gathered-from slots marks [] key n h i = absurd h
gathered-from slots marks (k ∷ ks) key n (inl e) i = In-left (members_at slots marks k) (gathered slots marks ks) n (subst (λ j. In (members_at slots marks j) n) (sym e) i)
gathered-from slots marks (k ∷ ks) key n (inr h) i = In-right (members_at slots marks k) (gathered slots marks ks) n (gathered-from slots marks ks key n h i)

from-gathered : (slots : Slots) (marks : List Bool) (keys : List ℕ) (n : ℕ) → In (gathered slots marks keys) n → (key : ℕ) × In keys key × In (members_at slots marks key) n
from-gathered slots marks [] n i = absurd i
from-gathered slots marks (k ∷ ks) n i = elim (In-parts (members_at slots marks k) (gathered slots marks ks) n i) [
  | inl j ↦ (k, inl refl, j)
  | inr j ↦ let r = from-gathered slots marks ks n j in (r.0, inr r.1, r.2)
]

members-from : (slots : Slots) (marks : List Bool) (key n : ℕ) → In (members_at slots marks key) n → (c : Class) × (class_at slots key ≡ Some c) × (is_marked marks key ≡ true) × In c.members n
members-from slots marks key n i =
    elim (cases_Bool (is_marked marks key)) [
      | inl t ↦ elim (class_at slots key) as (λ o. In (option_map_or (λ c. c.members) o []) n → (c : Class) × (o ≡ Some c) × (is_marked marks key ≡ true) × In c.members n) [
        | Some c ↦ λ j. (c, refl, t, j)
        | None ↦ λ j. absurd j
      ] (subst (λ b. In (if b then option_map_or (λ c. c.members) (class_at slots key) [] else []) n) t i)
      | inr t ↦ let none : ⊥ = subst (λ b. In (if b then option_map_or (λ c. c.members) (class_at slots key) [] else []) n) t i in absurd none
    ]

members-to : (slots : Slots) (marks : List Bool) (key n : ℕ) (c : Class) → class_at slots key ≡ Some c → is_marked marks key ≡ true → In c.members n → In (members_at slots marks key) n
members-to slots marks key n c at t i = subst (λ l. In l n) (sym (ap (λ b. if b then option_map_or (λ c. c.members) (class_at slots key) [] else []) t ∙ ap (λ o. option_map_or (λ c. c.members) o []) at)) i

rising-map : (es : List Entry) → IsRising es → AreRising (map (λ e. e.patch.no) es)
rising-map [] h = tt
rising-map (e ∷ es) h = (go es h.0, rising-map es h.1)
  where
    go : (fs : List Entry) → AllByRecursion (λ f. e.patch.no < f.patch.no) fs → AllByRecursion (λ m. e.patch.no < m) (map (λ e. e.patch.no) fs)
    go [] h = tt
    go (f ∷ fs) h = (h.0, go fs h.1)

In-map : (es : List Entry) (e : Entry) → In es e → In (map (λ e. e.patch.no) es) e.patch.no
In-map [] e i = absurd i
In-map (f ∷ es) e (inl same) = inl (ap (λ x. x.patch.no) same)
In-map (f ∷ es) e (inr i) = inr (In-map es e i)

map-In : (es : List Entry) (n : ℕ) → In (map (λ e. e.patch.no) es) n → (e : Entry) × In es e × (e.patch.no ≡ n)
map-In [] n i = absurd i
map-In (f ∷ es) n (inl same) = (f, inl refl, same)
map-In (f ∷ es) n (inr i) = let r = map-In es n i in (r.0, inr r.1, r.2)

pub is_among-In : (ns : List ℕ) (n : ℕ) → is_among ns n ≡ true → In ns n
is_among-In ns n t = let r = list_any-at (λ m. m == n) ns t in subst (λ m. In ns m) (eqb-true r.0 n r.2) r.1

pub In-is_among : (ns : List ℕ) (n : ℕ) → In ns n → is_among ns n ≡ true
In-is_among ns n i = list_any-from (λ m. m == n) ns n i (eq-eqb n n refl)

pub ready_numbers : ReadyIsOnly → (g : Graph) (all : List Entry) (block : ℕ) (keys : List ℕ) (marks : List Bool) (taken : ℕ → Bool) (ns : List ℕ) → IsGraphOf g all → ((key : ℕ) → In keys key → is_marked marks key ≡ taken key)
    → ((key : ℕ) → taken key ≡ true → In keys key) → IsLargestMet g.slots g.numbers (picks g.slots block) taken
    → IsArranged (gathered g.slots marks keys) ns → ns ≡ map (λ e. e.patch.no) (ready all block)
ready_numbers only g all block keys marks taken ns r same held l a =
    let set = chosen_set g all r block taken l in
    let is = chosen-ready g all r block taken l only in
    subst (λ s. ns ≡ map (λ e. e.patch.no) s) is (numbers_same ns (map (λ e. e.patch.no) set) a.rising
    (rising-map set (rising-filter (chosen g all r block taken l) all (known g all r).rising))
    (λ n i.
    let p = from-gathered g.slots marks keys n (a.no_more n i) in
    let m = members-from g.slots marks p.0 n p.2 in
    let k = r.classes p.0 m.0 m.1 in
    let e = k.only n (In-is_among m.0.members n m.3) in
    let at = k.found e.0 e.1 e.3 in
    subst (λ j. In (map (λ e. e.patch.no) set) j) e.2 (In-map set e.0 (In-filter (chosen g all r block taken l) all e.0 e.1 (chosen-at g all r block taken l e.0 p.0 at (sym (same p.0 p.1) ∙ m.2)))))
    (λ n i.
    let e = map-In set n i in
    let f = filter-In (chosen g all r block taken l) all e.0 e.1 in
    let c = at-chosen g all r block taken l e.0 f.1 in
    let p = placed g all r e.0 c.0 f.0 c.1 in
    let k = r.classes c.0 p.0 p.1 in
    let m = is_among-In p.0.members e.0.patch.no (k.members e.0 f.0 (sym p.2)) in
    a.kept n (gathered-from g.slots marks keys c.0 n (held c.0 c.2)
    (members-to g.slots marks c.0 n p.0 p.1 (same c.0 (held c.0 c.2) ∙ c.2) (subst (λ j. In p.0.members j) e.2 m)))))

not_empty : (es : List Entry) (e : Entry) → In es e → es ≡ [] → ⊥
not_empty es e i none = subst (λ l. In l e) none i

some_in : (es : List Entry) → (es ≡ [] → ⊥) → (e : Entry) × In es e
some_in [] h = absurd (h refl)
some_in (e ∷ es) h = (e, inl refl)

picked_class : (slots : Slots) (block key : ℕ) → picks slots block key ≡ true → (c : Class) × (class_at slots key ≡ Some c)
picked_class slots block key = elim (class_at slots key) as (λ o. option_map_or (is_candidate block) o false ≡ true → (c : Class) × (o ≡ Some c)) [
  | Some c ↦ λ t. (c, refl)
  | None ↦ λ t. absurd (cc)
]

-- where some class is taken, some patch is ready
pub any_is_ready : ReadyIsOnly → (g : Graph) (all : List Entry) (block : ℕ) (taken : ℕ → Bool) (any : Bool) → IsGraphOf g all → IsLargestMet g.slots g.numbers (picks g.slots block) taken
    → (any ≡ false → (key : ℕ) → taken key ≡ false) → (any ≡ true → (key : ℕ) × (taken key ≡ true)) → IsTrue any ↔ (ready all block ≢ [])
any_is_ready only g all block taken any r l none some =
    let set = chosen_set g all r block taken l in
    let is = chosen-ready g all r block taken l only in
    subst (λ s. IsTrue any ↔ (s ≢ [])) is (
      (λ t.
          let k = some t in
          let c = picked_class g.slots block k.0 (l.inside k.0 k.1) in
          let some = (r.classes k.0 c.0 c.1).some in
          let at = (r.classes k.0 c.0 c.1).found some.0 some.1 some.2 in
          not_empty set some.0 (In-filter (chosen g all r block taken l) all some.0 some.1 (chosen-at g all r block taken l some.0 k.0 at k.1))),
      (λ h.
          let e = some_in set h in
          let f = filter-In (chosen g all r block taken l) all e.0 e.1 in
          let c = at-chosen g all r block taken l e.0 f.1 in
          elim (cases_Bool any) [ inl t ↦ t | inr off ↦ absurd (both_ways _ (none off c.0) c.2) ]),
    )

found-in : (numbers : Numbers) (set : ℕ → Bool) (n : ℕ) → option_map_or set (find numbers n) false ≡ true → (key : ℕ) × (find numbers n ≡ Some key)
found-in numbers set n t = elim (find numbers n) as (λ o. option_map_or set o false ≡ true → (key : ℕ) × (o ≡ Some key)) [
  | Some k ↦ λ h. (k, refl)
  | None ↦ λ h. absurd (cc)
] t

-- the numbers that lead to what is taken are those of the patches that are ready
pub taken_numbers : ReadyIsOnly → (g : Graph) (all : List Entry) (block : ℕ) (taken : ℕ → Bool) (ns : List ℕ) → IsGraphOf g all → IsLargestMet g.slots g.numbers (picks g.slots block) taken
    → AreRising ns → ((n : ℕ) → is_among ns n ≡ option_map_or taken (find g.numbers n) false) → ns ≡ map (λ e. e.patch.no) (ready all block)
taken_numbers only g all block taken ns r l rising just =
    let set = chosen_set g all r block taken l in
    let is = chosen-ready g all r block taken l only in
    subst (λ s. ns ≡ map (λ e. e.patch.no) s) is (numbers_same ns (map (λ e. e.patch.no) set) rising
    (rising-map set (rising-filter (chosen g all r block taken l) all (known g all r).rising))
    (λ n i.
    let t : option_map_or taken (find g.numbers n) false ≡ true = sym (just n) ∙ In-is_among ns n i in
    let k = found-in g.numbers taken n t in
    let e = r.live n k.0 k.1 in
    subst (λ j. In (map (λ e. e.patch.no) set) j) e.2 (In-map set e.0 (In-filter (chosen g all r block taken l) all e.0 e.1 (ap (λ m. option_map_or taken (find g.numbers m) false) e.2 ∙ t))))
    (λ n i.
    let e = map-In set n i in
    let f = filter-In (chosen g all r block taken l) all e.0 e.1 in
    is_among-In ns n (just n ∙ ap (λ m. option_map_or taken (find g.numbers m) false) (sym e.2) ∙ f.1)))

-- a number that isn't live
pub not_live : (g : Graph) (all : List Entry) (n : ℕ) → IsGraphOf g all → find g.numbers n ≡ None → IsNotLive all n
not_live g all n r none e i same = elim (cases_Bool (is_durable e)) [
  | inl d ↦ d
  | inr d ↦
      let f = r.found e i d in
      let hit : find g.numbers n ≡ Some f.0 = subst (λ m. find g.numbers m ≡ Some f.0) same f.2 in
      absurd (cc)
]

durable-mark : (m : Mark) → (e : Entry) → e.mark ≡ m → is_durable e ≡ true → m ≡ Durable
durable-mark Memory e same t = let u : is_durable e ≡ false = ap (λ k. elim k [ Memory ↦ false | Flight ↦ false | Durable ↦ true ]) same in absurd (both_ways _ u t)
durable-mark Flight e same t = let u : is_durable e ≡ false = ap (λ k. elim k [ Memory ↦ false | Flight ↦ false | Durable ↦ true ]) same in absurd (both_ways _ u t)
durable-mark Durable e same t = refl

pub mark_not_live : (g : Graph) (all : List Entry) (n : ℕ) → IsGraphOf g all → find g.numbers n ≡ None → n < g.made → HasMark all n Durable
mark_not_live g all n r none h =
    let many = r.made in
    let e = (known g all r).made n (omega arith) in
    (e.0, e.1, e.2, durable-mark e.0.mark e.0 refl (not_live g all n r none e.0 e.1 e.2))

pub class_live : (g : Graph) (all : List Entry) (n key : ℕ) → IsGraphOf g all → find g.numbers n ≡ Some key
    → (c : Class) × (class_at g.slots key ≡ Some c) × IsLiveClass all n c.name × HasMark all n c.mark
class_live g all n key r at =
    let l = r.live n key at in
    let p = placed g all r l.0 key l.1 (ap (find g.numbers) l.2 ∙ at) in
    let looks = (r.classes key p.0 p.1).looks l.0 l.1 (sym p.2) in
    (p.0, p.1, (l.0, l.1, l.2, l.3, sym p.2), (l.0, l.1, l.2, looks.0))

pub class_answer : (g : Graph) (all : List Entry) (n key : ℕ) (o : Option ℕ) → IsGraphOf g all → find g.numbers n ≡ Some key
    → o ≡ option_map (λ c. c.name) (class_at g.slots key) → MatchOption o (IsNotLive all n) (IsLiveClass all n)
class_answer g all n key o r at is =
    let c = class_live g all n key r at in
    let e : o ≡ Some c.0.name = is ∙ ap (option_map (λ c. c.name)) c.1 in
    rw e c.2

pub mark_answer : (g : Graph) (all : List Entry) (n key : ℕ) (o : Option Mark) → IsGraphOf g all → find g.numbers n ≡ Some key
    → o ≡ option_map (λ c. c.mark) (class_at g.slots key) → MatchOption o (length all ≤ n) (HasMark all n)
mark_answer g all n key o r at is =
    let c = class_live g all n key r at in
    let e : o ≡ Some c.0.mark = is ∙ ap (option_map (λ c. c.mark)) c.1 in
    rw e c.3

pub shown_answer : (g : Graph) (all : List Entry) (n key : ℕ) (o : Option LiveClass) → IsGraphOf g all → find g.numbers n ≡ Some key
    → o ≡ option_map shown (class_at g.slots key) → MatchOption o (IsNotLive all n) (IsShown all n)
shown_answer g all n key o r at is =
    let e = r.live n key at in
    let f = r.found e.0 e.1 e.3 in
    let here : f.0 ≡ key = let two : Some f.0 ≡ Some key = sym f.2 ∙ ap (find g.numbers) e.2 ∙ at in cc in
    let at_key : class_at g.slots key ≡ Some f.1 = ap (class_at g.slots) (sym here) ∙ f.3 in
    let whose = r.classes key f.1 at_key in
    let looks = whose.looks e.0 e.1 (sym f.4) in
    let gives : o ≡ Some (shown f.1) = is ∙ ap (option_map shown) at_key in
    rw gives (record {
      patch = e.0;
      inside = e.1;
      number = e.2;
      live = e.3;
      name = sym f.4;
      mark = looks.0;
      block = looks.1;
      hard = looks.2;
      span = whose.span;
    })
