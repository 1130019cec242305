-- A legal merge, by the keys of its classes.
use Rattle.std.proofs.Common.{◌≡◌, ℕ, zero, suc, ◌+◌, ◌<◌, ◌≤◌, ◌⊎◌, ◌∙◌, inl, inr, true, false, List, [], ◌∷◌, length, map, min, refl, sym, ap, arith, subst, Option, Some, None}
use Rattle.std.specs.Prelude.{◌==◌, ◌&&◌, ◌≢◌, nat_le, not, slice_get}
use Rattle.std.specs.Option.{option_map}
use Rattle.std.specs.List.{list_any}
use Rattle.std.proofs.lemmas.Bool.{cases_Bool, and_parts, and_from, both_ways, eqb-true, eq-eqb, leb-true, not-true}
use Rattle.patch_model.specs.declared.patches.Mark.{Mark}
use Rattle.patch_model.specs.declared.patches.Mark.TheVariants.{Memory, Flight, Durable}
use Rattle.patch_model.specs.Entry.{Entry, marks_memory, is_memory, is_durable, is_undoable}
use Rattle.patch_model.specs.State.{class_of, joined}
use Rattle.patch_model.specs.Pile.{end}
use Rattle.patch_model.specs.Ready.{IsRising}
use Rattle.patch_model.specs.Legal.{IsLegalMerge, touch, is_undoable_at, block_of_patch}
use Rattle.patch_model.specs.Orderly.{IsOrderly}
use Rattle.patch_model.specs.Member.{In, list_any-at, list_any-from}
use Rattle.patch_links.specs.State.{Class, find, class_at}
use Rattle.patch_graph.specs.State.{Graph}
use Rattle.patch_graph.specs.Meaning.{IsGraphOf}
use Rattle.patch_graph.specs.Merging.{merged, merged_name, HasJoined}
use Rattle.patch_graph.proofs.Facts.{known}
use Rattle.patch_model.specs.Entries.{all-In}
use Rattle.patch_graph.proofs.ReadySet.{placed}
use Rattle.patch_graph.proofs.MergedClasses.{MayMerge, merges}

slice_get-In : (es : List Entry) (i : ℕ) (e : Entry) → slice_get es i ≡ Some e → In es e
slice_get-In [] i e at = absurd (cc)
slice_get-In (x ∷ xs) zero e at = inl (cc)
slice_get-In (x ∷ xs) (suc i) e at = inr (slice_get-In xs i e at)

-- rising numbers below a bound leave room for those behind them
rising-room : (e : Entry) (es : List Entry) (top : ℕ) → IsRising (e ∷ es) → ((x : Entry) → In (e ∷ es) x → x.patch.no < top) → e.patch.no + length es < top
rising-room e [] top h below = let b = below e (inl refl) in omega arith
rising-room e (x ∷ es) top h below =
    let b = rising-room x es top h.1 (λ z i. below z (inr i)) in
    let c : e.patch.no < x.patch.no = h.0.0 in omega arith

-- so each of as many as the bound has the number of its place
place-is : (es : List Entry) (low i : ℕ) (e : Entry) → IsRising es → ((x : Entry) → In es x → low ≤ x.patch.no) → ((x : Entry) → In es x → x.patch.no < low + length es)
    → slice_get es i ≡ Some e → e.patch.no ≡ low + i
place-is [] low i e h above below at = absurd (cc)
place-is (x ∷ es) low zero e h above below at =
    let same : x ≡ e = cc in
    let room = rising-room x es (low + length (x ∷ es)) h below in
    let a = above x (inl refl) in
    let n = ap (λ z. z.patch.no) same in omega arith
place-is (x ∷ es) low (suc i) e h above below at =
    let room = rising-room x es (low + length (x ∷ es)) h below in
    let a = above x (inl refl) in
    let r = place-is es (low + 1) i e h.1
    (λ z j. let b : x.patch.no < z.patch.no = all-In (λ f. x.patch.no < f.patch.no) es h.0 z j in omega arith)
    (λ z j. let b = below z (inr j) in omega arith) at in
    omega arith

memory-live : (e : Entry) → is_memory e ≡ true → is_durable e ≡ false
memory-live e t = by e.mark refl
  where
    by : (m : Mark) → e.mark ≡ m → is_durable e ≡ false
    by Memory s = ap (λ k. elim k [ Memory ↦ false | Flight ↦ false | Durable ↦ true ]) s
    by Flight s = ap (λ k. elim k [ Memory ↦ false | Flight ↦ false | Durable ↦ true ]) s
    by Durable s = let u : is_memory e ≡ false = ap marks_memory s in absurd (both_ways _ u t)

memory-mark : (e : Entry) → is_memory e ≡ true → e.mark ≡ Memory
memory-mark e t = by e.mark refl
  where
    by : (m : Mark) → e.mark ≡ m → e.mark ≡ Memory
    by Memory s = s
    by Flight s = let u : is_memory e ≡ false = ap marks_memory s in absurd (both_ways _ u t)
    by Durable s = let u : is_memory e ≡ false = ap marks_memory s in absurd (both_ways _ u t)

touch-swap : (all : List Entry) (a b : ℕ) → touch all a b ≡ true → touch all b a ≡ true
touch-swap all a b t =
    let e = list_any-at (λ e. e.class == a && list_any (λ f. f.class == b && nat_le e.patch.start (end f.patch) && nat_le f.patch.start (end e.patch)) all) all t in
    let e2 = and_parts (e.0.class == a) (list_any (λ f. f.class == b && nat_le e.0.patch.start (end f.patch) && nat_le f.patch.start (end e.0.patch)) all) e.2 in
    let f = list_any-at (λ f. f.class == b && nat_le e.0.patch.start (end f.patch) && nat_le f.patch.start (end e.0.patch)) all e2.1 in
    let f2 = and_parts (f.0.class == b && nat_le e.0.patch.start (end f.0.patch)) (nat_le f.0.patch.start (end e.0.patch)) f.2 in
    let f3 = and_parts (f.0.class == b) (nat_le e.0.patch.start (end f.0.patch)) f2.0 in
    list_any-from (λ f. f.class == b && list_any (λ e. e.class == a && nat_le f.patch.start (end e.patch) && nat_le e.patch.start (end f.patch)) all) all f.0 f.1
    (and_from _ _ f3.0 (list_any-from (λ e. e.class == a && nat_le f.0.patch.start (end e.patch) && nat_le e.patch.start (end f.0.patch)) all e.0 e.1 (and_from _ _ (and_from _ _ e2.0 f2.1) f3.1)))

legal-swap : (all : List Entry) (a b : ℕ) → IsLegalMerge all a b → IsLegalMerge all b a
legal-swap all a b l = record {
  undoable_a = l.undoable_b;
  undoable_b = l.undoable_a;
  two = λ e. l.two (sym e);
  one_block = sym l.one_block;
  near = touch-swap all (class_of all a) (class_of all b) l.near;
  none_between = λ c w. l.none_between c (elim w [ inl x ↦ inr x | inr x ↦ inl x ]);
}

joined-swap : (x y : ℕ) (e : Entry) → joined x y e ≡ joined y x e
joined-swap x y e =
    let m : min x y ≡ min y x = omega arith in
    elim (cases_Bool (e.class == x)) [
      | inl t ↦ elim (cases_Bool (e.class == y)) [ inl u ↦ rw (t, u) (ap (λ n. record e { class = n }) m) | inr u ↦ rw (t, u) (ap (λ n. record e { class = n }) m) ]
      | inr t ↦ elim (cases_Bool (e.class == y)) [ inl u ↦ rw (t, u) (ap (λ n. record e { class = n }) m) | inr u ↦ rw (t, u) refl ]
    ]

map-swap : (x y : ℕ) (es : List Entry) → map (joined x y) es ≡ map (joined y x) es
map-swap x y [] = refl
map-swap x y (e ∷ es) = let h = joined-swap x y e in let t = map-swap x y es in ap (λ z. z ∷ map (joined x y) es) h ∙ ap (λ zs. joined y x e ∷ zs) t

module _ (g : Graph) (all : List Entry) (r : IsGraphOf g all) where
  -- the class of an undoable patch
  undoable : (n key : ℕ) → is_undoable_at all n ≡ true → find g.numbers n ≡ Some key
      → (c : Class) × (class_at g.slots key ≡ Some c) × (c.name ≡ class_of all n) × (c.mark ≡ Memory) × (c.hard ≡ false) × (c.block ≡ block_of_patch all n)
  undoable n key t there = by (slice_get all n) refl
    where
      by : (o : Option Entry) → slice_get all n ≡ o → (c : Class) × (class_at g.slots key ≡ Some c) × (c.name ≡ class_of all n) × (c.mark ≡ Memory) × (c.hard ≡ false) × (c.block ≡ block_of_patch all n)
      by None at = let u : is_undoable_at all n ≡ false = ap (λ o. elim o [ Some e ↦ is_undoable e | None ↦ false ]) at in absurd (both_ways _ u t)
      by (Some e) at =
          let u : is_undoable e ≡ true = sym (ap (λ o. elim o [ Some e ↦ is_undoable e | None ↦ false ]) at) ∙ t in
          let parts = and_parts (is_memory e) (not e.hard) u in
          let i = slice_get-In all n e at in
          let place : e.patch.no ≡ 0 + n = place-is all 0 n e (known g all r).rising (λ x j. omega arith) (λ x j. let b = (known g all r).numbered x j in omega arith) at in
          let no_is : e.patch.no ≡ n = omega arith in
          let p = placed g all r e key i (ap (find g.numbers) no_is ∙ there) in
          let l = (r.classes key p.0 p.1).looks e i (sym p.2) in (
            p.0,
            p.1,
            p.2 ∙ sym (ap (λ o. elim o [ Some e ↦ e.class | None ↦ n ]) at),
            sym l.0 ∙ memory-mark e parts.0,
            sym l.2 ∙ not-true _ parts.1,
            sym l.1 ∙ sym (ap (λ o. elim o [ Some e ↦ e.patch.block | None ↦ 0 ]) at),
          )

  -- an undoable patch is live
  undoable-found : (n : ℕ) → is_undoable_at all n ≡ true → find g.numbers n ≡ None → ⊥
  undoable-found n t none = by (slice_get all n) refl
    where
      by : (o : Option Entry) → slice_get all n ≡ o → ⊥
      by None at = let u : is_undoable_at all n ≡ false = ap (λ o. elim o [ Some e ↦ is_undoable e | None ↦ false ]) at in both_ways _ u t
      by (Some e) at =
          let u : is_undoable e ≡ true = sym (ap (λ o. elim o [ Some e ↦ is_undoable e | None ↦ false ]) at) ∙ t in
          let parts = and_parts (is_memory e) (not e.hard) u in
          let i = slice_get-In all n e at in
          let place : e.patch.no ≡ 0 + n = place-is all 0 n e (known g all r).rising (λ x j. omega arith) (λ x j. let b = (known g all r).numbered x j in omega arith) at in
          let no_is : e.patch.no ≡ n = omega arith in
          let f = r.found e i (memory-live e parts.0) in
          let hit : find g.numbers n ≡ Some f.0 = subst (λ m. find g.numbers m ≡ Some f.0) no_is f.2 in
          absurd (cc)

  pub not-found : (a b : ℕ) → IsLegalMerge all a b → (find g.numbers a ≡ None) ⊎ (find g.numbers b ≡ None) → ⊥
  not-found a b l (inl none) = undoable-found a l.undoable_a none
  not-found a b l (inr none) = undoable-found b l.undoable_b none

  module _ (new : Graph) (made : new.made ≡ g.made) (tops : new.tops ≡ g.tops) where
    pub merges-to : (keep gone a b : ℕ) (name : Option ℕ) → IsLegalMerge all a b → find g.numbers a ≡ Some keep → find g.numbers b ≡ Some gone → HasJoined keep gone g new
        → name ≡ option_map (λ c. c.name) (class_at new.slots keep) → IsOrderly (merged all a b)
        → IsGraphOf new (merged all a b) × (name ≡ Some (merged_name all a b))
    merges-to keep gone a b name l fa fb j named o =
        let x = undoable a keep l.undoable_a fa in
        let y = undoable b gone l.undoable_b fb in
        let differ : keep ≢ gone = λ e. l.two (sym x.2 ∙ ap (λ z. z.name) (same_class x.0 y.0 (sym x.1 ∙ ap (class_at g.slots) e ∙ y.1)) ∙ y.2) in
        let is = j x.0 y.0 differ x.1 y.1 (and_from _ _ (and_from _ _ (ap marks_memory x.3) (ap marks_memory y.3)) (eq-eqb x.0.block y.0.block (x.5 ∙ l.one_block ∙ sym y.5))) in
        let t = l.near in
        let e = list_any-at (λ e. e.class == class_of all a && list_any (λ f. f.class == class_of all b && nat_le e.patch.start (end f.patch) && nat_le f.patch.start (end e.patch)) all) all t in
        let e2 = and_parts (e.0.class == class_of all a) (list_any (λ f. f.class == class_of all b && nat_le e.0.patch.start (end f.patch) && nat_le f.patch.start (end e.0.patch)) all) e.2 in
        let f = list_any-at (λ f. f.class == class_of all b && nat_le e.0.patch.start (end f.patch) && nat_le f.patch.start (end e.0.patch)) all e2.1 in
        let f2 = and_parts (f.0.class == class_of all b && nat_le e.0.patch.start (end f.0.patch)) (nat_le f.0.patch.start (end e.0.patch)) f.2 in
        let f3 = and_parts (f.0.class == class_of all b) (nat_le e.0.patch.start (end f.0.patch)) f2.0 in
        let may : MayMerge all x.0 y.0 = record {
          block = y.5 ∙ sym l.one_block ∙ sym x.5;
          mark = y.3 ∙ sym x.3;
          hard = y.4 ∙ sym x.4;
          e = e.0;
          f = f.0;
          in_e = e.1;
          in_f = f.1;
          of_c = eqb-true e.0.class (class_of all a) e2.0 ∙ sym x.2;
          of_d = eqb-true f.0.class (class_of all b) f3.0 ∙ sym y.2;
          e_begins = leb-true e.0.patch.start (end f.0.patch) f3.1;
          f_begins = leb-true f.0.patch.start (end e.0.patch) f2.1;
        } in
        let lists : map (joined x.0.name y.0.name) all ≡ map (joined (class_of all a) (class_of all b)) all = ap (λ n. map (joined n y.0.name) all) x.2 ∙ ap (λ n. map (joined (class_of all a) n) all) y.2 in
        let m = merges g.made g.tops keep gone x.0 y.0 g.slots new.slots g.numbers new.numbers all r differ x.1 y.1 may is (subst IsOrderly (sym lists) o) in (
          subst (IsGraphOf new) lists (subst (λ n. IsGraphOf (record { made = n; slots = new.slots; numbers = new.numbers; tops = new.tops }) (map (joined x.0.name y.0.name) all)) (sym made)
              (subst (λ t. IsGraphOf (record { made = g.made; slots = new.slots; numbers = new.numbers; tops = t }) (map (joined x.0.name y.0.name) all)) (sym tops) m)),
          named ∙ ap (option_map (λ c. c.name)) is.here ∙ ap (λ n. Some (min n y.0.name)) x.2 ∙ ap (λ n. Some (min (class_of all a) n)) y.2,
        )
      where
        same_class : (c d : Class) → ◌≡◌ {A = Option Class} (Some c) (Some d) → c ≡ d
        same_class c d e = cc

    pub merges-swapped : (keep gone a b : ℕ) (name : Option ℕ) → IsLegalMerge all a b → find g.numbers a ≡ Some gone → find g.numbers b ≡ Some keep → HasJoined keep gone g new
        → name ≡ option_map (λ c. c.name) (class_at new.slots keep) → IsOrderly (merged all a b)
        → IsGraphOf new (merged all a b) × (name ≡ Some (merged_name all a b))
    merges-swapped keep gone a b name l fa fb j named o =
        let lists = map-swap (class_of all b) (class_of all a) all in
        let m = merges-to keep gone b a name (legal-swap all a b l) fb fa j named (subst IsOrderly (sym lists) o) in
        let least : min (class_of all b) (class_of all a) ≡ min (class_of all a) (class_of all b) = omega arith in
        (subst (IsGraphOf new) lists m.0, m.1 ∙ ap (λ n. Some n) least)
