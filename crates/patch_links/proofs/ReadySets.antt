-- The ready set of a block.
use Rattle.std.proofs.Common.{◌≡◌, ℕ, zero, suc, ◌+◌, ◌≤◌, ◌⊎◌, ◌∙◌, inl, inr, Bool, true, false, List, [], ◌∷◌, ◌++◌, length, refl, sym, ap, arith, subst, Option, Some, None}
use Rattle.std.specs.Prelude.{◌==◌, ◌&&◌, ◌≢◌, not, if◌then◌else◌}
use Rattle.std.specs.Option.{option_map, option_map_or}
use Rattle.std.proofs.lemmas.Bool.{cases_Bool, cases_eq, and_parts, and_from, both_ways, eqb-true, eq-eqb, ne_eqb, false_from_ne_true, true_from_ne_false}
use Rattle.std.proofs.lemmas.List.Sums.{count_by-le-length}
use Rattle.patch_model.specs.Entry.{is_among, marks_memory}
use Rattle.patch_model.specs.Member.{In, among-In, In-among, list_any-at, list_any-from, list_all-at, list_all-from}
use Rattle.patch_links.specs.State.{Class, Node, Nodes, Slots, Numbers, find, class_at, slots_of, leads_at, leads, node_at, is_at}
use Rattle.patch_links.specs.Waiting.{of_block, ready_in, is_due, is_unmet}
use Rattle.patch_links.specs.Lists.{Blocks, of_at, times, once, due_in}
use Rattle.patch_links.specs.Invariants.{has_member, Stands}
use Rattle.patch_links.specs.Ready.{is_candidate, picks, is_met_at, is_met, AreMet, IsWithin, Escapes, out, on, Chain, one, onward, HasNoRing, IsReadySet, AreReady, TellsReady, TellsEmpty, members_at, gathered, IsArranged}
use Rattle.patch_links.proofs.Counts.{count-cons, count-zero, count-some, once-most}
use Rattle.patch_links.proofs.Places.{cases_option, is-at, at-is, slots-at, count-key, fits}
use Rattle.patch_links.proofs.Launching.{settled-holds, among-is}
use Rattle.patch_links.specs.MarkFlight.{flown, AreFlown, HasFlown}
use Rattle.patch_links.proofs.Landings.{ready-due, leads-key, some-class}

Chain-append : (slots : Slots) (numbers : Numbers) (a b c : ℕ) → Chain slots numbers a b → Chain slots numbers b c → Chain slots numbers a c
Chain-append slots numbers a b c (one x at d led) q = onward x at d led q
Chain-append slots numbers a b c (onward {j = j} x at d led p) q = onward x at d led (Chain-append slots numbers j b c p q)

pub no-key : (ks : List ℕ) (k : ℕ) → (length ks == 0) ≡ true → is_among ks k ≡ false
no-key [] k t = refl
no-key (j ∷ ks) k t = let z : length (j ∷ ks) ≡ 0 = eqb-true (length (j ∷ ks)) 0 t in absurd (omega arith)

pub some-key : (ks : List ℕ) → (length ks == 0) ≡ false → (k : ℕ) × (is_among ks k ≡ true)
some-key [] t = absurd (cc)
some-key (j ∷ ks) t = (j, In-among (j ∷ ks) j (inl refl))

-- what escapes from a set is in no met set within it
escapes-out : (slots : Slots) (numbers : Numbers) (start other : ℕ → Bool) (k : ℕ) → IsWithin other start → AreMet slots numbers other → Escapes slots numbers start k → other k ≡ true → ⊥
escapes-out slots numbers start other k within met e t = by k e t
  where
    onwards : (i j : ℕ) (c : Class) → class_at slots i ≡ Some c → leads numbers c j ≡ true → other i ≡ true → other j ≡ true
    onwards i j c at led u =
        let n = list_any-at (leads_at numbers j) c.after led in
        let m = list_all-at (is_met_at numbers other) c.after n.0 (met i c at u) n.1 in
        sym (ap (λ o. option_map_or other o true) (leads-key numbers j n.0 n.2)) ∙ m

    by : (i : ℕ) → Escapes slots numbers start i → other i ≡ true → ⊥
    by i (out {j = j} c at led off) u = both_ways _ off (within j (onwards i j c at led u))
    by i (on {j = j} c at led rest) u = by j rest (onwards i j c at led u)

module _ (block : ℕ) (nodes : Nodes) (numbers : Numbers) (blocks : Blocks) (s : Stands nodes numbers blocks) where
  abbrev set : ℕ → Bool
  set = is_at (ready_in block) nodes

  abbrev slots : Slots
  slots = slots_of nodes

  ready-is-due : (k : ℕ) → is_at (due_in block) nodes k ≡ set k
  ready-is-due k = elim (cases_Bool (set k)) [
    | inl t ↦ ready-due block nodes (of_at blocks block) k (s.listed block) (s.settled block) t ∙ sym t
    | inr t ↦ false_from_ne_true _ (λ u.
        let a = settled-holds block nodes (of_at blocks block) (s.listed block) (s.settled block) k in
        let b = (s.listed block).due k in
        let c : once (is_at (due_in block) nodes k) ≡ 1 = ap once u in
        let d : once (set k) ≡ 0 = ap once t in absurd (omega arith)) ∙ sym t
  ]

  pub in-list : (k : ℕ) → is_among (of_at blocks block).ready k ≡ set k
  in-list k = among-is (due_in block) nodes (of_at blocks block).ready (s.listed block).due k ∙ ready-is-due k

  candidate : (k : ℕ) (x : Node) → node_at nodes k ≡ Some x → picks slots block k ≡ (marks_memory x.class.mark && x.class.block == block)
  candidate k x at = ap (λ o. option_map_or (is_candidate block) o false) (slots-at nodes k ∙ ap (option_map (λ z. z.class)) at)

  -- a class of the ready set, as it is known
  pub ready-node : (k : ℕ) → set k ≡ true → (x : Node) × (node_at nodes k ≡ Some x) × (x.class.block ≡ block) × (marks_memory x.class.mark ≡ true) × (x.waits ≡ 0)
  ready-node k t =
      let x = at-is (due_in block) nodes k (ready-is-due k ∙ t) in
      let a = and_parts (x.0.class.block == block) (is_due x.0) x.2 in
      let b = and_parts (marks_memory x.0.class.mark) (x.0.waits == 0) a.1 in
      (x.0, x.1, eqb-true x.0.class.block block a.0, b.0, eqb-true x.0.waits 0 b.1)

  inside : IsWithin set (picks slots block)
  inside k t = let x = ready-node k t in candidate k x.0 x.1 ∙ and_from _ _ x.3 (eq-eqb x.0.class.block block x.2)

  met : AreMet slots numbers set
  met k c at t =
      let x = ready-node k t in
      let same : x.0.class ≡ c = ap (λ o. option_map_or (λ z. z) o c) (sym (slots-at nodes k ∙ ap (option_map (λ z. z.class)) x.1) ∙ at) in
      subst (λ z. is_met numbers set z ≡ true) same (list_all-from (is_met_at numbers set) x.0.class.after (λ n i.
      let w = s.counted k x.0 x.1 in
      let w0 = x.4 in
      let none = count-zero (is_unmet nodes numbers k x.0.class.block) x.0.class.after n (omega arith) i in
      by k t x.0 x.2 (find numbers n) none))
    where
      by : (k : ℕ) → set k ≡ true → (x : Node) → x.class.block ≡ block → (o : Option ℕ)
          → option_map_or (λ j. not (j == k) && not (is_at (ready_in x.class.block) nodes j)) o false ≡ false → option_map_or set o true ≡ true
      by k t x here None none = refl
      by k t x here (Some j) none = true_from_ne_false _ (λ off. elim (cases_eq j k) [
        | inl e ↦ both_ways _ off (ap set e ∙ t)
        | inr d ↦ both_ways _ none (and_from _ _ (ap not (ne_eqb j k d)) (ap (λ b. not (is_at (ready_in b) nodes j)) here ∙ ap not off))
      ])

  -- what keeps a class out
  step : (k : ℕ) → picks slots block k ≡ true → set k ≡ false → (j : ℕ) × (c : Class) × (class_at slots k ≡ Some c) × (k ≢ j) × (leads numbers c j ≡ true) × (set j ≡ false)
  step k t off = elim (cases_option (node_at nodes k)) [
    | inl none ↦ absurd (both_ways _ (ap (λ o. option_map_or (is_candidate block) o false) (slots-at nodes k ∙ ap (option_map (λ z. z.class)) none)) t)
    | inr x ↦
        let parts = and_parts (marks_memory x.0.class.mark) (x.0.class.block == block) (sym (candidate k x.0 x.1) ∙ t) in
        let here : x.0.class.block ≡ block = eqb-true x.0.class.block block parts.1 in
        let some : x.0.waits ≢ 0 = λ e. both_ways _ (ready-is-due k ∙ off) (is-at (due_in block) nodes k x.0 x.1 ∙ and_from _ _ parts.1 (and_from _ _ parts.0 (eq-eqb x.0.waits 0 e))) in
        let w = s.counted k x.0 x.1 in
        let r = count-some (is_unmet nodes numbers k x.0.class.block) x.0.class.after (omega arith) in
        let j = by k x.0 here (find numbers r.0) r.2 in (
          j.0,
          x.0.class,
          slots-at nodes k ∙ ap (option_map (λ z. z.class)) x.1,
          j.2,
          list_any-from (leads_at numbers j.0) x.0.class.after r.0 r.1 (ap (λ o. option_map_or (λ i. i == j.0) o false) j.1 ∙ eq-eqb j.0 j.0 refl),
          j.3,
        )
  ]
    where
      by : (i : ℕ) (x : Node) → x.class.block ≡ block → (o : Option ℕ) → option_map_or (λ j. not (j == i) && not (is_at (ready_in x.class.block) nodes j)) o false ≡ true
          → (j : ℕ) × (o ≡ Some j) × (i ≢ j) × (set j ≡ false)
      by i x here None u = absurd (cc)
      by i x here (Some j) u =
          let p = and_parts (not (j == i)) (not (is_at (ready_in x.class.block) nodes j)) u in
          (j, refl, λ e. both_ways _ (ap not (eq-eqb j i (sym e))) p.0, false_from_ne_true _ (λ v. both_ways _ (ap not (ap (λ b. is_at (ready_in b) nodes j) here ∙ v)) p.1))

  abbrev any_node : Node → Bool
  any_node x = true

  some-node : (k : ℕ) → picks slots block k ≡ true → is_at any_node nodes k ≡ true
  some-node k u = elim (cases_option (node_at nodes k)) [
    | inl none ↦ absurd (both_ways _ (ap (λ o. option_map_or (is_candidate block) o false) (slots-at nodes k ∙ ap (option_map (λ z. z.class)) none)) u)
    | inr x ↦ is-at any_node nodes k x.0 x.1
  ]

  times-out : (visited : List ℕ) (v : ℕ) → (In visited v → ⊥) → times visited v ≡ 0
  times-out [] v none = refl
  times-out (x ∷ visited) v none =
      let a = count-cons (λ i. i == v) x visited in
      let b : once (x == v) ≡ 0 = ap once (ne_eqb x v (λ e. none (inl e))) in
      let c = times-out visited v (λ i. none (inr i)) in omega arith

  -- one more class was met, none twice
  met-once : HasNoRing slots numbers → (visited : List ℕ) (k : ℕ) → ((v : ℕ) → times visited v ≤ once (is_at any_node nodes v)) → ((v : ℕ) → In visited v → Chain slots numbers v k)
      → picks slots block k ≡ true → (v : ℕ) → times (k ∷ visited) v ≤ once (is_at any_node nodes v)
  met-once free visited k apart chains t v = elim (cases_eq v k) [
    | inl e ↦
        let a = count-cons (λ i. i == v) k visited in
        let none : times visited v ≡ 0 = times-out visited v (λ i. free k (subst (λ w. Chain slots numbers w k) e (chains v i))) in
        let m = once-most (k == v) in
        let there : once (is_at any_node nodes v) ≡ 1 = ap once (ap (is_at any_node nodes) e ∙ some-node k t) in omega arith
    | inr d ↦
        let a = count-cons (λ i. i == v) k visited in
        let z : once (k == v) ≡ 0 = ap once (ne_eqb k v (λ e. d (sym e))) in
        let h = apart v in omega arith
  ]

  chains-on : (visited : List ℕ) (k j : ℕ) → ((v : ℕ) → In visited v → Chain slots numbers v k) → Chain slots numbers k j → (v : ℕ) → In (k ∷ visited) v → Chain slots numbers v j
  chains-on visited k j chains link v (inl e) = subst (λ w. Chain slots numbers w j) e link
  chains-on visited k j chains link v (inr i) = Chain-append slots numbers v k j (chains v i) link

  -- a chain of what keeps a class out ends, since none is met twice
  walk : HasNoRing slots numbers → (fuel : ℕ) (visited : List ℕ) (k : ℕ) → length visited + fuel ≡ length nodes → ((v : ℕ) → times visited v ≤ once (is_at any_node nodes v))
      → ((v : ℕ) → In visited v → Chain slots numbers v k) → picks slots block k ≡ true → set k ≡ false → Escapes slots numbers (picks slots block) k
  walk free zero visited k long apart chains t off =
      let most = fits any_node (k ∷ visited) nodes (met-once free visited k apart chains t) in
      let all = count_by-le-length (λ o. option_map_or any_node o false) nodes in absurd (omega arith)
  walk free (suc fuel) visited k long apart chains t off =
      let next = step k t off in
      elim (cases_Bool (picks slots block next.0)) [
        | inr u ↦ out next.1 next.2 next.4 u
        | inl u ↦ on next.1 next.2 next.4 (walk free fuel (k ∷ visited) next.0 (omega arith) (met-once free visited k apart chains t)
            (chains-on visited k next.0 chains (one next.1 next.2 next.3 next.4)) u next.5)
      ]

  escapes : HasNoRing slots numbers → (k : ℕ) → picks slots block k ≡ true → set k ≡ false → Escapes slots numbers (picks slots block) k
  escapes free k t off =
      let long : length {A = ℕ} [] + length nodes ≡ length nodes = omega arith in
      walk free (length nodes) [] k long (λ v. omega arith) (λ v i. absurd i) t off

  pub ready-set : IsReadySet slots numbers block set
  ready-set = record {
    inside = inside;
    met = met;
    largest = λ free. record {
      inside = inside;
      met = met;
      escapes = escapes free;
      largest = λ other within others k t. true_from_ne_false _ (λ off. escapes-out slots numbers (picks slots block) other k within others (escapes free k (within k t) off) t);
    };
  }

  In-gathered : (n : ℕ) (keys : List ℕ) → In (gathered nodes keys) n → (k : ℕ) × In keys k × In (members_at nodes k) n
  In-gathered n [] i = absurd i
  In-gathered n (k ∷ keys) i = elim (In-append (members_at nodes k) (gathered nodes keys) n i) [
    | inl h ↦ (k, inl refl, h)
    | inr h ↦ let r = In-gathered n keys h in (r.0, inr r.1, r.2)
  ]
    where
      In-append : (xs ys : List ℕ) (m : ℕ) → In (xs ++ ys) m → In xs m ⊎ In ys m
      In-append [] ys m h = inr h
      In-append (x ∷ xs) ys m (inl e) = inl (inl e)
      In-append (x ∷ xs) ys m (inr h) = elim (In-append xs ys m h) [ inl g ↦ inl (inr g) | inr g ↦ inr g ]

  gathered-In : (n k : ℕ) (keys : List ℕ) → In keys k → In (members_at nodes k) n → In (gathered nodes keys) n
  gathered-In n k [] i m = absurd i
  gathered-In n k (j ∷ keys) (inl e) m = left (members_at nodes j) (gathered nodes keys) n (subst (λ i. In (members_at nodes i) n) (sym e) m)
    where
      left : (xs ys : List ℕ) (m2 : ℕ) → In xs m2 → In (xs ++ ys) m2
      left [] ys m2 h = absurd h
      left (x ∷ xs) ys m2 (inl e2) = inl e2
      left (x ∷ xs) ys m2 (inr h) = inr (left xs ys m2 h)
  gathered-In n k (j ∷ keys) (inr i) m = right (members_at nodes j) (gathered nodes keys) n (gathered-In n k keys i m)
    where
      right : (xs ys : List ℕ) (m2 : ℕ) → In ys m2 → In (xs ++ ys) m2
      right [] ys m2 h = h
      right (x ∷ xs) ys m2 h = inr (right xs ys m2 h)

  pub are-ready : (all : List ℕ) → IsArranged (gathered nodes (of_at blocks block).ready) all → AreReady slots numbers block all
  are-ready all a = record {
    set = set;
    is = ready-set;
    rising = a.rising;
    just = λ n. elim (cases_Bool (is_among all n)) [
      | inl t ↦
          let r = In-gathered n (of_at blocks block).ready (a.no_more n (among-In all n t)) in
          let on : set r.0 ≡ true = sym (in-list r.0) ∙ In-among (of_at blocks block).ready r.0 r.1 in
          let x = ready-node r.0 on in
          let member : is_at (has_member n) nodes r.0 ≡ true = is-at (has_member n) nodes r.0 x.0 x.1
          ∙ In-among x.0.class.members n (subst (λ ns. In ns n) (ap (λ o. option_map_or (λ z. z.class.members) o []) x.1) r.2) in
          let at = leads-key numbers r.0 n (s.members n r.0 ∙ member) in
          t ∙ sym (ap (λ o. option_map_or set o false) at ∙ on)
      | inr t ↦ t ∙ sym (false_from_ne_true _ (λ u. both_ways _ t (In-among all n (a.kept n (there n u)))))
    ];
  }
    where
      there : (n : ℕ) → option_map_or set (find numbers n) false ≡ true → In (gathered nodes (of_at blocks block).ready) n
      there n u = elim (cases_option (find numbers n)) [
        | inl none ↦ absurd (both_ways _ (ap (λ o. option_map_or set o false) none) u)
        | inr k ↦
            let on : set k.0 ≡ true = sym (ap (λ o. option_map_or set o false) k.1) ∙ u in
            let x = at-is (has_member n) nodes k.0 (sym (s.members n k.0) ∙ ap (λ o. option_map_or (λ j. j == k.0) o false) k.1 ∙ eq-eqb k.0 k.0 refl) in
            gathered-In n k.0 (of_at blocks block).ready (among-In (of_at blocks block).ready k.0 (in-list k.0 ∙ on))
            (subst (λ ns. In ns n) (sym (ap (λ o. option_map_or (λ z. z.class.members) o []) x.1)) (among-In x.0.class.members n x.2))
      ]

  pub tells-ready : (keys : List ℕ) (empty : Bool) → keys ≡ (of_at blocks block).ready → empty ≡ (length keys == 0) → TellsReady slots numbers block (not empty)
  tells-ready keys empty is e = record {
    set = set;
    is = ready-set;
    none = λ t k. sym (in-list k) ∙ ap (λ ks. is_among ks k) (sym is) ∙ no-key keys k (elim (cases_Bool empty) [ inl u ↦ sym e ∙ u | inr u ↦ absurd (both_ways _ t (ap not u)) ]);
    some = λ t. let k = some-key keys (elim (cases_Bool empty) [ inl u ↦ absurd (both_ways _ (ap not u) t) | inr u ↦ sym e ∙ u ]) in (k.0, sym (in-list k.0) ∙ ap (λ ks. is_among ks k.0) (sym is) ∙ k.1);
  }

  pub tells-empty : (count : ℕ) → count ≡ (of_at blocks block).count → TellsEmpty slots block (count == 0)
  tells-empty count is = record {
    none = λ t key c at e.
        let none : count ≡ 0 = eqb-true count 0 t in
        let l = (s.listed block).counted in
        elim (cases_option (node_at nodes key)) [
          | inl gone ↦ let z : class_at slots key ≡ None = slots-at nodes key ∙ ap (option_map (λ z. z.class)) gone in absurd (cc)
          | inr x ↦
              let same : x.0.class ≡ c = ap (λ o. option_map_or (λ z. z) o c) (sym (slots-at nodes key ∙ ap (option_map (λ z. z.class)) x.1) ∙ at) in
              let some = some-class block key nodes (is-at (of_block block) nodes key x.0 x.1 ∙ eq-eqb x.0.class.block block (ap (λ z. z.block) same ∙ e)) in
              absurd (omega arith)
        ];
    some = λ t.
        let some : count ≢ 0 = λ e. both_ways _ t (eq-eqb count 0 e) in
        let l = (s.listed block).counted in
        let k = count-key (of_block block) nodes (omega arith) in
        let x = at-is (of_block block) nodes k.0 k.1 in
        (k.0, x.0.class, slots-at nodes k.0 ∙ ap (option_map (λ z. z.class)) x.1, eqb-true x.0.class.block block x.2);
  }

  pub has-flown : (made next now : ℕ) (new : Nodes) → AreFlown (is_among (of_at blocks block).ready) slots (slots_of new)
      → HasFlown block (record { made = made; slots = slots; next = next; numbers = numbers }) (record { made = made; slots = slots_of new; next = now; numbers = numbers })
  has-flown made next now new f = record {
    set = set;
    is = ready-set;
    flown = λ k. f k ∙ ap (λ b. option_map (λ c. if b then flown c else c) (class_at slots k)) (in-list k);
    numbers = refl;
    made = refl;
  }
