-- Lemmas: the groups before one are those to which a chain of orders leads, and each call keeps it so.
use Rattle.std.proofs.Common.{◌≡◌, ℕ, ◌⊎◌, ◌∙◌, inl, inr, true, List, [], ◌∷◌, ◌++◌, refl, sym, ap, subst, Some, None}
use Rattle.std.specs.Prelude.{Contains}
use Rattle.std.proofs.lemmas.Bool.{both_ways, cases_eq}
use Rattle.patch_model.specs.Member.{In, In-from_Contains, Contains-from_In}
use Rattle.patch_plans.specs.Groups.{Group, Groups, fresh, group_at, before, no_groups, engaged, ordered, closed, with_patch, why_not_ordered, engaged_by}
use Rattle.patch_plans.specs.Chains.{Chain, one, onward}
use Rattle.patch_plans.specs.Members.{In-append_left, In-append_right, append-In, In-rising, rising-In, at_set}
use Rattle.patch_plans.specs.Ordering.{may_order, IsOrdered, ordered_at, on_sealed, now_before, entered_at}

-- the groups before each are those that chains of these orders lead to, and what an order leads to is sealed
pub record AreOrdersOf (orders : List (ℕ × ℕ)) (gs : Groups) : Type 0 where
  pub to : (q p : ℕ) → Contains (before gs q) p → Chain orders q p
  pub from : (q p : ℕ) → Chain orders q p → Contains (before gs q) p
  pub into : (q p : ℕ) → Contains orders (q, p) → (group_at gs p).sealed ≡ true

-- where nothing of the order changes
pub record IsAlike (old new : Group) : Type 0 where
  pub sealed : new.sealed ≡ old.sealed
  pub before : new.before ≡ old.before

pub alike : (orders : List (ℕ × ℕ)) (gs now : Groups) → ((g : ℕ) → IsAlike (group_at gs g) (group_at now g)) → AreOrdersOf orders gs → AreOrdersOf orders now
alike orders gs now at o = record {
  to = λ q p c. o.to q p (subst (λ b. Contains b p) (at q).before c);
  from = λ q p c. subst (λ b. Contains b p) (sym (at q).before) (o.from q p c);
  into = λ q p c. (at p).sealed ∙ o.into q p c;
}

pub same : (g h : Group) → h ≡ g → IsAlike g h
same g h e = record { sealed = ap (λ x. x.sealed) e; before = ap (λ x. x.before) e }

more : (orders : List (ℕ × ℕ)) (next : ℕ × ℕ) (q p : ℕ) → Chain orders q p → Chain (orders ++ next ∷ []) q p
more orders next q p (one c) = one (Contains-from_In _ _ (In-append_left orders (next ∷ []) _ (In-from_Contains _ _ c)))
more orders next q p (onward {r = r} c rest) = onward (Contains-from_In _ _ (In-append_left orders (next ∷ []) _ (In-from_Contains _ _ c))) (more orders next r p rest)

last_one : (orders : List (ℕ × ℕ)) (next x : ℕ × ℕ) → Contains (orders ++ next ∷ []) x → Contains orders x ⊎ (next ≡ x)
last_one orders next x c = elim (append-In orders (next ∷ []) x (In-from_Contains _ _ c)) [
  | inl i ↦ inl (Contains-from_In orders x i)
  | inr i ↦ elim i [ inl e ↦ inr e | inr none ↦ absurd none ]
]

-- a chain that begins elsewhere never comes to the new order, where no order leads to its group
module _ (orders : List (ℕ × ℕ)) (group on : ℕ) (free : (x : ℕ) → Contains orders (x, group) → ⊥) where
  elsewhere : (q p : ℕ) → (q ≡ group → ⊥) → Chain (orders ++ (group, on) ∷ []) q p → Chain orders q p
  elsewhere q p ne (one c) = elim (last_one orders (group, on) (q, p) c) [ inl old ↦ one old | inr e ↦ absurd (ne (sym (ap (λ x. x.0) e))) ]
  elsewhere q p ne (onward {r = r} c rest) = elim (last_one orders (group, on) (q, r) c) [
    | inl old ↦ onward old (elsewhere r p (λ e. free q (subst (λ k. Contains orders (q, k)) e old)) rest)
    | inr e ↦ absurd (ne (sym (ap (λ x. x.0) e)))
  ]

  -- and one that begins there goes the old way, or to the other group and on from there
  pub here : (q p : ℕ) → q ≡ group → (on ≡ group → ⊥) → Chain (orders ++ (group, on) ∷ []) q p → Chain orders q p ⊎ ((on ≡ p) ⊎ Chain orders on p)
  here q p at ne (one c) = elim (last_one orders (group, on) (q, p) c) [ inl old ↦ inl (one old) | inr e ↦ inr (inl (ap (λ x. x.1) e)) ]
  here q p at ne (onward {r = r} c rest) = elim (last_one orders (group, on) (q, r) c) [
    | inl old ↦ inl (onward old (elsewhere r p (λ e. free q (subst (λ k. Contains orders (q, k)) e old)) rest))
    | inr e ↦ let there : on ≡ r = ap (λ x. x.1) e in inr (inr (elsewhere on p ne (subst (λ k. Chain (orders ++ (group, on) ∷ []) k p) (sym there) rest)))
  ]

pub one_more : (orders : List (ℕ × ℕ)) (gs : Groups) (group on : ℕ) → why_not_ordered gs group on ≡ None → AreOrdersOf orders gs → AreOrdersOf (orders ++ (group, on) ∷ []) (ordered gs group on)
one_more orders gs group on none o =
    let may = may_order gs group on none in
    let now = ordered gs group on in
    let later = orders ++ (group, on) ∷ [] in
    let at : (g : ℕ) → IsOrdered gs group on g (group_at now g) = λ g. ordered_at gs group on g may in
    let free : (x : ℕ) → Contains orders (x, group) → ⊥ = λ x c. both_ways _ may.unsealed (o.into x group c) in
    let still : (g : ℕ) → (group_at gs g).sealed ≡ true → (group_at now g).sealed ≡ true = λ g s. elim (at g).sealed [ inl e ↦ e ∙ s | inr e ↦ e.1 ] in
    let new : Contains later (group, on) = Contains-from_In _ _ (In-append_right orders ((group, on) ∷ []) (group, on) (inl refl)) in
    let mine = now_before gs group on may in
    record {
      to = λ q p c. elim (cases_eq q group) [
        | inl e ↦ elim (append-In (before gs group) (on ∷ before gs on) p (rising-In _ p (In-from_Contains _ p (subst (λ b. Contains b p) (ap (λ k. before now k) e ∙ mine) c)))) [
          | inl i ↦ subst (λ k. Chain later k p) (sym e) (more orders (group, on) group p (o.to group p (Contains-from_In _ p i)))
          | inr i ↦ elim i [
            | inl f ↦ subst (λ k. Chain later k p) (sym e) (subst (λ k. Chain later group k) f (one new))
            | inr j ↦ subst (λ k. Chain later k p) (sym e) (onward new (more orders (group, on) on p (o.to on p (Contains-from_In _ p j))))
          ]
        ]
        | inr ne ↦ elim (at q).before [
          | inl f ↦ more orders (group, on) q p (o.to q p (subst (λ b. Contains b p) f c))
          | inr f ↦ absurd (ne f.0)
        ]
      ];
      from = λ q p chain. elim (cases_eq q group) [
        | inl e ↦
            let i : In (before gs group ++ on ∷ before gs on) p = elim (here orders group on free group p refl (λ f. may.two (sym f)) (subst (λ k. Chain later k p) e chain)) [
              | inl old ↦ In-append_left (before gs group) (on ∷ before gs on) p (In-from_Contains _ p (o.from group p old))
              | inr either ↦ elim either [
                | inl f ↦ In-append_right (before gs group) (on ∷ before gs on) p (inl f)
                | inr rest ↦ In-append_right (before gs group) (on ∷ before gs on) p (inr (In-from_Contains _ p (o.from on p rest)))
              ]
            ] in
            subst (λ b. Contains b p) (sym (ap (λ k. before now k) e ∙ mine)) (Contains-from_In _ p (In-rising _ p i))
        | inr ne ↦
            let c = o.from q p (elsewhere orders group on free q p ne chain) in
            elim (at q).before [ inl f ↦ subst (λ b. Contains b p) (sym f) c | inr f ↦ absurd (ne f.0) ]
      ];
      into = λ q p c. elim (last_one orders (group, on) (q, p) c) [
        | inl old ↦ still p (o.into q p old)
        | inr e ↦ ap (λ k. (group_at now k).sealed) (sym (ap (λ x. x.1) e)) ∙ on_sealed gs group on may
      ];
    }

-- no call but an order changes it, and no patch

pub engaged_alike : (gs : Groups) (writer group g : ℕ) → IsAlike (group_at gs g) (group_at (engaged gs writer group) g)
engaged_alike gs writer group g = elim (at_set gs.groups group g (record (group_at gs group) { started = true }) fresh) [
  | inl w ↦ let e = ap (λ k. group_at gs k) (sym w.0) in record { sealed = ap (λ x. x.sealed) w.2 ∙ ap (λ x. x.sealed) e; before = ap (λ x. x.before) w.2 ∙ ap (λ x. x.before) e }
  | inr e ↦ same _ _ e
]

pub closed_alike : (gs : Groups) (group g : ℕ) → IsAlike (group_at gs g) (group_at (closed gs group) g)
closed_alike gs group g = elim (at_set gs.groups group g (record (group_at gs group) { closed = true }) fresh) [
  | inl w ↦ let e = ap (λ k. group_at gs k) (sym w.0) in record { sealed = ap (λ x. x.sealed) w.2 ∙ ap (λ x. x.sealed) e; before = ap (λ x. x.before) w.2 ∙ ap (λ x. x.before) e }
  | inr e ↦ same _ _ e
]

pub entered_alike : (gs : Groups) (writer n g : ℕ) → IsAlike (group_at gs g) (group_at (with_patch gs (Some writer) n) g)
entered_alike gs writer n g = let e = entered_at gs.groups (engaged_by gs writer) n g in record { sealed = e.sealed; before = e.before }

-- With no groups it is so.

no_chain : (q p : ℕ) → Chain [] q p → ⊥
no_chain q p (one c) = absurd (In-from_Contains [] _ c)
no_chain q p (onward c rest) = absurd (In-from_Contains [] _ c)

pub none_ordered : AreOrdersOf [] no_groups
none_ordered = record {
  to = λ q p c. absurd (In-from_Contains [] p c);
  from = λ q p c. absurd (no_chain q p c);
  into = λ q p c. absurd (In-from_Contains [] _ c);
}
