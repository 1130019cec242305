-- No group before another takes a patch: what each call keeps of that.
use Rattle.std.proofs.Common.{◌≡◌, ℕ, ◌∙◌, inl, inr, Bool, true, false, [], ◌∷◌, ◌++◌, filter, refl, sym, ap, subst, Some, None}
use Rattle.std.specs.Prelude.{◌==◌, ◌&&◌, not, Contains}
use Rattle.std.proofs.lemmas.Bool.{eqb-true, both_ways, false_from_ne_true}
use Rattle.patch_model.specs.Member.{In-from_Contains, Contains-from_In, filter-In, list_any-from, list_any-at}
use Rattle.patch_plans.specs.Groups.{Groups, fresh, group_at, before, is_engaged, begun, engaged, disengaged, ordered, closed, with_patch, why_not_engaged, why_not_ordered}
use Rattle.patch_plans.specs.Members.{append-In, rising-In}
use Rattle.patch_plans.specs.Ordering.{none_if, may_order, IsOrdered, ordered_at, on_sealed, get_or-push}
use Rattle.patch_plans.specs.Chaining.{IsAlike, same, engaged_alike, closed_alike, entered_alike}
use Rattle.patch_group.specs.Records.{AreSealed}

-- where nothing of the order changes, only who is engaged has to be looked at
still : (gs now : Groups) → ((g : ℕ) → IsAlike (group_at gs g) (group_at now g)) → ((g : ℕ) → (group_at gs g).sealed ≡ true → is_engaged now g ≡ false) → AreSealed gs → AreSealed now
still gs now at free s = record {
  sealed = λ q p c. (at p).sealed ∙ s.sealed q p (subst (λ b. Contains b p) (at q).before c);
  free = λ g t. free g (sym (at g).sealed ∙ t);
}

pub sealed_begun : (gs : Groups) → AreSealed gs → AreSealed (begun gs)
sealed_begun gs s = still gs (begun gs) (λ g. same _ _ (get_or-push gs.groups g fresh)) s.free s

pub sealed_engaged : (gs : Groups) (writer group : ℕ) → why_not_engaged gs writer group ≡ None → AreSealed gs → AreSealed (engaged gs writer group)
sealed_engaged gs writer group none s =
    let unsealed : (group_at gs group).sealed ≡ false = (none_if _ _ _ (none_if _ _ _ none).1).0 in
    still gs (engaged gs writer group) (engaged_alike gs writer group) (λ g t. false_from_ne_true _ (λ e.
    let r = list_any-at (λ x. x.1 == g) (gs.engaged ++ (writer, group) ∷ []) e in
    elim (append-In gs.engaged ((writer, group) ∷ []) r.0 r.1) [
      | inl i ↦ both_ways _ (s.free g t) (list_any-from (λ x. x.1 == g) gs.engaged r.0 i r.2)
      | inr i ↦ elim i [
        | inl it ↦ both_ways _ unsealed (ap (λ k. (group_at gs k).sealed) (ap (λ x. x.1) it ∙ eqb-true _ _ r.2) ∙ t)
        | inr none ↦ absurd none
      ]
    ])) s

pub sealed_disengaged : (gs : Groups) (writer group : ℕ) → AreSealed gs → AreSealed (disengaged gs writer group)
sealed_disengaged gs writer group s =
    let stays : ℕ × ℕ → Bool = λ e. not (e.0 == writer && e.1 == group) in
    still gs (disengaged gs writer group) (λ g. same _ _ refl) (λ g t. false_from_ne_true _ (λ e.
    let r = list_any-at (λ x. x.1 == g) (filter stays gs.engaged) e in
    both_ways _ (s.free g t) (list_any-from (λ x. x.1 == g) gs.engaged r.0 (filter-In stays gs.engaged r.0 r.1).0 r.2))) s

pub sealed_closed : (gs : Groups) (group : ℕ) → AreSealed gs → AreSealed (closed gs group)
sealed_closed gs group s = still gs (closed gs group) (closed_alike gs group) s.free s

pub sealed_joined : (gs : Groups) (writer n : ℕ) → AreSealed gs → AreSealed (with_patch gs (Some writer) n)
sealed_joined gs writer n s = still gs (with_patch gs (Some writer) n) (entered_alike gs writer n) s.free s

pub sealed_ordered : (gs : Groups) (group on : ℕ) → why_not_ordered gs group on ≡ None → AreSealed gs → AreSealed (ordered gs group on)
sealed_ordered gs group on none s =
    let may = may_order gs group on none in
    let now = ordered gs group on in
    let at : (g : ℕ) → IsOrdered gs group on g (group_at now g) = λ g. ordered_at gs group on g may in
    let more : (g : ℕ) → (group_at gs g).sealed ≡ true → (group_at now g).sealed ≡ true = λ g t. elim (at g).sealed [ inl e ↦ e ∙ t | inr e ↦ e.1 ] in
    record {
      sealed = λ q p c. elim (at q).before [
        | inl e ↦ more p (s.sealed q p (subst (λ b. Contains b p) e c))
        | inr e ↦ elim (append-In (before gs group) (on ∷ before gs on) p (rising-In _ p (In-from_Contains _ p (subst (λ b. Contains b p) e.1 c)))) [
          | inl i ↦ more p (s.sealed group p (Contains-from_In _ p i))
          | inr i ↦ elim i [
            | inl it ↦ ap (λ k. (group_at now k).sealed) (sym it) ∙ on_sealed gs group on may
            | inr j ↦ more p (s.sealed on p (Contains-from_In _ p j))
          ]
        ]
      ];
      free = λ g t. elim (at g).sealed [ inl e ↦ s.free g (sym e ∙ t) | inr e ↦ ap (is_engaged gs) e.0 ∙ may.on_free ];
    }
