use Rattle.std.proofs.Common.{◌≡◌, ◌∙◌, map, length, sym, ap, subst}
use Rattle.std.proofs.lemmas.List.{length-map}
use Rattle.patch_plans.specs.Extents.{Extents, AreWhole, empty_extents}
use Rattle.patch_extent.specs.Renewing.{unpatched, unpatched_extent}
use Rattle.patch_extent.proofs.Renewed.{whole_anew, same_empties, written_over}
use Rattle.patch_extent.proofs.extents.Extents.renew.Goals as goal

pub invariant_of-self : goal.invariant_of-self
invariant_of-self g c =
    let s : Extents = record { geometry = c.self.inside.geometry; each = c.self.inside.each.items } in
    let now = c.forget_patches.ensures ∙ ap (map unpatched_extent) c.as_mut_slice.ensures.value in
    let long = ap length c.forget_patches.ensures ∙ length-map c.as_mut_slice.result.now unpatched_extent ∙ c.as_mut_slice.ensures.len in
    subst (λ each. AreWhole (record s { each = each }) × (c.self.inside.empty ≡ empty_extents (record s { each = each })))
    (sym (written_over c.self.inside.each.len c.forget_patches.new.each c.self.inside.each.items long ∙ now))
    (whole_anew s c.self.invariant.0, c.self.invariant.1 ∙ same_empties s)

pub returns : goal.returns
returns g c =
    let s : Extents = record { geometry = c.self.inside.geometry; each = c.self.inside.each.items } in
    let now = c.forget_patches.ensures ∙ ap (map unpatched_extent) c.as_mut_slice.ensures.value in
    let long = ap length c.forget_patches.ensures ∙ length-map c.as_mut_slice.result.now unpatched_extent ∙ c.as_mut_slice.ensures.len in
    ap (λ each. record s { each = each }) (written_over c.self.inside.each.len c.forget_patches.new.each c.self.inside.each.items long ∙ now)
    ∙ ap unpatched c.self.view_is
