use Rattle.std.proofs.Common.{◌<◌, ◌∙◌, [], length, sym, ap, subst}
use Rattle.std.specs.Prelude.{IfSome}
use Rattle.std.proofs.lemmas.List.{length-replicate}
use Rattle.patch_frame.specs.declared.geometries.Geometry.{Geometry}
use Rattle.patch_frame.specs.Geometry.{IsGeometry, slot_count}
use Rattle.patch_store.proofs.opening.Disk.into_store.Goals as goal

pub invariant_of-result : goal.invariant_of-result
invariant_of-result g c =
    let back = sym c.requires.divided in (
      back,
      record {
        geometry = subst IsGeometry back c.requires.valid;
        slots = c.requires.slots ∙ ap slot_count back;
        left = ap length c.requires.left ∙ length-replicate c.args.self.geometry.extents [] ∙ ap (λ (x : Geometry). x.extents) back;
        current = subst (λ (x : Geometry). IfSome c.first_open-current.result (λ e. e < x.extents)) back c.first_open-current.ensures.known;
      },
    )
