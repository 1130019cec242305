use Rattle.std.proofs.Common.{◌≡◌, ℕ, ◌<◌, ◌≤◌, ◌∙◌, map, sym, ap, subst}
use Rattle.std.specs.Prelude.{IfSome, option_map}
use Rattle.patch_frame.specs.declared.geometries.Geometry.{Geometry}
use Rattle.patch_frame.specs.Geometry.{IsFormat, largest_pointer}
use Rattle.patch_plans.specs.Extents.{offset_at}
use Rattle.patch_history.specs.Shelf.{Shelf}
use Rattle.patch_store.specs.Trials.{extent_of}
use Rattle.patch_store.proofs.Placing.{small_extents}
use Rattle.patch_store.proofs.Tried.{IsCurrentOf, trial_of}
use Rattle.patch_store.proofs.trials.Trial.of.Goals as goal
use Rattle.patch_store.proofs.trials.Trial.of.Goals.{in-Some, in-None}

pub pointer-offset-requires : goal.pointer-offset-requires
pointer-offset-requires g c = subst (λ o. IfSome o (λ e. e < c.store.inside.extents.geometry.extents)) c.in-Some.is c.store.invariant.1.current

pub largest_pointer-requires : goal.largest_pointer-requires
largest_pointer-requires g c = subst (λ (x : Geometry). IsFormat x.format) (sym c.store.invariant.0) c.store.invariant.1.geometry.format

pub invariant_of-result : goal.invariant_of-result
invariant_of-result g c = record {
  short = subst (λ n. n ≤ 262144) (sym c.largest_pointer.ensures)
      (small_extents c.store.inside.geometry.format (subst (λ (x : Geometry). IsFormat x.format) (sym c.store.invariant.0) c.store.invariant.1.geometry.format));
}

pub returns : goal.returns
returns g c h was =
    let s : Shelf = record {
      extents = c.store.inside.extents;
      slots = c.store.inside.index;
      current = c.store.inside.current;
      last_delete = c.store.inside.last_delete;
      upgrade = c.store.inside.upgrade;
      left = map (λ v. v.items) c.store.inside.left.items;
    } in
    let known : IsCurrentOf s c.match-store.current = elim c.match-store.branch [
      | in-Some w ↦ (
        ap (option_map extent_of) w.current-is ∙ sym w.in-Some.is,
        subst (λ t. IfSome t (λ f. (f.extent < s.extents.geometry.extents) × (f.offset ≡ offset_at s.extents f.extent))) (sym w.current-is)
            (subst (λ o. IfSome o (λ e. e < s.extents.geometry.extents)) w.in-Some.is c.store.invariant.1.current, ap (λ (p : ℕ × ℕ). p.1) w.pointer-offset.ensures),
      )
      | in-None w ↦ (
        ap (option_map extent_of) w.current-is ∙ sym w.in-None.is,
        subst (λ t. IfSome t (λ f. (f.extent < s.extents.geometry.extents) × (f.offset ≡ offset_at s.extents f.extent))) (sym w.current-is) tt,
      )
    ] in
    trial_of c.shelves_are_kept.ensures c.histories_are_of_stores.ensures.agree h _ c.args.store.now _ c.store.view_is
    (c.largest_pointer.ensures ∙ ap (λ (x : Geometry). largest_pointer x.format) c.store.invariant.0) known c.empty_extents.ensures was
