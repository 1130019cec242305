-- Extents that begin anew stay whole.
use Rattle.std.proofs.Common.{◌≡◌, ℕ, List, ◌++◌, ◌∙◌, length, take, drop, sym, ap, subst}
use Rattle.std.specs.Prelude.{◌==◌}
use Rattle.std.proofs.lemmas.List.{length-map}
use Rattle.std.proofs.Math.ListN.{get_or-map}
use Rattle.std.proofs.Math.Seq.{take-append_seam}
use Rattle.patch_frame.specs.declared.pointers.Pointer.{Pointer}
use Rattle.patch_frame.specs.Geometry.{largest_pointer}
use Rattle.patch_frame.specs.Pointer.{Fits}
use Rattle.patch_plans.specs.declared.records.Extent.{Extent}
use Rattle.patch_plans.specs.Extents.{Extents, AreWhole, no_extent, extent_at, offset_at, empty_extents}
use Rattle.patch_extent.specs.Renewing.{unpatched, unpatched_extent}
use Rattle.patch_extent.proofs.Rising.{alike}

-- each pointer record stays
same_pointer : (s : Extents) (e : ℕ) → (extent_at (unpatched s) e).pointer ≡ (extent_at s e).pointer
same_pointer s e = ap (λ (k : Extent). k.pointer) (get_or-map unpatched_extent s.each e no_extent)

pub whole_anew : (s : Extents) → AreWhole s → AreWhole (unpatched s)
whole_anew s whole = record {
  geometry = whole.geometry;
  count = length-map s.each unpatched_extent ∙ whole.count;
  fits = λ e. subst (Fits (largest_pointer s.geometry.format)) (sym (same_pointer s e)) (whole.fits e);
}

-- the same ones are empty
pub same_empties : (s : Extents) → empty_extents s ≡ empty_extents (unpatched s)
same_empties s =
    alike (λ e. offset_at s e == 0) (λ e. offset_at (unpatched s) e == 0) 0 s.geometry.extents
    (λ e low high. ap (λ (p : Pointer). p.offset == 0) (sym (same_pointer s e)))

-- what is written over a whole list is all that it holds
pub written_over : (count : ℕ) (new old : List Extent) → length new ≡ count → take count (new ++ drop (length new) old) ≡ new
written_over count new old long = ap (λ n. take n (new ++ drop (length new) old)) (sym long) ∙ take-append_seam new (drop (length new) old)
