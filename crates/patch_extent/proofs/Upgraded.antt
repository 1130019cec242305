-- The patch of an upgrade, and the extents behind it.
use Rattle.std.proofs.Common.{◌≡◌, ◌∙◌, ℕ, List, [], ◌∷◌, ◌++◌, refl, sym, ap, subst, arith}
use Rattle.std.specs.Prelude.{slice_range}
use Rattle.patch_model.specs.declared.patches.Undo.TheVariants.{MayDrop}
use Rattle.patch_model.specs.Step.{Create}
use Rattle.patch_model.specs.Execution.{Execution, extended}
use Rattle.patch_model.specs.State.{next_patch}
use Rattle.patch_frame.specs.declared.geometries.Format.{Format}
use Rattle.patch_frame.specs.declared.geometries.Format.TheVariants.{One}
use Rattle.patch_frame.specs.declared.geometries.Geometry.{Geometry}
use Rattle.patch_frame.specs.Superblock.{spelling}
use Rattle.patch_cache.specs.Contents.{Contents}
use Rattle.patch_cache.specs.Creating.{IsMade}
use Rattle.patch_cache.specs.Meaning.{IsCacheOf}
use Rattle.patch_recovery.specs.Change.{Widen, bytes_of, widened}
use Rattle.patch_plans.specs.Extents.{Extents}
use Rattle.patch_plans.specs.Meaning.{AreExtentsOf}
use Rattle.patch_extent.specs.Upgrading.{IsStepped, IsUpgraded, upgrade_step, version_step}
use Rattle.patch_extent.proofs.Patches.{StateLaw, patches_made}
use Rattle.patch_extent.proofs.NextStep.{data_kept}

-- the patch of these bytes is that of the fields
pub stepped_so : (g : Geometry) (old new : Contents) (made : ℕ) (bytes : List ℕ) → bytes ≡ slice_range (spelling g) 8 24
    → ((run : Execution) → IsCacheOf old run → IsMade run 0 8 bytes [] MayDrop made new) → new.trace ≡ old.trace ++ Create 0 8 bytes [] MayDrop ∷ []
    → IsStepped (version_step g) old new made
stepped_so g old new made bytes is created trace = subst (λ b. IsStepped (Create 0 8 b [] MayDrop) old new made) is (record {
  stands = λ run stands. (created run stands).2;
  number = λ run stands. (created run stands).1;
  trace_is = trace;
})

-- An extent of version 1 is as long as one of an upgraded disk, so all that is known of the extents stays.

abbrev of_format : Extents → Format → Extents
of_format s f = record s { geometry = record s.geometry { format = f } }

wide_one : (s : Extents) (run : Execution) → AreExtentsOf (of_format s One) run → AreExtentsOf (record s { geometry = widened s.geometry }) run
wide_one s run r =
    let g = r.whole.geometry in
    record {
      whole = record {
        geometry = record {
          some_index = g.some_index;
          short_index = g.short_index;
          some_extents = g.some_extents;
          few_extents = g.few_extents;
          format = (omega arith, omega arith);
          blocks = g.blocks;
        };
        count = r.whole.count;
        fits = r.whole.fits;
      };
      blocks = r.blocks;
      records = r.records;
      rest = r.rest;
      resets = r.resets;
      points = r.points;
    }

wide : (s : Extents) (run : Execution) → s.geometry.format ≡ One → AreExtentsOf s run → AreExtentsOf (record s { geometry = widened s.geometry }) run
wide s run narrow r = wide_one s run (subst (λ f. AreExtentsOf (of_format s f) run) narrow r)

-- and the patch is of another block than the pointers
upgraded_kept : StateLaw → (s : Extents) (run : Execution) → s.geometry.format ≡ One → AreExtentsOf s run
    → AreExtentsOf (record s { geometry = widened s.geometry }) (extended run (upgrade_step s))
upgraded_kept law s run narrow r =
    let bytes = bytes_of s.geometry Widen in
    let next = extended run (upgrade_step s) in
    wide s next narrow (data_kept s run next (next_patch run 0 8 bytes [] MayDrop) refl (patches_made law run 0 8 bytes [] MayDrop) (λ same. omega (arith, same)) r)

-- the patch of the superblock's fields is that of the upgrade
pub upgraded_view : StateLaw → (to : Geometry) (s t now : Extents) (old new : Contents) (made : ℕ) → s ≡ t → t.geometry.format ≡ One → to ≡ widened t.geometry
    → IsStepped (version_step to) old new made → now ≡ record s { geometry = to } → IsUpgraded t old now new made
upgraded_view law to s t now old new made is narrow same stepped kept =
    let extents : now ≡ record t { geometry = widened t.geometry } = kept ∙ ap (λ (x : Extents). record x { geometry = to }) is ∙ ap (λ g. record t { geometry = g }) same in
    record {
      stepped = subst (λ g. IsStepped (version_step g) old new made) same stepped;
      extents_are = extents;
      represents = λ run r. subst (λ (x : Extents). AreExtentsOf x (extended run (upgrade_step t))) (sym extents) (upgraded_kept law t run narrow r);
    }
