-- How changes are spelled before the upgrade and after it.
use Rattle.std.proofs.Common.{◌≡◌, ◌+◌, ◌*◌, ◌/◌, refl, sym, ap, ◌∙◌}
use Rattle.patch_model.specs.declared.patches.Undo.TheVariants.{MayDrop}
use Rattle.patch_model.specs.Step.{Create}
use Rattle.patch_frame.specs.declared.geometries.Format.TheVariants.{One}
use Rattle.patch_frame.specs.declared.geometries.Geometry.{Geometry}
use Rattle.patch_frame.specs.Geometry.{extent_blocks}
use Rattle.patch_recovery.specs.Change.{Change, Data, Point, Fill, Clear, Widen, block_of, start_of, bytes_of, widened}
use Rattle.patch_history.specs.Steps.{UpgradesSpellAlike}

blocks_alike : (g : Geometry) (c : Change) → g.format ≡ One → block_of (widened g) c ≡ block_of g c
blocks_alike g (Data extent offset bytes) e = ap (λ f. 2 + g.index + extent_blocks f * extent + offset / 4096) (sym e)
blocks_alike g (Point extent generation offset) e = refl
blocks_alike g (Fill slot fields) e = refl
blocks_alike g (Clear slot) e = refl
blocks_alike g Widen e = refl

bytes_alike : (g : Geometry) (c : Change) → bytes_of (widened g) c ≡ bytes_of g c
bytes_alike g (Data extent offset bytes) = refl
bytes_alike g (Point extent generation offset) = refl
bytes_alike g (Fill slot fields) = refl
bytes_alike g (Clear slot) = refl
bytes_alike g Widen = refl

pub upgrades_spell_alike : UpgradesSpellAlike
upgrades_spell_alike g m e =
    ap (λ block. Create block (start_of m.change) (bytes_of (widened g) m.change) m.after MayDrop)
    (blocks_alike g m.change e)
    ∙ ap (λ bytes. Create (block_of g m.change) (start_of m.change) bytes m.after MayDrop) (bytes_alike g m.change)
