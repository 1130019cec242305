use Rattle.std.proofs.Common.{ap, ◌∙◌}
use Rattle.std.specs.Prelude.{slice_range}
use Rattle.patch_extent.proofs.Upgraded.{stepped_so}
use Rattle.patch_extent.proofs.upgrading.lay_version.Goals as goal

pub returns-in-Ok : goal.returns-in-Ok
returns-in-Ok g c =
    stepped_so c.args.geometry c.args.cache.now c.create.new.self c.in-Ok.no _ (ap (λ b. slice_range b 8 24) (c.as_slice.ensures.bytes ∙ c.in_ok-superblock.ensures))
    c.in-Ok.ensures.made c.in-Ok.ensures.trace
