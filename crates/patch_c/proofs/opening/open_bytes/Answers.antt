use Rattle.std.proofs.Common.{◌∙◌, length}
use Rattle.patch_c.proofs.Refused.{starved_why}
use Rattle.patch_c.proofs.Staying.{fresh_so, same_so, empty_holds}
use Rattle.patch_c.proofs.opening.open_bytes.Goals as goal

pub invariant_of-new : goal.invariant_of-new
invariant_of-new c =
    record {
      stands = same_so _ c.in_ok-store.store c.in_ok-blocks.blocks.items _ (empty_holds c.new-device.result c.in_ok-blocks.blocks.items (c.new-device.ensures.file ∙ c.of-holding.ensures) c.new-device.ensures.events)
          (fresh_so c.in_ok-store.store c.in_ok-blocks.blocks.items c.in_ok-store.ensures.opened);
    }

pub returns-in_err-new-clause-why : goal.returns-in_err-new-clause-why
returns-in_err-new-clause-why c =
    starved_why c.args.bytes.now (length c.in_ok-blocks.blocks.items) c.from_residual-in_err-new.result c.from_residual-in_err-new.ensures.1
    c.in_ok-blocks.ensures.whole c.in_ok-blocks.ensures.fits
