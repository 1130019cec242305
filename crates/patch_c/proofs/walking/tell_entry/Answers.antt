use Rattle.std.proofs.Common.{ap, sym}
use Rattle.std.specs.Prelude.{option_map}
use Rattle.patch_index.specs.Reporting.{reported}
use Rattle.patch_c.proofs.Reported.{told_so}
use Rattle.patch_c.proofs.walking.tell_entry.Goals as goal

pub returns : goal.returns
returns c =
    told_so (option_map reported c.args.entry) c.in-Some.entry c.as_slice.result.now _ _ _ c.copy_out.result _ _ (ap (option_map reported) (sym c.in-Some.is))
    c.as_slice.ensures c.copy_out.ensures.answer c.copy_out.ensures.bytes c.copy_out.ensures.len
