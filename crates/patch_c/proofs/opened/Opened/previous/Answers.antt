use Rattle.std.specs.Prelude.{option_map}
use Rattle.patch_index.specs.Keys.{IsPrevious, NoneBelow}
use Rattle.patch_index.specs.Reporting.{reported}
use Rattle.patch_store.specs.Checking.{entries_of}
use Rattle.patch_c.proofs.Reported.{reported_so}
use Rattle.patch_c.proofs.opened.Opened.previous.Goals as goal

pub returns : goal.returns
returns c h represents =
    let found = c.previous_key.result in
    let below = option_map (λ b. b.now) c.args.before in
    (option_map reported found, reported_so found (NoneBelow (entries_of h) below) (IsPrevious (entries_of h) below) (c.previous_key.ensures h represents), c.tell_entry.ensures)
