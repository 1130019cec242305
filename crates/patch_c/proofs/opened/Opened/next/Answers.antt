use Rattle.std.specs.Prelude.{option_map}
use Rattle.patch_index.specs.Keys.{IsNext, NoneFrom}
use Rattle.patch_index.specs.Reporting.{reported}
use Rattle.patch_store.specs.Checking.{entries_of}
use Rattle.patch_c.proofs.Reported.{reported_so}
use Rattle.patch_c.proofs.opened.Opened.next.Goals as goal

pub returns : goal.returns
returns c h represents =
    let found = c.next_key.result in (
      option_map reported found,
      reported_so found (NoneFrom (entries_of h) c.args.from.now) (IsNext (entries_of h) c.args.from.now) (c.next_key.ensures h represents),
      c.tell_entry.ensures,
    )
