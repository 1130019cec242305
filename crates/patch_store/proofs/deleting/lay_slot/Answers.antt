use Rattle.std.proofs.Common.{◌∙◌}
use Rattle.std.specs.Prelude.{Some}
use Rattle.patch_store.proofs.Removing.{patched_at}
use Rattle.patch_store.proofs.deleting.lay_slot.Goals as goal

pub returns-in-Ok : goal.returns-in-Ok
returns-in-Ok g c =
    patched_at c.slot_block.result c.slot_start-start.result c.from_vec-bytes.result c.args.slot (Some c.args.writer) c.args.after c.args.groups.now c.args.cache.now c.create_owned.new.self
    c.create_owned.new.cache c.in-Ok.no
    c.slot_block.ensures c.slot_start-start.ensures.value (c.from_vec-bytes.ensures ∙ c.in_ok-empty.ensures.items) (record {
      stands = c.in-Ok.ensures.made;
      number = c.in-Ok.ensures.number;
      groups_are = c.in-Ok.ensures.joined;
      trace_is = c.in-Ok.ensures.trace;
    })
