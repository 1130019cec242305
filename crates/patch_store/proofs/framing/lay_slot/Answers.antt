use Rattle.std.proofs.Common.{◌∙◌, ap}
use Rattle.patch_frame.specs.Slot.{used_spelling}
use Rattle.patch_store.proofs.Framed.{patched_as}
use Rattle.patch_store.proofs.framing.lay_slot.Goals as goal

pub returns-in-Ok : goal.returns-in-Ok
returns-in-Ok g c =
    let e = c.args.entry.now in
    patched_as c.slot_block.ensures c.slot_start-start.ensures.value
    (c.from_vec-bytes.ensures ∙ c.in_ok-written.ensures.bytes
    ∙ ap (λ key. used_spelling (record { key = key; extent = e.extent; generation = e.generation; offset = e.offset; length = e.length })) c.as_slice.ensures)
    (record {
      stands = c.in-Ok.ensures.made;
      number = c.in-Ok.ensures.number;
      groups_are = c.in-Ok.ensures.joined;
      trace_is = c.in-Ok.ensures.trace;
    })
