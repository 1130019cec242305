use Rattle.std.proofs.Common.{◌∙◌, ◌<◌, ℕ, List, length, ap, subst}
use Rattle.patch_index.specs.Index.{fields_of}
use Rattle.patch_store.specs.Framing.{next_fields}
use Rattle.patch_store.proofs.Framed.{none_so, begun_so, appended_so, framed_so}
use Rattle.patch_store.proofs.stores.Store.put_frame.Goals as goal

pub returns-in_default : goal.returns-in_default
returns-in_default g c st held asks =
    none_so c.args.writer.now c.args.slot c.args.extent c.args.key.now c.args.frame st held c.args.self.now asks c.frames_compose.ensures.begun

pub returns-in_default-append_frame : goal.returns-in_default-append_frame
returns-in_default-append_frame g c st held asks =
    begun_so c.args.writer.now c.args.slot c.args.extent c.args.key.now c.args.frame st held c.args.self.now asks c.frames_compose.ensures.begun
    c.append_frame.new.self c.in_default-append_frame.ensures

pub returns-in_default-name_frame : goal.returns-in_default-name_frame
returns-in_default-name_frame g c st held asks =
    appended_so c.args.writer.now c.args.slot c.args.extent c.args.key.now c.args.frame st held c.args.self.now asks
    c.frames_compose.ensures.appended c.plans_continue.ensures.shelf c.append_frame.new.self c.name_frame.new.self c.in-Ok.point
    (subst (λ (bs : List ℕ). 0 < length bs) c.as_slice-len.ensures c.in-Some.ensures.some) c.in-Ok.ensures c.in_default-name_frame.ensures

pub returns : goal.returns
returns g c st held asks =
    framed_so c.args.writer.now c.args.slot c.args.extent c.args.key.now c.args.frame st held c.args.self.now asks
    c.frames_compose.ensures.whole c.plans_continue.ensures.shelf (c.frames_are_read_again.ensures.length held) c.append_frame.new.self c.name_frame.new.self
    c.in-Ok.point (fields_of c.in-Some.entry) (subst (λ (bs : List ℕ). 0 < length bs) c.as_slice-len.ensures c.in-Some.ensures.some) c.in-Ok.ensures
    (c.in-Some.ensures.fields ∙ ap (λ (bs : List ℕ). next_fields c.args.self.now.shelf c.args.extent c.args.key.now (length bs)) c.as_slice-len.ensures)
    c.in-Ok-name_frame.ensures
