use Rattle.std.proofs.Common.{◌∙◌, sym, ap, subst}
use Rattle.std.specs.Prelude.{None, MatchResult}
use Rattle.patch_frame.specs.Frame.{spelling}
use Rattle.patch_history.specs.Shelf.{slot_at}
use Rattle.patch_index.specs.Index.{fields_of, told}
use Rattle.patch_store.specs.Framing.{framing, IsFramed, IsFramedInPart}
use Rattle.patch_store.specs.Meaning.{Store, IsWhole}
use Rattle.patch_store.proofs.Copied.{asked_so, asked_by_slot, used_within, move_known}
use Rattle.patch_store.proofs.Framed.{none_so}
use Rattle.patch_store.proofs.stores.Store.move_frame.Goals as goal

pub returns-in_default : goal.returns-in_default
returns-in_default g c st e d m =
    none_so None c.args.slot e d.key (spelling d) st d c.args.self.now (asked_so st c.args.slot e d c.args.self.now m) c.frames_compose.ensures.begun

pub returns-in_default-extent_for_move : goal.returns-in_default-extent_for_move
returns-in_default-extent_for_move g c st e d m =
    none_so None c.args.slot e d.key (spelling d) st d c.args.self.now (asked_so st c.args.slot e d c.args.self.now m) c.frames_compose.ensures.begun

pub returns-in_default-frame_of : goal.returns-in_default-frame_of
returns-in_default-frame_of g c st e d m =
    none_so None c.args.slot e d.key (spelling d) st d c.args.self.now (asked_so st c.args.slot e d c.args.self.now m) c.frames_compose.ensures.begun

pub put_frame-requires-clause-slot : goal.put_frame-requires-clause-slot
put_frame-requires-clause-slot g c =
    used_within c.args.self.now.shelf.slots c.args.slot (fields_of c.in-Some.entry)
    (sym (ap (λ (x : Store). slot_at x.shelf c.args.slot) c.self.view_is) ∙ sym c.entry.ensures ∙ ap told c.in-Some.is)

pub put_frame-requires-clause-known : goal.put_frame-requires-clause-known
put_frame-requires-clause-known g c =
    move_known c.args.self.now.shelf c.in-Some.entry.length c.in-Some-extent_for_move.extent
    (subst (λ (x : Store). IsWhole x.shelf) c.self.view_is c.self.invariant.1) (sym c.extent_for_move.ensures ∙ c.in-Some-extent_for_move.is)

pub returns : goal.returns
returns g c st e d m =
    let old = c.args.self.now in
    let used = sym (ap (λ (x : Store). slot_at x.shelf c.args.slot) c.self.view_is) ∙ sym c.entry.ensures ∙ ap told c.in-Some.is in
    let asks = asked_by_slot st c.args.slot e d old m (fields_of c.in-Some.entry) c.in-Some-extent_for_move.extent c.as_slice.result.now c.from_vec-frame.result
    used (sym c.extent_for_move.ensures ∙ c.in-Some-extent_for_move.is) c.as_slice.ensures
    (λ cached. c.from_vec-frame.ensures ∙ c.in-Ok.ensures st.run d m.standing.setting_is cached) in
    subst (λ x. MatchResult c.put_frame.result (λ _. IsFramed (framing st None c.args.slot x d) old c.put_frame.new.self)
    (λ _. IsFramedInPart (framing st None c.args.slot x d) old c.put_frame.new.self)) asks.1 (c.put_frame.ensures st d asks.0)
