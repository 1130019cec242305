use Rattle.std.proofs.Common.{sym, ap, ◌∙◌, subst}
use Rattle.patch_links.specs.Lists.{IsListed}
use Rattle.patch_links.proofs.Relisting.{relisted-some, relisted-ready, relisted-waiting, relisted-come, relisted-room}
use Rattle.patch_links.proofs.joining.relist.Goals as goal

pub leave_ready-place-requires : goal.leave_ready-place-requires
leave_ready-place-requires g c = record {
  within = c.requires.listed.within;
  some = relisted-some c.args.block c.args.keep c.args.gone c.args.other.now.ready c.args.nodes.now.slots c.args.list.now c.args.list.now c.requires (sym (ap (λ x. x.ready) c.other.view_is) ∙ c.if-other.true);
}

pub returns-then-other-clause-listed : goal.returns-then-other-clause-listed
returns-then-other-clause-listed g c = subst (λ nodes. IsListed c.args.block nodes c.leave_ready-place.new.self) (sym c.renote.ensures)
    (relisted-ready c.args.block c.args.keep c.args.gone c.args.other.now.ready c.args.nodes.now.slots c.args.list.now c.leave_ready-place.new.self c.requires
    (sym (ap (λ x. x.ready) c.other.view_is) ∙ c.if-other.true) c.leave_ready-place.ensures.less c.leave_ready-place.ensures.rest)

pub push-requires : goal.push-requires
push-requires g c = relisted-room c.args.block c.args.keep c.args.gone c.args.other.now.ready c.args.nodes.now.slots c.args.list.now c.leave_waiting.new.self c.requires
    (sym (ap (λ x. x.ready) c.other.view_is) ∙ c.if-other.false) c.leave_waiting.ensures.ready c.leave_waiting.ensures.rest (sym c.is_due.ensures ∙ c.if-is_due.true)

pub returns-then-is_due-clause-listed : goal.returns-then-is_due-clause-listed
returns-then-is_due-clause-listed g c = subst (IsListed c.args.block c.args.nodes.now.slots) (sym c.push.ensures)
    (relisted-come c.args.block c.args.keep c.args.gone c.args.other.now.ready c.args.nodes.now.slots c.args.list.now c.leave_waiting.new.self c.requires
    (sym (ap (λ x. x.ready) c.other.view_is) ∙ c.if-other.false) c.leave_waiting.ensures.ready c.leave_waiting.ensures.rest (sym c.is_due.ensures ∙ c.if-is_due.true))

pub returns-else-is_due-clause-listed : goal.returns-else-is_due-clause-listed
returns-else-is_due-clause-listed g c = relisted-waiting c.args.block c.args.keep c.args.gone c.args.other.now.ready c.args.nodes.now.slots c.args.list.now c.leave_waiting.new.self c.requires
    (sym (ap (λ x. x.ready) c.other.view_is) ∙ c.if-other.false) c.leave_waiting.ensures.ready c.leave_waiting.ensures.rest (sym c.is_due.ensures ∙ c.if-is_due.false)
