use Rattle.std.proofs.Common.{◌∙◌, ◌++◌, sym, ap, append-nil}
use Rattle.patch_group.proofs.Outcomes.{refused-done}
use Rattle.patch_group.proofs.Reading.{group_there, group_missing}
use Rattle.patch_group.proofs.calls.Groups.list_before.Goals as goal

pub returns-in_err-extend_from_slice : goal.returns-in_err-extend_from_slice
returns-in_err-extend_from_slice g c = refused-done c.from_residual.result _ c.from_residual.ensures.0

pub returns-in_ok-extend_from_slice : goal.returns-in_ok-extend_from_slice
returns-in_ok-extend_from_slice g c =
    c.in_ok-extend_from_slice.ensures.items ∙ ap (λ ns. c.args.listed.now.items ++ ns) c.as_slice.ensures.value
    ∙ sym (ap (λ x. c.args.listed.now.items ++ x.before) (group_there c.self.inside.groups.items c.deref.result.now c.args.self.now c.args.group c.group.inside.0 c.deref.ensures.value (ap (λ s. s.groups) c.self.view_is) c.group.view_is
    c.in-Some.record.now c.in-Some.ensures.lookup.3.0 c.in-Some.ensures.lookup.1))

pub returns-in_default : goal.returns-in_default
returns-in_default g c =
    sym (ap (λ x. c.args.listed.now.items ++ x.before) (group_missing c.self.inside.groups.items c.deref.result.now c.args.self.now c.args.group c.group.inside.0 c.deref.ensures.value (ap (λ s. s.groups) c.self.view_is) c.group.view_is c.in_default.ensures.lookup.3)
    ∙ append-nil c.args.listed.now.items)
