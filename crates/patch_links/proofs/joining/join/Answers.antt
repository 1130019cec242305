use Rattle.std.proofs.Common.{refl, sym, ◌∙◌}
use Rattle.std.proofs.lemmas.Bool.{both_ways}
use Rattle.std.proofs.lemmas.Result.{on_ok_weaker}
use Rattle.patch_links.proofs.Pairs.{may-slots, pair-from}
use Rattle.patch_links.proofs.joining.join.Goals as goal

pub join_at-requires-clause-pair : goal.join_at-requires-clause-pair
join_at-requires-clause-pair g c = pair-from c.in-Some.block c.args.keep c.args.gone c.args.nodes.now.slots (sym c.may_join_both.ensures ∙ c.if-not-may_join_both.false) (sym c.in-Some.ensures)

pub join_at-requires-clause-tied : goal.join_at-requires-clause-tied
join_at-requires-clause-tied g c = record { members = c.requires.members; linked = c.requires.linked; counted = c.requires.counted }

pub returns-then-not-may_join_both-clause-joined : goal.returns-then-not-may_join_both-clause-joined
returns-then-not-may_join_both-clause-joined g c t = absurd (both_ways _ (sym c.may_join_both.ensures ∙ c.if-not-may_join_both.true) (sym (may-slots c.args.keep c.args.gone c.args.nodes.now.slots) ∙ t))

pub returns-then-not-may_join_both-clause-idle : goal.returns-then-not-may_join_both-clause-idle
returns-then-not-may_join_both-clause-idle g c f = (refl, refl)

pub returns-in-Some-clause-joined : goal.returns-in-Some-clause-joined
returns-in-Some-clause-joined g c = on_ok_weaker c.join_at.result (λ h t. h) c.join_at.ensures.joined

pub returns-in-Some-clause-idle : goal.returns-in-Some-clause-idle
returns-in-Some-clause-idle g c f = absurd (both_ways _ (sym (may-slots c.args.keep c.args.gone c.args.nodes.now.slots) ∙ f) (sym c.may_join_both.ensures ∙ c.if-not-may_join_both.false))

pub returns-in-Some-clause-next : goal.returns-in-Some-clause-next
returns-in-Some-clause-next g c f = absurd (both_ways _ (sym (may-slots c.args.keep c.args.gone c.args.nodes.now.slots) ∙ f) (sym c.may_join_both.ensures ∙ c.if-not-may_join_both.false))
