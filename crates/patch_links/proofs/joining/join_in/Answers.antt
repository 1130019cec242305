use Rattle.std.proofs.Common.{ap, ◌∙◌}
use Rattle.std.proofs.lemmas.Result.{on_ok_weaker, on_err_weaker}
use Rattle.patch_links.specs.State.{slots_of}
use Rattle.patch_links.proofs.Orders.{order-rest, order-then, classes-kept, slots-bare}
use Rattle.patch_links.proofs.joining.join_in.Goals as goal

pub join_alike-result-requires-clause-tied : goal.join_alike-result-requires-clause-tied
join_alike-result-requires-clause-tied g c =
    (order-rest c.args.block c.args.nodes.now.slots c.level.new.nodes.slots c.args.keys.now.numbers c.level.ensures.rest (λ h. c.level.ensures.counted)).tied c.requires.tied

pub admit_all-requires-clause-linked : goal.admit_all-requires-clause-linked
admit_all-requires-clause-linked g c =
    let first = order-rest c.args.block c.args.nodes.now.slots c.level.new.nodes.slots c.args.keys.now.numbers c.level.ensures.rest (λ h. c.level.ensures.counted) in
    (c.join_alike-result.ensures.order.tied (first.tied c.requires.tied)).linked

pub returns-clause-order : goal.returns-clause-order
returns-clause-order g c =
    let first = order-rest c.args.block c.args.nodes.now.slots c.level.new.nodes.slots c.args.keys.now.numbers c.level.ensures.rest (λ h. c.level.ensures.counted) in
    let last = order-rest c.args.block c.join_alike-result.new.nodes.slots c.admit_all.new.nodes.slots c.join_alike-result.new.keys.numbers c.admit_all.ensures.rest (c.admit_all.ensures.owed (λ key x. 0)) in
    order-then c.args.block _ _ _ _ _ _ first (order-then c.args.block _ _ _ _ _ _ c.join_alike-result.ensures.order last)

pub returns-clause-joined : goal.returns-clause-joined
returns-clause-joined g c = on_ok_weaker c.join_alike-result.result
    (classes-kept c.args.keep c.args.gone c.args.nodes.now.slots c.level.new.nodes.slots c.join_alike-result.new.nodes.slots c.admit_all.new.nodes.slots _ _ c.level.ensures.rest.all c.admit_all.ensures.rest.all)
    c.join_alike-result.ensures.joined

pub returns-clause-refused : goal.returns-clause-refused
returns-clause-refused g c = on_err_weaker c.join_alike-result.result
    (λ e. slots-bare c.join_alike-result.new.nodes.slots c.admit_all.new.nodes.slots c.admit_all.ensures.rest.all ∙ ap slots_of e ∙ slots-bare c.args.nodes.now.slots c.level.new.nodes.slots c.level.ensures.rest.all)
    c.join_alike-result.ensures.refused
