use Rattle.std.proofs.Common.{◌<◌, ◌≤◌, ◌∙◌, length, arith}
use Rattle.std.proofs.lemmas.List.{take_all}
use Rattle.patch_stacks.proofs.Departing.{none_departed, next_departed, some_departing, all_departing}
use Rattle.patch_stacks.proofs.stacks.Stack.depart_by_name.Goals as goal

pub loop-name-init : goal.loop-name-init
loop-name-init g c = none_departed c.args.self.now

pub loop-name-preserved : goal.loop-name-preserved
loop-name-preserved g c =
    let within : c.loop-name.name-index < length c.args.names.now = (let test = c.loop-name-test.true in let end = c.loop-name.auto.name-index-end in omega arith) in
    c.depart_at.ensures ∙ next_departed c.args.self.now c.loop-name.self c.args.names.now c.loop-name.name-index c.name-item.result c.in-Some.place within
    c.name-item.is c.loop-name.invariant c.in-Some.ensures

pub returns-in_default : goal.returns-in_default
returns-in_default g c = some_departing c.args.self.now c.loop-name.self c.args.names.now c.loop-name.name-index c.loop-name.invariant

pub returns : goal.returns
returns g c =
    let over : length c.args.names.now ≤ c.loop-name.name-index = (let test = c.loop-name-test.false in let end = c.loop-name.auto.name-index-end in omega arith) in
    all_departing c.args.self.now c.loop-name.self c.args.names.now c.loop-name.name-index (take_all _ _ over) c.loop-name.invariant
