use Rattle.patch_graph.proofs.Laying.{emptied, none-emptied}
use Rattle.patch_graph.proofs.skylines.empty.Goals as goal

pub returns-in-Some : goal.returns-in-Some
returns-in-Some g c = emptied c.args.skylines.now.items c.args.block c.block.inside.0 c.in-Some.line.now c.clear.new.self c.block.view_is c.in-Some.ensures.value c.clear.ensures

pub returns-in_default : goal.returns-in_default
returns-in_default g c = none-emptied c.args.skylines.now.items c.args.block c.block.inside.0 c.block.view_is c.in_default.ensures.value
