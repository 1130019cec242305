use Rattle.std.proofs.Common.{sym}
use Rattle.patch_links.proofs.Landings.{led-some}
use Rattle.patch_links.proofs.landing.tell.Goals as goal

pub returns-in-Some-clause-paid : goal.returns-in-Some-clause-paid
returns-in-Some-clause-paid g c = led-some c.args.keys.now.numbers c.args.no c.in-Some.key c.args.nodes.now.slots c.tell_key.new.nodes.slots (sym c.in-Some.ensures) c.tell_key.ensures.paid
