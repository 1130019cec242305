use Rattle.patch_links.proofs.Launching.{settled-holds, room-flying, counted-flown, listed-flown, put-in-flight}
use Rattle.patch_links.proofs.flying.fly_list.Goals as goal

pub take_out-requires-clause-ready : goal.take_out-requires-clause-ready
take_out-requires-clause-ready g c = rw c.ready.ensures (settled-holds _ _ _ c.requires.listed c.requires.settled)

pub fly-requires : goal.fly-requires
fly-requires g c = room-flying _ _ _ c.requires.listed

pub returns-clause-listed : goal.returns-clause-listed
returns-clause-listed g c = listed-flown c.args.block c.args.keys.now.numbers c.args.nodes.now.slots c.take_out.new.nodes.slots c.fly_each.new.nodes.slots c.args.list.now
    c.requires.listed c.requires.settled c.take_out.ensures.rest c.take_out.ensures.none c.requires.counted c.take_out.ensures.counted (rw c.ready-2.ensures at c.fly_each.ensures.flown) c.fly_each.ensures.long
    c.fly.new.self c.fly.ensures.ready c.fly.ensures.done c.fly.ensures.flying c.fly.ensures.count c.fly.ensures.room_ready c.fly.ensures.room_flying

pub returns-clause-counted : goal.returns-clause-counted
returns-clause-counted g c = counted-flown c.args.block c.args.keys.now.numbers c.args.nodes.now.slots c.take_out.new.nodes.slots c.fly_each.new.nodes.slots c.args.list.now
    c.requires.listed c.requires.settled c.take_out.ensures.rest c.take_out.ensures.none c.requires.counted c.take_out.ensures.counted (rw c.ready-2.ensures at c.fly_each.ensures.flown) c.fly_each.ensures.long

pub returns-clause-flown : goal.returns-clause-flown
returns-clause-flown g c = put-in-flight c.args.block c.args.keys.now.numbers c.args.nodes.now.slots c.take_out.new.nodes.slots c.fly_each.new.nodes.slots c.args.list.now
    c.requires.listed c.requires.settled c.take_out.ensures.rest c.take_out.ensures.none c.requires.counted c.take_out.ensures.counted (rw c.ready-2.ensures at c.fly_each.ensures.flown) c.fly_each.ensures.long
