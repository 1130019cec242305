use Rattle.std.proofs.Common.{arith, refl}
use Rattle.patch_links.proofs.Flights.{taken-none, taken-next, taken-more, taken-all}
use Rattle.patch_links.proofs.Waits.{linked-kept}
use Rattle.patch_links.proofs.flying.take_out.Goals as goal

pub loop-key-init : goal.loop-key-init
loop-key-init g c = taken-none _ _ _ _ c.requires.ready c.requires.counted

pub take_out_at-requires : goal.take_out_at-requires
take_out_at-requires g c = record {
  here = taken-next _ _ _ _ _ _ _ c.loop-key.invariant (omega arith) refl;
  linked = linked-kept _ _ _ c.loop-key.invariant.rest.all c.requires.linked;
  counted = c.loop-key.invariant.counted;
}

pub loop-key-preserved : goal.loop-key-preserved
loop-key-preserved g c = taken-more _ _ _ _ _ _ _ _ c.loop-key.invariant (omega arith) refl c.take_out_at.ensures.rest c.take_out_at.ensures.marks c.take_out_at.ensures.counted

pub returns-clause-none : goal.returns-clause-none
returns-clause-none g c = taken-all _ _ _ _ _ _ c.loop-key.invariant (omega arith)
