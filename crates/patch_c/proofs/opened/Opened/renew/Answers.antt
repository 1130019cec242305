use Rattle.std.proofs.Common.{rules, IsTrue}
use Rattle.patch_c.specs.Renewing.{is_worn}
use Rattle.patch_c.specs.Tape.{contents_of}
use Rattle.patch_c.proofs.Renewed.{stands_renewed, renewed_so}
use Rattle.patch_c.proofs.opened.Opened.renew.Goals as goal

pub invariant_of-self : goal.invariant_of-self
invariant_of-self c =
    let before = c.args.self.now in
    record {
      stands = stands_renewed c.renewals_stay.ensures before.is_spent (contents_of before.device) before.store c.renew.new.self c.renew.result before.stands c.renew.ensures.answer c.renew.ensures.refused;
    }

pub returns-else-not-is_worn-clause-renewed : goal.returns-else-not-is_worn-clause-renewed
returns-else-not-is_worn-clause-renewed c h represents =
    let is = c.is_worn.ensures h represents in
    let worn : IsTrue (is_worn h) = search rules in
    renewed_so h c.args.self.now.store c.renew.new.self c.renew.result worn (c.renew.ensures.answer h represents) c.renew.ensures.refused

pub returns-else-not-is_worn-2-clause-renewed : goal.returns-else-not-is_worn-2-clause-renewed
returns-else-not-is_worn-2-clause-renewed c h represents =
    let is = c.is_worn.ensures h represents in
    let worn : IsTrue (is_worn h) = search rules in
    renewed_so h c.args.self.now.store c.renew.new.self c.renew.result worn (c.renew.ensures.answer h represents) c.renew.ensures.refused
