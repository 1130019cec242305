use Rattle.std.proofs.Common.{◌∙◌, inl, inr, refl, arith}
use Rattle.patch_stacks.specs.State.{Block}
use Rattle.patch_stacks.specs.Rearranged.{AreNear}
use Rattle.patch_stacks.proofs.Rearranging.{rearranged-none}
use Rattle.patch_stacks.proofs.Settling.{settled-near}
use Rattle.patch_stacks.proofs.stacks.Stack.join_at.Goals as goal

pub returns-then-not-follows_some-clause-joined : goal.returns-then-not-follows_some-clause-joined
returns-then-not-follows_some-clause-joined g c =
    let old : Block = c.args.self.now in
    let near : AreNear old old c.args.low c.args.high c.args.low = record {
      to = c.requires.less;
      order = rearranged-none old;
      same_low = refl;
      same_high = refl;
      between = inl (λ m f t. c.follows_some.ensures.no c.if-not-follows_some.true m (omega (arith, f)) t);
    } in
    settled-near old old c.settle.new.self c.args.low c.args.high c.args.low c.args.drawn near c.settle.ensures.settled

pub returns-clause-joined : goal.returns-clause-joined
returns-clause-joined g c =
    let old : Block = c.args.self.now in
    let mid : Block = c.gather-front.new.self in
    let all = c.gather-front.ensures in
    let front = c.gather-front.result in
    let near : AreNear old mid c.args.low c.args.high front = record {
      to = all.to;
      order = all.order;
      same_low = all.same_low;
      same_high = all.same_rest c.args.high (omega arith);
      between = inr all.carried;
    } in
    settled-near old mid c.settle-2.new.self c.args.low c.args.high front c.args.drawn near c.settle-2.ensures.settled

pub returns-clause-bytes : goal.returns-clause-bytes
returns-clause-bytes g c = c.settle-2.ensures.bytes ∙ c.gather-front.ensures.order.bytes
