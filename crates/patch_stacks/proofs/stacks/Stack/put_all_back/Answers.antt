use Rattle.std.proofs.Common.{◌≡◌, ◌∙◌, refl, sym, subst, arith, true}
use Rattle.std.proofs.lemmas.Bool.{false_from_ne_true, both_ways}
use Rattle.patch_stacks.specs.Places.{below}
use Rattle.patch_stacks.specs.State.{Block, TakenWithin, class_at}
use Rattle.patch_stacks.proofs.Taken.{restored_lower, range_back, all_back}
use Rattle.patch_stacks.proofs.stacks.Stack.put_all_back.Goals as goal

pub loop-at-init : goal.loop-at-init
loop-at-init g c =
    let t : TakenWithin c.self.inside.taken c.args.self.now.classes = subst (λ (b : Block). TakenWithin c.self.inside.taken b.classes) c.self.view_is c.self.invariant.1 in
    let e = c.below-taken.ensures in
    rw e (
      sym (restored_lower (below c.self.inside.taken c.len.result).from c.args.self.now (λ i w. false_from_ne_true _ (λ on.
          let r = t i on in absurd (omega (arith, r.0))))),
      refl,
    )

restored : goal.returns
restored g c =
    let t : TakenWithin c.self.inside.taken c.args.self.now.classes = subst (λ (b : Block). TakenWithin c.self.inside.taken b.classes) c.self.view_is c.self.invariant.1 in
    let e = c.below-taken.ensures in
    let l = c.len.ensures in
    let past = c.loop-at-test.false in
    let upto = c.loop-at.auto.at-end in
    let above = rw (e, l) at past in
    let inside = rw (e, l) at upto (omega arith) in
    c.self-2.view_is ∙ range_back c.args.self.now c.loop-at.self c.self.inside.taken c.loop-at.at t above (omega arith) c.loop-at.invariant.0

pub returns : goal.returns
returns g c = restored g c

pub invariant_of-self : goal.invariant_of-self
invariant_of-self g c =
    let same = restored g c in
    (c.self-2.invariant.0, λ i on. absurd (both_ways _ (all_back c.args.self.now i) (subst (λ (b : Block). (class_at b i).taken ≡ true) same on)), c.self-2.invariant.2, c.self-2.invariant.3, c.self-2.invariant.4, c.self-2.invariant.5)
