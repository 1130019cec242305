use Rattle.std.proofs.Common.{◌-◌, ◌<◌, ◌∙◌, inl, inr, length, get_or, sym, ap, subst, arith}
use Rattle.std.proofs.lemmas.Bool.{cases_lt}
use Rattle.patch_stacks.specs.State.{Block}
use Rattle.patch_stacks.proofs.Rearranging.{length-part, follows-part}
use Rattle.patch_stacks.proofs.stacks.Stack.follows_some.Goals as goal

pub returns-then-rests_on-clause-yes : goal.returns-then-rests_on-clause-yes
returns-then-rests_on-clause-yes g c t =
    let b : Block = c.args.self.now in
    let seen = c.deref.ensures.value ∙ ap (λ (z : Block). z.classes) c.self.view_is in
    let within : c.args.k < length c.deref.result.now = subst (λ cs. c.args.k < length cs) (sym seen) c.requires.within in
    let down = c.requires.down in
    let upto = c.requires.upto in
    let long = length-part c.deref.result.now c.args.from c.args.to down (omega arith) in
    let here = c.loop-passed-test.true in
    let on = follows-part b c.deref.result.now c.index-class.result.now c.index-below-below.result c.args.from c.args.to c.args.k _ (c.args.to - 1 - c.loop-passed.passed) seen
    (c.index-class.ensures ∙ ap (λ cs. get_or cs c.args.k c.index-class.result.now) (sym c.deref.ensures.value)) c.index-below-below.is down upto within (omega arith) (omega arith) in (
      c.args.to - 1 - c.loop-passed.passed,
      omega arith,
      omega arith,
      on ∙ sym c.rests_on.ensures ∙ c.if-rests_on.true,
    )

pub loop-passed-preserved : goal.loop-passed-preserved
loop-passed-preserved g c m f from t =
    let b : Block = c.args.self.now in
    let seen = c.deref.ensures.value ∙ ap (λ (z : Block). z.classes) c.self.view_is in
    let within : c.args.k < length c.deref.result.now = subst (λ cs. c.args.k < length cs) (sym seen) c.requires.within in
    let down = c.requires.down in
    let upto = c.requires.upto in
    let long = length-part c.deref.result.now c.args.from c.args.to down (omega arith) in
    let here = c.loop-passed-test.true in
    elim (cases_lt m (c.args.to - c.loop-passed.passed)) [
      | inr behind ↦ c.loop-passed.invariant m (omega arith) from t
      | inl before ↦
          let off = follows-part b c.deref.result.now c.index-class.result.now c.index-below-below.result c.args.from c.args.to c.args.k _ m seen
          (c.index-class.ensures ∙ ap (λ cs. get_or cs c.args.k c.index-class.result.now) (sym c.deref.ensures.value)) c.index-below-below.is down upto within t (omega arith) in
          off ∙ sym c.rests_on.ensures ∙ c.if-rests_on.false
    ]

pub returns-clause-no : goal.returns-clause-no
returns-clause-no g c off m f t =
    let seen = c.deref.ensures.value ∙ ap (λ (z : Block). z.classes) c.self.view_is in
    let within : c.args.k < length c.deref.result.now = subst (λ cs. c.args.k < length cs) (sym seen) c.requires.within in
    let down = c.requires.down in
    let upto = c.requires.upto in
    let long = length-part c.deref.result.now c.args.from c.args.to down (omega arith) in
    let over = c.loop-passed-test.false in
    c.loop-passed.invariant m (omega arith) f t
