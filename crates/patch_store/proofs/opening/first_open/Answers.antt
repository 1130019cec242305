use Rattle.std.proofs.Common.{◌∙◌, sym, arith}
use Rattle.patch_store.specs.Opening.{is_open}
use Rattle.patch_store.proofs.Opened.{none_found, first_found}
use Rattle.patch_store.proofs.opening.first_open.Goals as goal

pub returns-then-may_append-clause-value : goal.returns-then-may_append-clause-value
returns-then-may_append-clause-value g c =
    let there = c.loop-extent-test.true in
    sym (first_found (is_open c.args.extents.now) 0 c.args.geometry.extents c.loop-extent.extent (omega arith) (omega (arith, there)) (λ k low less. c.loop-extent.invariant k less)
    (sym c.may_append.ensures ∙ c.if-may_append.true))

pub returns-clause-value : goal.returns-clause-value
returns-clause-value g c =
    let end = c.loop-extent-test.false in
    sym (none_found (is_open c.args.extents.now) 0 c.args.geometry.extents (λ k low high. c.loop-extent.invariant k (omega (arith, high, end))))
