use Rattle.std.proofs.Common.{◌≡◌, ◌∙◌, ◌++◌, ◌∷◌, [], ◌+◌, ◌-◌, sym, ap, arith, append_assoc}
use Rattle.std.specs.Prelude.{min}
use Rattle.std.specs.List.{range_with_len}
use Rattle.patch_model.proofs.Ranging.{range_next, numbers_of-least}
use Rattle.patch_model.proofs.runs.list_each.Goals as goal

pub loop-no-preserved : goal.loop-no-preserved
loop-no-preserved g c =
    let old = c.args.listed.now.items in
    let first = c.from-first.result in
    let at = c.loop-no.no in
    record {
      listed = c.push_reserved.ensures.items ∙ ap (λ xs. xs ++ at ∷ []) c.loop-no.invariant.listed ∙ append_assoc old (range_with_len first (at - first)) (at ∷ [])
          ∙ ap (λ xs. old ++ xs) (sym (range_next first at c.loop-no.auto.no));
      room =
          let long = c.push_reserved.ensures.len in
          let wide = c.push_reserved.ensures.capacity in
          let room = c.loop-no.invariant.room in omega (arith, long, wide, room, c.loop-no-test.true);
    }

pub returns : goal.returns
returns g c =
    let run = c.args.run.now in
    let old = c.args.listed.now.items in
    let first = c.from-first.result in
    let low : first ≡ min run.first run.last = c.from-first.ensures ∙ c.min.ensures in
    let last : c.from-end.result ≡ run.last = c.from-end.ensures in
    let end = c.loop-no.auto.no-end (omega (arith, low, last)) in
    let many : c.loop-no.no - first ≡ run.last + 1 - first = omega (arith, end, last, c.loop-no-test.false) in
    c.loop-no.invariant.listed ∙ ap (λ n. old ++ range_with_len first n) many ∙ ap (λ f. old ++ range_with_len f (run.last + 1 - f)) low ∙ ap (λ ns. old ++ ns) (numbers_of-least run)
