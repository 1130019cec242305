use Rattle.std.proofs.Common.{refl, subst, sym, arith}
use Rattle.patch_graph.specs.State.{KeysFit}
use Rattle.patch_graph.specs.Search.{steps, IsReachable}
use Rattle.patch_graph.specs.declared.searching.Way.TheVariants.{Up}
use Rattle.patch_graph.specs.Between.{TellsBetweenKeys}
use Rattle.patch_graph.proofs.Searches.{course_held, found-all}
use Rattle.patch_graph.proofs.Rooms.{long_as, taken, met-within}
use Rattle.patch_graph.proofs.queries.least_above.Goals as goal

pub clear-requires : goal.clear-requires
clear-requires g c =
    let long = c.requires.queue_fits in
    let e1 = c.go_on-all.ensures.length in
    let e2 = c.go_on-all.ensures.length_queue in
    course_held _ _ _ _ _ _ _ c.go_on-all.ensures.under_way (omega (arith, long, e1, e2))

pub returns-clause-answer : goal.returns-clause-answer
returns-clause-answer g c = subst (λ to. TellsBetweenKeys c.args.register.now c.args.from to c.least_among-least.result) c.go_on-all.ensures.from c.least_among-least.ensures.answer

pub least_among-least-requires-clause-fits : goal.least_among-least-requires-clause-fits
least_among-least-requires-clause-fits g c = subst (KeysFit c.args.register.now.slots) (sym c.go_on-all.ensures.length) c.requires.fits

pub least_among-least-requires-clause-above : goal.least_among-least-requires-clause-above
least_among-least-requires-clause-above g c =
    subst (λ stop. IsReachable (steps c.args.register.now.slots c.args.register.now.numbers Up) c.go_on-all.result.from stop c.go_on-all.new.marks) (sym c.go_on-all.ensures.length)
    (found-all _ _ _ _ _ _ _ c.go_on-all.ensures.under_way (c.go_on-all.ensures.whole refl))

pub slice_bounds-clear-end : goal.slice_bounds-clear-end
slice_bounds-clear-end g c =
    met-within _ _ _ _ _ _ _ c.go_on-all.ensures.under_way (long_as _ _ _ _ c.go_on-all.ensures.length c.go_on-all.ensures.length_queue c.requires.queue_fits)

pub slice_bounds-clear-end-2 : goal.slice_bounds-clear-end-2
slice_bounds-clear-end-2 g c =
    taken _ _ (met-within _ _ _ _ _ _ _ c.go_on-all.ensures.under_way (long_as _ _ _ _ c.go_on-all.ensures.length c.go_on-all.ensures.length_queue c.requires.queue_fits))
