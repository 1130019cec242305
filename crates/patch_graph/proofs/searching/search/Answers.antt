use Rattle.std.proofs.Common.{◌∙◌, refl, subst, arith}
use Rattle.patch_graph.specs.Search.{steps, IsReachable}
use Rattle.patch_graph.proofs.Searches.{course_held, found-all}
use Rattle.patch_graph.proofs.searching.search.Goals as goal

pub go_on-course-requires-clause-under_way : goal.go_on-course-requires-clause-under_way
go_on-course-requires-clause-under_way g c = c.begin-begun.ensures.begun.1 (steps c.args.register.now.slots c.args.register.now.numbers c.args.way) c.args.stop

pub returns-clause-found : goal.returns-clause-found
returns-clause-found g c =
    subst (λ from. IsReachable (steps c.args.register.now.slots c.args.register.now.numbers c.args.way) from c.args.stop c.go_on-course.new.marks) (c.go_on-course.ensures.from ∙ c.begin-begun.ensures.begun.0)
    (found-all _ _ _ _ _ _ _ c.go_on-course.ensures.under_way (c.go_on-course.ensures.whole refl))

pub returns-clause-held : goal.returns-clause-held
returns-clause-held g c =
    let long = c.requires.queue_fits in
    let e1 = c.begin-begun.ensures.length in
    let e2 = c.begin-begun.ensures.length_queue in
    let e3 = c.go_on-course.ensures.length in
    let e4 = c.go_on-course.ensures.length_queue in
    course_held _ _ _ _ _ _ _ c.go_on-course.ensures.under_way (omega (arith, long, e1, e2, e3, e4))
