use Rattle.std.proofs.Common.{sym, ◌∙◌}
use Rattle.patch_graph.proofs.LeastBetween.{unreached_is}
use Rattle.patch_graph.proofs.Searches.{course_held, found-all}
use Rattle.patch_graph.proofs.Rooms.{taken, met-within}
use Rattle.patch_graph.proofs.queries.least_below.Goals as goal

pub returns-then-not-is_marked-clause-answer : goal.returns-then-not-is_marked-clause-answer
returns-then-not-is_marked-clause-answer g c a b fa fb all x y r no_ring la lb =
    unreached_is c.args.register.now all a b x y c.args.below.from c.args.to c.args.marks.now r c.requires.fits la lb
    fa fb (found-all _ _ _ _ _ _ _ c.requires.below c.requires.whole) (sym c.is_marked.ensures ∙ c.if-not-is_marked.true)

pub clear-requires : goal.clear-requires
clear-requires g c = course_held _ _ _ _ _ _ _ c.requires.below c.requires.queue_fits

pub least_leading-least-requires-clause-held : goal.least_leading-least-requires-clause-held
least_leading-least-requires-clause-held g c = course_held _ _ _ _ _ _ _ c.requires.below c.requires.queue_fits

pub slice_bounds-found-end : goal.slice_bounds-found-end
slice_bounds-found-end g c = met-within _ _ _ _ _ _ _ c.requires.below c.requires.queue_fits

pub slice_bounds-found-end-2 : goal.slice_bounds-found-end-2
slice_bounds-found-end-2 g c = taken _ _ (met-within _ _ _ _ _ _ _ c.requires.below c.requires.queue_fits)

pub least_leading-least-requires-clause-below : goal.least_leading-least-requires-clause-below
least_leading-least-requires-clause-below g c = found-all _ _ _ _ _ _ _ c.requires.below c.requires.whole

pub clear-requires-2 : goal.clear-requires-2
clear-requires-2 g c = c.least_leading-least.ensures.held
