use Rattle.std.proofs.Common.{sym, ◌∙◌, [], refl, subst}
use Rattle.patch_graph.specs.State.{KeysFit}
use Rattle.patch_graph.proofs.LeastAbove.{above_is, never_reached}
use Rattle.patch_graph.proofs.Reaching.{beyond}
use Rattle.patch_graph.proofs.Rooms.{taken}
use Rattle.patch_graph.proofs.queries.least_among.Goals as goal

pub returns-then-not-is_marked-clause-answer : goal.returns-then-not-is_marked-clause-answer
returns-then-not-is_marked-clause-answer g c a b fa fb all x y r no_ring la lb =
    never_reached c.args.register.now all a b x y c.args.from c.args.to c.args.marks.now r c.requires.fits la lb fa fb c.requires.above (sym c.is_marked.ensures ∙ c.if-not-is_marked.true)

pub returns-clause-answer : goal.returns-clause-answer
returns-clause-answer g c a b fa fb all x y r no_ring la lb =
    above_is c.args.register.now all a b x y c.args.from c.args.to _ c.args.marks c.search-count.new.marks [] c.least_name-least.result (λ key. refl) r no_ring c.requires.fits
    (subst (KeysFit c.args.register.now.slots) (sym c.search-count.ensures.length) c.requires.fits_met) la lb fa fb
    c.search-count.ensures.held c.requires.above c.search-count.ensures.found c.least_name-least.ensures

pub returns-then-from-met-clause-answer : goal.returns-then-from-met-clause-answer
returns-then-from-met-clause-answer g c a b fa fb all x y r no_ring la lb = absurd (beyond c.args.register.now all a x c.args.from _ r c.requires.fits_met la fa c.if-from-met.true)

pub search-count-requires-clause-low : goal.search-count-requires-clause-low
search-count-requires-clause-low g c = c.if-from-met.false

pub search-count-requires-clause-clear : goal.search-count-requires-clause-clear
search-count-requires-clause-clear g c = c.requires.clear

pub slice_bounds-keys-end-2 : goal.slice_bounds-keys-end-2
slice_bounds-keys-end-2 g c = taken _ _ c.search-count.ensures.within

pub clear-requires : goal.clear-requires
clear-requires g c = c.search-count.ensures.held

pub returns-clause-cleared : goal.returns-clause-cleared
returns-clause-cleared g c = c.clear.ensures.clear
