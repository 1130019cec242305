use Rattle.patch_graph.proofs.LeastBetween.{between_is, without-held}
use Rattle.patch_graph.proofs.Places.{turned-held}
use Rattle.patch_graph.proofs.queries.least_leading.Goals as goal

pub copy_without-requires-clause-held : goal.copy_without-requires-clause-held
copy_without-requires-clause-held g c key t = turned-held _ _ key c.reverse.ensures.permutation (c.requires.held key t)

pub settle-requires : goal.settle-requires
settle-requires g c = without-held _ _ _ _ (λ key t. turned-held _ _ key c.reverse.ensures.permutation (c.requires.held key t)) c.copy_without.ensures.copied

pub clear-requires : goal.clear-requires
clear-requires g c key t = without-held _ _ _ _ (λ key t. turned-held _ _ key c.reverse.ensures.permutation (c.requires.held key t)) c.copy_without.ensures.copied key (c.settle.ensures.largest.inside key t)

pub returns-clause-answer : goal.returns-clause-answer
returns-clause-answer g c a b fa fb all x y r no_ring la lb =
    between_is c.args.register.now all a b x y c.args.from c.args.to c.reverse.new.self
    c.args.marks.now c.copy_without.new.dead_ends c.settle.new.marks c.least_name-least.result r no_ring c.requires.fits la lb fa fb
    (λ key t. turned-held _ _ key c.reverse.ensures.permutation (c.requires.held key t)) c.requires.below c.copy_without.ensures.copied c.settle.ensures.largest c.least_name-least.ensures

pub returns-clause-held : goal.returns-clause-held
returns-clause-held g c key t = turned-held _ _ key c.reverse.ensures.permutation (c.requires.held key t)
