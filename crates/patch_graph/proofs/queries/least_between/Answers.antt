use Rattle.std.proofs.Common.{◌≤◌, ◌∙◌, ℕ, inl, inr, refl, sym, subst, arith, length}
use Rattle.std.proofs.lemmas.Bool.{leb-true}
use Rattle.patch_links.specs.State.{Slots}
use Rattle.patch_graph.specs.State.{KeysFit}
use Rattle.patch_graph.specs.Search.{steps}
use Rattle.patch_graph.specs.Between.{TellsBetweenKeys}
use Rattle.patch_graph.specs.declared.searching.Way.TheVariants.{Up, Down}
use Rattle.patch_graph.proofs.Searches.{course_held, tail-within}
use Rattle.patch_graph.proofs.Reaching.{beyond}
use Rattle.patch_graph.proofs.Rooms.{long_as, taken, upto_both}
use Rattle.patch_graph.proofs.queries.least_between.Goals as goal

fit_within : (slots : Slots) (room wider : ℕ) → room ≤ wider → KeysFit slots room → KeysFit slots wider
fit_within slots room wider more fit key class at = let low = fit key class at in omega arith

pub take_turns-requires-clause-above : goal.take_turns-requires-clause-above
take_turns-requires-clause-above g c = c.begin.ensures.begun.1 (steps c.args.register.now.slots c.args.register.now.numbers Up) (length c.begin.new.marks)

pub take_turns-requires-clause-below : goal.take_turns-requires-clause-below
take_turns-requires-clause-below g c = c.begin-2.ensures.begun.1 (steps c.args.register.now.slots c.args.register.now.numbers Down) c.args.to

pub clear-requires : goal.clear-requires
clear-requires g c =
    let long = c.requires.queue_fits in
    let e1 = c.begin-2.ensures.length in
    let e2 = c.begin-2.ensures.length_queue in
    let e3 = c.take_turns.ensures.length in
    let e4 = c.take_turns.ensures.length_queue in
    course_held _ _ _ _ _ _ _ c.take_turns.ensures.below (omega (arith, long, e1, e2, e3, e4))

pub returns-then-not-is_whole-clause-answer : goal.returns-then-not-is_whole-clause-answer
returns-then-not-is_whole-clause-answer g c =
    subst (λ to. TellsBetweenKeys c.args.register.now c.args.from to c.least_above.result) (c.take_turns.ensures.from_above ∙ c.begin.ensures.begun.0) c.least_above.ensures.answer

pub clear-requires-2 : goal.clear-requires-2
clear-requires-2 g c =
    let long = c.requires.found_fit in
    let e1 = c.begin.ensures.length in
    let e2 = c.begin.ensures.length_queue in
    let e3 = c.take_turns.ensures.length_met in
    let e4 = c.take_turns.ensures.length_found in
    course_held _ _ _ _ _ _ _ c.take_turns.ensures.above (omega (arith, long, e1, e2, e3, e4))

pub returns-clause-answer : goal.returns-clause-answer
returns-clause-answer g c =
    subst (λ from. TellsBetweenKeys c.args.register.now from c.args.to c.least_below.result) (c.take_turns.ensures.from_below ∙ c.begin-2.ensures.begun.0) c.least_below.ensures.answer

pub take_turns-requires-clause-queue_fits : goal.take_turns-requires-clause-queue_fits
take_turns-requires-clause-queue_fits g c = long_as _ _ _ _ c.begin-2.ensures.length c.begin-2.ensures.length_queue c.requires.queue_fits

pub take_turns-requires-clause-found_fit : goal.take_turns-requires-clause-found_fit
take_turns-requires-clause-found_fit g c = long_as _ _ _ _ c.begin.ensures.length c.begin.ensures.length_queue c.requires.found_fit

pub slice_bounds-clear-end : goal.slice_bounds-clear-end
slice_bounds-clear-end g c =
    upto_both _ _ _ (tail-within _ _ _ _ _ _ _ c.take_turns.ensures.below)
    (long_as _ _ _ _ (c.take_turns.ensures.length ∙ c.begin-2.ensures.length) (c.take_turns.ensures.length_queue ∙ c.begin-2.ensures.length_queue) c.requires.queue_fits)

pub slice_bounds-clear-end-2 : goal.slice_bounds-clear-end-2
slice_bounds-clear-end-2 g c =
    upto_both _ _ _ (tail-within _ _ _ _ _ _ _ c.take_turns.ensures.above)
    (long_as _ _ _ _ (c.take_turns.ensures.length_met ∙ c.begin.ensures.length) (c.take_turns.ensures.length_found ∙ c.begin.ensures.length_queue) c.requires.found_fit)

pub least_above-requires-clause-fits : goal.least_above-requires-clause-fits
least_above-requires-clause-fits g c =
    fit_within c.args.register.now.slots (length c.args.marks.now) _ (long_as _ _ _ _ refl (c.take_turns.ensures.length_met ∙ c.begin.ensures.length) c.requires.met_fit) c.requires.fits

pub least_above-requires-clause-fits_met : goal.least_above-requires-clause-fits_met
least_above-requires-clause-fits_met g c =
    subst (KeysFit c.args.register.now.slots) (sym (c.clear.ensures.length ∙ c.take_turns.ensures.length ∙ c.begin-2.ensures.length)) c.requires.fits

pub least_above-requires-clause-queue_fits : goal.least_above-requires-clause-queue_fits
least_above-requires-clause-queue_fits g c =
    long_as _ _ _ _ (c.take_turns.ensures.length_met ∙ c.begin.ensures.length) (c.take_turns.ensures.length_found ∙ c.begin.ensures.length_queue) c.requires.found_fit

pub least_above-requires-clause-found_fit : goal.least_above-requires-clause-found_fit
least_above-requires-clause-found_fit g c =
    long_as _ _ _ _ (c.clear.ensures.length ∙ c.take_turns.ensures.length ∙ c.begin-2.ensures.length) (c.take_turns.ensures.length_queue ∙ c.begin-2.ensures.length_queue)
    c.requires.queue_fits

pub least_above-requires-clause-above : goal.least_above-requires-clause-above
least_above-requires-clause-above g c = c.take_turns.ensures.above

pub least_above-requires-clause-clear : goal.least_above-requires-clause-clear
least_above-requires-clause-clear g c = c.clear.ensures.clear

pub returns-then-not-is_whole-clause-cleared : goal.returns-then-not-is_whole-clause-cleared
returns-then-not-is_whole-clause-cleared g c = c.least_above.ensures.cleared_met

pub returns-then-not-is_whole-clause-cleared_met : goal.returns-then-not-is_whole-clause-cleared_met
returns-then-not-is_whole-clause-cleared_met g c = c.least_above.ensures.cleared

pub least_below-requires-clause-fits : goal.least_below-requires-clause-fits
least_below-requires-clause-fits g c = subst (KeysFit c.args.register.now.slots) (sym (c.take_turns.ensures.length ∙ c.begin-2.ensures.length)) c.requires.fits

pub least_below-requires-clause-queue_fits : goal.least_below-requires-clause-queue_fits
least_below-requires-clause-queue_fits g c =
    long_as _ _ _ _ (c.take_turns.ensures.length ∙ c.begin-2.ensures.length) (c.take_turns.ensures.length_queue ∙ c.begin-2.ensures.length_queue) c.requires.queue_fits

pub least_below-requires-clause-dead_ends_fit : goal.least_below-requires-clause-dead_ends_fit
least_below-requires-clause-dead_ends_fit g c =
    long_as _ _ _ _ (c.take_turns.ensures.length ∙ c.begin-2.ensures.length) (c.clear-2.ensures.length ∙ c.take_turns.ensures.length_met ∙ c.begin.ensures.length)
    c.requires.met_fit

pub least_below-requires-clause-below : goal.least_below-requires-clause-below
least_below-requires-clause-below g c = c.take_turns.ensures.below

pub least_below-requires-clause-whole : goal.least_below-requires-clause-whole
least_below-requires-clause-whole g c = leb-true _ _ (sym c.is_whole.ensures ∙ c.if-not-is_whole.false)

pub least_below-requires-clause-clear : goal.least_below-requires-clause-clear
least_below-requires-clause-clear g c = c.clear-2.ensures.clear

pub returns-clause-cleared : goal.returns-clause-cleared
returns-clause-cleared g c = c.least_below.ensures.cleared

pub returns-clause-cleared_met : goal.returns-clause-cleared_met
returns-clause-cleared_met g c = c.least_below.ensures.cleared_ends

pub returns-then-from-marks-clause-answer : goal.returns-then-from-marks-clause-answer
returns-then-from-marks-clause-answer g c a b fa fb all x y r no_ring la lb = absurd (elim c.then-from-marks.either [
  | inl far ↦ beyond c.args.register.now all a x c.args.from _ r c.requires.fits la fa far
  | inr far ↦ beyond c.args.register.now all b y c.args.to _ r c.requires.fits lb fb (upto_both _ _ _ c.requires.met_fit far.1)
])

pub returns-then-from-marks-clause-cleared : goal.returns-then-from-marks-clause-cleared
returns-then-from-marks-clause-cleared g c = c.requires.clear

pub returns-then-from-marks-clause-cleared_met : goal.returns-then-from-marks-clause-cleared_met
returns-then-from-marks-clause-cleared_met g c = c.requires.clear_met

pub begin-requires-clause-low : goal.begin-requires-clause-low
begin-requires-clause-low g c = c.if-to-met.false

pub begin-requires-clause-clear : goal.begin-requires-clause-clear
begin-requires-clause-clear g c = c.requires.clear_met

pub begin-requires-2-clause-low : goal.begin-requires-2-clause-low
begin-requires-2-clause-low g c = c.if-from-marks.false

pub begin-requires-2-clause-clear : goal.begin-requires-2-clause-clear
begin-requires-2-clause-clear g c = c.requires.clear

pub slice_bounds-clear-end-then-not-is_whole : goal.slice_bounds-clear-end-then-not-is_whole
slice_bounds-clear-end-then-not-is_whole g c = taken _ _
    (upto_both _ _ _ (tail-within _ _ _ _ _ _ _ c.take_turns.ensures.below)
    (long_as _ _ _ _ (c.take_turns.ensures.length ∙ c.begin-2.ensures.length) (c.take_turns.ensures.length_queue ∙ c.begin-2.ensures.length_queue) c.requires.queue_fits))

pub slice_bounds-clear-end-3 : goal.slice_bounds-clear-end-3
slice_bounds-clear-end-3 g c = taken _ _
    (upto_both _ _ _ (tail-within _ _ _ _ _ _ _ c.take_turns.ensures.above)
    (long_as _ _ _ _ (c.take_turns.ensures.length_met ∙ c.begin.ensures.length) (c.take_turns.ensures.length_found ∙ c.begin.ensures.length_queue) c.requires.found_fit))
