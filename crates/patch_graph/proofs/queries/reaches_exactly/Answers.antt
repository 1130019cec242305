use Rattle.std.proofs.Common.{subst, sym, arith, ◌<◌, length}
use Rattle.patch_graph.specs.State.{KeysFit}
use Rattle.patch_graph.proofs.Reaching.{reaches_is, reaches-not, has-keys, is_found, is_low}
use Rattle.patch_graph.proofs.queries.reaches_exactly.Goals as goal

pub returns-in_default-clause-answer : goal.returns-in_default-clause-answer
returns-in_default-clause-answer g c all x y r la lb = absurd (is_found _ all c.args.a x r la (sym c.in_default.ensures))

pub returns-in_default-find-clause-answer : goal.returns-in_default-find-clause-answer
returns-in_default-find-clause-answer g c all x y r la lb = absurd (is_found _ all c.args.b y r lb (sym c.in_default-find.ensures))

pub returns-then-from-marks-clause-answer : goal.returns-then-from-marks-clause-answer
returns-then-from-marks-clause-answer g c all x y r la lb =
    let low : c.in-Some.from < length c.args.marks.now = is_low c.args.register.now all c.args.a x c.in-Some.from (length c.args.marks.now) r c.requires.fits la (sym c.in-Some.ensures) in
    absurd (omega arith)

pub returns-clause-answer : goal.returns-clause-answer
returns-clause-answer g c all x y r la lb = rw c.is_marked-reaches.ensures
    (reaches_is c.args.register.now all c.args.a c.args.b x y c.in-Some.from c.in-Some-find.to c.search-count.new.marks r
    (subst (KeysFit c.args.register.now.slots) (sym c.search-count.ensures.length) c.requires.fits) la lb (λ e. c.if-from-to.false e) (sym c.in-Some.ensures) (sym c.in-Some-find.ensures)
    c.search-count.ensures.found)

pub returns-then-from-to-clause-answer : goal.returns-then-from-to-clause-answer
returns-then-from-to-clause-answer g c all x y r la lb = (
  λ t. absurd (cc),
  λ p. absurd (reaches-not c.args.register.now all c.args.a c.args.b x y c.in-Some.from c.in-Some-find.to r la lb
      (sym c.in-Some.ensures) (sym c.in-Some-find.ensures) c.if-from-to.true p),
)

pub returns-clause-absent : goal.returns-clause-absent
returns-clause-absent g c off = absurd (has-keys c.args.register.now.numbers c.args.a c.args.b c.in-Some.from c.in-Some-find.to (sym c.in-Some.ensures) (sym c.in-Some-find.ensures) off)
