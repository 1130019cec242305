use Rattle.std.proofs.Common.{◌≡◌, ℕ, arith, ap, add-one, get_or}
use Rattle.std.specs.Prelude.{◌==◌}
use Rattle.std.proofs.Math.Seq.{drop-length}
use Rattle.std.proofs.lemmas.Bool.{eqb-true}
use Rattle.std.proofs.lemmas.List.{take_rest}
use Rattle.patch_script.proofs.Cutting.{NoneBelow, lines_of-cut, lines_of-last}
use Rattle.patch_script.proofs.lines.first_line.Goals as goal

pub returns-in-Some : goal.returns-in-Some
returns-in-Some c =
    let text = c.args.text.now in
    let found = c.in-Some.ensures.0 in
    let none : NoneBelow text c.in-Some.end = λ k below is. found.before k (omega arith) below (ap (λ x. x == 10) is) in
    let here : get_or text c.in-Some.end 0 ≡ 10 = eqb-true _ 10 c.in-Some.ensures.1 in
    rw (take_rest text _, add-one) (lines_of-cut text c.in-Some.end found.high here none)

pub returns-in-None : goal.returns-in-None
returns-in-None c =
    let text = c.args.text.now in
    let none : NoneBelow text _ = λ k below is. c.in-None.ensures k (omega arith) below (ap (λ x. x == 10) is) in
    rw (take_rest text _, drop-length text) (lines_of-last text c.requires none)
