use Rattle.std.proofs.Common.{[], List, ℕ, subst}
use Rattle.std.proofs.lemmas.List.{append-nil}
use Rattle.patch_script.specs.PlainTokens.{AreWholes}
use Rattle.patch_script.proofs.plain.read_wholes.Goals as goal

pub returns-clause-read : goal.returns-clause-read
returns-clause-read c =
    let rest = c.take_end_array.new.self in
    subst (λ (ns : List ℕ). AreWholes c.args.reader.now ns rest) (append-nil c.numbers.numbers.items) (c.numbers.invariant.1 [] rest c.numbers-test.ensures)
