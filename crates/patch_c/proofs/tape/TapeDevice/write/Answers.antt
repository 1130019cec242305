use Rattle.std.proofs.Common.{◌≡◌, [], ◌∷◌, ◌++◌, Some, arith}
use Rattle.std.proofs.lemmas.Grind.{common_steps}
use Rattle.patch_c.specs.Tape.{file_of, events_of}
use Rattle.patch_c.proofs.Writing.{written_then}
use Rattle.patch_c.proofs.tape.TapeDevice.write.Goals as goal

pub returns-clause-written : goal.returns-clause-written
returns-clause-written c =
    let more : c.push.new.self.items ≡ events_of c.args.self.now ++ Some (c.args.n, c.args.from.now) ∷ [] = grind (arith, common_steps, c.in-Ok.ensures) in
    written_then (file_of c.args.self.now) (events_of c.args.self.now) c.push.new.self.items (c.args.n, c.args.from.now) more
