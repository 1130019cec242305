use Rattle.std.proofs.Common.{◌≡◌, [], ◌∷◌, ◌++◌, Some, arith}
use Rattle.std.proofs.lemmas.Grind.{common_steps}
use Rattle.patch_device.proofs.Filing.{counted_then, whole_then, written_then, remembered_then}
use Rattle.patch_device.proofs.files.FileDevice.note_write.Goals as goal

-- the blocks stay as many
pub invariant_of-self-clause-counted : goal.invariant_of-self-clause-counted
invariant_of-self-clause-counted g c =
    let same : c.behind_write-self.result.first ≡ c.args.self.now.past.first = grind (arith, common_steps) in
    let more : c.behind_write-self.result.events ≡ c.args.self.now.past.events ++ Some (c.args.n, c.args.from.now) ∷ [] = grind (arith, common_steps) in
    counted_then c.args.self.now.past.first c.behind_write-self.result.first c.args.self.now.past.events c.behind_write-self.result.events (c.args.n, c.args.from.now) c.args.self.now.count same more
    c.args.self.now.counted

-- and whole
pub invariant_of-self-clause-whole : goal.invariant_of-self-clause-whole
invariant_of-self-clause-whole g c =
    let same : c.behind_write-self.result.first ≡ c.args.self.now.past.first = grind (arith, common_steps) in
    let more : c.behind_write-self.result.events ≡ c.args.self.now.past.events ++ Some (c.args.n, c.args.from.now) ∷ [] = grind (arith, common_steps) in
    whole_then c.args.self.now.past.first c.behind_write-self.result.first c.args.self.now.past.events c.behind_write-self.result.events (c.args.n, c.args.from.now) same more c.requires
    c.args.self.now.whole

-- and what is remembered of them is what was written
pub invariant_of-self-clause-remembers : goal.invariant_of-self-clause-remembers
invariant_of-self-clause-remembers g c =
    let same : c.behind_write-self.result.first ≡ c.args.self.now.past.first = grind (arith, common_steps) in
    let more : c.behind_write-self.result.events ≡ c.args.self.now.past.events ++ Some (c.args.n, c.args.from.now) ∷ [] = grind (arith, common_steps) in
    remembered_then (λ blocks. blocks.items) c.args.self.now.remembered c.put_where_remembered.new.remembered _ _ (c.args.n, c.args.from.now) c.put_where_remembered.ensures
    (written_then c.args.self.now.past.first c.behind_write-self.result.first c.args.self.now.past.events c.behind_write-self.result.events (c.args.n, c.args.from.now) same more)
    c.args.self.now.remembers
