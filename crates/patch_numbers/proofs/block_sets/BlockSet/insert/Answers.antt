use Rattle.std.proofs.Common.{◌≡◌, ◌∙◌, ap, sym, length}
use Rattle.patch_numbers.proofs.BlockSets.{written, put_in_vector, put_in_words, put_in_rows, put_in_sheets, put_in_all}
use Rattle.patch_numbers.proofs.block_sets.BlockSet.insert.Goals as goal

pub invariant_of-self : goal.invariant_of-self
invariant_of-self g c =
    let changed = rw c.deref_mut.ensures.value at c.put_in.ensures.put in
    let all = written c.self.inside.words.len c.put_in.new.words c.self.inside.words.items (c.put_in.ensures.put.long ∙ c.deref_mut.ensures.len) in
    let was = rw c.deref_mut.ensures.value at c.if-not-put_in.ensures.began in
    rw all (put_in_words _ _ _ _ _ c.args.number c.self.invariant changed was)

pub invariant_of-self-then-not-put_in-2 : goal.invariant_of-self-then-not-put_in-2
invariant_of-self-then-not-put_in-2 g c =
    let changed = rw c.deref_mut.ensures.value at c.put_in.ensures.put in
    let all = written c.self.inside.words.len c.put_in.new.words c.self.inside.words.items (c.put_in.ensures.put.long ∙ c.deref_mut.ensures.len) in
    let note = rw c.deref_mut-2.ensures.value at c.put_in-2.ensures.put in
    let noted = written c.self.inside.rows.len c.put_in-2.new.words c.self.inside.rows.items (c.put_in-2.ensures.put.long ∙ c.deref_mut-2.ensures.len) in
    let was = rw c.deref_mut-2.ensures.value at c.if-not-put_in-2.ensures.began in
    rw (all, noted) (put_in_rows _ _ _ _ _ _ c.args.number c.self.invariant changed note was)

pub returns-then-not-put_in-2-clause-numbers : goal.returns-then-not-put_in-2-clause-numbers
returns-then-not-put_in-2-clause-numbers g c =
    let changed = rw c.deref_mut.ensures.value at c.put_in.ensures.put in
    let long : length c.self.inside.words.items ≡ c.self.inside.words.len = ap length (sym c.deref_mut.ensures.value) ∙ c.deref_mut.ensures.len in
    put_in_vector c.self.inside.words.len c.put_in.new.words c.self.inside.words.items c.args.self.now c.args.number changed long c.self.view_is

pub invariant_of-self-then-not-put_in-3 : goal.invariant_of-self-then-not-put_in-3
invariant_of-self-then-not-put_in-3 g c =
    let changed = rw c.deref_mut.ensures.value at c.put_in.ensures.put in
    let all = written c.self.inside.words.len c.put_in.new.words c.self.inside.words.items (c.put_in.ensures.put.long ∙ c.deref_mut.ensures.len) in
    let note = rw c.deref_mut-2.ensures.value at c.put_in-2.ensures.put in
    let noted = written c.self.inside.rows.len c.put_in-2.new.words c.self.inside.rows.items (c.put_in-2.ensures.put.long ∙ c.deref_mut-2.ensures.len) in
    rw (all, noted) (put_in_sheets _ _ _ _ _ _ _ c.args.number c.self.invariant changed note c.put_in-3.ensures.put c.if-not-put_in-3.ensures.began)

pub returns-then-not-put_in-3-clause-numbers : goal.returns-then-not-put_in-3-clause-numbers
returns-then-not-put_in-3-clause-numbers g c =
    let changed = rw c.deref_mut.ensures.value at c.put_in.ensures.put in
    let long : length c.self.inside.words.items ≡ c.self.inside.words.len = ap length (sym c.deref_mut.ensures.value) ∙ c.deref_mut.ensures.len in
    put_in_vector c.self.inside.words.len c.put_in.new.words c.self.inside.words.items c.args.self.now c.args.number changed long c.self.view_is

pub invariant_of-self-2 : goal.invariant_of-self-2
invariant_of-self-2 g c =
    let changed = rw c.deref_mut.ensures.value at c.put_in.ensures.put in
    let all = written c.self.inside.words.len c.put_in.new.words c.self.inside.words.items (c.put_in.ensures.put.long ∙ c.deref_mut.ensures.len) in
    let note = rw c.deref_mut-2.ensures.value at c.put_in-2.ensures.put in
    let noted = written c.self.inside.rows.len c.put_in-2.new.words c.self.inside.rows.items (c.put_in-2.ensures.put.long ∙ c.deref_mut-2.ensures.len) in
    rw (all, noted) (put_in_all _ _ _ _ _ _ _ _ c.args.number c.self.invariant changed note c.put_in-3.ensures.put c.put_in-4.ensures.put)

pub returns-clause-numbers : goal.returns-clause-numbers
returns-clause-numbers g c =
    let changed = rw c.deref_mut.ensures.value at c.put_in.ensures.put in
    let long : length c.self.inside.words.items ≡ c.self.inside.words.len = ap length (sym c.deref_mut.ensures.value) ∙ c.deref_mut.ensures.len in
    put_in_vector c.self.inside.words.len c.put_in.new.words c.self.inside.words.items c.args.self.now c.args.number changed long c.self.view_is
