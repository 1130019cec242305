use Rattle.std.proofs.Common.{◌≡◌, ◌∙◌, ap, sym, length, refl}
use Rattle.patch_numbers.proofs.BlockSets.{written, taken_of_vector, taken_of_words, taken_of_rows, taken_of_sheets, taken_of_all}
use Rattle.patch_numbers.proofs.block_sets.BlockSet.remove.Goals as goal

pub invariant_of-self : goal.invariant_of-self
invariant_of-self g c =
    let changed = rw c.deref_mut.ensures.value at c.take_out.ensures.taken in
    let all = written c.self.inside.words.len c.take_out.new.words c.self.inside.words.items (c.take_out.ensures.taken.long ∙ c.deref_mut.ensures.len) in
    rw all (taken_of_words _ _ _ _ _ c.args.number c.self.invariant changed (rw c.deref_mut.ensures.value at (c.if-not-take_out.ensures.kept refl)))

pub returns-then-not-take_out-clause-numbers : goal.returns-then-not-take_out-clause-numbers
returns-then-not-take_out-clause-numbers g c =
    let changed = rw c.deref_mut.ensures.value at c.take_out.ensures.taken in
    let long : length c.self.inside.words.items ≡ c.self.inside.words.len = ap length (sym c.deref_mut.ensures.value) ∙ c.deref_mut.ensures.len in
    taken_of_vector c.self.inside.words.len c.take_out.new.words c.self.inside.words.items c.args.self.now c.args.number changed long c.self.view_is

pub invariant_of-self-then-not-take_out-2 : goal.invariant_of-self-then-not-take_out-2
invariant_of-self-then-not-take_out-2 g c =
    let changed = rw c.deref_mut.ensures.value at c.take_out.ensures.taken in
    let all = written c.self.inside.words.len c.take_out.new.words c.self.inside.words.items (c.take_out.ensures.taken.long ∙ c.deref_mut.ensures.len) in
    let note = rw c.deref_mut-2.ensures.value at c.take_out-2.ensures.taken in
    let noted = written c.self.inside.rows.len c.take_out-2.new.words c.self.inside.rows.items (c.take_out-2.ensures.taken.long ∙ c.deref_mut-2.ensures.len) in
    rw (all, noted) (taken_of_rows _ _ _ _ _ _ c.args.number c.self.invariant changed (c.if-not-take_out.ensures.ended refl) note (rw c.deref_mut-2.ensures.value at (c.if-not-take_out-2.ensures.kept refl)))

pub returns-then-not-take_out-2-clause-numbers : goal.returns-then-not-take_out-2-clause-numbers
returns-then-not-take_out-2-clause-numbers g c =
    let changed = rw c.deref_mut.ensures.value at c.take_out.ensures.taken in
    let long : length c.self.inside.words.items ≡ c.self.inside.words.len = ap length (sym c.deref_mut.ensures.value) ∙ c.deref_mut.ensures.len in
    taken_of_vector c.self.inside.words.len c.take_out.new.words c.self.inside.words.items c.args.self.now c.args.number changed long c.self.view_is

pub invariant_of-self-then-not-take_out-3 : goal.invariant_of-self-then-not-take_out-3
invariant_of-self-then-not-take_out-3 g c =
    let changed = rw c.deref_mut.ensures.value at c.take_out.ensures.taken in
    let all = written c.self.inside.words.len c.take_out.new.words c.self.inside.words.items (c.take_out.ensures.taken.long ∙ c.deref_mut.ensures.len) in
    let note = rw c.deref_mut-2.ensures.value at c.take_out-2.ensures.taken in
    let noted = written c.self.inside.rows.len c.take_out-2.new.words c.self.inside.rows.items (c.take_out-2.ensures.taken.long ∙ c.deref_mut-2.ensures.len) in
    rw (all, noted) (taken_of_sheets _ _ _ _ _ _ _ c.args.number c.self.invariant changed (c.if-not-take_out.ensures.ended refl) note (c.if-not-take_out-2.ensures.ended refl) c.take_out-3.ensures.taken (c.if-not-take_out-3.ensures.kept refl))

pub returns-then-not-take_out-3-clause-numbers : goal.returns-then-not-take_out-3-clause-numbers
returns-then-not-take_out-3-clause-numbers g c =
    let changed = rw c.deref_mut.ensures.value at c.take_out.ensures.taken in
    let long : length c.self.inside.words.items ≡ c.self.inside.words.len = ap length (sym c.deref_mut.ensures.value) ∙ c.deref_mut.ensures.len in
    taken_of_vector c.self.inside.words.len c.take_out.new.words c.self.inside.words.items c.args.self.now c.args.number changed long c.self.view_is

pub invariant_of-self-2 : goal.invariant_of-self-2
invariant_of-self-2 g c =
    let changed = rw c.deref_mut.ensures.value at c.take_out.ensures.taken in
    let all = written c.self.inside.words.len c.take_out.new.words c.self.inside.words.items (c.take_out.ensures.taken.long ∙ c.deref_mut.ensures.len) in
    let note = rw c.deref_mut-2.ensures.value at c.take_out-2.ensures.taken in
    let noted = written c.self.inside.rows.len c.take_out-2.new.words c.self.inside.rows.items (c.take_out-2.ensures.taken.long ∙ c.deref_mut-2.ensures.len) in
    rw (all, noted) (taken_of_all _ _ _ _ _ _ _ _ c.args.number c.self.invariant changed (c.if-not-take_out.ensures.ended refl) note (c.if-not-take_out-2.ensures.ended refl) c.take_out-3.ensures.taken (c.if-not-take_out-3.ensures.ended refl) c.take_out-4.ensures.taken)

pub returns-clause-numbers : goal.returns-clause-numbers
returns-clause-numbers g c =
    let changed = rw c.deref_mut.ensures.value at c.take_out.ensures.taken in
    let long : length c.self.inside.words.items ≡ c.self.inside.words.len = ap length (sym c.deref_mut.ensures.value) ∙ c.deref_mut.ensures.len in
    taken_of_vector c.self.inside.words.len c.take_out.new.words c.self.inside.words.items c.args.self.now c.args.number changed long c.self.view_is
