use Rattle.std.proofs.Common.{subst, Some, List, ℕ}
use Rattle.patch_numbers.specs.BlockSets.{IsLeastFrom}
use Rattle.patch_numbers.proofs.BlockSets.{least_here, none_left, least_found}
use Rattle.patch_numbers.proofs.block_sets.BlockSet.least_from.Goals as goal

pub returns-in-Some : goal.returns-in-Some
returns-in-Some g c =
    let few = c.self.invariant.few_words in
    let here = rw c.deref.ensures.value at c.in-Some.ensures in
    subst (λ (words : List ℕ). IsLeastFrom words c.args.from (Some c.in-Some.number)) c.self.view_is
    (least_here c.self.inside.words.items c.args.from c.in-Some.number few here)

pub returns-in_err-word : goal.returns-in_err-word
returns-in_err-word g c =
    let here = rw c.deref.ensures.value at c.in_default.ensures in
    let none = rw c.deref-2.ensures.value at c.in_err-word.ensures in
    rw (c.from_residual.ensures, ← c.self.view_is)
    (none_left c.self.inside.rows.items c.self.inside.words.items c.args.from c.self.invariant.of_words here none)

pub returns : goal.returns
returns g c =
    let few = c.self.invariant.few_words in
    let here = rw c.deref.ensures.value at c.in_default.ensures in
    let above = rw c.deref-2.ensures.value at c.in_ok-word.ensures in
    let there = rw c.deref-3.ensures.value at c.least_in_word-2.ensures in
    rw (← c.self.view_is)
    (least_found c.self.inside.rows.items c.self.inside.words.items c.args.from c.in_ok-word.word c.least_in_word-2.result few c.self.invariant.of_words here above there)
