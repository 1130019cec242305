use Rattle.std.proofs.Common.{◌≡◌, ℕ, ◌+◌, ◌<◌, ◌≤◌, ◌∙◌, true, false, [], None, Some, length, map, refl, sym, ap, subst, arith}
use Rattle.std.specs.Prelude.{is_some, nat_le, nat_lt}
use Rattle.std.specs.Option.{option_copied}
use Rattle.std.proofs.lemmas.Bool.Decides.{nat_tests}
use Rattle.patch_model.specs.History.{history_of}
use Rattle.patch_model.specs.Refusing.{why_not_shown}
use Rattle.patch_cache.specs.Contents.{Contents, is_resident}
use Rattle.patch_cache.specs.Meaning.{IsCacheBy}
use Rattle.patch_cache.specs.Viewing.{bytes_at}
use Rattle.patch_cache.proofs.Absent.{whole_alone}
use Rattle.patch_cache.proofs.Residency.{at_block, block_of_row, not_there, resident_row, resident_within}
use Rattle.patch_cache.proofs.Stepping.{lent}
use Rattle.patch_cache.proofs.caches.Cache.read.Goals as goal

-- no cause stands against a span within a block that there is
shown : (blocks block start len : ℕ) → block < blocks → start + len ≤ 4096 → why_not_shown blocks block start len ≡ None
shown blocks block start len known fits =
    let there : nat_le blocks block ≡ false = grind (arith, nat_tests, known) in
    let within : nat_lt 4096 (start + len) ≡ false = grind (arith, nat_tests, fits) in
    rw (there, within) refl

pub returns-in_default-clause-paged : goal.returns-in_default-clause-paged
returns-in_default-clause-paged g c = λ run at.
    let block : ℕ = c.args.block in
    let absent : is_resident c.args.self.now block ≡ false = not_there c.args.self.now _ _ _ _ _ _ block c.self.view_is c.block.view_is (ap is_some (sym c.get.ensures ∙ ap option_copied c.in_default.is)) in
    c.why_absent.ensures false run c.args.start c.args.len at absent

pub returns-in_default-clause-answer : goal.returns-in_default-clause-answer
returns-in_default-clause-answer g c = λ run at.
    let block : ℕ = c.args.block in
    let absent : is_resident c.args.self.now block ≡ false = not_there c.args.self.now _ _ _ _ _ _ block c.self.view_is c.block.view_is (ap is_some (sym c.get.ensures ∙ ap option_copied c.in_default.is)) in
    sym (whole_alone c.args.self.now run block _ at) ∙ c.why_absent.ensures true run c.args.start c.args.len at absent

pub returns-clause-paged : goal.returns-clause-paged
returns-clause-paged g c = λ run at.
    let block : ℕ = c.args.block in
    let rows = c.self.inside.rows.items in
    let value = sym c.get.ensures ∙ ap option_copied c.in-Some.is ∙ ap (λ r. Some r) (sym c.row.view_is) in
    let here = at_block rows c.block.inside.0 block _ c.block.view_is value in
    let resident : is_resident c.args.self.now block ≡ true = ap (λ v. is_resident v block) (sym c.self.view_is) ∙ resident_row rows block _ here in
    let known : block < length run.first = let within = resident_within c.args.self.now block resident in let count = at.count in omega (arith, within, count) in
    let seen = subst (λ (v : Contents). IsCacheBy false v run) (sym c.self.view_is) at in
    let bytes = c.cached.ensures.answer (history_of run block) (lent false _ block c.row.inside.state run (block_of_row rows block _ here) seen) in
    (shown (length run.first) block c.args.start c.args.len known (let long = c.if-len-gt-BLOCK.false in let far = c.if-start-len.false in omega (arith, long, far)), ap (λ bs. bytes_at bs c.args.start c.args.len) bytes)

pub returns-clause-answer : goal.returns-clause-answer
returns-clause-answer g c = λ run at.
    let block : ℕ = c.args.block in
    let rows = c.self.inside.rows.items in
    let value = sym c.get.ensures ∙ ap option_copied c.in-Some.is ∙ ap (λ r. Some r) (sym c.row.view_is) in
    let here = at_block rows c.block.inside.0 block _ c.block.view_is value in
    let resident : is_resident c.args.self.now block ≡ true = ap (λ v. is_resident v block) (sym c.self.view_is) ∙ resident_row rows block _ here in
    let known : block < length run.first = let within = resident_within c.args.self.now block resident in let count = at.count in omega (arith, within, count) in
    let seen = subst (λ (v : Contents). IsCacheBy true v run) (sym c.self.view_is) at in
    let bytes = c.cached.ensures.answer (history_of run block) (lent true _ block c.row.inside.state run (block_of_row rows block _ here) seen) in
    (shown (length run.first) block c.args.start c.args.len known (let long = c.if-len-gt-BLOCK.false in let far = c.if-start-len.false in omega (arith, long, far)), ap (λ bs. bytes_at bs c.args.start c.args.len) bytes)
