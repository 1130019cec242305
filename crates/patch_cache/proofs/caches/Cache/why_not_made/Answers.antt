use Rattle.std.proofs.Common.{◌≡◌, ◌∙◌, ◌<◌, ◌≤◌, ℕ, length, true, refl, sym, subst, arith}
use Rattle.patch_model.specs.Names.{numbers_named}
use Rattle.patch_model.specs.State.{entries_of}
use Rattle.patch_cache.specs.Contents.{is_resident}
use Rattle.patch_cache.proofs.Absent.{alone, beyond as no_such}
use Rattle.patch_cache.proofs.Creations.{beyond_blocks}
use Rattle.patch_cache.proofs.Residency.{is_there, resident_within}
use Rattle.patch_cache.proofs.Stepping.{past_all}
use Rattle.patch_cache.proofs.caches.Cache.why_not_made.Goals as goal

pub returns-then-block-len-clause-cause : goal.returns-then-block-len-clause-cause
returns-then-block-len-clause-cause g c = λ whole run at.
    let a = c.args in
    let past = past_all whole _ a.self.now run c.self.inside.rows.items a.block _ c.self.view_is refl at c.len.ensures (subst (λ (n : ℕ). c.len.result ≤ n) c.block.view_is c.if-block-len.true) in
    beyond_blocks (length run.first) (entries_of run) a.block a.start a.bytes.now (numbers_named a.after) past ∙ sym (no_such a.self.now a.block _ (let count = at.count in omega (arith, count, past)))

pub returns-clause-cause : goal.returns-clause-cause
returns-clause-cause g c = λ whole run at.
    let a = c.args in
    let resident : is_resident a.self.now a.block ≡ true = is_there a.self.now _ _ _ _ _ _ a.block c.self.view_is c.block.view_is (sym c.contains.ensures ∙ c.if-not-contains.false) in
    let known : a.block < length run.first = let within = resident_within a.self.now a.block resident in let count = at.count in omega (arith, within, count) in
    c.why_not_laid.ensures.cause whole run a.block at known ∙ sym (alone a.self.now a.block _ resident)
