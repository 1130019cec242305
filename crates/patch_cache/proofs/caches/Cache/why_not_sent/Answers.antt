use Rattle.std.proofs.Common.{◌≡◌, [], ◌<◌, ◌∙◌, ℕ, true, false, Some, length, sym, ap, arith, subst}
use Rattle.std.specs.Option.{option_copied}
use Rattle.std.proofs.lemmas.Bool.{both_ways}
use Rattle.patch_model.specs.History.{history_of}
use Rattle.patch_model.specs.State.{state_of, entries_of, has_flight}
use Rattle.patch_view.specs.Meaning.{IsBlockOf}
use Rattle.patch_graph.specs.Between.{HasNoRing}
use Rattle.patch_cache.specs.Contents.{Contents, is_resident, write_at}
use Rattle.patch_cache.specs.Meaning.{IsCacheBy, IsWriteOf}
use Rattle.patch_cache.proofs.Absent.{alone}
use Rattle.patch_cache.proofs.Refusing.{has_one, already, nothing, none_ready, something, is_none}
use Rattle.patch_cache.proofs.Residency.{at_block, block_of_row, resident_row, resident_within, write_of_row}
use Rattle.patch_cache.proofs.Stepping.{lent}
use Rattle.patch_cache.proofs.caches.Cache.why_not_sent.Goals as goal

pub returns-then-is_some-clause-cause : goal.returns-then-is_some-clause-cause
returns-then-is_some-clause-cause g c = λ whole run at.
    let block : ℕ = c.args.block in
    let rows = c.self.inside.rows.items in
    let value = sym c.get.ensures ∙ ap option_copied c.in-Some.is ∙ ap (λ r. Some r) (sym c.row.view_is) in
    let here = at_block rows c.block.inside.0 block _ c.block.view_is value in
    let resident : is_resident c.args.self.now block ≡ true = ap (λ v. is_resident v block) (sym c.self.view_is) ∙ resident_row rows block _ here in
    let known : block < length run.first = let within = resident_within c.args.self.now block resident in let count = at.count in omega (arith, within, count) in
    let seen = subst (λ (v : Contents). IsCacheBy whole v run) (sym c.self.view_is) at in
    let write : IsWriteOf run block c.row.inside.write = subst (IsWriteOf run block) (write_of_row rows block _ here) (seen.writes block known) in
    let flies : has_flight (state_of run) block ≡ true = has_one run block c.row.inside.write write ∙ sym c.is_some.ensures ∙ c.if-is_some.true in
    sym (alone c.args.self.now block _ resident ∙ already run block known flies)

pub returns-then-is_clear-clause-cause : goal.returns-then-is_clear-clause-cause
returns-then-is_clear-clause-cause g c = λ whole run at.
    let block : ℕ = c.args.block in
    let rows = c.self.inside.rows.items in
    let value = sym c.get.ensures ∙ ap option_copied c.in-Some.is ∙ ap (λ r. Some r) (sym c.row.view_is) in
    let here = at_block rows c.block.inside.0 block _ c.block.view_is value in
    let resident : is_resident c.args.self.now block ≡ true = ap (λ v. is_resident v block) (sym c.self.view_is) ∙ resident_row rows block _ here in
    let known : block < length run.first = let within = resident_within c.args.self.now block resident in let count = at.count in omega (arith, within, count) in
    let seen = subst (λ (v : Contents). IsCacheBy whole v run) (sym c.self.view_is) at in
    let write : IsWriteOf run block c.row.inside.write = subst (IsWriteOf run block) (write_of_row rows block _ here) (seen.writes block known) in
    let flies : has_flight (state_of run) block ≡ false = has_one run block c.row.inside.write write ∙ sym c.is_some.ensures ∙ c.if-is_some.false in
    let shown : IsBlockOf c.row.inside.state [] (history_of run block) = lent whole _ block c.row.inside.state run (block_of_row rows block _ here) seen in
    let durable = sym (c.is_clear.ensures.answer (history_of run block) [] shown) ∙ c.if-is_clear.true in
    sym (alone c.args.self.now block _ resident
    ∙ nothing run block known flies (none_ready run block (c.ready_is_largest.ensures.largest (entries_of run) block (c.ready_is_largest.ensures.made run)) durable))

pub returns-then-not-any_ready-clause-cause : goal.returns-then-not-any_ready-clause-cause
returns-then-not-any_ready-clause-cause g c = λ whole run at.
    let block : ℕ = c.args.block in
    let rows = c.self.inside.rows.items in
    let value = sym c.get.ensures ∙ ap option_copied c.in-Some.is ∙ ap (λ r. Some r) (sym c.row.view_is) in
    let here = at_block rows c.block.inside.0 block _ c.block.view_is value in
    let resident : is_resident c.args.self.now block ≡ true = ap (λ v. is_resident v block) (sym c.self.view_is) ∙ resident_row rows block _ here in
    let known : block < length run.first = let within = resident_within c.args.self.now block resident in let count = at.count in omega (arith, within, count) in
    let seen = subst (λ (v : Contents). IsCacheBy whole v run) (sym c.self.view_is) at in
    let write : IsWriteOf run block c.row.inside.write = subst (IsWriteOf run block) (write_of_row rows block _ here) (seen.writes block known) in
    let flies : has_flight (state_of run) block ≡ false = has_one run block c.row.inside.write write ∙ sym c.is_some.ensures ∙ c.if-is_some.false in
    let ring : HasNoRing (entries_of run) = λ x y apart to back. c.paths_form_no_ring.ensures.back run x y at.legal to back in
    sym (alone c.args.self.now block _ resident
    ∙ nothing run block known flies (λ some. both_ways _ c.if-not-any_ready.true ((c.any_ready.ensures (entries_of run) seen.graph ring).1 some)))

pub returns-clause-cause : goal.returns-clause-cause
returns-clause-cause g c = λ whole run at.
    let block : ℕ = c.args.block in
    let rows = c.self.inside.rows.items in
    let value = sym c.get.ensures ∙ ap option_copied c.in-Some.is ∙ ap (λ r. Some r) (sym c.row.view_is) in
    let here = at_block rows c.block.inside.0 block _ c.block.view_is value in
    let resident : is_resident c.args.self.now block ≡ true = ap (λ v. is_resident v block) (sym c.self.view_is) ∙ resident_row rows block _ here in
    let known : block < length run.first = let within = resident_within c.args.self.now block resident in let count = at.count in omega (arith, within, count) in
    let seen = subst (λ (v : Contents). IsCacheBy whole v run) (sym c.self.view_is) at in
    let write : IsWriteOf run block c.row.inside.write = subst (IsWriteOf run block) (write_of_row rows block _ here) (seen.writes block known) in
    let flies : has_flight (state_of run) block ≡ false = has_one run block c.row.inside.write write ∙ sym c.is_some.ensures ∙ c.if-is_some.false in
    let ring : HasNoRing (entries_of run) = λ x y apart to back. c.paths_form_no_ring.ensures.back run x y at.legal to back in
    sym (alone c.args.self.now block _ resident ∙ something run block known flies ((c.any_ready.ensures (entries_of run) seen.graph ring).0 c.if-not-any_ready.false))

pub returns-clause-not_under_way : goal.returns-clause-not_under_way
returns-clause-not_under_way g c = λ t.
    let block : ℕ = c.args.block in
    let rows = c.self.inside.rows.items in
    let value = sym c.get.ensures ∙ ap option_copied c.in-Some.is ∙ ap (λ r. Some r) (sym c.row.view_is) in
    let here = at_block rows c.block.inside.0 block _ c.block.view_is value in
    ap (λ (v : Contents). write_at v block) (sym c.self.view_is) ∙ write_of_row rows block _ here ∙ is_none c.row.inside.write (sym c.is_some.ensures ∙ c.if-is_some.false)
