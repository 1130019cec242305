use Rattle.std.proofs.Common.{◌≡◌, ◌∙◌, ◌<◌, ◌≤◌, ℕ, true, false, [], None, Some, length, map, sym, ap, subst, arith}
use Rattle.std.specs.Prelude.{count_by, is_some}
use Rattle.std.specs.Option.{option_copied}
use Rattle.patch_model.specs.StepOf.{step_of}
use Rattle.patch_model.specs.Renewed.{is_clean}
use Rattle.std.specs.Prelude.{◌==◌}
use Rattle.std.proofs.lemmas.Bool.{eq-eqb}
use Rattle.patch_model.specs.Entry.{is_durable}
use Rattle.patch_model.specs.Member.{In-filter, list_all-at}
use Rattle.patch_graph.specs.Meaning.{IsClearOf}
use Rattle.patch_model.specs.History.{history_of, of_block}
use Rattle.patch_model.specs.State.{entries_of}
use Rattle.patch_cache.specs.Contents.{Contents, is_resident, state_in, write_in}
use Rattle.patch_cache.specs.Meaning.{IsPagedCacheOf, IsWriteOf}
use Rattle.patch_cache.proofs.Clean.{evicted, evicted_is, evicted_count, flying_is_live, live_against, none_of_row, nothing_against}
use Rattle.patch_cache.proofs.Refusing.{has_one}
use Rattle.patch_cache.proofs.Residency.{at_block, block_of_row, contents_of, places_kept, resident_row, resident_within, write_of_row}
use Rattle.patch_cache.proofs.Stepping.{lent}
use Rattle.patch_cache.proofs.caches.Cache.evict.Goals as goal

pub returns-then-not-is_clear-clause-answer : goal.returns-then-not-is_clear-clause-answer
returns-then-not-is_clear-clause-answer g c = λ run at.
    let block : ℕ = c.args.block in
    let rows = c.self.inside.rows.items in
    let value = sym c.get.ensures ∙ ap option_copied c.in-Some.is ∙ ap (λ r. Some r) (sym c.row.view_is) in
    let here = at_block rows c.block.inside.0 block _ c.block.view_is value in
    let resident : is_resident c.args.self.now block ≡ true = ap (λ v. is_resident v block) (sym c.self.view_is) ∙ resident_row rows block _ here in
    let seen = subst (λ (v : Contents). IsPagedCacheOf v run) (sym c.self.view_is) at in
    let shown = lent false _ block c.row.inside.state run (block_of_row rows block _ here) seen in
    live_against c.args.self.now run block resident (sym (c.is_clear.ensures.answer (history_of run block) [] shown) ∙ c.if-not-is_clear.true)

pub returns-then-is_some-clause-answer : goal.returns-then-is_some-clause-answer
returns-then-is_some-clause-answer g c = λ run at.
    let block : ℕ = c.args.block in
    let rows = c.self.inside.rows.items in
    let value = sym c.get.ensures ∙ ap option_copied c.in-Some.is ∙ ap (λ r. Some r) (sym c.row.view_is) in
    let here = at_block rows c.block.inside.0 block _ c.block.view_is value in
    let resident : is_resident c.args.self.now block ≡ true = ap (λ v. is_resident v block) (sym c.self.view_is) ∙ resident_row rows block _ here in
    let known : block < length run.first = let within = resident_within c.args.self.now block resident in let count = at.count in omega (arith, within, count) in
    let seen = subst (λ (v : Contents). IsPagedCacheOf v run) (sym c.self.view_is) at in
    let write : IsWriteOf run block c.row.inside.write = subst (IsWriteOf run block) (write_of_row rows block _ here) (seen.writes block known) in
    let flies = has_one run block c.row.inside.write write ∙ sym c.is_some.ensures ∙ c.if-is_some.true in
    live_against c.args.self.now run block resident (flying_is_live run block (c.flights_are_single.ensures.holds run block at.legal flies))

pub invariant_of-self : goal.invariant_of-self
invariant_of-self g c =
    let rows = c.self.inside.rows.items in
    let value = sym c.get.ensures ∙ ap option_copied c.in-Some.is ∙ ap (λ r. Some r) (sym c.row.view_is) in
    let none = none_of_row c.row.inside.write (sym c.is_some.ensures ∙ c.if-is_some.false) in
    let count = evicted_count rows c.block.inside.0 _ value none in (
      subst (λ rs. length rs ≤ 16777216) (sym c.take.ensures.left) (places_kept rows c.block.inside.0 None c.self.invariant.0),
      c.self.invariant.1 ∙ sym count ∙ sym (ap (λ rs. count_by is_some (map write_in rs)) c.take.ensures.left),
      c.self.invariant.2,
    )

pub returns-clause-gone : goal.returns-clause-gone
returns-clause-gone g c =
    let rows = c.self.inside.rows.items in
    let value = sym c.get.ensures ∙ ap option_copied c.in-Some.is ∙ ap (λ r. Some r) (sym c.row.view_is) in
    let none = none_of_row c.row.inside.write (sym c.is_some.ensures ∙ c.if-is_some.false) in
    ap (λ rs. map state_in rs) c.take.ensures.left
    ∙ ap (λ (v : Contents). v.blocks) (evicted_is rows c.self.inside.graph c.forget.new.self _ _ (map step_of c.self.inside.trace.items) c.block.inside.0 c.args.block _ c.args.self.now c.self.view_is c.block.view_is value none)

pub returns-clause-answer : goal.returns-clause-answer
returns-clause-answer g c = λ run at.
    let block : ℕ = c.args.block in
    let rows = c.self.inside.rows.items in
    let value = sym c.get.ensures ∙ ap option_copied c.in-Some.is ∙ ap (λ r. Some r) (sym c.row.view_is) in
    let here = at_block rows c.block.inside.0 block _ c.block.view_is value in
    let resident : is_resident c.args.self.now block ≡ true = ap (λ v. is_resident v block) (sym c.self.view_is) ∙ resident_row rows block _ here in
    let seen = subst (λ (v : Contents). IsPagedCacheOf v run) (sym c.self.view_is) at in
    let shown = lent false _ block c.row.inside.state run (block_of_row rows block _ here) seen in
    let clean : is_clean run block ≡ true = sym (c.is_clear.ensures.answer (history_of run block) [] shown) ∙ c.if-not-is_clear.false in
    let none = none_of_row c.row.inside.write (sym c.is_some.ensures ∙ c.if-is_some.false) in
    let graph = c.forget.new.self in
    let clear : IsClearOf (entries_of run) block = λ e there of. list_all-at is_durable (of_block block (entries_of run)) e clean (In-filter (λ e. e.patch.block == block) (entries_of run) e there (eq-eqb _ _ of)) in
    let is = ap (λ rs. contents_of rs graph c.self.inside.sends c.self.inside.live (map step_of c.self.inside.trace.items)) c.take.ensures.left
    ∙ evicted_is rows c.self.inside.graph graph _ _ _ c.block.inside.0 block _ c.args.self.now c.self.view_is c.block.view_is value none in
    (nothing_against c.args.self.now run block resident clean, subst (λ (v : Contents). IsPagedCacheOf v run) (sym is) (evicted c.args.self.now block graph run at clean (c.forget.ensures.answer (entries_of run) seen.graph clear)))
