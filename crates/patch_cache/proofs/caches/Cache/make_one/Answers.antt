use Rattle.std.proofs.Common.{◌≡◌, ◌∙◌, ◌+◌, ℕ, List, Some, map, length, length-append, refl, sym, ap, subst}
use Rattle.std.specs.Prelude.{is_some}
use Rattle.patch_model.specs.Step.{Step, Merge}
use Rattle.patch_model.specs.StepOf.{step_of}
use Rattle.patch_model.specs.Entry.{Entry}
use Rattle.patch_model.specs.Execution.{extended}
use Rattle.patch_model.specs.State.{entries_of}
use Rattle.patch_model.specs.Legal.{block_of_patch}
use Rattle.patch_cache.specs.Contents.{Contents}
use Rattle.patch_cache.specs.Meaning.{IsCacheBy}
use Rattle.patch_cache.proofs.Residency.{at_block, block_of_row, changed, row_stands, still_sound}
use Rattle.patch_cache.proofs.Showing.{as_was}
use Rattle.patch_cache.proofs.Stepping.{StepsOn, stepped, lent, unchanged, on_err, noted_fits}
use Rattle.patch_cache.proofs.caches.Cache.make_one.Goals as goal

pub row_mut-row-requires : goal.row_mut-row-requires
row_mut-row-requires g c = row_stands c.args.self.now _ _ _ _ _ _ c.args.block c.self.view_is c.block.view_is c.requires.resident

pub returns-in_err-name-clause-refused : goal.returns-in_err-name-clause-refused
returns-in_err-name-clause-refused g c =
    let value = c.row_mut-row.ensures.value ∙ ap (λ r. Some r) (sym c.row.view_is) in
    let noted = ap (map step_of) c.reserve.ensures.items in
    let back = as_was _ _ _ _ _ _ _ c.args.block _ c.self.view_is c.block.view_is value c.join_on.new.state c.in_err-name.ensures.refused.0 in
    on_err _ (unchanged _ _ _ _ _ refl refl c.in_err-name.ensures.refused.1 noted ∙ back)

pub returns-clause-merged : goal.returns-clause-merged
returns-clause-merged g c = λ whole run at may.
    let lawful = may.0 in
    let of_a = may.1 in
    let a : ℕ = c.args.a in
    let b : ℕ = c.args.b in
    let all : List Entry = entries_of run in
    let step : Step = Merge a b in
    let block : ℕ = block_of_patch all a in
    let on : StepsOn run step block = record {
      legal = c.steps_extend.ensures.legal run step at.legal lawful;
      flights = ap (λ st. st.flights) (c.steps_extend.ensures.state run step);
      sends = ap (λ st. st.sends) (c.steps_extend.ensures.state run step);
      flying = λ n. c.flights_are_ready.ensures.merged run a b n;
      elsewhere = λ n other. c.steps_change_blocks.ensures.merged_elsewhere run a b n at.legal lawful other;
    } in
    let seen = subst (λ (s : Contents). IsCacheBy whole s run) (sym c.self.view_is) at in
    let value = c.row_mut-row.ensures.value ∙ ap (λ r. Some r) (sym c.row.view_is) in
    let place : c.block.inside.0 ≡ block = c.block.view_is ∙ of_a in
    let there = block_of_row c.self.inside.rows.items block _ (at_block c.self.inside.rows.items c.block.inside.0 block _ place value) in
    let here = lent whole _ block c.row.inside.state run there seen in
    let made = c.in_ok-name.ensures.merged run (record { run_legal = at.legal; legal = lawful; on_block = here; in_graph = seen.graph }) in
    let trace = map step_of c.push_reserved.new.self.items in
    let after = stepped whole _ run step block c.join_on.new.state c.join_on.new.graph c.self.inside.live trace seen on (ap is_some there) made.on_block made.in_graph (seen.live ∙ sym (c.live_are_counted.ensures.merged run a b)) in (
      lawful,
      made.name_is,
      subst (λ (v : Contents). IsCacheBy whole v (extended run step))
          (sym (changed c.self.inside.rows.items c.join_on.new.graph c.self.inside.sends c.self.inside.live trace c.block.inside.0 block _ c.join_on.new.state place value)) after,
    )

pub invariant_of-self-2 : goal.invariant_of-self-2
invariant_of-self-2 g c =
    let value = c.row_mut-row.ensures.value ∙ ap (λ r. Some r) (sym c.row.view_is) in
    let sound = still_sound c.self.inside.rows.items c.block.inside.0 c.self.inside.under_way _ c.join_on.new.state value c.self.invariant.0 c.self.invariant.1 in
    let longer : length c.push_reserved.new.self.items ≡ length c.reserve.new.self.items + 1 = ap length c.push_reserved.ensures.items ∙ length-append c.reserve.new.self.items _ in (
      sound.0,
      sound.1,
      noted_fits _ _ _ c.self.inside.under_way _ _ c.reserve.new.self.ok.0 longer c.in_ok-reserve.ensures.ok c.push_reserved.ensures.capacity,
    )
