use Rattle.std.proofs.Common.{◌≡◌, ◌∙◌, ◌+◌, ℕ, List, Some, map, length, length-append, refl, sym, ap, subst, arith}
use Rattle.patch_model.specs.Step.{Step, Create}
use Rattle.patch_model.specs.StepOf.{step_of}
use Rattle.patch_model.specs.Entry.{Entry}
use Rattle.patch_model.specs.Execution.{extended}
use Rattle.patch_model.specs.State.{entries_of}
use Rattle.patch_model.specs.Legal.{IsLegalCreate}
use Rattle.patch_cache.specs.Contents.{Contents, is_resident}
use Rattle.patch_cache.specs.Creating.{MayLay, IsLaid}
use Rattle.patch_cache.specs.Meaning.{IsCacheBy}
use Rattle.patch_cache.proofs.Residency.{at_block, block_of_row, changed, row_stands, still_sound}
use Rattle.patch_cache.proofs.Showing.{as_was}
use Rattle.patch_cache.proofs.Stepping.{StepsOn, stepped, lent, unchanged, on_err, noted_fits}
use Rattle.patch_cache.proofs.caches.Cache.make.Goals as goal

pub row_mut-row-requires : goal.row_mut-row-requires
row_mut-row-requires g c = row_stands c.args.self.now _ _ _ _ _ _ c.args.block c.self.view_is c.block.view_is c.requires.resident

pub returns-in_err-no-clause-refused : goal.returns-in_err-no-clause-refused
returns-in_err-no-clause-refused g c =
    let value = c.row_mut-row.ensures.value ∙ ap (λ r. Some r) (sym c.row.view_is) in
    let noted = ap (map step_of) c.reserve.ensures.items in
    let back = as_was _ _ _ _ _ _ _ c.args.block _ c.self.view_is c.block.view_is value c.lay_on.new.state c.in_err-no.ensures.refused.0 in
    on_err _ (unchanged _ _ _ _ _ refl refl c.in_err-no.ensures.refused.1 noted ∙ back)

pub returns-clause-made : goal.returns-clause-made
returns-clause-made g c = λ whole run at why.
    let a = c.args in
    let all : List Entry = entries_of run in
    let step : Step = Create a.block a.start a.bytes a.after a.undo in
    let lawful : IsLegalCreate (length run.first) all a.block a.start a.bytes a.after =
    (c.legal_patches_are_made.ensures (length run.first) a.block a.start all a.bytes a.after).0 why in
    let on : StepsOn run step a.block = record {
      legal = c.steps_extend.ensures.legal run step at.legal lawful;
      flights = ap (λ st. st.flights) (c.steps_extend.ensures.state run step);
      sends = ap (λ st. st.sends) (c.steps_extend.ensures.state run step);
      flying = λ b. c.flights_are_ready.ensures.made run a.block a.start a.bytes a.after a.undo b;
      elsewhere = λ b other. c.steps_change_blocks.ensures.made_elsewhere run a.block a.start a.bytes a.after a.undo b other;
    } in
    let seen = subst (λ (s : Contents). IsCacheBy whole s run) (sym c.self.view_is) at in
    let value = c.row_mut-row.ensures.value ∙ ap (λ r. Some r) (sym c.row.view_is) in
    let there = block_of_row c.self.inside.rows.items a.block _ (at_block c.self.inside.rows.items c.block.inside.0 a.block _ c.block.view_is value) in
    let here = lent whole _ a.block c.row.inside.state run there seen in
    let Lays : List ℕ → List ℕ → Type 0 = λ bs ns. MayLay run a.block a.start bs ns c.row.inside.state c.self.inside.graph
    → IsLaid run a.block a.start bs ns a.undo c.in_ok-no.no c.lay_on.new.state c.lay_on.new.graph in
    let lays = subst (λ bs. Lays bs a.after) c.as_slice.ensures (subst (Lays c.as_slice.result.now) c.lend.ensures (c.in_ok-no.ensures.laid run)) in
    let made = lays (record { run_legal = at.legal; on_block = here; in_graph = seen.graph; legal = lawful }) in
    let one = c.live_are_counted.ensures.made run a.block a.start a.bytes a.after a.undo in
    let live = seen.live in
    let after = stepped whole _ run step a.block c.lay_on.new.state c.lay_on.new.graph _ (map step_of c.push_reserved.new.self.items) seen on (ap (λ v. is_resident v a.block) c.self.view_is ∙ c.requires.resident) made.on_block made.in_graph (omega (arith, one, live)) in (
      why,
      made.number_is,
      subst (λ (v : Contents). IsCacheBy whole v (extended run step))
          (sym (changed c.self.inside.rows.items c.lay_on.new.graph c.self.inside.sends (c.self.inside.live + 1) (map step_of c.push_reserved.new.self.items) c.block.inside.0 a.block _ c.lay_on.new.state c.block.view_is value)) after,
    )

pub invariant_of-self-2 : goal.invariant_of-self-2
invariant_of-self-2 g c =
    let value = c.row_mut-row.ensures.value ∙ ap (λ r. Some r) (sym c.row.view_is) in
    let sound = still_sound c.self.inside.rows.items c.block.inside.0 c.self.inside.under_way _ c.lay_on.new.state value c.self.invariant.0 c.self.invariant.1 in
    let longer : length c.push_reserved.new.self.items ≡ length c.reserve.new.self.items + 1 = ap length c.push_reserved.ensures.items ∙ length-append c.reserve.new.self.items _ in (
      sound.0,
      sound.1,
      noted_fits _ _ _ c.self.inside.under_way _ _ c.reserve.new.self.ok.0 longer c.in_ok-reserve.ensures.ok c.push_reserved.ensures.capacity,
    )
