use Rattle.std.proofs.Common.{◌≡◌, ◌<◌, ◌+◌, ◌-◌, ◌∙◌, ℕ, Bool, true, false, List, [], Some, None, length, length-append, set, map, refl, sym, ap, subst, arith, Option}
use Rattle.std.specs.Prelude.{Contains, IsTrue, count_by, is_some, slice_index_or}
use Rattle.std.specs.Option.{option_copied_mut}
use Rattle.std.proofs.lemmas.List.{length-map}
use Rattle.patch_model.specs.Entry.{Entry, is_live}
use Rattle.patch_model.specs.Execution.{Execution, extended}
use Rattle.patch_model.specs.History.{History, history_of}
use Rattle.patch_model.specs.Legal.{IsLegal}
use Rattle.patch_model.specs.Orderly.{IsOrderly}
use Rattle.patch_model.specs.State.{state_of, entries_of, after_step, has_flight, landed, numbers_of, flying_of}
use Rattle.patch_model.specs.Step.{Complete}
use Rattle.patch_model.specs.StepOf.{step_of}
use Rattle.patch_view.specs.Meaning.{IsBlockOf}
use Rattle.patch_graph.specs.Meaning.{IsGraphOf}
use Rattle.patch_cache.specs.Contents.{Contents, Resident, Write, state_in, write_in}
use Rattle.patch_cache.specs.Flights.{IsEndedBy}
use Rattle.patch_cache.specs.Meaning.{IsCacheBy, IsWriteOf}
use Rattle.patch_cache.proofs.Refusing.{has_one}
use Rattle.patch_cache.proofs.Residency.{as_many, at_block, block_of_row, both_changed, places_kept, resident_row, row_inside, write_at, write_of_row, writes_set}
use Rattle.patch_cache.proofs.Stepping.{lent}
use Rattle.patch_cache.proofs.Writing.{IsStepOf, stepped, landed_here, landed_other}
use Rattle.patch_cache.proofs.Underway.{no_stranger, placed, counted_at}
use Rattle.patch_cache.proofs.caches.Cache.complete.Goals as goal

-- where the block has no row, no flight is of it
no_row : (g : _) (c : goal.After-self-in_default-2-1 g) (whole : Bool) (run : Execution) → IsCacheBy whole c.args.self.now run
    → Contains (state_of run).flights (c.args.landed.block, c.args.landed.sequence) → ⊥
no_row g c whole run at flies =
    let block : ℕ = c.args.landed.block in
    let rows = c.self.inside.rows.items in
    let seen = subst (λ (v : Contents). IsCacheBy whole v run) (sym c.self.view_is) at in
    let known : block < length run.first =
    placed run block c.args.landed.sequence (c.flights_are_single.ensures.holds run block at.legal) (λ e i. c.patches_are_placed.ensures.known run e at.legal i) flies in
    let none : slice_index_or rows block None ≡ None = ap (λ (l : _). slice_index_or rows l.block None) (sym c.landed.view_is) ∙ sym c.get_mut.ensures.value ∙ ap option_copied_mut c.in_default.is in
    let write = write_at rows block ∙ ap write_in none in
    no_stranger run None block c.args.landed.sequence (λ e f. c.flights_are_single.ensures.single run e f at.legal) (subst (IsWriteOf run block) write (seen.writes block known)) (λ w same. absurd (cc)) flies

pub returns-in_default-clause-stranger : goal.returns-in_default-clause-stranger
returns-in_default-clause-stranger g c = λ run at. no_row g c true run at

pub returns-in_default-clause-stranger_paged : goal.returns-in_default-clause-stranger_paged
returns-in_default-clause-stranger_paged g c = λ run at. no_row g c false run at

-- where its write under way has another number, or there is none, it isn't this one
no_write : (g : _) (c : goal.After-self-in_default-withdraw-1 g) (whole : Bool) (run : Execution) → IsCacheBy whole c.args.self.now run
    → Contains (state_of run).flights (c.args.landed.block, c.args.landed.sequence) → ⊥
no_write g c whole run at flies =
    let block : ℕ = c.args.landed.block in
    let rows = c.self.inside.rows.items in
    let seen = subst (λ (v : Contents). IsCacheBy whole v run) (sym c.self.view_is) at in
    let known : block < length run.first =
    placed run block c.args.landed.sequence (c.flights_are_single.ensures.holds run block at.legal) (λ e i. c.patches_are_placed.ensures.known run e at.legal i) flies in
    let value = sym c.get_mut.ensures.value ∙ ap option_copied_mut c.in-Some.is ∙ ap (λ r. Some r) (sym c.row.view_is) in
    let here = at_block rows _ block _ (ap (λ l. l.block) c.landed.view_is) value in
    let write = write_of_row rows block _ here in
    no_stranger run c.row.inside.write block c.args.landed.sequence (λ e f. c.flights_are_single.ensures.single run e f at.legal) (subst (IsWriteOf run block) write (seen.writes block known))
    (λ w same is. c.in_default-withdraw.ensures.1 w same (is ∙ sym (ap (λ l. l.sequence) c.landed.view_is))) flies

pub returns-in_default-withdraw-clause-stranger : goal.returns-in_default-withdraw-clause-stranger
returns-in_default-withdraw-clause-stranger g c = λ run at. no_write g c true run at

pub returns-in_default-withdraw-clause-stranger_paged : goal.returns-in_default-withdraw-clause-stranger_paged
returns-in_default-withdraw-clause-stranger_paged g c = λ run at. no_write g c false run at

-- The write was under way, in the block's row.

pub overflow_sub-self : goal.overflow_sub-self
overflow_sub-self g c =
    let rows = c.self.inside.rows.items in
    let value = sym c.get_mut.ensures.value ∙ ap option_copied_mut c.in-Some.is ∙ ap (λ r. Some r) (sym c.row.view_is) in
    let less = counted_at (map write_in rows) _ c.in-Some-withdraw.write (write_of_row rows _ _ value ∙ c.in-Some-withdraw.ensures.0) in
    let count = c.self.invariant.1 in omega (arith, less, count)

pub push_reserved-requires : goal.push_reserved-requires
push_reserved-requires g c =
    let rows = c.self.inside.rows.items in
    let value = sym c.get_mut.ensures.value ∙ ap option_copied_mut c.in-Some.is ∙ ap (λ r. Some r) (sym c.row.view_is) in
    let less = counted_at (map write_in rows) _ c.in-Some-withdraw.write (write_of_row rows _ _ value ∙ c.in-Some-withdraw.ensures.0) in
    let count = c.self.invariant.1 in let room = c.self.invariant.2 in let same = c.self.inside.trace.ok.0 in omega (arith, less, count, room, same)

pub invariant_of-self-2 : goal.invariant_of-self-2
invariant_of-self-2 g c =
    let rows = c.self.inside.rows.items in
    let place = c.landed.inside.0.0.0 in
    let value = sym c.get_mut.ensures.value ∙ ap option_copied_mut c.in-Some.is ∙ ap (λ r. Some r) (sym c.row.view_is) in
    let less = counted_at (map write_in rows) place c.in-Some-withdraw.write (write_of_row rows place _ value ∙ c.in-Some-withdraw.ensures.0) in
    let row : Resident = record { state = c.land_each.new.self; write = c.withdraw.new.write } in
    let left = writes_set rows place row ∙ ap (λ (w : Option Write). count_by is_some (set (map write_in rows) place w)) c.in-Some-withdraw.ensures.2 in
    let count = c.self.invariant.1 in (
      places_kept rows place (Some row) c.self.invariant.0,
      omega (arith, less, left, count),
      (let longer : length c.push_reserved.new.self.items ≡ length c.self.inside.trace.items + 1 = ap length c.push_reserved.ensures.items ∙ length-append c.self.inside.trace.items _ in
          let room = c.push_reserved.ensures.capacity in let before = c.self.invariant.2 in omega (arith, longer, room, before, less, count)),
    )

ended : (g : _) (c : goal.After-push_reserved g) (whole : Bool) (run : Execution) → IsCacheBy whole c.args.self.now run
    → IsEndedBy {A = g.row.A.Denot} whole run c.args.landed (record { block = c.args.landed.block; numbers = c.write.inside.numbers })
    (record {
      blocks = map state_in (set c.self.inside.rows.items c.landed.inside.0.0.0 (Some (record { state = c.land_each.new.self; write = c.withdraw.new.write })));
      writes = map write_in (set c.self.inside.rows.items c.landed.inside.0.0.0 (Some (record { state = c.land_each.new.self; write = c.withdraw.new.write })));
      graph = c.mark_durable.new.self;
      sends = c.self.inside.sends;
      live = c.saturating_sub.result;
      trace = map step_of c.push_reserved.new.self.items;
    })
ended g c whole run at =
    let block : ℕ = c.args.landed.block in
    let all : List Entry = entries_of run in
    let numbers : List ℕ = numbers_of (flying_of all block) in
    let next : Execution = extended run (Complete block) in
    let h : History = history_of run block in
    let after : History = history_of next block in
    let rows = c.self.inside.rows.items in
    let place : c.landed.inside.0.0.0 ≡ block = ap (λ l. l.block) c.landed.view_is in
    let seen = subst (λ (v : Contents). IsCacheBy whole v run) (sym c.self.view_is) at in
    let value = sym c.get_mut.ensures.value ∙ ap option_copied_mut c.in-Some.is ∙ ap (λ r. Some r) (sym c.row.view_is) in
    let row_here = at_block rows c.landed.inside.0.0.0 block _ place value in
    let there = block_of_row rows block _ row_here in
    let begun = write_of_row rows block _ row_here ∙ c.in-Some-withdraw.ensures.0 in
    let resident = resident_row rows block _ row_here in
    let known : block < length run.first =
    let within = row_inside rows block _ row_here in let count = seen.count in let long = length-map rows state_in in omega (arith, within, count, long) in
    let flight : IsWriteOf run block (Some c.in-Some-withdraw.write) = subst (IsWriteOf run block) begun (seen.writes block known) in
    let lawful : IsTrue (has_flight (state_of run) block) = has_one run block (Some c.in-Some-withdraw.write) flight in
    let legal : IsLegal next = c.steps_extend.ensures.legal run (Complete block) at.legal lawful in
    let state : state_of next ≡ after_step (state_of run) (Complete block) = c.steps_extend.ensures.state run (Complete block) in
    let entries : entries_of next ≡ map (landed block) all = ap (λ st. st.entries) state in
    let here : IsBlockOf c.row.inside.state [] h = lent whole _ block c.row.inside.state run there seen in
    let told : c.write.inside.numbers ≡ numbers = ap (λ w. w.numbers) c.write.view_is ∙ flight.1 in
    let on_block = c.executions_are_orderly.ensures.blocks run block at.legal known in
    let landed_block : IsBlockOf c.land_each.new.self [] after =
    subst (λ es. IsBlockOf c.land_each.new.self [] (record h { entries = es })) (sym (c.steps_change_blocks.ensures.landed run block block))
    (c.land_each.ensures.answer h block here on_block) in
    let graph : IsGraphOf c.mark_durable.new.self (entries_of next) = subst (IsGraphOf c.mark_durable.new.self) (sym entries)
    (c.mark_durable.ensures.answer all seen.graph (subst IsOrderly entries (c.executions_are_orderly.ensures.patches next legal))) in
    let sends : c.self.inside.sends ≡ (state_of next).sends = seen.sends ∙ sym (ap (λ st. st.sends) state) in
    let counted : c.saturating_sub.result ≡ count_by is_live (entries_of next) =
    let left : c.saturating_sub.result ≡ c.self.inside.live - length c.as_slice.result.now = c.saturating_sub.ensures in
    let many : length c.as_slice.result.now ≡ length numbers = ap length (c.as_slice.ensures ∙ told) in
    let before = seen.live in
    let law = c.live_are_counted.ensures.landed run block in omega arith in
    let is : IsStepOf run (Complete block) block = record {
      known = known;
      legal = legal;
      others = λ other differ. c.steps_change_blocks.ensures.landed_elsewhere run block other differ;
      writes = λ other w differ. landed_other run block other w state differ (c.flights_are_ready.ensures.landed_elsewhere run block other (λ e. differ (sym e)));
    } in
    let trace = map step_of c.push_reserved.new.self.items in
    let now = stepped whole run (Complete block) _ block c.land_each.new.self None c.mark_durable.new.self c.self.inside.sends c.saturating_sub.result trace
    seen (as_many rows) resident is landed_block (landed_here run block state) graph sends counted in
    let gone : Resident = record { state = c.land_each.new.self; write = None } in (
      subst (λ n. Contains (state_of run).flights (block, n)) (c.in-Some-withdraw.ensures.1 ∙ ap (λ l. l.sequence) c.landed.view_is) flight.0,
      refl,
      told,
      subst (λ (w : Option Write). IsCacheBy whole (record {
        blocks = map state_in (set rows c.landed.inside.0.0.0 (Some (record { state = c.land_each.new.self; write = w })));
        writes = map write_in (set rows c.landed.inside.0.0.0 (Some (record { state = c.land_each.new.self; write = w })));
        graph = c.mark_durable.new.self;
        sends = c.self.inside.sends;
        live = c.saturating_sub.result;
        trace = trace;
      }) next) (sym c.in-Some-withdraw.ensures.2)
          (subst (λ (v : Contents). IsCacheBy whole v next)
          (sym (both_changed rows c.mark_durable.new.self c.self.inside.sends c.saturating_sub.result trace c.landed.inside.0.0.0 block gone place)) now),
    )

pub returns-clause-done : goal.returns-clause-done
returns-clause-done g c = λ run at. ended g c true run at

pub returns-clause-done_paged : goal.returns-clause-done_paged
returns-clause-done_paged g c = λ run at. ended g c false run at
