use Rattle.std.proofs.Common.{◌≡◌, true, [], length, subst}
use Rattle.std.specs.Prelude.{OnOk}
use Rattle.patch_model.specs.Execution.{followed_by}
use Rattle.patch_cache.specs.Waves.{HasKept, IsFlushed, NoneCanBegin, RisesIfGivenUp, steps_since}
use Rattle.patch_cache.specs.Tries.{EachTried}
use Rattle.patch_history.specs.History.{execution_of}
use Rattle.patch_store.specs.Flushing.{HoldCached, IfRefused}
use Rattle.patch_store.proofs.Waving.{written_view, said_view, said_beside, refused_image, ok_map, cached_so}
use Rattle.patch_store.proofs.flushing.flush.Goals as goal

pub returns-clause-ran : goal.returns-clause-ran
returns-clause-ran g c h was =
    written_view _ _ c.flush-flushed.new.self c.new-flights.result c.flush-flushed.new.flights c.store.view_is c.new-flights.ensures
    (c.flush-flushed.ensures.ran true) h was

pub returns-clause-disk : goal.returns-clause-disk
returns-clause-disk g c honest h was =
    said_beside (λ h steps. HasKept g.D.Device (execution_of h) steps c.args.device.now c.flush-flushed.new.device) _ _ c.flush-flushed.new.self
    c.new-flights.result c.store.view_is c.new-flights.ensures (λ h runs. c.flush-flushed.ensures.disk honest true (execution_of h) runs) h was

pub returns-clause-flushed : goal.returns-clause-flushed
returns-clause-flushed g c h still =
    said_view (λ h steps. OnOk c.flush-flushed.result (IsFlushed (followed_by (execution_of h) steps))) _ _ c.flush-flushed.new.self
    c.new-flights.result c.store.view_is c.new-flights.ensures (λ h runs. c.flush-flushed.ensures.flushed (execution_of h) runs) h still

pub returns-clause-cached : goal.returns-clause-cached
returns-clause-cached g c honest h still held =
    let steps = steps_since c.args.store.now.cache c.flush-flushed.new.self in
    let run = followed_by (execution_of h) steps in
    let contents = g.D.Device.contents c.flush-flushed.new.device in
    ok_map (IsFlushed run) (HoldCached run contents) c.flush-flushed.result
    (λ flushed. cached_so c.flushed_images_are_cached.ensures run contents flushed ((returns-clause-disk g c honest h still.represents).images held))
    (returns-clause-flushed g c h still)

pub returns-clause-gave_up : goal.returns-clause-gave_up
returns-clause-gave_up g c h was count =
    let d = g.D.Device in
    let before = c.args.device.now in
    let now = c.flush-flushed.new.device in
    said_beside (λ h steps. d.block_count before ≡ length h.opening → RisesIfGivenUp c.flush-flushed.result (d.fault_count before) (d.fault_count now)) _ _
    c.flush-flushed.new.self c.new-flights.result c.store.view_is c.new-flights.ensures
    (λ h runs count. c.flush-flushed.ensures.gave_up true (execution_of h) (record { runs = runs; blocks = count })) h was count

pub returns-clause-refused : goal.returns-clause-refused
returns-clause-refused g c h was count =
    let d = g.D.Device in
    let before = c.args.device.now in
    let now = c.flush-flushed.new.device in
    said_beside (λ h steps. d.block_count before ≡ length h.opening → IfRefused d c.flush-flushed.result (followed_by (execution_of h) steps) before now) _ _
    c.flush-flushed.new.self c.new-flights.result c.store.view_is c.new-flights.ensures
    (λ h runs count.
    refused_image d c.flush-flushed.result _ c.flush-flushed.new.self c.flush-flushed.new.flights before now (c.flush-flushed.ensures.ran true (execution_of h) runs).runs
    (c.flush-flushed.ensures.refused true (execution_of h) (record { runs = runs; blocks = count }))) h was count

pub returns-clause-done : goal.returns-clause-done
returns-clause-done g c h was =
    said_beside (λ h steps. OnOk c.flush-flushed.result (NoneCanBegin (followed_by (execution_of h) steps))) _ _ c.flush-flushed.new.self
    c.new-flights.result c.store.view_is c.new-flights.ensures (λ h runs. c.flush-flushed.ensures.done true (execution_of h) runs) h was

pub returns-clause-each : goal.returns-clause-each
returns-clause-each g c h was =
    said_beside (λ h steps. EachTried {A = g.row.A.Denot} g.D.Device steps [] c.args.device.now c.flush-flushed.new.device) _ _ c.flush-flushed.new.self
    c.new-flights.result c.store.view_is c.new-flights.ensures
    (λ h runs. subst (λ held. EachTried {A = g.row.A.Denot} g.D.Device (steps_since c.store.inside.cache c.flush-flushed.new.self) held c.args.device.now c.flush-flushed.new.device) c.new-flights.ensures (c.flush-flushed.ensures.each true (execution_of h) runs)) h was
