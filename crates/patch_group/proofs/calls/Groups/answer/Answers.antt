use Rattle.std.proofs.Common.{◌∙◌, true, false, Err, ap, sym, subst}
use Rattle.patch_cache.specs.Contents.{Contents}
use Rattle.patch_cache.specs.Meaning.{IsCacheOf}
use Rattle.patch_cache.specs.Refusals.{bring_cause}
use Rattle.patch_cache.specs.Waves.{HoldImages}
use Rattle.patch_cache.specs.Asks.{Refused}
use Rattle.patch_group.specs.Asks.{Plain, Patch}
use Rattle.patch_group.specs.Runs.{group_ask_of, group_answer_of, RunsWith, RunsWithBy, IsGroupAnswered, IsAnsweredOnImages}
use Rattle.patch_group.proofs.Patching.{patched, patched_behind, patched_images, not_brought, why_not_brought, fault_told}
use Rattle.patch_group.proofs.calls.Groups.answer.Goals as goal

pub returns-in-Ok-clause-answer : goal.returns-in-Ok-clause-answer
returns-in-Ok-clause-answer g c run r =
    let p = c.in-Patch in
    let gs = c.args.self.now in
    let told = c.answer_patch in
    let answer = group_answer_of told.result in
    let mid = c.bring.new.device in
    let flights = c.args.flights.now in
    let bytes = p.bytes in
    let names = p.after in
    let brought = c.in-Ok.ensures.whole run r.on.runs.cache_is in
    let one =
    patched c.steps_extend.ensures.state c.executions_are_orderly.ensures.numbered c.flights_are_ready.ensures.made c.images_stay.ensures c.disks_stay.ensures g.D.Device true run gs told.new.self p.writer p.block
    p.start bytes names p.undo answer c.args.cache.now told.new.cache flights mid (subst (λ d. RunsWith g.D.Device c.args.cache.now flights gs d run) (sym brought.2) r)
    (told.ensures.answer run (subst (λ (v : Contents). IsCacheOf v run) (sym brought.1) r.on.runs.cache_is)) told.ensures.patched.groups_are told.ensures.patched.no_fault in
    subst (λ d. IsGroupAnswered g.D.Device run gs (group_ask_of c.args.ask) answer told.new.cache flights told.new.self d mid) brought.2
    (subst (λ a. IsGroupAnswered g.D.Device run gs (group_ask_of a) answer told.new.cache flights told.new.self mid mid) (sym p.is)
    one)

pub returns-in-Err-clause-answer : goal.returns-in-Err-clause-answer
returns-in-Err-clause-answer g c run r = absurd (cc (c.in-Err.ensures.whole run r.on.runs.cache_is).0)

pub returns-in-Ok-clause-paged : goal.returns-in-Ok-clause-paged
returns-in-Ok-clause-paged g c run r =
    let p = c.in-Patch in
    let gs = c.args.self.now in
    let told = c.answer_patch in
    let answer = group_answer_of told.result in
    let device = g.D.Device in
    let old = c.args.device.now in
    let mid = c.bring.new.device in
    let flights = c.args.flights.now in
    let bytes = p.bytes in
    let names = p.after in
    let brought = c.in-Ok.ensures in
    let cache_is = brought.paged run r.runs.on.runs.cache_is r.honest r.images in
    let made = told.ensures.paged run cache_is in
    let ask = Patch p.writer p.block p.start bytes names p.undo in
    let runs : RunsWithBy device false c.bring.new.self flights gs mid run = record {
      on = record { runs = record { cache_is = cache_is; flights_are = r.runs.on.runs.flights_are }; blocks = brought.device.count ∙ r.runs.on.blocks };
      groups_are = r.runs.groups_are;
    } in
    let one : IsAnsweredOnImages device run gs ask answer told.new.cache flights told.new.self old mid = record {
      answered = patched_behind device c.crashes_join.ensures.joined run gs told.new.self ask answer c.bring.new.self told.new.cache flights old mid brought.device brought.no_fault brought.same (brought.crash run) runs
          (patched c.steps_extend.ensures.state c.executions_are_orderly.ensures.numbered c.flights_are_ready.ensures.made c.images_stay.ensures c.disks_stay.ensures device false run gs told.new.self p.writer p.block
          p.start bytes names p.undo answer c.bring.new.self told.new.cache flights mid runs made told.ensures.patched.groups_are told.ensures.patched.no_fault);
      images = patched_images c.steps_extend.ensures.state c.executions_are_orderly.ensures.numbered c.images_stay.ensures run gs p.writer p.block p.start bytes names p.undo answer (device.contents mid) made.right
          (subst (HoldImages run) (sym (brought.same r.honest)) r.images);
    } in
    subst (λ a. IsAnsweredOnImages device run gs (group_ask_of a) answer told.new.cache flights told.new.self old mid) (sym p.is)
    one

pub returns-in-Err-clause-paged : goal.returns-in-Err-clause-paged
returns-in-Err-clause-paged g c run r =
    let p = c.in-Patch in
    let gs = c.args.self.now in
    let device = g.D.Device in
    let old = c.args.device.now in
    let mid = c.bring.new.device in
    let flights = c.args.flights.now in
    let brought = c.in-Err.ensures in
    let refusal = c.in-Err.refusal in
    subst (λ a. IsAnsweredOnImages device run gs (group_ask_of a) (Plain (Refused c.refusal.result)) c.bring.new.self flights gs old mid) (sym p.is)
    (subst (λ (v : Contents). IsAnsweredOnImages device run gs (Patch p.writer p.block p.start p.bytes p.after p.undo) (Plain (Refused c.refusal.result)) v flights gs old mid) (sym brought.refused)
    (subst (λ cause. IsAnsweredOnImages device run gs (Patch p.writer p.block p.start p.bytes p.after p.undo) (Plain (Refused cause)) c.args.cache.now flights gs old mid) (sym c.refusal.ensures)
    (not_brought device run gs p.writer p.block p.start p.bytes p.after p.undo (bring_cause refusal) c.args.cache.now flights old mid r (brought.missing run r.runs.on.runs.cache_is) (why_not_brought refusal) brought.device
    (λ is. brought.fault (ap (λ e. Err e) (fault_told refusal is)) (r.runs.on.runs.cache_is.count ∙ sym r.runs.on.blocks)) (brought.same r.honest) (brought.crash run))))
