use Rattle.std.proofs.Common.{◌≡◌, ◌++◌, ◌∙◌, true, false, Err, inl, ap, sym, subst}
use Rattle.patch_device.specs.SameDevice.{same_still}
use Rattle.patch_cache.specs.Contents.{Contents}
use Rattle.patch_cache.specs.Meaning.{IsCacheOf}
use Rattle.patch_cache.specs.Refusals.{bring_cause}
use Rattle.patch_cache.specs.Waves.{HoldImages}
use Rattle.patch_cache.specs.Asks.{Refused, ask_of, answer_of}
use Rattle.patch_group.specs.Asks.{Plain, Patch, groups_after, part_of, steps_of}
use Rattle.patch_group.specs.Runs.{group_ask_of, group_answer_of, RunsWith, RunsWithBy, IsGroupAnswered, IsAnsweredOnImages}
use Rattle.patch_group.proofs.Passing.{nothing_added}
use Rattle.patch_group.proofs.Patching.{plain, patched, patched_behind, patched_images, not_brought, why_not_brought, fault_told, called, called_on_images}
use Rattle.patch_group.proofs.calls.Groups.answer_lent.Goals as goal

pub returns-in-Plain-clause-answer : goal.returns-in-Plain-clause-answer
returns-in-Plain-clause-answer g c run r =
    let one = c.answer in
    let told = one.ensures in
    let served = told.served run r.on in
    let gs = c.args.self.now in
    subst (λ a. IsGroupAnswered g.D.Device run gs (group_ask_of a) (Plain (answer_of one.result)) one.new.self one.new.flights gs c.args.device.now one.new.device) (sym c.in-Plain.is)
    (plain c.steps_extend.ensures.state c.executions_are_orderly.ensures.numbered g.D.Device true run gs (ask_of c.in-Plain.ask) (answer_of one.result) c.args.cache.now one.new.self c.args.flights.now one.new.flights
    c.args.device.now one.new.device r served.answered told.device.count told.device.faults served.fault served.written served.crash)

pub returns-in-Group-clause-answer : goal.returns-in-Group-clause-answer
returns-in-Group-clause-answer g c run r =
    let told = c.answer_group in
    subst (λ a. IsGroupAnswered g.D.Device run c.args.self.now (group_ask_of a) (group_answer_of told.result) c.args.cache.now c.args.flights.now told.new.self c.args.device.now c.args.device.now) (sym c.in-Group.is)
    (called c.steps_extend.ensures.state c.executions_are_orderly.ensures.numbered g.D.Device true run _ _ _ _ _ _ _ r (told.ensures.right run) told.ensures.groups_are told.ensures.no_part)

pub returns-in-Engage-clause-answer : goal.returns-in-Engage-clause-answer
returns-in-Engage-clause-answer g c run r =
    let told = c.answer_engage in
    subst (λ a. IsGroupAnswered g.D.Device run c.args.self.now (group_ask_of a) (group_answer_of told.result) c.args.cache.now c.args.flights.now told.new.self c.args.device.now c.args.device.now) (sym c.in-Engage.is)
    (called c.steps_extend.ensures.state c.executions_are_orderly.ensures.numbered g.D.Device true run _ _ _ _ _ _ _ r (told.ensures.right run) told.ensures.groups_are told.ensures.no_part)

pub returns-in-Disengage-clause-answer : goal.returns-in-Disengage-clause-answer
returns-in-Disengage-clause-answer g c run r =
    let told = c.answer_disengage in
    subst (λ a. IsGroupAnswered g.D.Device run c.args.self.now (group_ask_of a) (group_answer_of told.result) c.args.cache.now c.args.flights.now told.new.self c.args.device.now c.args.device.now) (sym c.in-Disengage.is)
    (called c.steps_extend.ensures.state c.executions_are_orderly.ensures.numbered g.D.Device true run _ _ _ _ _ _ _ r (told.ensures.right run) told.ensures.groups_are told.ensures.no_part)

pub returns-in-Depend-clause-answer : goal.returns-in-Depend-clause-answer
returns-in-Depend-clause-answer g c run r =
    let told = c.answer_depend in
    subst (λ a. IsGroupAnswered g.D.Device run c.args.self.now (group_ask_of a) (group_answer_of told.result) c.args.cache.now c.args.flights.now told.new.self c.args.device.now c.args.device.now) (sym c.in-Depend.is)
    (called c.steps_extend.ensures.state c.executions_are_orderly.ensures.numbered g.D.Device true run _ _ _ _ _ _ _ r (told.ensures.right run) told.ensures.groups_are told.ensures.no_part)

pub returns-in-Close-clause-answer : goal.returns-in-Close-clause-answer
returns-in-Close-clause-answer g c run r =
    let told = c.answer_close in
    subst (λ a. IsGroupAnswered g.D.Device run c.args.self.now (group_ask_of a) (group_answer_of told.result) c.args.cache.now c.args.flights.now told.new.self c.args.device.now c.args.device.now) (sym c.in-Close.is)
    (called c.steps_extend.ensures.state c.executions_are_orderly.ensures.numbered g.D.Device true run _ _ _ _ _ _ _ r (told.ensures.right run) told.ensures.groups_are told.ensures.no_part)

pub returns-in-Pending-clause-answer : goal.returns-in-Pending-clause-answer
returns-in-Pending-clause-answer g c run r =
    let told = c.answer_pending in
    let gs = c.args.self.now in
    subst (λ a. IsGroupAnswered g.D.Device run gs (group_ask_of a) (group_answer_of told.result) c.args.cache.now c.args.flights.now gs c.args.device.now c.args.device.now) (sym c.in-Pending.is)
    (called c.steps_extend.ensures.state c.executions_are_orderly.ensures.numbered g.D.Device true run _ _ _ _ _ _ _ r (inl (told.ensures.answer run r.on.runs.cache_is r.groups_are)) told.ensures.groups told.ensures.no_part)

pub returns-in-Group-clause-groups : goal.returns-in-Group-clause-groups
returns-in-Group-clause-groups g c =
    subst (λ a. c.answer_group.new.self ≡ groups_after c.args.self.now (group_ask_of a) (group_answer_of c.answer_group.result)) (sym c.in-Group.is) c.answer_group.ensures.groups_are

pub returns-in-Group-clause-trace : goal.returns-in-Group-clause-trace
returns-in-Group-clause-trace g c =
    subst (λ a. c.args.cache.now.trace ≡ c.args.cache.now.trace ++ steps_of (part_of c.args.self.now (group_ask_of a) (group_answer_of c.answer_group.result))) (sym c.in-Group.is)
    (nothing_added c.args.cache.now.trace _ c.answer_group.ensures.no_part)

pub returns-in-Group-clause-device : goal.returns-in-Group-clause-device
returns-in-Group-clause-device g c = same_still g.D.Device _

pub returns-in-Engage-clause-groups : goal.returns-in-Engage-clause-groups
returns-in-Engage-clause-groups g c =
    subst (λ a. c.answer_engage.new.self ≡ groups_after c.args.self.now (group_ask_of a) (group_answer_of c.answer_engage.result)) (sym c.in-Engage.is) c.answer_engage.ensures.groups_are

pub returns-in-Engage-clause-trace : goal.returns-in-Engage-clause-trace
returns-in-Engage-clause-trace g c =
    subst (λ a. c.args.cache.now.trace ≡ c.args.cache.now.trace ++ steps_of (part_of c.args.self.now (group_ask_of a) (group_answer_of c.answer_engage.result))) (sym c.in-Engage.is)
    (nothing_added c.args.cache.now.trace _ c.answer_engage.ensures.no_part)

pub returns-in-Engage-clause-device : goal.returns-in-Engage-clause-device
returns-in-Engage-clause-device g c = same_still g.D.Device _

pub returns-in-Disengage-clause-groups : goal.returns-in-Disengage-clause-groups
returns-in-Disengage-clause-groups g c =
    subst (λ a. c.answer_disengage.new.self ≡ groups_after c.args.self.now (group_ask_of a) (group_answer_of c.answer_disengage.result)) (sym c.in-Disengage.is) c.answer_disengage.ensures.groups_are

pub returns-in-Disengage-clause-trace : goal.returns-in-Disengage-clause-trace
returns-in-Disengage-clause-trace g c =
    subst (λ a. c.args.cache.now.trace ≡ c.args.cache.now.trace ++ steps_of (part_of c.args.self.now (group_ask_of a) (group_answer_of c.answer_disengage.result))) (sym c.in-Disengage.is)
    (nothing_added c.args.cache.now.trace _ c.answer_disengage.ensures.no_part)

pub returns-in-Disengage-clause-device : goal.returns-in-Disengage-clause-device
returns-in-Disengage-clause-device g c = same_still g.D.Device _

pub returns-in-Depend-clause-groups : goal.returns-in-Depend-clause-groups
returns-in-Depend-clause-groups g c =
    subst (λ a. c.answer_depend.new.self ≡ groups_after c.args.self.now (group_ask_of a) (group_answer_of c.answer_depend.result)) (sym c.in-Depend.is) c.answer_depend.ensures.groups_are

pub returns-in-Depend-clause-trace : goal.returns-in-Depend-clause-trace
returns-in-Depend-clause-trace g c =
    subst (λ a. c.args.cache.now.trace ≡ c.args.cache.now.trace ++ steps_of (part_of c.args.self.now (group_ask_of a) (group_answer_of c.answer_depend.result))) (sym c.in-Depend.is)
    (nothing_added c.args.cache.now.trace _ c.answer_depend.ensures.no_part)

pub returns-in-Depend-clause-device : goal.returns-in-Depend-clause-device
returns-in-Depend-clause-device g c = same_still g.D.Device _

pub returns-in-Close-clause-groups : goal.returns-in-Close-clause-groups
returns-in-Close-clause-groups g c =
    subst (λ a. c.answer_close.new.self ≡ groups_after c.args.self.now (group_ask_of a) (group_answer_of c.answer_close.result)) (sym c.in-Close.is) c.answer_close.ensures.groups_are

pub returns-in-Close-clause-trace : goal.returns-in-Close-clause-trace
returns-in-Close-clause-trace g c =
    subst (λ a. c.args.cache.now.trace ≡ c.args.cache.now.trace ++ steps_of (part_of c.args.self.now (group_ask_of a) (group_answer_of c.answer_close.result))) (sym c.in-Close.is)
    (nothing_added c.args.cache.now.trace _ c.answer_close.ensures.no_part)

pub returns-in-Close-clause-device : goal.returns-in-Close-clause-device
returns-in-Close-clause-device g c = same_still g.D.Device _

pub returns-in-Pending-clause-groups : goal.returns-in-Pending-clause-groups
returns-in-Pending-clause-groups g c =
    subst (λ a. c.args.self.now ≡ groups_after c.args.self.now (group_ask_of a) (group_answer_of c.answer_pending.result)) (sym c.in-Pending.is) c.answer_pending.ensures.groups

pub returns-in-Pending-clause-trace : goal.returns-in-Pending-clause-trace
returns-in-Pending-clause-trace g c =
    subst (λ a. c.args.cache.now.trace ≡ c.args.cache.now.trace ++ steps_of (part_of c.args.self.now (group_ask_of a) (group_answer_of c.answer_pending.result))) (sym c.in-Pending.is)
    (nothing_added c.args.cache.now.trace _ c.answer_pending.ensures.no_part)

pub returns-in-Pending-clause-device : goal.returns-in-Pending-clause-device
returns-in-Pending-clause-device g c = same_still g.D.Device _

pub returns-in-Plain-clause-paged : goal.returns-in-Plain-clause-paged
returns-in-Plain-clause-paged g c run r =
    let one = c.answer in
    let told = one.ensures in
    let paged = told.paged run (record { on = r.runs.on; honest = r.honest; images = r.images }) in
    let served = paged.served in
    let gs = c.args.self.now in
    subst (λ a. IsAnsweredOnImages g.D.Device run gs (group_ask_of a) (Plain (answer_of one.result)) one.new.self one.new.flights gs c.args.device.now one.new.device) (sym c.in-Plain.is)
    (record {
      answered = plain c.steps_extend.ensures.state c.executions_are_orderly.ensures.numbered g.D.Device false run gs (ask_of c.in-Plain.ask) (answer_of one.result) c.args.cache.now one.new.self c.args.flights.now
          one.new.flights c.args.device.now one.new.device r.runs served.answered told.device.count told.device.faults served.fault served.written served.crash;
      images = paged.images;
    })

pub returns-in-Group-clause-paged : goal.returns-in-Group-clause-paged
returns-in-Group-clause-paged g c run r =
    let told = c.answer_group in
    subst (λ a. IsAnsweredOnImages g.D.Device run c.args.self.now (group_ask_of a) (group_answer_of told.result) c.args.cache.now c.args.flights.now told.new.self c.args.device.now c.args.device.now) (sym c.in-Group.is)
    (called_on_images c.steps_extend.ensures.state c.executions_are_orderly.ensures.numbered g.D.Device run _ _ _ _ _ _ _ r (told.ensures.right run) told.ensures.groups_are told.ensures.no_part)

pub returns-in-Engage-clause-paged : goal.returns-in-Engage-clause-paged
returns-in-Engage-clause-paged g c run r =
    let told = c.answer_engage in
    subst (λ a. IsAnsweredOnImages g.D.Device run c.args.self.now (group_ask_of a) (group_answer_of told.result) c.args.cache.now c.args.flights.now told.new.self c.args.device.now c.args.device.now) (sym c.in-Engage.is)
    (called_on_images c.steps_extend.ensures.state c.executions_are_orderly.ensures.numbered g.D.Device run _ _ _ _ _ _ _ r (told.ensures.right run) told.ensures.groups_are told.ensures.no_part)

pub returns-in-Disengage-clause-paged : goal.returns-in-Disengage-clause-paged
returns-in-Disengage-clause-paged g c run r =
    let told = c.answer_disengage in
    subst (λ a. IsAnsweredOnImages g.D.Device run c.args.self.now (group_ask_of a) (group_answer_of told.result) c.args.cache.now c.args.flights.now told.new.self c.args.device.now c.args.device.now) (sym c.in-Disengage.is)
    (called_on_images c.steps_extend.ensures.state c.executions_are_orderly.ensures.numbered g.D.Device run _ _ _ _ _ _ _ r (told.ensures.right run) told.ensures.groups_are told.ensures.no_part)

pub returns-in-Depend-clause-paged : goal.returns-in-Depend-clause-paged
returns-in-Depend-clause-paged g c run r =
    let told = c.answer_depend in
    subst (λ a. IsAnsweredOnImages g.D.Device run c.args.self.now (group_ask_of a) (group_answer_of told.result) c.args.cache.now c.args.flights.now told.new.self c.args.device.now c.args.device.now) (sym c.in-Depend.is)
    (called_on_images c.steps_extend.ensures.state c.executions_are_orderly.ensures.numbered g.D.Device run _ _ _ _ _ _ _ r (told.ensures.right run) told.ensures.groups_are told.ensures.no_part)

pub returns-in-Close-clause-paged : goal.returns-in-Close-clause-paged
returns-in-Close-clause-paged g c run r =
    let told = c.answer_close in
    subst (λ a. IsAnsweredOnImages g.D.Device run c.args.self.now (group_ask_of a) (group_answer_of told.result) c.args.cache.now c.args.flights.now told.new.self c.args.device.now c.args.device.now) (sym c.in-Close.is)
    (called_on_images c.steps_extend.ensures.state c.executions_are_orderly.ensures.numbered g.D.Device run _ _ _ _ _ _ _ r (told.ensures.right run) told.ensures.groups_are told.ensures.no_part)

pub returns-in-Pending-clause-paged : goal.returns-in-Pending-clause-paged
returns-in-Pending-clause-paged g c run r =
    let told = c.answer_pending in
    let gs = c.args.self.now in
    subst (λ a. IsAnsweredOnImages g.D.Device run gs (group_ask_of a) (group_answer_of told.result) c.args.cache.now c.args.flights.now gs c.args.device.now c.args.device.now) (sym c.in-Pending.is)
    (called_on_images c.steps_extend.ensures.state c.executions_are_orderly.ensures.numbered g.D.Device run _ _ _ _ _ _ _ r (inl (told.ensures.paged run r.runs.on.runs.cache_is r.runs.groups_are)) told.ensures.groups told.ensures.no_part)

pub returns-in-Ok-clause-answer : goal.returns-in-Ok-clause-answer
returns-in-Ok-clause-answer g c run r =
    let p = c.in-Patch in
    let gs = c.args.self.now in
    let told = c.answer_lent_patch in
    let answer = group_answer_of told.result in
    let mid = c.bring.new.device in
    let flights = c.args.flights.now in
    let bytes = c.as_slice.result.now in
    let names = c.as_slice-in-Ok.result.now in
    let brought = c.in-Ok.ensures.whole run r.on.runs.cache_is in
    let one =
    patched c.steps_extend.ensures.state c.executions_are_orderly.ensures.numbered c.flights_are_ready.ensures.made c.images_stay.ensures c.disks_stay.ensures g.D.Device true run gs told.new.self p.writer p.block
    p.start bytes names p.undo answer c.args.cache.now told.new.cache flights mid (subst (λ d. RunsWith g.D.Device c.args.cache.now flights gs d run) (sym brought.2) r)
    (told.ensures.answer run (subst (λ (v : Contents). IsCacheOf v run) (sym brought.1) r.on.runs.cache_is)) told.ensures.patched.groups_are told.ensures.patched.no_fault in
    subst (λ d. IsGroupAnswered g.D.Device run gs (group_ask_of c.args.ask.now) answer told.new.cache flights told.new.self d mid) brought.2
    (subst (λ a. IsGroupAnswered g.D.Device run gs (group_ask_of a) answer told.new.cache flights told.new.self mid mid) (sym p.is)
    (subst (λ ns. IsGroupAnswered g.D.Device run gs (Patch p.writer p.block p.start p.bytes ns p.undo) answer told.new.cache flights told.new.self mid mid) c.as_slice-in-Ok.ensures
    (subst (λ bs. IsGroupAnswered g.D.Device run gs (Patch p.writer p.block p.start bs names p.undo) answer told.new.cache flights told.new.self mid mid) c.as_slice.ensures one)))

pub returns-in-Err-clause-answer : goal.returns-in-Err-clause-answer
returns-in-Err-clause-answer g c run r = absurd (cc (c.in-Err.ensures.whole run r.on.runs.cache_is).0)

pub returns-in-Ok-clause-paged : goal.returns-in-Ok-clause-paged
returns-in-Ok-clause-paged g c run r =
    let p = c.in-Patch in
    let gs = c.args.self.now in
    let told = c.answer_lent_patch in
    let answer = group_answer_of told.result in
    let device = g.D.Device in
    let old = c.args.device.now in
    let mid = c.bring.new.device in
    let flights = c.args.flights.now in
    let bytes = c.as_slice.result.now in
    let names = c.as_slice-in-Ok.result.now in
    let brought = c.in-Ok.ensures in
    let cache_is = brought.paged run r.runs.on.runs.cache_is r.honest r.images in
    let made = told.ensures.paged run cache_is in
    let ask = Patch p.writer p.block p.start bytes names p.undo in
    let runs : RunsWithBy device false c.bring.new.self flights gs mid run = record {
      on = record { runs = record { cache_is = cache_is; flights_are = r.runs.on.runs.flights_are }; blocks = brought.device.count ∙ r.runs.on.blocks };
      groups_are = r.runs.groups_are;
    } in
    let one : IsAnsweredOnImages device run gs ask answer told.new.cache flights told.new.self old mid = record {
      answered = patched_behind device c.crashes_join.ensures.joined run gs told.new.self ask answer c.bring.new.self told.new.cache flights old mid brought.device brought.no_fault brought.same (brought.crash run) runs
          (patched c.steps_extend.ensures.state c.executions_are_orderly.ensures.numbered c.flights_are_ready.ensures.made c.images_stay.ensures c.disks_stay.ensures device false run gs told.new.self p.writer p.block
          p.start bytes names p.undo answer c.bring.new.self told.new.cache flights mid runs made told.ensures.patched.groups_are told.ensures.patched.no_fault);
      images = patched_images c.steps_extend.ensures.state c.executions_are_orderly.ensures.numbered c.images_stay.ensures run gs p.writer p.block p.start bytes names p.undo answer (device.contents mid) made.right
          (subst (HoldImages run) (sym (brought.same r.honest)) r.images);
    } in
    subst (λ a. IsAnsweredOnImages device run gs (group_ask_of a) answer told.new.cache flights told.new.self old mid) (sym p.is)
    (subst (λ ns. IsAnsweredOnImages device run gs (Patch p.writer p.block p.start p.bytes ns p.undo) answer told.new.cache flights told.new.self old mid) c.as_slice-in-Ok.ensures
    (subst (λ bs. IsAnsweredOnImages device run gs (Patch p.writer p.block p.start bs names p.undo) answer told.new.cache flights told.new.self old mid) c.as_slice.ensures one))

pub returns-in-Err-clause-paged : goal.returns-in-Err-clause-paged
returns-in-Err-clause-paged g c run r =
    let p = c.in-Patch in
    let gs = c.args.self.now in
    let device = g.D.Device in
    let old = c.args.device.now in
    let mid = c.bring.new.device in
    let flights = c.args.flights.now in
    let brought = c.in-Err.ensures in
    let refusal = c.in-Err.refusal in
    subst (λ a. IsAnsweredOnImages device run gs (group_ask_of a) (Plain (Refused c.refusal.result)) c.bring.new.self flights gs old mid) (sym p.is)
    (subst (λ (v : Contents). IsAnsweredOnImages device run gs (Patch p.writer p.block p.start p.bytes p.after p.undo) (Plain (Refused c.refusal.result)) v flights gs old mid) (sym brought.refused)
    (subst (λ cause. IsAnsweredOnImages device run gs (Patch p.writer p.block p.start p.bytes p.after p.undo) (Plain (Refused cause)) c.args.cache.now flights gs old mid) (sym c.refusal.ensures)
    (not_brought device run gs p.writer p.block p.start p.bytes p.after p.undo (bring_cause refusal) c.args.cache.now flights old mid r (brought.missing run r.runs.on.runs.cache_is) (why_not_brought refusal) brought.device
    (λ is. brought.fault (ap (λ e. Err e) (fault_told refusal is)) (r.runs.on.runs.cache_is.count ∙ sym r.runs.on.blocks)) (brought.same r.honest) (brought.crash run))))
