use Rattle.std.proofs.Common.{◌≡◌, ◌∙◌, refl, ap, arith, w32, to_z, of_z, to_z-of_z}
use Rattle.std.specs.Prelude.{Some, IsFalse, pos, length, []}
use Rattle.patch_c.specs.Tape.{file_of, contents_of, block_count_of, fault_count_of, events_of}
use Rattle.patch_history.specs.History.{History}
use Rattle.patch_store.specs.Flushing.{StandsStill}
use Rattle.patch_store.specs.Meaning.{IsStoreOf}
use Rattle.patch_disks.specs.Running.{StandsOn}
use Rattle.patch_c.specs.declared.opened.Opened.{Opened}
use Rattle.patch_handles.specs.Answering.{number_of, IsOf}
use Rattle.patch_c.specs.Saving.{IsSynced, HasSaved, HasWrittenOn, LandsSafely, LastsOnceDone, HasCause}
use Rattle.patch_c.proofs.Between.{between_so, told_so, done_is}
use Rattle.patch_c.proofs.syncing.fstch_core_sync.Goals as goal

pub returns-clause-synced : goal.returns-clause-synced
returns-clause-synced c =
    let n : to_z w32 (of_z w32 c.number.result) ≡ number_of c.sync-answer.result = grind (arith, to_z-of_z) in
    told_so c.args.handle.now c.put_back.new.self c.deref_mut.result.now c.sync-answer.new.self
    (λ number before after. (h : History) → StandsStill before.store h → number ≡ pos 0 → IsSynced h after.store)
    _ c.sync-answer.result (ap (λ (o : Opened). Some o) c.deref_mut.ensures.value ∙ c.in-Some.ensures.value) c.put_back.ensures.value n
    (λ h still done. c.sync-answer.ensures.synced h still (done_is c.sync-answer.result done))

pub returns-clause-written : goal.returns-clause-written
returns-clause-written c =
    between_so c.args.handle.now c.put_back.new.self c.deref_mut.result.now c.sync-answer.new.self
    (λ before after. IsFalse before.is_spent → (h : History) → IsStoreOf before.store h → HasWrittenOn h after.store)
    (ap (λ (o : Opened). Some o) c.deref_mut.ensures.value ∙ c.in-Some.ensures.value) c.put_back.ensures.value c.sync-answer.ensures.written

pub returns-clause-cause : goal.returns-clause-cause
returns-clause-cause c =
    let n : to_z w32 (of_z w32 c.number.result) ≡ number_of c.sync-answer.result = grind (arith, to_z-of_z) in
    told_so c.args.handle.now c.put_back.new.self c.deref_mut.result.now c.sync-answer.new.self
    (λ number before after. IsFalse before.is_spent → (h : History) → IsStoreOf before.store h → block_count_of before.device ≡ length h.opening
    → IsOf number (λ answer. HasCause answer (fault_count_of before.device) (fault_count_of after.device)))
    _ c.sync-answer.result (ap (λ (o : Opened). Some o) c.deref_mut.ensures.value ∙ c.in-Some.ensures.value) c.put_back.ensures.value n
    (λ unspent h represents counted. (c.sync-answer.result, refl, c.sync-answer.ensures.cause unspent h represents counted))

pub returns-clause-saved : goal.returns-clause-saved
returns-clause-saved c =
    let n : to_z w32 (of_z w32 c.number.result) ≡ number_of c.sync-answer.result = grind (arith, to_z-of_z) in
    told_so c.args.handle.now c.put_back.new.self c.deref_mut.result.now c.sync-answer.new.self
    (λ number before after. (h : History) → StandsOn before.store h (contents_of before.device) → number ≡ pos 0 → HasSaved h after.store (contents_of after.device))
    _ c.sync-answer.result (ap (λ (o : Opened). Some o) c.deref_mut.ensures.value ∙ c.in-Some.ensures.value) c.put_back.ensures.value n
    (λ h stands done. c.sync-answer.ensures.saved h stands (done_is c.sync-answer.result done))

pub returns-clause-lands : goal.returns-clause-lands
returns-clause-lands c =
    between_so c.args.handle.now c.put_back.new.self c.deref_mut.result.now c.sync-answer.new.self
    (λ before after. IsFalse before.is_spent → events_of before.device ≡ [] → (h : History) → StandsOn before.store h (file_of before.device)
    → LandsSafely h after.store before.device after.device)
    (ap (λ (o : Opened). Some o) c.deref_mut.ensures.value ∙ c.in-Some.ensures.value) c.put_back.ensures.value c.sync-answer.ensures.lands

pub returns-clause-number : goal.returns-clause-number
returns-clause-number c =
    between_so c.args.handle.now c.put_back.new.self c.deref_mut.result.now c.sync-answer.new.self (λ before after. after.file ≡ before.file)
    (ap (λ (o : Opened). Some o) c.deref_mut.ensures.value ∙ c.in-Some.ensures.value) c.put_back.ensures.value c.sync-answer.ensures.number

pub returns-clause-lasts : goal.returns-clause-lasts
returns-clause-lasts c =
    let n : to_z w32 (of_z w32 c.number.result) ≡ number_of c.sync-answer.result = grind (arith, to_z-of_z) in
    told_so c.args.handle.now c.put_back.new.self c.deref_mut.result.now c.sync-answer.new.self
    (λ number before after. events_of before.device ≡ [] → number ≡ pos 0 → LastsOnceDone after.device)
    _ c.sync-answer.result (ap (λ (o : Opened). Some o) c.deref_mut.ensures.value ∙ c.in-Some.ensures.value) c.put_back.ensures.value n
    (λ none done. c.sync-answer.ensures.lasts none (done_is c.sync-answer.result done))

pub returns-clause-barriers : goal.returns-clause-barriers
returns-clause-barriers c =
    between_so c.args.handle.now c.put_back.new.self c.deref_mut.result.now c.sync-answer.new.self (λ before after. after.barriers ≡ before.barriers)
    (ap (λ (o : Opened). Some o) c.deref_mut.ensures.value ∙ c.in-Some.ensures.value) c.put_back.ensures.value c.sync-answer.ensures.barriers

pub returns-clause-tally : goal.returns-clause-tally
returns-clause-tally c =
    between_so c.args.handle.now c.put_back.new.self c.deref_mut.result.now c.sync-answer.new.self (λ before after. after.tally ≡ before.tally)
    (ap (λ (o : Opened). Some o) c.deref_mut.ensures.value ∙ c.in-Some.ensures.value) c.put_back.ensures.value c.sync-answer.ensures.tally

pub returns-clause-manual : goal.returns-clause-manual
returns-clause-manual c =
    between_so c.args.handle.now c.put_back.new.self c.deref_mut.result.now c.sync-answer.new.self (λ before after. after.manual ≡ before.manual)
    (ap (λ (o : Opened). Some o) c.deref_mut.ensures.value ∙ c.in-Some.ensures.value) c.put_back.ensures.value c.sync-answer.ensures.manual
