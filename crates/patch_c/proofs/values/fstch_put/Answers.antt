use Rattle.std.proofs.Common.{◌≡◌, ◌∙◌, ap, arith, w32, to_z, of_z, to_z-of_z}
use Rattle.std.specs.Prelude.{Some, IsTrue, IsFalse}
use Rattle.patch_history.specs.Command.{Put}
use Rattle.patch_c.specs.declared.opened.Opened.{Opened}
use Rattle.patch_handles.specs.Answering.{number_of, writer_of}
use Rattle.patch_c.specs.Answering.{Tells}
use Rattle.patch_c.specs.Handle.{KeepsRest}
use Rattle.patch_c.specs.Putting.{TellsPut}
use Rattle.patch_c.proofs.Between.{between_so, told_so, each_some}
use Rattle.patch_c.proofs.values.fstch_put.Goals as goal

pub returns-clause-told : goal.returns-clause-told
returns-clause-told c =
    let n : to_z w32 (of_z w32 c.number.result) ≡ number_of c.put-answer.result = grind (arith, to_z-of_z) in
    each_some (writer_of c.args.writer) _ _ (λ no. told_so c.args.handle.now c.put_back.new.self c.deref_mut.result.now c.put-answer.new.self
    (λ number before after. IsTrue before.manual → Tells no (Put c.args.key.now c.args.value.now) number before.store after.store)
    _ c.put-answer.result (ap (λ (o : Opened). Some o) c.deref_mut.ensures.value ∙ c.in-Some.ensures.value) c.put_back.ensures.value n)
    c.put-answer.ensures.told

pub returns-clause-told_in_room : goal.returns-clause-told_in_room
returns-clause-told_in_room c =
    let n : to_z w32 (of_z w32 c.number.result) ≡ number_of c.put-answer.result = grind (arith, to_z-of_z) in
    each_some (writer_of c.args.writer) _ _ (λ no. told_so c.args.handle.now c.put_back.new.self c.deref_mut.result.now c.put-answer.new.self
    (λ number before after. IsFalse before.manual → TellsPut no (record { key = c.args.key.now; value = c.args.value.now }) number before.store after.store)
    _ c.put-answer.result (ap (λ (o : Opened). Some o) c.deref_mut.ensures.value ∙ c.in-Some.ensures.value) c.put_back.ensures.value n)
    c.put-answer.ensures.told_in_room

pub returns-clause-rest : goal.returns-clause-rest
returns-clause-rest c =
    between_so c.args.handle.now c.put_back.new.self c.deref_mut.result.now c.put-answer.new.self KeepsRest
    (ap (λ (o : Opened). Some o) c.deref_mut.ensures.value ∙ c.in-Some.ensures.value) c.put_back.ensures.value c.put-answer.ensures.rest
