use Rattle.std.proofs.Common.{◌≡◌, ◌∙◌, ap, arith, w32, to_z, of_z, to_z-of_z}
use Rattle.std.specs.Prelude.{Some}
use Rattle.patch_history.specs.History.{History}
use Rattle.patch_store.specs.Meaning.{IsStoreOf}
use Rattle.patch_c.specs.Reading.{HasFound, IsPreviousOf}
use Rattle.patch_c.specs.declared.opened.Opened.{Opened}
use Rattle.patch_handles.specs.Answering.{number_of}
use Rattle.patch_c.proofs.Between.{read_so}
use Rattle.patch_c.proofs.walking.fstch_previous.Goals as goal

pub returns-clause-found : goal.returns-clause-found
returns-clause-found c =
    let n : to_z w32 (of_z w32 c.number.result) ≡ number_of c.previous-answer.result = grind (arith, to_z-of_z) in
    read_so c.args.handle.now c.deref.result.now
    (λ number opened. (h : History) → IsStoreOf opened.store h → HasFound (IsPreviousOf h (Some c.args.before.now)) c.args.key.now c.args.key_len.now c.args.value_len.now
    (number, c.previous-answer.new.key, c.previous-answer.new.key_len, c.previous-answer.new.value_len))
    _ c.previous-answer.result (ap (λ (o : Opened). Some o) c.deref.ensures ∙ c.in-Some.ensures.value) n c.previous-answer.ensures
