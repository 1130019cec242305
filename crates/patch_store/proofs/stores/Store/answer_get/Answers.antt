use Rattle.std.proofs.Common.{◌∙◌, sym, ap, subst}
use Rattle.std.specs.Prelude.{Ok}
use Rattle.patch_history.specs.Command.{Get, Value, Refused}
use Rattle.patch_store.specs.Getting.{IsGot}
use Rattle.patch_store.specs.Meaning.{HasAnswered}
use Rattle.patch_store.proofs.Calling.{value_so, absent_reply, unread_so}
use Rattle.patch_store.proofs.stores.Store.answer_get.Goals as goal

pub returns-in-Ok-Some : goal.returns-in-Ok-Some
returns-in-Ok-Some g c writer h was =
    let key = c.args.key.now in
    let s = c.args.self.now in
    let got = subst (IsGot h key) (c.in-Ok-Some.is ∙ ap (λ f. Ok f) c.in-Ok-Some.field-0-is) (c.get.ensures h was) in
    subst (λ value. HasAnswered h writer (Get key) (Value value) s s) (sym c.from_vec.ensures)
    (value_so c.histories_extend.ensures h writer key c.in-Ok-Some.value.items s was got.0 got.1)

pub returns-in-Ok-None : goal.returns-in-Ok-None
returns-in-Ok-None g c writer h was =
    let key = c.args.key.now in
    let got = subst (IsGot h key) (c.in-Ok-None.is ∙ ap (λ f. Ok f) c.in-Ok-None.field-0-is) (c.get.ensures h was) in
    absent_reply c.histories_extend.ensures h writer key c.args.self.now was got.0 got.1

pub returns-in-Err : goal.returns-in-Err
returns-in-Err g c writer h was =
    let key = c.args.key.now in
    let s = c.args.self.now in
    let got = subst (IsGot h key) c.in-Err.is (c.get.ensures h was) in
    subst (λ refusal. HasAnswered h writer (Get key) (Refused refusal) s s) (sym c.refusal.ensures)
    (unread_so c.histories_extend.ensures h writer key _ s was got)
