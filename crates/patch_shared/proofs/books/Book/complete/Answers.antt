use Rattle.std.proofs.Common.{arith, ◌∙◌, sym, ap, refl}
use Rattle.patch_cache.specs.Contents.{Contents}
use Rattle.patch_shared.specs.Books.{is_completion}
use Rattle.patch_shared.proofs.Keeping.{steps_fit}
use Rattle.patch_shared.proofs.Calls.{kept_ended, ended_by, stranger_to}
use Rattle.patch_shared.proofs.books.Book.complete.Goals as goal

pub returns-in-Err-clause-stranger : goal.returns-in-Err-clause-stranger
returns-in-Err-clause-stranger g c =
    rw (sym c.self.view_is) (stranger_to _ c.self.invariant c.args.landed (c.in-Err.ensures.stranger c.self.invariant.history c.self.invariant.is_history.represents))

pub overflow_add-self : goal.overflow_add-self
overflow_add-self g c =
    let ended = c.in-Ok.ensures.done c.self.invariant.history c.self.invariant.is_history.represents in
    let less = steps_fit is_completion c.trace-steps.result.now _ _ _ (c.trace-steps.ensures ∙ ap (λ (k : Contents). k.trace) c.cache.ensures) ended.gained.trace_is in
    let is = c.self.invariant.counted.completer in
    omega (arith, less, is)

pub invariant_of-self : goal.invariant_of-self
invariant_of-self g c =
    let ended = c.in-Ok.ensures.done c.self.invariant.history c.self.invariant.is_history.represents in
    kept_ended _ _ c.self.invariant c.args.landed c.in-Ok.done ended

pub returns-in-Ok-clause-done : goal.returns-in-Ok-clause-done
returns-in-Ok-clause-done g c =
    let ended = c.in-Ok.ensures.done c.self.invariant.history c.self.invariant.is_history.represents in
    rw (sym c.self.view_is, c.requires) (ended_by _ _ c.self.invariant c.args.landed c.in-Ok.done ended refl refl refl)
