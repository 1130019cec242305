use Rattle.std.proofs.Common.{arith, ◌∙◌, sym, ap, refl}
use Rattle.patch_cache.specs.Contents.{Contents}
use Rattle.patch_cache.specs.Waves.{is_send}
use Rattle.patch_shared.proofs.Keeping.{steps_fit}
use Rattle.patch_shared.proofs.Calls.{kept_sent, sent_by, none_sent}
use Rattle.patch_shared.proofs.books.Book.send.Goals as goal

pub invariant_of-self-in-None : goal.invariant_of-self-in-None
invariant_of-self-in-None g c = rw (c.in_ok-send.ensures.none c.in-None.is) c.self.invariant

pub overflow_add-self : goal.overflow_add-self
overflow_add-self g c =
    let all = c.in_ok-send.ensures.sent c.self.invariant.history c.self.invariant.is_history.represents in
    let begun = rw c.in-Some.is at all in
    let less = steps_fit is_send c.trace-steps.result.now _ _ _ (c.trace-steps.ensures ∙ ap (λ (k : Contents). k.trace) c.cache.ensures) begun.gained.trace_is in
    let is = c.self.invariant.counted.flusher in
    omega (arith, less, is)

pub invariant_of-self-in-Some : goal.invariant_of-self-in-Some
invariant_of-self-in-Some g c =
    let all = c.in_ok-send.ensures.sent c.self.invariant.history c.self.invariant.is_history.represents in
    let begun = rw c.in-Some.is at all in
    kept_sent _ _ c.self.invariant c.in-Some.flight begun

pub returns-in-None-clause-sent : goal.returns-in-None-clause-sent
returns-in-None-clause-sent g c =
    let all = c.in_ok-send.ensures.sent c.self.invariant.history c.self.invariant.is_history.represents in
    let none = rw c.in-None.is at all in
    rw (sym c.self.view_is, c.in_ok-send.ensures.none c.in-None.is) (none_sent _ _ c.self.invariant none refl)

pub returns-in-Some-clause-sent : goal.returns-in-Some-clause-sent
returns-in-Some-clause-sent g c =
    let all = c.in_ok-send.ensures.sent c.self.invariant.history c.self.invariant.is_history.represents in
    let begun = rw c.in-Some.is at all in
    rw (sym c.self.view_is, c.requires) (sent_by _ _ c.self.invariant c.in-Some.flight begun refl refl refl)
