use Rattle.std.proofs.Common.{arith, ◌∙◌, List, subst, sym, ap, refl}
use Rattle.patch_cache.specs.Contents.{Contents}
use Rattle.patch_history.specs.Commands.{command_of, reply_told}
use Rattle.patch_store.specs.Meaning.{Answers}
use Rattle.patch_shared.specs.declared.actors.Actor.TheVariants.{Writer}
use Rattle.patch_shared.specs.Books.{Entry, IsKept}
use Rattle.patch_shared.specs.Calling.{raised}
use Rattle.patch_shared.proofs.Keeping.{kept_call, count_fits}
use Rattle.patch_shared.proofs.Calls.{called_by, pushed_is}
use Rattle.patch_shared.proofs.books.Book.command.Goals as goal

pub overflow_add-self : goal.overflow_add-self
overflow_add-self g c =
    let less = count_fits c.writer.inside.0 c.self.inside.calls.items _ c.self.inside.counts c.self.invariant.counted c.writer.invariant in
    let more = c.push_reserved.ensures.len in
    omega (arith, less, more)

pub invariant_of-self-2 : goal.invariant_of-self-2
invariant_of-self-2 g c =
    let n = c.writer.inside.0 in
    let reply = reply_told c.in_ok-reply.reply in
    let asked = command_of c.args.command.now in
    let pushed = pushed_is c.self.inside.calls.items c.reserve.new.self.items c.push_reserved.new.self.items _ n asked reply c.trace.result.now c.trace-2.result.now _ _
    c.push_reserved.ensures.items c.reserve.ensures.items (ap Writer (sym c.writer.view_is)) c.in_ok-asked.ensures c.in_ok-reply.ensures.copy
    refl (c.trace.ensures ∙ ap (λ (k : Contents). k.trace) c.cache.ensures) refl (c.trace-2.ensures ∙ ap (λ (k : Contents). k.trace) c.cache-2.ensures) in
    let P : List Entry → Type 0 = λ calls. IsKept (record { store = c.answer_twice.new.store; opening = c.self.inside.opening.items; calls = calls; counts = raised c.self.inside.counts (Writer n) }) in
    subst P pushed (kept_call _ n asked reply c.answer_twice.new.store c.self.invariant c.writer.invariant
    (subst (λ m. Answers m asked reply c.self.inside.store c.answer_twice.new.store) (sym c.writer.view_is) c.in_ok-reply.ensures.answer))

pub returns-clause-called : goal.returns-clause-called
returns-clause-called g c =
    let n = c.writer.inside.0 in
    let reply = reply_told c.in_ok-reply.reply in
    let asked = command_of c.args.command.now in
    let pushed = pushed_is c.self.inside.calls.items c.reserve.new.self.items c.push_reserved.new.self.items _ n asked reply c.trace.result.now c.trace-2.result.now _ _
    c.push_reserved.ensures.items c.reserve.ensures.items (ap Writer (sym c.writer.view_is)) c.in_ok-asked.ensures c.in_ok-reply.ensures.copy
    refl (c.trace.ensures ∙ ap (λ (k : Contents). k.trace) c.cache.ensures) refl (c.trace-2.ensures ∙ ap (λ (k : Contents). k.trace) c.cache-2.ensures) in
    rw (sym c.self.view_is, c.in-Writer.is, sym c.writer.view_is) (called_by _ _ c.self.invariant n asked reply
    (subst (λ m. Answers m asked reply c.self.inside.store c.answer_twice.new.store) (sym c.writer.view_is) c.in_ok-reply.ensures.answer) refl (sym pushed) refl)
