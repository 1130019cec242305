use Rattle.std.proofs.Common.{◌≡◌, ◌∙◌, ◌<◌, ◌++◌, ◌∷◌, [], length, get_or, ◌+◌, sym, ap, arith}
use Rattle.std.proofs.lemmas.List.{length-append, length-map}
use Rattle.patch_history.specs.Commands.{reply_told}
use Rattle.patch_store.specs.Running.{commands_of}
use Rattle.patch_store.proofs.Calling.{begun_run, next_run}
use Rattle.patch_store.proofs.stores.Store.run.Goals as goal

pub loop-asked-init : goal.loop-asked-init
loop-asked-init g c =
    let none : c.new-replies.result.items ≡ [] = c.new-replies.ensures.items in
    record {
      many = ap length none;
      ran = λ h was. rw none (begun_run h (commands_of c.args.commands.now) _ was);
    }

pub loop-asked-preserved : goal.loop-asked-preserved
loop-asked-preserved g c =
    let before = c.loop-asked.invariant in
    let replies = c.loop-asked.replies.items in
    let reply = c.answer-reply.result in
    let pushed : c.push_reserved.new.self.items ≡ replies ++ reply ∷ [] =
    c.push_reserved.ensures.items ∙ ap (λ xs. xs ++ reply ∷ []) c.reserve.ensures.items in
    let at : length replies ≡ c.loop-asked.asked-index = before.many in
    let within : length replies < length c.args.commands.now = omega (arith, at, c.loop-asked-test.true) in
    let item = ap (λ n. get_or c.args.commands.now n c.asked-item.result) at ∙ sym c.asked-item.is in
    record {
      many = ap length pushed ∙ length-append replies (reply ∷ []) ∙ ap (λ n. n + 1) at;
      ran = λ h was. rw pushed (next_run h c.args.commands.now replies c.asked-item.result reply _ _ _ within item (before.ran h was) c.answer-reply.ensures.answer);
    }

pub returns-in-Err-clause-ran : goal.returns-in-Err-clause-ran
returns-in-Err-clause-ran g c h was = rw c.reserve.ensures.items (c.loop-asked.invariant.ran h was)

pub returns-in-Err-clause-stopped : goal.returns-in-Err-clause-stopped
returns-in-Err-clause-stopped g c =
    let is = ap length c.reserve.ensures.items in
    let long = length-map c.reserve.new.self.items reply_told in
    let many = c.loop-asked.invariant.many in
    omega (arith, is, long, many, c.loop-asked-test.true)

pub returns-clause-ran : goal.returns-clause-ran
returns-clause-ran g c h was = c.loop-asked.invariant.ran h was

pub returns-clause-all : goal.returns-clause-all
returns-clause-all g c =
    let long = length-map c.loop-asked.replies.items reply_told in
    let many = c.loop-asked.invariant.many in
    omega (arith, long, many, c.loop-asked-test.false)
