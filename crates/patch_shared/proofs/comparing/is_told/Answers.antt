use Rattle.std.proofs.Common.{◌∙◌, map, sym, arith}
use Rattle.std.proofs.lemmas.Bool.{both_ways}
use Rattle.std.proofs.lemmas.List.{length-map}
use Rattle.std.proofs.lemmas.Option.{slice_get_within}
use Rattle.patch_history.specs.Commands.{command_of, reply_told}
use Rattle.patch_shared.specs.Books.{entry_of}
use Rattle.patch_shared.specs.Conversations.{IsNext}
use Rattle.patch_shared.proofs.Told.{other_entry, own_told, own_next}
use Rattle.patch_shared.proofs.comparing.is_told.Goals as goal
use Rattle.patch_shared.proofs.comparing.is_told.Goals.{then-is_by+else-not-is_next, else-is_by}

pub loop-entry-preserved : goal.loop-entry-preserved
loop-entry-preserved c =
    let before = c.loop-entry.invariant in
    let n = c.args.writer in
    let calls = c.args.calls.now in
    let i = c.loop-entry.entry-index in
    let e = c.entry-item.result in
    elim c.if-is_by.branch [
      | then-is_by+else-not-is_next w ↦ (
          let next = w.is_next.ensures.0 w.if-not-is_next.false in
          let own = sym c.is_by.ensures ∙ w.if-is_by.true in
          let less = slice_get_within (map command_of c.args.jobs.now) c.loop-entry.next _ next.command_is in
          let long = length-map c.args.jobs.now command_of in
          rw w.next-is (record {
            within = omega (arith, less, long);
            commands_are = own_told n calls i e (λ e. e.command) _ c.loop-entry.next c.loop-entry-test.true c.entry-item.is own next.command_is before.commands_are;
            replies_are = own_told n calls i e (λ e. e.reply) _ c.loop-entry.next c.loop-entry-test.true c.entry-item.is own next.reply_is before.replies_are;
          }))
      | else-is_by w ↦ (
          let same = other_entry n calls i e c.loop-entry-test.true c.entry-item.is (sym c.is_by.ensures ∙ w.if-is_by.false) in
          rw (w.next-is, same) before)
    ]

-- an entry that isn't the next one
pub returns-then-not-is_next : goal.returns-then-not-is_next
returns-then-not-is_next c = (
  λ off. absurd (cc),
  λ told.
      let before = c.loop-entry.invariant in
      let n = c.args.writer in
      let calls = c.args.calls.now in
      let i = c.loop-entry.entry-index in
      let e = c.entry-item.result in
      let own = sym c.is_by.ensures ∙ c.if-is_by.true in
      let long = length-map c.args.jobs.now command_of in
      let level = length-map c.args.replies.now reply_told in
      let within = before.within in
      let alike = c.if-jobs-replies.false in
      let next : IsNext (entry_of e) c.loop-entry.next (map command_of c.args.jobs.now) (map reply_told c.args.replies.now) = record {
        command_is = own_next n calls i e (λ e. e.command) (map command_of c.args.jobs.now) c.loop-entry.next c.loop-entry-test.true c.entry-item.is own (omega (arith, within, long)) before.commands_are told.commands_are;
        reply_is = own_next n calls i e (λ e. e.reply) (map reply_told c.args.replies.now) c.loop-entry.next c.loop-entry-test.true c.entry-item.is own (omega (arith, within, level, alike)) before.replies_are told.replies_are;
      } in
      absurd (both_ways _ c.if-not-is_next.true (c.is_next.ensures.1 next)),
)
