use Rattle.std.proofs.Common.{refl}
use Rattle.patch_shared.proofs.Served.{done_is, fault_before, fault_of_memory, served_before}
use Rattle.patch_shared.specs.Books.{IsBegun}
use Rattle.patch_shared.specs.Conversations.{commands_in}
use Rattle.patch_shared.proofs.serving.serve_over.Goals as goal

pub returns-in-Ok-clause-served : goal.returns-in-Ok-clause-served
returns-in-Ok-clause-served g c =
    served_before g.D.Device c.args.device c.in-Ok.ran.device c.args.opening.items (commands_in c.args.jobs.now) c.compared.result c.in-Ok.ensures.device c.in-Ok.ensures.lasts c.compared.ensures.served

pub returns-in-Ok-clause-fault : goal.returns-in-Ok-clause-fault
returns-in-Ok-clause-fault g c = fault_before g.D.Device c.args.device c.in-Ok.ran.device c.compared.result c.in-Ok.ensures.device c.compared.ensures.fault

pub run_book-requires-clause-commands : goal.run_book-requires-clause-commands
run_book-requires-clause-commands g c = λ _ _. (refl, refl, c.new.ensures)

pub run_book-requires-clause-sends : goal.run_book-requires-clause-sends
run_book-requires-clause-sends g c = λ _ _. (refl, refl, c.new-2.ensures)

pub run_book-requires-clause-completions : goal.run_book-requires-clause-completions
run_book-requires-clause-completions g c = λ _ _. (refl, refl, c.new-3.ensures)

pub run_book-requires-clause-empty : goal.run_book-requires-clause-empty
run_book-requires-clause-empty g c = λ _ _.
    let begun = done_is c.open.result (IsBegun c.args.store) c.in-Some.book c.in-Some.ensures.value c.open.ensures.begun in
    (begun.no_calls, begun.none_counted)

pub returns-in_default-clause-fault : goal.returns-in_default-clause-fault
returns-in_default-clause-fault g c = fault_of_memory g.D.Device c.args.device c.bare.result c.bare.ensures.0 c.bare.ensures.1
