use Rattle.patch_files.proofs.Writers.{new_store, fresh_store}
use Rattle.patch_files.proofs.serving.prepare.Goals as goal

pub returns-clause-new : goal.returns-clause-new
returns-clause-new g c = new_store _ c.in_ok-store.ensures.new

pub returns-clause-opened : goal.returns-clause-opened
returns-clause-opened g c honest = fresh_store _ _ c.in_ok-store.ensures.new (c.in_ok-store.ensures.opened honest)
