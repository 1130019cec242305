use Rattle.patch_model.proofs.Renewing as renewing
use Rattle.patch_model.proofs.laws.executions_begin_anew.Goals as goal

pub returns-clause-legal : goal.returns-clause-legal
returns-clause-legal c = renewing.legal_anew

pub returns-clause-held : goal.returns-clause-held
returns-clause-held c = renewing.block_at

pub returns-clause-count : goal.returns-clause-count
returns-clause-count c = renewing.as_many
