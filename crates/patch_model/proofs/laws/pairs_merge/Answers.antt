use Rattle.patch_model.proofs.Pairing as nearing
use Rattle.patch_model.proofs.laws.pairs_merge.Goals as goal

pub returns-clause-legal : goal.returns-clause-legal
returns-clause-legal c = nearing.near_or_legal

pub returns-clause-sent : goal.returns-clause-sent
returns-clause-sent c = nearing.sent_or_legal
