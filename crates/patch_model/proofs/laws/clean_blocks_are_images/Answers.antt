use Rattle.patch_model.proofs.Renewing as renewing
use Rattle.patch_model.proofs.laws.clean_blocks_are_images.Goals as goal

pub returns-clause-block : goal.returns-clause-block
returns-clause-block c = renewing.image_is

pub returns-clause-crash : goal.returns-clause-crash
returns-clause-crash c = renewing.crash_is
