use Rattle.patch_model.proofs.Making as making
use Rattle.patch_model.proofs.laws.legal_patches_are_made.Goals as goal

pub returns : goal.returns
returns c = λ blocks block start all bytes after. (
  making.made_is_legal blocks block start all bytes after,
  making.legal_is_made blocks block start all bytes after,
)
