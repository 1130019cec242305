-- What a shelf keeps is what the next patches have to name.
use Rattle.std.proofs.Common.{subst}
use Rattle.patch_history.specs.ShelfLedger.{Has, KeptAreNamed}

pub kept_are_named : KeptAreNamed
kept_are_named s first made kept = (
  (λ e offset bytes after h has. subst (λ number. Has after number) (kept.reset e h) has),
  (λ slot after has. subst (λ number. Has after number) kept.last_delete has),
  (λ e generation offset after h inside has zero other before stands takes newer. has _ (kept.left e h other before stands (inside other before stands) takes newer)),
)
