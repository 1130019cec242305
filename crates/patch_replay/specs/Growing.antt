-- Lemmas: known bytes that grow twice, and that don't.
use Rattle.std.proofs.Common.{◌≡◌, ◌++◌, ◌∙◌, List, ℕ, Option, Some, None, [], ap, append_assoc, sym}
use Rattle.std.specs.Io.KnownBytes.{Appends}
use Rattle.std.proofs.lemmas.List.{append-nil}

pub twice : (old mid new : Option (List ℕ)) (a b : List ℕ) → Appends old mid a → Appends mid new b → Appends old new (a ++ b)
twice None mid new a b first second = tt
twice (Some old) None new a b first second = absurd first
twice (Some old) (Some mid) None a b first second = absurd second
twice (Some old) (Some mid) (Some new) a b first second = second ∙ ap (λ (t : List ℕ). t ++ b) first ∙ append_assoc old a b

pub same : (old : Option (List ℕ)) → Appends old old []
same None = tt
same (Some old) = sym (append-nil old)
