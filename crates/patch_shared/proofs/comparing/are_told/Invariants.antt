use Rattle.std.proofs.Common.{◌<◌, ℕ, map, []}
use Rattle.std.specs.Prelude.{slice_index_or}
use Rattle.patch_shared.specs.Books.{entry_of}
use Rattle.patch_shared.specs.Conversations.{IsTold, commands_in, replies_in}
use Rattle.patch_shared.proofs.comparing.are_told.Given as goal

-- each writer so far was told so
abbrev pub invariant-loop-n : goal.invariant-loop-n
invariant-loop-n l =
    (k : ℕ) → k < l.n → IsTold k (map entry_of l.calls) (slice_index_or (commands_in l.jobs) k []) (slice_index_or (replies_in l.replies) k [])
