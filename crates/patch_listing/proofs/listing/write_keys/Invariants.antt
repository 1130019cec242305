use Rattle.patch_history.specs.History.{History, ledger_of}
use Rattle.patch_recovery.specs.Ledger.{map_of}
use Rattle.patch_store.specs.Meaning.{IsStoreOf}
use Rattle.patch_listing.proofs.Listed.{HasWritten}
use Rattle.patch_listing.proofs.listing.write_keys.Given as goal

-- just the keys before this one were listed
abbrev pub invariant-loop-seen : goal.invariant-loop-seen
invariant-loop-seen g l =
    (h : History) → IsStoreOf l.store h
    → HasWritten l.wanted (map_of (ledger_of h)) l.from.items l._seen (g.W.Write.contents l.fn.writer.inner) (g.W.Write.contents l.writer.inner)
