use Rattle.patch_store.proofs.Gaining.{viewed_same}
use Rattle.patch_store.proofs.Engaging.{counted_so}
use Rattle.patch_store.proofs.stores.Store.pending.Goals as goal

pub returns : goal.returns
returns g c writer h was =
    viewed_same c.self.view_is
    (counted_so c.histories_extend.ensures c.standings_run.ensures c.groups_are_kept.ensures h writer c.args.group _ c.pending.result
    c.pending.ensures.count c.pending.ensures.known c.pending.ensures.cause) was
