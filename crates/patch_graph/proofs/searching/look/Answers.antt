use Rattle.patch_graph.proofs.Searches.{look-done, look-none-yet}
use Rattle.patch_graph.proofs.searching.look.Goals as goal

pub returns : goal.returns
returns g c from h s =
    let l = c.visit_all.ensures from c.args.stop _ c.next_of-next.ensures (look-none-yet _ _ c.args.way from c.args.stop c.next_of-next.result.now c.args.marks.now c.args.queue.now c.args.head c.args.tail h c.requires.queue_fits s) in
    look-done _ _ c.args.way from c.args.stop _ c.next_of-next.result.now _ _ _ _ c.next_of-next.ensures l
