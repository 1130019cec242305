use Rattle.std.proofs.Common.{rules, ◌≡◌, ◌+◌, ◌≤◌, ◌∙◌, sym, ap, arith}
use Rattle.std.specs.Prelude.{sum_by}
use Rattle.std.specs.List.{range_with_len}
use Rattle.patch_index.specs.Reporting.{live_bytes}
use Rattle.patch_store.specs.Meaning.{Store}
use Rattle.patch_store.proofs.Totalled.{more_live}
use Rattle.patch_store.proofs.stores.Store.live_bytes.Goals as goal

pub loop-extent-preserved : goal.loop-extent-preserved
loop-extent-preserved g c =
    let each = live_bytes c.args.self.now.shelf.slots in
    let extent = c.loop-extent.extent in
    let before = c.loop-extent.invariant in
    let here : c.from-live.result ≡ each extent =
    c.from-live.ensures ∙ c.live_bytes.ensures ∙ ap (λ (s : Store). live_bytes s.shelf.slots extent) c.self.view_is in
    let few : c.from-live.result ≤ 4294967295 = search rules in (
      ap (λ n. n + c.from-live.result) before.0 ∙ ap (λ n. sum_by each (range_with_len 0 extent) + n) here ∙ sym (more_live each extent),
      omega (arith, before.1, few),
    )
