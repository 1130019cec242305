use Rattle.std.proofs.Common.{◌≡◌, ◌∙◌, sym, ap, subst, arith}
use Rattle.std.specs.Prelude.{count_by}
use Rattle.patch_model.specs.Entry.{is_live}
use Rattle.patch_model.specs.Renewed.{cached_blocks, renewed}
use Rattle.patch_model.specs.State.{entries_of}
use Rattle.patch_cache.specs.Meaning.{IsCacheOf}
use Rattle.patch_group.specs.Renewing.{why_not_renewed}
use Rattle.patch_history.specs.History.{execution_of}
use Rattle.patch_store.specs.Meaning.{IsStoreOf}
use Rattle.patch_store.proofs.Renewed.{begun_anew}
use Rattle.patch_store.proofs.stores.Store.renew.Goals as goal

pub returns-clause-answer : goal.returns-clause-answer
returns-clause-answer g c h was =
    let run = execution_of h in
    let w = subst (λ s. IsStoreOf s h) (sym c.self.view_is) was in
    let live = c.live.ensures.answer run w.cache_is in
    let low = c.if-live-gt0.false in
    let none : count_by is_live (entries_of run) ≡ 0 = omega (arith, live, low) in
    let cache = c.forget_patches.ensures.cache run w.cache_is none in
    begun_anew c.histories_are_of_stores.ensures.read c.shelves_are_kept.ensures h _ c.forget_patches.new.self w
    (record { none_live = none; no_group = ap why_not_renewed (sym w.groups_are) ∙ c.in_ok-renew.ensures.done.0 })
    cache
    (c.blocks_are_bytes.ensures (cached_blocks run) (subst (λ k. IsCacheOf k (renewed run)) (sym (ap (λ s. s.cache) c.self-2.view_is)) cache))
    (c.forget_patches.ensures.groups ∙ c.in_ok-renew.ensures.done.1) c.forget_patches.ensures.shelf c.forget_patches.ensures.counted
