use Rattle.std.proofs.Common.{◌∙◌, sym, ap, subst}
use Rattle.patch_frame.specs.declared.geometries.Geometry.{Geometry}
use Rattle.patch_history.specs.History.{execution_of}
use Rattle.patch_store.specs.Upgrading.{IsWidened}
use Rattle.patch_store.proofs.Gaining.{viewed, viewed_same}
use Rattle.patch_store.proofs.Widening.{wide_so, narrow_spent, narrow_full, narrow_lacked, narrow_of, upgraded_so}
use Rattle.patch_store.proofs.stores.Store.upgrade.Goals as goal

pub returns-in-Two-clause-answer : goal.returns-in-Two-clause-answer
returns-in-Two-clause-answer g c writer h was =
    viewed_same c.self.view_is (λ w. wide_so c.histories_extend.ensures c.shelves_are_kept.ensures c.histories_are_of_stores.ensures.agree h writer c.in-Two.length _
    (sym (ap (λ (k : Geometry). k.format) c.self.invariant.0) ∙ c.in-Two.is) w) was

pub returns-then-made-ge-MAX_PATCHES-clause-answer : goal.returns-then-made-ge-MAX_PATCHES-clause-answer
returns-then-made-ge-MAX_PATCHES-clause-answer g c writer h was =
    viewed_same c.self.view_is (λ w. narrow_spent c.histories_extend.ensures c.shelves_are_kept.ensures c.histories_are_of_stores.ensures.agree h writer c.made.result _
    (sym (ap (λ (k : Geometry). k.format) c.self.invariant.0) ∙ narrow_of _ c.in_default.not-Two)
    (c.made.ensures.answer (execution_of h) w.cache_is) c.if-made-ge-MAX_PATCHES.true w) was

pub returns-then-live-ge-MAX_LIVE-clause-answer : goal.returns-then-live-ge-MAX_LIVE-clause-answer
returns-then-live-ge-MAX_LIVE-clause-answer g c writer h was =
    viewed_same c.self.view_is (λ w. narrow_full c.histories_extend.ensures c.shelves_are_kept.ensures c.histories_are_of_stores.ensures.agree h writer c.made.result c.live.result _
    (sym (ap (λ (k : Geometry). k.format) c.self.invariant.0) ∙ narrow_of _ c.in_default.not-Two)
    (c.made.ensures.answer (execution_of h) w.cache_is) c.if-made-ge-MAX_PATCHES.false (c.live.ensures.answer (execution_of h) w.cache_is) c.if-live-ge-MAX_LIVE.true w) was

pub returns-in_default-widen-clause-answer : goal.returns-in_default-widen-clause-answer
returns-in_default-widen-clause-answer g c writer h was =
    viewed c.self.view_is (λ w. narrow_lacked c.histories_extend.ensures c.shelves_are_kept.ensures c.histories_are_of_stores.ensures.agree h writer c.made.result c.live.result _ c.widen.new.self
    (sym (ap (λ (k : Geometry). k.format) c.self.invariant.0) ∙ narrow_of _ c.in_default.not-Two)
    (c.made.ensures.answer (execution_of h) w.cache_is) c.if-made-ge-MAX_PATCHES.false (c.live.ensures.answer (execution_of h) w.cache_is) c.if-live-ge-MAX_LIVE.false
    (c.in_default-widen.ensures ∙ sym c.self.view_is) w) was

pub returns-clause-answer : goal.returns-clause-answer
returns-clause-answer g c writer h was =
    viewed c.self.view_is (λ w. upgraded_so c.histories_extend.ensures c.shelves_are_kept.ensures c.histories_are_of_stores.ensures.agree h writer c.made.result c.live.result _ c.widen.new.self
    (sym (ap (λ (k : Geometry). k.format) c.self.invariant.0) ∙ narrow_of _ c.in_default.not-Two)
    (c.made.ensures.answer (execution_of h) w.cache_is) c.if-made-ge-MAX_PATCHES.false (c.live.ensures.answer (execution_of h) w.cache_is) c.if-live-ge-MAX_LIVE.false
    (subst (λ s. IsWidened s c.widen.new.self) (sym c.self.view_is) c.in-Ok.ensures) w) was
