use Rattle.std.proofs.Common.{◌∙◌, sym, subst}
use Rattle.patch_history.specs.History.{execution_of}
use Rattle.patch_store.specs.Deleting.{IsCleared}
use Rattle.patch_store.proofs.Gaining.{viewed, viewed_same}
use Rattle.patch_store.proofs.Finding.{key_fits}
use Rattle.patch_store.proofs.Removing.{key_empty, key_long, no_key_so, none_so, keyed, spent_so, full_so, memory_so, deleted_so}
use Rattle.patch_store.proofs.stores.Store.delete.Goals as goal

pub returns-then-is_empty-clause-answer : goal.returns-then-is_empty-clause-answer
returns-then-is_empty-clause-answer g c h was =
    no_key_so c.histories_extend.ensures h c.args.writer c.args.key.now _ (key_empty c.args.key.now c.is_empty.result c.is_empty.ensures c.if-is_empty.true) was

pub returns-then-key-gt-MAX_KEY-clause-answer : goal.returns-then-key-gt-MAX_KEY-clause-answer
returns-then-key-gt-MAX_KEY-clause-answer g c h was =
    no_key_so c.histories_extend.ensures h c.args.writer c.args.key.now _ (key_long c.args.key.now c.if-key-gt-MAX_KEY.true) was

pub returns-in_default-clause-answer : goal.returns-in_default-clause-answer
returns-in_default-clause-answer g c h was =
    viewed_same c.self.view_is (λ w. none_so c.histories_extend.ensures c.shelves_are_kept.ensures c.histories_are_of_stores.ensures.read c.histories_are_of_stores.ensures.agree h c.args.writer c.args.key.now _ (key_fits c.args.key.now c.is_empty.result c.is_empty.ensures c.if-is_empty.false c.if-key-gt-MAX_KEY.false) (sym c.slot_of.ensures ∙ c.in_default.is) w) was

pub returns-then-made-ge-MAX_PATCHES-clause-answer : goal.returns-then-made-ge-MAX_PATCHES-clause-answer
returns-then-made-ge-MAX_PATCHES-clause-answer g c h was =
    viewed_same c.self.view_is (λ w. spent_so c.histories_extend.ensures c.shelves_are_kept.ensures c.histories_are_of_stores.ensures.read c.histories_are_of_stores.ensures.agree h c.args.writer c.args.key.now c.in-Some.slot c.made.result _ (keyed c.args.key.now c.in-Some.slot _ (key_fits c.args.key.now c.is_empty.result c.is_empty.ensures c.if-is_empty.false c.if-key-gt-MAX_KEY.false) (sym c.slot_of.ensures ∙ c.in-Some.is))
    (c.made.ensures.answer (execution_of h) w.cache_is) c.if-made-ge-MAX_PATCHES.true w) was

pub returns-then-live-ge-MAX_LIVE-clause-answer : goal.returns-then-live-ge-MAX_LIVE-clause-answer
returns-then-live-ge-MAX_LIVE-clause-answer g c h was =
    viewed_same c.self.view_is (λ w. full_so c.histories_extend.ensures c.shelves_are_kept.ensures c.histories_are_of_stores.ensures.read c.histories_are_of_stores.ensures.agree h c.args.writer c.args.key.now c.in-Some.slot c.made.result c.live.result _ (keyed c.args.key.now c.in-Some.slot _ (key_fits c.args.key.now c.is_empty.result c.is_empty.ensures c.if-is_empty.false c.if-key-gt-MAX_KEY.false) (sym c.slot_of.ensures ∙ c.in-Some.is))
    (c.made.ensures.answer (execution_of h) w.cache_is) c.if-made-ge-MAX_PATCHES.false (c.live.ensures.answer (execution_of h) w.cache_is) c.if-live-ge-MAX_LIVE.true w) was

pub returns-in_default-clear_slot-clause-answer : goal.returns-in_default-clear_slot-clause-answer
returns-in_default-clear_slot-clause-answer g c h was =
    viewed c.self.view_is (λ w. memory_so c.histories_extend.ensures c.shelves_are_kept.ensures c.histories_are_of_stores.ensures.read c.histories_are_of_stores.ensures.agree h c.args.writer c.args.key.now c.in-Some.slot c.made.result c.live.result _ c.clear_slot.new.self (keyed c.args.key.now c.in-Some.slot _ (key_fits c.args.key.now c.is_empty.result c.is_empty.ensures c.if-is_empty.false c.if-key-gt-MAX_KEY.false) (sym c.slot_of.ensures ∙ c.in-Some.is))
    (c.made.ensures.answer (execution_of h) w.cache_is) c.if-made-ge-MAX_PATCHES.false (c.live.ensures.answer (execution_of h) w.cache_is) c.if-live-ge-MAX_LIVE.false
    (c.in_default-clear_slot.ensures ∙ sym c.self.view_is) w) was

pub returns-clause-answer : goal.returns-clause-answer
returns-clause-answer g c h was =
    viewed c.self.view_is (λ w. deleted_so c.histories_extend.ensures c.shelves_are_kept.ensures c.histories_are_of_stores.ensures.read c.histories_are_of_stores.ensures.agree h c.args.writer c.args.key.now c.in-Some.slot c.made.result c.live.result _ c.clear_slot.new.self (keyed c.args.key.now c.in-Some.slot _ (key_fits c.args.key.now c.is_empty.result c.is_empty.ensures c.if-is_empty.false c.if-key-gt-MAX_KEY.false) (sym c.slot_of.ensures ∙ c.in-Some.is))
    (c.made.ensures.answer (execution_of h) w.cache_is) c.if-made-ge-MAX_PATCHES.false (c.live.ensures.answer (execution_of h) w.cache_is) c.if-live-ge-MAX_LIVE.false
    (subst (λ s. IsCleared c.args.writer c.in-Some.slot s c.clear_slot.new.self) (sym c.self.view_is) c.in-Ok.ensures) w) was
