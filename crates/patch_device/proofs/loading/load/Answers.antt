use Rattle.std.proofs.Common.{◌≡◌, ℕ, ◌+◌, List, [], ◌∷◌, ◌++◌, take, slice_get, Some, ◌∙◌, sym, ap, arith}
use Rattle.std.proofs.lemmas.Grind.{common_steps}
use Rattle.std.proofs.lemmas.List.{take_more}
use Rattle.std.proofs.lemmas.Option.{slice_get_within, get_or_from_slice_get}
use Rattle.patch_device.specs.Device.{elapses_both}
use Rattle.patch_device.proofs.loading.load.Goals as goal

-- the first items, and the one after them
take_one_more : {X : Type 0} → (xs : List X) (n : ℕ) (x : X) → slice_get xs n ≡ Some x → take (n + 1) xs ≡ take n xs ++ x ∷ []
take_one_more xs n x at =
    take_more xs n x (slice_get_within xs n x at) ∙ ap (λ y. take n xs ++ y ∷ []) (get_or_from_slice_get xs n x x at)

-- the items so far, read from a list that stayed as it was, and one more
with_one_more : {X : Type 0} → (first now items pushed : List X) (n : ℕ) (x : X) → now ≡ first → items ≡ take n first → slice_get now n ≡ Some x
    → pushed ≡ items ++ x ∷ [] → pushed ≡ take (n + 1) first
with_one_more first now items pushed n x same read at push =
    push ∙ ap (λ r. r ++ x ∷ []) read ∙ sym (take_one_more first n x (sym (ap (λ r. slice_get r n) same) ∙ at))

pub loop-n-preserved : goal.loop-n-preserved
loop-n-preserved g c =
    record {
      honesty = (
        λ h. c.in_ok-read_block.ensures.device.honesty.0 (c.loop-n.invariant.honesty.0 h),
        λ h. c.loop-n.invariant.honesty.1 (c.in_ok-read_block.ensures.device.honesty.1 h),
      );
      count = search (c.in_ok-read_block.ensures.device.count, c.loop-n.invariant.count);
      faults = search (c.in_ok-read_block.ensures.no_fault, c.loop-n.invariant.faults);
      blocks = grind (arith, common_steps, c.in_ok-push.ensures.items, c.loop-n.invariant.blocks);
      gives = λ h.
          with_one_more _ _ _ _ _ _ (c.loop-n.invariant.same h) (c.loop-n.invariant.gives h)
          (c.in_ok-read_block.ensures.gives (c.loop-n.invariant.honesty.0 h)) c.in_ok-push.ensures.items;
      same = λ h. c.in_ok-read_block.ensures.same (c.loop-n.invariant.honesty.0 h) ∙ c.loop-n.invariant.same h;
      spent = λ h. c.in_ok-read_block.ensures.device.spent (c.loop-n.invariant.spent h);
      time = elapses_both _ _ _ _ _ _ c.loop-n.invariant.time c.in_ok-read_block.ensures.device.time;
      moment = c.in_ok-read_block.ensures.no_moment ∙ c.loop-n.invariant.moment;
    }
