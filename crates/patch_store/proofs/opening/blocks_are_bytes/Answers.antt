use Rattle.std.proofs.Common.{◌≡◌, ◌<◌, ◌∙◌, [], length, get_or, inl, inr, sym, subst, arith}
use Rattle.std.proofs.lemmas.Bool.{cases_lt}
use Rattle.std.proofs.lemmas.List.{get_or_default}
use Rattle.patch_frame.specs.Field.{AreBytes}
use Rattle.patch_store.specs.Opening.{unchanged}
use Rattle.patch_store.proofs.Scanned.{whole_block}
use Rattle.patch_store.proofs.opening.blocks_are_bytes.Goals.{in-Some, in_default}
use Rattle.patch_store.proofs.opening.blocks_are_bytes.Goals as goal

pub returns : goal.returns
returns g c blocks cache k d within =
    let count = c.blocks-block-end.ensures.answer (unchanged blocks) cache in
    let end = c.loop-block-test.false in
    c.loop-block.invariant blocks cache k d (omega (arith, within, count, end)) within

pub loop-block-preserved : goal.loop-block-preserved
loop-block-preserved g c blocks cache k d less within = elim (cases_lt k c.loop-block.block) [
  | inl below ↦ c.loop-block.invariant blocks cache k d below within
  | inr from ↦ (let here : k ≡ c.loop-block.block = omega (arith, less, from) in
      let there : c.loop-block.block < length blocks = omega (arith, here, within) in
      subst (λ n. AreBytes (get_or blocks n d)) (sym here)
      (elim c.match-span.branch [
        | in-Some w ↦ (
            let is = whole_block blocks c.loop-block.block w.in-Some.bytes.now cache.legal.blocks there (w.in-Some.ensures.bytes blocks cache there (omega arith)) in
            subst AreBytes (is ∙ get_or_default blocks c.loop-block.block [] d there) w.are_bytes.ensures)
        | in_default w ↦ absurd (rw w.in_default.is at c.span.ensures.bytes blocks cache there (omega arith))
      ]))
]
