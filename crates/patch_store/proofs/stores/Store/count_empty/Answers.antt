use Rattle.std.proofs.Common.{◌≡◌, ◌+◌, ◌∙◌, ℕ, Bool, true, false, sym, ap, arith}
use Rattle.std.proofs.lemmas.Bool.Decides.{nat_tests}
use Rattle.std.specs.Prelude.{◌==◌}
use Rattle.patch_plans.specs.Extents.{offset_at}
use Rattle.patch_store.specs.Meaning.{Store}
use Rattle.patch_store.proofs.Totalled.{one_passes, none_passes}
use Rattle.patch_store.proofs.stores.Store.count_empty.Goals as goal
use Rattle.patch_store.proofs.stores.Store.count_empty.Goals.{then-offset-eq0, else-offset-eq0}

pub loop-extent-preserved : goal.loop-extent-preserved
loop-extent-preserved g c =
    let extent = c.loop-extent.extent in
    let offset = offset_at c.args.self.now.shelf.extents extent in
    let test : ℕ → Bool = λ e. offset_at c.args.self.now.shelf.extents e == 0 in
    let before = c.loop-extent.invariant in
    let is : c.pointer-offset.result.1 ≡ offset =
    ap (λ p. p.1) c.pointer-offset.ensures ∙ ap (λ (s : Store). offset_at s.shelf.extents extent) c.self.view_is in
    elim c.if-offset-eq0.branch [
      | then-offset-eq0 w ↦
          let zero = w.if-offset-eq0 in
          let passes : test extent ≡ true = grind (arith, nat_tests, is, zero) in
          let one = one_passes test extent passes in
          (w.count-is ∙ ap (λ n. n + 1) before.0 ∙ sym one, (let few = before.1 in let now = w.count-is in omega (arith, few, now)))
      | else-offset-eq0 w ↦
          let some = w.if-offset-eq0 in
          let fails : test extent ≡ false = grind (arith, nat_tests, is, some) in
          let none = none_passes test extent fails in
          (w.count-is ∙ before.0 ∙ sym none, (let few = before.1 in let now = w.count-is in omega (arith, few, now)))
    ]
