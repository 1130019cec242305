use Rattle.std.proofs.Common.{arith, refl, sym, ◌∙◌, not, ap}
use Rattle.std.proofs.lemmas.Bool.{and_from, and_parts, and_left, ne_eqb, eq-eqb, both_ways, not-true, false_from_ne_true}
use Rattle.patch_graph.proofs.LeastBetween.{without-none, without-one, without-not, without-all}
use Rattle.patch_graph.proofs.between.copy_without.Goals.{then-is_marked+then-key-to, else-is_marked, else-is_marked-via-then-is_marked+else-key-to, else-is_marked-via-else-is_marked}
use Rattle.patch_graph.proofs.between.copy_without.Goals as goal

pub loop-key-init : goal.loop-key-init
loop-key-init c = without-none _ _ _ _ c.requires.clear

pub loop-key-preserved : goal.loop-key-preserved
loop-key-preserved c = elim c.if-is_marked.branch [
  | then-is_marked+then-key-to w ↦ rw (w.dead_ends-is, w.put_mark.ensures) (without-one _ _ _ _ _ _ _ c.requires.fits refl
      (and_from _ _ (sym c.is_marked.ensures ∙ w.if-is_marked.true) (ap not (ne_eqb _ _ w.if-key-to.true))) c.loop-key.invariant)
  | else-is_marked w ↦ rw w.dead_ends-is (without-not _ _ _ _ _ _ _ refl (elim w.else-is_marked.branch [
    | else-is_marked-via-then-is_marked+else-key-to v ↦ false_from_ne_true _ (λ t. both_ways _ (not-true _ (and_parts _ _ t).1) (eq-eqb _ _ v.if-key-to.false))
    | else-is_marked-via-else-is_marked v ↦ and_left _ _ (sym c.is_marked.ensures ∙ v.if-is_marked.false)
  ]) c.loop-key.invariant)
]

pub returns-clause-copied : goal.returns-clause-copied
returns-clause-copied c = without-all _ _ _ _ _ _ (omega arith) c.requires.held c.loop-key.invariant
