use Rattle.patch_links.specs.MarkDurable.{AreForgotten}
use Rattle.patch_links.proofs.landing.forget.Given as goal

abbrev pub invariant-loop-no : goal.invariant-loop-no
invariant-loop-no g l = AreForgotten l.members l.initial.keys.numbers l.keys.numbers l.no-index
