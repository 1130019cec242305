use Rattle.std.proofs.Common.{rules, of_calls}
use Rattle.std.specs.Prelude.{nat_le}
use Rattle.std.proofs.lemmas.Fn.{always_returns_same}
use Rattle.patch_skyline.specs.declared.skylines.Span.{Span}
use Rattle.patch_skyline.proofs.Spans.{parted-stops, ended-by}
use Rattle.patch_skyline.proofs.skylines.ended_before.Goals as goal

pub returns-clause-place : goal.returns-clause-place
returns-clause-place c = ended-by c.args.spans.now c.args.at c.partition_point.result
    (c.partition_point.ensures.partitioned (λ (s : Span). nat_le s.stop c.args.at) (always_returns_same _ _ _ (λ a r f k. search (rules, of_calls))) (parted-stops c.args.spans.now c.args.at c.requires))
