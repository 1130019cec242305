use Rattle.std.proofs.Common.{◌++◌, ◌∙◌, ap}
use Rattle.std.specs.Prelude.{string_bytes}
use Rattle.patch_listing.proofs.Drawn.{no_marks, one_mark_more}
use Rattle.patch_listing.proofs.pictures.push_marks.Goals as goal

pub loop-column-init : goal.loop-column-init
loop-column-init c = no_marks (string_bytes c.args.out.now) c.args.live c.args.written

pub loop-column-preserved : goal.loop-column-preserved
loop-column-preserved c =
    c.in_ok-push_str.ensures.bytes ∙ ap (λ x. string_bytes c.loop-column.out ++ x) c.mark_at.ensures
    ∙ one_mark_more (string_bytes c.args.out.now) (string_bytes c.loop-column.out) c.args.live c.args.written c.loop-column.column c.loop-column.invariant
