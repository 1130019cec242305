use Rattle.std.proofs.Common.{◌∙◌, [], ap, sym}
use Rattle.std.specs.Prelude.{string_bytes}
use Rattle.std.proofs.lemmas.List.{append-nil}
use Rattle.patch_index.specs.Reporting.{reported}
use Rattle.patch_listing.specs.Listing.{value_text}
use Rattle.patch_listing.proofs.Listed.{line_so, value_wanted, none_wanted}
use Rattle.patch_listing.proofs.key_lines.key_line.Goals as goal
use Rattle.patch_listing.proofs.key_lines.key_line.Goals.{then-values+in_ok-value+in_ok-push_value, else-values}

pub returns : goal.returns
returns c h stands c' there is =
    let start = string_bytes c.in_ok-line.line in
    elim c.if-values.branch [
      | then-values+in_ok-value+in_ok-push_value w ↦
          let value = w.as_slice-then-values.ensures.value ∙ w.in_ok-value.ensures h stands c' there (ap (λ x. x.0) is ∙ sym w.as_slice.ensures) in
          line_so c.args.values c' (reported c.args.entry.now) start (value_text w.as_slice-then-values.result.now) (string_bytes c.if-values.line) _ is c.in_ok-line.ensures
          (value_wanted c.args.values c'.value _ w.if-values.true value) (ap string_bytes w.line-is ∙ w.in_ok-push_value.ensures) c.in_ok-push_str.ensures.bytes
      | else-values w ↦
          line_so c.args.values c' (reported c.args.entry.now) start [] (string_bytes c.if-values.line) _ is c.in_ok-line.ensures
          (none_wanted c.args.values c'.value w.if-values.false) (ap string_bytes w.line-is ∙ sym (append-nil start)) c.in_ok-push_str.ensures.bytes
    ]
