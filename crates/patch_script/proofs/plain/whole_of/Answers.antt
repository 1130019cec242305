use Rattle.std.proofs.Common.{◌<◌, false, length, arith, sym, ap, ◌∙◌}
use Rattle.fast_float.specs.Text.{Parts, scan}
use Rattle.serde_json.specs.Read.{number_of, number_from}
use Rattle.patch_script.proofs.Numerals.{number_of_digits}
use Rattle.patch_script.proofs.plain.whole_of.Goals as goal

pub returns-then-number : goal.returns-then-number
returns-then-number c =
    let s = c.as_bytes-bytes.result.now in
    let some : 0 < length (scan s).whole = omega (arith, c.in_ok-number.ensures.digits, ap (λ (p : Parts). length p.whole) c.scan.ensures.parts) in
    ap number_of (sym c.as_bytes-bytes.ensures.value) ∙ number_of_digits s some ∙ ap (number_from false) (sym c.scan.ensures.parts)
    ∙ c.in_ok-number.ensures.value
