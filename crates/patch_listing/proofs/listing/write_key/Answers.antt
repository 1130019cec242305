use Rattle.std.proofs.Common.{◌∙◌, ap, sym, subst}
use Rattle.std.specs.Io.KnownBytes.{Appends}
use Rattle.patch_replay.specs.Growing.{same}
use Rattle.patch_listing.proofs.Listed.{text_none, text_some}
use Rattle.patch_listing.proofs.listing.write_key.Goals as goal

pub returns-then-not-starts_with : goal.returns-then-not-starts_with
returns-then-not-starts_with g c h stands c' there is =
    let key = ap (λ x. x.0) is ∙ sym c.as_slice.ensures in
    let none = text_none c.args.wanted c' c.as_slice.result.now key (sym c.starts_with.ensures.value ∙ c.if-not-starts_with.true) in
    subst (Appends _ _) (sym none) (same (g.W.Write.contents c.args.writer.now.inner))

pub returns : goal.returns
returns g c h stands c' there is =
    let key = ap (λ x. x.0) is ∙ sym c.as_slice.ensures in
    let some = text_some c.args.wanted c' c.as_slice.result.now key (sym c.starts_with.ensures.value ∙ c.if-not-starts_with.false) in
    subst (Appends _ _) (c.as_bytes.ensures.value ∙ c.in_ok-line.ensures h stands c' there is ∙ sym some) c.in_ok-write_all.ensures.bytes
