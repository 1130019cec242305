use Rattle.std.proofs.Common.{◌∙◌, ap, sym, subst}
use Rattle.std.specs.Prelude.{OnOk}
use Rattle.std.specs.Io.KnownBytes.{Appends}
use Rattle.patch_history.specs.History.{standing_of}
use Rattle.patch_store.specs.Totals.{totals_of}
use Rattle.patch_listing.specs.Statting.{numbers_text, picture_text, detail_text}
use Rattle.patch_listing.proofs.Told.{pictured}
use Rattle.patch_listing.proofs.statting.write_detail.Goals as goal

pub returns-in-Numbers : goal.returns-in-Numbers
returns-in-Numbers g c h stands =
    let text = c.as_bytes.ensures.value ∙ c.in_ok-numbers.ensures ∙ ap numbers_text (c.totals.ensures h stands) in
    subst (Appends (g.W.Write.contents c.args.writer.now.inner) (g.W.Write.contents c.write_all.new.self.inner)) (text ∙ sym (ap (λ d. detail_text d h) c.in-Numbers.is)) c.in_ok-write_all.ensures.bytes

pub returns : goal.returns
returns g c h stands =
    let old = g.W.Write.contents c.args.writer.now.inner in
    let mid = g.W.Write.contents c.write_all.new.self.inner in
    let new = g.W.Write.contents c.write_picture.new.writer.inner in
    let text = c.as_bytes.ensures.value ∙ c.in_ok-numbers.ensures ∙ ap numbers_text (c.totals.ensures h stands) in
    let picture = subst (λ s. OnOk c.write_picture.result (Appends mid new (picture_text s))) stands.shelf_is c.write_picture.ensures in
    subst (λ text. OnOk c.write_picture.result (Appends old new text)) (sym (ap (λ d. detail_text d h) c.in-Picture.is))
    (pictured c.write_picture.result old mid new (numbers_text (totals_of h)) (picture_text (standing_of h).shelf) (subst (Appends old mid) text c.in_ok-write_all.ensures.bytes)
    picture)
