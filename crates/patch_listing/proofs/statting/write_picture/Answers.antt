use Rattle.std.proofs.Common.{◌≡◌, ℕ, ◌∙◌, ◌++◌, ◌∷◌, List, ap, sym, subst, arith}
use Rattle.std.specs.Io.KnownBytes.{Appends}
use Rattle.patch_frame.specs.declared.geometries.Geometry.{Geometry}
use Rattle.patch_replay.specs.Growing.{twice}
use Rattle.patch_listing.specs.Statting.{bars}
use Rattle.patch_listing.proofs.Drawn.{no_bars, one_bar_more}
use Rattle.patch_listing.proofs.statting.write_picture.Goals as goal

pub loop-extent-init : goal.loop-extent-init
loop-extent-init g c =
    let written = g.W.Write.contents in
    subst (λ (lines : List ℕ). Appends (written c.args.writer.now.inner) (written c.write_all.new.self.inner) (10 ∷ lines))
    (sym (no_bars c.args.store.now.shelf c.geometry-extents.result.extents)) c.in_ok-write_all.ensures.bytes

pub loop-extent-preserved : goal.loop-extent-preserved
loop-extent-preserved g c =
    let s = c.args.store.now.shelf in
    let extents = c.geometry-extents.result.extents in
    let old = g.W.Write.contents c.args.writer.now.inner in
    let mid = g.W.Write.contents c.loop-extent.writer.inner in
    let new = g.W.Write.contents c.write_all-in-loop-extent.new.self.inner in
    let line = c.as_bytes.ensures.value ∙ c.in_ok-line.ensures in
    subst (λ (lines : List ℕ). Appends old new (10 ∷ lines))
    (ap (λ x. bars s extents c.loop-extent.extent ++ x) line ∙ sym (one_bar_more s extents c.loop-extent.extent))
    (twice old mid new (10 ∷ bars s extents c.loop-extent.extent) c.as_bytes.result.now c.loop-extent.invariant c.in_ok-write_all-2.ensures.bytes)

pub returns : goal.returns
returns g c =
    let s = c.args.store.now.shelf in
    let old = g.W.Write.contents c.args.writer.now.inner in
    let new = g.W.Write.contents c.loop-extent.writer.inner in
    let extents = c.geometry-extents.result.extents in
    let all : extents ≡ s.extents.geometry.extents = ap (λ (d : Geometry). d.extents) c.geometry-extents.ensures.is in
    let end = c.loop-extent.auto.extent-end in
    let past = c.loop-extent-test.false in
    let last : c.loop-extent.extent ≡ extents = omega (arith, end, past) in
    subst (λ n. Appends old new (10 ∷ bars s n n)) all (subst (λ n. Appends old new (10 ∷ bars s extents n)) last c.loop-extent.invariant)
