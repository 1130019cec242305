use Rattle.std.proofs.Common.{◌∙◌, sym}
use Rattle.patch_store.specs.Opening.{unchanged}
use Rattle.patch_store.proofs.Scanned.{span_shown, span_long}
use Rattle.patch_store.proofs.scanning.span.Goals as goal

pub returns-in_default-clause-bytes : goal.returns-in_default-clause-bytes
returns-in_default-clause-bytes g c blocks cache there fits =
    let shown = span_shown blocks c.args.block c.args.start c.args.len there fits in
    let refused = sym shown ∙ c.in_default.ensures.answer (unchanged blocks) cache in
    absurd cc

pub returns-then-bytes-len-clause-bytes : goal.returns-then-bytes-len-clause-bytes
returns-then-bytes-len-clause-bytes g c blocks cache there fits = (c.in-Ok.ensures.answer (unchanged blocks) cache).1

pub returns-else-bytes-len-clause-bytes : goal.returns-else-bytes-len-clause-bytes
returns-else-bytes-len-clause-bytes g c blocks cache there fits =
    let long = span_long blocks c.args.block c.args.start c.args.len c.in-Ok.bytes.now cache.legal.blocks there fits (c.in-Ok.ensures.answer (unchanged blocks) cache).1 in
    absurd (c.if-bytes-len.false long)
