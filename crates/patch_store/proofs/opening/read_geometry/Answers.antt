use Rattle.std.proofs.Common.{◌≡◌, ◌∙◌, false, length, sym, ap, arith}
use Rattle.std.specs.Prelude.{◌==◌}
use Rattle.std.proofs.lemmas.Bool.Decides.{nat_tests}
use Rattle.patch_frame.specs.Geometry.{block_count}
use Rattle.patch_frame.specs.Superblock.{superblock_at}
use Rattle.patch_store.specs.Opening.{unchanged}
use Rattle.patch_store.proofs.Scanned.{whole_block}
use Rattle.patch_store.proofs.Opened.{bad_super, bad_size}
use Rattle.patch_store.proofs.opening.read_geometry.Goals as goal

pub returns-in_default-read_superblock-clause-read : goal.returns-in_default-read_superblock-clause-read
returns-in_default-read_superblock-clause-read g c blocks cache =
    let whole = whole_block blocks 0 c.in-Some.bytes.now cache.legal.blocks cache.legal.some (c.in-Some.ensures.bytes blocks cache cache.legal.some (omega arith)) in
    bad_super blocks c.in_default-read_superblock.field-0 (ap superblock_at (sym whole) ∙ sym c.in_default-read_superblock.ensures.exact)

pub returns-then-block_count-blocks-clause-read : goal.returns-then-block_count-blocks-clause-read
returns-then-block_count-blocks-clause-read g c blocks cache =
    let whole = whole_block blocks 0 c.in-Some.bytes.now cache.legal.blocks cache.legal.some (c.in-Some.ensures.bytes blocks cache cache.legal.some (omega arith)) in
    let says = c.block_count.ensures in
    let has = c.blocks-2.ensures.answer (unchanged blocks) cache in
    let differ = c.if-block_count-blocks.true in
    let other : (length blocks == block_count c.in-Ok.geometry) ≡ false = grind (arith, nat_tests, says, has, differ) in
    bad_size blocks c.in-Ok.geometry (ap superblock_at (sym whole) ∙ sym c.in-Ok.ensures.exact) other

pub returns-clause-read : goal.returns-clause-read
returns-clause-read g c blocks cache =
    let whole = whole_block blocks 0 c.in-Some.bytes.now cache.legal.blocks cache.legal.some (c.in-Some.ensures.bytes blocks cache cache.legal.some (omega arith)) in
    record {
      super = ap superblock_at (sym whole) ∙ sym c.in-Ok.ensures.exact;
      count = sym (c.blocks-2.ensures.answer (unchanged blocks) cache) ∙ sym c.if-block_count-blocks.false ∙ c.block_count.ensures;
    }

pub returns-in_default-clause-read : goal.returns-in_default-clause-read
returns-in_default-clause-read g c blocks cache = absurd (c.in_default.ensures.bytes blocks cache cache.legal.some (omega arith))

pub read_superblock-requires : goal.read_superblock-requires
read_superblock-requires g c = c.in-Some.ensures.long

pub block_count-requires : goal.block_count-requires
block_count-requires g c = let fits = c.in-Ok.ensures.found.0.blocks in omega (arith, fits)

pub returns-clause-valid : goal.returns-clause-valid
returns-clause-valid g c = c.in-Ok.ensures.found.0

pub returns-clause-count : goal.returns-clause-count
returns-clause-count g c = sym c.block_count.ensures ∙ c.if-block_count-blocks.false ∙ c.blocks-2.ensures.value
