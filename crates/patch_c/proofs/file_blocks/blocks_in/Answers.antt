use Rattle.std.proofs.Common.{◌≡◌, ◌*◌, ◌∙◌, ◌∷◌, ◌++◌, [], length, sym, ap, subst, arith, rules}
use Rattle.std.proofs.lemmas.List.FromFn.{length-map-range_with_len, map-range_with_len_more}
use Rattle.patch_model.specs.declared.blocks.TheConstants.{BLOCK}
use Rattle.patch_device.specs.Blocks.{FitsFile}
use Rattle.patch_c.specs.Opening.{block_in}
use Rattle.patch_c.proofs.Refused.{no_file, starved_why}
use Rattle.patch_c.proofs.file_blocks.blocks_in.Goals as goal

pub returns-in_default-clause-why : goal.returns-in_default-clause-why
returns-in_default-clause-why c = no_file c.args.bytes.now c.of.result.refusal (c.of.ensures ∙ c.bare.ensures) c.in_default.ensures.none

pub loop-n-preserved : goal.loop-n-preserved
loop-n-preserved c =
    let next = block_in c.args.bytes.now in
    let is : c.in_ok-from_slice.field-0 ≡ next c.loop-n.n = search (rules, c.in_ok-from_slice.ensures) in
    c.in_ok-push.ensures.items ∙ ap (λ block. c.loop-n.blocks.items ++ block ∷ []) is ∙ ap (λ blocks. blocks ++ next c.loop-n.n ∷ []) c.loop-n.invariant
    ∙ sym (map-range_with_len_more next 0 c.loop-n.n c.loop-n.n (omega arith))

pub returns-clause-whole : goal.returns-clause-whole
returns-clause-whole c =
    let many : length c.loop-n.blocks.items ≡ c.loop-n.n =
    ap length c.loop-n.invariant ∙ length-map-range_with_len (block_in c.args.bytes.now) 0 c.loop-n.n in
    let last : c.loop-n.n ≡ c.in-Some.count = let done = c.loop-n-test.false in let low = c.loop-n.auto.n-end in omega arith in
    subst (λ count. length c.args.bytes.now ≡ count * BLOCK) (sym (many ∙ last)) c.in-Some.ensures.whole

pub returns-clause-fits : goal.returns-clause-fits
returns-clause-fits c =
    let many : length c.loop-n.blocks.items ≡ c.loop-n.n =
    ap length c.loop-n.invariant ∙ length-map-range_with_len (block_in c.args.bytes.now) 0 c.loop-n.n in
    let last : c.loop-n.n ≡ c.in-Some.count = let done = c.loop-n-test.false in let low = c.loop-n.auto.n-end in omega arith in
    subst FitsFile (sym (many ∙ last)) c.in-Some.ensures.fits

pub returns-in_err-blocks-clause-why : goal.returns-in_err-blocks-clause-why
returns-in_err-blocks-clause-why c = starved_why c.args.bytes.now c.in-Some.count c.from_residual.result c.from_residual.ensures.1 c.in-Some.ensures.whole c.in-Some.ensures.fits

pub returns-in_err-from_slice-clause-why : goal.returns-in_err-from_slice-clause-why
returns-in_err-from_slice-clause-why c = starved_why c.args.bytes.now c.in-Some.count c.from_residual-in_err-from_slice.result c.from_residual-in_err-from_slice.ensures.1 c.in-Some.ensures.whole c.in-Some.ensures.fits

pub returns-in_err-push-clause-why : goal.returns-in_err-push-clause-why
returns-in_err-push-clause-why c = starved_why c.args.bytes.now c.in-Some.count c.from_residual-in_err-push.result c.from_residual-in_err-push.ensures.1 c.in-Some.ensures.whole c.in-Some.ensures.fits
