use Rattle.std.proofs.Common.{◌≡◌, ◌∙◌, ◌*◌, ◌++◌, [], ℕ, List, take, ap, sym, subst, rules}
use Rattle.std.proofs.lemmas.List.{append-nil}
use Rattle.std.specs.Str.{IsUtf8}
use Rattle.hex.specs.Hex.{encode_lower, lower_digits}
use Rattle.patch_script.proofs.Blocks.{digits_are_text, take-encode_with}
use Rattle.patch_script.proofs.digits.push_block.Goals as goal

-- the digits of a whole block, by its halves as a list of two lists
whole : (block front back digits : List ℕ) → digits ≡ front ++ (back ++ []) → front ++ back ≡ encode_lower block → digits ≡ encode_lower block
whole block front back digits flat halves = flat ∙ ap (λ t. front ++ t) (append-nil back) ∙ halves

pub from_utf8_unchecked-requires : goal.from_utf8_unchecked-requires
from_utf8_unchecked-requires c =
    let block = c.args.block.now in
    let digits = whole block c.halves_of.result.0 c.halves_of.result.1 c.as_flattened-digits.result.now c.as_flattened-digits.ensures.value c.halves_of.ensures in
    subst (λ (t : List ℕ). IsUtf8 (take (2 * c.args.count) t)) (sym digits) (digits_are_text block (2 * c.args.count))

pub returns : goal.returns
returns c =
    let block = c.args.block.now in
    let digits = whole block c.halves_of.result.0 c.halves_of.result.1 c.as_flattened-digits.result.now c.as_flattened-digits.ensures.value c.halves_of.ensures in
    let text : c.from_utf8_unchecked.result.now ≡ encode_lower (take c.args.count block) =
    c.from_utf8_unchecked.ensures ∙ ap (λ (t : List ℕ). take (2 * c.args.count) t) digits ∙ take-encode_with lower_digits block c.args.count in
    search (rules, text)
