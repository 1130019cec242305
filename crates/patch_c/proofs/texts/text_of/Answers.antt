use Rattle.std.proofs.Common.{◌≡◌, ◌∙◌, ℕ, List, ap, arith, rules, tests, w32, to_z, of_z, to_z-of_z}
use Rattle.patch_c.specs.Texts.{cache_text_of, text_in, texts}
use Rattle.patch_c.proofs.texts.text_of.Goals as goal

pub returns-in_default-clause-text : goal.returns-in_default-clause-text
returns-in_default-clause-text c =
    let n : to_z w32 (of_z w32 c.args.answer) ≡ c.args.answer = grind (arith, to_z-of_z) in
    let none : (other : List ℕ) → other ≡ text_in texts c.args.answer other = λ other. search (tests, rules) in
    c.cache_text_of.ensures.text ∙ ap cache_text_of n ∙ none (cache_text_of c.args.answer)
