use Rattle.std.proofs.Common.{◌≡◌, ◌∙◌, length, ap, arith, w32, to_z, of_z, to_z-of_z}
use Rattle.patch_c.specs.Texts.{text_of, with_text}
use Rattle.patch_c.proofs.texts.fstch_error_text.Goals as goal
use Rattle.patch_c.proofs.texts.fstch_error_text.Goals.{After-as_bytes-text}

-- the text is that of the answer that was passed
text_is : (c : After-as_bytes-text) → c.as_bytes-text.result.now ≡ text_of c.args.answer
text_is c =
    let n : to_z w32 (of_z w32 c.args.answer) ≡ c.args.answer = grind (arith, to_z-of_z) in
    c.as_bytes-text.ensures.value ∙ c.text_of.ensures.text ∙ ap text_of n

pub returns-clause-length : goal.returns-clause-length
returns-clause-length c = ap length (text_is (goal.at.returns-clause-length c).After-as_bytes-text)

pub returns-clause-text : goal.returns-clause-text
returns-clause-text c =
    c.copy_text.ensures ∙ ap (λ text. with_text text c.args.into.now) (text_is (goal.at.returns-clause-text c).After-as_bytes-text)
