use Rattle.std.proofs.Common.{◌≡◌, ◌∙◌, ℕ, List, [], sym, ap}
use Rattle.std.specs.Prelude.{IsTrue}
use Rattle.std.proofs.lemmas.Bool.{eqb-true}
use Rattle.std.proofs.lemmas.List.{nil_from_length}
use Rattle.patch_plans.specs.Groups.{Groups, after_of}
use Rattle.patch_group.proofs.calls.Groups.engages_none.Given.{Over}
use Rattle.patch_group.proofs.calls.Groups.engages_none.Goals as goal

-- groups with these engagements
abbrev engaging : Groups → List (ℕ × ℕ) → Groups
engaging gs es = record gs { engaged = es }

none : (g : Over) (c : goal.After-is_empty g) → IsTrue c.is_empty.result → c.args.self.now.engaged ≡ []
none g c holds = sym (ap (λ gs. gs.engaged) c.self.view_is) ∙ sym c.as_slice-engaged.ensures.value ∙ nil_from_length c.as_slice-engaged.result.now (eqb-true _ _ (sym c.is_empty.ensures ∙ holds))

pub returns : goal.returns
returns g c = λ holds writer. ap (λ es. after_of (engaging c.args.self.now es) writer) (none g c holds)
