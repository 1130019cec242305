use Rattle.std.proofs.Common.{ap, sym, ◌∙◌}
use Rattle.std.proofs.lemmas.List.Quantifiers.{position-Some}
use Rattle.patch_records.specs.Records.{no_class}
use Rattle.patch_records.specs.declared.classes.Turn.TheVariants.{Take}
use Rattle.patch_stacks.specs.State.{outline}
use Rattle.patch_stacks.specs.Turns.{IsSoftAt}
use Rattle.patch_stacks.proofs.Outlines.{outline-exchanged}
use Rattle.patch_stacks.proofs.stacks.Stack.take.Goals as goal

pub returns-in_default-clause-exact : goal.returns-in_default-clause-exact
returns-in_default-clause-exact g c = sym c.in_default.ensures

pub returns-then-is_flying_at-clause-exact : goal.returns-then-is_flying_at-clause-exact
returns-then-is_flying_at-clause-exact g c = (c.in-Some.at, sym c.in-Some.ensures, sym c.is_flying_at.ensures ∙ c.if-is_flying_at.true)

pub returns-then-is_hard_at-clause-exact : goal.returns-then-is_hard_at-clause-exact
returns-then-is_hard_at-clause-exact g c =
    (c.in-Some.at, sym c.in-Some.ensures, sym c.is_flying_at.ensures ∙ c.if-is_flying_at.false, sym c.is_hard_at.ensures ∙ c.if-is_hard_at.true)

pub returns-then-is_taken_at-clause-exact : goal.returns-then-is_taken_at-clause-exact
returns-then-is_taken_at-clause-exact g c =
    let stands : IsSoftAt c.args.self.now c.args.no c.in-Some.at = record {
      place = sym c.in-Some.ensures;
      memory = sym c.is_flying_at.ensures ∙ c.if-is_flying_at.false;
      soft = sym c.is_hard_at.ensures ∙ c.if-is_hard_at.false;
    } in
    (c.in-Some.at, stands, sym c.is_taken_at.ensures ∙ c.if-is_taken_at.true)

pub returns-in-Some-hindrance-clause-exact : goal.returns-in-Some-hindrance-clause-exact
returns-in-Some-hindrance-clause-exact g c =
    let stands : IsSoftAt c.args.self.now c.args.no c.in-Some.at = record {
      place = sym c.in-Some.ensures;
      memory = sym c.is_flying_at.ensures ∙ c.if-is_flying_at.false;
      soft = sym c.is_hard_at.ensures ∙ c.if-is_hard_at.false;
    } in
    (c.in-Some.at, stands, sym c.is_taken_at.ensures ∙ c.if-is_taken_at.false, c.in-Some-hindrance.ensures)

pub returns-clause-exact : goal.returns-clause-exact
returns-clause-exact g c =
    let stands : IsSoftAt c.args.self.now c.args.no c.in-Some.at = record {
      place = sym c.in-Some.ensures;
      memory = sym c.is_flying_at.ensures ∙ c.if-is_flying_at.false;
      soft = sym c.is_hard_at.ensures ∙ c.if-is_hard_at.false;
    } in (
      c.in-Some.at,
      record {
        stands = stands;
        applied = sym c.is_taken_at.ensures ∙ c.if-is_taken_at.false;
        free = c.in_default-hindrance.ensures;
        is = c.exchange_at.ensures;
      },
    )

pub returns-clause-outline : goal.returns-clause-outline
returns-clause-outline g c = let w = position-Some _ c.args.self.now.classes c.in-Some.at no_class (sym c.in-Some.ensures) in
    ap outline c.exchange_at.ensures ∙ outline-exchanged c.args.self.now c.in-Some.at Take w.0
