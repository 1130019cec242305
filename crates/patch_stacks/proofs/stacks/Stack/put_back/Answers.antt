use Rattle.std.proofs.Common.{ap, sym, ◌∙◌}
use Rattle.std.proofs.lemmas.List.Quantifiers.{position-Some}
use Rattle.patch_records.specs.Records.{no_class}
use Rattle.patch_records.specs.declared.classes.Turn.TheVariants.{PutBack}
use Rattle.patch_stacks.specs.State.{outline}
use Rattle.patch_stacks.proofs.Outlines.{outline-exchanged}
use Rattle.patch_stacks.proofs.ClassPlaces.{not_found, found_there}
use Rattle.patch_stacks.proofs.stacks.Stack.put_back.Goals as goal

pub returns-in_default-clause-exact : goal.returns-in_default-clause-exact
returns-in_default-clause-exact g c at is = absurd (not_found c.args.self.now c.args.no at (sym c.in_default.ensures) is)

pub returns-then-not-is_taken_at-clause-exact : goal.returns-then-not-is_taken_at-clause-exact
returns-then-not-is_taken_at-clause-exact g c at is =
    found_there c.args.self.now c.args.no c.in-Some.at at (sym c.in-Some.ensures) is (sym c.is_taken_at.ensures ∙ c.if-not-is_taken_at.true)

pub returns-in-Some-hindrance-clause-exact : goal.returns-in-Some-hindrance-clause-exact
returns-in-Some-hindrance-clause-exact g c =
    (c.in-Some.at, sym c.in-Some.ensures, sym c.is_taken_at.ensures ∙ c.if-not-is_taken_at.false, c.in-Some-hindrance.ensures)

pub returns-clause-exact : goal.returns-clause-exact
returns-clause-exact g c = (
  c.in-Some.at,
  record {
    place = sym c.in-Some.ensures;
    taken = sym c.is_taken_at.ensures ∙ c.if-not-is_taken_at.false;
    free = c.in_default-hindrance.ensures;
    is = c.exchange_at.ensures;
  },
)

pub returns-clause-outline : goal.returns-clause-outline
returns-clause-outline g c = let w = position-Some _ c.args.self.now.classes c.in-Some.at no_class (sym c.in-Some.ensures) in
    ap outline c.exchange_at.ensures ∙ outline-exchanged c.args.self.now c.in-Some.at PutBack w.0
