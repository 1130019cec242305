use Rattle.std.proofs.Common.{◌≡◌, ◌∙◌, ◌+◌, ◌≤◌, length, refl, sym, ap, subst}
use Rattle.patch_records.specs.Records.{Class, unlaid_class}
use Rattle.patch_stacks.specs.State.{with_laid}
use Rattle.patch_stacks.proofs.stacks.Stack.lay_if.Goals as goal

pub lay_with-requires-clause-fits : goal.lay_with-requires-clause-fits
lay_with-requires-clause-fits g c = subst (λ (k : Class). k.start + length c.args.bytes.now ≤ 4096) (sym c.in_ok-class.ensures) c.requires.fits

pub lay_with-requires-clause-unlaid : goal.lay_with-requires-clause-unlaid
lay_with-requires-clause-unlaid g c =
    subst (λ (k : Class). k ≡ unlaid_class k.name k.start c.args.bytes.now k.after k.hard) (sym c.in_ok-class.ensures) refl

pub returns-clause-laid : goal.returns-clause-laid
returns-clause-laid g c = record {
  all = c.in_ok-named.named.items;
  names = c.in_ok-named.ensures.kept;
  is = c.in_ok-lay_with.ensures.done ∙ ap (λ (k : Class). with_laid c.args.self.now k.name k.start c.args.bytes.now k.after k.hard) c.in_ok-class.ensures;
}
