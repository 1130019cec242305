use Rattle.std.proofs.Common.{◌≡◌, ◌<◌, ◌∙◌, true, inl, inr, length, sym, ap, subst}
use Rattle.std.proofs.lemmas.Bool.{cases_Bool}
use Rattle.std.proofs.lemmas.List.{get_or_default}
use Rattle.patch_model.specs.Entry.{is_among}
use Rattle.patch_stacks.specs.State.{Block, KnownApart, class_at}
use Rattle.patch_records.specs.Records.{no_class}
use Rattle.patch_stacks.proofs.Apart.{found_apart}
use Rattle.patch_stacks.proofs.stacks.Stack.place_by_name.Goals as goal

pub returns : goal.returns
returns g c =
    let e = c.then_some.ensures in
    let f = c.includes.ensures in
    elim (cases_Bool c.includes.result) [
      | inr off ↦ rw (e, off) tt
      | inl on ↦
          let a : KnownApart c.self.inside.members c.args.self.now.classes = subst (λ (b : Block). KnownApart c.self.inside.members b.classes) c.self.view_is c.self.invariant.2 in
          let within : c.in-Some.at < length c.self.inside.classes.items = subst (λ z. c.in-Some.at < length z.classes) (sym c.self.view_is) c.in-Some.ensures in
          let is = c.index-class.ensures ∙ get_or_default c.self.inside.classes.items c.in-Some.at c.index-class.result.now no_class within in
          let here : is_among (class_at c.args.self.now c.in-Some.at).members c.args.no ≡ true =
          ap (λ (b : Block). is_among (class_at b c.in-Some.at).members c.args.no) (sym c.self.view_is)
          ∙ ap (λ k. is_among k.members c.args.no) (sym is) ∙ sym f ∙ on in
          rw (e, on) (found_apart c.args.self.now c.self.inside.members c.in-Some.at c.args.no a c.if-not-self.false here)
    ]
