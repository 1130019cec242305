use Rattle.std.proofs.Common.{◌≡◌, ◌<◌, ◌∙◌, length, sym, ap, subst}
use Rattle.std.proofs.lemmas.Bool.{eqb-true}
use Rattle.patch_stacks.specs.State.{Block, IsOnlyNamed, class_at}
use Rattle.patch_stacks.proofs.Apart.{only_named}
use Rattle.patch_stacks.proofs.stacks.Stack.place_of_name.Goals as goal

pub returns-then-eq : goal.returns-then-eq
returns-then-eq g c =
    let b : Block = record { bytes = c.self.inside.bytes.items; classes = c.self.inside.classes.items } in
    let v = c.self.view_is in
    let within : c.in-Some.at < length c.self.inside.classes.items = subst (λ z. c.in-Some.at < length z.classes) (sym v) c.in-Some.ensures in
    let named : (class_at b c.in-Some.at).name ≡ c.args.name =
    ap (λ z. (class_at z c.in-Some.at).name) v ∙ sym c.name_at.ensures ∙ eqb-true _ _ (sym c.eq.ensures ∙ c.if-eq.true) in
    subst (λ z. IsOnlyNamed z c.args.name c.in-Some.at) v
    (only_named b c.self.inside.members c.args.name c.in-Some.at c.self.invariant.2 c.if-not-self.false within named)
