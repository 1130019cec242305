use Rattle.std.proofs.Common.{◌<◌, ◌∙◌, List, ℕ, length, set, ap, sym, subst, refl}
use Rattle.std.proofs.lemmas.List.{with_items_is, get_or_default}
use Rattle.patch_records.specs.Records.{Class, no_class}
use Rattle.patch_stacks.specs.State.{Block, exchanged_at}
use Rattle.patch_records.specs.Exchanges.{laid_on, exchanged_with}
use Rattle.patch_records.proofs.Reading.{in_vec}
use Rattle.patch_stacks.proofs.Within.{kept_within, set_within}
use Rattle.patch_stacks.proofs.Apart.{set_apart}
use Rattle.patch_images.proofs.Baring.{no_image}
use Rattle.patch_stacks.proofs.stacks.Stack.exchange_at.Goals as goal

pub invariant_of-self : goal.invariant_of-self
invariant_of-self g c =
    let within : c.args.at < length c.self.inside.classes.items = subst (λ z. c.args.at < length z.classes) (sym c.self.view_is) c.requires in
    let bytes = ap length (with_items_is c.self.inside.bytes c.exchange.new.bytes (c.exchange.auto.bytes ∙ c.as_mut_slice.ensures.len))
    ∙ c.exchange.auto.bytes ∙ ap length c.as_mut_slice.ensures.value ∙ c.self.invariant.0 in
    let is = c.exchange.ensures.class in
    let was = c.index_mut-class.ensures.value ∙ get_or_default c.self.inside.classes.items c.args.at c.index_mut-class.result.now no_class within in
    let e = c.with-self-inside.ensures in (
      bytes,
      rw e (set_within (λ (k : Class). k.taken) refl c.self.inside.classes.items c.exchange.new.self c.args.at c.self.inside.taken c.self.invariant.1),
      set_apart c.self.inside.classes.items c.exchange.new.self c.args.at c.self.inside.members (ap (λ (k : Class). k.members) is ∙ ap (λ (k : Class). k.members) was) (ap (λ (k : Class). k.name) is ∙ ap (λ (k : Class). k.name) was) c.self.invariant.2,
      kept_within (λ (k : Class). k.flying) refl c.self.inside.classes.items c.exchange.new.self c.args.at c.self.inside.flying (ap (λ (k : Class). k.flying) is ∙ ap (λ (k : Class). k.flying) was) c.self.invariant.3,
      (λ m is on. no_image c.forget.new.image m c.forget.ensures is on),
      (λ m is on. no_image c.forget.new.image m c.forget.ensures is on),
    )

pub index_mut-class-requires : goal.index_mut-class-requires
index_mut-class-requires g c = in_vec c.self.inside.classes c.args.at (subst (λ (b : Block). c.args.at < length b.classes) (sym c.self.view_is) c.requires)

pub exchange-requires : goal.exchange-requires
exchange-requires g c = ap length c.as_mut_slice.ensures.value ∙ c.self.invariant.0

pub returns : goal.returns
returns g c =
    let within : c.args.at < length c.self.inside.classes.items = subst (λ (b : Block). c.args.at < length b.classes) (sym c.self.view_is) c.requires in
    let held : Class = c.index_mut-class.result.now in
    let bytes : List ℕ = c.self.inside.bytes.items in
    let is_held = c.as_mut_slice.ensures.value in
    let was = c.index_mut-class.ensures.value ∙ get_or_default c.self.inside.classes.items c.args.at held no_class within in
    let laid = with_items_is c.self.inside.bytes c.exchange.new.bytes (c.exchange.auto.bytes ∙ c.as_mut_slice.ensures.len) ∙ c.exchange.ensures.laid ∙ ap (laid_on held) is_held in
    let exchanged = c.exchange.ensures.class ∙ ap (λ (bs : List ℕ). exchanged_with held bs c.args.turn) is_held in
    ap (λ (bs : List ℕ). let b : Block = record { bytes = bs; classes = set c.self.inside.classes.items c.args.at c.exchange.new.self } in b) laid
    ∙ ap (λ (k : Class). let b : Block = record { bytes = laid_on held bytes; classes = set c.self.inside.classes.items c.args.at k } in b) exchanged
    ∙ ap (λ (k : Class). let b : Block = record { bytes = laid_on k bytes; classes = set c.self.inside.classes.items c.args.at (exchanged_with k bytes c.args.turn) } in b) was
    ∙ ap (λ (b : Block). exchanged_at b c.args.at c.args.turn) c.self.view_is
