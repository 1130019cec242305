use Rattle.std.proofs.Common.{◌≡◌, ◌<◌, ◌≤◌, ◌∙◌, length, set, ap, sym, subst, refl}
use Rattle.std.proofs.lemmas.List.{get_or_default}
use Rattle.patch_records.specs.Records.{Class, no_class, departed, saved_end}
use Rattle.std.specs.Prelude.{Some}
use Rattle.patch_images.specs.declared.gaps.Gap.{Gap}
use Rattle.patch_images.specs.Images.{DepartsAlone, KeepsSpan, KnownGap}
use Rattle.patch_stacks.specs.State.{Block, departed_at}
use Rattle.patch_records.proofs.Reading.{in_vec}
use Rattle.patch_stacks.proofs.Within.{kept_within, set_within}
use Rattle.patch_stacks.proofs.Apart.{set_apart}
use Rattle.patch_images.proofs.Baring.{departed_image}
use Rattle.patch_images.proofs.Gapping.{alone-in, departed_gap, some-is}
use Rattle.patch_stacks.proofs.stacks.Stack.depart_at.Goals as goal

pub invariant_of-self : goal.invariant_of-self
invariant_of-self g c =
    let within : c.args.at < length c.self.inside.classes.items = subst (λ z. c.args.at < length z.classes) (sym c.self.view_is) c.requires in
    let is = c.depart.ensures in
    let was = c.index_mut-class.ensures.value ∙ get_or_default c.self.inside.classes.items c.args.at c.index_mut-class.result.now no_class within in
    let alone : (gap : Gap) → c.gap_of_departing-gap.result ≡ Some gap → DepartsAlone c.self.inside.classes.items c.args.at gap =
    λ gap some. subst (λ cs. DepartsAlone cs c.args.at gap) c.as_slice.ensures.value (some-is _ _ gap some c.gap_of_departing-gap.ensures) in
    let keeps =
    subst (λ bs. KeepsSpan c.gap_of_departing-gap.result bs c.start-start.result c.saved_end-stop.result c.self.inside.image c.keep_span.new.image) c.as_slice-2.ensures.value c.keep_span.ensures in (
      c.self.invariant.0,
      kept_within (λ (k : Class). k.taken) refl c.self.inside.classes.items c.depart.new.self c.args.at c.self.inside.taken (ap (λ (k : Class). k.taken) is ∙ ap (λ (k : Class). k.taken) was) c.self.invariant.1,
      set_apart c.self.inside.classes.items c.depart.new.self c.args.at c.self.inside.members (ap (λ (k : Class). k.members) is ∙ ap (λ (k : Class). k.members) was) (ap (λ (k : Class). k.name) is ∙ ap (λ (k : Class). k.name) was) c.self.invariant.2,
      rw c.with-self-inside.ensures (set_within (λ (k : Class). k.flying) refl c.self.inside.classes.items c.depart.new.self c.args.at c.self.inside.flying c.self.invariant.3),
      departed_image c.self.inside.image c.keep_span.new.image c.self.inside.classes.items c.depart.new.self c.args.at c.start-start.result c.saved_end-stop.result c.self.inside.bytes.items
          c.gap_of_departing-gap.result within c.self.invariant.0
          (c.start-start.ensures ∙ ap (λ (k : Class). k.start) was) (c.saved_end-stop.ensures.exact ∙ ap saved_end was) (is ∙ ap departed was)
          (λ gap some. alone-in c.self.inside.classes.items c.args.at gap (alone gap some))
          keeps c.self.invariant.4,
      departed_gap c.self.inside.image c.keep_span.new.image c.self.inside.classes.items c.depart.new.self c.args.at c.start-start.result c.saved_end-stop.result c.self.inside.bytes.items
          c.gap_of_departing-gap.result within (is ∙ ap departed was) alone keeps,
    )

pub gap_of_departing-gap-requires-clause-there : goal.gap_of_departing-gap-requires-clause-there
gap_of_departing-gap-requires-clause-there g c =
    subst (λ cs. c.args.at < length cs) (sym (c.as_slice.ensures.value ∙ ap (λ (b : Block). b.classes) c.self.view_is)) c.requires

pub gap_of_departing-gap-requires-clause-gap : goal.gap_of_departing-gap-requires-clause-gap
gap_of_departing-gap-requires-clause-gap g c = subst (KnownGap c.self.inside.image) (sym c.as_slice.ensures.value) c.self.invariant.5

pub index_mut-class-requires : goal.index_mut-class-requires
index_mut-class-requires g c = in_vec c.self.inside.classes c.args.at (subst (λ (b : Block). c.args.at < length b.classes) (sym c.self.view_is) c.requires)

pub keep_span-requires-clause-range : goal.keep_span-requires-clause-range
keep_span-requires-clause-range g c = subst (λ n. n ≤ c.saved_end-stop.result) (sym c.start-start.ensures) c.saved_end-stop.ensures.range

pub keep_span-requires-clause-within : goal.keep_span-requires-clause-within
keep_span-requires-clause-within g c = c.saved_end-stop.ensures.fits

pub keep_span-requires-clause-length : goal.keep_span-requires-clause-length
keep_span-requires-clause-length g c = ap length c.as_slice-2.ensures.value ∙ c.self.invariant.0

pub returns : goal.returns
returns g c =
    let within : c.args.at < length c.self.inside.classes.items = subst (λ (b : Block). c.args.at < length b.classes) (sym c.self.view_is) c.requires in
    let was = c.index_mut-class.ensures.value ∙ get_or_default c.self.inside.classes.items c.args.at c.index_mut-class.result.now no_class within in
    ap (λ (k : Class). let b : Block = record { bytes = c.self.inside.bytes.items; classes = set c.self.inside.classes.items c.args.at k } in b) (c.depart.ensures ∙ ap departed was)
    ∙ ap (λ (b : Block). departed_at b c.args.at) c.self.view_is
