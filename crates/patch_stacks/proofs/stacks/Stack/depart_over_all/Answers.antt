use Rattle.std.proofs.Common.{◌≡◌, ◌<◌, ◌≤◌, ◌++◌, ◌∙◌, map, take, drop, set, length, ap, sym, subst, arith, refl}
use Rattle.std.proofs.lemmas.Grind.{common_steps}
use Rattle.std.proofs.lemmas.List.{with_items_is, length-take}
use Rattle.std.proofs.lemmas.List.Edits.{map_over_more}
use Rattle.patch_records.specs.Records.{Class, departed_among}
use Rattle.patch_stacks.specs.State.{Block, with_departed, TakenWithin, KnownApart}
use Rattle.patch_stacks.proofs.Within.{departed_within, all_within}
use Rattle.patch_stacks.proofs.Apart.{departed_apart}
use Rattle.patch_stacks.proofs.Departed.{more_departed, has_departed}
use Rattle.patch_images.proofs.Baring.{no_image}
use Rattle.patch_stacks.proofs.stacks.Stack.depart_over_all.Goals as goal

pub loop-class-preserved : goal.loop-class-preserved
loop-class-preserved g c =
    let within : c.loop-class.class-index < length c.deref_mut-class-items.result.now =
    let test = c.loop-class-test.true in let same = c.loop-class.auto.class-items in omega arith in (
      λ rising. ap (set c.loop-class.class-items c.loop-class.class-index) (c.depart_among-next.ensures.exact rising ∙ ap (departed_among c.args.numbers.now) (sym c.class-item.is))
          ∙ map_over_more (departed_among c.args.numbers.now) c.deref_mut-class-items.result.now c.loop-class.class-items c.loop-class.class-index
          c.class-item.result within (c.loop-class.invariant.0 rising) c.class-item.is,
      more_departed c.args.numbers.now c.deref_mut-class-items.result.now c.loop-class.class-items c.loop-class.class-index c.class-item.result _ within
          c.depart_among-next.ensures.named c.loop-class.invariant.1,
    )

pub returns-clause-exact : goal.returns-clause-exact
returns-clause-exact g c rising =
    let d = c.loop-class.invariant.1 in
    let f = departed_among c.args.numbers.now in
    let first = c.deref_mut-class-items.ensures.value in
    let over = c.loop-class-test.false in
    let long : length c.deref_mut-class-items.result.now ≤ c.loop-class.class-index = omega (arith, d.long) in
    let all : map f (take c.loop-class.class-index c.deref_mut-class-items.result.now) ++ drop c.loop-class.class-index c.deref_mut-class-items.result.now
    ≡ map f c.deref_mut-class-items.result.now = grind (arith, common_steps) in
    ap (λ cs. let b : Block = record { bytes = c.self.inside.bytes.items; classes = cs } in b)
    (with_items_is c.self.inside.classes c.loop-class.class-items (d.long ∙ c.deref_mut-class-items.ensures.len) ∙ c.loop-class.invariant.0 rising ∙ all ∙ ap (map f) first)
    ∙ ap (λ b. with_departed b c.args.numbers.now) c.self.view_is

pub returns-clause-named : goal.returns-clause-named
returns-clause-named g c =
    let d = c.loop-class.invariant.1 in
    has_departed c.args.numbers.now c.args.self.now c.self.inside.bytes.items c.self.inside.classes.items c.deref_mut-class-items.result.now c.loop-class.class-items _
    c.loop-class.class-index c.self.view_is c.deref_mut-class-items.ensures.value
    (with_items_is c.self.inside.classes c.loop-class.class-items (d.long ∙ c.deref_mut-class-items.ensures.len)) d

pub invariant_of-self : goal.invariant_of-self
invariant_of-self g c =
    let d = c.loop-class.invariant.1 in
    let first = c.deref_mut-class-items.ensures.value in
    let same = with_items_is c.self.inside.classes c.loop-class.class-items (d.long ∙ c.deref_mut-class-items.ensures.len) in
    let long = length-take c.self.inside.classes.len (c.loop-class.class-items ++ drop (length c.loop-class.class-items) c.self.inside.classes.items) in
    let fits : length (take c.self.inside.classes.len (c.loop-class.class-items ++ drop (length c.loop-class.class-items) c.self.inside.classes.items)) ≤ c.self.inside.classes.len = omega arith in
    let t : TakenWithin c.self.inside.taken c.deref_mut-class-items.result.now =
    subst (TakenWithin c.self.inside.taken) (sym first) c.self.invariant.1 in (
      c.self.invariant.0,
      subst (TakenWithin c.self.inside.taken) (sym same)
          (departed_within c.args.numbers.now c.deref_mut-class-items.result.now c.loop-class.class-items c.loop-class.class-index c.self.inside.taken d t),
      subst (KnownApart c.self.inside.members) (sym same)
          (departed_apart c.args.numbers.now c.deref_mut-class-items.result.now c.loop-class.class-items c.loop-class.class-index c.self.inside.members d
          (subst (KnownApart c.self.inside.members) (sym first) c.self.invariant.2)),
      rw (c.spread_over-self-inside.ensures, c.len.ensures) (all_within (λ (k : Class). k.flying) refl _ c.self.inside.flying _ fits),
      (λ m is on. no_image c.forget.new.image m c.forget.ensures is on),
      (λ m is on. no_image c.forget.new.image m c.forget.ensures is on),
    )
