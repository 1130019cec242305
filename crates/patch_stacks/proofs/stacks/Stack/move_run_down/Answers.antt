use Rattle.std.proofs.Common.{◌+◌, ◌-◌, ◌≤◌, arith, ap, sym, subst, ◌∙◌, length, refl}
use Rattle.std.proofs.lemmas.List.{with_items_is}
use Rattle.patch_stacks.specs.State.{Block, run_down, run_moved_down, TakenWithin, FlyingWithin, KnownApart}
use Rattle.patch_records.specs.Records.{no_class, Class}
use Rattle.patch_stacks.proofs.Rotating.{length-run_down}
use Rattle.patch_stacks.proofs.Rearranging.{run-none}
use Rattle.patch_stacks.proofs.Running.{run-apart, run-within}
use Rattle.patch_images.proofs.Baring.{no_image}
use Rattle.patch_stacks.proofs.stacks.Stack.move_run_down.Goals as goal

pub returns-then-k-stop : goal.returns-then-k-stop
returns-then-k-stop g c = sym (run-none c.args.self.now c.args.front c.args.k c.args.stop c.if-k-stop.true)

pub returns : goal.returns
returns g c =
    let e = c.as_mut_slice.ensures.value in
    let v = c.self.view_is in
    let m = c.args.stop - c.args.k in
    let within : c.args.stop ≤ length c.as_mut_slice.result.now = rw (e ∙ ap (λ b. b.classes) v) c.requires.within in
    let up = c.requires.up in
    let upto : c.args.k + m ≤ length c.as_mut_slice.result.now = omega (arith, up, within) in
    let turn = c.turn_run_down.ensures no_class in
    let long = ap length turn ∙ length-run_down no_class c.as_mut_slice.result.now c.args.front c.args.k m c.requires.down upto ∙ c.as_mut_slice.ensures.len in
    ap (λ cs. let b : Block = record { bytes = c.self.inside.bytes.items; classes = cs } in b)
    (with_items_is c.self.inside.classes _ long ∙ turn ∙ ap (λ cs. run_down no_class cs c.args.front c.args.k m) e)
    ∙ ap (λ b. run_moved_down b c.args.front c.args.k m) v

pub invariant_of-self : goal.invariant_of-self
invariant_of-self g c =
    let e = c.as_mut_slice.ensures.value in
    let m = c.args.stop - c.args.k in
    let within : c.args.stop ≤ length c.as_mut_slice.result.now = rw (e ∙ ap (λ b. b.classes) c.self.view_is) c.requires.within in
    let up = c.requires.up in
    let upto : c.args.k + m ≤ length c.as_mut_slice.result.now = omega (arith, up, within) in
    let turn = c.turn_run_down.ensures no_class in
    let long = ap length turn ∙ length-run_down no_class c.as_mut_slice.result.now c.args.front c.args.k m c.requires.down upto ∙ c.as_mut_slice.ensures.len in
    let now = with_items_is c.self.inside.classes _ long ∙ turn in
    let t : TakenWithin c.self.inside.taken c.as_mut_slice.result.now = subst (TakenWithin c.self.inside.taken) (sym e) c.self.invariant.1 in
    let s = c.spread-self-inside.ensures in
    let d = c.in_disorder-self-inside.ensures in
    let l = c.len.ensures in
    let fits : length c.as_mut_slice.result.now ≤ c.self.inside.classes.len = omega (arith, c.as_mut_slice.ensures.len) in (
      c.self.invariant.0,
      rw (s, l, now) (run-within (λ (k : Class). k.taken) refl c.as_mut_slice.result.now c.args.front c.args.k m c.self.inside.taken c.self.inside.classes.len fits c.requires.down upto t),
      rw (d, now) (run-apart c.as_mut_slice.result.now c.args.front c.args.k m c.self.inside.members c.requires.down upto
          (subst (KnownApart c.self.inside.members) (sym e) c.self.invariant.2)),
      rw (c.spread-self-inside-2.ensures, c.len-2.ensures, now) (run-within (λ (k : Class). k.flying) refl c.as_mut_slice.result.now c.args.front c.args.k m c.self.inside.flying c.self.inside.classes.len
          fits c.requires.down upto (subst (FlyingWithin c.self.inside.flying) (sym e) c.self.invariant.3)),
      (λ m is on. no_image c.forget.new.image m c.forget.ensures is on),
      (λ m is on. no_image c.forget.new.image m c.forget.ensures is on),
    )

pub turn_run_down-requires-clause-within : goal.turn_run_down-requires-clause-within
turn_run_down-requires-clause-within g c = rw (c.as_mut_slice.ensures.value ∙ ap (λ b. b.classes) c.self.view_is) c.requires.within
