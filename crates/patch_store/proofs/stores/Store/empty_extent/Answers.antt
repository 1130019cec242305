use Rattle.std.proofs.Common.{◌<◌, ◌∙◌, refl, length, map, sym, arith}
use Rattle.std.specs.Prelude.{None}
use Rattle.patch_history.specs.Shelf.{Shelf}
use Rattle.patch_store.proofs.Removing.{same_left}
use Rattle.patch_store.proofs.Wholes.{long_left, whole_on}
use Rattle.patch_store.proofs.Emptied.{no_longer, still, none_left, left_at, shelf_reset, emptied_so, reset_alike}
use Rattle.patch_store.proofs.stores.Store.empty_extent.Goals as goal

pub invariant_of-self : goal.invariant_of-self
invariant_of-self g c = c.self.invariant

pub returns-in_default : goal.returns-in_default
returns-in_default g c = c.self.view_is

pub invariant_of-self-in_default-reset : goal.invariant_of-self-in_default-reset
invariant_of-self-in_default-reset g c =
    let s : Shelf = record {
      extents = c.self.inside.extents;
      slots = c.self.inside.index;
      current = c.self.inside.current;
      last_delete = c.self.inside.last_delete;
      upgrade = c.self.inside.upgrade;
      left = map (λ v. v.items) c.self.inside.left.items;
    } in
    whole_on c.self.inside.geometry s c.reset.new.self s.current _ c.self.invariant c.in_default-reset.ensures.geometry c.self.invariant.1.current
    (long_left (λ v. v.items) c.self.inside.left.items c.args.extent c.in-Some.left.now)

pub returns-in_default-reset : goal.returns-in_default-reset
returns-in_default-reset g c =
    reset_alike _ _ c.reset.new.self c.reset.new.cache _ c.self.view_is c.in_default-reset.ensures.refused c.in_default-reset.ensures.refused_cache
    (same_left (λ v. v.items) c.self.inside.left.items c.args.extent c.in-Some.left.now c.in-Some.left.now refl c.in-Some.ensures.value)

pub invariant_of-self-2 : goal.invariant_of-self-2
invariant_of-self-2 g c =
    let s : Shelf = record {
      extents = c.self.inside.extents;
      slots = c.self.inside.index;
      current = c.self.inside.current;
      last_delete = c.self.inside.last_delete;
      upgrade = c.self.inside.upgrade;
      left = map (λ v. v.items) c.self.inside.left.items;
    } in
    whole_on c.self.inside.geometry s c.reset.new.self s.current _ c.self.invariant c.in-Ok.ensures.geometry c.self.invariant.1.current
    (long_left (λ v. v.items) c.self.inside.left.items c.args.extent c.clear.new.self)

pub invariant_of-self-then-puts_append_to : goal.invariant_of-self-then-puts_append_to
invariant_of-self-then-puts_append_to g c =
    let s : Shelf = record {
      extents = c.self.inside.extents;
      slots = c.self.inside.index;
      current = c.self.inside.current;
      last_delete = c.self.inside.last_delete;
      upgrade = c.self.inside.upgrade;
      left = map (λ v. v.items) c.self.inside.left.items;
    } in
    whole_on c.self.inside.geometry s c.reset.new.self None _ c.self.invariant c.in-Ok.ensures.geometry tt
    (long_left (λ v. v.items) c.self.inside.left.items c.args.extent c.clear.new.self)

pub invariant_of-self-else-puts_append_to : goal.invariant_of-self-else-puts_append_to
invariant_of-self-else-puts_append_to g c =
    let s : Shelf = record {
      extents = c.self.inside.extents;
      slots = c.self.inside.index;
      current = c.self.inside.current;
      last_delete = c.self.inside.last_delete;
      upgrade = c.self.inside.upgrade;
      left = map (λ v. v.items) c.self.inside.left.items;
    } in
    whole_on c.self.inside.geometry s c.reset.new.self s.current _ c.self.invariant c.in-Ok.ensures.geometry c.self.invariant.1.current
    (long_left (λ v. v.items) c.self.inside.left.items c.args.extent c.clear.new.self)

pub returns-then-puts_append_to : goal.returns-then-puts_append_to
returns-then-puts_append_to g c =
    let e = c.args.extent in
    let s : Shelf = record {
      extents = c.self.inside.extents;
      slots = c.self.inside.index;
      current = c.self.inside.current;
      last_delete = c.self.inside.last_delete;
      upgrade = c.self.inside.upgrade;
      left = map (λ v. v.items) c.self.inside.left.items;
    } in
    let within : e < length c.self.inside.left.items = let l = c.in-Some.ensures.variant.0 refl in let long = c.self.inside.left.ok.0 in omega (arith, l, long) in
    emptied_so e c.as_slice.result.now c.in-Ok.field-0 _ _ _ c.self.view_is
    (c.as_slice.ensures.value ∙ left_at (λ v. v.items) c.self.inside.left.items e c.in-Some.left.now within c.in-Some.ensures.value)
    (λ groups run stands. c.in-Ok.ensures.answer groups run stands) refl
    (shelf_reset s e c.reset.new.self _ _ (no_longer e c.self.inside.current (sym c.puts_append_to.ensures ∙ c.if-puts_append_to.true))
    (none_left (λ v. v.items) c.self.inside.left.items e c.clear.new.self c.clear.ensures.items)) refl

pub returns-else-puts_append_to : goal.returns-else-puts_append_to
returns-else-puts_append_to g c =
    let e = c.args.extent in
    let s : Shelf = record {
      extents = c.self.inside.extents;
      slots = c.self.inside.index;
      current = c.self.inside.current;
      last_delete = c.self.inside.last_delete;
      upgrade = c.self.inside.upgrade;
      left = map (λ v. v.items) c.self.inside.left.items;
    } in
    let within : e < length c.self.inside.left.items = let l = c.in-Some.ensures.variant.0 refl in let long = c.self.inside.left.ok.0 in omega (arith, l, long) in
    emptied_so e c.as_slice.result.now c.in-Ok.field-0 _ _ _ c.self.view_is
    (c.as_slice.ensures.value ∙ left_at (λ v. v.items) c.self.inside.left.items e c.in-Some.left.now within c.in-Some.ensures.value)
    (λ groups run stands. c.in-Ok.ensures.answer groups run stands) refl
    (shelf_reset s e c.reset.new.self _ _ (still e c.self.inside.current (sym c.puts_append_to.ensures ∙ c.if-puts_append_to.false))
    (none_left (λ v. v.items) c.self.inside.left.items e c.clear.new.self c.clear.ensures.items)) refl
