use Rattle.std.proofs.Common.{[], ◌<◌, refl, map, sym, ap, subst}
use Rattle.std.specs.Prelude.{Some}
use Rattle.patch_extent.specs.Answers.{asked}
use Rattle.patch_plans.specs.Extents.{Extents}
use Rattle.patch_history.specs.Shelf.{Shelf}
use Rattle.patch_store.specs.Meaning.{Store}
use Rattle.patch_store.proofs.Framed.{appended_view, begun_view}
use Rattle.patch_store.proofs.Wholes.{whole_on}
use Rattle.patch_store.proofs.stores.Store.append_frame.Goals as goal

pub append_given-requires : goal.append_given-requires
append_given-requires g c = c.requires.some

pub invariant_of-self : goal.invariant_of-self
invariant_of-self g c =
    let s : Shelf = record {
      extents = c.self.inside.extents;
      slots = c.self.inside.index;
      current = c.self.inside.current;
      last_delete = c.self.inside.last_delete;
      upgrade = c.self.inside.upgrade;
      left = map (λ v. v.items) c.self.inside.left.items;
    } in
    whole_on c.self.inside.geometry s c.append_given.new.self s.current s.left c.self.invariant c.in_default.ensures.geometry c.self.invariant.1.current refl

pub returns-in_default : goal.returns-in_default
returns-in_default g c =
    let s : Shelf = record {
      extents = c.self.inside.extents;
      slots = c.self.inside.index;
      current = c.self.inside.current;
      last_delete = c.self.inside.last_delete;
      upgrade = c.self.inside.upgrade;
      left = map (λ v. v.items) c.self.inside.left.items;
    } in
    begun_view (asked c.args.writer.now c.args.extent c.args.frame []) _ _ _ c.self.view_is (λ run stands. (c.in_default.ensures.answer run stands).begun)
    (ap (λ (e : Extents). record s { extents = e }) c.in_default.ensures.refused) refl

pub invariant_of-self-2 : goal.invariant_of-self-2
invariant_of-self-2 g c =
    let s : Shelf = record {
      extents = c.self.inside.extents;
      slots = c.self.inside.index;
      current = c.self.inside.current;
      last_delete = c.self.inside.last_delete;
      upgrade = c.self.inside.upgrade;
      left = map (λ v. v.items) c.self.inside.left.items;
    } in
    whole_on c.self.inside.geometry s c.append_given.new.self (Some c.args.extent) s.left c.self.invariant c.in-Ok.ensures.geometry
    (subst (λ (x : Store). c.args.extent < x.shelf.extents.geometry.extents) (sym c.self.view_is) c.requires.known) refl

pub returns : goal.returns
returns g c =
    appended_view (asked c.args.writer.now c.args.extent c.args.frame []) _ _ _ c.in-Ok.appended c.self.view_is c.in-Ok.ensures.answer refl c.counted_with-self-inside.ensures
