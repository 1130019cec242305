use Rattle.std.proofs.Common.{◌≡◌, ◌∷◌, [], ◌++◌, inl, inr, ◌+◌, ap, ◌∙◌, length, sym, subst, refl, ◌≤◌, List, ℕ}
use Rattle.std.specs.Prelude.{◌==◌}
use Rattle.std.proofs.lemmas.Result.{MatchResult-from_err}
use Rattle.patch_records.specs.Records.{Class}
use Rattle.patch_records.specs.Exchanges.{laid_over, covering}
use Rattle.patch_stacks.specs.Members.{with_member}
use Rattle.patch_stacks.proofs.Laying.{laid_block, laid_kept}
use Rattle.patch_stacks.proofs.Outcomes.{refused-done, refused-still, same-block}
use Rattle.patch_stacks.proofs.stacks.Stack.lay_with.Goals as goal

pub invariant_of-self-2 : goal.invariant_of-self-2
invariant_of-self-2 g c =
    let before : List ℕ = c.self.inside.bytes.items in
    let class : Class = c.args.class in
    let seen : c.as_slice.result.now ≡ c.self.inside.classes.items = c.as_slice.ensures.value ∙ c.in_ok-make_record_room.ensures.same in
    let laid : c.lay_class.new.block.items ≡ laid_over class.start c.args.bytes.now before = c.lay_class.ensures.block in
    laid_kept before c.lay_class.new.block.items c.self.inside.classes.items c.lay_class.new.classes.items
    class.name class.start c.args.bytes.now class.after class.hard class (covering class before c.args.bytes.now)
    c.requires.unlaid refl (c.lay_class.ensures.classes ∙ ap (λ (ks : List Class). ks ++ covering class before c.args.bytes.now ∷ []) c.in_ok-make_record_room.ensures.same)
    laid
    c.self.inside.taken c.self.inside.flying c.self.inside.members c.know_laid.new.members c.self.inside.image c.know_laid.new.image
    c.requires.fits
    (subst (λ (ks : List Class). c.know_laid.new.members ≡ with_member c.self.inside.members class.name (length ks == 0)) seen c.know_laid.ensures.members)
    c.know_laid.ensures.image
    c.self.invariant

pub returns-clause-done : goal.returns-clause-done
returns-clause-done g c =
    let before : List ℕ = c.self.inside.bytes.items in
    let class : Class = c.args.class in
    laid_block before c.lay_class.new.block.items c.self.inside.classes.items c.lay_class.new.classes.items
    class.name class.start c.args.bytes.now class.after class.hard class (covering class before c.args.bytes.now)
    c.requires.unlaid refl (c.lay_class.ensures.classes ∙ ap (λ (ks : List Class). ks ++ covering class before c.args.bytes.now ∷ []) c.in_ok-make_record_room.ensures.same)
    c.lay_class.ensures.block
    c.args.self.now c.self.view_is

pub returns-in_err-enter-clause-entered : goal.returns-in_err-enter-clause-entered
returns-in_err-enter-clause-entered g c =
    MatchResult-from_err _ _ _ c.from_residual-in_err-enter.ensures.0
    (λ _. inr (c.in_err-enter.field-0.0, record { shown = _; shows = refl; left = _; met = c.in_err-enter.ensures; leaves = refl }))

pub invariant_of-self : goal.invariant_of-self
invariant_of-self g c = let same = c.in_err-make_record_room.ensures.same in rw same c.self.invariant

pub lay_class-requires-clause-fits : goal.lay_class-requires-clause-fits
lay_class-requires-clause-fits g c = subst (λ (n : ℕ). c.args.class.start + length c.args.bytes.now ≤ n) (sym c.self.invariant.0) c.requires.fits

pub lay_class-requires-clause-saved : goal.lay_class-requires-clause-saved
lay_class-requires-clause-saved g c = ap (λ (k : Class). k.saved) c.requires.unlaid

pub lay_class-requires-clause-room : goal.lay_class-requires-clause-room
lay_class-requires-clause-room g c = c.in_ok-make_record_room.ensures.room

pub returns-in_err-make_record_room-clause-done : goal.returns-in_err-make_record_room-clause-done
returns-in_err-make_record_room-clause-done g c = refused-done _ _ c.from_residual.ensures.0

pub returns-in_err-make_record_room-clause-refused : goal.returns-in_err-make_record_room-clause-refused
returns-in_err-make_record_room-clause-refused g c =
    refused-still _ _ (same-block c.self.inside.bytes.items c.self.inside.classes.items c.make_record_room.new.classes.items c.args.self.now c.in_err-make_record_room.ensures.same c.self.view_is)

pub returns-in_err-make_record_room-clause-entered : goal.returns-in_err-make_record_room-clause-entered
returns-in_err-make_record_room-clause-entered g c = MatchResult-from_err _ _ _ c.from_residual.ensures.0 (λ _. inl refl)

pub invariant_of-self-in_err-enter : goal.invariant_of-self-in_err-enter
invariant_of-self-in_err-enter g c = let same = c.in_ok-make_record_room.ensures.same in rw same c.self.invariant

pub returns-in_err-enter-clause-done : goal.returns-in_err-enter-clause-done
returns-in_err-enter-clause-done g c = refused-done _ _ c.from_residual-in_err-enter.ensures.0

pub returns-in_err-enter-clause-refused : goal.returns-in_err-enter-clause-refused
returns-in_err-enter-clause-refused g c =
    refused-still _ _ (same-block c.self.inside.bytes.items c.self.inside.classes.items c.make_record_room.new.classes.items c.args.self.now c.in_ok-make_record_room.ensures.same c.self.view_is)
