use Rattle.std.proofs.Common.{◌∙◌, Some, ap, sym}
use Rattle.patch_cache.proofs.Residency.{row_stands, still_sound}
use Rattle.patch_cache.proofs.Showing.{restored, only_one, back_again}
use Rattle.patch_cache.proofs.caches.Cache.restore_of.Goals as goal

pub returns-clause-answer : goal.returns-clause-answer
returns-clause-answer g c = λ whole run names at. restored _ _ _ _ _ _ _ c.args.block _ c.self.view_is c.block.view_is (c.row_mut.ensures.value ∙ ap (λ r. Some r) (sym c.behind-self.view_is)) whole c.put_all_back.new.self names run at c.put_all_back.ensures.answer

pub returns-clause-others : goal.returns-clause-others
returns-clause-others g c = only_one _ _ _ _ _ _ _ c.args.block _ c.self.view_is c.block.view_is (c.row_mut.ensures.value ∙ ap (λ r. Some r) (sym c.behind-self.view_is)) c.put_all_back.new.self

pub returns-clause-as_before : goal.returns-clause-as_before
returns-clause-as_before g c = λ whole run names before at was as_view.
    back_again _ _ _ _ _ _ _ c.args.block _ c.self.view_is c.block.view_is (c.row_mut.ensures.value ∙ ap (λ r. Some r) (sym c.behind-self.view_is)) whole before c.put_all_back.new.self names run at was as_view c.put_all_back.ensures.as_before

pub row_mut-requires : goal.row_mut-requires
row_mut-requires g c = row_stands c.args.self.now _ _ _ _ _ _ c.args.block c.self.view_is c.block.view_is c.requires

pub invariant_of-self : goal.invariant_of-self
invariant_of-self g c =
    let sound = still_sound c.self.inside.rows.items c.block.inside.0 c.self.inside.under_way _ c.put_all_back.new.self (c.row_mut.ensures.value ∙ ap (λ r. Some r) (sym c.behind-self.view_is)) c.self.invariant.0 c.self.invariant.1 in
    (sound.0, sound.1, c.self.invariant.2)
