use Rattle.std.proofs.Common.{◌∙◌, Some, ap, sym}
use Rattle.patch_model.specs.History.{history_of}
use Rattle.patch_cache.proofs.Residency.{row_stands, still_sound}
use Rattle.patch_cache.proofs.Showing.{started, put_back_answer, only_one, kept, still_a_view}
use Rattle.patch_cache.proofs.caches.Cache.put_back_of.Goals as goal

pub returns-clause-answer : goal.returns-clause-answer
returns-clause-answer g c = λ whole run names at.
    put_back_answer _ _ _ _ _ _ _ c.args.block _ c.self.view_is c.block.view_is (c.row_mut.ensures.value ∙ ap (λ r. Some r) (sym c.behind-self.view_is)) c.put_back.result whole c.args.no c.put_back.new.self names run at c.put_back.ensures.answer

pub returns-clause-accepted : goal.returns-clause-accepted
returns-clause-accepted g c = λ whole run names at.
    c.put_back.ensures.accepted (history_of run c.args.block) names (started _ _ _ _ _ _ _ c.args.block _ c.self.view_is c.block.view_is (c.row_mut.ensures.value ∙ ap (λ r. Some r) (sym c.behind-self.view_is)) whole names run at)

pub returns-clause-others : goal.returns-clause-others
returns-clause-others g c = only_one _ _ _ _ _ _ _ c.args.block _ c.self.view_is c.block.view_is (c.row_mut.ensures.value ∙ ap (λ r. Some r) (sym c.behind-self.view_is)) c.put_back.new.self

pub returns-clause-refused : goal.returns-clause-refused
returns-clause-refused g c = kept _ _ _ _ _ _ _ c.args.block _ c.self.view_is c.block.view_is (c.row_mut.ensures.value ∙ ap (λ r. Some r) (sym c.behind-self.view_is)) c.put_back.result c.put_back.new.self c.put_back.ensures.refused

pub returns-clause-view : goal.returns-clause-view
returns-clause-view g c = λ before as_view. still_a_view _ _ _ _ _ _ _ c.args.block _ c.self.view_is c.block.view_is (c.row_mut.ensures.value ∙ ap (λ r. Some r) (sym c.behind-self.view_is)) before c.put_back.new.self c.put_back.ensures.outline as_view

pub row_mut-requires : goal.row_mut-requires
row_mut-requires g c = row_stands c.args.self.now _ _ _ _ _ _ c.args.block c.self.view_is c.block.view_is c.requires

pub invariant_of-self : goal.invariant_of-self
invariant_of-self g c =
    let sound = still_sound c.self.inside.rows.items c.block.inside.0 c.self.inside.under_way _ c.put_back.new.self (c.row_mut.ensures.value ∙ ap (λ r. Some r) (sym c.behind-self.view_is)) c.self.invariant.0 c.self.invariant.1 in
    (sound.0, sound.1, c.self.invariant.2)
