use Rattle.std.proofs.Common.{◌≡◌, ◌∙◌, ◌+◌, List, [], ◌∷◌, ◌++◌, length, refl, sym, ap, subst}
use Rattle.patch_model.specs.Names.{numbers_named}
use Rattle.patch_model.specs.Patch.{Patch}
use Rattle.patch_model.specs.Step.{Step, Create}
use Rattle.patch_model.specs.Execution.{extended}
use Rattle.patch_model.specs.Entry.{Entry}
use Rattle.patch_model.specs.State.{entries_of, next_patch, fresh}
use Rattle.patch_model.specs.History.{History, history_of}
use Rattle.patch_model.specs.Legal.{IsLegal}
use Rattle.patch_model.specs.Orderly.{IsOrderly, IsOrderlyBlock}
use Rattle.patch_view.specs.History.{IsNext, laid, made}
use Rattle.patch_view.specs.Meaning.{IsBlockOf}
use Rattle.patch_graph.specs.Meaning.{IsGraphOf}
use Rattle.patch_graph.specs.State.{Graph}
use Rattle.patch_graph.specs.Adding.{IsPatch, PutsIn}
use Rattle.patch_cache.proofs.Creations.{laid_here, made_alike}
use Rattle.patch_cache.proofs.creating.lay_on.Goals as goal

pub returns-clause-laid : goal.returns-clause-laid
returns-clause-laid g c = λ run may.
    let before = may.run_legal in
    let at = may.on_block in
    let holds = may.in_graph in
    let lawful = may.legal in
    let a = c.args in
    let all : List Entry = entries_of run in
    let step : Step = Create a.block a.start a.bytes.now (numbers_named a.after) a.undo in
    let p : Patch = next_patch run a.block a.start a.bytes.now (numbers_named a.after) a.undo in
    let e : Entry = fresh all p in
    let legal : IsLegal (extended run step) = c.steps_extend.ensures.legal run step before lawful in
    let entries : entries_of (extended run step) ≡ all ++ e ∷ [] = ap (λ st. st.entries) (c.steps_extend.ensures.state run step) in
    let orderly : IsOrderly (all ++ e ∷ []) = subst IsOrderly entries (c.executions_are_orderly.ensures.patches (extended run step) legal) in
    let is : IsPatch p a.graph.now.made a.block a.start (a.start + length a.bytes.now) (numbers_named a.after) a.undo =
    record { no = sym holds.made; block_is = refl; start_is = refl; end_is = refl; after_is = refl; undo_is = refl } in
    let told = c.in_ok-newcomer.ensures.answer all p holds is orderly in
    let h : History = history_of run a.block in
    let here : history_of (extended run step) a.block ≡ laid h e =
    laid_here run a.block a.start a.bytes.now (numbers_named a.after) a.undo (c.steps_change_blocks.ensures.made_here run a.block a.start a.bytes.now (numbers_named a.after) a.undo) in
    let block : IsOrderlyBlock (laid h e) a.block =
    subst (λ x. IsOrderlyBlock x a.block) here (c.executions_are_orderly.ensures.blocks (extended run step) a.block legal lawful.known) in
    let next : IsNext h e = c.blocks_are_coherent.ensures.next h e a.block block in
    let no : c.no-no.result ≡ p.no = c.no-no.ensures ∙ told.0 in
    let alike : e ≡ made c.no-no.result a.block a.start a.bytes.now (numbers_named a.after) a.undo c.is_hard-hard.result =
    made_alike all p c.no-no.result c.is_hard-hard.result no (c.is_hard-hard.ensures ∙ told.1) in
    let on_block : IsBlockOf c.lay_if.new.self [] (laid h e) =
    subst (λ x. IsBlockOf c.lay_if.new.self [] (laid h x)) (sym alike) (c.in_ok-lay_if.ensures.answer h a.block a.undo at (subst (IsNext h) alike next)) in
    let entered = c.in_ok-lay_if.ensures.entered in
    let put : PutsIn a.graph.now c.lay_if.new.other c.in_ok-newcomer.newcomer =
    subst (λ (x : Graph). PutsIn x c.lay_if.new.other c.in_ok-newcomer.newcomer) entered.shows
    (subst (λ (x : Graph). PutsIn entered.shown.now x c.in_ok-newcomer.newcomer) entered.leaves entered.met.0) in
    let in_graph : IsGraphOf c.lay_if.new.other (all ++ e ∷ []) =
    put all p a.block a.start (a.start + length a.bytes.now) (numbers_named a.after) a.undo c.in_ok-newcomer.ensures.drawn holds is orderly in
    record {
      number_is = no;
      on_block = subst (λ x. IsBlockOf c.lay_if.new.self [] x) (sym here) on_block;
      in_graph = subst (λ x. IsGraphOf c.lay_if.new.other x) (sym entries) in_graph;
    }
