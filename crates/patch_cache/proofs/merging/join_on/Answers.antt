use Rattle.std.proofs.Common.{◌≡◌, ℕ, List, [], map, refl, sym, ap, subst}
use Rattle.patch_model.specs.Step.{Step, Merge}
use Rattle.patch_model.specs.Execution.{extended}
use Rattle.patch_model.specs.Entry.{Entry}
use Rattle.patch_model.specs.State.{entries_of, class_of, joined}
use Rattle.patch_model.specs.History.{History, history_of}
use Rattle.patch_model.specs.Legal.{IsLegal, block_of_patch}
use Rattle.patch_model.specs.Orderly.{IsOrderly, MayJoin}
use Rattle.patch_view.specs.History.{with_joined}
use Rattle.patch_view.specs.Meaning.{IsBlockOf}
use Rattle.patch_graph.specs.Meaning.{IsGraphOf}
use Rattle.patch_cache.proofs.Mergers.{undoable_at, on_its_block, name_at}
use Rattle.patch_cache.proofs.merging.join_on.Goals as goal

pub returns-clause-merged : goal.returns-clause-merged
returns-clause-merged g c = λ run may_merge.
    let before = may_merge.run_legal in
    let lawful = may_merge.legal in
    let at = may_merge.on_block in
    let holds = may_merge.in_graph in
    let a : ℕ = c.args.a in
    let b : ℕ = c.args.b in
    let all : List Entry = entries_of run in
    let step : Step = Merge a b in
    let block : ℕ = block_of_patch all a in
    let legal : IsLegal (extended run step) = c.steps_extend.ensures.legal run step before lawful in
    let entries : entries_of (extended run step) ≡ map (joined (class_of all a) (class_of all b)) all = ap (λ st. st.entries) (c.steps_extend.ensures.state run step) in
    let orderly : IsOrderly (map (joined (class_of all a) (class_of all b)) all) = subst IsOrderly entries (c.executions_are_orderly.ensures.patches (extended run step) legal) in
    let merged = c.in_ok-name.ensures.answer all holds lawful orderly in
    let h : History = history_of run block in
    let here : history_of (extended run step) block ≡ with_joined h (class_of all a) (class_of all b) =
    ap (λ es. let k : History = record h { entries = es } in k) (c.steps_change_blocks.ensures.merged run a b block) in
    let x = undoable_at all a holds.orderly holds.numbered lawful.undoable_a in
    let y = undoable_at all b holds.orderly holds.numbered lawful.undoable_b in
    let is_x : class_of all a ≡ x.0.class = name_at all a x.0 x.1.at in
    let is_y : class_of all b ≡ y.0.class = name_at all b y.0 y.1.at in
    let may : MayJoin h.entries x.0.class y.0.class =
    subst (λ (n : ℕ). MayJoin h.entries n y.0.class) is_x (subst (λ (n : ℕ). MayJoin h.entries (class_of all a) n) is_y (c.merges_may_join.ensures run a b before lawful)) in
    let on : IsBlockOf c.join_by.new.self [] (with_joined h x.0.class y.0.class) =
    c.join_by.ensures.answer h a b x.0 y.0 c.in_ok-joint.ensures at (on_its_block run block a x.0 x.1 refl) (on_its_block run block b y.0 y.1 (sym lawful.one_block)) may in
    record {
      name_is = merged.1;
      on_block = subst (λ k. IsBlockOf c.join_by.new.self [] k) (sym here)
          (subst (λ (n : ℕ). IsBlockOf c.join_by.new.self [] (with_joined h n (class_of all b))) (sym is_x)
          (subst (λ (n : ℕ). IsBlockOf c.join_by.new.self [] (with_joined h x.0.class n)) (sym is_y) on));
      in_graph = subst (λ k. IsGraphOf c.merge.new.self k) (sym entries) merged.0;
    }
