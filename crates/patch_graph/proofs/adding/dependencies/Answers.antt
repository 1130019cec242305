use Rattle.std.proofs.Common.{◌≡◌, subst, sym, ap, ◌∙◌, ◌++◌, List, [], map, ℕ}
use Rattle.std.specs.Prelude.{nat_lt}
use Rattle.std.specs.List.{filter}
use Rattle.patch_model.specs.Names.{numbers_named}
use Rattle.patch_skyline.specs.declared.skylines.Span.{Span}
use Rattle.patch_graph.specs.State.{Graph}
use Rattle.patch_graph.specs.Skyline.{lines_of, spans_of}
use Rattle.patch_graph.specs.Naming.{HasTaken, IsNamedBelow}
use Rattle.patch_skyline.specs.Skyline.{AreTops}
use Rattle.patch_graph.proofs.Entered.{depends-on}
use Rattle.patch_graph.proofs.Laying.{spans-trimmed}
use Rattle.patch_graph.proofs.adding.dependencies.Goals as goal

pub returns : goal.returns
returns g c =
    let seen = c.args.register.now in
    let made : c.made-made.result ≡ seen.made = c.made-made.ensures in
    let named = c.push_named.new.all.items in
    let taken : HasTaken seen.slots seen.numbers (IsNamedBelow seen.made (numbers_named c.args.after)) [] named =
    subst (λ (l : List ℕ). HasTaken seen.slots seen.numbers (IsNamedBelow seen.made (numbers_named c.args.after)) l named) c.new-all.ensures c.in_ok-push_named.ensures in
    let all : c.push_tops.new.all.items ≡ named ++ filter (λ n. nat_lt n seen.made) (map (λ (s : Span). s.no) c.tops.result.now) =
    c.in_ok-push_tops.ensures ∙ ap (λ (m : ℕ). named ++ filter (λ n. nat_lt n m) (map (λ (s : Span). s.no) c.tops.result.now)) made in
    let tops : AreTops (spans_of seen.tops c.args.block) c.args.start c.args.stop c.tops.result.now =
    subst (λ (z : Graph). AreTops (spans_of z.tops c.args.block) c.args.start c.args.stop c.tops.result.now) c.register.view_is
    (subst (λ (ss : List Span). AreTops ss c.args.start c.args.stop c.tops.result.now) (sym (spans-trimmed (lines_of c.register.inside.skylines.items) c.args.block)) c.tops.ensures) in
    depends-on seen c.args.block c.args.start c.args.stop c.tops.result.now (numbers_named c.args.after) named c.push_tops.new.all.items tops taken all
