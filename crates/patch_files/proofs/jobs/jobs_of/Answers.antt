use Rattle.std.proofs.Common.{◌≡◌, ◌∙◌, ◌++◌, ◌∷◌, [], sym, ap, subst, length}
use Rattle.std.proofs.lemmas.List.{append_assoc, length-map}
use Rattle.patch_shared.specs.Conversations.{commands_in}
use Rattle.patch_files.specs.Serving.{jobs_by}
use Rattle.patch_files.proofs.jobs.jobs_of.Goals as goal

pub loop-line-preserved : goal.loop-line-preserved
loop-line-preserved c =
    let before = c.loop-line.invariant.3 in
    let all = before.0 ++ c.in-Some.line ∷ [] in
    let long : length (commands_in c.loop-line.jobs.items) ≡ c.args.writers = length-map c.loop-line.jobs.items _ ∙ sym c.loop-line.jobs.ok.0 ∙ c.loop-line.invariant.2 in (
      tt,
      tt,
      c.in_ok-take_line.ensures.count ∙ c.loop-line.invariant.2,
      (
        all,
        append_assoc before.0 (c.in-Some.line ∷ []) _ ∙ ap (λ xs. before.0 ++ xs) (sym c.in-Some.ensures.steps.0) ∙ before.1,
        subst (λ n. commands_in c.take_line.new.jobs.items ≡ jobs_by n all) long (c.in_ok-take_line.ensures.jobs before.0 (before.2 ∙ ap (λ n. jobs_by n before.0) (sym long))),
      ),
    )
