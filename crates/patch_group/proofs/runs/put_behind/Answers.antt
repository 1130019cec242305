use Rattle.std.proofs.Common.{◌≡◌, ◌<◌, ◌-◌, ◌+◌, ◌∙◌, ◌++◌, refl, sym, ap, arith, length, get_or, vec_len}
use Rattle.std.proofs.lemmas.Bool.{both_ways}
use Rattle.patch_model.specs.Runs.{numbers_in, numbers_of}
use Rattle.patch_group.proofs.Ranges.{last_grown}
use Rattle.patch_group.proofs.runs.put_behind.Goals.{in-Some, in-None}
use Rattle.patch_group.proofs.runs.put_behind.Goals as goal

pub returns-else-not-grown : goal.returns-else-not-grown
returns-else-not-grown g c =
    let runs = c.args.runs.now in
    let long : vec_len runs ≡ length runs.items = runs.ok.0 in
    elim c.match-last_mut.branch [
      | in-Some w ↦
          let some : 0 < vec_len runs = w.in-Some.ensures.variant.0 refl in
          let old = w.in-Some.last.now in
          let grew = w.grow-grown.ensures.grown (sym w.grown-is ∙ c.if-not-grown.false) in
          let is : old ≡ get_or runs.items (vec_len runs - 1) old = w.in-Some.ensures.value in
          let at : vec_len runs - 1 + 1 ≡ length runs.items = omega (arith, long, some) in
          ap (λ v. numbers_in v.items) w.runs-is ∙ last_grown runs.items (vec_len runs - 1) w.grow-grown.new.run old (numbers_of c.args.run) at (grew ∙ ap (λ r. numbers_of r ++ numbers_of c.args.run) is)
      | in-None w ↦ absurd (both_ways _ w.grown-is c.if-not-grown.false)
    ]
