use Rattle.std.proofs.Common.{List, ℕ, OnOk, subst}
use Rattle.patch_model.specs.Runs.{numbers_in}
use Rattle.patch_stacks.specs.Names.{TakesMembers}
use Rattle.patch_stacks.proofs.Keeping.{below_taken, above_taken}
use Rattle.patch_stacks.proofs.names.keep_members.Goals as goal
use Rattle.patch_stacks.proofs.names.keep_members.Goals.{then-highest-around-via-then-highest-around, then-highest-around-via-else-highest-around+then-around-lowest}

pub returns-then-highest-around : goal.returns-then-highest-around
returns-then-highest-around g c =
    let members = c.args.class.now.members in
    let named = numbers_in c.args.runs.now in
    let old = c.args.kept.now.items in
    elim c.then-highest-around.branch [
      | then-highest-around-via-then-highest-around w ↦ below_taken members named old c.args.around c.highest.result c.highest.ensures c.requires w.if-highest-around.true
      | then-highest-around-via-else-highest-around+then-around-lowest w ↦ above_taken members named old c.args.around w.lowest.result w.lowest.ensures c.requires w.if-around-lowest.true
    ]

pub returns : goal.returns
returns g c =
    subst (λ (ms : List ℕ). OnOk c.keep_each.result (TakesMembers ms (numbers_in c.args.runs.now) c.args.kept.now.items c.keep_each.new.kept.items)) c.members.ensures
    c.keep_each.ensures
