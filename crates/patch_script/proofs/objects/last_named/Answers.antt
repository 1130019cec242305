use Rattle.std.proofs.Common.{◌≡◌, ◌-◌, ◌+◌, ◌∙◌, length, take, sym, ap, arith}
use Rattle.serde_json.specs.Data.{no_members}
use Rattle.serde_json.specs.Find.{get_member}
use Rattle.patch_script.specs.Object.{puts}
use Rattle.patch_script.proofs.Rows.{last_of_front, has_name, has_other_name}
use Rattle.patch_script.proofs.objects.last_named.Goals as goal

pub returns-then-eq : goal.returns-then-eq
returns-then-eq c =
    let ms = c.args.members.now in
    let test = c.loop-passed-test.true in
    let front = last_of_front ms (length ms - c.loop-passed.passed) (length ms - 1 - c.loop-passed.passed) c.index-members-members.result (omega (arith, test)) (omega (arith, test)) c.index-members-members.is in
    sym (c.loop-passed.invariant ∙ ap (get_member c.args.name.now) front ∙ has_name c.args.name.now _ _ _ (sym c.eq.ensures ∙ c.if-eq.true))

pub loop-passed-preserved : goal.loop-passed-preserved
loop-passed-preserved c =
    let ms = c.args.members.now in
    let test = c.loop-passed-test.true in
    let front = last_of_front ms (length ms - c.loop-passed.passed) (length ms - 1 - c.loop-passed.passed) c.index-members-members.result (omega (arith, test)) (omega (arith, test)) c.index-members-members.is in
    let fewer : length ms - 1 - c.loop-passed.passed ≡ length ms - (c.loop-passed.passed + 1) = omega (arith, test) in
    c.loop-passed.invariant ∙ ap (get_member c.args.name.now) front ∙ has_other_name c.args.name.now _ _ _ (sym c.eq.ensures ∙ c.if-eq.false)
    ∙ ap (λ n. get_member c.args.name.now (puts (take n ms) no_members)) fewer
