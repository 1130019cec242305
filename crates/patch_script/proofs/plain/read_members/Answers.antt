use Rattle.std.proofs.Common.{◌≡◌, [], List, Some, None, subst, arith}
use Rattle.std.proofs.lemmas.List.{append-nil}
use Rattle.json.specs.Json.{read_key}
use Rattle.patch_script.specs.PlainTokens.{AreMembers}
use Rattle.patch_script.specs.declared.objects.Member.{Member}
use Rattle.patch_script.proofs.plain.read_members.Goals as goal

pub returns-in_default-key : goal.returns-in_default-key
returns-in_default-key c =
    let rest = c.next_key.new.self in
    let end : read_key c.members.reader ≡ Some (None, rest) = grind arith in
    subst (λ (ms : List Member). AreMembers c.args.reader.now ms rest) (append-nil c.members.row.items) (c.members.invariant [] rest end)
