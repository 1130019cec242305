use Rattle.std.proofs.Common.{◌≡◌, ◌∷◌, ◌∙◌, [], Some, ap, sym, rules, arith}
use Rattle.json.specs.Token.{Token}
use Rattle.json.specs.Lex.{tokens}
use Rattle.patch_script.specs.PlainTokens.{AreMembers}
use Rattle.patch_script.proofs.Parsing.{object_read}
use Rattle.patch_script.proofs.plain.read_plain_text.Goals as goal

pub returns : goal.returns
returns c =
    let opened : tokens c.args.text.now ≡ Token.begin_object ∷ c.next.new.self = grind arith in
    let over : c.read_members.new.reader ≡ [] = grind arith in
    let read : AreMembers c.next.new.self c.in-Some.row.items c.read_members.new.reader = search rules in
    let are : AreMembers c.next.new.self c.in-Some.row.items [] = rw over at read in
    object_read c.args.text.now c.next.new.self c.in-Some.row.items opened are ∙ ap Some (sym c.of_row.ensures)
