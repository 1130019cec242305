use Rattle.std.proofs.Common.{◌∙◌, sym}
use Rattle.std.specs.Prelude.{◌||◌}
use Rattle.patch_model.specs.Entry.{is_among}
use Rattle.patch_records.proofs.Reading.{all-among}
use Rattle.patch_records.proofs.classes.Class.is_union_of.Goals as goal

pub returns-then-has_name_of : goal.returns-then-has_name_of
returns-then-has_name_of g c t = record {
  named = c.has_name_of.ensures c.if-has_name_of.true;
  members = all-among (λ n. is_among c.args.low.now.members n || is_among c.args.high.now.members n) c.args.self.now.members (sym c.has_members_of.ensures ∙ t);
}
