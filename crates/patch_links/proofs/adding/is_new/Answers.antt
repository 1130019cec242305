use Rattle.std.proofs.Common.{sym, ◌∙◌}
use Rattle.std.specs.Prelude.{nat_lt}
use Rattle.std.proofs.lemmas.Bool.{ltb-true, lt-ltb}
use Rattle.patch_model.specs.Member.{list_all-at, list_all-from}
use Rattle.patch_links.proofs.adding.is_new.Goals as goal

pub returns : goal.returns
returns g c = (
  λ t. record {
    members = c.is_of_one.ensures.0 c.if-not-is_of_one.false;
    memory = c.is_in_memory.ensures.0 c.if-not-is_in_memory.false;
    after = λ n i. ltb-true n c.args.class.now.name (list_all-at (λ m. nat_lt m c.args.class.now.name) c.args.class.now.after n (sym c.is_of_earlier.ensures ∙ t) i);
  },
  λ is. c.is_of_earlier.ensures ∙ list_all-from (λ m. nat_lt m c.args.class.now.name) c.args.class.now.after (λ n i. lt-ltb n c.args.class.now.name (is.after n i)),
)
