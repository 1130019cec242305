use Rattle.std.proofs.Common.{ℕ, ◌∙◌, sym, ap, subst}
use Rattle.std.specs.Prelude.{Vec, vec_len, sum_by}
use Rattle.std.specs.declared.alloc.Global.{Global}
use Rattle.patch_device.specs.SameDevice.{IsSameDevice}
use Rattle.patch_history.specs.declared.commands.Reply.{Reply as CodeReply}
use Rattle.patch_shared.specs.Serving.{StillLasts}
use Rattle.patch_shared.proofs.serving.run_book.Goals as goal

pub returns-in-Ok : goal.returns-in-Ok
returns-in-Ok g c =
    let told = c.in-Ok.ensures in
    let closed = c.closed.ensures in
    record {
      kept = closed.kept;
      many = ◌∙◌ {A = ℕ} (ap (λ (rs : Vec (Vec (CodeReply Global) Global) Global). vec_len rs) closed.replies) told.many;
      commands = ◌∙◌ {A = ℕ} closed.commands (◌∙◌ {A = ℕ} told.amount (ap (λ (rs : Vec (Vec (CodeReply Global) Global) Global). sum_by (λ list. vec_len list) rs.items) (sym closed.replies)));
      writes = closed.writes;
      device = subst (IsSameDevice g.D.Device c.args.device) (sym closed.device) told.device;
      lasts = subst (StillLasts g.D.Device c.args.device) (sym closed.device) told.lasts;
      fault = tt;
    }
