use Rattle.patch_c.specs.Tape.{contents_of}
use Rattle.patch_c.proofs.Staying.{same_so, empty_holds}
use Rattle.patch_c.proofs.opened.Opened.settle.Goals as goal

pub invariant_of-self : goal.invariant_of-self
invariant_of-self c =
    let before = contents_of c.args.self.now.device in
    record {
      stands = same_so c.args.self.now.is_spent c.args.self.now.store before (contents_of c.clear.new.self)
          (empty_holds c.clear.new.self before c.clear.ensures.file c.clear.ensures.events) c.args.self.now.stands;
    }
