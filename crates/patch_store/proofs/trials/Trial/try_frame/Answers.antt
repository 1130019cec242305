use Rattle.std.proofs.Common.{◌+◌, refl, ap}
use Rattle.patch_store.proofs.Tried.{finds_room}
use Rattle.patch_store.proofs.trials.Trial.try_frame.Goals as goal

pub returns-clause-tried : goal.returns-clause-tried
returns-clause-tried c s alike =
    finds_room s c.place_for.new.self _ c.in_ok-extent.field-0 c.args.len (c.touched.result + 2) c.requires.some alike.each
    (c.in_ok-extent.ensures.placed s alike) (record { current = refl; empty = refl; largest = refl }) (ap (λ k. k + 2) c.touched.ensures)
