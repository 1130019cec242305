use Rattle.std.proofs.Common.{ℕ, ◌∙◌, ◌++◌, ap}
use Rattle.std.specs.Prelude.{nat_lt}
use Rattle.std.specs.List.{filter}
use Rattle.patch_graph.proofs.Naming.{taken-listed}
use Rattle.patch_graph.proofs.Places.{ok-on}
use Rattle.patch_graph.proofs.adding.push_named.Goals as goal

pub returns-in-Listed : goal.returns-in-Listed
returns-in-Listed g c =
    let seen = c.args.register.now in
    rw c.in-Listed.is (ok-on _ _ _ c.push_numbers.ensures (λ e. taken-listed seen.slots seen.numbers seen.made c.in-Listed.numbers.now c.args.all.now.items c.push_numbers.new.all.items
    (e ∙ ap (λ (m : ℕ). c.args.all.now.items ++ filter (λ n. nat_lt n m) c.in-Listed.numbers.now) c.made.ensures)))
