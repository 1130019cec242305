use Rattle.std.proofs.Common.{subst}
use Rattle.std.proofs.lemmas.Result.{on_ok_weaker}
use Rattle.patch_links.specs.State.{Links, slots_of}
use Rattle.patch_links.specs.Merging.{HasJoined}
use Rattle.patch_links.proofs.Pairs.{has-joined}
use Rattle.patch_links.proofs.links.Links.join.Goals as goal

pub invariant_of-self : goal.invariant_of-self
invariant_of-self g c = (c.join.ensures.stands, c.join.ensures.below c.self.inside.made c.self.invariant.1)

pub returns-clause-joined : goal.returns-clause-joined
returns-clause-joined g c =
    let old : Links = record { made = c.self.inside.made; slots = slots_of c.self.inside.nodes.slots; next = c.self.inside.nodes.vacant_key; numbers = c.self.inside.keys.numbers } in
    let new : Links = record { made = c.self.inside.made; slots = slots_of c.join.new.nodes.slots; next = c.join.new.nodes.vacant_key; numbers = c.join.new.keys.numbers } in
    on_ok_weaker c.join.result (λ j. subst (λ (o : Links). HasJoined c.args.keep c.args.gone o new) c.self.view_is (has-joined c.args.keep c.args.gone old new j)) c.join.ensures.joined
