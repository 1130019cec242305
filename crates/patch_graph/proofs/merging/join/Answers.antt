use Rattle.std.proofs.Common.{◌≡◌, false, subst, sym, ap, ◌∙◌}
use Rattle.patch_links.specs.State.{Links}
use Rattle.patch_links.specs.Merging.{may_join_at}
use Rattle.patch_graph.specs.Skyline.{lines_of, trimmed}
use Rattle.patch_graph.specs.State.{Graph, KeysFit}
use Rattle.patch_graph.specs.Merging.{HasJoined}
use Rattle.patch_graph.proofs.Joining.{joined-fit}
use Rattle.patch_graph.proofs.Places.{either-way, err-more, ok-on}
use Rattle.patch_graph.proofs.merging.join.Goals as goal

pub returns-clause-joined : goal.returns-clause-joined
returns-clause-joined g c = ok-on c.join.result _ _ c.join.ensures.joined (λ joined.
    subst (λ (v : Graph). HasJoined c.args.keep c.args.gone v (record { made = c.register.inside.made; slots = c.join.new.self.slots; numbers = c.join.new.self.numbers; tops = trimmed (lines_of c.register.inside.skylines.items) })) c.register.view_is joined)

pub returns-clause-idle : goal.returns-clause-idle
returns-clause-idle g c off =
    ap (λ (l : Links). record { made = c.register.inside.made; slots = l.slots; numbers = l.numbers; tops = trimmed (lines_of c.register.inside.skylines.items) })
    (c.join.ensures.idle (subst (λ (v : Graph). may_join_at c.args.keep c.args.gone v.slots ≡ false) (sym c.register.view_is) off)) ∙ c.register.view_is

pub returns-clause-refused : goal.returns-clause-refused
returns-clause-refused g c = err-more c.join.result _ _ c.join.ensures.refused (λ same.
    ap (λ (l : Links). record { made = c.register.inside.made; slots = l.slots; numbers = l.numbers; tops = trimmed (lines_of c.register.inside.skylines.items) }) same ∙ c.register.view_is)

pub returns-clause-fit : goal.returns-clause-fit
returns-clause-fit g c room fit =
    let before : KeysFit c.register.inside.links.slots room = subst (λ (v : Graph). KeysFit v.slots room) (sym c.register.view_is) fit in
    either-way c.join.result _ _ _ c.join.ensures.joined c.join.ensures.refused
    (λ joined. joined-fit c.args.keep c.args.gone room c.register.inside.links c.join.new.self joined c.join.ensures.idle before)
    (λ same. subst (λ (l : Links). KeysFit l.slots room) (sym same) before)
