use Rattle.std.proofs.Common.{sym, ◌∙◌, ap, ℕ, ◌≡◌, List, length, subst}
use Rattle.patch_links.specs.State.{Node}
use Rattle.patch_links.specs.MarkDurable.{AreForgotten, AreTold}
use Rattle.patch_links.proofs.Landings.{linked-left, owed-left, listed-left, settled-left, forgotten-then, stands-left}
use Rattle.patch_links.proofs.landing.land_at.Goals as goal

pub tell_all-requires-clause-listed : goal.tell_all-requires-clause-listed
tell_all-requires-clause-listed g c =
    let members : c.as_slice.result.now ≡ c.in-Some.node.class.members = c.as_slice.ensures ∙ ap (λ x. x.class.members) c.node-inside.view_is ∙ ap (λ (x : Node). x.class.members) c.node.view_is in
    let f = subst (λ (l : List ℕ). AreForgotten l c.args.keys.now.numbers c.forget.new.keys.numbers (length l)) members c.forget.ensures in
    listed-left c.args.block c.args.key c.args.nodes.now.slots c.try_remove.new.self.slots c.args.keys.now.numbers c.forget.new.keys.numbers c.in-Some.node c.requires.before c.args.blocks.now.items
    c.requires.stands c.requires.popped (sym c.in-Some.ensures.value) c.in-Some.ensures.slots f

pub tell_all-requires-clause-settled : goal.tell_all-requires-clause-settled
tell_all-requires-clause-settled g c =
    let members : c.as_slice.result.now ≡ c.in-Some.node.class.members = c.as_slice.ensures ∙ ap (λ x. x.class.members) c.node-inside.view_is ∙ ap (λ (x : Node). x.class.members) c.node.view_is in
    let f = subst (λ (l : List ℕ). AreForgotten l c.args.keys.now.numbers c.forget.new.keys.numbers (length l)) members c.forget.ensures in
    settled-left c.args.block c.args.key c.args.nodes.now.slots c.try_remove.new.self.slots c.args.keys.now.numbers c.forget.new.keys.numbers c.in-Some.node c.requires.before c.args.blocks.now.items
    c.requires.stands c.requires.popped (sym c.in-Some.ensures.value) c.in-Some.ensures.slots f

pub tell_all-requires-clause-linked : goal.tell_all-requires-clause-linked
tell_all-requires-clause-linked g c =
    let members : c.as_slice.result.now ≡ c.in-Some.node.class.members = c.as_slice.ensures ∙ ap (λ x. x.class.members) c.node-inside.view_is ∙ ap (λ (x : Node). x.class.members) c.node.view_is in
    let f = subst (λ (l : List ℕ). AreForgotten l c.args.keys.now.numbers c.forget.new.keys.numbers (length l)) members c.forget.ensures in
    linked-left c.args.block c.args.key c.args.nodes.now.slots c.try_remove.new.self.slots c.args.keys.now.numbers c.forget.new.keys.numbers c.in-Some.node c.requires.before c.args.blocks.now.items
    c.requires.stands c.requires.popped (sym c.in-Some.ensures.value) c.in-Some.ensures.slots f

pub returns-in-Some-clause-stands : goal.returns-in-Some-clause-stands
returns-in-Some-clause-stands g c =
    let members : c.as_slice.result.now ≡ c.in-Some.node.class.members = c.as_slice.ensures ∙ ap (λ x. x.class.members) c.node-inside.view_is ∙ ap (λ (x : Node). x.class.members) c.node.view_is in
    let f = subst (λ (l : List ℕ). AreForgotten l c.args.keys.now.numbers c.forget.new.keys.numbers (length l)) members c.forget.ensures in
    let followers : c.as_slice-in-Some.result.now ≡ c.in-Some.node.followers = c.as_slice-in-Some.ensures ∙ ap (λ x. x.followers.items) c.node-inside.view_is ∙ ap (λ (x : Node). x.followers) c.node.view_is in
    let told = subst (λ (l : List ℕ). AreTold c.forget.new.keys.numbers l c.try_remove.new.self.slots c.tell_all.new.nodes.slots) followers c.tell_all.ensures.told in
    stands-left c.args.block c.args.key c.args.nodes.now.slots c.try_remove.new.self.slots c.args.keys.now.numbers c.forget.new.keys.numbers c.in-Some.node c.requires.before c.args.blocks.now.items
    c.requires.stands c.requires.popped (sym c.in-Some.ensures.value) c.in-Some.ensures.slots f
    c.tell_all.new.nodes.slots _ c.tell_all.ensures.bare
    (told (owed-left c.args.block c.args.key c.args.nodes.now.slots c.try_remove.new.self.slots c.args.keys.now.numbers c.forget.new.keys.numbers c.in-Some.node c.requires.before c.args.blocks.now.items
    c.requires.stands c.requires.popped (sym c.in-Some.ensures.value) c.in-Some.ensures.slots f))
    c.tell_all.ensures.listed c.tell_all.ensures.settled

pub returns-in-Some-clause-gone : goal.returns-in-Some-clause-gone
returns-in-Some-clause-gone g c =
    let members : c.as_slice.result.now ≡ c.in-Some.node.class.members = c.as_slice.ensures ∙ ap (λ x. x.class.members) c.node-inside.view_is ∙ ap (λ (x : Node). x.class.members) c.node.view_is in
    let f = subst (λ (l : List ℕ). AreForgotten l c.args.keys.now.numbers c.forget.new.keys.numbers (length l)) members c.forget.ensures in
    forgotten-then c.args.block c.args.key c.args.nodes.now.slots c.try_remove.new.self.slots c.args.keys.now.numbers c.forget.new.keys.numbers c.in-Some.node c.requires.before c.args.blocks.now.items
    c.requires.stands c.requires.popped (sym c.in-Some.ensures.value) c.in-Some.ensures.slots f c.tell_all.new.nodes.slots c.tell_all.ensures.bare
