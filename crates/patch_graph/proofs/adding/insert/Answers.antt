use Rattle.std.proofs.Common.{◌≡◌, ◌+◌, ◌<◌, ◌≤◌, ℕ, Some, subst, sym, ap, refl, ◌∙◌, arith}
use Rattle.patch_links.specs.State.{Class, Links, class_at}
use Rattle.patch_links.specs.Adding.{IsNew}
use Rattle.patch_graph.specs.State.{Graph, KeysFit}
use Rattle.patch_graph.specs.Skyline.{Skylines, lines_of, trimmed}
use Rattle.patch_graph.specs.Adding.{IsAdded}
use Rattle.patch_graph.proofs.Entered.{put-in, added-fit}
use Rattle.patch_graph.proofs.Places.{ok-if, err-still}
use Rattle.patch_graph.proofs.adding.insert.Goals as goal

new_for : (low made : ℕ) (class : Class) → low ≤ made → IsNew made class → IsNew low class
new_for low made class upto new = record {
  fresh = (let fresh = new.fresh in omega arith);
  members = new.members;
  memory = new.memory;
  after = new.after;
}

in_wider : (key room wider : ℕ) → key < room → room ≤ wider → key < wider
in_wider key room wider within more = omega arith

at_most : (a b : ℕ) → a ≡ b → a ≤ b
at_most a b is = omega arith

pub lay-requires-clause-some : goal.lay-requires-clause-some
lay-requires-clause-some g c = subst (λ (k : Class). k.start < k.stop) (sym c.class.view_is) c.requires.some

pub lay-requires-clause-new : goal.lay-requires-clause-new
lay-requires-clause-new g c =
    new_for c.register.inside.links.made c.register.inside.made c.args.class c.register.invariant
    (subst (λ (v : Graph). IsNew v.made c.args.class) (sym c.register.view_is) c.requires.new)

pub invariant_of-register : goal.invariant_of-register
invariant_of-register g c = subst (λ (l : Links). l.made ≤ c.register.inside.made) (sym c.in_err-key.ensures.refused_class) c.register.invariant

pub invariant_of-register-2 : goal.invariant_of-register-2
invariant_of-register-2 g c =
    at_most _ _ (c.in_ok-key.ensures.added.made ∙ ap (λ (n : ℕ). n + 1) c.requires.name
    ∙ ap (λ (v : Graph). v.made + 1) (sym c.register.view_is))

pub returns-in_err-reserve-clause-fit : goal.returns-in_err-reserve-clause-fit
returns-in_err-reserve-clause-fit g c fit key d at = in_wider key _ _ (fit key d at) c.reserve.ensures.kept

pub returns-in_err-reserve-clause-refused : goal.returns-in_err-reserve-clause-refused
returns-in_err-reserve-clause-refused g c = err-still _ _ refl

pub returns-in_err-key-clause-refused : goal.returns-in_err-key-clause-refused
returns-in_err-key-clause-refused g c =
    let made : ℕ = c.register.inside.made in
    err-still _ _ (ap (λ (l : Links). let v : Graph = record { made = made; slots = l.slots; numbers = l.numbers; tops = trimmed (lines_of c.lay.new.skylines.items) } in v) c.in_err-key.ensures.refused_class
    ∙ ap (λ (tops : Skylines). let v : Graph = record { made = made; slots = c.register.inside.links.slots; numbers = c.register.inside.links.numbers; tops = tops } in v) c.in_err-key.ensures.refused
    ∙ c.register.view_is)

pub returns-clause-inserted : goal.returns-clause-inserted
returns-clause-inserted g c =
    let old = c.register.inside in
    let now : Graph = record { made = old.made + 1; slots = c.lay.new.links.slots; numbers = c.lay.new.links.numbers; tops = trimmed (lines_of c.lay.new.skylines.items) } in
    subst (λ (v : Graph). IsAdded v now c.in_ok-key.key c.args.class) c.register.view_is
    (put-in old.made (trimmed (lines_of old.skylines.items)) now.tops old.links c.lay.new.links c.in_ok-key.key c.args.class _
    (c.requires.name ∙ ap (λ (v : Graph). v.made) (sym c.register.view_is)) c.class.view_is c.in_ok-key.ensures.added c.in_ok-key.ensures.laid)

pub returns-in_err-key-clause-fit : goal.returns-in_err-key-clause-fit
returns-in_err-key-clause-fit g c fit key d at =
    let was : class_at c.register.inside.links.slots key ≡ Some d = ap (λ (l : Links). class_at l.slots key) (sym c.in_err-key.ensures.refused_class) ∙ at in
    let low = subst (λ (v : Graph). KeysFit v.slots c.args.scratch.now) (sym c.register.view_is) fit key d was in
    let more = c.reserve.ensures.kept in omega arith

pub returns-clause-fit : goal.returns-clause-fit
returns-clause-fit g c fit =
    let next = c.next_key.ensures in
    let enough = c.in_ok-reserve.ensures.enough in
    added-fit c.register.inside.links c.lay.new.links _ _ c.args.scratch.now c.reserve.new.self c.in_ok-key.ensures.added
    (subst (λ (v : Graph). KeysFit v.slots c.args.scratch.now) (sym c.register.view_is) fit) c.reserve.ensures.kept (omega arith)

pub returns-in_err-reserve-clause-inserted : goal.returns-in_err-reserve-clause-inserted
returns-in_err-reserve-clause-inserted g c = ok-if _ _ c.from_residual.ensures.0

pub returns-in_err-key-clause-inserted : goal.returns-in_err-key-clause-inserted
returns-in_err-key-clause-inserted g c = ok-if _ _ c.from_residual-in_err-key.ensures.0
