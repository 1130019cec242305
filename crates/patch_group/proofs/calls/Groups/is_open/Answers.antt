use Rattle.std.proofs.Common.{◌≡◌, ◌∙◌, ◌<◌, ℕ, true, ltb, List, length, map, sym, ap, arith}
use Rattle.std.proofs.lemmas.Bool.{false≢true, ltb-true}
use Rattle.std.proofs.lemmas.List.{length-map}
use Rattle.patch_plans.specs.Groups.{Groups}
use Rattle.patch_group.proofs.Reading.{open_told, shut_told}
use Rattle.patch_group.proofs.calls.Groups.is_open.Goals as goal

-- a place in the records is a group's number
known : {X Y : Type 0} (tell : X → Y) (seen items : List X) (groups : List Y) (place group : ℕ) → true ≡ ltb place (length seen) → seen ≡ items → map tell items ≡ groups → place ≡ group → group < length groups
known tell seen items groups place group is same view there =
    let below = ltb-true place (length seen) (sym is) in
    let read = ap length same in
    let long : length groups ≡ length items = ap length (sym view) ∙ length-map items tell in omega (arith, below, read, long, there)

pub returns-in-Some-clause-known : goal.returns-in-Some-clause-known
returns-in-Some-clause-known g c = λ is.
    known _ c.deref.result.now c.self.inside.groups.items c.args.self.now.groups c.group.inside.0 c.args.group c.in-Some.ensures.lookup.0 c.deref.ensures.value (ap (λ (v : Groups). v.groups) c.self.view_is) c.group.view_is

pub returns-in-Some-clause-answer : goal.returns-in-Some-clause-answer
returns-in-Some-clause-answer g c =
    open_told c.self.inside.groups.items c.deref.result.now c.args.self.now c.args.group c.group.inside.0 c.deref.ensures.value (ap (λ s. s.groups) c.self.view_is) c.group.view_is
    c.in-Some.record.now c.in-Some.ensures.lookup.3.0 c.in-Some.ensures.lookup.1

pub returns-in-None-clause-answer : goal.returns-in-None-clause-answer
returns-in-None-clause-answer g c =
    shut_told c.self.inside.groups.items c.deref.result.now c.args.self.now c.args.group c.group.inside.0 c.deref.ensures.value (ap (λ s. s.groups) c.self.view_is) c.group.view_is
    c.in-None.ensures.lookup.3

pub returns-in-None-clause-known : goal.returns-in-None-clause-known
returns-in-None-clause-known g c = λ is. absurd (false≢true is)
