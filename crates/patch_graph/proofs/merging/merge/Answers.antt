use Rattle.std.proofs.Common.{sym, ap, ◌∙◌, inl, inr, Option, ℕ}
use Rattle.std.specs.Option.{unwrap_or}
use Rattle.patch_graph.proofs.Joining.{at-keys, at-keys-back}
use Rattle.patch_graph.proofs.Legality.{not-found, merges-to, merges-swapped}
use Rattle.patch_graph.proofs.Places.{ok-if, err-still}
use Rattle.patch_graph.proofs.merging.merge.Goals as goal

pub returns-in_default-clause-answer : goal.returns-in_default-clause-answer
returns-in_default-clause-answer g c all r l o = absurd (not-found c.args.register.now all r c.args.a c.args.b l (inl (sym c.in_default.ensures)))

pub returns-in_default-find-clause-answer : goal.returns-in_default-find-clause-answer
returns-in_default-find-clause-answer g c all r l o = absurd (not-found c.args.register.now all r c.args.a c.args.b l (inr (sym c.in_default-find.ensures)))

pub returns-in_ok-join-clause-answer : goal.returns-in_ok-join-clause-answer
returns-in_ok-join-clause-answer g c all r l o =
    let m = merges-swapped c.args.register.now all r c.join.new.register c.in_ok-join.ensures.made c.in_ok-join.ensures.tops c.in-Some-find.second c.in-Some.first c.args.a c.args.b
    c.name_at.result l (sym c.in-Some.ensures) (sym c.in-Some-find.ensures) c.in_ok-join.ensures.joined c.name_at.ensures o in
    (m.0, c.unwrap_or.ensures ∙ ap (λ (n : Option ℕ). unwrap_or n c.args.a) m.1)

pub returns-in_ok-join-2-clause-answer : goal.returns-in_ok-join-2-clause-answer
returns-in_ok-join-2-clause-answer g c all r l o =
    let m = merges-to c.args.register.now all r c.join-else-members_at.new.register c.in_ok-join-2.ensures.made c.in_ok-join-2.ensures.tops c.in-Some.first c.in-Some-find.second c.args.a c.args.b
    c.name_at-else-members_at.result l (sym c.in-Some.ensures) (sym c.in-Some-find.ensures) c.in_ok-join-2.ensures.joined c.name_at-else-members_at.ensures o in
    (m.0, c.unwrap_or-else-members_at.ensures ∙ ap (λ (n : Option ℕ). unwrap_or n c.args.a) m.1)

pub returns-in_err-join-clause-answer : goal.returns-in_err-join-clause-answer
returns-in_err-join-clause-answer g c = ok-if _ _ c.from_residual.ensures.0

pub returns-in_err-join-2-clause-answer : goal.returns-in_err-join-2-clause-answer
returns-in_err-join-2-clause-answer g c = ok-if _ _ c.from_residual-in_err-join-2.ensures.0

pub returns-in_err-join-clause-refused : goal.returns-in_err-join-clause-refused
returns-in_err-join-clause-refused g c = err-still _ _ c.in_err-join.ensures.refused

pub returns-in_err-join-2-clause-refused : goal.returns-in_err-join-2-clause-refused
returns-in_err-join-2-clause-refused g c = err-still _ _ c.in_err-join-2.ensures.refused

-- nothing can be merged
pub returns-in_ok-join-clause-idle : goal.returns-in_ok-join-clause-idle
returns-in_ok-join-clause-idle g c off =
    c.in_ok-join.ensures.idle
    (at-keys-back c.args.register.now.slots c.args.register.now.numbers c.args.a c.args.b c.in-Some.first c.in-Some-find.second (sym c.in-Some.ensures) (sym c.in-Some-find.ensures) off)

pub returns-in_err-join-clause-idle : goal.returns-in_err-join-clause-idle
returns-in_err-join-clause-idle g c off =
    c.join.ensures.idle
    (at-keys-back c.args.register.now.slots c.args.register.now.numbers c.args.a c.args.b c.in-Some.first c.in-Some-find.second (sym c.in-Some.ensures) (sym c.in-Some-find.ensures) off)

pub returns-in_ok-join-2-clause-idle : goal.returns-in_ok-join-2-clause-idle
returns-in_ok-join-2-clause-idle g c off =
    c.in_ok-join-2.ensures.idle
    (at-keys c.args.register.now.slots c.args.register.now.numbers c.args.a c.args.b c.in-Some.first c.in-Some-find.second (sym c.in-Some.ensures) (sym c.in-Some-find.ensures) off)

pub returns-in_err-join-2-clause-idle : goal.returns-in_err-join-2-clause-idle
returns-in_err-join-2-clause-idle g c off =
    c.join-else-members_at.ensures.idle
    (at-keys c.args.register.now.slots c.args.register.now.numbers c.args.a c.args.b c.in-Some.first c.in-Some-find.second (sym c.in-Some.ensures) (sym c.in-Some-find.ensures) off)
