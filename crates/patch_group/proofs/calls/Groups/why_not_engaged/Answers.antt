use Rattle.std.proofs.Common.{◌<◌, ◌∙◌, refl, sym, ap, subst}
use Rattle.std.proofs.lemmas.Bool.{false≢true}
use Rattle.patch_group.proofs.Keeping.{within}
use Rattle.patch_group.proofs.Reading.{group_there}
use Rattle.patch_group.proofs.Whys.{unengaged-shut, unengaged-sealed, unengaged-engaged, engaged-free}
use Rattle.patch_group.proofs.calls.Groups.why_not_engaged.Goals as goal

pub returns-then-not-is_open-clause-cause : goal.returns-then-not-is_open-clause-cause
returns-then-not-is_open-clause-cause g c = unengaged-shut c.args.self.now c.args.writer c.args.group (sym c.is_open.ensures.answer ∙ c.if-not-is_open.true)

pub index-requires : goal.index-requires
index-requires g c = subst (λ n. c.group.inside.0 < n) (sym c.self.inside.groups.ok.0)
    (within c.self.inside.groups.items c.args.self.now c.args.group c.group.inside.0 (ap (λ s. s.groups) c.self.view_is) c.group.view_is (c.is_open.ensures.known c.if-not-is_open.false))

pub returns-then-index-clause-cause : goal.returns-then-index-clause-cause
returns-then-index-clause-cause g c =
    let at = group_there c.self.inside.groups.items c.self.inside.groups.items c.args.self.now c.args.group c.group.inside.0 refl (ap (λ s. s.groups) c.self.view_is) c.group.view_is c.index.result.now
    (within c.self.inside.groups.items c.args.self.now c.args.group c.group.inside.0 (ap (λ s. s.groups) c.self.view_is) c.group.view_is (c.is_open.ensures.known c.if-not-is_open.false)) c.index.ensures in
    unengaged-sealed c.args.self.now c.args.writer c.args.group (sym c.is_open.ensures.answer ∙ c.if-not-is_open.false) (ap (λ x. x.sealed) at ∙ c.if-index.true)

pub returns-then-is_engaged_by-clause-cause : goal.returns-then-is_engaged_by-clause-cause
returns-then-is_engaged_by-clause-cause g c =
    let at = group_there c.self.inside.groups.items c.self.inside.groups.items c.args.self.now c.args.group c.group.inside.0 refl (ap (λ s. s.groups) c.self.view_is) c.group.view_is c.index.result.now
    (within c.self.inside.groups.items c.args.self.now c.args.group c.group.inside.0 (ap (λ s. s.groups) c.self.view_is) c.group.view_is (c.is_open.ensures.known c.if-not-is_open.false)) c.index.ensures in
    unengaged-engaged c.args.self.now c.args.writer c.args.group (sym c.is_open.ensures.answer ∙ c.if-not-is_open.false) (ap (λ x. x.sealed) at ∙ c.if-index.false) (sym c.is_engaged_by.ensures ∙ c.if-is_engaged_by.true)

pub returns-clause-cause : goal.returns-clause-cause
returns-clause-cause g c =
    let at = group_there c.self.inside.groups.items c.self.inside.groups.items c.args.self.now c.args.group c.group.inside.0 refl (ap (λ s. s.groups) c.self.view_is) c.group.view_is c.index.result.now
    (within c.self.inside.groups.items c.args.self.now c.args.group c.group.inside.0 (ap (λ s. s.groups) c.self.view_is) c.group.view_is (c.is_open.ensures.known c.if-not-is_open.false)) c.index.ensures in
    engaged-free c.args.self.now c.args.writer c.args.group (sym c.is_open.ensures.answer ∙ c.if-not-is_open.false) (ap (λ x. x.sealed) at ∙ c.if-index.false) (sym c.is_engaged_by.ensures ∙ c.if-is_engaged_by.false)

pub returns-clause-known : goal.returns-clause-known
returns-clause-known g c = λ is. c.is_open.ensures.known c.if-not-is_open.false

pub returns-clause-new : goal.returns-clause-new
returns-clause-new g c = λ is. sym c.is_engaged_by.ensures ∙ c.if-is_engaged_by.false

pub returns-then-not-is_open-clause-known : goal.returns-then-not-is_open-clause-known
returns-then-not-is_open-clause-known g c = λ is. absurd (false≢true (sym is))

pub returns-then-not-is_open-clause-new : goal.returns-then-not-is_open-clause-new
returns-then-not-is_open-clause-new g c = λ is. absurd (false≢true (sym is))

pub returns-then-index-clause-known : goal.returns-then-index-clause-known
returns-then-index-clause-known g c = λ is. absurd (false≢true (sym is))

pub returns-then-index-clause-new : goal.returns-then-index-clause-new
returns-then-index-clause-new g c = λ is. absurd (false≢true (sym is))

pub returns-then-is_engaged_by-clause-known : goal.returns-then-is_engaged_by-clause-known
returns-then-is_engaged_by-clause-known g c = λ is. absurd (false≢true (sym is))

pub returns-then-is_engaged_by-clause-new : goal.returns-then-is_engaged_by-clause-new
returns-then-is_engaged_by-clause-new g c = λ is. absurd (false≢true (sym is))
