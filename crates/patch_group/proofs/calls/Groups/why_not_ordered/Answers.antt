use Rattle.std.proofs.Common.{◌<◌, ◌∙◌, refl, sym, ap, subst}
use Rattle.std.proofs.lemmas.Bool.{false≢true}
use Rattle.patch_group.proofs.Keeping.{within}
use Rattle.patch_group.proofs.Reading.{group_there}
use Rattle.patch_group.proofs.Whys.{unordered-shut, unordered-shut_on, unordered-same, unordered-sealed, unordered-started, unordered-engaged, ordered-free}
use Rattle.patch_group.proofs.calls.Groups.why_not_ordered.Goals.{then-not-is_open-via-then-not-is_open, then-not-is_open-via-else-not-is_open+then-not-is_open-2}
use Rattle.patch_group.proofs.calls.Groups.why_not_ordered.Goals as goal

pub returns-then-not-is_open-clause-cause : goal.returns-then-not-is_open-clause-cause
returns-then-not-is_open-clause-cause g c =
    elim c.then-not-is_open.branch [
      | then-not-is_open-via-then-not-is_open w ↦ unordered-shut c.args.self.now c.args.group c.args.on (sym c.is_open.ensures.answer ∙ w.if-not-is_open.true)
      | then-not-is_open-via-else-not-is_open+then-not-is_open-2 w ↦
          unordered-shut_on c.args.self.now c.args.group c.args.on (sym c.is_open.ensures.answer ∙ w.if-not-is_open.false) (sym w.is_open-else-not-is_open.ensures.answer ∙ w.if-not-is_open-2.true)
    ]

pub index-requires : goal.index-requires
index-requires g c = subst (λ n. c.group.inside.0 < n) (sym c.self.inside.groups.ok.0)
    (within c.self.inside.groups.items c.args.self.now c.args.group c.group.inside.0 (ap (λ s. s.groups) c.self.view_is) c.group.view_is (c.is_open.ensures.known c.if-not-is_open.false))

pub index-requires-2 : goal.index-requires-2
index-requires-2 g c = subst (λ n. c.group.inside.0 < n) (sym c.self.inside.groups.ok.0)
    (within c.self.inside.groups.items c.args.self.now c.args.group c.group.inside.0 (ap (λ s. s.groups) c.self.view_is) c.group.view_is (c.is_open.ensures.known c.if-not-is_open.false))

pub returns-then-eq-clause-cause : goal.returns-then-eq-clause-cause
returns-then-eq-clause-cause g c = unordered-same c.args.self.now c.args.group c.args.on (sym c.is_open.ensures.answer ∙ c.if-not-is_open.false) (sym c.is_open-else-not-is_open.ensures.answer ∙ c.if-not-is_open-2.false) (sym c.eq.ensures ∙ c.if-eq.true)

pub returns-then-index-clause-cause : goal.returns-then-index-clause-cause
returns-then-index-clause-cause g c =
    let at = group_there c.self.inside.groups.items c.self.inside.groups.items c.args.self.now c.args.group c.group.inside.0 refl (ap (λ s. s.groups) c.self.view_is) c.group.view_is c.index.result.now
    (within c.self.inside.groups.items c.args.self.now c.args.group c.group.inside.0 (ap (λ s. s.groups) c.self.view_is) c.group.view_is (c.is_open.ensures.known c.if-not-is_open.false)) c.index.ensures in
    unordered-sealed c.args.self.now c.args.group c.args.on (sym c.is_open.ensures.answer ∙ c.if-not-is_open.false) (sym c.is_open-else-not-is_open.ensures.answer ∙ c.if-not-is_open-2.false) (sym c.eq.ensures ∙ c.if-eq.false) (ap (λ x. x.sealed) at ∙ c.if-index.true)

pub returns-then-index-2-clause-cause : goal.returns-then-index-2-clause-cause
returns-then-index-2-clause-cause g c =
    let at = group_there c.self.inside.groups.items c.self.inside.groups.items c.args.self.now c.args.group c.group.inside.0 refl (ap (λ s. s.groups) c.self.view_is) c.group.view_is c.index.result.now
    (within c.self.inside.groups.items c.args.self.now c.args.group c.group.inside.0 (ap (λ s. s.groups) c.self.view_is) c.group.view_is (c.is_open.ensures.known c.if-not-is_open.false)) c.index.ensures in
    let at_2 = group_there c.self.inside.groups.items c.self.inside.groups.items c.args.self.now c.args.group c.group.inside.0 refl (ap (λ s. s.groups) c.self.view_is) c.group.view_is c.index-2.result.now
    (within c.self.inside.groups.items c.args.self.now c.args.group c.group.inside.0 (ap (λ s. s.groups) c.self.view_is) c.group.view_is (c.is_open.ensures.known c.if-not-is_open.false)) c.index-2.ensures in
    unordered-started c.args.self.now c.args.group c.args.on (sym c.is_open.ensures.answer ∙ c.if-not-is_open.false) (sym c.is_open-else-not-is_open.ensures.answer ∙ c.if-not-is_open-2.false) (sym c.eq.ensures ∙ c.if-eq.false) (ap (λ x. x.sealed) at ∙ c.if-index.false) (ap (λ x. x.started) at_2 ∙ c.if-index-2.true)

pub returns-then-is_engaged-clause-cause : goal.returns-then-is_engaged-clause-cause
returns-then-is_engaged-clause-cause g c =
    let at = group_there c.self.inside.groups.items c.self.inside.groups.items c.args.self.now c.args.group c.group.inside.0 refl (ap (λ s. s.groups) c.self.view_is) c.group.view_is c.index.result.now
    (within c.self.inside.groups.items c.args.self.now c.args.group c.group.inside.0 (ap (λ s. s.groups) c.self.view_is) c.group.view_is (c.is_open.ensures.known c.if-not-is_open.false)) c.index.ensures in
    let at_2 = group_there c.self.inside.groups.items c.self.inside.groups.items c.args.self.now c.args.group c.group.inside.0 refl (ap (λ s. s.groups) c.self.view_is) c.group.view_is c.index-2.result.now
    (within c.self.inside.groups.items c.args.self.now c.args.group c.group.inside.0 (ap (λ s. s.groups) c.self.view_is) c.group.view_is (c.is_open.ensures.known c.if-not-is_open.false)) c.index-2.ensures in
    unordered-engaged c.args.self.now c.args.group c.args.on (sym c.is_open.ensures.answer ∙ c.if-not-is_open.false) (sym c.is_open-else-not-is_open.ensures.answer ∙ c.if-not-is_open-2.false) (sym c.eq.ensures ∙ c.if-eq.false) (ap (λ x. x.sealed) at ∙ c.if-index.false) (ap (λ x. x.started) at_2 ∙ c.if-index-2.false) (sym c.is_engaged.ensures ∙ c.if-is_engaged.true)

pub returns-clause-cause : goal.returns-clause-cause
returns-clause-cause g c =
    let at = group_there c.self.inside.groups.items c.self.inside.groups.items c.args.self.now c.args.group c.group.inside.0 refl (ap (λ s. s.groups) c.self.view_is) c.group.view_is c.index.result.now
    (within c.self.inside.groups.items c.args.self.now c.args.group c.group.inside.0 (ap (λ s. s.groups) c.self.view_is) c.group.view_is (c.is_open.ensures.known c.if-not-is_open.false)) c.index.ensures in
    let at_2 = group_there c.self.inside.groups.items c.self.inside.groups.items c.args.self.now c.args.group c.group.inside.0 refl (ap (λ s. s.groups) c.self.view_is) c.group.view_is c.index-2.result.now
    (within c.self.inside.groups.items c.args.self.now c.args.group c.group.inside.0 (ap (λ s. s.groups) c.self.view_is) c.group.view_is (c.is_open.ensures.known c.if-not-is_open.false)) c.index-2.ensures in
    ordered-free c.args.self.now c.args.group c.args.on (sym c.is_open.ensures.answer ∙ c.if-not-is_open.false) (sym c.is_open-else-not-is_open.ensures.answer ∙ c.if-not-is_open-2.false) (sym c.eq.ensures ∙ c.if-eq.false) (ap (λ x. x.sealed) at ∙ c.if-index.false) (ap (λ x. x.started) at_2 ∙ c.if-index-2.false) (sym c.is_engaged.ensures ∙ c.if-is_engaged.false)

pub returns-clause-known : goal.returns-clause-known
returns-clause-known g c = λ is. c.is_open.ensures.known c.if-not-is_open.false

pub returns-clause-on_known : goal.returns-clause-on_known
returns-clause-on_known g c = λ is. c.is_open-else-not-is_open.ensures.known c.if-not-is_open-2.false

pub returns-then-not-is_open-clause-known : goal.returns-then-not-is_open-clause-known
returns-then-not-is_open-clause-known g c = λ is. absurd (false≢true (sym is))

pub returns-then-not-is_open-clause-on_known : goal.returns-then-not-is_open-clause-on_known
returns-then-not-is_open-clause-on_known g c = λ is. absurd (false≢true (sym is))

pub returns-then-not-is_open-clause-two : goal.returns-then-not-is_open-clause-two
returns-then-not-is_open-clause-two g c = λ is. absurd (false≢true (sym is))

pub returns-then-eq-clause-known : goal.returns-then-eq-clause-known
returns-then-eq-clause-known g c = λ is. absurd (false≢true (sym is))

pub returns-then-eq-clause-on_known : goal.returns-then-eq-clause-on_known
returns-then-eq-clause-on_known g c = λ is. absurd (false≢true (sym is))

pub returns-then-eq-clause-two : goal.returns-then-eq-clause-two
returns-then-eq-clause-two g c = λ is. absurd (false≢true (sym is))

pub returns-then-index-clause-known : goal.returns-then-index-clause-known
returns-then-index-clause-known g c = λ is. absurd (false≢true (sym is))

pub returns-then-index-clause-on_known : goal.returns-then-index-clause-on_known
returns-then-index-clause-on_known g c = λ is. absurd (false≢true (sym is))

pub returns-then-index-clause-two : goal.returns-then-index-clause-two
returns-then-index-clause-two g c = λ is. absurd (false≢true (sym is))

pub returns-then-index-2-clause-known : goal.returns-then-index-2-clause-known
returns-then-index-2-clause-known g c = λ is. absurd (false≢true (sym is))

pub returns-then-index-2-clause-on_known : goal.returns-then-index-2-clause-on_known
returns-then-index-2-clause-on_known g c = λ is. absurd (false≢true (sym is))

pub returns-then-index-2-clause-two : goal.returns-then-index-2-clause-two
returns-then-index-2-clause-two g c = λ is. absurd (false≢true (sym is))

pub returns-then-is_engaged-clause-known : goal.returns-then-is_engaged-clause-known
returns-then-is_engaged-clause-known g c = λ is. absurd (false≢true (sym is))

pub returns-then-is_engaged-clause-on_known : goal.returns-then-is_engaged-clause-on_known
returns-then-is_engaged-clause-on_known g c = λ is. absurd (false≢true (sym is))

pub returns-then-is_engaged-clause-two : goal.returns-then-is_engaged-clause-two
returns-then-is_engaged-clause-two g c = λ is. absurd (false≢true (sym is))
