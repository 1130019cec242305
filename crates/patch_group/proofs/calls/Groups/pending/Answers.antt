use Rattle.std.proofs.Common.{◌<◌, ◌∙◌, sym, ap, subst}
use Rattle.patch_group.proofs.Keeping.{within}
use Rattle.patch_group.proofs.Whys.{uncounted-shut}
use Rattle.patch_group.proofs.calls.Groups.pending.Goals as goal

pub returns-then-not-is_open-clause-count : goal.returns-then-not-is_open-clause-count
returns-then-not-is_open-clause-count g c run r a = tt

pub returns-then-not-is_open-clause-known : goal.returns-then-not-is_open-clause-known
returns-then-not-is_open-clause-known g c = tt

pub returns-then-not-is_open-clause-cause : goal.returns-then-not-is_open-clause-cause
returns-then-not-is_open-clause-cause g c = uncounted-shut c.args.self.now c.args.group (sym c.is_open.ensures.answer ∙ c.if-not-is_open.true)

pub index-record-requires : goal.index-record-requires
index-record-requires g c =
    subst (λ n. c.group.inside.0 < n) (sym c.self.inside.groups.ok.0)
    (within c.self.inside.groups.items c.args.self.now c.args.group c.group.inside.0 (ap (λ s. s.groups) c.self.view_is) c.group.view_is (c.is_open.ensures.known c.if-not-is_open.false))

pub returns-clause-cause : goal.returns-clause-cause
returns-clause-cause g c = tt
