use Rattle.std.proofs.Common.{◌≡◌, ◌∙◌, sym, ap}
use denote.Enum.Bare.{same_true}
use Rattle.patch_model.specs.contracts.refusals.RefusalKind.{the_type}
use Rattle.patch_model.specs.declared.refusals.Refusal.{Refusal}
use Rattle.patch_shared.proofs.comparing.is_same_refusal.Goals as goal

pub returns-then-eq : goal.returns-then-eq
returns-then-eq c =
    let a = c.args.a.now in
    let b = c.args.b.now in
    let kind : a.kind ≡ b.kind = same_true the_type (tt {0}) a.kind b.kind (sym c.eq.ensures ∙ c.if-eq.true) in (
      λ same.
          ap (λ k. let r : Refusal = record { kind = k; number = a.number } in r) kind
          ∙ ap (λ n. let r : Refusal = record { kind = b.kind; number = n } in r) (c.is_same_number.ensures.0 same),
      λ same. c.is_same_number.ensures.1 (ap (λ (r : Refusal). r.number) same),
    )
