use Rattle.std.proofs.Common.{◌≡◌, ◌∙◌, Some, None, sym, ap}
use Rattle.std.specs.Prelude.{option_map}
use Rattle.patch_listing.proofs.Listed.{value_told}
use Rattle.patch_listing.proofs.key_lines.value_of.Goals as goal

pub returns-in-Ok-Some : goal.returns-in-Ok-Some
returns-in-Ok-Some c h stands c' there is =
    let opens = c.closed_disks_open.ensures.cached c.args.store.now h stands in
    let got = (c.in-Ok-Some.ensures h stands).1 in
    let told = value_told _ c.args.key.now c' opens.sound there is in
    let both : Some c.in-Ok-Some.value.items ≡ Some c'.value =
    sym (ap (option_map (λ v. v.items)) c.in-Ok-Some.field-0-is) ∙ got ∙ sym (opens.tells c.args.key.now) ∙ told in
    cc

pub returns-in-Ok-None : goal.returns-in-Ok-None
returns-in-Ok-None c h stands c' there is =
    let opens = c.closed_disks_open.ensures.cached c.args.store.now h stands in
    let got = (c.in-Ok-None.ensures h stands).1 in
    let told = value_told _ c.args.key.now c' opens.sound there is in
    let both : None ≡ Some c'.value = sym (ap (option_map (λ v. v.items)) c.in-Ok-None.field-0-is) ∙ got ∙ sym (opens.tells c.args.key.now) ∙ told in
    absurd (cc)
