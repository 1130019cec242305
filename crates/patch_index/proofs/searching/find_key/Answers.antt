use Rattle.std.proofs.Common.{◌∙◌, map, sym, ap, arith}
use Rattle.std.specs.Str.{bytes_eq}
use Rattle.std.specs.Prelude.{Some}
use Rattle.patch_index.specs.Index.{told}
use Rattle.patch_index.proofs.Found.{key_is_at, key_is_nowhere}
use Rattle.patch_index.proofs.searching.find_key.Goals as goal

pub returns-then-at-order : goal.returns-then-at-order
returns-then-at-order c =
    let end = c.if-at-order.true in
    sym (key_is_nowhere (map told c.args.slots.now) c.args.order.now c.args.key.now c.place_by_key-at.result c.requires c.place_by_key-at.ensures (λ less. absurd (omega (arith, end, less))))

pub returns-then-eq : goal.returns-then-eq
returns-then-eq c =
    let slots = map told c.args.slots.now in
    let off = c.if-at-order.false in
    let low = c.place_by_key-at.ensures.within in
    ap Some c.from.ensures
    ∙ sym (key_is_at slots c.args.order.now c.args.key.now c.place_by_key-at.result c.requires c.place_by_key-at.ensures (omega (arith, off, low))
    (ap (λ k. bytes_eq k c.args.key.now) (sym c.key_at.ensures) ∙ sym c.eq.ensures ∙ c.if-eq.true))

pub returns-else-eq : goal.returns-else-eq
returns-else-eq c =
    let slots = map told c.args.slots.now in
    sym (key_is_nowhere slots c.args.order.now c.args.key.now c.place_by_key-at.result c.requires c.place_by_key-at.ensures
    (λ less. ap (λ k. bytes_eq k c.args.key.now) (sym c.key_at.ensures) ∙ sym c.eq.ensures ∙ c.if-eq.false))
