use Rattle.std.proofs.Common.{◌∙◌, List, [], ℕ, length, ap, sym, refl}
use Rattle.std.proofs.lemmas.Option.{none-some}
use Rattle.patch_records.specs.Records.{Class}
use Rattle.patch_stacks.specs.State.{Block}
use Rattle.patch_stacks.proofs.Within.{none_within}
use Rattle.patch_stacks.proofs.Apart.{none_apart}
use Rattle.patch_stacks.proofs.stacks.Stack.of.Goals as goal

pub invariant_of-result : goal.invariant_of-result
invariant_of-result g c =
    let empty = c.new.ensures.items in (
      c.into_vec.ensures.length,
      none_within (λ (k : Class). k.taken) refl c.new.result.items c.none.result empty,
      none_apart c.new.result.items c.none-3.result empty,
      none_within (λ (k : Class). k.flying) refl c.new.result.items c.none-2.result empty,
      (λ m is on. absurd (none-some m is)),
      (λ m is on. absurd (none-some m is)),
    )

pub returns-clause-empty : goal.returns-clause-empty
returns-clause-empty g c =
    ap (λ (cs : List Class). let b : Block = record { bytes = c.into_vec.result.items; classes = cs } in b) c.new.ensures.items
    ∙ ap (λ (bs : List ℕ). let b : Block = record { bytes = bs; classes = [] } in b) c.into_vec.ensures.bytes

pub returns-clause-length : goal.returns-clause-length
returns-clause-length g c = ap length (sym c.into_vec.ensures.bytes) ∙ c.into_vec.ensures.length
