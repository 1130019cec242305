-- Joints of two of a block's classes.
use Rattle.std.proofs.Common.{◌≡◌, ℕ, ◌<◌, inl, inr, Option, ◌⊎◌, length, refl, sym, arith, subst}
use Rattle.std.specs.Prelude.{Some, None}
use Rattle.std.proofs.lemmas.List.Quantifiers.{position-Some}
use Rattle.patch_records.specs.Records.{no_class}
use Rattle.patch_stacks.specs.State.{Block, Joint, IsJoint}
use Rattle.patch_stacks.specs.Changes.{JoinsPlaces, JoinsAt}

pub place-or-none : (o : Option ℕ) → ((i : ℕ) × (o ≡ Some i)) ⊎ (o ≡ None)
place-or-none None = inr refl
place-or-none (Some i) = inl (i, refl)

pub joint-within : (b : Block) (x y : ℕ) (joint : Joint) → IsJoint b x y (Some joint) → joint.high < length b.classes
joint-within b x y joint is = elim is.1 [
  | inl at_ ↦ (position-Some _ b.classes joint.high no_class at_.1).0
  | inr at_ ↦ (position-Some _ b.classes joint.high no_class at_.0).0
]

-- what isn't two classes of the block has no joint
pub one_class : (b : Block) (x y : ℕ) (joint : Option Joint) → IsJoint b x y joint → IsJoint b x y None → joint ≡ None
one_class b x y None is none = refl
one_class b x y (Some joint) is none = elim is.1 [
  | inl p ↦ let same = none joint.low joint.high p.0 p.1 in let less = is.0 in absurd (omega (arith, same, less))
  | inr p ↦ let same = none joint.high joint.low p.0 p.1 in let less = is.0 in absurd (omega (arith, same, less))
]

-- the classes at the places of a joint are one
pub joins-some : (old new : Block) (o : Option Joint) (joint drawn : Joint) → o ≡ Some joint → drawn ≡ joint
    → JoinsPlaces old drawn.low drawn.high drawn.drawn new → JoinsAt old o new
joins-some old new o joint drawn some same joins =
    subst (λ z. JoinsAt old z new) (sym some) (subst (λ z. JoinsAt old (Some z) new) same (λ less within. joins))

-- no joint joins nothing
pub joins-none : (b : Block) (o : Option Joint) → o ≡ None → JoinsAt b o b
joins-none b o none = subst (λ z. JoinsAt b z b) (sym none) refl

-- nor one of places that the block hasn't
pub joins-nowhere : (b : Block) (o : Option Joint) (joint drawn : Joint) → o ≡ Some joint → drawn ≡ joint
    → (drawn.low < drawn.high → drawn.high < length b.classes → ⊥) → JoinsAt b o b
joins-nowhere b o joint drawn some same off =
    subst (λ z. JoinsAt b z b) (sym some) (subst (λ z. JoinsAt b (Some z) b) same (λ less within. absurd (off less within)))
