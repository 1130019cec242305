-- Classes of some names put in flight, in one pass over the records.
use Rattle.std.proofs.Common.{◌≡◌, ℕ, ◌+◌, ◌<◌, ◌≤◌, ◌∙◌, inl, inr, List, length, get_or, set, get_or-set_same, get_or-set_other, refl, sym, ap, arith, subst}
use Rattle.std.proofs.lemmas.Bool.{cases_Bool, cases_eq}
use Rattle.std.proofs.lemmas.List.{length-set, get_or_default}
use Rattle.patch_model.specs.Entry.{is_among}
use Rattle.patch_records.specs.Records.{Class, no_class, departed_among, MayHaveDeparted}
use Rattle.patch_stacks.specs.State.{Block, HasDeparted}

-- each class before the place k as it was, or in flight under one of these names; all others as they were
pub record HaveDeparted (numbers : List ℕ) (first now : List Class) (k : ℕ) : Type 0 where
  pub long : length now ≡ length first
  pub rest : (i : ℕ) → k ≤ i → get_or now i no_class ≡ get_or first i no_class
  pub each : (i : ℕ) → MayHaveDeparted numbers (get_or first i no_class) (get_or now i no_class)

-- one place more
pub more_departed : (numbers : List ℕ) (first now : List Class) (k : ℕ) (old new : Class) → k < length first
    → MayHaveDeparted numbers (get_or now k old) new → HaveDeparted numbers first now k → HaveDeparted numbers first (set now k new) (k + 1)
more_departed numbers first now k old new within may d =
    let long = d.long in
    let w : k < length now = omega arith in
    let was : get_or now k old ≡ get_or first k no_class = get_or_default now k old no_class w ∙ d.rest k (omega arith) in
    record {
      long = length-set now k new ∙ d.long;
      rest = λ i up. get_or-set_other now k i new no_class (λ e. absurd (omega arith)) ∙ d.rest i (omega arith);
      each = λ i. elim (cases_eq i k) [
        | inl e ↦
            subst (λ (j : ℕ). MayHaveDeparted numbers (get_or first j no_class) (get_or (set now k new) j no_class)) (sym e)
            (subst (λ c. MayHaveDeparted numbers c (get_or (set now k new) k no_class)) was
            (subst (MayHaveDeparted numbers (get_or now k old)) (sym (get_or-set_same now k new no_class w)) may))
        | inr ne ↦ subst (MayHaveDeparted numbers (get_or first i no_class)) (sym (get_or-set_other now k i new no_class ne)) (d.each i)
      ];
    }

-- as the block has it
pub has_departed : (numbers : List ℕ) (old : Block) (bytes : List ℕ) (was first now kept : List Class) (k : ℕ)
    → record { bytes = bytes; classes = was } ≡ old → first ≡ was → kept ≡ now → HaveDeparted numbers first now k
    → HasDeparted numbers old (record { bytes = bytes; classes = kept })
has_departed numbers old bytes was first now kept k v f n d = record {
  bytes = ap (λ (b : Block). b.bytes) v;
  long = ap length n ∙ d.long ∙ ap length f ∙ ap (λ (b : Block). length b.classes) v;
  each = λ i.
      subst (λ (cs : List Class). MayHaveDeparted numbers (get_or cs i no_class) (get_or kept i no_class)) (f ∙ ap (λ (b : Block). b.classes) v)
      (subst (λ (cs : List Class). MayHaveDeparted numbers (get_or first i no_class) (get_or cs i no_class)) (sym n) (d.each i));
}

pub same-name : (numbers : List ℕ) (c : Class) → (departed_among numbers c).name ≡ c.name
same-name numbers c = elim (cases_Bool (is_among numbers c.name)) [ inl t ↦ rw t refl | inr t ↦ rw t refl ]
