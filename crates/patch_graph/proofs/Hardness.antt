-- What is below a hard class.
use Rattle.std.proofs.Common.{◌≡◌, ℕ, ◌∙◌, inl, inr, true, sym, ap, subst, Some, List}
use Rattle.std.proofs.lemmas.Bool.{both_ways}
use Rattle.patch_model.specs.Entry.{Entry}
use Rattle.patch_model.specs.Member.{Contains-from_In}
use Rattle.patch_links.specs.State.{Class, class_at, leads}
use Rattle.patch_graph.specs.State.{Graph}
use Rattle.patch_graph.specs.Meaning.{Leads, one, onward, IsGraphOf}
use Rattle.patch_graph.proofs.ReadySet.{class_same}
use Rattle.patch_graph.proofs.Reaching.{target, one-key}

-- the class is a hard one of the block
abbrev pub IsHardOf : ℕ → Class → Type 0
IsHardOf block c = (c.hard ≡ true) × (c.block ≡ block)

module _ (g : Graph) (all : List Entry) (r : IsGraphOf g all) (block : ℕ) where
  hard-below : (k j : ℕ) (c d : Class) → class_at g.slots k ≡ Some c → class_at g.slots j ≡ Some d → leads g.numbers c j ≡ true → IsHardOf block c → IsHardOf block d
  hard-below k j c d at at2 led h =
      let w = target g all r c j led in
      elim ((r.classes k c at).sound w.0 j d w.2 w.3 at2) [
        | inl s ↦
            let key = one-key g all r j k d c at2 at s in
            let same = class_same c d (sym at ∙ ap (class_at g.slots) (sym key) ∙ at2) in
            subst (λ z. IsHardOf block z) same h
        | inr x ↦
            let up = (r.classes k c at).looks x.e x.in_e x.of_a in
            let down = (r.classes j d at2).looks x.f x.in_f x.of_b in
            let alive = (r.classes j d at2).live x.f x.in_f x.of_b in
            elim ((r.orderly.under x.e x.f (Contains-from_In all x.e x.in_e) (Contains-from_In all x.f x.in_f) x.depends).hard (up.2 ∙ h.0)) [
              | inl dead ↦ absurd (both_ways _ alive dead)
              | inr low ↦ (sym down.2 ∙ low.0, sym down.1 ∙ low.1 ∙ up.1 ∙ h.1)
            ]
      ]

  -- a chain from a hard class of the block leads to hard classes of the block alone
  pub hard-through : (k j : ℕ) (c d : Class) → class_at g.slots k ≡ Some c → class_at g.slots j ≡ Some d → Leads g.slots g.numbers k j → IsHardOf block c → IsHardOf block d
  hard-through k j c d at at2 (one x at3 t) h =
      let same = class_same x c (sym at3 ∙ at) in
      hard-below k j c d at at2 (subst (λ z. leads g.numbers z j ≡ true) same t) h
  hard-through k l c d at at2 (onward {j = j} x at3 t rest) h =
      let same = class_same x c (sym at3 ∙ at) in
      let led = subst (λ z. leads g.numbers z j ≡ true) same t in
      let w = target g all r c j led in
      hard-through j l w.1 d w.4 at2 rest (hard-below k j c w.1 at w.4 led h)
