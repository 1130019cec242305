-- Where no classes depend on each other, no chain of them comes back.
use Rattle.std.proofs.Common.{◌≡◌, ℕ, ◌∙◌, inl, inr, true, List, refl, sym, subst, Some}
use Rattle.std.specs.Prelude.{◌≢◌}
use Rattle.patch_model.specs.Entry.{Entry}
use Rattle.patch_model.specs.Dependency.{Path}
use Rattle.patch_links.specs.State.{Class, class_at, leads}
use Rattle.patch_links.specs.Ready.{Chain, one, onward, HasNoRing as HasNoChain}
use Rattle.patch_graph.specs.State.{Graph}
use Rattle.patch_graph.specs.Meaning.{IsGraphOf}
use Rattle.patch_graph.specs.Between.{HasNoRing}
use Rattle.patch_graph.proofs.ReadySet.{class_same}
use Rattle.patch_graph.proofs.Reaching.{joined-path, one-key, step-path, target}

module _ (g : Graph) (all : List Entry) (r : IsGraphOf g all) where
  apart-path : (k j : ℕ) (c d : Class) → class_at g.slots k ≡ Some c → class_at g.slots j ≡ Some d → k ≢ j → leads g.numbers c j ≡ true → Path all c.name d.name
  apart-path k j c d at at2 apart t = elim (step-path g all r k j c d at at2 t) [ inl e ↦ absurd (apart (one-key g all r k j c d at at2 e)) | inr p ↦ p ]

  chain-path : (k j : ℕ) (c d : Class) → Chain g.slots g.numbers k j → class_at g.slots k ≡ Some c → class_at g.slots j ≡ Some d → Path all c.name d.name
  chain-path k j c d (one x at2 apart t) at at3 = let s = class_same x c (sym at2 ∙ at) in apart-path k j c d at at3 apart (subst (λ z. leads g.numbers z j ≡ true) s t)
  chain-path k l c d (onward {j = j} x at2 apart t rest) at at3 =
      let s = class_same x c (sym at2 ∙ at) in
      let w = target g all r x j t in
      joined-path all c.name w.1.name d.name (apart-path k j c w.1 at w.4 apart (subst (λ z. leads g.numbers z j ≡ true) s t)) (chain-path j l w.1 d rest w.4 at3)

  pub no-chain : HasNoRing all → HasNoChain g.slots g.numbers
  no-chain no_ring key (one c at apart t) = apart refl
  no-chain no_ring key (onward {j = j} c at apart t rest) =
      let w = target g all r c j t in
      no_ring c.name w.1.name (λ e. apart (one-key g all r key j c w.1 at w.4 e)) (apart-path key j c w.1 at w.4 apart t) (chain-path j key w.1 c rest w.4 at)
