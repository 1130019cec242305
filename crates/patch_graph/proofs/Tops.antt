-- Which patch wrote each byte last, after the steps.
use Rattle.std.proofs.Common.{◌≡◌, ℕ, ◌≤◌, ◌∙◌, inl, inr, false, List, map, sym, ap, subst, Option, Some, None}
use Rattle.std.specs.Prelude.{◌==◌, ◌&&◌, ◌≢◌}
use Rattle.std.proofs.lemmas.Bool.{cases_Bool, cases_eq, and_parts, eqb-true, both_ways}
use Rattle.patch_model.specs.Pile.{covers}
use Rattle.patch_model.specs.Entry.{Entry, is_durable}
use Rattle.patch_model.specs.Member.{In}
use Rattle.patch_links.specs.State.{Class, Slots, Numbers, class_at}
use Rattle.patch_graph.specs.Skyline.{Skylines, spans_of, IsEmptied}
use Rattle.patch_skyline.specs.Skyline.{top_at}
use Rattle.patch_graph.specs.Meaning.{IsTop, IsGraphOf}
use Rattle.patch_graph.proofs.Steps.{In-map, map-In}

-- a step that leaves the patches, and what is durable, leaves who wrote a byte last
pub tops-kept : (f : Entry → Entry) (all : List Entry) (block x : ℕ) (o : Option ℕ) → ((e : Entry) → (f e).patch ≡ e.patch) → ((e : Entry) → In all e → is_durable (f e) ≡ false → is_durable e ≡ false)
    → IsTop all block x o → IsTop (map f all) block x o
tops-kept f all block x (Some n) same live t = record {
  e = f t.e;
  inside = In-map f all t.e t.inside;
  number = ap (λ p. p.no) (same t.e) ∙ t.number;
  wrote_it = ap (λ p. p.block == block && covers p x) (same t.e) ∙ t.wrote_it;
  last = λ g i w.
      let y = map-In f all g i in
      let p : g.patch ≡ y.0.patch = ap (λ z. z.patch) (sym y.2) ∙ same y.0 in
      subst (λ q. q.no ≤ n) (sym p) (t.last y.0 y.1 (ap (λ q. q.block == block && covers q x) (sym p) ∙ w));
}
tops-kept f all block x None same live t = λ g i w.
    let y = map-In f all g i in
    let p : g.patch ≡ y.0.patch = ap (λ z. z.patch) (sym y.2) ∙ same y.0 in
    let d = t y.0 y.1 (ap (λ q. q.block == block && covers q x) (sym p) ∙ w) in
    elim (cases_Bool (is_durable g)) [ inl u ↦ u | inr u ↦ absurd (both_ways _ (live y.0 y.1 (ap is_durable y.2 ∙ u)) d) ]

-- the skyline of a block with no live class may be empty
pub tops-emptied : (made : ℕ) (slots : Slots) (numbers : Numbers) (old new : Skylines) (all : List Entry) (block : ℕ) → IsEmptied old new block
    → ((key : ℕ) (c : Class) → class_at slots key ≡ Some c → c.block ≢ block)
    → IsGraphOf (record { made = made; slots = slots; numbers = numbers; tops = old }) all → IsGraphOf (record { made = made; slots = slots; numbers = numbers; tops = new }) all
tops-emptied made slots numbers old new all block e none r = record {
  orderly = r.orderly;
  numbered = r.numbered;
  made = r.made;
  classes = r.classes;
  found = r.found;
  live = r.live;
  tops = λ b x. elim (cases_eq b block) [
    | inl s ↦
        let here : top_at (spans_of new b) x ≡ None = ap (λ z. top_at (spans_of new z) x) s ∙ ap (λ z. top_at z x) e.here in
        subst (λ o. IsTop all b x o) (sym here) (λ f i w. elim (cases_Bool (is_durable f)) [
          | inl u ↦ u
          | inr u ↦
              let k = r.found f i u in
              let of = (r.classes k.0 k.1 k.3).looks f i (sym k.4) in
              absurd (none k.0 k.1 k.3 (sym of.1 ∙ eqb-true f.patch.block b (and_parts (f.patch.block == b) (covers f.patch x) w).0 ∙ s))
        ])
    | inr o ↦ subst (λ z. IsTop all b x (top_at z x)) (sym (e.others b o)) (r.tops b x)
  ];
}
