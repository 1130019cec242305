-- The graph with one more class.
use Rattle.std.proofs.Common.{◌≡◌, ℕ, ◌+◌, ◌∙◌, ◌<◌, ◌≤◌, arith, refl, inl, inr, Bool, true, List, [], ◌∷◌, ◌++◌, map, sym, ap, subst}
use Rattle.std.specs.Prelude.{◌&&◌, nat_lt}
use Rattle.std.specs.List.{filter, list_all}
use Rattle.std.proofs.lemmas.Bool.{both_ways, cases_Bool, cases_eq, lt-ltb, ltb-true}
use Rattle.patch_model.specs.declared.patches.Undo.{Undo}
use Rattle.patch_links.specs.State.{Class, Links, IsInReach, find}
use Rattle.patch_links.specs.declared.nodes.Reach.{Reach}
use Rattle.patch_graph.specs.Naming.{IsNamedBelow, HasTaken}
use Rattle.patch_graph.proofs.Naming.{covered-more}
use Rattle.patch_links.specs.Adding.{IsAdded as IsLinked}
use Rattle.patch_graph.specs.State.{Graph, KeysFit}
use Rattle.patch_model.specs.Member.{In, In-map, map-In, In-filter, filter-In}
use Rattle.patch_skyline.specs.declared.skylines.Span.{Span}
use Rattle.patch_graph.specs.Skyline.{Skylines, spans_of, IsLaidOn}
use Rattle.patch_skyline.specs.Skyline.{AreTops, IsTopWithin}
use Rattle.patch_graph.proofs.ReadySet.{In-left, In-right, In-parts}
use Rattle.patch_graph.specs.Adding.{AreDependencies, is_hard, new_class, IsAdded, IsDrawnUp, MayBePutIn}

-- of numbers that pass, none is left out
pub all-stay : {X : Type 0} (p : X → Bool) (xs : List X) → list_all p xs ≡ true → filter p xs ≡ xs
all-stay p [] all = refl
all-stay p (x ∷ xs) all = elim (cases_Bool (p x)) [
  | inl is ↦ rw is (ap (λ ys. x ∷ ys) (all-stay p xs (rw is at all)))
  | inr off ↦ absurd (both_ways _ (ap (λ b. b && list_all p xs) off) all)
]

-- enough of the numbers that are named, and then those of the spans, where they are below that of the patch
pub depends-on : (g : Graph) (block start stop : ℕ) (those : List Span) (after named all : List ℕ) → AreTops (spans_of g.tops block) start stop those
    → HasTaken g.slots g.numbers (IsNamedBelow g.made after) [] named → all ≡ named ++ filter (λ n. nat_lt n g.made) (map (λ s. s.no) those) → AreDependencies g block start stop after all
depends-on g block start stop those after named all tops taken is =
    let low : ℕ → Bool = λ n. nat_lt n g.made in
    let tails = map (λ s. s.no) those in
    let more : (n : ℕ) → In named n → In all n = λ n i. subst (λ l. In l n) (sym is) (In-left named (filter low tails) n i) in
    record {
      are_made = λ n i. elim (In-parts named (filter low tails) n (subst (λ l. In l n) is i)) [
        | inl j ↦ elim (taken.only n j) [ inl none ↦ absurd none | inr k ↦ k.1 ]
        | inr j ↦ ltb-true n g.made (filter-In low tails n j).1
      ];
      named = λ n k. covered-more g.slots g.numbers named all n more (taken.all n k);
      last = λ n w h. let s = tops.each n w in
          subst (λ l. In l n) (sym is) (In-right named (filter low tails) n
          (In-filter low tails n (subst (λ m. In tails m) s.2 (In-map (λ s. s.no) those s.0 s.1)) (lt-ltb n g.made h)));
      only = λ n i. elim (In-parts named (filter low tails) n (subst (λ l. In l n) is i)) [
        | inl j ↦ elim (taken.only n j) [ inl none ↦ absurd none | inr k ↦ inl k.0 ]
        | inr j ↦ let s = map-In (λ s. s.no) those n (filter-In low tails n j).0 in inr (subst (λ m. IsTopWithin (spans_of g.tops block) start stop m) s.2 (tops.only s.0 s.1))
      ];
    }

pub drawn-up : (g : Graph) (block start stop : ℕ) (after deps : List ℕ) (reach : Reach) (undo : Undo) (hard : Bool) (c : Class) → AreDependencies g block start stop after deps
    → ((n : ℕ) → IsInReach reach n → IsNamedBelow g.made after n) → hard ≡ is_hard g.slots g.numbers block undo deps → c ≡ new_class g.made block start stop deps reach hard
    → IsDrawnUp g block start stop undo after c
drawn-up g block start stop after deps reach undo hard c are reached hard_is is = record { deps = deps; reach = reach; are = are; reached = reached; is = is ∙ ap (new_class g.made block start stop deps reach) hard_is }

-- what is drawn up may be put in
pub may-be-put-in : (g : Graph) (block start stop : ℕ) (after : List ℕ) (undo : Undo) (c : Class) → start < stop → IsDrawnUp g block start stop undo after c → MayBePutIn g c
may-be-put-in g block start stop after undo c some d = subst (MayBePutIn g) (sym d.is) (record {
  number = refl;
  some = some;
  new = record { fresh = omega arith; members = refl; memory = refl; after = d.are.are_made };
})

-- the class is linked to the others, and its span laid over those of its block
pub put-in : (made : ℕ) (tops now : Skylines) (old new : Links) (key : ℕ) (c d : Class) → c.name ≡ made → d ≡ c → IsLinked old new key c → IsLaidOn tops now c.block (record { start = d.start; stop = d.stop; no = d.name })
    → IsAdded (record { made = made; slots = old.slots; numbers = old.numbers; tops = tops }) (record { made = made + 1; slots = new.slots; numbers = new.numbers; tops = now }) key c
put-in made tops now old new key c d called same added laid = record {
  made = refl;
  laid = subst (λ n. IsLaidOn tops now c.block (record { start = c.start; stop = c.stop; no = n })) called (subst (λ (z : Class). IsLaidOn tops now c.block (record { start = z.start; stop = z.stop; no = z.name })) same laid);
  vacant = added.vacant;
  here = added.here;
  others = added.others;
  number = ap (find new.numbers) (sym called) ∙ added.number;
  rest = λ n other. added.rest n (λ e. other (e ∙ called));
}

-- the key of the new class is below the number too
pub added-fit : (old new : Links) (key : ℕ) (c : Class) (room more : ℕ) → IsLinked old new key c → KeysFit old.slots room → room ≤ more → old.next < more → KeysFit new.slots more
added-fit old new key c room more added fit grows low k d at = elim (cases_eq k key) [
  | inl e ↦ let next = added.next in omega arith
  | inr other ↦ let was = fit k d (sym (added.others k other) ∙ at) in omega arith
]
