-- What the steps leave of each patch.
use Rattle.std.proofs.Common.{◌≡◌, ℕ, ◌∙◌, inl, inr, List, [], ◌∷◌, length, map, refl, sym, ap, arith}
use Rattle.std.specs.Prelude.{◌==◌, ◌&&◌, ◌||◌}
use Rattle.std.proofs.lemmas.Bool.{cases_Bool}
use Rattle.patch_model.specs.Entry.{Entry, is_flight}
use Rattle.patch_model.specs.Ready.{has}
use Rattle.patch_model.specs.State.{sent, landed, joined}
use Rattle.patch_model.specs.Orderly.{IsNumbered}
use Rattle.patch_model.specs.Member.{In, In-from_Contains, Contains-from_In}

pub patch-sent : (set : List Entry) (e : Entry) → (sent set e).patch ≡ e.patch
patch-sent set e = elim (cases_Bool (has set e)) [ inl u ↦ rw u refl | inr u ↦ rw u refl ]

pub patch-landed : (block : ℕ) (e : Entry) → (landed block e).patch ≡ e.patch
patch-landed block e = elim (cases_Bool (is_flight e && (e.patch.block == block))) [ inl u ↦ rw u refl | inr u ↦ rw u refl ]

pub patch-joined : (a b : ℕ) (e : Entry) → (joined a b e).patch ≡ e.patch
patch-joined a b e = elim (cases_Bool (e.class == a || e.class == b)) [ inl u ↦ rw u refl | inr u ↦ rw u refl ]

pub In-map : (f : Entry → Entry) (es : List Entry) (e : Entry) → In es e → In (map f es) (f e)
In-map f [] e i = absurd i
In-map f (x ∷ es) e (inl s) = inl (ap f s)
In-map f (x ∷ es) e (inr i) = inr (In-map f es e i)

pub map-In : (f : Entry → Entry) (es : List Entry) (x : Entry) → In (map f es) x → (e : Entry) × In es e × (f e ≡ x)
map-In f [] x i = absurd i
map-In f (y ∷ es) x (inl s) = (y, inl refl, s)
map-In f (y ∷ es) x (inr i) = let r = map-In f es x i in (r.0, inr r.1, r.2)

pub length-map : (f : Entry → Entry) (es : List Entry) → length (map f es) ≡ length es
length-map f [] = refl
length-map f (x ∷ es) = let r = length-map f es in omega arith

-- a step that leaves the patches leaves their numbers
pub numbered-map : (f : Entry → Entry) (all : List Entry) → ((e : Entry) → (f e).patch ≡ e.patch) → IsNumbered all → IsNumbered (map f all)
numbered-map f all same n = record {
  below = λ x h.
      let y = map-In f all x (In-from_Contains (map f all) x h) in
      let b = n.below y.0 (Contains-from_In all y.0 y.1) in
      let s : x.patch.no ≡ y.0.patch.no = ap (λ e. e.patch.no) (sym y.2) ∙ ap (λ p. p.no) (same y.0) in
      let l = length-map f all in omega arith;
  made = λ k h.
      let l = length-map f all in
      let e = n.made k (omega arith) in
      (f e.0, Contains-from_In (map f all) (f e.0) (In-map f all e.0 (In-from_Contains all e.0 e.1)), ap (λ p. p.no) (same e.0) ∙ e.2);
}
