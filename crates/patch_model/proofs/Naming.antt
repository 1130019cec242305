-- The numbers of what is ready of a block rise, and name its classes.
use Rattle.std.proofs.Common.{◌≡◌, ℕ, zero, suc, ◌<◌, ◌∙◌, true, List, [], ◌∷◌, length, get_or, sym, ap, arith, subst}
use Rattle.std.specs.Prelude.{Contains}
use Rattle.std.specs.List.{AllByRecursion}
use Rattle.std.specs.List.Sorted.{IsNonDecreasing}
use Rattle.std.specs.Cmp.{both_ways as same_bool}
use Rattle.patch_model.specs.Entries.{has-In, In-has}
use Rattle.patch_model.specs.Execution.{Execution}
use Rattle.patch_model.specs.Entry.{Entry, is_among}
use Rattle.patch_model.specs.Ready.{IsRising, has, ready}
use Rattle.patch_model.specs.State.{entries_of, numbers_of}
use Rattle.patch_model.specs.Legal.{IsLegal}
use Rattle.patch_model.specs.Member.{In, In-from_Contains, Contains-from_In}
use Rattle.patch_model.proofs.Among.{among_map-at, among_map-from}
use Rattle.patch_model.proofs.Classes.{goes_along}
use Rattle.patch_model.proofs.Numbering.{AreApart-run}
use Rattle.patch_model.proofs.Rising.{rising-ready}
use Rattle.patch_model.proofs.Spans.{own_name}
use Rattle.patch_model.proofs.Striking.{ready-In}

above : (n : ℕ) (es : List Entry) → AllByRecursion (λ f. n < f.patch.no) es → (j d : ℕ) → j < length (numbers_of es) → n < get_or (numbers_of es) j d
above n [] h j d within = absurd (omega arith)
above n (e ∷ es) h zero d within = h.0
above n (e ∷ es) h (suc j) d within = above n es h.1 j d (omega arith)

numbers_rise : (es : List Entry) → IsRising es → IsNonDecreasing (numbers_of es)
numbers_rise [] h i j d le within = absurd (omega arith)
numbers_rise (e ∷ es) h zero zero d le within = omega arith
numbers_rise (e ∷ es) h zero (suc j) d le within = let lt = above e.patch.no es h.0 j d (omega arith) in omega arith
numbers_rise (e ∷ es) h (suc i) zero d le within = absurd (omega arith)
numbers_rise (e ∷ es) h (suc i) (suc j) d le within = numbers_rise es h.1 i j d (omega arith) (omega arith)

pub ready_numbers_rise : (run : Execution) (block : ℕ) → IsNonDecreasing (numbers_of (ready (entries_of run) block))
ready_numbers_rise run block = numbers_rise (ready (entries_of run) block) (rising-ready run block)

module _ (run : Execution) (block : ℕ) (legal : IsLegal run) where
  inside : (f : Entry) → In (ready (entries_of run) block) f → In (entries_of run) f
  inside f j = (ready-In (entries_of run) block (AreApart-run run) f j).0

  -- what is ready has with a patch all of its class
  whole : (f g : Entry) → In (entries_of run) f → In (entries_of run) g → f.class ≡ g.class → In (ready (entries_of run) block) f → In (ready (entries_of run) block) g
  whole f g j k same h =
      has-In (entries_of run) (ready (entries_of run) block) g (AreApart-run run) inside k
      (goes_along (entries_of run) block (AreApart-run run) f g j k same (In-has (ready (entries_of run) block) f h))

  named-from : (e : Entry) → In (entries_of run) e → In (ready (entries_of run) block) e → is_among (numbers_of (ready (entries_of run) block)) e.class ≡ true
  named-from e i h =
      let f = own_name run e legal (Contains-from_In _ e i) in
      let k = whole e f.0 i (In-from_Contains _ f.0 f.1.inside) (sym f.1.name) h in
      subst (λ n. is_among (numbers_of (ready (entries_of run) block)) n ≡ true) f.1.number (among_map-from (λ x. x.patch.no) (ready (entries_of run) block) f.0 k)

  named-at : (e : Entry) → In (entries_of run) e → is_among (numbers_of (ready (entries_of run) block)) e.class ≡ true → In (ready (entries_of run) block) e
  named-at e i h =
      let f = among_map-at (λ x. x.patch.no) (ready (entries_of run) block) e.class h in
      let g = own_name run e legal (Contains-from_In _ e i) in
      let same : f.0 ≡ g.0 = AreApart-run run f.0 g.0 (inside f.0 f.1) (In-from_Contains _ g.0 g.1.inside) (f.2 ∙ sym g.1.number) in
      whole f.0 e (inside f.0 f.1) i (ap (λ x. x.class) same ∙ g.1.name) f.1

pub ready_names : (run : Execution) (block : ℕ) (e : Entry) → IsLegal run → Contains (entries_of run) e
    → is_among (numbers_of (ready (entries_of run) block)) e.class ≡ has (ready (entries_of run) block) e
ready_names run block e legal i =
    let at = In-from_Contains _ e i in
    same_bool _ _
    (λ h. In-has (ready (entries_of run) block) e (named-at run block legal e at h))
    (λ h. named-from run block legal e at (has-In (entries_of run) (ready (entries_of run) block) e (AreApart-run run) (inside run block legal) at h))
