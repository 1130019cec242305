-- Laws of histories and of the sets that may be taken.
use Rattle.std.proofs.Common.{◌≡◌, ◌<◌, ◌∙◌, true, inl, inr, List, [], ◌∷◌, ◌++◌, sym, ap}
use Rattle.std.specs.Prelude.{◌==◌}
use Rattle.std.specs.List.{AllByRecursion}
use Rattle.std.proofs.lemmas.Bool.{or_cases, or_left, or_right, cases_eq, eqb-true, eq-eqb}
use Rattle.patch_model.specs.Marked.{durable-not_memory, flight-not_memory}
use Rattle.patch_model.specs.Entry.{Entry, is_among, is_flight, marks_flight}
use Rattle.patch_model.specs.Ready.{IsRising}
use Rattle.patch_model.specs.Member.{In, In-from_Contains, Contains-from_In}
use Rattle.patch_view.specs.Laws.{OrderlyIsCoherent, LastIsNext, FlightMayLand, UppermostMayBeTaken}

pub orderly_is_coherent : OrderlyIsCoherent
orderly_is_coherent h block o = record {
  long = o.long;
  fits = λ e i. o.orderly.fits e (Contains-from_In h.entries e i);
  some = λ e i. o.orderly.filled e (Contains-from_In h.entries e i);
  one_block = λ e f i j. o.here e (Contains-from_In h.entries e i) ∙ sym (o.here f (Contains-from_In h.entries f j));
  numbers = λ e f i j same. o.orderly.apart e f (Contains-from_In h.entries e i) (Contains-from_In h.entries f j) same;
  named_earlier = λ e n i t. o.orderly.earlier e n (Contains-from_In h.entries e i) t;
  class_first = λ e i. o.orderly.least e (Contains-from_In h.entries e i);
  one_mark = λ e f i j same. let a = o.orderly.alike e f (Contains-from_In h.entries e i) (Contains-from_In h.entries f j) same in (a.mark, a.hard);
  durable_first = λ e f i j d t.
      durable-not_memory f.mark ((o.orderly.under e f (Contains-from_In h.entries e i) (Contains-from_In h.entries f j) d).durable t);
}

all-last : (P : Entry → Type 0) (es : List Entry) (e : Entry) → AllByRecursion P (es ++ e ∷ []) → P e
all-last P [] e a = a.0
all-last P (g ∷ es) e a = all-last P es e a.1

before-last : (es : List Entry) (e f : Entry) → IsRising (es ++ e ∷ []) → In es f → f.patch.no < e.patch.no
before-last [] e f r i = absurd i
before-last (g ∷ es) e f r (inl same) = let l : g.patch.no < e.patch.no = all-last (λ k. g.patch.no < k.patch.no) es e r.0 in rw (sym same) l
before-last (g ∷ es) e f r (inr i) = before-last es e f r.1 i

pub last_is_next : LastIsNext
last_is_next h e block o = record { newest = λ f i. before-last h.entries e f o.orderly.rising i; coherent = orderly_is_coherent _ block o }

pub flight_may_land : FlightMayLand
flight_may_land h block e o i flying = record {
  flying = λ f j same.
      ap marks_flight (o.orderly.alike f e (Contains-from_In h.entries f j) (Contains-from_In h.entries e i) same).mark ∙ flying;
  first = λ f g j k same d.
      let flies : is_flight f ≡ true = ap marks_flight (o.orderly.alike f e (Contains-from_In h.entries f j) (Contains-from_In h.entries e i) same).mark ∙ flying in
      elim ((o.orderly.under f g (Contains-from_In h.entries f j) (Contains-from_In h.entries g k) d).flight flies) [
        | inl t ↦ durable-not_memory g.mark t
        | inr t ↦ flight-not_memory g.mark t.0
      ];
}

pub uppermost_may_be_taken : UppermostMayBeTaken
uppermost_may_be_taken h taken e o s i soft above = record {
  undoable = λ c t. elim (or_cases (e.class == c) (is_among taken c) t) [
    | inl u ↦ (e, Contains-from_In h.entries e i, eqb-true _ _ u, soft)
    | inr u ↦ s.undoable c u
  ];
  dependents = λ f g cf cg live goes t.
      let j = In-from_Contains h.entries f cf in
      let k = In-from_Contains h.entries g cg in
      elim (or_cases (e.class == g.class) (is_among taken g.class) t) [
        | inr u ↦ or_right (e.class == f.class) _ (s.dependents f g cf cg live goes u)
        | inl u ↦ elim (cases_eq e.class f.class) [
          | inl same ↦ or_left _ (is_among taken f.class) (eq-eqb _ _ same)
          | inr apart ↦ or_right (e.class == f.class) _ (above f g j k live (sym (eqb-true _ _ u)) (λ q. apart (sym q)) goes)
        ]
      ];
}
