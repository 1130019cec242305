-- A block has at most one flight, which holds some patch, and its number is below the count of sends.
use Rattle.std.proofs.Common.{◌≡◌, ◌≢◌, ℕ, ◌<◌, ◌⊎◌, ◌∙◌, inl, inr, true, false, List, [], ◌∷◌, ◌++◌, length, map, refl, sym, ap, arith, subst}
use Rattle.std.specs.Prelude.{◌==◌, ◌&&◌, not, IsTrue, Contains, filter}
use Rattle.std.specs.List.{list_any}
use Rattle.std.proofs.lemmas.Bool.{cases_Bool, and_parts, and_from, both_ways, not-true}
use Rattle.std.proofs.lemmas.Bool.Decides.{nat_tests}
use Rattle.patch_model.specs.Entries.{In-has}
use Rattle.patch_model.specs.Step.{Step, Create, Merge, Send, Complete}
use Rattle.patch_model.specs.Execution.{Execution}
use Rattle.patch_model.specs.Entry.{Entry, is_flight, is_memory}
use Rattle.patch_model.specs.Ready.{has, ready}
use Rattle.patch_model.specs.State.{State, joined, sent, landed, class_of, after_step, after_steps, at_first, state_of, entries_of, has_flight}
use Rattle.patch_model.specs.Legal.{IsLegal, IsLegalStep, AreLegal}
use Rattle.patch_model.specs.Member.{In, In-from_Contains, filter-In, list_any-at, list_any-from, In-map}
use Rattle.patch_model.specs.Unchanged.{mark-joined, patch-joined, patch-landed, patch-sent}
use Rattle.patch_model.proofs.Striking.{ready-In}
use Rattle.patch_model.proofs.Numbering.{apart-from_Numbered}
use Rattle.patch_model.proofs.Marks.{IsSettled, IsSettled-after_step, settled_first}
use Rattle.patch_model.proofs.Spans.{In-to_push}
use Rattle.patch_model.proofs.Rings.{same_name}

-- a patch that is in flight on this block
record Flying (all : List Entry) (block : ℕ) : Type 0 where
  it : Entry
  inside : In all it
  flight : is_flight it ≡ true
  here : it.patch.block ≡ block

record AreFlights (st : State) : Type 0 where
  single : (f g : ℕ × ℕ) → In st.flights f → In st.flights g → f.0 ≡ g.0 → f ≡ g
  counted : (f : ℕ × ℕ) → In st.flights f → f.1 < st.sends
  flying : (f : ℕ × ℕ) → In st.flights f → Flying st.entries f.0

In-pair_push : (xs : List (ℕ × ℕ)) (x y : ℕ × ℕ) → In (xs ++ x ∷ []) y → In xs y ⊎ (x ≡ y)
In-pair_push [] x y (inl e) = inr e
In-pair_push [] x y (inr h) = absurd h
In-pair_push (z ∷ zs) x y (inl e) = inl (inl e)
In-pair_push (z ∷ zs) x y (inr h) = elim (In-pair_push zs x y h) [ inl g ↦ inl (inr g) | inr e ↦ inr e ]

-- a change that leaves patches, and what flies in flight
keeps-flying : (g : Entry → Entry) (all : List Entry) → ((e : Entry) → (g e).patch ≡ e.patch) → (block : ℕ) → ((e : Entry) → In all e → is_flight e ≡ true → e.patch.block ≡ block → is_flight (g e) ≡ true)
    → Flying all block → Flying (map g all) block
keeps-flying g all patch block stays f = record {
  it = g f.it;
  inside = In-map g all f.it f.inside;
  flight = stays f.it f.inside f.flight f.here;
  here = ap (λ p. p.block) (patch f.it) ∙ f.here;
}

pub first_of_some : (es : List Entry) → es ≢ [] → (e : Entry) × In es e
first_of_some [] h = absurd (h refl)
first_of_some (x ∷ xs) h = (x, inl refl)

AreFlights-after_step : (blocks : ℕ) (st : State) (step : Step) → IsLegalStep blocks st step → IsSettled blocks st → AreFlights st → AreFlights (after_step st step)
AreFlights-after_step blocks st (Create block begin bytes after undo) legal s a = record {
  single = a.single;
  counted = a.counted;
  flying = λ f i. let x = a.flying f i in record { it = x.it; inside = In-to_push st.entries _ x.it x.inside; flight = x.flight; here = x.here };
}
AreFlights-after_step blocks st (Merge a b) legal s o = record {
  single = o.single;
  counted = o.counted;
  flying = λ f i. keeps-flying (joined (class_of st.entries a) (class_of st.entries b)) st.entries (patch-joined _ _) f.0
      (λ e k h here. rw (mark-joined (class_of st.entries a) (class_of st.entries b) e) h) (o.flying f i);
}
AreFlights-after_step blocks st (Send block) legal s o =
    let strange : (f : ℕ × ℕ) → In st.flights f → f.0 ≡ block → ⊥ = λ f i same.
    both_ways (has_flight st block) legal.0 (list_any-from (λ g. g.0 == block) st.flights f i (same_name f.0 block same)) in
    record {
      single = λ f g i j same. elim (In-pair_push st.flights (block, st.sends) f i) [
        | inl k ↦ elim (In-pair_push st.flights (block, st.sends) g j) [
          | inl l ↦ o.single f g k l same
          | inr e ↦ absurd (strange f k (same ∙ ap (λ p. p.0) (sym e)))
        ]
        | inr e ↦ elim (In-pair_push st.flights (block, st.sends) g j) [
          | inl l ↦ absurd (strange g l (sym same ∙ ap (λ p. p.0) (sym e)))
          | inr e2 ↦ sym e ∙ e2
        ]
      ];
      counted = λ f i. elim (In-pair_push st.flights (block, st.sends) f i) [
        | inl k ↦ let h : f.1 < st.sends = o.counted f k in omega arith
        | inr e ↦ let h : st.sends ≡ f.1 = ap (λ p. p.1) e in omega arith
      ];
      flying = λ f i. elim (In-pair_push st.flights (block, st.sends) f i) [
        | inl k ↦ keeps-flying (sent (ready st.entries block)) st.entries (patch-sent _) f.0
            (λ e l h here. elim (cases_Bool (has (ready st.entries block) e)) [ inl u ↦ rw u refl | inr u ↦ rw u h ]) (o.flying f k)
        | inr e ↦
            let first = first_of_some (ready st.entries block) legal.1 in
            let r = ready-In st.entries block (apart-from_Numbered 0 st.entries s.numbered) first.0 first.1 in
            let p = and_parts (is_memory first.0) (first.0.patch.block == block) r.1 in
            let u = In-has (ready st.entries block) first.0 first.1 in
            let flight : is_flight (sent (ready st.entries block) first.0) ≡ true = rw u refl in
            let at : first.0.patch.block ≡ block = grind (arith, nat_tests, p.1) in
            record {
              it = sent (ready st.entries block) first.0;
              inside = In-map (sent (ready st.entries block)) st.entries first.0 r.0;
              flight = flight;
              here = ap (λ q. q.block) (patch-sent (ready st.entries block) first.0) ∙ at ∙ ap (λ q. q.0) e;
            }
      ];
    }
AreFlights-after_step blocks st (Complete block) legal s o =
    let old : (f : ℕ × ℕ) → In (filter (λ g. not (g.0 == block)) st.flights) f → In st.flights f = λ f i. (filter-In (λ g. not (g.0 == block)) st.flights f i).0 in
    record {
      single = λ f g i j same. o.single f g (old f i) (old g j) same;
      counted = λ f i. o.counted f (old f i);
      flying = λ f i.
          let other : (f.0 == block) ≡ false = not-true (f.0 == block) (filter-In (λ g. not (g.0 == block)) st.flights f i).1 in
          keeps-flying (landed block) st.entries (patch-landed block) f.0
          (λ e k h here.
          let off : (e.patch.block == block) ≡ false = subst (λ n. (n == block) ≡ false) (sym here) other in
          rw (h, off) h)
          (o.flying f (old f i));
    }

AreFlights-after_steps : (blocks : ℕ) (st : State) (steps : List Step) → AreLegal blocks st steps → IsSettled blocks st → AreFlights st → AreFlights (after_steps st steps)
AreFlights-after_steps blocks st [] legal s o = o
AreFlights-after_steps blocks st (x ∷ xs) legal s o =
    AreFlights-after_steps blocks (after_step st x) xs legal.1 (IsSettled-after_step blocks st x legal.0 s) (AreFlights-after_step blocks st x legal.0 s o)

AreFlights-run : (run : Execution) → IsLegal run → AreFlights (state_of run)
AreFlights-run run legal = AreFlights-after_steps (length run.first) at_first run.steps legal.steps (settled_first (length run.first)) (record { single = λ f g i. absurd i; counted = λ f i. absurd i; flying = λ f i. absurd i })

pub one_flight : (run : Execution) (f g : ℕ × ℕ) → IsLegal run → Contains (state_of run).flights f → Contains (state_of run).flights g → f.0 ≡ g.0 → f ≡ g
one_flight run f g legal i j same = (AreFlights-run run legal).single f g (In-from_Contains _ f i) (In-from_Contains _ g j) same

pub flight_counted : (run : Execution) (f : ℕ × ℕ) → IsLegal run → Contains (state_of run).flights f → f.1 < (state_of run).sends
flight_counted run f legal i = (AreFlights-run run legal).counted f (In-from_Contains _ f i)

pub flight_holds : (run : Execution) (block : ℕ) → IsLegal run → IsTrue (has_flight (state_of run) block) → IsTrue (list_any (λ e. is_flight e && e.patch.block == block) (entries_of run))
flight_holds run block legal h =
    let f = list_any-at (λ g. g.0 == block) (state_of run).flights h in
    let x = (AreFlights-run run legal).flying f.0 f.1 in
    let at : f.0.0 ≡ block = grind (arith, nat_tests, f.2) in
    list_any-from (λ e. is_flight e && e.patch.block == block) (entries_of run) x.it x.inside (and_from _ _ x.flight (same_name x.it.patch.block block (x.here ∙ at)))
