-- A class has no gap between its patches, and its name is the number of one of them.
use Rattle.std.proofs.Common.{◌≡◌, ℕ, ◌+◌, ◌<◌, ◌≤◌, ◌⊎◌, ◌∙◌, inl, inr, true, List, [], ◌∷◌, ◌++◌, length, map, refl, sym, ap, arith, subst}
use Rattle.std.specs.Prelude.{nat_lt, nat_le, ◌==◌, ◌&&◌, ◌||◌, min, IsTrue, Contains}
use Rattle.std.specs.List.{list_any}
use Rattle.std.proofs.lemmas.Bool.{cases_Bool, and_parts, and_from}
use Rattle.std.proofs.lemmas.Bool.Decides.{nat_tests}
use Rattle.patch_model.specs.Patch.{Patch}
use Rattle.patch_model.specs.Step.{Step, Create, Merge, Send, Complete}
use Rattle.patch_model.specs.Pile.{end, covers}
use Rattle.patch_model.specs.Execution.{Execution}
use Rattle.patch_model.specs.Entry.{Entry}
use Rattle.patch_model.specs.Ready.{ready}
use Rattle.patch_model.specs.State.{State, fresh, joined, sent, landed, class_of, after_step, after_steps, at_first, entries_of}
use Rattle.patch_model.specs.Legal.{IsLegal, IsLegalStep, AreLegal, touch}
use Rattle.patch_model.specs.Orderly.{NamesIt, CoversIt}
use Rattle.patch_model.specs.Member.{In, In-from_Contains, Contains-from_In, list_any-at, list_any-from, In-map, map-In}
use Rattle.patch_model.specs.Unchanged.{class-landed, class-sent, patch-joined, patch-landed, patch-sent}
use Rattle.patch_model.proofs.Numbering.{Numbered}
use Rattle.patch_model.proofs.Crashes.{In-push, Numbered-below}
use Rattle.patch_model.proofs.Classes.{AreClasses}
use Rattle.patch_model.proofs.Marks.{IsSettled, IsSettled-after_step, IsSettled-run, settled_first}
use Rattle.patch_model.proofs.Rings.{same_name, class-joined, renamed, renamed_same, Either, either_test, neither}

-- a patch of the class of this name that changes the byte
record Covering (all : List Entry) (c place : ℕ) : Type 0 where
  it : Entry
  inside : In all it
  name : it.class ≡ c
  covered : covers it.patch place ≡ true

-- the patch whose number the name is
record Named (all : List Entry) (c : ℕ) : Type 0 where
  it : Entry
  inside : In all it
  name : it.class ≡ c
  number : it.patch.no ≡ c

record AreWholeSpans (all : List Entry) : Type 0 where
  full : (e g : Entry) → In all e → In all g → e.class ≡ g.class → (place : ℕ) → e.patch.start ≤ place → place < end g.patch → Covering all e.class place
  named : (e : Entry) → In all e → Named all e.class

pub In-to_push : (xs : List Entry) (y x : Entry) → In xs x → In (xs ++ y ∷ []) x
In-to_push [] y x i = absurd i
In-to_push (z ∷ zs) y x (inl e) = inl e
In-to_push (z ∷ zs) y x (inr i) = inr (In-to_push zs y x i)

In-last : (xs : List Entry) (y : Entry) → In (xs ++ y ∷ []) y
In-last [] y = inl refl
In-last (z ∷ zs) y = inr (In-last zs y)

-- a change that leaves patches and classes
keeps-spans : (g : Entry → Entry) (all : List Entry) → ((e : Entry) → (g e).patch ≡ e.patch) → ((e : Entry) → (g e).class ≡ e.class) → AreWholeSpans all → AreWholeSpans (map g all)
keeps-spans g all patch class s = record {
  full = λ x y i j same place from to.
      let r = map-In g all x i in let q = map-In g all y j in
      let px : r.0.patch ≡ x.patch = sym (patch r.0) ∙ ap (λ z. z.patch) r.2 in
      let py : q.0.patch ≡ y.patch = sym (patch q.0) ∙ ap (λ z. z.patch) q.2 in
      let cx : r.0.class ≡ x.class = sym (class r.0) ∙ ap (λ z. z.class) r.2 in
      let cy : q.0.class ≡ y.class = sym (class q.0) ∙ ap (λ z. z.class) q.2 in
      let f = s.full r.0 q.0 r.1 q.1 (cx ∙ same ∙ sym cy) place (subst (λ p. p.start ≤ place) (sym px) from) (subst (λ p. place < end p) (sym py) to) in
      record { it = g f.it; inside = In-map g all f.it f.inside; name = class f.it ∙ f.name ∙ cx; covered = subst (λ p. covers p place ≡ true) (sym (patch f.it)) f.covered };
  named = λ x i.
      let r = map-In g all x i in
      let cx : r.0.class ≡ x.class = sym (class r.0) ∙ ap (λ z. z.class) r.2 in
      let f = s.named r.0 r.1 in
      record { it = g f.it; inside = In-map g all f.it f.inside; name = class f.it ∙ f.name ∙ cx; number = ap (λ p. p.no) (patch f.it) ∙ f.number ∙ cx };
}

-- a new patch is a class of its own
spans-push : (es : List Entry) (new : Entry) → Numbered 0 es → AreClasses es → new.patch.no ≡ length es → new.class ≡ length es → AreWholeSpans es → AreWholeSpans (es ++ new ∷ [])
spans-push es new n c at own s =
    let below : (e : Entry) → In es e → e.class < length es = λ e i. let h : e.class ≤ e.patch.no = c.named e i in let k : e.patch.no < 0 + length es = Numbered-below 0 es n e i in omega arith in
    record {
      full = λ x y i j same place from to. elim (In-push es new x i) [
        | inl g ↦ elim (In-push es new y j) [
          | inl k ↦ let f = s.full x y g k same place from to in record { it = f.it; inside = In-to_push es new f.it f.inside; name = f.name; covered = f.covered }
          | inr e ↦ let low : x.class < length es = below x g in let eq : new.class ≡ y.class = ap (λ z. z.class) e in absurd (omega arith)
        ]
        | inr e ↦ elim (In-push es new y j) [
          | inl k ↦ let low : y.class < length es = below y k in let eq : new.class ≡ x.class = ap (λ z. z.class) e in absurd (omega arith)
          | inr e2 ↦
              let from' : new.patch.start ≤ place = subst (λ z. z.patch.start ≤ place) (sym e) from in
              let to' : place < end new.patch = subst (λ z. place < end z.patch) (sym e2) to in
              let covered : covers new.patch place ≡ true = and_from (nat_le new.patch.start place) (nat_lt place (end new.patch)) (grind (arith, nat_tests)) (grind (arith, nat_tests)) in
              record { it = new; inside = In-last es new; name = ap (λ z. z.class) e; covered = covered }
        ]
      ];
      named = λ x i. elim (In-push es new x i) [
        | inl g ↦ let f = s.named x g in record { it = f.it; inside = In-to_push es new f.it f.inside; name = f.name; number = f.number }
        | inr e ↦ let eq : new.class ≡ x.class = ap (λ z. z.class) e in record { it = new; inside = In-last es new; name = eq; number = at ∙ sym own ∙ eq }
      ];
    }

-- two classes that touch are one without a gap
module _ (all : List Entry) (a b : ℕ) (s : AreWholeSpans all) (x y : Entry) (in_x : In all x) (in_y : In all y) (name_x : x.class ≡ a) (name_y : y.class ≡ b)
    (near_x : x.patch.start ≤ end y.patch) (near_y : y.patch.start ≤ end x.patch) where
  -- of the one class up to the place, then of the other
  abbrev Covered : ℕ → Type 0
  Covered place = (f : Entry) × In all f × (covers f.patch place ≡ true) × Either a b f.class

  of_either : (e : Entry) → Either a b e.class → (place : ℕ) → Covering all e.class place → Covered place
  of_either e (inl same) place f = (f.it, f.inside, f.covered, inl (f.name ∙ same))
  of_either e (inr same) place f = (f.it, f.inside, f.covered, inr (f.name ∙ same))

  over : (e g u v : Entry) → In all e → In all g → In all u → In all v → e.class ≡ u.class → v.class ≡ g.class → Either a b e.class → Either a b g.class
      → v.patch.start ≤ end u.patch → (place : ℕ) → e.patch.start ≤ place → place < end g.patch → Covered place
  over e g u v i j k l same same2 in_e in_g near place from to = elim (cases_Bool (nat_lt place (end u.patch))) [
    | inl h ↦ let less : place < end u.patch = grind (arith, nat_tests) in of_either e in_e place (s.full e u i k same place from less)
    | inr h ↦ let more : v.patch.start ≤ place = grind (arith, nat_tests) in of_either v (subst (λ n. Either a b n) (sym same2) in_g) place (s.full v g l j same2 place more to)
  ]

  both : (e g : Entry) → In all e → In all g → Either a b e.class → Either a b g.class → (place : ℕ) → e.patch.start ≤ place → place < end g.patch → Covered place
  both e g i j (inl p) (inl q) place from to = of_either e (inl p) place (s.full e g i j (p ∙ sym q) place from to)
  both e g i j (inr p) (inr q) place from to = of_either e (inr p) place (s.full e g i j (p ∙ sym q) place from to)
  both e g i j (inl p) (inr q) place from to = over e g x y i j in_x in_y (p ∙ sym name_x) (name_y ∙ sym q) (inl p) (inr q) near_y place from to
  both e g i j (inr p) (inl q) place from to = over e g y x i j in_y in_x (p ∙ sym name_y) (name_x ∙ sym q) (inr p) (inl q) near_x place from to

  from_either : (e : Entry) → Either a b e.class → (joined a b e).class ≡ min a b
  from_either e h = class-joined a b e ∙ elim (cases_Bool ((e.class == a) || (e.class == b))) [ inl u ↦ rw u refl | inr u ↦ absurd (neither a b e.class u h) ]

  spans_full : (e g : Entry) → In all e → In all g → renamed a b e.class ≡ renamed a b g.class → (place : ℕ) → e.patch.start ≤ place → place < end g.patch
      → Covering (map (joined a b) all) (joined a b e).class place
  spans_full e g i j same place from to = elim (renamed_same a b e.class g.class same) [
    | inl one ↦ let f = s.full e g i j one place from to in
        record {
          it = joined a b f.it;
          inside = In-map (joined a b) all f.it f.inside;
          name = class-joined a b f.it ∙ ap (renamed a b) f.name ∙ sym (class-joined a b e);
          covered = subst (λ p. covers p place ≡ true) (sym (patch-joined a b f.it)) f.covered;
        }
    | inr k ↦ let f = both e g i j k.0 k.1 place from to in
        record {
          it = joined a b f.0;
          inside = In-map (joined a b) all f.0 f.1;
          name = from_either f.0 f.3 ∙ sym (from_either e k.0);
          covered = subst (λ p. covers p place ≡ true) (sym (patch-joined a b f.0)) f.2;
        }
  ]

  -- the name of the one that has the smaller name
  smaller : (min a b ≡ a) ⊎ (min a b ≡ b)
  smaller = elim (cases_Bool (nat_le a b)) [ inl u ↦ inl (grind (arith, nat_tests)) | inr u ↦ inr (grind (arith, nat_tests)) ]

  named_joined : (c : ℕ) → Either a b c → (z : Entry) → In all z → z.class ≡ c → min a b ≡ c → (f : Entry) × In all f × Either a b f.class × (f.patch.no ≡ min a b)
  named_joined c e z i name least = let f = s.named z i in
      (f.it, f.inside, subst (λ n. Either a b n) (sym (f.name ∙ name)) e, f.number ∙ name ∙ sym least)

  least_named : (f : Entry) × In all f × Either a b f.class × (f.patch.no ≡ min a b)
  least_named = elim smaller [
    | inl h ↦ named_joined a (inl refl) x in_x name_x h
    | inr h ↦ named_joined b (inr refl) y in_y name_y h
  ]

  spans_named : (e : Entry) → In all e → Named (map (joined a b) all) (joined a b e).class
  spans_named e i = elim (cases_Bool ((e.class == a) || (e.class == b))) [
    | inl u ↦ let f = least_named in let h = either_test a b e.class u in
        record {
          it = joined a b f.0;
          inside = In-map (joined a b) all f.0 f.1;
          name = from_either f.0 f.2 ∙ sym (from_either e h);
          number = ap (λ p. p.no) (patch-joined a b f.0) ∙ f.3 ∙ sym (from_either e h);
        }
    | inr u ↦ let f = s.named e i in
        let same : (joined a b e).class ≡ e.class = rw u refl in
        record {
          it = joined a b f.it;
          inside = In-map (joined a b) all f.it f.inside;
          name = class-joined a b f.it ∙ ap (renamed a b) f.name ∙ sym (class-joined a b e);
          number = ap (λ p. p.no) (patch-joined a b f.it) ∙ f.number ∙ sym same;
        }
  ]

  spans-joined : AreWholeSpans (map (joined a b) all)
  spans-joined = record {
    full = λ z v i j same place from to.
        let r = map-In (joined a b) all z i in let q = map-In (joined a b) all v j in
        let pz : r.0.patch ≡ z.patch = sym (patch-joined a b r.0) ∙ ap (λ u. u.patch) r.2 in
        let pv : q.0.patch ≡ v.patch = sym (patch-joined a b q.0) ∙ ap (λ u. u.patch) q.2 in
        let one : renamed a b r.0.class ≡ renamed a b q.0.class = sym (class-joined a b r.0) ∙ ap (λ u. u.class) r.2 ∙ same ∙ sym (ap (λ u. u.class) q.2) ∙ class-joined a b q.0 in
        subst (λ u. Covering (map (joined a b) all) u.class place) r.2
        (spans_full r.0 q.0 r.1 q.1 one place (subst (λ p. p.start ≤ place) (sym pz) from) (subst (λ p. place < end p) (sym pv) to));
    named = λ z i. let r = map-In (joined a b) all z i in subst (λ u. Named (map (joined a b) all) u.class) r.2 (spans_named r.0 r.1);
  }

-- the two patches by which two classes touch
pub touch-at : (all : List Entry) (a b : ℕ) → touch all a b ≡ true
    → (x : Entry) × (y : Entry) × In all x × In all y × (x.class ≡ a) × (y.class ≡ b) × (x.patch.start ≤ end y.patch) × (y.patch.start ≤ end x.patch)
touch-at all a b h =
    let x = list_any-at (λ e. (e.class == a) && list_any (λ f. (f.class == b) && nat_le e.patch.start (end f.patch) && nat_le f.patch.start (end e.patch)) all) all h in
    let p = and_parts (x.0.class == a) (list_any (λ f. (f.class == b) && nat_le x.0.patch.start (end f.patch) && nat_le f.patch.start (end x.0.patch)) all) x.2 in
    let y = list_any-at (λ f. (f.class == b) && nat_le x.0.patch.start (end f.patch) && nat_le f.patch.start (end x.0.patch)) all p.1 in
    let q = and_parts ((y.0.class == b) && nat_le x.0.patch.start (end y.0.patch)) (nat_le y.0.patch.start (end x.0.patch)) y.2 in
    let r = and_parts (y.0.class == b) (nat_le x.0.patch.start (end y.0.patch)) q.0 in
    (x.0, y.0, x.1, y.1, grind (arith, nat_tests, p.0), grind (arith, nat_tests, r.0), grind (arith, nat_tests, r.1), grind (arith, nat_tests, q.1))

pub touch-from : (all : List Entry) (a b : ℕ) (x y : Entry) → In all x → In all y → x.class ≡ a → y.class ≡ b → x.patch.start ≤ end y.patch → y.patch.start ≤ end x.patch → touch all a b ≡ true
touch-from all a b x y i j name name2 near near2 =
    let first : (nat_le x.patch.start (end y.patch)) ≡ true = grind (arith, nat_tests) in
    let second : (nat_le y.patch.start (end x.patch)) ≡ true = grind (arith, nat_tests) in
    let inner : list_any (λ f. f.class == b && nat_le x.patch.start (end f.patch) && nat_le f.patch.start (end x.patch)) all ≡ true =
    list_any-from (λ f. f.class == b && nat_le x.patch.start (end f.patch) && nat_le f.patch.start (end x.patch)) all y j (and_from _ _ (and_from _ _ (same_name y.class b name2) first) second) in
    list_any-from (λ e. e.class == a && list_any (λ f. f.class == b && nat_le e.patch.start (end f.patch) && nat_le f.patch.start (end e.patch)) all) all x i
    (and_from _ _ (same_name x.class a name) inner)

spans-after_step : (blocks : ℕ) (st : State) (step : Step) → IsLegalStep blocks st step → IsSettled blocks st → AreWholeSpans st.entries → AreWholeSpans (after_step st step).entries
spans-after_step blocks st (Create block begin bytes after undo) legal t s =
    let new : Entry = fresh st.entries (record { no = length st.entries; block = block; start = begin; bytes = bytes; after = after; undo = undo }) in
    spans-push st.entries new t.numbered t.classes refl refl s
spans-after_step blocks st (Merge a b) legal t s =
    let m = touch-at st.entries (class_of st.entries a) (class_of st.entries b) legal.near in
    spans-joined st.entries (class_of st.entries a) (class_of st.entries b) s m.0 m.1 m.2 m.3 m.4 m.5 m.6 m.7
spans-after_step blocks st (Send block) legal t s = keeps-spans (sent (ready st.entries block)) st.entries (patch-sent _) (class-sent _) s
spans-after_step blocks st (Complete block) legal t s = keeps-spans (landed block) st.entries (patch-landed block) (class-landed block) s

spans-after_steps : (blocks : ℕ) (st : State) (steps : List Step) → AreLegal blocks st steps → IsSettled blocks st → AreWholeSpans st.entries → AreWholeSpans (after_steps st steps).entries
spans-after_steps blocks st [] legal t s = s
spans-after_steps blocks st (x ∷ xs) legal t s =
    spans-after_steps blocks (after_step st x) xs legal.1 (IsSettled-after_step blocks st x legal.0 t) (spans-after_step blocks st x legal.0 t s)

spans-run : (run : Execution) → IsLegal run → AreWholeSpans (entries_of run)
spans-run run legal = spans-after_steps (length run.first) at_first run.steps legal.steps (settled_first (length run.first)) (record { full = λ e g i. absurd i; named = λ e i. absurd i })

pub no_gap : (run : Execution) (e g : Entry) (place : ℕ) → IsLegal run → Contains (entries_of run) e → Contains (entries_of run) g → e.class ≡ g.class
    → e.patch.start ≤ place → place < end g.patch → (f : Entry) × CoversIt (entries_of run) e.class place f
no_gap run e g place legal i j same from to =
    let f = (spans-run run legal).full e g (In-from_Contains _ e i) (In-from_Contains _ g j) same place from to in
    (f.it, record { inside = Contains-from_In _ f.it f.inside; name = f.name; covered = f.covered })

pub least_name : (run : Execution) (e : Entry) → IsLegal run → Contains (entries_of run) e → e.class ≤ e.patch.no
least_name run e legal i = (IsSettled-run run legal).classes.named e (In-from_Contains _ e i)

pub own_name : (run : Execution) (e : Entry) → IsLegal run → Contains (entries_of run) e → (f : Entry) × NamesIt (entries_of run) e.class f
own_name run e legal i =
    let f = (spans-run run legal).named e (In-from_Contains _ e i) in
    (f.it, record { inside = Contains-from_In _ f.it f.inside; name = f.name; number = f.number })

-- two classes touch where the one doesn't begin behind the end of the other, nor the other behind the end of the one
pub spans_touch : (run : Execution) (e e2 g g2 : Entry) → IsLegal run → Contains (entries_of run) e → Contains (entries_of run) e2 → Contains (entries_of run) g → Contains (entries_of run) g2
    → e.class ≡ e2.class → g.class ≡ g2.class → e.patch.start ≤ end g2.patch → g.patch.start ≤ end e2.patch → IsTrue (touch (entries_of run) e.class g.class)
spans_touch run e e2 g g2 legal i i2 j j2 same same2 near near2 = elim (cases_Bool (nat_le e.patch.start g.patch.start)) [
  | inl u ↦ elim (cases_Bool (nat_lt g.patch.start (end e2.patch))) [
    | inl v ↦
        let low : e.patch.start ≤ g.patch.start = grind (arith, nat_tests, u) in
        let less : g.patch.start < end e2.patch = grind (arith, nat_tests, v) in
        let x = s.full e e2 (In-from_Contains _ e i) (In-from_Contains _ e2 i2) same g.patch.start low less in
        let p = covers-parts x.it.patch g.patch.start x.covered in
        by x.it g x.inside (In-from_Contains _ g j) x.name refl (omega arith) (omega arith)
    | inr v ↦
        let at : end e2.patch ≤ g.patch.start = grind (arith, nat_tests, v) in
        by e2 g (In-from_Contains _ e2 i2) (In-from_Contains _ g j) (sym same) refl (omega arith) (omega arith)
  ]
  | inr u ↦ elim (cases_Bool (nat_lt e.patch.start (end g2.patch))) [
    | inl v ↦
        let low : g.patch.start ≤ e.patch.start = grind (arith, nat_tests, u) in
        let less : e.patch.start < end g2.patch = grind (arith, nat_tests, v) in
        let x = s.full g g2 (In-from_Contains _ g j) (In-from_Contains _ g2 j2) same2 e.patch.start low less in
        let p = covers-parts x.it.patch e.patch.start x.covered in
        by e x.it (In-from_Contains _ e i) x.inside refl x.name (omega arith) (omega arith)
    | inr v ↦
        let at : end g2.patch ≤ e.patch.start = grind (arith, nat_tests, v) in
        by e g2 (In-from_Contains _ e i) (In-from_Contains _ g2 j2) refl (sym same2) (omega arith) (omega arith)
  ]
]
  where
    s : AreWholeSpans (entries_of run)
    s = spans-run run legal

    covers-parts : (p : Patch) (place : ℕ) → covers p place ≡ true → (p.start ≤ place) × (place < end p)
    covers-parts p place h = let q = and_parts (nat_le p.start place) (nat_lt place (end p)) h in (grind (arith, nat_tests, q.0), grind (arith, nat_tests, q.1))

    by : (x y : Entry) → In (entries_of run) x → In (entries_of run) y → x.class ≡ e.class → y.class ≡ g.class → x.patch.start ≤ end y.patch → y.patch.start ≤ end x.patch
        → touch (entries_of run) e.class g.class ≡ true
    by x y k l name name2 a b = touch-from (entries_of run) e.class g.class x y k l name name2 a b
