-- The members of a class are of one block, and go to the disk together.
use Rattle.std.proofs.Common.{◌≡◌, ℕ, zero, suc, ◌+◌, ◌<◌, ◌≤◌, ◌∙◌, inl, inr, Bool, true, false, not, List, [], ◌∷◌, length, map, refl, sym, ap, arith, subst}
use Rattle.std.specs.Prelude.{◌==◌, ◌&&◌, ◌||◌, IsTrue, min, slice_get, Some, None}
use Rattle.std.proofs.lemmas.Bool.{cases_Bool, and_parts, or_cases, both_ways, not-true}
use Rattle.std.proofs.lemmas.Bool.Decides.{nat_tests}
use Rattle.patch_model.specs.Marked.{only_memory}
use Rattle.patch_model.specs.Entries.{AreApart, has-In, In-has}
use Rattle.patch_model.specs.Step.{Step, Create, Merge, Send, Complete}
use Rattle.patch_model.specs.Execution.{Execution}
use Rattle.patch_model.specs.Entry.{Entry, marks_flight, marks_durable, is_memory, is_flight, is_among, is_undoable}
use Rattle.patch_model.specs.Ready.{has, ready}
use Rattle.patch_model.specs.State.{State, fresh, joined, sent, landed, class_of, after_step, after_steps, at_first, entries_of}
use Rattle.patch_model.specs.Legal.{IsLegal, IsLegalStep, AreLegal, block_of_patch}
use Rattle.patch_model.specs.Crash.{AreWhole, crash_set}
use Rattle.patch_model.specs.Member.{In, In-from_Contains, Contains-from_In, map-In}
use Rattle.patch_model.specs.Unchanged.{class-landed, class-sent, patch-landed, patch-sent}
use Rattle.patch_model.proofs.Striking.{ready-largest, ready-In}
use Rattle.patch_model.proofs.Numbering.{Numbered, Numbered-after_step, apart-from_Numbered}
use Rattle.patch_model.proofs.Crashes.{In-push, Numbered-below}

-- two members of one class
pub record AreAlike (e f : Entry) : Type 0 where
  pub mark : e.mark ≡ f.mark
  pub block : e.patch.block ≡ f.patch.block
  pub hard : e.hard ≡ f.hard

pub record AreClasses (all : List Entry) : Type 0 where
  pub named : (e : Entry) → In all e → e.class ≤ e.patch.no
  pub alike : (e f : Entry) → In all e → In all f → e.class ≡ f.class → AreAlike e f

-- the patch of a number
pub at_number : (n : ℕ) (all : List Entry) (k : ℕ) → (P : Entry → Bool) → IsTrue (elim (slice_get all k) [ Some e ↦ P e | None ↦ false ])
    → (e : Entry) × In all e × (slice_get all k ≡ Some e) × (P e ≡ true)
at_number n [] k P h = absurd (cc)
at_number n (x ∷ xs) zero P h = (x, inl refl, refl, h)
at_number n (x ∷ xs) (suc k) P h = let r = at_number (n + 1) xs k P h in (r.0, inr r.1, r.2, r.3)

alike-sym : (e f : Entry) → AreAlike e f → AreAlike f e
alike-sym e f a = record { mark = sym a.mark; block = sym a.block; hard = sym a.hard }

-- a change of entries that leaves classes and patches, and keeps members alike
keeps-classes : (f : Entry → Entry) (all : List Entry) → ((e : Entry) → (f e).patch ≡ e.patch) → ((e : Entry) → (f e).class ≡ e.class)
    → ((e g : Entry) → In all e → In all g → e.class ≡ g.class → AreAlike e g → AreAlike (f e) (f g))
    → AreClasses all → AreClasses (map f all)
keeps-classes f all same class keeps o = record {
  named = λ y i. let r = map-In f all y i in
      let p : y.patch.no ≡ r.0.patch.no = ap (λ z. z.patch.no) (sym r.2) ∙ ap (λ q. q.no) (same r.0) in
      let c : y.class ≡ r.0.class = ap (λ z. z.class) (sym r.2) ∙ class r.0 in
      let old : r.0.class ≤ r.0.patch.no = o.named r.0 r.1 in omega arith;
  alike = λ y z i j e. let r = map-In f all y i in let s = map-In f all z j in
      let c : y.class ≡ r.0.class = ap (λ z. z.class) (sym r.2) ∙ class r.0 in
      let d : z.class ≡ s.0.class = ap (λ z. z.class) (sym s.2) ∙ class s.0 in
      let one : r.0.class ≡ s.0.class = sym c ∙ e ∙ d in
      subst (λ u. AreAlike u z) r.2 (subst (λ v. AreAlike (f r.0) v) s.2 (keeps r.0 s.0 r.1 s.1 one (o.alike r.0 s.0 r.1 s.1 one)));
}

module _ (all : List Entry) (block : ℕ) (apart : AreApart all) where
  pub goes_along : (e f : Entry) → In all e → In all f → e.class ≡ f.class → has (ready all block) e ≡ true → has (ready all block) f ≡ true
  goes_along e f i j same h =
      let in_set = has-In all (ready all block) e apart (λ x k. (ready-In all block apart x k).0) i h in
      In-has (ready all block) f (In-from_Contains _ f ((ready-largest all block apart).writable.whole e f (Contains-from_In _ e in_set) (Contains-from_In _ f j) (sym same)))

  alike-sent : (e f : Entry) → In all e → In all f → e.class ≡ f.class → AreAlike e f → AreAlike (sent (ready all block) e) (sent (ready all block) f)
  alike-sent e f i j same a = elim (cases_Bool (has (ready all block) e)) [
    | inl u ↦ rw (u, goes_along e f i j same u) (record { mark = refl; block = a.block; hard = a.hard })
    | inr u ↦ elim (cases_Bool (has (ready all block) f)) [
      | inl v ↦ absurd (both_ways (has (ready all block) e) u (goes_along f e j i (sym same) v))
      | inr v ↦ rw (u, v) a
    ]
  ]

alike-landed : (block : ℕ) (e f : Entry) → AreAlike e f → AreAlike (landed block e) (landed block f)
alike-landed block e f a =
    let test : (is_flight e && (e.patch.block == block)) ≡ (is_flight f && (f.patch.block == block)) =
    ap (λ m. marks_flight m && (e.patch.block == block)) a.mark ∙ ap (λ n. is_flight f && (n == block)) a.block in
    elim (cases_Bool (is_flight e && (e.patch.block == block))) [
      | inl u ↦ rw (u, sym test ∙ u) (record { mark = refl; block = a.block; hard = a.hard })
      | inr u ↦ rw (u, sym test ∙ u) a
    ]

module _ (all : List Entry) (a b : Entry) (in_a : In all a) (in_b : In all b) (o : AreClasses all) (pair : AreAlike a b) where
  -- a member of either class is like the first's
  like_first : (e : Entry) → In all e → ((e.class == a.class) || (e.class == b.class)) ≡ true → AreAlike e a
  like_first e i t = elim (or_cases (e.class == a.class) (e.class == b.class) t) [
    | inl u ↦ o.alike e a i in_a (grind (arith, nat_tests))
    | inr u ↦ let r = o.alike e b i in_b (grind (arith, nat_tests)) in
        record { mark = r.mark ∙ sym pair.mark; block = r.block ∙ sym pair.block; hard = r.hard ∙ sym pair.hard }
  ]

  strange : (e : Entry) → ((e.class == a.class) || (e.class == b.class)) ≡ false → min a.class b.class ≡ e.class → ⊥
  strange e t same = grind (arith, nat_tests)

  AreClasses-joined : AreClasses (map (joined a.class b.class) all)
  AreClasses-joined = record {
    named = λ y i. let r = map-In (joined a.class b.class) all y i in
        subst (λ z. z.class ≤ z.patch.no) r.2 (named_joined r.0 r.1);
    alike = λ y z i j e. let r = map-In (joined a.class b.class) all y i in let s = map-In (joined a.class b.class) all z j in
        let e2 : (joined a.class b.class r.0).class ≡ (joined a.class b.class s.0).class = ap (λ u. u.class) r.2 ∙ e ∙ ap (λ u. u.class) (sym s.2) in
        subst (λ u. AreAlike u z) r.2 (subst (λ v. AreAlike (joined a.class b.class r.0) v) s.2 (alike_joined r.0 s.0 r.1 s.1 e2));
  }
    where
      named_joined : (e : Entry) → In all e → (joined a.class b.class e).class ≤ (joined a.class b.class e).patch.no
      named_joined e i = let old : e.class ≤ e.patch.no = o.named e i in elim (cases_Bool ((e.class == a.class) || (e.class == b.class))) [
        | inl u ↦ rw u (low e u old)
        | inr u ↦ rw u old
      ]
        where
          low : (e : Entry) → ((e.class == a.class) || (e.class == b.class)) ≡ true → e.class ≤ e.patch.no → min a.class b.class ≤ e.patch.no
          low e u old = grind (arith, nat_tests)

      alike_joined : (e f : Entry) → In all e → In all f → (joined a.class b.class e).class ≡ (joined a.class b.class f).class → AreAlike (joined a.class b.class e) (joined a.class b.class f)
      alike_joined e f i j = elim (cases_Bool ((e.class == a.class) || (e.class == b.class))) [
        | inl u ↦ elim (cases_Bool ((f.class == a.class) || (f.class == b.class))) [
          | inl v ↦ let x = like_first e i u in let y = like_first f j v in
              rw (u, v) (λ same. record { mark = x.mark ∙ sym y.mark; block = x.block ∙ sym y.block; hard = x.hard ∙ sym y.hard })
          | inr v ↦ rw (u, v) (λ same. absurd (strange f v same))
        ]
        | inr u ↦ elim (cases_Bool ((f.class == a.class) || (f.class == b.class))) [
          | inl v ↦ rw (u, v) (λ same. absurd (strange e u (sym same)))
          | inr v ↦ rw (u, v) (λ same. o.alike e f i j same)
        ]
      ]

pub AreClasses-after_step : (blocks : ℕ) (st : State) (step : Step) → Numbered 0 st.entries → IsLegalStep blocks st step → AreClasses st.entries → AreClasses (after_step st step).entries
AreClasses-after_step blocks st (Send block) n legal o =
    keeps-classes (sent (ready st.entries block)) st.entries (patch-sent _) (class-sent _) (alike-sent st.entries block (apart-from_Numbered 0 st.entries n)) o
AreClasses-after_step blocks st (Complete block) n legal o =
    keeps-classes (landed block) st.entries (patch-landed block) (class-landed block) (λ e g i j same a. alike-landed block e g a) o
AreClasses-after_step blocks st (Create block begin bytes after undo) n legal o =
    let new : Entry = fresh st.entries (record { no = length st.entries; block = block; start = begin; bytes = bytes; after = after; undo = undo }) in
    let strange : (e : Entry) → In st.entries e → e.class ≡ length st.entries → ⊥ = λ e i same.
    let a : e.class ≤ e.patch.no = o.named e i in let b : e.patch.no < 0 + length st.entries = Numbered-below 0 st.entries n e i in omega arith in
    record {
      named = λ e i. elim (In-push st.entries new e i) [ inl g ↦ o.named e g | inr same ↦ subst (λ x. x.class ≤ x.patch.no) same (let h : length st.entries ≤ length st.entries = omega arith in h) ];
      alike = λ e f i j one. elim (In-push st.entries new e i) [
        | inl g ↦ elim (In-push st.entries new f j) [
          | inl k ↦ o.alike e f g k one
          | inr same ↦ absurd (strange e g (one ∙ ap (λ x. x.class) (sym same)))
        ]
        | inr same ↦ elim (In-push st.entries new f j) [
          | inl k ↦ absurd (strange f k (sym one ∙ ap (λ x. x.class) (sym same)))
          | inr same2 ↦ subst (λ x. AreAlike x f) same (subst (λ y. AreAlike new y) same2 (record { mark = refl; block = refl; hard = refl }))
        ]
      ];
    }
AreClasses-after_step blocks st (Merge a b) n legal o =
    let x = at_number 0 st.entries a is_undoable legal.undoable_a in
    let y = at_number 0 st.entries b is_undoable legal.undoable_b in
    let p = and_parts (is_memory x.0) (not x.0.hard) x.3 in
    let q = and_parts (is_memory y.0) (not y.0.hard) y.3 in
    let name_a : class_of st.entries a ≡ x.0.class = rw (x.2, class_of) refl in
    let name_b : class_of st.entries b ≡ y.0.class = rw (y.2, class_of) refl in
    let block_a : block_of_patch st.entries a ≡ x.0.patch.block = rw (x.2, block_of_patch) refl in
    let block_b : block_of_patch st.entries b ≡ y.0.patch.block = rw (y.2, block_of_patch) refl in
    let pair : AreAlike x.0 y.0 = record {
      mark = only_memory x.0.mark p.0 ∙ sym (only_memory y.0.mark q.0);
      block = sym block_a ∙ legal.one_block ∙ block_b;
      hard = not-true x.0.hard p.1 ∙ sym (not-true y.0.hard q.1);
    } in
    subst (λ m. AreClasses (map (joined m (class_of st.entries b)) st.entries)) (sym name_a)
    (subst (λ m. AreClasses (map (joined x.0.class m) st.entries)) (sym name_b)
    (AreClasses-joined st.entries x.0 y.0 x.1 y.1 o pair))

AreClasses-after_steps : (blocks : ℕ) (st : State) (steps : List Step) → Numbered 0 st.entries → AreLegal blocks st steps → AreClasses st.entries → AreClasses (after_steps st steps).entries
AreClasses-after_steps blocks st [] n legal o = o
AreClasses-after_steps blocks st (s ∷ ss) n legal o =
    AreClasses-after_steps blocks (after_step st s) ss (Numbered-after_step st s n) legal.1 (AreClasses-after_step blocks st s n legal.0 o)

pub AreClasses-run : (run : Execution) → IsLegal run → AreClasses (entries_of run)
AreClasses-run run legal = AreClasses-after_steps (length run.first) at_first run.steps tt legal.steps (record { named = λ e i. absurd i; alike = λ e f i. absurd i })

pub crash_sets_whole : (run : Execution) (landed : List ℕ) → IsLegal run → AreWhole (entries_of run) (crash_set landed)
crash_sets_whole run blocks legal = λ e f i j same h.
    let a = (AreClasses-run run legal).alike e f (In-from_Contains _ e i) (In-from_Contains _ f j) same in
    subst (λ m. (marks_durable m || (marks_flight m && is_among blocks f.patch.block)) ≡ true) a.mark
    (subst (λ n. (marks_durable e.mark || (marks_flight e.mark && is_among blocks n)) ≡ true) a.block h)
