-- How far a patch's mark lets those go that it depends on, and that what is in flight has a flight.
use Rattle.std.proofs.Common.{◌≡◌, ℕ, ◌+◌, ◌<◌, ◌⊎◌, ◌∙◌, inl, inr, Bool, true, false, List, [], ◌∷◌, ◌++◌, length, map, refl, sym, ap, arith, subst}
use Rattle.std.specs.Prelude.{◌==◌, ◌&&◌, ◌||◌, not, IsTrue, Contains, filter}
use Rattle.std.specs.List.{list_any}
use Rattle.std.proofs.lemmas.Bool.{cases_Bool, and_parts, and_from, or_cases, both_ways}
use Rattle.std.proofs.lemmas.Bool.Decides.{nat_tests}
use Rattle.patch_model.specs.Entries.{AreApart, has-In}
use Rattle.patch_model.specs.Patch.{Patch}
use Rattle.patch_model.specs.Step.{Step, Create, Merge, Send, Complete}
use Rattle.patch_model.specs.declared.patches.Undo.{Undo}
use Rattle.patch_model.specs.declared.patches.Undo.TheVariants.{Keep, MayDrop}
use Rattle.patch_model.specs.Execution.{Execution}
use Rattle.patch_model.specs.Entry.{Entry, is_memory, is_flight, is_durable}
use Rattle.patch_model.specs.Dependency.{depends_directly}
use Rattle.patch_model.specs.Ready.{has, ready}
use Rattle.patch_model.specs.State.{State, is_made_hard, fresh, joined, sent, landed, class_of, after_step, after_steps, at_first, state_of, entries_of, has_flight}
use Rattle.patch_model.specs.Legal.{IsLegal, IsLegalStep, AreLegal}
use Rattle.patch_model.specs.Orderly.{IsUnder}
use Rattle.patch_model.specs.Member.{In, In-from_Contains, In-filter, list_all-at, list_any-at, list_any-from, map-In}
use Rattle.patch_model.specs.Unchanged.{hard-joined, hard-landed, hard-sent, mark-joined, patch-joined, patch-landed, patch-sent}
use Rattle.patch_model.proofs.Striking.{ready-In}
use Rattle.patch_model.proofs.Numbering.{Numbered, Numbered-after_step, apart-from_Numbered}
use Rattle.patch_model.proofs.Crashes.{IsOrdered, IsOrdered-after_step, In-push, Numbered-below, depends-earlier, not_both}
use Rattle.patch_model.proofs.Classes.{AreClasses, AreClasses-after_step}

-- what a hard patch depends on is durable, or hard and of its block
abbrev pub IsHardUnder : Entry → Entry → Type 0
IsHardUnder e f = e.hard ≡ true → (is_durable f ≡ true) ⊎ ((f.hard ≡ true) × (f.patch.block ≡ e.patch.block))

abbrev pub AreHardUnder : List Entry → Type 0
AreHardUnder all = (e f : Entry) → In all e → In all f → depends_directly e.patch f.patch ≡ true → IsHardUnder e f

-- a change that leaves patches and hardness, and takes nothing from the disk
keeps-hard : (g : Entry → Entry) (all : List Entry) → ((e : Entry) → (g e).patch ≡ e.patch) → ((e : Entry) → (g e).hard ≡ e.hard)
    → ((e : Entry) → In all e → is_durable e ≡ true → is_durable (g e) ≡ true) → AreHardUnder all → AreHardUnder (map g all)
keeps-hard g all same hard stays o = λ y z i j d h.
    let r = map-In g all y i in let s = map-In g all z j in
    let eq : y.patch ≡ r.0.patch = ap (λ u. u.patch) (sym r.2) ∙ same r.0 in
    let eq2 : z.patch ≡ s.0.patch = ap (λ u. u.patch) (sym s.2) ∙ same s.0 in
    let d' : depends_directly r.0.patch s.0.patch ≡ true = subst (λ p. depends_directly p s.0.patch ≡ true) eq (subst (λ q. depends_directly y.patch q ≡ true) eq2 d) in
    let hy : r.0.hard ≡ true = sym (hard r.0) ∙ ap (λ u. u.hard) r.2 ∙ h in
    elim (o r.0 s.0 r.1 s.1 d' hy) [
      | inl done ↦ inl (subst (λ u. is_durable u ≡ true) s.2 (stays s.0 s.1 done))
      | inr k ↦ inr (sym (ap (λ u. u.hard) s.2) ∙ hard s.0 ∙ k.0, ap (λ p. p.block) eq2 ∙ k.1 ∙ sym (ap (λ p. p.block) eq))
    ]

durable-joined : (a b : ℕ) (e : Entry) → is_durable e ≡ true → is_durable (joined a b e) ≡ true
durable-joined a b e h = rw (mark-joined a b e) h

durable-landed : (block : ℕ) (e : Entry) → is_durable e ≡ true → is_durable (landed block e) ≡ true
durable-landed block e h = elim (cases_Bool (is_flight e && (e.patch.block == block))) [ inl u ↦ rw u refl | inr u ↦ rw u h ]

module _ (all : List Entry) (block : ℕ) (apart : AreApart all) where
  -- what a send takes is in memory, and of its block
  pub sent_from : (e : Entry) → In all e → has (ready all block) e ≡ true → (is_memory e ≡ true) × ((e.patch.block == block) ≡ true)
  sent_from e i h = let r = ready-In all block apart e (has-In all (ready all block) e apart (λ x k. (ready-In all block apart x k).0) i h) in and_parts _ _ r.1

  durable-sent : (e : Entry) → In all e → is_durable e ≡ true → is_durable (sent (ready all block) e) ≡ true
  durable-sent e i h = elim (cases_Bool (has (ready all block) e)) [
    | inl u ↦ absurd (not_both e.mark (sent_from e i u).0 h)
    | inr u ↦ rw u h
  ]

pub never : false ≡ true → ⊥
never h = cc

-- what a patch that is made hard asks of another
abbrev hard_test : List Entry → Patch → Entry → Bool
hard_test all p f = not (depends_directly p f.patch) || is_durable f || (f.hard && (f.patch.block == p.block))

hard_at : (all : List Entry) (p : Patch) (f : Entry) → hard_test all p f ≡ true → depends_directly p f.patch ≡ true
    → (is_durable f ≡ true) ⊎ ((f.hard ≡ true) × (f.patch.block ≡ p.block))
hard_at all p f t d = elim (or_cases (is_durable f) (f.hard && (f.patch.block == p.block)) (rw d at t)) [
  | inl k ↦ inl k
  | inr k ↦ let both = and_parts f.hard (f.patch.block == p.block) k in inr (both.0, grind (arith, nat_tests))
]

made_hard-by : (all : List Entry) (p : Patch) (u : Undo) → p.undo ≡ u → is_made_hard all p ≡ true → (f : Entry) → In all f → depends_directly p f.patch ≡ true
    → (is_durable f ≡ true) ⊎ ((f.hard ≡ true) × (f.patch.block ≡ p.block))
made_hard-by all p Keep e h f i d = let bad : false ≡ true = rw e at h in absurd (never bad)
made_hard-by all p MayDrop e h f i d = hard_at all p f (list_all-at (hard_test all p) all f (rw e at h) i) d

made_hard-at : (all : List Entry) (p : Patch) → is_made_hard all p ≡ true → (f : Entry) → In all f → depends_directly p f.patch ≡ true
    → (is_durable f ≡ true) ⊎ ((f.hard ≡ true) × (f.patch.block ≡ p.block))
made_hard-at all p = made_hard-by all p p.undo refl

AreHardUnder-after_step : (blocks : ℕ) (st : State) (step : Step) → Numbered 0 st.entries → IsOrdered st.entries → IsOrdered (after_step st step).entries
    → IsLegalStep blocks st step → AreHardUnder st.entries → AreHardUnder (after_step st step).entries
AreHardUnder-after_step blocks st (Merge a b) n o o' legal h =
    keeps-hard (joined (class_of st.entries a) (class_of st.entries b)) st.entries (patch-joined _ _) (hard-joined _ _) (λ e i d. durable-joined _ _ e d) h
AreHardUnder-after_step blocks st (Send block) n o o' legal h =
    keeps-hard (sent (ready st.entries block)) st.entries (patch-sent _) (hard-sent _) (durable-sent st.entries block (apart-from_Numbered 0 st.entries n)) h
AreHardUnder-after_step blocks st (Complete block) n o o' legal h =
    keeps-hard (landed block) st.entries (patch-landed block) (hard-landed block) (λ e i d. durable-landed block e d) h
AreHardUnder-after_step blocks st (Create block begin bytes after undo) n o o' legal h =
    let p : Patch = record { no = length st.entries; block = block; start = begin; bytes = bytes; after = after; undo = undo } in
    let new : Entry = fresh st.entries p in
    λ e f i j d.
    let early : f.patch.no < e.patch.no = depends-earlier e f (o'.earlier e i) d in
    elim (In-push st.entries new f j) [
      | inr same ↦
          let at : length st.entries ≡ f.patch.no = ap (λ x. x.patch.no) same in
          elim (In-push st.entries new e i) [
            | inl g ↦ let below : e.patch.no < 0 + length st.entries = Numbered-below 0 st.entries n e g in absurd (omega arith)
            | inr same2 ↦ let at2 : length st.entries ≡ e.patch.no = ap (λ x. x.patch.no) same2 in absurd (omega arith)
          ]
      | inl k ↦ elim (In-push st.entries new e i) [
        | inl g ↦ h e f g k d
        | inr same ↦
            let d' : depends_directly p f.patch ≡ true = subst (λ x. depends_directly x.patch f.patch ≡ true) (sym same) d in
            subst (λ x. IsHardUnder x f) same (λ t. made_hard-at st.entries p t f k d')
      ]
    ]

-- what is in flight is of a block with a flight
abbrev pub HaveFlights : State → Type 0
HaveFlights st = (e : Entry) → In st.entries e → is_flight e ≡ true → has_flight st e.patch.block ≡ true

abbrev pub AreKnown : ℕ → List Entry → Type 0
AreKnown blocks all = (e : Entry) → In all e → e.patch.block < blocks

any-front : {X : Type 0} → (p : X → Bool) (xs ys : List X) → list_any p xs ≡ true → list_any p (xs ++ ys) ≡ true
any-front p [] ys h = absurd (cc)
any-front p (x ∷ xs) ys h = elim (cases_Bool (p x)) [ inl u ↦ rw u refl | inr u ↦ rw u (any-front p xs ys (rw u at h)) ]

any-back : {X : Type 0} → (p : X → Bool) (xs : List X) (y : X) → p y ≡ true → list_any p (xs ++ y ∷ []) ≡ true
any-back p [] y h = rw h refl
any-back p (x ∷ xs) y h = elim (cases_Bool (p x)) [ inl u ↦ rw u refl | inr u ↦ rw u (any-back p xs y h) ]

HaveFlights-after_step : (blocks : ℕ) (st : State) (step : Step) → Numbered 0 st.entries → HaveFlights st → HaveFlights (after_step st step)
HaveFlights-after_step blocks st (Create block begin bytes after undo) n h = λ e i t. elim (In-push st.entries _ e i) [
  | inl g ↦ h e g t
  | inr same ↦ let bad : false ≡ true = subst (λ x. is_flight x ≡ true) (sym same) t in absurd (never bad)
]
HaveFlights-after_step blocks st (Merge a b) n h = λ e i t.
    let g = joined (class_of st.entries a) (class_of st.entries b) in
    let r = map-In g st.entries e i in
    let t' : is_flight r.0 ≡ true = rw (sym (mark-joined (class_of st.entries a) (class_of st.entries b) r.0)) (subst (λ x. is_flight x ≡ true) (sym r.2) t) in
    let eq : r.0.patch ≡ e.patch = sym (patch-joined (class_of st.entries a) (class_of st.entries b) r.0) ∙ ap (λ x. x.patch) r.2 in
    subst (λ p. has_flight st p.block ≡ true) eq (h r.0 r.1 t')
HaveFlights-after_step blocks st (Send block) n h = λ e i t.
    let r = map-In (sent (ready st.entries block)) st.entries e i in
    let eq : r.0.patch ≡ e.patch = sym (patch-sent (ready st.entries block) r.0) ∙ ap (λ x. x.patch) r.2 in
    let t' : is_flight (sent (ready st.entries block) r.0) ≡ true = subst (λ x. is_flight x ≡ true) (sym r.2) t in
    subst (λ p. has_flight (after_step st (Send block)) p.block ≡ true) eq (elim (cases_Bool (has (ready st.entries block) r.0)) [
      | inl u ↦ let at = (sent_from st.entries block (apart-from_Numbered 0 st.entries n) r.0 r.1 u).1 in
          any-back (λ f. f.0 == r.0.patch.block) st.flights (block, st.sends) (let same : (block == r.0.patch.block) ≡ true = grind (arith, nat_tests) in same)
      | inr u ↦ any-front (λ f. f.0 == r.0.patch.block) st.flights ((block, st.sends) ∷ []) (h r.0 r.1 (rw u at t'))
    ])
HaveFlights-after_step blocks st (Complete block) n h = λ e i t.
    let r = map-In (landed block) st.entries e i in
    let eq : r.0.patch ≡ e.patch = sym (patch-landed block r.0) ∙ ap (λ x. x.patch) r.2 in
    let t' : is_flight (landed block r.0) ≡ true = subst (λ x. is_flight x ≡ true) (sym r.2) t in
    subst (λ p. has_flight (after_step st (Complete block)) p.block ≡ true) eq (elim (cases_Bool (is_flight r.0 && (r.0.patch.block == block))) [
      | inl u ↦ let bad : false ≡ true = rw u at t' in absurd (never bad)
      | inr u ↦
          let fly : is_flight r.0 ≡ true = rw u at t' in
          let f = list_any-at (λ f. f.0 == r.0.patch.block) st.flights (h r.0 r.1 fly) in
          let other : not (f.0.0 == block) ≡ true = elim (cases_Bool (f.0.0 == block)) [
            | inl v ↦ let same : (r.0.patch.block == block) ≡ true = grind (arith, nat_tests, f.2) in absurd (both_ways _ u (and_from _ _ fly same))
            | inr v ↦ rw v refl
          ] in
          list_any-from (λ f. f.0 == r.0.patch.block) (filter (λ f. not (f.0 == block)) st.flights) f.0 (In-filter (λ f. not (f.0 == block)) st.flights f.0 f.1 other) f.2
    ])

known-map : (blocks : ℕ) (g : Entry → Entry) (all : List Entry) → ((e : Entry) → (g e).patch ≡ e.patch) → AreKnown blocks all → AreKnown blocks (map g all)
known-map blocks g all same h = λ e i. let r = map-In g all e i in subst (λ p. p.block < blocks) (sym (same r.0) ∙ ap (λ x. x.patch) r.2) (h r.0 r.1)

AreKnown-after_step : (blocks : ℕ) (st : State) (step : Step) → IsLegalStep blocks st step → AreKnown blocks st.entries → AreKnown blocks (after_step st step).entries
AreKnown-after_step blocks st (Create block begin bytes after undo) legal h = λ e i. elim (In-push st.entries _ e i) [
  | inl g ↦ h e g
  | inr same ↦ subst (λ x. x.patch.block < blocks) same legal.known
]
AreKnown-after_step blocks st (Merge a b) legal h = known-map blocks (joined (class_of st.entries a) (class_of st.entries b)) st.entries (patch-joined _ _) h
AreKnown-after_step blocks st (Send block) legal h = known-map blocks (sent (ready st.entries block)) st.entries (patch-sent _) h
AreKnown-after_step blocks st (Complete block) legal h = known-map blocks (landed block) st.entries (patch-landed block) h

-- all of it
pub record IsSettled (blocks : ℕ) (st : State) : Type 0 where
  pub numbered : Numbered 0 st.entries
  pub ordered : IsOrdered st.entries
  pub classes : AreClasses st.entries
  pub hard : AreHardUnder st.entries
  pub flights : HaveFlights st
  pub known : AreKnown blocks st.entries

pub IsSettled-after_step : (blocks : ℕ) (st : State) (step : Step) → IsLegalStep blocks st step → IsSettled blocks st → IsSettled blocks (after_step st step)
IsSettled-after_step blocks st step legal s =
    let o = IsOrdered-after_step blocks st step s.numbered legal s.ordered in
    record {
      numbered = Numbered-after_step st step s.numbered;
      ordered = o;
      classes = AreClasses-after_step blocks st step s.numbered legal s.classes;
      hard = AreHardUnder-after_step blocks st step s.numbered s.ordered o legal s.hard;
      flights = HaveFlights-after_step blocks st step s.numbered s.flights;
      known = AreKnown-after_step blocks st step legal s.known;
    }

pub settled_first : (blocks : ℕ) → IsSettled blocks at_first
settled_first blocks = record {
  numbered = tt;
  ordered = record { earlier = λ e i. absurd i; met = λ e f i. absurd i };
  classes = record { named = λ e i. absurd i; alike = λ e f i. absurd i };
  hard = λ e f i. absurd i;
  flights = λ e i. absurd i;
  known = λ e i. absurd i;
}

IsSettled-after_steps : (blocks : ℕ) (st : State) (steps : List Step) → AreLegal blocks st steps → IsSettled blocks st → IsSettled blocks (after_steps st steps)
IsSettled-after_steps blocks st [] legal s = s
IsSettled-after_steps blocks st (x ∷ xs) legal s = IsSettled-after_steps blocks (after_step st x) xs legal.1 (IsSettled-after_step blocks st x legal.0 s)

pub IsSettled-run : (run : Execution) → IsLegal run → IsSettled (length run.first) (state_of run)
IsSettled-run run legal = IsSettled-after_steps (length run.first) at_first run.steps legal.steps (settled_first (length run.first))

pub marks_closed : (run : Execution) (e f : Entry) → IsLegal run → Contains (entries_of run) e → Contains (entries_of run) f
    → IsTrue (depends_directly e.patch f.patch) → IsUnder e f
marks_closed run e f legal i j d =
    let s = IsSettled-run run legal in
    let m = s.ordered.met e f (In-from_Contains _ e i) (In-from_Contains _ f j) d in
    record { durable = m.durable; flight = m.flight; hard = s.hard e f (In-from_Contains _ e i) (In-from_Contains _ f j) d }

pub patches_known : (run : Execution) (e : Entry) → IsLegal run → Contains (entries_of run) e → e.patch.block < length run.first
patches_known run e legal i = (IsSettled-run run legal).known e (In-from_Contains _ e i)

pub patches_flying : (run : Execution) (e : Entry) → IsLegal run → Contains (entries_of run) e → IsTrue (is_flight e) → IsTrue (has_flight (state_of run) e.patch.block)
patches_flying run e legal i h = (IsSettled-run run legal).flights e (In-from_Contains _ e i) h
