-- What a crash leaves holds what it depends on.
use Rattle.std.proofs.Common.{◌≡◌, ℕ, ◌+◌, ◌<◌, ◌⊎◌, ◌∙◌, inl, inr, Bool, true, List, [], ◌∷◌, ◌++◌, length, map, refl, sym, ap, arith, subst}
use Rattle.std.specs.Prelude.{nat_lt, ◌==◌, ◌&&◌, ◌||◌}
use Rattle.std.proofs.lemmas.Bool.{cases_Bool, and_parts, and_from, or_cases, both_ways}
use Rattle.std.proofs.lemmas.Bool.Decides.{nat_tests}
use Rattle.std.proofs.lemmas.List.Elements.{recursion_from_All}
use Rattle.std.specs.List.{AllByRecursion}
use Rattle.patch_model.specs.Entries.{AreApart, has-In, In-has}
use Rattle.patch_model.specs.Step.{Step, Create, Merge, Send, Complete}
use Rattle.patch_model.specs.declared.patches.Mark.{Mark}
use Rattle.patch_model.specs.declared.patches.Mark.TheVariants.{Memory, Flight, Durable}
use Rattle.patch_model.specs.Execution.{Execution}
use Rattle.patch_model.specs.Entry.{Entry, marks_memory, marks_flight, marks_durable, is_memory, is_flight, is_durable, is_among}
use Rattle.patch_model.specs.Dependency.{shares_byte, depends_directly}
use Rattle.patch_model.specs.Ready.{has, ready}
use Rattle.patch_model.specs.State.{State, fresh, joined, sent, landed, class_of, after_step, after_steps, at_first, entries_of}
use Rattle.patch_model.specs.Legal.{IsLegal, IsLegalStep, AreLegal}
use Rattle.patch_model.specs.Crash.{IsClosed, crash_set}
use Rattle.patch_model.specs.Member.{In, In-from_Contains, Contains-from_In, map-In}
use Rattle.patch_model.specs.Unchanged.{patch-joined, patch-landed, patch-sent}
use Rattle.patch_model.proofs.Striking.{ready-largest, ready-In, or_last}
use Rattle.patch_model.proofs.Numbering.{Numbered, Numbered-after_step, apart-from_Numbered}

-- e's mark goes no further than that of f, on which it depends
pub record IsMet (e f : Entry) : Type 0 where
  pub durable : is_durable e ≡ true → is_durable f ≡ true
  pub flight : is_flight e ≡ true → (is_durable f ≡ true) ⊎ ((is_flight f ≡ true) × (f.patch.block ≡ e.patch.block))

pub record IsOrdered (all : List Entry) : Type 0 where
  pub earlier : (e : Entry) → In all e → (n : ℕ) → is_among e.patch.after n ≡ true → n < e.patch.no
  pub met : (e f : Entry) → In all e → In all f → depends_directly e.patch f.patch ≡ true → IsMet e f

pub not_both : (m : Mark) → marks_memory m ≡ true → marks_durable m ≡ true → ⊥
not_both Memory h g = cc
not_both Flight h g = cc
not_both Durable h g = cc

pub not_flying : (m : Mark) → marks_memory m ≡ true → marks_flight m ≡ true → ⊥
not_flying Memory h g = cc
not_flying Flight h g = cc
not_flying Durable h g = cc

pub not_landed : (m : Mark) → marks_flight m ≡ true → marks_durable m ≡ true → ⊥
not_landed Memory h g = cc
not_landed Flight h g = cc
not_landed Durable h g = cc

pub In-push : (xs : List Entry) (x y : Entry) → In (xs ++ x ∷ []) y → In xs y ⊎ (x ≡ y)
In-push [] x y (inl e) = inr e
In-push [] x y (inr h) = absurd h
In-push (z ∷ zs) x y (inl e) = inl (inl e)
In-push (z ∷ zs) x y (inr h) = elim (In-push zs x y h) [ inl g ↦ inl (inr g) | inr e ↦ inr e ]

pub Numbered-below : (n : ℕ) (es : List Entry) → Numbered n es → (e : Entry) → In es e → e.patch.no < n + length es
Numbered-below n [] h e i = absurd i
Numbered-below n (x ∷ xs) h e (inl same) = let eq : x.patch.no ≡ e.patch.no = ap (λ y. y.patch.no) same in let at : x.patch.no ≡ n = h.0 in omega arith
Numbered-below n (x ∷ xs) h e (inr i) = let r : e.patch.no < n + 1 + length xs = Numbered-below (n + 1) xs h.1 e i in omega arith

pub depends-earlier : (e : Entry) (f : Entry) → ((n : ℕ) → is_among e.patch.after n ≡ true → n < e.patch.no) → depends_directly e.patch f.patch ≡ true → f.patch.no < e.patch.no
depends-earlier e f named d = elim (or_cases _ _ d) [ inl h ↦ named f.patch.no h | inr h ↦ let r = (and_parts (nat_lt f.patch.no e.patch.no) (shares_byte e.patch f.patch) h).0 in grind (arith, nat_tests) ]

pub among-below : (n : ℕ) (ks : List ℕ) (k : ℕ) → AllByRecursion (λ m. m < n) ks → is_among ks k ≡ true → k < n
among-below n [] k h t = absurd (cc)
among-below n (m ∷ ms) k h t = elim (or_cases (m == k) (is_among ms k) t) [
  | inl u ↦ let below : m < n = h.0 in let same : m ≡ k = grind (arith, nat_tests) in omega arith
  | inr u ↦ among-below n ms k h.1 u
]

or_first : {a : Bool} (b : Bool) → a ≡ true → (a || b) ≡ true
or_first b h = rw h refl

-- a change of entries that leaves their patches, and keeps what each pair owes
keeps-order : (f : Entry → Entry) (all : List Entry) → ((e : Entry) → (f e).patch ≡ e.patch)
    → ((e g : Entry) → In all e → In all g → depends_directly e.patch g.patch ≡ true → IsMet e g → IsMet (f e) (f g))
    → IsOrdered all → IsOrdered (map f all)
keeps-order f all same keeps o = record {
  earlier = λ y i n h. let r = map-In f all y i in
      let eq : y.patch ≡ r.0.patch = ap (λ z. z.patch) (sym r.2) ∙ same r.0 in
      subst (λ p. n < p.no) (sym eq) (o.earlier r.0 r.1 n (subst (λ p. is_among p.after n ≡ true) eq h));
  met = λ y z i j d. let r = map-In f all y i in let s = map-In f all z j in
      let eq : y.patch ≡ r.0.patch = ap (λ z. z.patch) (sym r.2) ∙ same r.0 in
      let eq2 : z.patch ≡ s.0.patch = ap (λ z. z.patch) (sym s.2) ∙ same s.0 in
      let d' : depends_directly r.0.patch s.0.patch ≡ true = subst (λ p. depends_directly p s.0.patch ≡ true) eq (subst (λ q. depends_directly y.patch q ≡ true) eq2 d) in
      subst (λ u. IsMet u z) r.2 (subst (λ v. IsMet (f r.0) v) s.2 (keeps r.0 s.0 r.1 s.1 d' (o.met r.0 s.0 r.1 s.1 d')));
}

-- merging changes no mark
met-joined : (a b : ℕ) (e f : Entry) → IsMet e f → IsMet (joined a b e) (joined a b f)
met-joined a b e f m = elim (cases_Bool ((e.class == a) || (e.class == b))) [
  | inl u ↦ elim (cases_Bool ((f.class == a) || (f.class == b))) [
    | inl v ↦ rw (u, v) (record { durable = m.durable; flight = m.flight })
    | inr v ↦ rw (u, v) (record { durable = m.durable; flight = m.flight })
  ]
  | inr u ↦ elim (cases_Bool ((f.class == a) || (f.class == b))) [
    | inl v ↦ rw (u, v) (record { durable = m.durable; flight = m.flight })
    | inr v ↦ rw (u, v) m
  ]
]

module _ (all : List Entry) (block : ℕ) (apart : AreApart all) where
  taken : (e : Entry) → In all e → has (ready all block) e ≡ true → (is_memory e ≡ true) × ((e.patch.block == block) ≡ true)
  taken e i h = let r = ready-In all block apart e (has-In all (ready all block) e apart (λ x k. (ready-In all block apart x k).0) i h) in and_parts _ _ r.1

  -- a sent patch's dependencies are durable, or sent with it
  met-sent : (e f : Entry) → In all e → In all f → depends_directly e.patch f.patch ≡ true → IsMet e f → IsMet (sent (ready all block) e) (sent (ready all block) f)
  met-sent e f i j d m = elim (cases_Bool (has (ready all block) e)) [
    | inl u ↦ elim (cases_Bool (has (ready all block) f)) [
      | inl v ↦ let p = taken e i u in let q = taken f j v in
          let same : f.patch.block ≡ e.patch.block = grind (arith, nat_tests) in
          rw (u, v) (record { durable = λ h. absurd (cc); flight = λ h. inr (refl, same) })
      | inr v ↦ let in_set = has-In all (ready all block) e apart (λ x k. (ready-In all block apart x k).0) i u in
          let run = (ready-largest all block apart).writable.met e f (Contains-from_In _ e in_set) (Contains-from_In _ f j) d in
          let done : is_durable f ≡ true = elim run [ inl k ↦ k | inr k ↦ absurd (both_ways (has (ready all block) f) v (In-has (ready all block) f (In-from_Contains _ f k))) ] in
          rw (u, v) (record { durable = λ h. absurd (cc); flight = λ h. inl done })
    ]
    | inr u ↦ elim (cases_Bool (has (ready all block) f)) [
      | inl v ↦ let q = taken f j v in
          rw (u, v) (record {
            durable = λ h. absurd (not_both f.mark q.0 (m.durable h));
            flight = λ h. elim (m.flight h) [ inl k ↦ absurd (not_both f.mark q.0 k) | inr k ↦ absurd (not_flying f.mark q.0 k.0) ];
          })
      | inr v ↦ rw (u, v) m
    ]
  ]

met-landed : (block : ℕ) (e f : Entry) → IsMet e f → IsMet (landed block e) (landed block f)
met-landed block e f m = elim (cases_Bool (is_flight e && (e.patch.block == block))) [
  | inl u ↦ let p = and_parts (is_flight e) (e.patch.block == block) u in elim (cases_Bool (is_flight f && (f.patch.block == block))) [
    | inl v ↦ rw (u, v) (record { durable = λ h. refl; flight = λ h. absurd (cc) })
    | inr v ↦ let done : is_durable f ≡ true = elim (m.flight p.0) [ inl k ↦ k | inr k ↦ let same : (f.patch.block == block) ≡ true = grind (arith, nat_tests) in absurd (both_ways _ v (and_from _ _ k.0 same)) ] in
        rw (u, v) (record { durable = λ h. done; flight = λ h. absurd (cc) })
  ]
  | inr u ↦ elim (cases_Bool (is_flight f && (f.patch.block == block))) [
    | inl v ↦ rw (u, v) (record { durable = λ h. refl; flight = λ h. inl refl })
    | inr v ↦ rw (u, v) m
  ]
]

pub IsOrdered-after_step : (blocks : ℕ) (st : State) (step : Step) → Numbered 0 st.entries → IsLegalStep blocks st step → IsOrdered st.entries → IsOrdered (after_step st step).entries
IsOrdered-after_step blocks st (Merge a b) n legal o =
    keeps-order (joined (class_of st.entries a) (class_of st.entries b)) st.entries (patch-joined _ _) (λ e g i j d m. met-joined _ _ e g m) o
IsOrdered-after_step blocks st (Send block) n legal o =
    keeps-order (sent (ready st.entries block)) st.entries (patch-sent _) (met-sent st.entries block (apart-from_Numbered 0 st.entries n)) o
IsOrdered-after_step blocks st (Complete block) n legal o =
    keeps-order (landed block) st.entries (patch-landed block) (λ e g i j d m. met-landed block e g m) o
IsOrdered-after_step blocks st (Create block begin bytes after undo) n legal o =
    let new : Entry = fresh st.entries (record { no = length st.entries; block = block; start = begin; bytes = bytes; after = after; undo = undo }) in
    let named : (k : ℕ) → is_among after k ≡ true → k < length st.entries = λ k h. among-below (length st.entries) after k (recursion_from_All (λ m. m < length st.entries) after legal.made) h in
    record {
      earlier = λ e i k h. elim (In-push st.entries new e i) [ inl g ↦ o.earlier e g k h | inr same ↦ subst (λ x. is_among x.patch.after k ≡ true → k < x.patch.no) same (named k) h ];
      met = λ e f i j d. elim (In-push st.entries new e i) [
        | inr same ↦ subst (λ x. IsMet x f) same (record { durable = λ h. absurd (cc); flight = λ h. absurd (cc) })
        | inl g ↦ elim (In-push st.entries new f j) [
          | inl k ↦ o.met e f g k d
          | inr same ↦
              let early : f.patch.no < e.patch.no = depends-earlier e f (o.earlier e g) d in
              let at : length st.entries ≡ f.patch.no = ap (λ x. x.patch.no) same in
              let below : e.patch.no < 0 + length st.entries = Numbered-below 0 st.entries n e g in
              absurd (omega arith)
        ]
      ];
    }

IsOrdered-after_steps : (blocks : ℕ) (st : State) (steps : List Step) → Numbered 0 st.entries → AreLegal blocks st steps → IsOrdered st.entries → IsOrdered (after_steps st steps).entries
IsOrdered-after_steps blocks st [] n legal o = o
IsOrdered-after_steps blocks st (s ∷ ss) n legal o =
    IsOrdered-after_steps blocks (after_step st s) ss (Numbered-after_step st s n) legal.1 (IsOrdered-after_step blocks st s n legal.0 o)

pub IsOrdered-run : (run : Execution) → IsLegal run → IsOrdered (entries_of run)
IsOrdered-run run legal = IsOrdered-after_steps (length run.first) at_first run.steps tt legal.steps (record { earlier = λ e i. absurd i; met = λ e f i. absurd i })

pub crash_sets_closed : (run : Execution) (landed : List ℕ) → IsLegal run → IsClosed (entries_of run) (crash_set landed)
crash_sets_closed run blocks legal = λ e f i j h d.
    let m = (IsOrdered-run run legal).met e f (In-from_Contains _ e i) (In-from_Contains _ f j) d in
    elim (or_cases (is_durable e) (is_flight e && is_among blocks e.patch.block) h) [
      | inl done ↦ or_first _ (m.durable done)
      | inr flying ↦ let both = and_parts (is_flight e) (is_among blocks e.patch.block) flying in
          elim (m.flight both.0) [
            | inl done ↦ or_first _ done
            | inr k ↦ or_last _ _ (and_from _ _ k.0 (subst (λ n. is_among blocks n ≡ true) (sym k.1) both.1))
          ]
    ]
