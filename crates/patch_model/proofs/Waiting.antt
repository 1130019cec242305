-- What a send takes where nothing is in flight: each hard patch, and never nothing.
use Rattle.std.proofs.Common.{◌≡◌, ◌≢◌, ℕ, zero, suc, ◌<◌, ◌≤◌, ◌⊎◌, ◌∙◌, inl, inr, Bool, true, false, List, [], length, refl, sym, arith, subst}
use Rattle.std.specs.Prelude.{◌==◌, ◌&&◌, not, IsTrue, IsFalse, Contains, filter}
use Rattle.std.specs.List.{list_any}
use Rattle.std.proofs.lemmas.Bool.{cases_Bool, and_parts, and_from, both_ways, not-true}
use Rattle.std.proofs.lemmas.Bool.Decides.{nat_tests}
use Rattle.patch_model.specs.Link.{Link-from}
use Rattle.patch_model.specs.declared.patches.Mark.{Mark}
use Rattle.patch_model.specs.declared.patches.Mark.TheVariants.{Memory, Flight, Durable}
use Rattle.patch_model.specs.Execution.{Execution}
use Rattle.patch_model.specs.Entry.{Entry, marks_memory, marks_flight, marks_durable, is_memory, is_flight, is_durable, in_memory_of}
use Rattle.patch_model.specs.Dependency.{depends_directly, Path, one}
use Rattle.patch_model.specs.Ready.{ready, IsWritable}
use Rattle.patch_model.specs.State.{state_of, entries_of, has_flight}
use Rattle.patch_model.specs.Legal.{IsLegal}
use Rattle.patch_model.specs.Member.{In, In-from_Contains, Contains-from_In, In-filter, filter-In, filter_cases, list_any-at, list_any-from}
use Rattle.patch_model.proofs.Numbering.{ready_is_largest}
use Rattle.patch_model.proofs.Marks.{never, IsSettled-run}
use Rattle.patch_model.proofs.Rings.{same_name, other_from_test, Path-append, no_ring}

-- what is neither in flight nor durable is in memory
pub memory_left : (m : Mark) → marks_flight m ≡ false → marks_durable m ≡ false → marks_memory m ≡ true
memory_left Memory h g = refl
memory_left Flight h g = absurd (never (sym h))
memory_left Durable h g = absurd (never (sym g))

-- the hard patches in memory may be written where their block has no flight
module _ (run : Execution) (block : ℕ) (legal : IsLegal run) (none : has_flight (state_of run) block ≡ false) where
  abbrev is_hard_here : Entry → Bool
  is_hard_here e = in_memory_of block e && e.hard

  hard_parts : (e : Entry) → is_hard_here e ≡ true → (is_memory e ≡ true) × (e.patch.block ≡ block) × (e.hard ≡ true)
  hard_parts e h = let p = and_parts (in_memory_of block e) e.hard h in let q = and_parts (is_memory e) (e.patch.block == block) p.0 in (q.0, grind (arith, nat_tests, q.1), p.1)

  hard_from : (e : Entry) → is_memory e ≡ true → e.patch.block ≡ block → e.hard ≡ true → is_hard_here e ≡ true
  hard_from e m b h = and_from _ _ (and_from _ _ m (grind (arith, nat_tests))) h

  pub no_flying : (e : Entry) → In (entries_of run) e → e.patch.block ≡ block → is_flight e ≡ false
  no_flying e i b = elim (cases_Bool (is_flight e)) [
    | inl u ↦ absurd (both_ways (has_flight (state_of run) block) none (subst (λ n. has_flight (state_of run) n ≡ true) b ((IsSettled-run run legal).flights e i u)))
    | inr u ↦ u
  ]

  hard_writable : IsWritable (entries_of run) block (filter is_hard_here (entries_of run))
  hard_writable = record {
    in_memory = λ e i. let r = filter-In is_hard_here (entries_of run) e (In-from_Contains _ e i) in
        (Contains-from_In _ e r.0, (and_parts (in_memory_of block e) e.hard r.1).0);
    whole = λ e f i j same.
        let r = filter-In is_hard_here (entries_of run) e (In-from_Contains _ e i) in
        let p = hard_parts e r.1 in
        let a = (IsSettled-run run legal).classes.alike f e (In-from_Contains _ f j) r.0 same in
        Contains-from_In _ f (In-filter is_hard_here (entries_of run) f (In-from_Contains _ f j) (hard_from f (rw a.mark p.0) (a.block ∙ p.1) (a.hard ∙ p.2)));
    met = λ e f i j d.
        let r = filter-In is_hard_here (entries_of run) e (In-from_Contains _ e i) in
        let p = hard_parts e r.1 in
        elim ((IsSettled-run run legal).hard e f r.0 (In-from_Contains _ f j) d p.2) [
          | inl done ↦ inl done
          | inr k ↦ elim (cases_Bool (is_durable f)) [
            | inl done ↦ inl done
            | inr not_yet ↦ inr (Contains-from_In _ f (In-filter is_hard_here (entries_of run) f (In-from_Contains _ f j)
                (hard_from f (memory_left f.mark (no_flying f (In-from_Contains _ f j) (k.1 ∙ p.1)) not_yet) (k.1 ∙ p.1) k.0)))
          ]
        ];
  }

pub hard_in_ready : (run : Execution) (block : ℕ) (e : Entry) → IsLegal run → IsFalse (has_flight (state_of run) block) → Contains (entries_of run) e
    → IsTrue (in_memory_of block e) → IsTrue e.hard → Contains (ready (entries_of run) block) e
hard_in_ready run block e legal none i m h =
    (ready_is_largest run block).largest (filter (is_hard_here run block legal none) (entries_of run)) (hard_writable run block legal none) e
    (Contains-from_In _ e (In-filter (is_hard_here run block legal none) (entries_of run) e (In-from_Contains _ e i) (and_from _ _ m h)))

-- From a class in memory, walking to classes that it still waits for comes to an end.
module _ (run : Execution) (legal : IsLegal run) (none : (state_of run).flights ≡ []) where
  nothing_flying : (e : Entry) → In (entries_of run) e → is_flight e ≡ false
  nothing_flying e i = elim (cases_Bool (is_flight e)) [
    | inl u ↦
        let bad : list_any (λ (f : ℕ × ℕ). f.0 == e.patch.block) [] ≡ true = subst (λ fs. list_any (λ (f : ℕ × ℕ). f.0 == e.patch.block) fs ≡ true) none ((IsSettled-run run legal).flights e i u) in
        absurd (never bad)
    | inr u ↦ u
  ]

  -- a member of the class of this name waits for a patch of another class
  abbrev waits : ℕ → Bool
  waits c = list_any (λ x. (x.class == c) && list_any (λ f. depends_directly x.patch f.patch && (not (is_durable f) && not (f.class == c))) (entries_of run)) (entries_of run)

  -- what it waits for
  record Awaited (c : ℕ) : Type 0 where
    it : Entry
    inside : In (entries_of run) it
    memory : is_memory it ≡ true
    other : it.class ≢ c
    path : Path (entries_of run) c it.class

  awaited-at : (c : ℕ) → waits c ≡ true → Awaited c
  awaited-at c h =
      let x = list_any-at (λ x. (x.class == c) && list_any (λ f. depends_directly x.patch f.patch && (not (is_durable f) && not (f.class == c))) (entries_of run)) (entries_of run) h in
      let p = and_parts (x.0.class == c) (list_any (λ f. depends_directly x.0.patch f.patch && (not (is_durable f) && not (f.class == c))) (entries_of run)) x.2 in
      let f = list_any-at (λ f. depends_directly x.0.patch f.patch && (not (is_durable f) && not (f.class == c))) (entries_of run) p.1 in
      let q = and_parts (depends_directly x.0.patch f.0.patch) (not (is_durable f.0) && not (f.0.class == c)) f.2 in
      let r = and_parts (not (is_durable f.0)) (not (f.0.class == c)) q.1 in
      let name : x.0.class ≡ c = grind (arith, nat_tests, p.0) in
      let other : f.0.class ≢ c = other_from_test f.0.class c r.1 in
      record {
        it = f.0;
        inside = f.1;
        memory = memory_left f.0.mark (nothing_flying f.0 f.1) (not-true (is_durable f.0) r.0);
        other = other;
        path = subst (λ n. Path (entries_of run) n f.0.class) name (one (Link-from (entries_of run) x.0 f.0 x.1 f.1 (λ e. other (sym e ∙ name)) q.0));
      }

  -- each patch is of the rest, or of a class that the walk came through
  abbrev Seen : List Entry → ℕ → Type 0
  Seen rest c = (x : Entry) → In (entries_of run) x → In rest x ⊎ ((x.class ≡ c) ⊎ Path (entries_of run) x.class c)

  abbrev rest_of : List Entry → ℕ → List Entry
  rest_of rest c = filter (λ x. not (x.class == c)) rest

  in_rest : (rest : List Entry) (c : ℕ) → Seen rest c → (a : Awaited c) → In rest a.it
  in_rest rest c seen a = elim (seen a.it a.inside) [
    | inl i ↦ i
    | inr k ↦ elim k [ inl same ↦ absurd (a.other same) | inr p ↦ absurd (no_ring run legal a.it.class (Path-append p a.path)) ]
  ]

  shorter : (rest : List Entry) (f : Entry) → In rest f → length (rest_of rest f.class) < length rest
  shorter rest f i = elim (filter_cases (λ x. not (x.class == f.class)) rest) [
    | inl r ↦ let bad : not (f.class == f.class) ≡ true = r.0 f i in absurd (let no_way : ⊥ = grind (arith, nat_tests, bad) in no_way)
    | inr s ↦ s
  ]

  seen_on : (rest : List Entry) (c : ℕ) → Seen rest c → (a : Awaited c) → Seen (rest_of rest a.it.class) a.it.class
  seen_on rest c seen a x i = elim (seen x i) [
    | inl g ↦ elim (cases_Bool (x.class == a.it.class)) [
      | inl u ↦ inr (inl (grind (arith, nat_tests, u)))
      | inr u ↦ inl (In-filter (λ y. not (y.class == a.it.class)) rest x g (rw u refl))
    ]
    | inr k ↦ elim k [
      | inl same ↦ inr (inr (subst (λ n. Path (entries_of run) n a.it.class) (sym same) a.path))
      | inr p ↦ inr (inr (Path-append p a.path))
    ]
  ]

  -- a class in memory that waits for none
  record Free : Type 0 where
    it : Entry
    inside : In (entries_of run) it
    memory : is_memory it ≡ true
    free : waits it.class ≡ false

  walk : (n : ℕ) (rest : List Entry) → length rest ≤ n → (e : Entry) → In (entries_of run) e → is_memory e ≡ true → Seen rest e.class → Free
  walk zero rest few e i m seen = elim (cases_Bool (waits e.class)) [
    | inl u ↦ let a = awaited-at e.class u in let s = shorter rest a.it (in_rest rest e.class seen a) in absurd (omega arith)
    | inr u ↦ record { it = e; inside = i; memory = m; free = u }
  ]
  walk (suc n) rest few e i m seen = elim (cases_Bool (waits e.class)) [
    | inl u ↦ let a = awaited-at e.class u in let s = shorter rest a.it (in_rest rest e.class seen a) in
        walk n (rest_of rest a.it.class) (omega arith) a.it a.inside a.memory (seen_on rest e.class seen a)
    | inr u ↦ record { it = e; inside = i; memory = m; free = u }
  ]

  some_free : (e : Entry) → In (entries_of run) e → is_memory e ≡ true → Free
  some_free e i m = walk (length (entries_of run)) (entries_of run) (let h : length (entries_of run) ≤ length (entries_of run) = omega arith in h) e i m (λ x j. inl j)

  -- such a class may be written
  abbrev of_class : ℕ → Entry → Bool
  of_class c x = x.class == c

  not_waiting : (c : ℕ) → waits c ≡ false → (x f : Entry) → In (entries_of run) x → In (entries_of run) f → x.class ≡ c → depends_directly x.patch f.patch ≡ true → is_durable f ≡ false → f.class ≡ c
  not_waiting c no_wait x f i j name d live = elim (cases_Bool (f.class == c)) [
    | inl u ↦ grind (arith, nat_tests, u)
    | inr u ↦
        let test : (not (is_durable f) && not (f.class == c)) ≡ true = rw (u, live) refl in
        let inner : list_any (λ g. depends_directly x.patch g.patch && (not (is_durable g) && not (g.class == c))) (entries_of run) ≡ true =
        list_any-from (λ g. depends_directly x.patch g.patch && (not (is_durable g) && not (g.class == c))) (entries_of run) f j (and_from _ _ d test) in
        let all : waits c ≡ true =
        list_any-from (λ y. (y.class == c) && list_any (λ g. depends_directly y.patch g.patch && (not (is_durable g) && not (g.class == c))) (entries_of run)) (entries_of run) x i
        (and_from _ _ (same_name x.class c name) inner) in
        absurd (both_ways (waits c) no_wait all)
  ]

  free_writable : (g : Free) → IsWritable (entries_of run) g.it.patch.block (filter (of_class g.it.class) (entries_of run))
  free_writable g = record {
    in_memory = λ e i. let r = filter-In (of_class g.it.class) (entries_of run) e (In-from_Contains _ e i) in
        let a = (IsSettled-run run legal).classes.alike e g.it r.0 g.inside (grind (arith, nat_tests, r.1)) in
        (Contains-from_In _ e r.0, and_from _ _ (rw a.mark g.memory) (same_name e.patch.block g.it.patch.block a.block));
    whole = λ e f i j same. let r = filter-In (of_class g.it.class) (entries_of run) e (In-from_Contains _ e i) in
        Contains-from_In _ f (In-filter (of_class g.it.class) (entries_of run) f (In-from_Contains _ f j) (same_name f.class g.it.class (let eq : e.class ≡ g.it.class = grind (arith, nat_tests, r.1) in same ∙ eq)));
    met = λ e f i j d. let r = filter-In (of_class g.it.class) (entries_of run) e (In-from_Contains _ e i) in
        elim (cases_Bool (is_durable f)) [
          | inl done ↦ inl done
          | inr live ↦ inr (Contains-from_In _ f (In-filter (of_class g.it.class) (entries_of run) f (In-from_Contains _ f j)
              (same_name f.class g.it.class (not_waiting g.it.class g.free e f r.0 (In-from_Contains _ f j) (grind (arith, nat_tests, r.1)) d live))))
        ];
  }

  free_ready : (g : Free) → In (ready (entries_of run) g.it.patch.block) g.it
  free_ready g = In-from_Contains _ g.it ((ready_is_largest run g.it.patch.block).largest (filter (of_class g.it.class) (entries_of run)) (free_writable g) g.it
      (Contains-from_In _ g.it (In-filter (of_class g.it.class) (entries_of run) g.it g.inside (same_name g.it.class g.it.class refl))))

In-some : (set : List Entry) (e : Entry) → In set e → set ≢ []
In-some set e i none = subst (λ s. In s e) none i

pub always_ready : (run : Execution) (e : Entry) → IsLegal run → (state_of run).flights ≡ [] → Contains (entries_of run) e → IsTrue (is_memory e)
    → (block : ℕ) × (block < length run.first) × (ready (entries_of run) block ≢ [])
always_ready run e legal none i m =
    let g = some_free run legal none e (In-from_Contains _ e i) m in
    (g.it.patch.block, (IsSettled-run run legal).known g.it g.inside, In-some (ready (entries_of run) g.it.patch.block) g.it (free_ready run legal none g))
