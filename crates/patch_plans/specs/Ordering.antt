-- Lemmas: what each step, each patch and each call of groups keeps true.
use Rattle.std.proofs.Common.{◌≡◌, ℕ, zero, suc, ◌+◌, ◌<◌, ◌≤◌, ◌⊎◌, ◌∙◌, inl, inr, Bool, true, false, List, [], ◌∷◌, ◌++◌, length, map, filter, refl, sym, ap, subst, arith, get_or, set, get_or-set_same, get_or-set_other, Option, Some, None, length-append, length-set}
use Rattle.std.proofs.lemmas.List.{length-map}
use Rattle.std.proofs.lemmas.List.Kept.{AllPairs-filter}
use Rattle.std.proofs.lemmas.List.Quantifiers.{all_pairs_push}
use Rattle.std.specs.Prelude.{◌==◌, ◌&&◌, ◌||◌, not, if◌then◌else◌, Contains, slice_get}
use Rattle.std.specs.List.{list_any, flat_map}
use Rattle.std.proofs.lemmas.Bool.{cases_Bool, cases_lt, eqb-true, eqb-false, eq-eqb, both_ways, or_parts, and_from, false_from_ne_true}
use Rattle.patch_model.specs.declared.patches.Undo.{Undo}
use Rattle.patch_model.specs.declared.refusals.Refusal.{Refusal}
use Rattle.patch_model.specs.Execution.{Execution, extended}
use Rattle.patch_model.specs.Step.{Step, Create, Merge, Send, Complete}
use Rattle.patch_model.specs.Entry.{Entry, is_flight}
use Rattle.patch_model.specs.Ready.{has, ready}
use Rattle.patch_model.specs.State.{State, entries_of, state_of, after_step, joined, sent, landed, class_of}
use Rattle.patch_model.specs.Orderly.{IsNumbered}
use Rattle.patch_model.specs.Member.{In, In-from_Contains, Contains-from_In, filter-In, list_any-from, list_any-at}
use Rattle.patch_plans.specs.Rising.{rising, AreRising}
use Rattle.patch_plans.specs.Groups.{Group, Groups, AreApart, fresh, group_at, before, patches_of, is_open, is_engaged, is_engaged_by, engaged_by, after_of, no_groups, begun, engaged, disengaged, ordered, closed, entered, with_patch, named, why_not_engaged, why_not_ordered}
use Rattle.patch_plans.specs.Order.{AreGroupsOf, NoneAreOfAny}
use Rattle.patch_plans.specs.Members.{In-append_right, append-In, map-In, In-flat_map, rising-In, In-rising, at_set}

to : {X : Type 0} → (xs : List X) (x : X) → In xs x → Contains xs x
to xs x i = Contains-from_In xs x i

of : {X : Type 0} → (xs : List X) (x : X) → Contains xs x → In xs x
of xs x c = In-from_Contains xs x c

none_in : {X : Type 0} → (x : X) → Contains [] x → ⊥
none_in x c = absurd (In-from_Contains [] x c)

nothing : {X : Type 0} → (xs : List X) → ((x : X) → In xs x → ⊥) → xs ≡ []
nothing [] h = refl
nothing (x ∷ xs) h = absurd (h x (inl refl))

-- a cause that isn't there
pub none_if : (b : Bool) (cause : Refusal) (rest : Option Refusal) → (if b then Some cause else rest) ≡ None → (b ≡ false) × (rest ≡ None)
none_if true cause rest e = absurd (cc)
none_if false cause rest e = (refl, e)

-- No groups.

none_at : (g : ℕ) → group_at no_groups g ≡ fresh
none_at g = refl

pub none_of : NoneAreOfAny
none_of run = record {
  sealed = λ q p c. absurd (none_in p c);
  free = λ g s. refl;
  started = λ g t. absurd (cc);
  empty = λ g s. refl;
  made = λ g n c. absurd (none_in n c);
  names = λ q p m e ce cq cp cm. absurd (none_in p cp);
  once = λ i j d l m. absurd (omega (arith, m));
  rising = λ g i j d l m. absurd (omega (arith, m));
}

-- Engagements.

-- one engagement more, which wasn't there
pub apart_more : (es : List (ℕ × ℕ)) (writer group : ℕ) → AreApart es → list_any (λ e. e.0 == writer && e.1 == group) es ≡ false → AreApart (es ++ (writer, group) ∷ [])
apart_more es writer group apart new = all_pairs_push (λ d e. d ≡ e → ⊥) es (writer, group) apart (λ k d l same.
    let there : get_or es k (get_or es k d) ≡ get_or es k d = same_default es k (get_or es k d) d l in
    let t : (((get_or es k d).0 == writer) && ((get_or es k d).1 == group)) ≡ true = and_from _ _ (eq-eqb _ _ (ap (λ x. x.0) same)) (eq-eqb _ _ (ap (λ x. x.1) same)) in
    both_ways _ new (list_any-from (λ e. e.0 == writer && e.1 == group) es (get_or es k d) (In-from_Contains es (get_or es k d) (k, l, there)) t))
  where
    same_default : (xs : List (ℕ × ℕ)) (i : ℕ) (d e : ℕ × ℕ) → i < length xs → get_or xs i d ≡ get_or xs i e
    same_default [] i d e l = absurd (omega (arith, l))
    same_default (x ∷ xs) zero d e l = refl
    same_default (x ∷ xs) (suc i) d e l = same_default xs i d e (omega (arith, l))

-- Steps.

patch-joined : (a b : ℕ) (e : Entry) → (joined a b e).patch ≡ e.patch
patch-joined a b e = elim (cases_Bool (e.class == a || e.class == b)) [ inl t ↦ rw t refl | inr f ↦ rw f refl ]

patch-sent : (s : List Entry) (e : Entry) → (sent s e).patch ≡ e.patch
patch-sent s e = elim (cases_Bool (has s e)) [ inl t ↦ rw t refl | inr f ↦ rw f refl ]

patch-landed : (block : ℕ) (e : Entry) → (landed block e).patch ≡ e.patch
patch-landed block e = elim (cases_Bool (is_flight e && e.patch.block == block)) [ inl t ↦ rw t refl | inr f ↦ rw f refl ]

-- an entry after a step has the patch of one before it, or the next number
abbrev IsOf : List Entry → Entry → Type 0
IsOf all e = ((e0 : Entry) × In all e0 × (e0.patch ≡ e.patch)) ⊎ (e.patch.no ≡ length all)

mapped : (f : Entry → Entry) (all : List Entry) → ((e : Entry) → (f e).patch ≡ e.patch) → (e : Entry) → In (map f all) e → IsOf all e
mapped f all same e i = let r = map-In f all e i in inl (r.0, r.1, sym (same r.0) ∙ ap (λ x. x.patch) r.2)

step_entries : (st : State) (step : Step) (e : Entry) → In (after_step st step).entries e → IsOf st.entries e
step_entries st (Create block start bytes after undo) e i = elim (append-In st.entries _ e i) [
  | inl j ↦ inl (e, j, refl)
  | inr j ↦ elim j [ inl same ↦ inr (sym (ap (λ x. x.patch.no) same)) | inr none ↦ absurd none ]
]
step_entries st (Merge a b) e i = mapped (joined (class_of st.entries a) (class_of st.entries b)) st.entries (patch-joined _ _) e i
step_entries st (Send block) e i = mapped (sent (ready st.entries block)) st.entries (patch-sent _) e i
step_entries st (Complete block) e i = mapped (landed block) st.entries (patch-landed _) e i

step_length : (st : State) (step : Step) → length st.entries ≤ length (after_step st step).entries
step_length st (Create block start bytes after undo) = let l = length-append st.entries in grind (arith, length-append)
step_length st (Merge a b) = grind (arith, length-map)
step_length st (Send block) = grind (arith, length-map)
step_length st (Complete block) = grind (arith, length-map)

module _ (ext : (run : Execution) (step : Step) → state_of (extended run step) ≡ after_step (state_of run) step) where
  run_entries : (run : Execution) (step : Step) (e : Entry) → Contains (entries_of (extended run step)) e → IsOf (entries_of run) e
  run_entries run step e c = step_entries (state_of run) step e (subst (λ st. In st.entries e) (ext run step) (of _ e c))

  run_length : (run : Execution) (step : Step) → length (entries_of run) ≤ length (entries_of (extended run step))
  run_length run step = subst (λ st. length (entries_of run) ≤ length st.entries) (sym (ext run step)) (step_length (state_of run) step)

  pub steps_keep : (run : Execution) (gs : Groups) (step : Step) → AreGroupsOf run gs → AreGroupsOf (extended run step) gs
  steps_keep run gs step a = record {
    sealed = a.sealed;
    free = a.free;
    started = a.started;
    empty = a.empty;
    made = λ g n c. let l = a.made g n c in let more = run_length run step in omega (arith, l, more);
    names = λ q p m e ce cq cp cm. elim (run_entries run step e ce) [
      | inl o ↦ subst (λ x. Contains x.after m) o.2 (a.names q p m o.0 (to _ _ o.1) (subst (λ x. Contains (patches_of gs q) x.no) (sym o.2) cq) cp cm)
      | inr n ↦ let l = a.made q e.patch.no cq in absurd (omega (arith, l, n))
    ];
    once = a.once;
    rising = a.rising;
  }

-- Patches.

-- what a group is after a patch has entered some: the same but for its patches, which may be one more where it is among them
pub record IsEntered (old new : Group) (here : Type 0) (n : ℕ) : Type 0 where
  pub started : new.started ≡ old.started
  pub sealed : new.sealed ≡ old.sealed
  pub before : new.before ≡ old.before
  pub patches : (m : ℕ) → In new.patches m → In old.patches m ⊎ ((m ≡ n) × here)

abbrev joined_by : List Group → ℕ → ℕ → Group
joined_by groups g n = let group = get_or groups g fresh in record group { patches = group.patches ++ n ∷ [] }

pub entered_at : (groups : List Group) (names : List ℕ) (n i : ℕ) → IsEntered (get_or groups i fresh) (get_or (entered groups names n) i fresh) (In names i) n
entered_at groups [] n i = record { started = refl; sealed = refl; before = refl; patches = λ m j. inl j }
entered_at groups (g ∷ names) n i =
    let later = entered_at (set groups g (joined_by groups g n)) names n i in
    elim (at_set groups g i (joined_by groups g n) fresh) [
      | inl w ↦
          let now : get_or (set groups g (joined_by groups g n)) i fresh ≡ joined_by groups i n = w.2 ∙ ap (λ k. joined_by groups k n) (sym w.0) in
          record {
            started = later.started ∙ ap (λ x. x.started) now;
            sealed = later.sealed ∙ ap (λ x. x.sealed) now;
            before = later.before ∙ ap (λ x. x.before) now;
            patches = λ m j. elim (later.patches m j) [
              | inl o ↦ elim (append-In (get_or groups i fresh).patches (n ∷ []) m (subst (λ x. In x.patches m) now o)) [
                | inl before ↦ inl before
                | inr last ↦ elim last [ inl e ↦ inr (sym e, inl (sym w.0)) | inr none ↦ absurd none ]
              ]
              | inr o ↦ inr (o.0, inr o.1)
            ];
          }
      | inr same ↦ record {
        started = later.started ∙ ap (λ x. x.started) same;
        sealed = later.sealed ∙ ap (λ x. x.sealed) same;
        before = later.before ∙ ap (λ x. x.before) same;
        patches = λ m j. elim (later.patches m j) [ inl o ↦ inl (subst (λ x. In x.patches m) same o) | inr o ↦ inr (o.0, inr o.1) ];
      }
    ]

-- no number stands there twice
abbrev pub Unrepeated : List ℕ → Type 0
Unrepeated [] = Unit {0}
Unrepeated (n ∷ ns) = (In ns n → ⊥) × Unrepeated ns

entered_elsewhere : (groups : List Group) (names : List ℕ) (n i : ℕ) → (In names i → ⊥) → (get_or (entered groups names n) i fresh).patches ≡ (get_or groups i fresh).patches
entered_elsewhere groups [] n i none = refl
entered_elsewhere groups (g ∷ names) n i none =
    entered_elsewhere (set groups g (joined_by groups g n)) names n i (λ later. none (inr later))
    ∙ ap (λ x. x.patches) (get_or-set_other groups g i (joined_by groups g n) fresh (λ e. none (inl (sym e))))

-- a group gets the patch once, or not at all
entered_once : (groups : List Group) (names : List ℕ) (n i : ℕ) → Unrepeated names
    → ((get_or (entered groups names n) i fresh).patches ≡ (get_or groups i fresh).patches) ⊎ ((get_or (entered groups names n) i fresh).patches ≡ (get_or groups i fresh).patches ++ n ∷ [])
entered_once groups [] n i apart = inl refl
entered_once groups (g ∷ names) n i apart = elim (at_set groups g i (joined_by groups g n) fresh) [
  | inl w ↦
      inr (entered_elsewhere (set groups g (joined_by groups g n)) names n i (λ later. apart.0 (subst (λ k. In names k) w.0 later))
      ∙ ap (λ x. x.patches) w.2 ∙ ap (λ k. (get_or groups k fresh).patches ++ n ∷ []) (sym w.0))
  | inr same ↦ elim (entered_once (set groups g (joined_by groups g n)) names n i apart.1) [
    | inl kept ↦ inl (kept ∙ ap (λ x. x.patches) same)
    | inr more ↦ inr (more ∙ ap (λ x. x.patches ++ n ∷ []) same)
  ]
]

pair_same : (x y : ℕ × ℕ) → x.0 ≡ y.0 → x.1 ≡ y.1 → x ≡ y
pair_same x y a b = ap (λ k. let p : ℕ × ℕ = (k, x.1) in p) a ∙ ap (λ k. let p : ℕ × ℕ = (y.0, k) in p) b

-- the groups of a writer's engagements stand there once each
names_apart : (es : List (ℕ × ℕ)) (writer : ℕ) → AreApart es → Unrepeated (map (λ e. e.1) (filter (λ e. e.0 == writer) es))
names_apart [] writer apart = tt
names_apart (e ∷ es) writer apart = elim (cases_Bool (e.0 == writer)) [
  | inl t ↦ rw t (
    λ i.
        let r = map-In (λ x. x.1) (filter (λ x. x.0 == writer) es) e.1 i in
        let f = filter-In (λ x. x.0 == writer) es r.0 r.1 in
        let c = to es r.0 f.0 in
        apart 0 (suc c.0) r.0 (omega arith) (omega (arith, c.1)) (pair_same e r.0 (eqb-true _ _ t ∙ sym (eqb-true _ _ f.1)) (sym r.2) ∙ sym c.2),
    names_apart es writer (λ i j d l m. apart (suc i) (suc j) d (omega (arith, l)) (omega (arith, m))),
  )
  | inr f ↦ rw f (names_apart es writer (λ i j d l m. apart (suc i) (suc j) d (omega (arith, l)) (omega (arith, m))))
]

engages : (gs : Groups) (writer g : ℕ) → In (engaged_by gs writer) g → is_engaged gs g ≡ true
engages gs writer g i =
    let r = map-In (λ e. e.1) (filter (λ e. e.0 == writer) gs.engaged) g i in
    let f = filter-In (λ e. e.0 == writer) gs.engaged r.0 r.1 in
    list_any-from (λ e. e.1 == g) gs.engaged r.0 f.0 (eq-eqb _ _ r.2)

same_default : (xs : List ℕ) (i d e : ℕ) → i < length xs → get_or xs i d ≡ get_or xs i e
same_default [] i d e l = absurd (omega (arith, l))
same_default (x ∷ xs) zero d e l = refl
same_default (x ∷ xs) (suc i) d e l = same_default xs i d e (omega (arith, l))

-- a patch of a group before one that the writer has engaged is named
is_named : (gs : Groups) (writer q p m : ℕ) → In (engaged_by gs writer) q → In (before gs q) p → In (patches_of gs p) m → In (after_of gs writer) m
is_named gs writer q p m iq ip im =
    In-rising (flat_map (patches_of gs) (flat_map (before gs) (engaged_by gs writer))) m
    (In-flat_map (patches_of gs) (flat_map (before gs) (engaged_by gs writer)) p m (In-flat_map (before gs) (engaged_by gs writer) q p iq ip) im)

module _ (ext : (run : Execution) (step : Step) → state_of (extended run step) ≡ after_step (state_of run) step) (numbered : (run : Execution) → IsNumbered (entries_of run)) where
  made_entries : (run : Execution) (block start : ℕ) (bytes after : List ℕ) (undo : Undo) (e : Entry)
      → Contains (entries_of (extended run (Create block start bytes after undo))) e
      → In (entries_of run) e ⊎ ((e.patch.no ≡ length (entries_of run)) × (e.patch.after ≡ after))
  made_entries run block start bytes after undo e c =
      elim (append-In (entries_of run) _ e (subst (λ st. In st.entries e) (ext run (Create block start bytes after undo)) (of _ e c))) [
        | inl i ↦ inl i
        | inr i ↦ elim i [ inl same ↦ inr (sym (ap (λ x. x.patch.no) same), sym (ap (λ x. x.patch.after) same)) | inr none ↦ absurd none ]
      ]

  made_length : (run : Execution) (block start : ℕ) (bytes after : List ℕ) (undo : Undo)
      → length (entries_of (extended run (Create block start bytes after undo))) ≡ length (entries_of run) + 1
  made_length run block start bytes after undo =
      ap (λ st. length st.entries) (ext run (Create block start bytes after undo)) ∙ length-append (entries_of run) _

  joins : (run : Execution) (gs : Groups) (writer block start : ℕ) (bytes after : List ℕ) (undo : Undo) → AreGroupsOf run gs
      → AreGroupsOf (extended run (Create block start bytes (named gs (Some writer) after) undo)) (with_patch gs (Some writer) (length (entries_of run)))
  joins run gs writer block start bytes after undo a =
      let n = length (entries_of run) in
      let mine = engaged_by gs writer in
      let now = with_patch gs (Some writer) n in
      let at : (g : ℕ) → IsEntered (group_at gs g) (group_at now g) (In mine g) n = λ g. entered_at gs.groups mine n g in
      let patch : (g m : ℕ) → Contains (patches_of now g) m → Contains (patches_of gs g) m ⊎ ((m ≡ n) × In mine g) = λ g m c.
      elim ((at g).patches m (of _ m c)) [ inl i ↦ inl (to _ m i) | inr o ↦ inr o ] in
      record {
        sealed = λ q p c. (at p).sealed ∙ a.sealed q p (subst (λ b. Contains b p) (at q).before c);
        free = λ g s. a.free g (sym (at g).sealed ∙ s);
        started = λ g t. (at g).started ∙ a.started g t;
        empty = λ g s. nothing (patches_of now g) (λ m i. elim ((at g).patches m i) [
          | inl o ↦ none_in m (subst (λ ps. Contains ps m) (a.empty g (sym (at g).started ∙ s)) (to _ m o))
          | inr o ↦ both_ways _ (sym (at g).started ∙ s) (a.started g (engages gs writer g o.1))
        ]);
        made = λ g m c.
            let long = made_length run block start bytes (named gs (Some writer) after) undo in
            elim (patch g m c) [ inl o ↦ let l = a.made g m o in omega (arith, l, long) | inr o ↦ let e = o.0 in omega (arith, e, long) ];
        names = λ q p m e ce cq cp cm.
            let p_before : Contains (before gs q) p = subst (λ b. Contains b p) (at q).before cp in
            let m_of : Contains (patches_of gs p) m = elim (patch p m cm) [
              | inl o ↦ o
              | inr o ↦ absurd (both_ways _ (a.free p (a.sealed q p p_before)) (engages gs writer p o.1))
            ] in
            elim (made_entries run block start bytes (named gs (Some writer) after) undo e ce) [
              | inl i ↦ elim (patch q e.patch.no cq) [
                | inl o ↦ a.names q p m e (to _ e i) o p_before m_of
                | inr o ↦ let l = (numbered run).below e (to _ e i) in let same = o.0 in absurd (omega (arith, l, same))
              ]
              | inr fresh_one ↦ elim (patch q e.patch.no cq) [
                | inl o ↦ let l = a.made q e.patch.no o in let same = fresh_one.0 in absurd (omega (arith, l, same))
                | inr o ↦
                    let i = is_named gs writer q p m o.1 (of _ p p_before) (of _ m m_of) in
                    subst (λ xs. Contains xs m) (sym fresh_one.1) (to _ m (In-append_right after (after_of gs writer) m i))
              ]
            ];
        once = a.once;
        rising = λ g. elim (entered_once gs.groups mine n g (names_apart gs.engaged writer a.once)) [
          | inl same ↦ subst AreRising (sym same) (a.rising g)
          | inr more ↦ subst AreRising (sym more) (all_pairs_push (λ x y. x < y) (patches_of gs g) n (a.rising g)
              (λ k d l. a.made g (get_or (patches_of gs g) k d) (k, l, same_default (patches_of gs g) k (get_or (patches_of gs g) k d) d l)))
        ];
      }

  pub patches_keep : (run : Execution) (gs : Groups) (writer : Option ℕ) (block start : ℕ) (bytes after : List ℕ) (undo : Undo) → AreGroupsOf run gs
      → AreGroupsOf (extended run (Create block start bytes (named gs writer after) undo)) (with_patch gs writer (length (entries_of run)))
  patches_keep run gs None block start bytes after undo a = steps_keep ext run gs (Create block start bytes after undo) a
  patches_keep run gs (Some writer) block start bytes after undo a = joins run gs writer block start bytes after undo a

-- Calls.

pub get_or-push : {X : Type 0} → (xs : List X) (i : ℕ) (d : X) → get_or (xs ++ d ∷ []) i d ≡ get_or xs i d
get_or-push [] i d = elim i as (λ k. get_or (d ∷ []) k d ≡ get_or [] k d) [ zero ↦ refl | suc k ↦ refl ]
get_or-push (x ∷ xs) i d = elim i as (λ k. get_or ((x ∷ xs) ++ d ∷ []) k d ≡ get_or (x ∷ xs) k d) [ zero ↦ refl | suc k ↦ get_or-push xs k d ]

any-append : {X : Type 0} → (p : X → Bool) (xs : List X) (x : X) → list_any p (xs ++ x ∷ []) ≡ true → (list_any p xs ≡ true) ⊎ (p x ≡ true)
any-append p xs x t = let r = list_any-at p (xs ++ x ∷ []) t in elim (append-In xs (x ∷ []) r.0 r.1) [
  | inl i ↦ inl (list_any-from p xs r.0 i r.2)
  | inr i ↦ elim i [ inl e ↦ inr (ap p e ∙ r.2) | inr none ↦ absurd none ]
]

-- a group that differs in nothing that the order rests on
pub record IsLike (old new : Group) : Type 0 where
  pub sealed : new.sealed ≡ old.sealed
  pub before : new.before ≡ old.before
  pub patches : new.patches ≡ old.patches

-- where no group's order or patches change, only who is engaged has to be looked at
like : (run : Execution) (gs now : Groups) → AreGroupsOf run gs → ((g : ℕ) → IsLike (group_at gs g) (group_at now g))
    → ((g : ℕ) → (group_at gs g).sealed ≡ true → is_engaged now g ≡ false)
    → ((g : ℕ) → is_engaged now g ≡ true → (group_at now g).started ≡ true)
    → ((g : ℕ) → (group_at now g).started ≡ false → (group_at gs g).started ≡ false)
    → AreApart now.engaged → AreGroupsOf run now
like run gs now a at free started unstarted once = record {
  sealed = λ q p c. (at p).sealed ∙ a.sealed q p (subst (λ b. Contains b p) (at q).before c);
  free = λ g s. free g (sym (at g).sealed ∙ s);
  started = started;
  empty = λ g s. (at g).patches ∙ a.empty g (unstarted g s);
  made = λ g n c. a.made g n (subst (λ ps. Contains ps n) (at g).patches c);
  names = λ q p m e ce cq cp cm.
      a.names q p m e ce (subst (λ ps. Contains ps e.patch.no) (at q).patches cq) (subst (λ b. Contains b p) (at q).before cp) (subst (λ ps. Contains ps m) (at p).patches cm);
  once = once;
  rising = λ g. subst AreRising (sym (at g).patches) (a.rising g);
}

same_like : (g h : Group) → h ≡ g → IsLike g h
same_like g h e = record { sealed = ap (λ x. x.sealed) e; before = ap (λ x. x.before) e; patches = ap (λ x. x.patches) e }

pub begun_keeps : (run : Execution) (gs : Groups) → AreGroupsOf run gs → AreGroupsOf run (begun gs)
begun_keeps run gs a =
    let at : (g : ℕ) → group_at (begun gs) g ≡ group_at gs g = λ g. get_or-push gs.groups g fresh in
    like run gs (begun gs) a (λ g. same_like _ _ (at g)) a.free (λ g t. ap (λ x. x.started) (at g) ∙ a.started g t) (λ g s. sym (ap (λ x. x.started) (at g)) ∙ s) a.once

-- What the causes say where there is none.

in_range : (gs : Groups) (g : ℕ) → is_open gs g ≡ true → g < length gs.groups
in_range gs g t = found gs.groups g t
  where
    found : (groups : List Group) (g : ℕ) → elim (slice_get groups g) [ Some group ↦ not group.closed | None ↦ false ] ≡ true → g < length groups
    found groups g t = elim (cases_lt g (length groups)) [ inl l ↦ l | inr past ↦ absurd (missing groups g past t) ]
      where
        missing : (groups : List Group) (g : ℕ) → length groups ≤ g → elim (slice_get groups g) [ Some group ↦ not group.closed | None ↦ false ] ≡ true → ⊥
        missing [] g past t = both_ways _ refl t
        missing (x ∷ xs) zero past t = absurd (omega arith)
        missing (x ∷ xs) (suc g) past t = missing xs g (omega arith) t

pub record MayEngage (gs : Groups) (writer group : ℕ) : Type 0 where
  pub within : group < length gs.groups
  pub unsealed : (group_at gs group).sealed ≡ false
  pub new : is_engaged_by gs writer group ≡ false

may_engage : (gs : Groups) (writer group : ℕ) → why_not_engaged gs writer group ≡ None → MayEngage gs writer group
may_engage gs writer group none =
    let first = none_if _ _ _ none in
    let second = none_if _ _ _ first.1 in
    let third = none_if _ _ _ second.1 in
    record { within = in_range gs group (not_false _ first.0); unsealed = second.0; new = third.0 }
  where
    not_false : (b : Bool) → not b ≡ false → b ≡ true
    not_false true e = refl
    not_false false e = absurd (cc)

pub record MayOrder (gs : Groups) (group on : ℕ) : Type 0 where
  pub within : group < length gs.groups
  pub on_within : on < length gs.groups
  pub two : group ≡ on → ⊥
  pub unsealed : (group_at gs group).sealed ≡ false
  pub unstarted : (group_at gs group).started ≡ false
  pub on_free : is_engaged gs on ≡ false

pub may_order : (gs : Groups) (group on : ℕ) → why_not_ordered gs group on ≡ None → MayOrder gs group on
may_order gs group on none =
    let open_both = none_if _ _ _ none in
    let other = none_if _ _ _ open_both.1 in
    let unsealed = none_if _ _ _ other.1 in
    let unstarted = none_if _ _ _ unsealed.1 in
    let unengaged = none_if _ _ _ unstarted.1 in
    let parts = or_parts _ _ open_both.0 in
    record {
      within = in_range gs group (not_false _ parts.0);
      on_within = in_range gs on (not_false _ parts.1);
      two = eqb-false _ _ other.0;
      unsealed = unsealed.0;
      unstarted = unstarted.0;
      on_free = unengaged.0;
    }
  where
    not_false : (b : Bool) → not b ≡ false → b ≡ true
    not_false true e = refl
    not_false false e = absurd (cc)

pub engaged_keeps : (run : Execution) (gs : Groups) (writer group : ℕ) → AreGroupsOf run gs → why_not_engaged gs writer group ≡ None → AreGroupsOf run (engaged gs writer group)
engaged_keeps run gs writer group a none =
    let may = may_engage gs writer group none in
    let begun_one : Group = record (group_at gs group) { started = true } in
    let now = engaged gs writer group in
    let at : (g : ℕ) → ((g ≡ group) × (group < length gs.groups) × (group_at now g ≡ begun_one)) ⊎ (group_at now g ≡ group_at gs g) = λ g. at_set gs.groups group g begun_one fresh in
    let who : (g : ℕ) → is_engaged now g ≡ true → (is_engaged gs g ≡ true) ⊎ (group ≡ g) = λ g t.
    elim (any-append (λ e. e.1 == g) gs.engaged (writer, group) t) [ inl o ↦ inl o | inr e ↦ inr (eqb-true _ _ e) ] in
    like run gs now a
    (λ g. elim (at g) [
      | inl w ↦
          let same = ap (λ k. group_at gs k) (sym w.0) in
          record { sealed = ap (λ x. x.sealed) w.2 ∙ ap (λ x. x.sealed) same; before = ap (λ x. x.before) w.2 ∙ ap (λ x. x.before) same; patches = ap (λ x. x.patches) w.2 ∙ ap (λ x. x.patches) same }
      | inr same ↦ same_like _ _ same
    ])
    (λ g s. false_from_ne_true _ (λ t. elim (who g t) [
      | inl o ↦ both_ways _ (a.free g s) o
      | inr e ↦ both_ways _ may.unsealed (ap (λ k. (group_at gs k).sealed) e ∙ s)
    ]))
    (λ g t. elim (at g) [
      | inl w ↦ ap (λ x. x.started) w.2
      | inr same ↦ ap (λ x. x.started) same ∙ (elim (who g t) [
        | inl o ↦ a.started g o
        | inr e ↦ elim (at g) [
          | inl w ↦ sym (ap (λ x. x.started) same) ∙ ap (λ x. x.started) w.2
          | inr _ ↦
              let written = get_or-set_same gs.groups group begun_one fresh may.within in
              sym (ap (λ x. x.started) same) ∙ ap (λ k. (group_at now k).started) (sym e) ∙ ap (λ x. x.started) written
        ]
      ])
    ])
    (λ g s. elim (at g) [
      | inl w ↦ absurd (both_ways _ s (ap (λ x. x.started) w.2))
      | inr same ↦ sym (ap (λ x. x.started) same) ∙ s
    ])
    (apart_more gs.engaged writer group a.once may.new)

pub disengaged_keeps : (run : Execution) (gs : Groups) (writer group : ℕ) → AreGroupsOf run gs → AreGroupsOf run (disengaged gs writer group)
disengaged_keeps run gs writer group a =
    let now = disengaged gs writer group in
    let before_it : (g : ℕ) → is_engaged now g ≡ true → is_engaged gs g ≡ true = λ g t.
    let r = list_any-at (λ e. e.1 == g) now.engaged t in
    let f = filter-In (λ e. not (e.0 == writer && e.1 == group)) gs.engaged r.0 r.1 in
    list_any-from (λ e. e.1 == g) gs.engaged r.0 f.0 r.2 in
    like run gs now a (λ g. same_like _ _ refl) (λ g s. false_from_ne_true _ (λ t. both_ways _ (a.free g s) (before_it g t))) (λ g t. a.started g (before_it g t)) (λ g s. s)
    (AllPairs-filter (λ d e. d ≡ e → ⊥) (λ e. not (e.0 == writer && e.1 == group)) gs.engaged a.once)

pub closed_keeps : (run : Execution) (gs : Groups) (group : ℕ) → AreGroupsOf run gs → AreGroupsOf run (closed gs group)
closed_keeps run gs group a =
    let ended : Group = record (group_at gs group) { closed = true } in
    let now = closed gs group in
    let at : (g : ℕ) → (group_at now g ≡ record (group_at gs g) { closed = true }) ⊎ (group_at now g ≡ group_at gs g) = λ g. elim (at_set gs.groups group g ended fresh) [
      | inl w ↦ inl (w.2 ∙ ap (λ k. let x : Group = record (group_at gs k) { closed = true } in x) (sym w.0))
      | inr same ↦ inr same
    ] in
    let started : (g : ℕ) → (group_at now g).started ≡ (group_at gs g).started = λ g. elim (at g) [ inl e ↦ ap (λ x. x.started) e | inr e ↦ ap (λ x. x.started) e ] in
    like run gs now a
    (λ g. elim (at g) [
      | inl e ↦ record { sealed = ap (λ x. x.sealed) e; before = ap (λ x. x.before) e; patches = ap (λ x. x.patches) e }
      | inr e ↦ same_like _ _ e
    ])
    a.free (λ g t. started g ∙ a.started g t) (λ g s. sym (started g) ∙ s) a.once

-- what a group is after an order
pub record IsOrdered (gs : Groups) (group on g : ℕ) (new : Group) : Type 0 where
  pub started : new.started ≡ (group_at gs g).started
  pub patches : new.patches ≡ patches_of gs g
  pub sealed : (new.sealed ≡ (group_at gs g).sealed) ⊎ ((g ≡ on) × (new.sealed ≡ true))
  pub before : (new.before ≡ before gs g) ⊎ ((g ≡ group) × (new.before ≡ rising (before gs group ++ on ∷ before gs on)))

pub ordered_at : (gs : Groups) (group on g : ℕ) → MayOrder gs group on → IsOrdered gs group on g (group_at (ordered gs group on) g)
ordered_at gs group on g may =
    let after : Group = record (group_at gs group) { before = rising (before gs group ++ on ∷ before gs on) } in
    let last : Group = record (group_at gs on) { sealed = true } in
    elim (at_set (set gs.groups group after) on g last fresh) [
      | inl w ↦
          let same = ap (λ k. group_at gs k) (sym w.0) in
          record {
            started = ap (λ x. x.started) w.2 ∙ ap (λ x. x.started) same;
            patches = ap (λ x. x.patches) w.2 ∙ ap (λ x. x.patches) same;
            sealed = inr (w.0, ap (λ x. x.sealed) w.2);
            before = inl (ap (λ x. x.before) w.2 ∙ ap (λ x. x.before) same);
          }
      | inr other ↦ elim (at_set gs.groups group g after fresh) [
        | inl w ↦
            let same = ap (λ k. group_at gs k) (sym w.0) in
            let now = other ∙ w.2 in
            record {
              started = ap (λ x. x.started) now ∙ ap (λ x. x.started) same;
              patches = ap (λ x. x.patches) now ∙ ap (λ x. x.patches) same;
              sealed = inl (ap (λ x. x.sealed) now ∙ ap (λ x. x.sealed) same);
              before = inr (w.0, ap (λ x. x.before) now);
            }
        | inr kept ↦
            let now = other ∙ kept in
            record { started = ap (λ x. x.started) now; patches = ap (λ x. x.patches) now; sealed = inl (ap (λ x. x.sealed) now); before = inl (ap (λ x. x.before) now) }
      ]
    ]

pub on_sealed : (gs : Groups) (group on : ℕ) → MayOrder gs group on → (group_at (ordered gs group on) on).sealed ≡ true
on_sealed gs group on may =
    let after : Group = record (group_at gs group) { before = rising (before gs group ++ on ∷ before gs on) } in
    let last : Group = record (group_at gs on) { sealed = true } in
    let l : on < length (set gs.groups group after) = subst (λ n. on < n) (sym (length-set gs.groups group after)) may.on_within in
    ap (λ x. x.sealed) (get_or-set_same (set gs.groups group after) on last fresh l)

pub now_before : (gs : Groups) (group on : ℕ) → MayOrder gs group on → before (ordered gs group on) group ≡ rising (before gs group ++ on ∷ before gs on)
now_before gs group on may =
    let after : Group = record (group_at gs group) { before = rising (before gs group ++ on ∷ before gs on) } in
    let last : Group = record (group_at gs on) { sealed = true } in
    ap (λ x. x.before) (get_or-set_other (set gs.groups group after) on group last fresh may.two ∙ get_or-set_same gs.groups group after fresh may.within)

pub ordered_keeps : (run : Execution) (gs : Groups) (group on : ℕ) → AreGroupsOf run gs → why_not_ordered gs group on ≡ None → AreGroupsOf run (ordered gs group on)
ordered_keeps run gs group on a none =
    let may = may_order gs group on none in
    let now = ordered gs group on in
    let at : (g : ℕ) → IsOrdered gs group on g (group_at now g) = λ g. ordered_at gs group on g may in
    let still : (g : ℕ) → (group_at gs g).sealed ≡ true → (group_at now g).sealed ≡ true = λ g s. elim (at g).sealed [ inl e ↦ e ∙ s | inr e ↦ e.1 ] in
    let unpatched : patches_of gs group ≡ [] = a.empty group may.unstarted in
    record {
      sealed = λ q p c. elim (at q).before [
        | inl e ↦ still p (a.sealed q p (subst (λ b. Contains b p) e c))
        | inr e ↦ elim (append-In (before gs group) (on ∷ before gs on) p (rising-In _ p (of _ p (subst (λ b. Contains b p) e.1 c)))) [
          | inl i ↦ still p (a.sealed group p (to _ p i))
          | inr i ↦ elim i [ inl same ↦ ap (λ k. (group_at now k).sealed) (sym same) ∙ on_sealed gs group on may | inr j ↦ still p (a.sealed on p (to _ p j)) ]
        ]
      ];
      free = λ g s. elim (at g).sealed [ inl e ↦ a.free g (sym e ∙ s) | inr e ↦ ap (λ k. is_engaged gs k) e.0 ∙ may.on_free ];
      started = λ g t. (at g).started ∙ a.started g t;
      empty = λ g s. (at g).patches ∙ a.empty g (sym (at g).started ∙ s);
      made = λ g n c. a.made g n (subst (λ ps. Contains ps n) (at g).patches c);
      names = λ q p m e ce cq cp cm.
          let eq = subst (λ ps. Contains ps e.patch.no) (at q).patches cq in
          elim (at q).before [
            | inl same ↦ a.names q p m e ce eq (subst (λ b. Contains b p) same cp) (subst (λ ps. Contains ps m) (at p).patches cm)
            | inr here ↦ absurd (none_in e.patch.no (subst (λ ps. Contains ps e.patch.no) (ap (λ k. patches_of gs k) here.0 ∙ unpatched) eq))
          ];
      once = a.once;
      rising = λ g. subst AreRising (sym (at g).patches) (a.rising g);
    }
