-- What a send leaves behind may be taken back first, and the image stays what it was until the next send of its block.
use Rattle.std.proofs.Common.{◌≡◌, ◌≢◌, ℕ, ◌∙◌, inl, inr, Bool, true, false, List, [], ◌∷◌, ◌++◌, length, map, refl, sym, ap, arith, subst}
use Rattle.std.specs.Prelude.{◌==◌, ◌&&◌, not, IsFalse, filter}
use Rattle.std.proofs.lemmas.Bool.{cases_Bool, and_parts, and_from, both_ways, not-true}
use Rattle.std.proofs.lemmas.Bool.Decides.{nat_tests}
use Rattle.patch_model.specs.Entries.{In-has, has-In}
use Rattle.patch_model.specs.Step.{Step, Create, Merge, Send, Complete}
use Rattle.patch_model.specs.Pile.{pile}
use Rattle.patch_model.specs.Execution.{Execution, extended}
use Rattle.patch_model.specs.Entry.{Entry, is_memory, is_flight, is_durable, is_among, in_memory_of}
use Rattle.patch_model.specs.Dependency.{depends_directly}
use Rattle.patch_model.specs.Ready.{has, ready}
use Rattle.patch_model.specs.State.{fresh, joined, sent, landed, class_of, after_step, state_of, entries_of, has_flight}
use Rattle.patch_model.specs.History.{without, image, HoldsDependents, history_of, History}
use Rattle.patch_model.specs.Legal.{IsLegal}
use Rattle.patch_model.specs.Orderly.{left_behind}
use Rattle.patch_model.specs.Member.{In, In-from_Contains, Contains-from_In, In-filter, filter-In, filter-same}
use Rattle.patch_model.specs.Unchanged.{mark-joined, patch-joined, patch-landed, patch-sent}
use Rattle.patch_model.proofs.Among.{among_map-at, among_map-from}
use Rattle.patch_model.proofs.Striking.{ready-In}
use Rattle.patch_model.proofs.Numbering.{AreApart-run, ready_is_largest, state_of-extended}
use Rattle.patch_model.proofs.Classes.{goes_along}
use Rattle.patch_model.proofs.Crashes.{not_both, not_flying}
use Rattle.patch_model.proofs.Marks.{IsSettled-run, sent_from}
use Rattle.patch_model.proofs.Rings.{same_name}
use Rattle.patch_model.proofs.Waiting.{hard_in_ready, memory_left}
use Rattle.patch_model.proofs.Images.{pile_of-history}

abbrev stays_behind : List Entry → ℕ → Entry → Bool
stays_behind all block e = in_memory_of block e && not (has (ready all block) e)

module _ (run : Execution) (block : ℕ) (legal : IsLegal run) (none : has_flight (state_of run) block ≡ false) where
  record IsLeft (e : Entry) : Type 0 where
    inside : In (entries_of run) e
    memory : is_memory e ≡ true
    here : e.patch.block ≡ block
    behind : has (ready (entries_of run) block) e ≡ false

  left-parts : (e : Entry) → In (filter (stays_behind (entries_of run) block) (entries_of run)) e → IsLeft e
  left-parts e i =
      let r = filter-In (stays_behind (entries_of run) block) (entries_of run) e i in
      let p = and_parts (in_memory_of block e) (not (has (ready (entries_of run) block) e)) r.1 in
      let q = and_parts (is_memory e) (e.patch.block == block) p.0 in
      record { inside = r.0; memory = q.0; here = grind (arith, nat_tests, q.1); behind = not-true (has (ready (entries_of run) block) e) p.1 }

  left-from : (e : Entry) → IsLeft e → is_among (left_behind (entries_of run) block) e.class ≡ true
  left-from e l = among_map-from (λ x. x.class) (filter (stays_behind (entries_of run) block) (entries_of run)) e
      (In-filter (stays_behind (entries_of run) block) (entries_of run) e l.inside (and_from _ _ (and_from _ _ l.memory (same_name e.patch.block block l.here)) (rw l.behind refl)))

  -- with a patch that is left its class is
  left-class : (e f : Entry) → IsLeft e → In (entries_of run) f → e.class ≡ f.class → IsLeft f
  left-class e f l j same =
      let a = (IsSettled-run run legal).classes.alike f e j l.inside (sym same) in
      record {
        inside = j;
        memory = rw a.mark l.memory;
        here = a.block ∙ l.here;
        behind = elim (cases_Bool (has (ready (entries_of run) block) f)) [
          | inl u ↦ absurd (both_ways (has (ready (entries_of run) block) e) l.behind (goes_along (entries_of run) block (AreApart-run run) f e j l.inside (sym same) u))
          | inr u ↦ u
        ];
      }

  left-named : (f : Entry) → In (entries_of run) f → is_among (left_behind (entries_of run) block) f.class ≡ true → IsLeft f
  left-named f j h =
      let r = among_map-at (λ x. x.class) (filter (stays_behind (entries_of run) block) (entries_of run)) f.class h in
      left-class r.0 f (left-parts r.0 r.1) j r.2

  not_hard : (e : Entry) → IsLeft e → e.hard ≡ false
  not_hard e l = elim (cases_Bool e.hard) [
    | inl u ↦
        let i = hard_in_ready run block e legal none (Contains-from_In _ e l.inside) (and_from _ _ l.memory (same_name e.patch.block block l.here)) u in
        absurd (both_ways (has (ready (entries_of run) block) e) l.behind (In-has (ready (entries_of run) block) e (In-from_Contains _ e i)))
    | inr u ↦ u
  ]

  -- what depends on a patch that is left is left, where it is of the block and not durable
  left-dependents : (e f : Entry) → In (entries_of run) e → e.patch.block ≡ block → is_durable e ≡ false → depends_directly e.patch f.patch ≡ true → IsLeft f → IsLeft e
  left-dependents e f i here live d l =
      let still : is_flight e ≡ false = elim (cases_Bool (is_flight e)) [
        | inl u ↦ absurd (both_ways (has_flight (state_of run) block) none (subst (λ n. has_flight (state_of run) n ≡ true) here ((IsSettled-run run legal).flights e i u)))
        | inr u ↦ u
      ] in
      record {
        inside = i;
        memory = memory_left e.mark still live;
        here = here;
        behind = elim (cases_Bool (has (ready (entries_of run) block) e)) [
          | inl u ↦
              let in_set = has-In (entries_of run) (ready (entries_of run) block) e (AreApart-run run) (λ x k. (ready-In (entries_of run) block (AreApart-run run) x k).0) i u in
              elim ((ready_is_largest run block).writable.met e f (Contains-from_In _ e in_set) (Contains-from_In _ f l.inside) d) [
                | inl done ↦ absurd (not_both f.mark l.memory done)
                | inr k ↦ absurd (both_ways (has (ready (entries_of run) block) f) l.behind (In-has (ready (entries_of run) block) f (In-from_Contains _ f k)))
              ]
          | inr u ↦ u
        ];
      }

  left_holds : HoldsDependents (history_of run block) (left_behind (entries_of run) block)
  left_holds = record {
    undoable = λ c h.
        let r = among_map-at (λ x. x.class) (filter (stays_behind (entries_of run) block) (entries_of run)) c h in
        let l = left-parts r.0 r.1 in
        let hard : not r.0.hard ≡ true = rw (not_hard r.0 l) refl in
        (r.0, Contains-from_In _ r.0 (In-filter (λ e. e.patch.block == block) (entries_of run) r.0 l.inside (same_name r.0.patch.block block l.here)), r.2, and_from _ _ l.memory hard);
    dependents = λ e f i j live d h.
        let p = filter-In (λ e. e.patch.block == block) (entries_of run) e (In-from_Contains _ e i) in
        let q = filter-In (λ e. e.patch.block == block) (entries_of run) f (In-from_Contains _ f j) in
        left-from e (left-dependents e f p.0 (grind (arith, nat_tests, p.1)) (not-true (is_durable e) live) d (left-named f q.0 h));
  }

pub leaving_holds : (run : Execution) (block : ℕ) → IsLegal run → IsFalse (has_flight (state_of run) block) → HoldsDependents (history_of run block) (left_behind (entries_of run) block)
leaving_holds run block legal none = left_holds run block legal none

-- the patches that pass, of a list and of what it became
pub kept_same : (g : Entry → Entry) (p q : Entry → Bool) (es : List Entry) → ((e : Entry) → (g e).patch ≡ e.patch) → ((e : Entry) → In es e → p (g e) ≡ q e)
    → map (λ e. e.patch) (filter p (map g es)) ≡ map (λ e. e.patch) (filter q es)
kept_same g p q [] patch same = refl
kept_same g p q (x ∷ xs) patch same =
    let rest : map (λ e. e.patch) (filter p (map g xs)) ≡ map (λ e. e.patch) (filter q xs) = kept_same g p q xs patch (λ e i. same e (inr i)) in
    let at : p (g x) ≡ q x = same x (inl refl) in
    elim (cases_Bool (q x)) [
      | inl u ↦ rw (u, at ∙ u) (ap (λ z. z ∷ map (λ e. e.patch) (filter p (map g xs))) (patch x) ∙ ap (λ zs. x.patch ∷ zs) rest)
      | inr u ↦ rw (u, at ∙ u) rest
    ]

pub filter-last : (p : Entry → Bool) (es : List Entry) (x : Entry) → p x ≡ false → filter p (es ++ x ∷ []) ≡ filter p es
filter-last p [] x h = rw h refl
filter-last p (y ∷ ys) x h = elim (cases_Bool (p y)) [ inl u ↦ rw u (ap (λ zs. y ∷ zs) (filter-last p ys x h)) | inr u ↦ rw u (filter-last p ys x h) ]

abbrev in_image : ℕ → Entry → Bool
in_image block e = e.patch.block == block && not (is_memory e)

-- the patches after one more step
pub entries_on : (run : Execution) (step : Step) → entries_of (extended run step) ≡ (after_step (state_of run) step).entries
entries_on run step = ap (λ st. st.entries) (state_of-extended run step)

image_on : (run : Execution) (step : Step) (block : ℕ)
    → image (history_of (extended run step) block) ≡ pile (history_of run block).first (map (λ e. e.patch) (filter (in_image block) (after_step (state_of run) step).entries))
image_on run step block =
    pile_of-history (extended run step) block (λ e. not (is_memory e))
    ∙ ap (λ es. pile (history_of run block).first (map (λ e. e.patch) (filter (in_image block) es))) (entries_on run step)

-- a send of the block gives the block without what is left behind
leaving-at : (run : Execution) (block : ℕ) → (legal : IsLegal run) → (none : has_flight (state_of run) block ≡ false) → (e : Entry) → In (entries_of run) e
    → in_image block (sent (ready (entries_of run) block) e) ≡ (e.patch.block == block && not (is_among (left_behind (entries_of run) block) e.class))
leaving-at run block legal none e i = elim (cases_Bool (has (ready (entries_of run) block) e)) [
  | inl u ↦
      let off : is_among (left_behind (entries_of run) block) e.class ≡ false = elim (cases_Bool (is_among (left_behind (entries_of run) block) e.class)) [
        | inl v ↦ absurd (both_ways (has (ready (entries_of run) block) e) (left-named run block legal none e i v).behind u)
        | inr v ↦ v
      ] in
      rw (u, off) refl
  | inr u ↦ elim (cases_Bool (is_memory e)) [
    | inl m ↦ elim (cases_Bool (e.patch.block == block)) [
      | inl b ↦
          let at : is_among (left_behind (entries_of run) block) e.class ≡ true = left-from run block legal none e (record { inside = i; memory = m; here = grind (arith, nat_tests, b); behind = u }) in
          rw (u, m, at) refl
      | inr b ↦ rw (u, b) refl
    ]
    | inr m ↦
        let off : is_among (left_behind (entries_of run) block) e.class ≡ false = elim (cases_Bool (is_among (left_behind (entries_of run) block) e.class)) [
          | inl v ↦ absurd (both_ways (is_memory e) m (left-named run block legal none e i v).memory)
          | inr v ↦ v
        ] in
        rw (u, m, off) refl
  ]
]

pub leaving_image : (run : Execution) (block : ℕ) → IsLegal run → IsFalse (has_flight (state_of run) block)
    → image (history_of (extended run (Send block)) block) ≡ without (history_of run block) (left_behind (entries_of run) block)
leaving_image run block legal none = image_on run (Send block) block
    ∙ ap (λ ps. pile (history_of run block).first ps)
    (kept_same (sent (ready (entries_of run) block)) (in_image block) (λ e. e.patch.block == block && not (is_among (left_behind (entries_of run) block) e.class)) (entries_of run) (patch-sent _)
    (λ e i. leaving-at run block legal none e i))
    ∙ sym (pile_of-history run block (λ e. not (is_among (left_behind (entries_of run) block) e.class)))

-- no other step changes the block's image
landed-image : (block other : ℕ) (e : Entry) → in_image block (landed other e) ≡ in_image block e
landed-image block other e = elim (cases_Bool (is_flight e && e.patch.block == other)) [
  | inl u ↦
      let fly = (and_parts (is_flight e) (e.patch.block == other) u).0 in
      let off : is_memory e ≡ false = elim (cases_Bool (is_memory e)) [ inl m ↦ absurd (not_flying e.mark m fly) | inr m ↦ m ] in
      rw (u, off) refl
  | inr u ↦ rw u refl
]

joined-image : (block a b : ℕ) (e : Entry) → in_image block (joined a b e) ≡ in_image block e
joined-image block a b e = rw (mark-joined a b e, patch-joined a b e) refl

sent-image : (run : Execution) (block other : ℕ) → other ≢ block → (e : Entry) → In (entries_of run) e → in_image block (sent (ready (entries_of run) other) e) ≡ in_image block e
sent-image run block other ne e i = elim (cases_Bool (has (ready (entries_of run) other) e)) [
  | inl u ↦
      let at = (sent_from (entries_of run) other (AreApart-run run) e i u).1 in
      let off : (e.patch.block == block) ≡ false = elim (cases_Bool (e.patch.block == block)) [
        | inl v ↦ absurd (ne (grind (arith, nat_tests, at, v)))
        | inr v ↦ v
      ] in
      rw (u, off) refl
  | inr u ↦ rw u refl
]

pub image_stays : (run : Execution) (step : Step) (block : ℕ) → step ≢ Send block → image (history_of (extended run step) block) ≡ image (history_of run block)
image_stays run (Create other begin bytes after undo) block ne =
    let new : Entry = fresh (entries_of run) (record { no = length (entries_of run); block = other; start = begin; bytes = bytes; after = after; undo = undo }) in
    let out : in_image block new ≡ false = elim (cases_Bool (other == block)) [ inl u ↦ rw u refl | inr u ↦ rw u refl ] in
    image_on run (Create other begin bytes after undo) block
    ∙ ap (λ es. pile (history_of run block).first (map (λ e. e.patch) es)) (filter-last (in_image block) (entries_of run) new out)
    ∙ sym (pile_of-history run block (λ e. not (is_memory e)))
image_stays run (Merge a b) block ne = image_on run (Merge a b) block
    ∙ ap (λ ps. pile (history_of run block).first ps)
    (kept_same (joined (class_of (entries_of run) a) (class_of (entries_of run) b)) (in_image block) (in_image block) (entries_of run) (patch-joined _ _) (λ e i. joined-image block _ _ e))
    ∙ sym (pile_of-history run block (λ e. not (is_memory e)))
image_stays run (Send other) block ne = image_on run (Send other) block
    ∙ ap (λ ps. pile (history_of run block).first ps)
    (kept_same (sent (ready (entries_of run) other)) (in_image block) (in_image block) (entries_of run) (patch-sent _) (λ e i. sent-image run block other (λ same. ne (ap (λ n. Send n) same)) e i))
    ∙ sym (pile_of-history run block (λ e. not (is_memory e)))
image_stays run (Complete other) block ne = image_on run (Complete other) block
    ∙ ap (λ ps. pile (history_of run block).first ps)
    (kept_same (landed other) (in_image block) (in_image block) (entries_of run) (patch-landed other) (λ e i. landed-image block other e))
    ∙ sym (pile_of-history run block (λ e. not (is_memory e)))

-- two lists of the same names leave the same bytes
pub same_set : (h : History) (a b : List ℕ) → ((n : ℕ) → is_among a n ≡ is_among b n) → without h a ≡ without h b
same_set h a b same = ap (λ es. pile h.first (map (λ e. e.patch) es))
    (filter-same (λ e. not (is_among a e.class)) (λ e. not (is_among b e.class)) h.entries (λ e. ap not (same e.class)))
