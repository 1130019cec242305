-- What is listed of a block, before and after a step.
use Rattle.std.proofs.Common.{◌≡◌, ℕ, zero, suc, ◌+◌, ◌<◌, ◌≤◌, ◌∙◌, inl, inr, Bool, true, false, List, [], ◌∷◌, ◌++◌, length, refl, sym, ap, arith, Some, take, drop, length-append}
use Rattle.std.specs.Prelude.{◌==◌, ◌≢◌, ◌-◌, ◌&&◌, not, slice_index_or}
use Rattle.std.specs.Option.{option_map, option_map_or}
use Rattle.std.proofs.lemmas.Bool.{cases_Bool, cases_eq, both_ways, eq-eqb, eqb-true, ne_eqb, and_from, and_parts, and_left, and_right, false_from_ne_true}
use Rattle.std.proofs.lemmas.List.{take-append-le}
use Rattle.patch_model.specs.Entry.{marks_memory, marks_flight}
use Rattle.patch_links.specs.State.{Node, Nodes, node_at, is_at, changed_at}
use Rattle.patch_links.specs.Waiting.{of_block, ready_in, is_due, lowered, readied}
use Rattle.patch_links.specs.Lists.{OfBlock, times, once, due_in, flying_in, classes_of, IsListed, pushed}
use Rattle.patch_links.specs.Invariants.{KeepsPlain}
use Rattle.patch_links.proofs.Counts.{count-cons, count-append, count-last, once-le, once-most, once-true, once-false}
use Rattle.patch_links.proofs.Places.{is-at, at-is, changed-here, changed-else, changed-long, is-changed, count-alike, count-free, fits}
use Rattle.patch_links.proofs.Keeping.{plain-test}

-- nothing changed that the lists tell of
pub record AreAlike (block : ℕ) (old new : Nodes) : Type 0 where
  pub due : (key : ℕ) → is_at (due_in block) new key ≡ is_at (due_in block) old key
  pub ready : (key : ℕ) → is_at (ready_in block) new key ≡ is_at (ready_in block) old key
  pub flying : (key : ℕ) → is_at (flying_in block) new key ≡ is_at (flying_in block) old key
  pub of : (key : ℕ) → is_at (of_block block) new key ≡ is_at (of_block block) old key

pub listed-alike : (block : ℕ) (old new : Nodes) (of : OfBlock) → AreAlike block old new → IsListed block old of → IsListed block new of
listed-alike block old new of a l = record {
  due = λ k. l.due k ∙ sym (ap once (a.due k));
  ready = λ k. l.ready k ∙ sym (ap once (a.ready k));
  flying = λ k. l.flying k ∙ sym (ap once (a.flying k));
  counted = l.counted ∙ sym (count-free (of_block block) old new a.of);
  within = l.within;
  room_ready = l.room_ready;
  room_flying = l.room_flying;
}

-- a block is as it was where others changed
pub alike-others : (block other : ℕ) (old new : Nodes) → KeepsPlain old new → ((key : ℕ) → is_at (of_block block) old key ≡ false → node_at new key ≡ node_at old key) → other ≢ block
    → AreAlike other old new
alike-others block other old new k rest apart = record {
  due = λ key. by key (λ x. is_due x);
  ready = λ key. by key (λ x. x.ready);
  flying = λ key. by key (λ x. marks_flight x.class.mark);
  of = λ key. plain-test (of_block other) old new key k (λ x. refl);
}
  where
    by : (key : ℕ) (test : Node → Bool) → is_at (λ x. x.class.block == other && test x) new key ≡ is_at (λ x. x.class.block == other && test x) old key
    by key test = elim (cases_Bool (is_at (of_block block) old key)) [
      | inl t ↦ off new key (plain-test (of_block block) old new key k (λ x. refl) ∙ t) ∙ sym (off old key t)
      | inr t ↦ ap (λ o. option_map_or (λ x. x.class.block == other && test x) o false) (rest key t)
    ]
      where
        off : (nodes : Nodes) (j : ℕ) → is_at (of_block block) nodes j ≡ true → is_at (λ x. x.class.block == other && test x) nodes j ≡ false
        off nodes j t = let x = at-is (of_block block) nodes j t in
            is-at (λ x. x.class.block == other && test x) nodes j x.0 x.1 ∙ and_left _ _ (ne_eqb x.0.class.block other (λ e. apart (sym e ∙ eqb-true x.0.class.block block x.2)))

-- a class that is due is of the block
pub due-of : (block : ℕ) (nodes : Nodes) (key : ℕ) → is_at (due_in block) nodes key ≡ true → is_at (of_block block) nodes key ≡ true
due-of block nodes key t =
    let x = at-is (due_in block) nodes key t in
    is-at (of_block block) nodes key x.0 x.1 ∙ (and_parts (x.0.class.block == block) (is_due x.0) x.2).0

due-stays : (x : Node) → is_due x ≡ true → is_due (lowered x) ≡ true
due-stays x t =
    let parts = and_parts (marks_memory x.class.mark) (x.waits == 0) t in
    let none : x.waits ≡ 0 = eqb-true x.waits 0 parts.1 in
    and_from _ _ parts.0 (eq-eqb (x.waits - 1) 0 (omega arith))

lowered-due : (block : ℕ) (nodes : Nodes) (key : ℕ) → is_at (of_block block) nodes key ≡ true
    → (is_at (due_in block) nodes key ≡ is_at is_due nodes key) × (is_at (due_in block) (changed_at lowered nodes key) key ≡ is_at is_due (changed_at lowered nodes key) key)
    × (is_at is_due nodes key ≡ true → is_at is_due (changed_at lowered nodes key) key ≡ true)
lowered-due block nodes key t =
    let x = at-is (of_block block) nodes key t in
    let now : node_at (changed_at lowered nodes key) key ≡ Some (lowered x.0) = changed-here lowered nodes key ∙ ap (option_map lowered) x.1 in (
      is-at (due_in block) nodes key x.0 x.1 ∙ ap (λ b. b && is_due x.0) x.2 ∙ sym (is-at is_due nodes key x.0 x.1),
      is-at (due_in block) (changed_at lowered nodes key) key (lowered x.0) now ∙ ap (λ b. b && is_due (lowered x.0)) x.2 ∙ sym (is-at is_due (changed_at lowered nodes key) key (lowered x.0) now),
      λ d. is-at is_due (changed_at lowered nodes key) key (lowered x.0) now ∙ due-stays x.0 (sym (is-at is_due nodes key x.0 x.1) ∙ d),
    )

-- a class of the block is lowered, and was or isn't due
pub lowered-same : (block : ℕ) (nodes : Nodes) (of : OfBlock) (key : ℕ) → is_at (of_block block) nodes key ≡ true
    → (not (is_at is_due nodes key) && is_at is_due (changed_at lowered nodes key) key) ≡ false → IsListed block nodes of → IsListed block (changed_at lowered nodes key) of
lowered-same block nodes of key t f l =
    let d = lowered-due block nodes key t in
    let here : is_at (due_in block) (changed_at lowered nodes key) key ≡ is_at (due_in block) nodes key = d.1 ∙ elim (cases_Bool (is_at is_due nodes key)) [
      | inl u ↦ d.2 u ∙ sym (d.0 ∙ u)
      | inr u ↦ sym (ap (λ b. not b && is_at is_due (changed_at lowered nodes key) key) u) ∙ f ∙ sym (d.0 ∙ u)
    ] in
    listed-alike block nodes (changed_at lowered nodes key) of (record {
      due = λ k. elim (cases_eq k key) [ inl e ↦ rw e here | inr n ↦ ap (λ o. option_map_or (due_in block) o false) (changed-else lowered nodes key k n) ];
      ready = λ k. is-changed (ready_in block) lowered nodes key k (λ x. refl);
      flying = λ k. is-changed (flying_in block) lowered nodes key k (λ x. refl);
      of = λ k. is-changed (of_block block) lowered nodes key k (λ x. refl);
    }) l

-- it comes due, and stands last
pub lowered-due-now : (block : ℕ) (nodes : Nodes) (of : OfBlock) (key : ℕ) → is_at (of_block block) nodes key ≡ true
    → (not (is_at is_due nodes key) && is_at is_due (changed_at lowered nodes key) key) ≡ true → IsListed block nodes of → IsListed block (changed_at lowered nodes key) (pushed of key)
lowered-due-now block nodes of key t f l =
    let d = lowered-due block nodes key t in
    let parts = and_parts (not (is_at is_due nodes key)) (is_at is_due (changed_at lowered nodes key) key) f in
    let was : is_at (due_in block) nodes key ≡ false = d.0 ∙ false_from_ne_true _ (λ u. both_ways _ (ap not u) parts.0) in
    let now : is_at (due_in block) (changed_at lowered nodes key) key ≡ true = d.1 ∙ parts.1 in
    record {
      due = λ k. elim (cases_eq k key) [
        | inl e ↦ rw e (
            let last = count-last (λ j. j == key) of.ready key in
            let one : once (key == key) ≡ 1 = ap once (eq-eqb key key refl) in
            let a : once (is_at (due_in block) nodes key) ≡ 0 = ap once was in
            let b : once (is_at (due_in block) (changed_at lowered nodes key) key) ≡ 1 = ap once now in
            let h = l.due key in omega arith)
        | inr n ↦
            let last = count-last (λ j. j == k) of.ready key in
            let one : once (key == k) ≡ 0 = ap once (ne_eqb key k (λ e. n (sym e))) in
            let same : once (is_at (due_in block) (changed_at lowered nodes key) k) ≡ once (is_at (due_in block) nodes k) = ap (λ o. once (option_map_or (due_in block) o false)) (changed-else lowered nodes key k n) in
            let h = l.due k in omega arith
      ];
      ready = λ k. ap (λ xs. times xs k) (take-append-le of.done of.ready (key ∷ []) l.within) ∙ l.ready k ∙ sym (ap once (is-changed (ready_in block) lowered nodes key k (λ x. refl)));
      flying = λ k. l.flying k ∙ sym (ap once (is-changed (flying_in block) lowered nodes key k (λ x. refl)));
      counted = l.counted ∙ sym (count-alike (of_block block) nodes (changed_at lowered nodes key) (changed-long lowered nodes key) (λ k. is-changed (of_block block) lowered nodes key k (λ x. refl)));
      within = let e = length-append of.ready (key ∷ []) in let w = l.within in omega arith;
      room_ready = l.room_ready;
      room_flying = l.room_flying;
    }

-- there is room for one key more of a class of the block that isn't due
pub room-ready : (block : ℕ) (nodes : Nodes) (of : OfBlock) (key : ℕ) → is_at (of_block block) nodes key ≡ true → is_at is_due nodes key ≡ false → IsListed block nodes of
    → length of.ready < of.room_ready
room-ready block nodes of key t u l =
    let e = length-append of.ready (key ∷ []) in
    let c = l.counted in
    let r = l.room_ready in
    let most : length (of.ready ++ key ∷ []) ≤ classes_of block nodes = fits (of_block block) (of.ready ++ key ∷ []) nodes (λ k.
    let last = count-last (λ j. j == k) of.ready key in
    let h = l.due k in
    elim (cases_eq k key) [
      | inl same ↦
          let off : is_at (due_in block) nodes k ≡ false = ap (is_at (due_in block) nodes) same ∙ off-here in
          let a : once (is_at (due_in block) nodes k) ≡ 0 = ap once off in
          let b : once (is_at (of_block block) nodes k) ≡ 1 = ap once (ap (is_at (of_block block) nodes) same ∙ t) in
          let m = once-most (key == k) in omega arith
      | inr n ↦
          let a : once (key == k) ≡ 0 = ap once (ne_eqb key k (λ e. n (sym e))) in
          let m = once-le (is_at (due_in block) nodes k) (is_at (of_block block) nodes k) (due-of block nodes k) in omega arith
    ]) in
    omega arith
  where
    off-here : is_at (due_in block) nodes key ≡ false
    off-here = let x = at-is (of_block block) nodes key t in
        is-at (due_in block) nodes key x.0 x.1 ∙ and_right (x.0.class.block == block) _ (sym (is-at is_due nodes key x.0 x.1) ∙ u)

-- there are no more keys than classes
pub ready-most : (block : ℕ) (nodes : Nodes) (of : OfBlock) → IsListed block nodes of → length of.ready ≤ of.count
ready-most block nodes of l =
    let c = l.counted in
    let most : length of.ready ≤ classes_of block nodes = fits (of_block block) of.ready nodes (λ k.
    let h = l.due k in
    let m = once-le (is_at (due_in block) nodes k) (is_at (of_block block) nodes k) (due-of block nodes k) in omega arith) in
    omega arith

split-at : (xs : List ℕ) (i : ℕ) → i < length xs → xs ≡ take i xs ++ (slice_index_or xs i 0 ∷ drop (suc i) xs)
split-at [] i h = absurd (omega arith)
split-at (x ∷ xs) zero h = refl
split-at (x ∷ xs) (suc i) h = ap (λ ys. x ∷ ys) (split-at xs i (omega arith))

take-more : (xs : List ℕ) (i : ℕ) → i < length xs → take (suc i) xs ≡ take i xs ++ (slice_index_or xs i 0 ∷ [])
take-more [] i h = absurd (omega arith)
take-more (x ∷ xs) zero h = refl
take-more (x ∷ xs) (suc i) h = ap (λ ys. x ∷ ys) (take-more xs i (omega arith))

-- what is known of the next key: its class is due, and not in the ready set yet
pub next-is : (block : ℕ) (nodes : Nodes) (of : OfBlock) (key : ℕ) → IsListed block nodes of → of.done < length of.ready → key ≡ slice_index_or of.ready of.done 0
    → (is_at (due_in block) nodes key ≡ true) × (is_at (ready_in block) nodes key ≡ false)
next-is block nodes of key l h is =
    let first : slice_index_or of.ready of.done 0 ≡ key = sym is in
    let whole : times of.ready key ≡ times (take of.done of.ready) key + (once (slice_index_or of.ready of.done 0 == key) + times (drop (suc of.done) of.ready) key) =
    ap (λ xs. times xs key) (split-at of.ready of.done h) ∙ count-append (λ j. j == key) (take of.done of.ready) (slice_index_or of.ready of.done 0 ∷ drop (suc of.done) of.ready)
    ∙ ap (λ n. times (take of.done of.ready) key + n) (count-cons (λ j. j == key) (slice_index_or of.ready of.done 0) (drop (suc of.done) of.ready)) in
    let one : once (slice_index_or of.ready of.done 0 == key) ≡ 1 = ap once (eq-eqb (slice_index_or of.ready of.done 0) key first) in
    let d = l.due key in
    let r = l.ready key in
    let most = once-most (is_at (due_in block) nodes key) in
    (once-true _ (omega arith), once-false _ (omega arith))

-- the next class comes into the ready set
pub listed-next : (block : ℕ) (nodes : Nodes) (of : OfBlock) (key : ℕ) → IsListed block nodes of → of.done < length of.ready → key ≡ slice_index_or of.ready of.done 0
    → IsListed block (changed_at readied nodes key) (record of { done = of.done + 1 })
listed-next block nodes of key l h is =
    let next = next-is block nodes of key l h is in
    record {
      due = λ k. l.due k ∙ sym (ap once (is-changed (due_in block) readied nodes key k (λ x. refl)));
      ready = λ k.
          let next_place : of.done + 1 ≡ suc of.done = omega arith in
          let more : times (take (of.done + 1) of.ready) k ≡ times (take of.done of.ready) k + once (key == k) =
          ap (λ n. times (take n of.ready) k) next_place ∙ ap (λ xs. times xs k) (take-more of.ready of.done h) ∙ count-last (λ j. j == k) (take of.done of.ready) (slice_index_or of.ready of.done 0)
          ∙ ap (λ j. times (take of.done of.ready) k + once (j == k)) (sym is) in
          let r = l.ready k in
          elim (cases_eq k key) [
            | inl e ↦
                let on : is_at (ready_in block) (changed_at readied nodes key) k ≡ true = ap (is_at (ready_in block) (changed_at readied nodes key)) e ∙ ready-now (due-of block nodes key next.0) in
                let a : once (is_at (ready_in block) (changed_at readied nodes key) k) ≡ 1 = ap once on in
                let b : once (is_at (ready_in block) nodes k) ≡ 0 = ap once (ap (is_at (ready_in block) nodes) e ∙ next.1) in
                let d : once (key == k) ≡ 1 = ap once (eq-eqb key k (sym e)) in omega arith
            | inr n ↦
                let a : once (is_at (ready_in block) (changed_at readied nodes key) k) ≡ once (is_at (ready_in block) nodes k) = ap (λ o. once (option_map_or (ready_in block) o false)) (changed-else readied nodes key k n) in
                let d : once (key == k) ≡ 0 = ap once (ne_eqb key k (λ e. n (sym e))) in omega arith
          ];
      flying = λ k. l.flying k ∙ sym (ap once (is-changed (flying_in block) readied nodes key k (λ x. refl)));
      counted = l.counted ∙ sym (count-alike (of_block block) nodes (changed_at readied nodes key) (changed-long readied nodes key) (λ k. is-changed (of_block block) readied nodes key k (λ x. refl)));
      within = omega arith;
      room_ready = l.room_ready;
      room_flying = l.room_flying;
    }
  where
    ready-now : is_at (of_block block) nodes key ≡ true → is_at (ready_in block) (changed_at readied nodes key) key ≡ true
    ready-now t =
        let x = at-is (of_block block) nodes key t in
        let now : node_at (changed_at readied nodes key) key ≡ Some (readied x.0) = changed-here readied nodes key ∙ ap (option_map readied) x.1 in
        is-at (ready_in block) (changed_at readied nodes key) key (readied x.0) now ∙ and_from _ _ x.2 refl

-- it wasn't due before
pub was-not : (a b : Bool) → (not a && b) ≡ true → a ≡ false
was-not true b t = absurd (cc)
was-not false b t = refl

pub next-left : (done long : ℕ) → not (done == long) ≡ true → done ≤ long → done < long
next-left done long t h = elim (cases_eq done long) [ inl e ↦ absurd (both_ways _ (ap not (eq-eqb done long e)) t) | inr n ↦ omega arith ]
