-- Two classes made one: the lists.
use Rattle.std.proofs.Common.{◌≡◌, ℕ, zero, suc, ◌+◌, ◌<◌, ◌≤◌, ◌∙◌, inl, inr, Bool, true, false, List, [], ◌∷◌, length, refl, sym, ap, arith, Option, Some, None, take, length-append}
use Rattle.std.specs.Prelude.{◌-◌, ◌==◌, ◌≢◌, ◌&&◌, not, cond, filter, slice_set, if◌then◌else◌}
use Rattle.std.specs.Option.{option_map_or}
use Rattle.std.proofs.lemmas.Bool.{cases_Bool, cases_eq, both_ways, eq-eqb, eqb-true, ne_eqb, and_left, and_right, and_from, and_parts}
use Rattle.std.proofs.lemmas.List.{get_or-set_same, get_or-set_other, take-append-le, take_all}
use Rattle.std.proofs.lemmas.List.Sums.{sum_by-set}
use Rattle.patch_model.specs.Entry.{marks_memory}
use Rattle.patch_model.specs.Member.{In}
use Rattle.patch_links.specs.State.{Node, Nodes, Numbers, node_at, is_at}
use Rattle.patch_links.specs.Waiting.{of_block, ready_in, is_due}
use Rattle.patch_links.specs.Lists.{OfBlock, times, once, due_in, flying_in, classes_of, IsListed, IsSettled, pushed}
use Rattle.patch_links.specs.Merging.{may_join}
use Rattle.patch_links.specs.Joining.{inner, IsNodeJoined, is_neither}
use Rattle.patch_links.proofs.Counts.{count-cons, count-last, count-zero, once-most}
use Rattle.patch_links.proofs.Places.{is-at, below-nodes, passes, count-free}
use Rattle.patch_links.proofs.Listings.{AreAlike, ready-most}
use Rattle.patch_links.proofs.Landings.{ready-due}
use Rattle.patch_links.proofs.Launching.{not-both, settled-holds}

-- how often a key stands among those that pass
pub times-kept : (p : ℕ → Bool) (xs : List ℕ) (k : ℕ) → p k ≡ true → times (filter p xs) k ≡ times xs k
times-kept p [] k t = refl
times-kept p (x ∷ xs) k t = elim (cases_Bool (p x)) [
  | inl u ↦ rw u (
      let a = count-cons (λ j. j == k) x (filter p xs) in
      let b = count-cons (λ j. j == k) x xs in
      let r = times-kept p xs k t in omega arith)
  | inr u ↦ rw u (
      let b = count-cons (λ j. j == k) x xs in
      let other : once (x == k) ≡ 0 = ap once (ne_eqb x k (λ e. both_ways _ u (ap p e ∙ t))) in
      let r = times-kept p xs k t in omega arith)
]

pub times-left : (p : ℕ → Bool) (xs : List ℕ) (k : ℕ) → p k ≡ false → times (filter p xs) k ≡ 0
times-left p [] k t = refl
times-left p (x ∷ xs) k t = elim (cases_Bool (p x)) [
  | inl u ↦ rw u (
      let a = count-cons (λ j. j == k) x (filter p xs) in
      let other : once (x == k) ≡ 0 = ap once (ne_eqb x k (λ e. both_ways _ (ap p e ∙ t) u)) in
      let r = times-left p xs k t in omega arith)
  | inr u ↦ rw u (times-left p xs k t)
]

-- the first ones stay where all of them pass
take-kept : (p : ℕ → Bool) (xs : List ℕ) (i : ℕ) → i ≤ length xs → ((n : ℕ) → In (take i xs) n → p n ≡ true) → (take i (filter p xs) ≡ take i xs) × (i ≤ length (filter p xs))
take-kept p [] i h f = (refl, h)
take-kept p (x ∷ xs) zero h f = (refl, omega arith)
take-kept p (x ∷ xs) (suc i) h f =
    let u : p x ≡ true = f x (inl refl) in
    let r = take-kept p xs i (omega arith) (λ n m. f n (inr m)) in (rw u (ap (λ ys. x ∷ ys) r.0), rw u (omega (arith, r.1)))

-- one class fewer, and neither of the keys among those that nothing keeps out
abbrev pub without_both : ℕ → ℕ → OfBlock → OfBlock
without_both keep gone of = record of { ready = filter (is_neither keep gone) of.ready; count = of.count - 1 }

module _ (block keep gone : ℕ) (x y : Node) (old new : Nodes) (numbers : Numbers) (apart : keep ≢ gone) (at-keep : node_at old keep ≡ Some x) (at-gone : node_at old gone ≡ Some y)
    (joined : IsNodeJoined keep gone x y numbers old new) (may : may_join x.class y.class ≡ true) (of-block : x.class.block ≡ block) where
  abbrev z : Node
  z = joined.node

  memory-both : marks_memory x.class.mark && marks_memory y.class.mark ≡ true
  memory-both = (and_parts (marks_memory x.class.mark && marks_memory y.class.mark) (x.class.block == y.class.block) may).0

  memory-x : marks_memory x.class.mark ≡ true
  memory-x = (and_parts (marks_memory x.class.mark) (marks_memory y.class.mark) memory-both).0

  memory-y : marks_memory y.class.mark ≡ true
  memory-y = (and_parts (marks_memory x.class.mark) (marks_memory y.class.mark) memory-both).1

  memory-z : marks_memory z.class.mark ≡ true
  memory-z = ap (λ c. marks_memory c.mark) joined.class ∙ memory-x

  block-y : y.class.block ≡ block
  block-y = sym (eqb-true x.class.block y.class.block (and_parts (marks_memory x.class.mark && marks_memory y.class.mark) (x.class.block == y.class.block) may).1) ∙ of-block

  block-z : z.class.block ≡ block
  block-z = ap (λ c. c.block) joined.class ∙ of-block

  test-else : (test : Node → Bool) (k : ℕ) → k ≢ keep → k ≢ gone → is_at test new k ≡ is_at test old k
  test-else test k d g = ap (λ o. option_map_or test o false) (joined.others k d g)

  test-gone : (test : Node → Bool) → is_at test new gone ≡ false
  test-gone test = ap (λ o. option_map_or test o false) joined.none

  -- a test that none of them passes
  test-none : (test : Node → Bool) → test x ≡ false → test y ≡ false → test z ≡ false → (k : ℕ) → is_at test new k ≡ is_at test old k
  test-none test tx ty tz k = elim (cases_eq k keep) [
    | inl e ↦ rw e (is-at test new keep z joined.here ∙ tz ∙ sym (is-at test old keep x at-keep ∙ tx))
    | inr d ↦ elim (cases_eq k gone) [
      | inl e ↦ rw e (test-gone test ∙ sym (is-at test old gone y at-gone ∙ ty))
      | inr g ↦ test-else test k d g
    ]
  ]

  -- of another block nothing has changed
  pub joined-aside : (b : ℕ) → b ≢ block → AreAlike b old new
  joined-aside b d =
      let ox : (x.class.block == b) ≡ false = ne_eqb x.class.block b (λ e. d (sym e ∙ of-block)) in
      let oy : (y.class.block == b) ≡ false = ne_eqb y.class.block b (λ e. d (sym e ∙ block-y)) in
      let oz : (z.class.block == b) ≡ false = ne_eqb z.class.block b (λ e. d (sym e ∙ block-z)) in
      record {
        due = test-none (due_in b) (and_left _ _ ox) (and_left _ _ oy) (and_left _ _ oz);
        ready = test-none (ready_in b) (and_left _ _ ox) (and_left _ _ oy) (and_left _ _ oz);
        flying = test-none (flying_in b) (and_left _ _ ox) (and_left _ _ oy) (and_left _ _ oz);
        of = test-none (of_block b) ox oy oz;
      }

  flying-same : (k : ℕ) → is_at (flying_in block) new k ≡ is_at (flying_in block) old k
  flying-same = test-none (flying_in block) (and_right _ _ (not-both x.class.mark memory-x)) (and_right _ _ (not-both y.class.mark memory-y)) (and_right _ _ (not-both z.class.mark memory-z))

  one-fewer : classes_of block new + 1 ≡ classes_of block old
  one-fewer =
      let low = below-nodes old gone y at-gone in
      let e = sum_by-set {X = Option Node} (λ o. cond (passes (of_block block) o) 1 0) old gone None None low in
      let was : once (passes (of_block block) (node_at old gone)) ≡ 1 = ap once (is-at (of_block block) old gone y at-gone ∙ eq-eqb y.class.block block block-y) in
      let less : Nodes = slice_set old gone None in
      let same : classes_of block new ≡ classes_of block less = count-free (of_block block) less new (λ k. elim (cases_eq k gone) [
        | inl h ↦ rw h (test-gone (of_block block) ∙ sym (ap (λ o. option_map_or (of_block block) o false) (get_or-set_same old gone None None low)))
        | inr g ↦ of-same k g ∙ sym (ap (λ o. option_map_or (of_block block) o false) (get_or-set_other old gone k None None g))
      ]) in
      omega (arith, e, was, same)
    where
      of-same : (k : ℕ) → k ≢ gone → is_at (of_block block) new k ≡ is_at (of_block block) old k
      of-same k g = elim (cases_eq k keep) [
        | inl h ↦ rw h (is-at (of_block block) new keep z joined.here ∙ eq-eqb z.class.block block block-z ∙ sym (is-at (of_block block) old keep x at-keep ∙ eq-eqb x.class.block block of-block))
        | inr d ↦ test-else (of_block block) k d g
      ]

  due-here : is_at (due_in block) new keep ≡ is_at is_due new keep
  due-here = is-at (due_in block) new keep z joined.here ∙ ap (λ b. b && is_due z) (eq-eqb z.class.block block block-z) ∙ sym (is-at is_due new keep z joined.here)

  -- neither is in the ready set
  module _ (off : x.ready ≡ false) (off-too : y.ready ≡ false) (of : OfBlock) (l : IsListed block old of) where
    abbrev left : OfBlock
    left = without_both keep gone of

    ready-same : (k : ℕ) → is_at (ready_in block) new k ≡ is_at (ready_in block) old k
    ready-same = test-none (ready_in block) (and_right _ _ off) (and_right _ _ off-too) (and_right _ _ (joined.ready ∙ off))

    neither-keep : is_neither keep gone keep ≡ false
    neither-keep = and_left _ _ (ap not (eq-eqb keep keep refl))

    neither-gone : is_neither keep gone gone ≡ false
    neither-gone = and_right (not (gone == keep)) _ (ap not (eq-eqb gone gone refl))

    neither-else : (k : ℕ) → k ≢ keep → k ≢ gone → is_neither keep gone k ≡ true
    neither-else k d g = and_from _ _ (ap not (ne_eqb k keep d)) (ap not (ne_eqb k gone g))

    not-in : (k : ℕ) (v : Node) → node_at old k ≡ Some v → v.ready ≡ false → times (take of.done of.ready) k ≡ 0
    not-in k v at r = l.ready k ∙ ap once (is-at (ready_in block) old k v at ∙ and_right _ _ r)

    firsts : (take of.done left.ready ≡ take of.done of.ready) × (of.done ≤ length left.ready)
    firsts = take-kept (is_neither keep gone) of.ready of.done l.within (λ n i. and_from _ _
        (ap not (count-zero (λ k. k == keep) (take of.done of.ready) n (not-in keep x at-keep off) i)) (ap not (count-zero (λ k. k == gone) (take of.done of.ready) n (not-in gone y at-gone off-too) i)))

    due-left : (k : ℕ) → k ≢ keep → times left.ready k ≡ once (is_at (due_in block) new k)
    due-left k d = elim (cases_eq k gone) [
      | inl e ↦ rw e (times-left (is_neither keep gone) of.ready gone neither-gone ∙ sym (ap once (test-gone (due_in block))))
      | inr g ↦ times-kept (is_neither keep gone) of.ready k (neither-else k d g) ∙ l.due k ∙ sym (ap once (test-else (due_in block) k d g))
    ]

    pub listed-waiting : is_at is_due new keep ≡ false → IsListed block new left
    listed-waiting u =
        let fewer = one-fewer in
        let counted = l.counted in
        let r = l.room_ready in
        let f = l.room_flying in
        record {
          due = λ k. elim (cases_eq k keep) [
            | inl e ↦ rw e (times-left (is_neither keep gone) of.ready keep neither-keep ∙ sym (ap once (due-here ∙ u)))
            | inr d ↦ due-left k d
          ];
          ready = λ k. ap (λ xs. times xs k) firsts.0 ∙ l.ready k ∙ sym (ap once (ready-same k));
          flying = λ k. l.flying k ∙ sym (ap once (flying-same k));
          counted = omega arith;
          within = firsts.1;
          room_ready = omega arith;
          room_flying = omega arith;
        }

    pub listed-come : is_at is_due new keep ≡ true → IsListed block new (pushed left keep)
    listed-come u =
        let fewer = one-fewer in
        let counted = l.counted in
        let r = l.room_ready in
        let f = l.room_flying in
        record {
          due = λ k.
              let last = count-last (λ j. j == k) left.ready keep in
              elim (cases_eq k keep) [
                | inl e ↦
                    let none : times left.ready k ≡ 0 = ap (times left.ready) e ∙ times-left (is_neither keep gone) of.ready keep neither-keep in
                    let one : once (keep == k) ≡ 1 = ap once (eq-eqb keep k (sym e)) in
                    let now : once (is_at (due_in block) new k) ≡ 1 = ap once (ap (is_at (due_in block) new) e ∙ due-here ∙ u) in omega arith
                | inr d ↦
                    let rest = due-left k d in
                    let none : once (keep == k) ≡ 0 = ap once (ne_eqb keep k (λ e. d (sym e))) in omega arith
              ];
          ready = λ k. ap (λ xs. times xs k) (take-append-le of.done left.ready (keep ∷ []) firsts.1 ∙ firsts.0) ∙ l.ready k ∙ sym (ap once (ready-same k));
          flying = λ k. l.flying k ∙ sym (ap once (flying-same k));
          counted = omega arith;
          within = let e = length-append left.ready (keep ∷ []) in let w = firsts.1 in omega arith;
          room_ready = omega arith;
          room_flying = omega arith;
        }

    pub room-left : is_at is_due new keep ≡ true → length left.ready < left.room_ready
    room-left u =
        let now = listed-come u in
        let most = ready-most block new (pushed left keep) now in
        let room = now.room_ready in
        let e = length-append left.ready (keep ∷ []) in omega arith

  -- both are in the ready set, which has all that nothing keeps out
  module _ (on : x.ready ≡ true) (on-too : y.ready ≡ true) (of : OfBlock) (l : IsListed block old of) (settled : IsSettled of) where
    due-old : (k : ℕ) (v : Node) → node_at old k ≡ Some v → v.class.block ≡ block → v.ready ≡ true → is_due v ≡ true
    due-old k v at b r =
        let t = ready-due block old of k l settled (is-at (ready_in block) old k v at ∙ and_from _ _ (eq-eqb v.class.block block b) r) in
        (and_parts (v.class.block == block) (is_due v) (sym (is-at (due_in block) old k v at) ∙ t)).1

    no-waits : (v : Node) → is_due v ≡ true → v.waits ≡ 0
    no-waits v t = eqb-true v.waits 0 (and_parts (marks_memory v.class.mark) (v.waits == 0) t).1

    due-joint : is_at (due_in block) new keep ≡ true
    due-joint =
        let wx = no-waits x (due-old keep x at-keep of-block on) in
        let wy = no-waits y (due-old gone y at-gone block-y on-too) in
        let w = joined.waits in
        let asked : (if x.ready then 0 else inner numbers keep y) ≡ 0 = ap (λ r. if r then 0 else inner numbers keep y) on in
        let none : z.waits ≡ 0 = omega arith in
        is-at (due_in block) new keep z joined.here ∙ and_from _ _ (eq-eqb z.class.block block block-z) (and_from _ _ memory-z (eq-eqb z.waits 0 none))

    due-before : is_at (due_in block) old keep ≡ true
    due-before = is-at (due_in block) old keep x at-keep ∙ and_from _ _ (eq-eqb x.class.block block of-block) (due-old keep x at-keep of-block on)

    ready-keep : is_at (ready_in block) new keep ≡ is_at (ready_in block) old keep
    ready-keep = is-at (ready_in block) new keep z joined.here ∙ and_from _ _ (eq-eqb z.class.block block block-z) (joined.ready ∙ on)
        ∙ sym (is-at (ready_in block) old keep x at-keep ∙ and_from _ _ (eq-eqb x.class.block block of-block) on)

    module _ (now : OfBlock) (less : (k : ℕ) → times now.ready k + once (gone == k) ≡ times of.ready k) (rest : now ≡ record of { ready = now.ready; done = length now.ready; count = of.count - 1 }) where
      by-test : (test : Node → Bool) → ((k : ℕ) → times of.ready k ≡ once (is_at test old k)) → is_at test new keep ≡ is_at test old keep → (k : ℕ) → times now.ready k ≡ once (is_at test new k)
      by-test test holds same k =
          let a = less k in
          let b = holds k in
          elim (cases_eq k gone) [
            | inl e ↦
                let one : once (gone == k) ≡ 1 = ap once (eq-eqb gone k (sym e)) in
                let most = once-most (is_at test old k) in
                let none : once (is_at test new k) ≡ 0 = ap once (ap (is_at test new) e ∙ test-gone test) in omega arith
            | inr g ↦
                let z : once (gone == k) ≡ 0 = ap once (ne_eqb gone k (λ e. g (sym e))) in
                let alike : is_at test new k ≡ is_at test old k = elim (cases_eq k keep) [ inl e ↦ rw e same | inr d ↦ test-else test k d g ] in
                let as_often : once (is_at test new k) ≡ once (is_at test old k) = ap once alike in omega arith
          ]

      pub listed-ready : IsListed block new now
      listed-ready =
          let fewer = one-fewer in
          let counted = l.counted in
          let r = l.room_ready in
          let f = l.room_flying in
          let done : now.done ≡ length now.ready = ap (λ o. o.done) rest in
          let count : now.count ≡ of.count - 1 = ap (λ o. o.count) rest in
          let room_one : now.room_ready ≡ of.room_ready = ap (λ o. o.room_ready) rest in
          let room_two : now.room_flying ≡ of.room_flying = ap (λ o. o.room_flying) rest in
          record {
            due = by-test (due_in block) l.due (due-joint ∙ sym due-before);
            ready = λ k. ap (λ xs. times xs k) (take_all now.done now.ready (omega arith)) ∙ by-test (ready_in block) (settled-holds block old of l settled) ready-keep k;
            flying = λ k. ap (λ o. times o.flying k) rest ∙ l.flying k ∙ sym (ap once (flying-same k));
            counted = omega arith;
            within = omega arith;
            room_ready = omega arith;
            room_flying = omega arith;
          }
