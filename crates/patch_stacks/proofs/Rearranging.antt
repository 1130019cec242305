-- A block's records in another order, in which each still stands above those that it follows.
use Rattle.std.proofs.Common.{◌≡◌, ℕ, zero, suc, ◌+◌, ◌-◌, ◌<◌, ◌≤◌, ◌∙◌, Bool, true, false, inl, inr, List, length, take, drop, get_or, refl, sym, ap, arith, subst}
use Rattle.std.proofs.lemmas.List.{get_or_default, places}
use Rattle.std.specs.Prelude.{◌&&◌, ◌||◌}
use Rattle.std.proofs.lemmas.Bool.{cases_lt, lt-ltb}
use Rattle.patch_records.specs.Records.{Class, no_class, meets, names}
use Rattle.patch_stacks.specs.State.{Block, IsRunEnd, class_at, follows, moved_down, run_down, run_moved_down}
use Rattle.patch_stacks.specs.Rearranged.{IsRearranged, IsGathered}
use Rattle.patch_stacks.proofs.Moving.{came, came_facts, came_within, went, at_came, length-moved}
use Rattle.patch_stacks.proofs.Rotating.{length-run_down, run_down-past, run_down-behind}

-- of two classes the first has a byte of the second, or names a member of it
abbrev pub rests : Class → Class → Bool
rests c d = meets c d || names c d

-- whether one class follows another, where they stand at other places in the same order
pub follows-is : (a b : Block) (i j k m : ℕ) → j < i → m < k → class_at b i ≡ class_at a k → class_at b j ≡ class_at a m → follows b i j ≡ follows a k m
follows-is a b i j k m less below same same_other =
    ap (λ (z : Bool). z && rests (class_at b i) (class_at b j)) (lt-ltb j i less)
    ∙ ap (λ (c : Class). rests c (class_at b j)) same ∙ ap (rests (class_at a k)) same_other
    ∙ sym (ap (λ (z : Bool). z && rests (class_at a k) (class_at a m)) (lt-ltb m k below))

pub length-part : (cs : List Class) (from to : ℕ) → from ≤ to → to ≤ length cs → length (take (to - from) (drop from cs)) ≡ to - from
length-part cs from to down within = grind (arith, places)

-- whether a class follows one of some below it that stand in a row
pub follows-part : (b : Block) (cs : List Class) (c d : Class) (from to k i m : ℕ) → cs ≡ b.classes → c ≡ get_or cs k c → d ≡ get_or (take (to - from) (drop from cs)) i d
    → from ≤ to → to ≤ k → k < length cs → m < to → from + i ≡ m → follows b k m ≡ rests c d
follows-part b cs c d from to k i m seen is is_there down upto within less at_ =
    let fits : to ≤ length cs = omega arith in
    let long = length-part cs from to down fits in
    let inside : i < to - from = omega arith in
    let there : get_or (take (to - from) (drop from cs)) i no_class ≡ get_or cs (from + i) no_class = grind (arith, places) in
    let here : d ≡ class_at b m =
    is_there ∙ get_or_default (take (to - from) (drop from cs)) i d no_class (omega arith) ∙ there ∙ ap (λ n. get_or cs n no_class) at_ ∙ ap (λ ds. get_or ds m no_class) seen in
    let upper : c ≡ class_at b k = is ∙ get_or_default cs k c no_class within ∙ ap (λ ds. get_or ds k no_class) seen in
    ap (λ (z : Bool). z && rests (class_at b k) (class_at b m)) (lt-ltb m k (omega arith))
    ∙ ap (λ (e : Class). rests e (class_at b m)) (sym upper) ∙ ap (rests c) (sym here)

pub rearranged-none : (b : Block) → IsRearranged b b
rearranged-none b = record {
  came = λ i. i;
  bytes = refl;
  long = refl;
  each = λ i w. refl;
  within = λ i w. w;
  all = λ m w. (m, w, refl);
  past = λ i j less w. inl less;
}

-- twice
pub rearranged-then : (a b c : Block) → IsRearranged a b → IsRearranged b c → IsRearranged a c
rearranged-then a b c one two = let long = one.long in record {
  came = λ i. one.came (two.came i);
  bytes = two.bytes ∙ one.bytes;
  long = two.long ∙ one.long;
  each = λ i w. let v : i < length b.classes = omega arith in two.each i v ∙ one.each (two.came i) (let x = two.within i v in omega arith);
  within = λ i w. let v : i < length b.classes = omega arith in one.within (two.came i) (let x = two.within i v in omega arith);
  all = λ m w.
      let p = one.all m w in
      let v : p.0 < length b.classes = (let x = p.1 in omega arith) in
      let q = two.all p.0 v in
      (q.0, (let x = q.1 in omega arith), ap one.came q.2 ∙ p.2);
  past = λ i j less w.
      let w_j : j < length b.classes = omega arith in
      let w_i : i < length b.classes = omega arith in
      let x = two.within i w_i in
      let y = two.within j w_j in
      elim (two.past i j less w_j) [
        | inl up ↦ one.past (two.came i) (two.came j) up (omega arith)
        | inr down ↦ elim (one.past (two.came j) (two.came i) down.0 (omega arith)) [
          | inl still ↦ inr (
            still,
            sym (follows-is a b (two.came i) (two.came j) (one.came (two.came i)) (one.came (two.came j)) down.0 still
                (one.each (two.came i) (omega arith)) (one.each (two.came j) (omega arith))) ∙ down.1,
          )
          | inr back ↦ inl back.0
        ]
      ];
}

-- a class moved down past others that it doesn't follow
rearranged-moved : (b : Block) (front k : ℕ) → front ≤ k → k < length b.classes → ((m : ℕ) → front ≤ m → m < k → follows b k m ≡ false)
    → IsRearranged b (moved_down b front k)
rearranged-moved b front k down within free = record {
  came = came front k;
  bytes = refl;
  long = length-moved b.classes (class_at b k) front k down within;
  each = λ i w. at_came b front k i down within;
  within = λ i w. came_within front k i (length b.classes) down within w;
  all = λ m w. went front k (length b.classes) m down within w;
  past = λ i j less w. elim (came_facts front k i j down less) [
    | inl up ↦ inl up
    | inr s ↦ inr (let below = s.2 in let e = s.0 in omega arith, ap (λ n. follows b n (came front k j)) s.0 ∙ free (came front k j) s.1 s.2)
  ];
}

-- the next of a run follows none of those that it is to pass
run-free : (b : Block) (front k m : ℕ) → front ≤ k → k + suc m ≤ length b.classes → ((j p : ℕ) → k ≤ j → j < k + suc m → front ≤ p → p < k → follows b j p ≡ false)
    → (p : ℕ) → front + m ≤ p → p < k + m → follows (run_moved_down b front k m) (k + m) p ≡ false
run-free b front k m down within free p from to =
    follows-is b (run_moved_down b front k m) (k + m) p (k + m) (p - m) to (omega arith)
    (run_down-behind no_class b.classes front k m (k + m) down (omega arith) (omega arith))
    (run_down-past no_class b.classes front k m p down (omega arith) from to)
    ∙ free (k + m) (p - m) (omega arith) (omega arith) (omega arith) (omega arith)

-- a run moved down past others that none of it follows
pub rearranged-run : (b : Block) (front k m : ℕ) → front ≤ k → k + m ≤ length b.classes
    → ((j p : ℕ) → k ≤ j → j < k + m → front ≤ p → p < k → follows b j p ≡ false) → IsRearranged b (run_moved_down b front k m)
unfolding run_down
rearranged-run b front k zero down within free = rearranged-none b
rearranged-run b front k (suc m) down within free =
    let long = length-run_down no_class b.classes front k m down (omega arith) in
    rearranged-then b (run_moved_down b front k m) (run_moved_down b front k (suc m))
    (rearranged-run b front k m down (omega arith) (λ j p f t. free j p f (omega arith)))
    (rearranged-moved (run_moved_down b front k m) (front + m) (k + m) (omega arith) (omega arith) (run-free b front k m down within free))

-- a run of none stays where it is
pub run-none : (b : Block) (front k stop : ℕ) → k ≡ stop → run_moved_down b front k (stop - k) ≡ b
unfolding run_down
run-none b front k stop same = let e : stop - k ≡ zero = omega arith in rw e refl

-- Above a class up to a place are only such as rest on it.

pub gathered-none : (b : Block) (low : ℕ) → IsGathered b b low low (low + 1)
gathered-none b low = record {
  from = omega arith;
  to = omega arith;
  order = rearranged-none b;
  same_low = refl;
  same_rest = λ i f. refl;
  carried = λ i f t. absurd (omega arith);
}

-- the next class follows one of these
pub gathered-met : (old new : Block) (low high front k stop : ℕ) → IsGathered old new low front k → IsRunEnd new front k high stop → stop ≡ k
    → IsGathered old new low front (k + 1)
gathered-met old new low high front k stop g e is = let to = g.to in record {
  from = g.from;
  to = omega arith;
  order = g.order;
  same_low = g.same_low;
  same_rest = λ i f. g.same_rest i (omega arith);
  carried = λ i f t. elim (cases_lt i k) [
    | inl before ↦ g.carried i f before
    | inr here ↦ let same : k ≡ i = omega arith in
        subst (λ n. (m : ℕ) × (front ≤ m) × (m < n) × (follows new n m ≡ true)) same (e.met is)
  ];
}

-- the next run goes below all of them
pub gathered-run : (old new : Block) (low high front k stop : ℕ) → high < length old.classes → IsGathered old new low front k → IsRunEnd new front k high stop
    → IsGathered old (run_moved_down new front k (stop - k)) low (front + (stop - k)) stop
gathered-run old new low high front k stop within g e =
    let least = e.least in
    let upto = e.upto in
    let from = g.from in
    let to = g.to in
    let long = g.order.long in
    let fits : k + (stop - k) ≤ length new.classes = omega arith in
    let back : front + (stop - k) - (stop - k) ≡ front = omega arith in
    let past : (i : ℕ) → front + (stop - k) ≤ i → i < stop → class_at (run_moved_down new front k (stop - k)) i ≡ class_at new (i - (stop - k)) =
    (λ i f t. run_down-past no_class new.classes front k (stop - k) i (omega arith) fits f (omega arith)) in
    record {
      from = omega arith;
      to = omega arith;
      order = rearranged-then old new (run_moved_down new front k (stop - k)) g.order
          (rearranged-run new front k (stop - k) (omega arith) fits (λ j p f t. e.free j p f (omega arith)));
      same_low = past (front + (stop - k)) (omega arith) (omega arith) ∙ ap (class_at new) back ∙ g.same_low;
      same_rest = λ i f. run_down-behind no_class new.classes front k (stop - k) i (omega arith) fits (omega arith) ∙ g.same_rest i (omega arith);
      carried = λ i f t.
          let on = g.carried (i - (stop - k)) (omega arith) (omega arith) in
          let above = on.1 in
          let below = on.2 in
          let there : on.0 + (stop - k) - (stop - k) ≡ on.0 = omega arith in (
            on.0 + (stop - k),
            omega arith,
            omega arith,
            follows-is new (run_moved_down new front k (stop - k)) i (on.0 + (stop - k)) (i - (stop - k)) on.0 (omega arith) below
                (past i (omega arith) t) (past (on.0 + (stop - k)) (omega arith) (omega arith) ∙ ap (class_at new) there) ∙ on.3,
          );
    }
