-- Nodes at their keys.
use Rattle.std.proofs.Common.{◌≡◌, ℕ, zero, suc, ◌<◌, ◌≤◌, ◌⊎◌, ◌∙◌, inl, inr, Bool, true, false, List, [], ◌∷◌, length, refl, sym, ap, arith, Option, Some, None}
use Rattle.std.specs.Prelude.{◌==◌, ◌≢◌, slice_set, slice_index_or, count_by, if◌then◌else◌, cond}
use Rattle.std.specs.Option.{option_map, option_map_or}
use Rattle.std.proofs.lemmas.Bool.{cases_Bool, cases_eq, cases_lt, both_ways, eq-eqb, ne_eqb}
use Rattle.std.proofs.lemmas.List.{get_or-set_same, get_or-set_other, length-set, set-set, set-get_or}
use Rattle.std.proofs.lemmas.List.Sums.{sum_by-set}
use Rattle.patch_links.specs.State.{Node, Nodes, class_at, node_at, slots_of, is_at, changed_at}
use Rattle.patch_links.specs.Lists.{times, once}
use Rattle.patch_links.proofs.Counts.{count-cons, once-true}

pub cases_option : {X : Type 0} → (o : Option X) → (o ≡ None) ⊎ ((x : X) × (o ≡ Some x))
cases_option None = inl refl
cases_option (Some x) = inr (x, refl)

pub same_some : {X : Type 0} → (x y : X) → Some x ≡ Some y → x ≡ y
same_some x y e = ap (λ o. option_map_or (λ z. z) o x) e

pub past-nodes : (nodes : Nodes) (key : ℕ) → length nodes ≤ key → node_at nodes key ≡ None
past-nodes [] key h = refl
past-nodes (x ∷ nodes) zero h = absurd (omega arith)
past-nodes (x ∷ nodes) (suc key) h = past-nodes nodes key (omega arith)

pub below-nodes : (nodes : Nodes) (key : ℕ) (x : Node) → node_at nodes key ≡ Some x → key < length nodes
below-nodes nodes key x at = elim (cases_lt key (length nodes)) [ inl h ↦ h | inr h ↦ let none = past-nodes nodes key h in absurd (cc) ]

pub is-at : (test : Node → Bool) (nodes : Nodes) (key : ℕ) (x : Node) → node_at nodes key ≡ Some x → is_at test nodes key ≡ test x
is-at test nodes key x at = ap (λ o. option_map_or test o false) at

pub at-is : (test : Node → Bool) (nodes : Nodes) (key : ℕ) → is_at test nodes key ≡ true → (x : Node) × (node_at nodes key ≡ Some x) × (test x ≡ true)
at-is test nodes key t = elim (cases_option (node_at nodes key)) [
  | inl none ↦ absurd (both_ways _ (ap (λ o. option_map_or test o false) none) t)
  | inr x ↦ (x.0, x.1, sym (is-at test nodes key x.0 x.1) ∙ t)
]

pub changed-here : (change : Node → Node) (nodes : Nodes) (key : ℕ) → node_at (changed_at change nodes key) key ≡ option_map change (node_at nodes key)
changed-here change nodes key = elim (cases_option (node_at nodes key)) [
  | inl none ↦ rw none none
  | inr x ↦
      let low = below-nodes nodes key x.0 x.1 in
      let e : changed_at change nodes key ≡ slice_set nodes key (Some (change x.0)) = ap (λ o. option_map_or (λ c. slice_set nodes key (Some (change c))) o nodes) x.1 in
      ap (λ s. node_at s key) e ∙ get_or-set_same nodes key (Some (change x.0)) None low ∙ sym (ap (option_map change) x.1)
]

pub changed-else : (change : Node → Node) (nodes : Nodes) (key k : ℕ) → k ≢ key → node_at (changed_at change nodes key) k ≡ node_at nodes k
changed-else change nodes key k d = elim (cases_option (node_at nodes key)) [
  | inl none ↦ ap (λ o. node_at (option_map_or (λ c. slice_set nodes key (Some (change c))) o nodes) k) none
  | inr x ↦ ap (λ o. node_at (option_map_or (λ c. slice_set nodes key (Some (change c))) o nodes) k) x.1 ∙ get_or-set_other nodes key k (Some (change x.0)) None d
]

-- a node that was taken out, and is put back
pub put-back : (nodes : Nodes) (key : ℕ) (e x : Node) → node_at nodes key ≡ Some x → changed_at (λ y. x) (slice_set nodes key (Some e)) key ≡ nodes
put-back nodes key e x at =
    let here : node_at (slice_set nodes key (Some e)) key ≡ Some e = get_or-set_same nodes key (Some e) None (below-nodes nodes key x at) in
    ap (λ o. option_map_or (λ y. slice_set (slice_set nodes key (Some e)) key (Some x)) o (slice_set nodes key (Some e))) here ∙ set-set nodes key (Some e) (Some x)
    ∙ ap (slice_set nodes key) (sym at) ∙ set-get_or nodes key None

pub changed-long : (change : Node → Node) (nodes : Nodes) (key : ℕ) → length (changed_at change nodes key) ≡ length nodes
changed-long change nodes key = elim (cases_option (node_at nodes key)) [
  | inl none ↦ ap (λ o. length (option_map_or (λ c. slice_set nodes key (Some (change c))) o nodes)) none
  | inr x ↦ ap (λ o. length (option_map_or (λ c. slice_set nodes key (Some (change c))) o nodes)) x.1 ∙ length-set nodes key (Some (change x.0))
]

-- each key's node after a change at one
pub changed-at : (change : Node → Node) (nodes : Nodes) (key k : ℕ) → node_at (changed_at change nodes key) k ≡ option_map (λ x. if k == key then change x else x) (node_at nodes k)
changed-at change nodes key k = elim (cases_eq k key) [
  | inl e ↦ rw e (changed-here change nodes key ∙ sym (ap (λ b. option_map (λ x. if b then change x else x) (node_at nodes key)) (eq-eqb key key refl)))
  | inr d ↦ changed-else change nodes key k d ∙ sym (ap (λ b. option_map (λ x. if b then change x else x) (node_at nodes k)) (ne_eqb k key d) ∙ same_map (node_at nodes k))
]
  where
    same_map : (o : Option Node) → option_map (λ x. x) o ≡ o
    same_map None = refl
    same_map (Some x) = refl

-- a test that a change of the node doesn't touch
pub is-changed : (test : Node → Bool) (change : Node → Node) (nodes : Nodes) (key k : ℕ) → ((x : Node) → test (change x) ≡ test x) → is_at test (changed_at change nodes key) k ≡ is_at test nodes k
is-changed test change nodes key k same = elim (cases_eq k key) [
  | inl e ↦ rw e (ap (λ o. option_map_or test o false) (changed-here change nodes key) ∙ by (node_at nodes key))
  | inr d ↦ ap (λ o. option_map_or test o false) (changed-else change nodes key k d)
]
  where
    by : (o : Option Node) → option_map_or test (option_map change o) false ≡ option_map_or test o false
    by None = refl
    by (Some x) = same x

pub slots-at : (nodes : Nodes) (key : ℕ) → class_at (slots_of nodes) key ≡ option_map (λ x. x.class) (node_at nodes key)
slots-at [] key = refl
slots-at (o ∷ nodes) zero = refl
slots-at (o ∷ nodes) (suc key) = slots-at nodes key

abbrev pub passes : (Node → Bool) → Option Node → Bool
passes test o = option_map_or test o false

-- as many nodes pass, where each key's passes as before
pub count-alike : (test : Node → Bool) (old new : Nodes) → length new ≡ length old → ((key : ℕ) → is_at test new key ≡ is_at test old key)
    → count_by (passes test) new ≡ count_by (passes test) old
count-alike test [] [] long same = refl
count-alike test [] (y ∷ new) long same = absurd (omega arith)
count-alike test (x ∷ old) [] long same = absurd (omega arith)
count-alike test (x ∷ old) (y ∷ new) long same =
    let rest = count-alike test old new (omega arith) (λ key. same (suc key)) in
    let a = count-cons (passes test) x old in
    let b = count-cons (passes test) y new in
    let one : once (passes test y) ≡ once (passes test x) = ap once (same 0) in omega arith

-- keys that stand in a list once at most, and whose nodes pass, are no more than these nodes
pub fits : (test : Node → Bool) (keys : List ℕ) (nodes : Nodes) → ((key : ℕ) → times keys key ≤ once (is_at test nodes key)) → length keys ≤ count_by (passes test) nodes
fits test [] nodes most = omega arith
fits test (k ∷ keys) nodes most =
    let first : once (k == k) ≡ 1 = ap once (eq-eqb k k refl) in
    let a = count-cons (λ j. j == k) k keys in
    let h = most k in
    let x = at-is test nodes k (once-true (is_at test nodes k) (omega arith)) in
    let low = below-nodes nodes k x.0 x.1 in
    let less : Nodes = slice_set nodes k None in
    let rest = fits test keys less (λ j. elim (cases_eq j k) [
      | inl e ↦ let none : times keys k ≡ 0 = (let m = once-most-of k in omega arith) in let z : times keys j ≡ 0 = ap (times keys) e ∙ none in omega arith
      | inr d ↦
          let b = count-cons (λ i. i == j) k keys in
          let m = most j in
          let same : is_at test less j ≡ is_at test nodes j = ap (passes test) (get_or-set_other nodes k j None None d) in
          let s : once (is_at test less j) ≡ once (is_at test nodes j) = ap once same in omega arith
    ]) in
    let e = sum_by-set {X = Option Node} (λ o. cond (passes test o) 1 0) nodes k None None low in
    let was : once (passes test (node_at nodes k)) ≡ 1 = ap once (is-at test nodes k x.0 x.1 ∙ x.2) in omega (arith, e, was)
  where
    once-most-of : (j : ℕ) → once (is_at test nodes j) ≤ 1
    once-most-of j = most1 (is_at test nodes j)
      where
        most1 : (b : Bool) → once b ≤ 1
        most1 true = omega arith
        most1 false = omega arith

-- what stands at a place of a list is the same whatever is given for places past its end
pub same_default : (xs : List ℕ) (i a b : ℕ) → i < length xs → slice_index_or xs i a ≡ slice_index_or xs i b
same_default [] i a b h = absurd (omega arith)
same_default (x ∷ xs) zero a b h = refl
same_default (x ∷ xs) (suc i) a b h = same_default xs i a b (omega arith)

-- where some nodes pass, one does at a key
pub count-key : (test : Node → Bool) (nodes : Nodes) → 0 < count_by (passes test) nodes → (key : ℕ) × (is_at test nodes key ≡ true)
count-key test [] h = absurd (omega arith)
count-key test (o ∷ nodes) h = elim (cases_Bool (passes test o)) [
  | inl t ↦ (0, t)
  | inr t ↦
      let a = count-cons (passes test) o nodes in
      let z : once (passes test o) ≡ 0 = ap once t in
      let r = count-key test nodes (omega arith) in (suc r.0, r.1)
]

-- the same, however long the nodes are
pub count-free : (test : Node → Bool) (old new : Nodes) → ((key : ℕ) → is_at test new key ≡ is_at test old key) → count_by (passes test) new ≡ count_by (passes test) old
count-free test [] [] same = refl
count-free test [] (y ∷ new) same =
    let rest = count-free test [] new (λ key. same (suc key)) in
    let b = count-cons (passes test) y new in
    let one : once (passes test y) ≡ 0 = ap once (same 0) in
    let none : count_by (passes test) [] ≡ 0 = refl in omega arith
count-free test (x ∷ old) [] same =
    let rest = count-free test old [] (λ key. same (suc key)) in
    let a = count-cons (passes test) x old in
    let one : once (passes test x) ≡ 0 = ap once (sym (same 0)) in
    let none : count_by (passes test) [] ≡ 0 = refl in omega arith
count-free test (x ∷ old) (y ∷ new) same =
    let rest = count-free test old new (λ key. same (suc key)) in
    let a = count-cons (passes test) x old in
    let b = count-cons (passes test) y new in
    let one : once (passes test y) ≡ once (passes test x) = ap once (same 0) in omega arith
