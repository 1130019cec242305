-- A block whose classes in flight are forgotten, one after another.
use Rattle.std.proofs.Common.{◌≡◌, ℕ, ◌+◌, ◌<◌, ◌⊎◌, ◌∙◌, inl, inr, Bool, true, false, [], length, refl, sym, ap, arith, Option, Some, None}
use Rattle.std.specs.Prelude.{◌==◌, ◌&&◌, slice_set, if◌then◌else◌, cond}
use Rattle.std.specs.Option.{option_map, option_map_or}
use Rattle.std.proofs.lemmas.Bool.{cases_Bool, cases_eq, and_parts, both_ways, eq-eqb}
use Rattle.std.proofs.lemmas.List.{get_or-set_same, get_or-set_other, length-set, length-map}
use Rattle.std.proofs.lemmas.List.Sums.{sum_by-set}
use Rattle.patch_model.specs.Entry.{is_among, marks_flight}
use Rattle.patch_links.specs.State.{Class, Node, Nodes, Numbers, find, class_at, slots_of, leads_at, node_at, is_at}
use Rattle.patch_links.specs.Waiting.{of_block}
use Rattle.patch_links.specs.Lists.{Blocks, of_at, times, once, flying_in, classes_of}
use Rattle.patch_links.specs.Invariants.{bare, has_member, names, AreMembers, AreBelow, Stands}
use Rattle.patch_links.specs.MarkDurable.{lands, lands_at, AreLanded, HasPopped, IsForgotten}
use Rattle.patch_links.proofs.Counts.{count-last, once-true, once-false}
use Rattle.patch_links.proofs.Places.{cases_option, is-at, at-is, below-nodes, slots-at, passes, count-alike}
use Rattle.patch_links.proofs.Landings.{leads-key}

abbrev pub class_in : Nodes → ℕ → Option Class
class_in nodes key = option_map (λ x. x.class) (node_at nodes key)

-- so far: some classes in flight of the block are forgotten, and the others and their numbers are as they were
pub record ArePartLanded (block : ℕ) (old new : Nodes) (numbers now : Numbers) : Type 0 where
  pub classes : (k : ℕ) → (class_in new k ≡ class_in old k) ⊎ ((node_at new k ≡ None) × (is_at (flying_in block) old k ≡ true))
  pub found : (n : ℕ) → (find now n ≡ find numbers n) ⊎ ((k : ℕ) × (find numbers n ≡ Some k) × (node_at new k ≡ None) × (find now n ≡ None))
  pub long : length new ≡ length old
  pub below : (made : ℕ) → AreBelow made old → AreBelow made new

pub part-none : (block : ℕ) (nodes : Nodes) (numbers : Numbers) → ArePartLanded block nodes nodes numbers numbers
part-none block nodes numbers = record { classes = λ k. inl refl; found = λ n. inl refl; long = refl; below = λ made b. b }

class-alike : (test : Class → Bool) (old new : Nodes) (k : ℕ) → class_in new k ≡ class_in old k → is_at (λ x. test x.class) new k ≡ is_at (λ x. test x.class) old k
class-alike test old new k e = sym (by (node_at new k)) ∙ ap (λ o. option_map_or test o false) e ∙ by (node_at old k)
  where
    by : (o : Option Node) → option_map_or test (option_map (λ x. x.class) o) false ≡ option_map_or (λ x. test x.class) o false
    by None = refl
    by (Some x) = refl

pub class-bare : (old new : Nodes) (k : ℕ) → option_map bare (node_at new k) ≡ option_map bare (node_at old k) → class_in new k ≡ class_in old k
class-bare old new k e = sym (by (node_at new k)) ∙ ap (option_map (λ x. x.class)) e ∙ by (node_at old k)
  where
    by : (o : Option Node) → option_map (λ x. x.class) (option_map bare o) ≡ option_map (λ x. x.class) o
    by None = refl
    by (Some x) = refl

none-bare : (old new : Nodes) (k : ℕ) → option_map bare (node_at new k) ≡ option_map bare (node_at old k) → node_at old k ≡ None → node_at new k ≡ None
none-bare old new k e none = by (node_at new k) (e ∙ ap (option_map bare) none)
  where
    by : (o : Option Node) → option_map bare o ≡ None → o ≡ None
    by None h = refl
    by (Some x) h = absurd (cc)

test-bare : (test : Node → Bool) (old new : Nodes) (k : ℕ) → ((x : Node) → test (bare x) ≡ test x) → option_map bare (node_at new k) ≡ option_map bare (node_at old k) → is_at test new k ≡ is_at test old k
test-bare test old new k same e = sym (by (node_at new k)) ∙ ap (λ o. option_map_or test o false) e ∙ by (node_at old k)
  where
    by : (o : Option Node) → option_map_or test (option_map bare o) false ≡ option_map_or test o false
    by None = refl
    by (Some x) = same x

-- the class that was taken out of the lists is in flight
pub popped-flying : (block key : ℕ) (nodes : Nodes) (numbers : Numbers) (before blocks : Blocks) → Stands nodes numbers before → HasPopped block before blocks key → is_at (flying_in block) nodes key ≡ true
popped-flying block key nodes numbers before blocks s p =
    let l = (s.listed block).flying key in
    let a : times (of_at before block).flying key ≡ times p.left.flying key + once (key == key) = ap (λ xs. times xs key) p.loses.was ∙ count-last (λ j. j == key) p.left.flying key in
    let one : once (key == key) ≡ 1 = ap once (eq-eqb key key refl) in
    once-true _ (omega arith)

module _ (block key : ℕ) (old mid new : Nodes) (numbers then_ now : Numbers) (p : ArePartLanded block old mid numbers then_) (fly : is_at (flying_in block) mid key ≡ true)
    (f : IsForgotten key mid new then_ now) where
  was-flying : is_at (flying_in block) old key ≡ true
  was-flying = elim (p.classes key) [
    | inl e ↦ sym (class-alike (λ c. c.block == block && marks_flight c.mark) old mid key e) ∙ fly
    | inr h ↦ h.1
  ]

  pub part-more : ArePartLanded block old new numbers now
  part-more = record {
    classes = λ k. elim (cases_eq k key) [
      | inl e ↦ inr (ap (node_at new) e ∙ f.none, ap (is_at (flying_in block) old) e ∙ was-flying)
      | inr d ↦ elim (p.classes k) [
        | inl e ↦ inl (class-bare mid new k (f.others k d) ∙ e)
        | inr h ↦ inr (none-bare mid new k (f.others k d) h.0, h.1)
      ]
    ];
    found = λ n. elim (cases_Bool (leads_at then_ key n)) [
      | inl t ↦
          let gone : find now n ≡ None = f.numbers n ∙ ap (λ b. if b then None else find then_ n) t in
          let at = leads-key then_ key n t in
          elim (p.found n) [
            | inl e ↦ inr (key, sym e ∙ at, f.none, gone)
            | inr h ↦ let none : find then_ n ≡ None = h.3 in absurd (cc)
          ]
      | inr t ↦
          let same : find now n ≡ find then_ n = f.numbers n ∙ ap (λ b. if b then None else find then_ n) t in
          elim (p.found n) [
            | inl e ↦ inl (same ∙ e)
            | inr h ↦ inr (h.0, h.1, elim (cases_eq h.0 key) [ inl e ↦ ap (node_at new) e ∙ f.none | inr d ↦ none-bare mid new h.0 (f.others h.0 d) h.2 ], same ∙ h.3)
          ]
    ];
    long = f.long ∙ p.long;
    below = λ made b k n t. elim (cases_eq k key) [
      | inl e ↦ absurd (both_ways _ (ap (λ o. option_map_or (names n) o false) (ap (node_at new) e ∙ f.none)) t)
      | inr d ↦ p.below made b k n (sym (test-bare (names n) mid new k (λ x. refl) (f.others k d)) ∙ t)
    ];
  }

  of-key : is_at (of_block block) mid key ≡ true
  of-key =
      let x = at-is (flying_in block) mid key fly in
      is-at (of_block block) mid key x.0 x.1 ∙ (and_parts (x.0.class.block == block) (marks_flight x.0.class.mark) x.2).0

  pub fewer-left : classes_of block new < classes_of block mid
  fewer-left =
      let x = at-is (of_block block) mid key of-key in
      let low = below-nodes mid key x.0 x.1 in
      let e = sum_by-set {X = Option Node} (λ o. cond (passes (of_block block) o) 1 0) mid key None None low in
      let was : once (passes (of_block block) (node_at mid key)) ≡ 1 = ap once (is-at (of_block block) mid key x.0 x.1 ∙ x.2) in
      let less : Nodes = slice_set mid key None in
      let same : classes_of block new ≡ classes_of block less = count-alike (of_block block) less new (f.long ∙ sym (length-set mid key None)) (λ k. elim (cases_eq k key) [
        | inl h ↦ ap (λ o. option_map_or (of_block block) o false) (ap (node_at new) h ∙ f.none) ∙ sym (ap (λ o. option_map_or (of_block block) o false) (ap (node_at less) h ∙ get_or-set_same mid key None None low))
        | inr d ↦ test-bare (of_block block) mid new k (λ x. refl) (f.others k d) ∙ sym (ap (λ o. option_map_or (of_block block) o false) (get_or-set_other mid key k None None d))
      ]) in
      omega (arith, e, was, same)

module _ (block : ℕ) (old new : Nodes) (numbers now : Numbers) (before after : Blocks) (s : Stands old numbers before) (t : Stands new now after) (p : ArePartLanded block old new numbers now)
    (none : (of_at after block).flying ≡ []) where
  not-flying : (k : ℕ) → is_at (flying_in block) new k ≡ false
  not-flying k = once-false _ (sym ((t.listed block).flying k) ∙ ap (λ xs. times xs k) none)

  lands-is : (nodes : Nodes) (k : ℕ) → lands_at (slots_of nodes) block k ≡ is_at (flying_in block) nodes k
  lands-is nodes k = ap (λ o. option_map_or (lands block) o false) (slots-at nodes k) ∙ by (node_at nodes k)
    where
      turn : (a b : Bool) → (a && b) ≡ (b && a)
      turn true true = refl
      turn true false = refl
      turn false true = refl
      turn false false = refl

      by : (o : Option Node) → option_map_or (lands block) (option_map (λ x. x.class) o) false ≡ option_map_or (flying_in block) o false
      by None = refl
      by (Some x) = turn (marks_flight x.class.mark) (x.class.block == block)

  -- a number leads to a class
  leads-there : (nodes : Nodes) (ns : Numbers) → AreMembers nodes ns → (n k : ℕ) → find ns n ≡ Some k → (x : Node) × (node_at nodes k ≡ Some x) × (is_among x.class.members n ≡ true)
  leads-there nodes ns m n k at = at-is (has_member n) nodes k (sym (m n k) ∙ ap (λ o. option_map_or (λ j. j == k) o false) at ∙ eq-eqb k k refl)

  gone-if : (k : ℕ) → is_at (flying_in block) old k ≡ true → node_at new k ≡ None
  gone-if k u = elim (p.classes k) [
    | inl e ↦ absurd (both_ways _ (not-flying k) (class-alike (λ c. c.block == block && marks_flight c.mark) old new k e ∙ u))
    | inr h ↦ h.0
  ]

  pub landed-all : AreLanded (slots_of old) (slots_of new) numbers now block (λ key. true)
  landed-all = record {
    slots = λ k. elim (cases_Bool (lands_at (slots_of old) block k)) [
      | inl u ↦ slots-at new k ∙ ap (option_map (λ x. x.class)) (gone-if k (sym (lands-is old k) ∙ u)) ∙ sym (ap (λ b. if b then None else class_at (slots_of old) k) u)
      | inr u ↦ elim (p.classes k) [
        | inl e ↦ slots-at new k ∙ e ∙ sym (slots-at old k) ∙ sym (ap (λ b. if b then None else class_at (slots_of old) k) u)
        | inr h ↦ absurd (both_ways _ u (lands-is old k ∙ h.1))
      ]
    ];
    gone = λ k n c u at land among.
        let x = cases_option (node_at old k) in
        elim x [
          | inl empty ↦ let e : class_at (slots_of old) k ≡ None = slots-at old k ∙ ap (option_map (λ x. x.class)) empty in absurd (cc)
          | inr y ↦
              let same : y.0.class ≡ c = ap (λ o. option_map_or (λ z. z) o c) (sym (slots-at old k ∙ ap (option_map (λ x. x.class)) y.1) ∙ at) in
              let led : leads_at numbers k n ≡ true = s.members n k ∙ is-at (has_member n) old k y.0 y.1 ∙ ap (λ z. is_among z.members n) same ∙ among in
              let was = leads-key numbers k n led in
              let fly : is_at (flying_in block) old k ≡ true = sym (lands-is old k) ∙ ap (λ o. option_map_or (lands block) o false) at ∙ land in
              let empty = gone-if k fly in
              elim (p.found n) [
                | inl e ↦ let there = leads-there new now t.members n k (e ∙ was) in absurd (let a = there.1 in cc)
                | inr h ↦ h.3
              ]
        ];
    kept = λ n f. elim (p.found n) [
      | inl e ↦ e
      | inr h ↦
          let there = leads-there old numbers s.members n h.0 h.1 in
          elim (p.classes h.0) [
            | inl e ↦
                let a : class_in new h.0 ≡ None = ap (option_map (λ x. x.class)) h.2 in
                let b : class_in old h.0 ≡ Some there.0.class = ap (option_map (λ x. x.class)) there.1 in absurd (cc)
            | inr l ↦
                let at : class_at (slots_of old) h.0 ≡ Some there.0.class = slots-at old h.0 ∙ ap (option_map (λ x. x.class)) there.1 in
                let land : lands block there.0.class ≡ true = sym (ap (λ o. option_map_or (lands block) o false) at) ∙ lands-is old h.0 ∙ l.1 in
                absurd (both_ways _ (f h.0 there.0.class refl at land) there.2)
          ]
    ];
    long = length-map new (option_map (λ x. x.class)) ∙ p.long ∙ sym (length-map old (option_map (λ x. x.class)));
  }

-- the lists are told of as before
pub stands-same : (nodes : Nodes) (numbers : Numbers) (old new : Blocks) → Stands nodes numbers old → ((block : ℕ) → of_at new block ≡ of_at old block) → Stands nodes numbers new
stands-same nodes numbers old new s same = record {
  members = s.members;
  linked = s.linked;
  counted = s.counted;
  listed = λ b. rw (same b) (s.listed b);
  settled = λ b. rw (same b) (s.settled b);
}
