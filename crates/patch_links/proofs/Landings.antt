-- Classes in flight that are forgotten.
use Rattle.std.proofs.Common.{zero, suc, take, drop, ◌≡◌, ℕ, ◌+◌, ◌-◌, ◌<◌, ◌≤◌, ◌∙◌, inl, inr, Bool, true, false, List, [], ◌∷◌, length, refl, sym, ap, arith, Option, Some, None}
use Rattle.std.specs.Prelude.{◌==◌, ◌&&◌, ◌≢◌, slice_index_or, slice_set, count_by, cond, not, if◌then◌else◌, ◌||◌}
use Rattle.std.specs.Option.{option_map, option_map_or}
use Rattle.std.proofs.lemmas.Bool.{cases_Bool, cases_eq, and_parts, and_from, and_left, and_right, both_ways, eqb-true, eq-eqb, ne_eqb, false_from_ne_true, or_left, or_right}
use Rattle.std.proofs.lemmas.List.{get_or-set_same, get_or-set_other, length-set}
use Rattle.std.proofs.lemmas.List.Sums.{sum_by-set}
use Rattle.patch_model.specs.Entry.{is_among, marks_memory, marks_flight}
use Rattle.patch_links.specs.State.{Node, Nodes, Numbers, find, leads_at, node_at, is_at}
use Rattle.patch_links.specs.Waiting.{of_block, ready_in, is_due, is_unmet, AreOwed, AreCounted, AreLinked}
use Rattle.patch_links.specs.Lists.{OfBlock, Blocks, of_at, nothing, times, once, due_in, flying_in, classes_of, IsListed, AreListed, AreSettled, IsSettled}
use Rattle.patch_links.specs.Invariants.{bare, has_member, AreMembers, AreBelow, KeepsBare, PaysOne, Stands}
use Rattle.patch_links.specs.MarkDurable.{AreForgotten, AreTold, HasPopped, IsForgotten, PaysLed}
use Rattle.patch_links.proofs.Counts.{count-cons, count-last, count-same, count-split, once-most, once-true}
use Rattle.patch_links.proofs.Places.{cases_option, is-at, below-nodes, passes, fits}
use Rattle.patch_links.proofs.Waits.{owed-alike, linked-kept}
use Rattle.patch_links.proofs.Passing.{bare-same, bare-then}
use Rattle.patch_links.proofs.Keeping.{bare-plain, members-kept}
use Rattle.patch_links.proofs.Listings.{AreAlike, listed-alike}
use Rattle.patch_links.proofs.Launching.{not-both, settled-holds, settled-all}

pub forgotten-more : (members : List ℕ) (old mid new : Numbers) (i member : ℕ) → slice_index_or members i 0 ≡ member → AreForgotten members old mid i
    → find new member ≡ None → ((n : ℕ) → n ≢ member → find new n ≡ find mid n) → AreForgotten members old new (i + 1)
forgotten-more members old mid new i member at p none others = record {
  gone = λ j h. elim (cases_eq (slice_index_or members j 0) member) [
    | inl e ↦ ap (find new) e ∙ none
    | inr d ↦ others (slice_index_or members j 0) d ∙ p.gone j (elim (cases_eq j i) [ inl s ↦ absurd (d (ap (λ k. slice_index_or members k 0) s ∙ at)) | inr s ↦ omega arith ])
  ];
  kept = λ n f. others n (λ e. f i (omega arith) (at ∙ sym e)) ∙ p.kept n (λ j h. f j (omega arith));
}

pub some-class : (block key : ℕ) (nodes : Nodes) → is_at (of_block block) nodes key ≡ true → 1 ≤ classes_of block nodes
some-class block key nodes t = fits (of_block block) (key ∷ []) nodes (λ k. elim (cases_eq k key) [
  | inl e ↦
      let a = count-cons (λ j. j == k) key [] in
      let b = once-most (key == k) in
      let on : once (is_at (of_block block) nodes k) ≡ 1 = ap once (ap (is_at (of_block block) nodes) e ∙ t) in omega arith
  | inr n ↦
      let a = count-cons (λ j. j == k) key [] in
      let b : once (key == k) ≡ 0 = ap once (ne_eqb key k (λ e. n (sym e))) in omega arith
])

-- a block with a class has lists
pub some-listed : (block key : ℕ) (nodes : Nodes) → is_at (of_block block) nodes key ≡ true → IsListed block nodes nothing → ⊥
some-listed block key nodes t l =
    let c = l.counted in
    let most = some-class block key nodes t in absurd (omega arith)

-- there is no class at the key, so nobody waits
pub paid-nobody : (numbers : Numbers) (key : ℕ) (nodes : Nodes) → node_at nodes key ≡ None → PaysOne numbers key nodes nodes
paid-nobody numbers key nodes none debt h k x at = elim (cases_eq k key) [
  | inl e ↦ absurd (let n : node_at nodes k ≡ None = ap (node_at nodes) e ∙ none in cc)
  | inr d ↦
      let o = h k x at in
      let zero_ : once (k == key) ≡ 0 = ap once (ne_eqb k key d) in omega arith
]

turn-eq : (a b : ℕ) → (a == b) ≡ (b == a)
turn-eq a b = elim (cases_eq a b) [ inl e ↦ eq-eqb a b e ∙ sym (eq-eqb b a (sym e)) | inr n ↦ ne_eqb a b n ∙ sym (ne_eqb b a (λ e. n (sym e))) ]

pub led-some : (numbers : Numbers) (n key : ℕ) (old new : Nodes) → find numbers n ≡ Some key → PaysOne numbers key old new → PaysLed numbers n old new
led-some numbers n key old new at p debt h = p debt (owed-alike old numbers _ _ (λ k c.
    ap (λ b. debt k c + once b) (ap (λ o. option_map_or (λ j. j == k) o false) at ∙ turn-eq key k)) h)

pub led-none : (numbers : Numbers) (n : ℕ) (nodes : Nodes) → find numbers n ≡ None → PaysLed numbers n nodes nodes
led-none numbers n nodes at debt h = owed-alike nodes numbers _ debt (λ k c.
    let z : once (leads_at numbers k n) ≡ 0 = ap once (ap (λ o. option_map_or (λ j. j == k) o false) at) in omega arith) h

-- so far: the classes that the first of these lead to were told
pub record ArePartTold (numbers : Numbers) (followers : List ℕ) (old new : Nodes) (blocks : Blocks) (place : ℕ) : Type 0 where
  pub listed : AreListed new blocks
  pub settled : AreSettled blocks
  pub bare : KeepsBare old new
  pub owed : AreOwed old numbers (λ key c. count_by (leads_at numbers key) followers) → AreOwed new numbers (λ key c. count_by (leads_at numbers key) (drop place followers))

pub told-none : (numbers : Numbers) (followers : List ℕ) (nodes : Nodes) (blocks : Blocks) → AreListed nodes blocks → AreSettled blocks → ArePartTold numbers followers nodes nodes blocks 0
told-none numbers followers nodes blocks l s = record { listed = l; settled = s; bare = bare-same nodes; owed = λ h. h }

rest-of : (xs : List ℕ) (i n : ℕ) → i < length xs → slice_index_or xs i 0 ≡ n → drop i xs ≡ n ∷ drop (i + 1) xs
rest-of xs i n h at = by xs i h at ∙ ap (λ j. n ∷ drop j xs) (let e : suc i ≡ i + 1 = omega arith in e)
  where
    by : (ys : List ℕ) (j : ℕ) → j < length ys → slice_index_or ys j 0 ≡ n → drop j ys ≡ n ∷ drop (suc j) ys
    by [] j h2 at2 = absurd (omega arith)
    by (y ∷ ys) zero h2 at2 = ap (λ z. z ∷ ys) at2
    by (y ∷ ys) (suc j) h2 at2 = by ys j (omega arith) at2

pub told-more : (numbers : Numbers) (followers : List ℕ) (old mid new : Nodes) (blocks after : Blocks) (place n : ℕ) → ArePartTold numbers followers old mid blocks place → place < length followers
    → slice_index_or followers place 0 ≡ n → AreListed new after → AreSettled after → KeepsBare mid new → PaysLed numbers n mid new → ArePartTold numbers followers old new after (place + 1)
told-more numbers followers old mid new blocks after place n p h at l s b paid = record {
  listed = l;
  settled = s;
  bare = bare-then old mid new p.bare b;
  owed = λ o. paid (λ key c. count_by (leads_at numbers key) (drop (place + 1) followers)) (owed-alike mid numbers _ _ (λ key c.
      let e : count_by (leads_at numbers key) (drop place followers) ≡ once (leads_at numbers key n) + count_by (leads_at numbers key) (drop (place + 1) followers) =
      ap (count_by (leads_at numbers key)) (rest-of followers place n h at) ∙ count-cons (leads_at numbers key) n (drop (place + 1) followers) in omega arith) (p.owed o));
}

drop-all : (xs : List ℕ) (i : ℕ) → length xs ≡ i → drop i xs ≡ []
drop-all [] zero at = refl
drop-all [] (suc i) at = refl
drop-all (x ∷ xs) zero at = absurd (omega arith)
drop-all (x ∷ xs) (suc i) at = drop-all xs i (omega arith)

pub told-all : (numbers : Numbers) (followers : List ℕ) (old new : Nodes) (blocks : Blocks) (place : ℕ) → ArePartTold numbers followers old new blocks place → length followers ≡ place
    → AreTold numbers followers old new
told-all numbers followers old new blocks place p all o key x at =
    let e = p.owed o key x at in
    let none : count_by (leads_at numbers key) (drop place followers) ≡ 0 = ap (count_by (leads_at numbers key)) (drop-all followers place all) in omega arith

-- a class in the ready set is due
pub ready-due : (block : ℕ) (nodes : Nodes) (of : OfBlock) (key : ℕ) → IsListed block nodes of → IsSettled of → is_at (ready_in block) nodes key ≡ true → is_at (due_in block) nodes key ≡ true
ready-due block nodes of key l s t =
    let a = settled-holds block nodes of l s key in
    let b = l.due key in
    let one : once (is_at (ready_in block) nodes key) ≡ 1 = ap once t in
    once-true _ (omega arith)

among-place : (members : List ℕ) (n : ℕ) → is_among members n ≡ true → (i : ℕ) × (i < length members) × (slice_index_or members i 0 ≡ n)
among-place [] n t = absurd (cc)
among-place (m ∷ members) n t = elim (cases_Bool (m == n)) [
  | inl u ↦ (0, omega arith, eqb-true m n u)
  | inr u ↦ let r = among-place members n (sym (ap (λ b. b || is_among members n) u) ∙ t) in (suc r.0, omega arith, r.2)
]

place-among : (members : List ℕ) (i n : ℕ) → i < length members → slice_index_or members i 0 ≡ n → is_among members n ≡ true
place-among [] i n h at = absurd (omega arith)
place-among (m ∷ members) zero n h at = or_left (m == n) _ (eq-eqb m n at)
place-among (m ∷ members) (suc i) n h at = or_right (m == n) _ (place-among members i n (omega arith) at)

pub leads-key : (numbers : Numbers) (key n : ℕ) → leads_at numbers key n ≡ true → find numbers n ≡ Some key
leads-key numbers key n t = elim (cases_option (find numbers n)) [
  | inl none ↦ absurd (both_ways _ (ap (λ o. option_map_or (λ k. k == key) o false) none) t)
  | inr k ↦ k.1 ∙ ap (λ j. Some j) (eqb-true k.0 key (sym (ap (λ o. option_map_or (λ k. k == key) o false) k.1) ∙ t))
]

module _ (block key : ℕ) (nodes rest : Nodes) (numbers now : Numbers) (x : Node) (before blocks : Blocks) (s : Stands nodes numbers before) (p : HasPopped block before blocks key)
    (at : node_at nodes key ≡ Some x) (is : rest ≡ slice_set nodes key None) (f : AreForgotten x.class.members numbers now (length x.class.members)) where
  pub is-flying : is_at (flying_in block) nodes key ≡ true
  is-flying =
      let l = (s.listed block).flying key in
      let a : times (of_at before block).flying key ≡ times p.left.flying key + once (key == key) = ap (λ xs. times xs key) p.loses.was ∙ count-last (λ j. j == key) p.left.flying key in
      let one : once (key == key) ≡ 1 = ap once (eq-eqb key key refl) in
      once-true _ (omega arith)

  parts : ((x.class.block == block) ≡ true) × (marks_flight x.class.mark ≡ true)
  parts = and_parts (x.class.block == block) (marks_flight x.class.mark) (sym (is-at (flying_in block) nodes key x at) ∙ is-flying)

  not-ready : (b : ℕ) → is_at (ready_in b) nodes key ≡ false
  not-ready b = elim (cases_eq b block) [
    | inl e ↦ rw e (false_from_ne_true _ (λ t.
        let due = sym (is-at (due_in block) nodes key x at) ∙ ready-due block nodes (of_at before block) key (s.listed block) (s.settled block) t in
        let memory = (and_parts (marks_memory x.class.mark) (x.waits == 0) (and_parts (x.class.block == block) (is_due x) due).1).0 in
        both_ways _ (not-both x.class.mark memory) parts.1))
    | inr n ↦ is-at (ready_in b) nodes key x at ∙ and_left _ _ (ne_eqb x.class.block b (λ e. n (sym e ∙ eqb-true x.class.block block parts.0)))
  ]

  pub gone-here : node_at rest key ≡ None
  gone-here = ap (λ ns. node_at ns key) is ∙ get_or-set_same nodes key None None (below-nodes nodes key x at)

  pub gone-else : (k : ℕ) → k ≢ key → node_at rest k ≡ node_at nodes k
  gone-else k d = ap (λ ns. node_at ns k) is ∙ get_or-set_other nodes key k None None d

  pub gone-long : length rest ≡ length nodes
  gone-long = ap length is ∙ length-set nodes key None

  member-here : (n : ℕ) → leads_at numbers key n ≡ is_among x.class.members n
  member-here n = s.members n key ∙ is-at (has_member n) nodes key x at

  pub find-now : (n : ℕ) → find now n ≡ (if leads_at numbers key n then None else find numbers n)
  find-now n = elim (cases_Bool (leads_at numbers key n)) [
    | inl t ↦ let i = among-place x.class.members n (sym (member-here n) ∙ t) in
        ap (find now) (sym i.2) ∙ f.gone i.0 i.1 ∙ sym (ap (λ b. if b then None else find numbers n) t)
    | inr t ↦ f.kept n (λ i h e. both_ways _ (sym (member-here n) ∙ t) (place-among x.class.members i n h e)) ∙ sym (ap (λ b. if b then None else find numbers n) t)
  ]

  leads-gone : (n : ℕ) → leads_at now key n ≡ false
  leads-gone n = elim (cases_Bool (leads_at numbers key n)) [
    | inl t ↦ ap (λ o. option_map_or (λ k. k == key) o false) (find-now n ∙ ap (λ b. if b then None else find numbers n) t)
    | inr t ↦ ap (λ o. option_map_or (λ k. k == key) o false) (find-now n ∙ ap (λ b. if b then None else find numbers n) t) ∙ t
  ]

  leads-else : (k n : ℕ) → k ≢ key → leads_at now k n ≡ leads_at numbers k n
  leads-else k n d = elim (cases_Bool (leads_at numbers key n)) [
    | inl t ↦ ap (λ o. option_map_or (λ j. j == k) o false) (find-now n ∙ ap (λ b. if b then None else find numbers n) t)
        ∙ sym (ap (λ o. option_map_or (λ j. j == k) o false) (leads-key numbers key n t) ∙ ne_eqb key k (λ e. d (sym e)))
    | inr t ↦ ap (λ o. option_map_or (λ j. j == k) o false) (find-now n ∙ ap (λ b. if b then None else find numbers n) t)
  ]

  pub members-left : AreMembers rest now
  members-left n k = elim (cases_eq k key) [
    | inl e ↦ rw e (leads-gone n ∙ sym (ap (λ o. option_map_or (has_member n) o false) gone-here))
    | inr d ↦ leads-else k n d ∙ s.members n k ∙ sym (ap (λ o. option_map_or (has_member n) o false) (gone-else k d))
  ]

  -- a class that is left was there
  was-there : (k : ℕ) (y : Node) → node_at rest k ≡ Some y → (k ≢ key) × (node_at nodes k ≡ Some y)
  was-there k y here = elim (cases_eq k key) [
    | inl e ↦ absurd (let n : node_at rest k ≡ None = ap (node_at rest) e ∙ gone-here in cc)
    | inr d ↦ (d, sym (gone-else k d) ∙ here)
  ]

  pub linked-left : AreLinked rest now
  linked-left k j y z apart here there =
      let a = was-there k y here in
      let b = was-there j z there in
      count-same (leads_at now k) (leads_at numbers k) z.followers (λ n. leads-else k n a.0) ∙ s.linked k j y z apart a.1 b.1
      ∙ sym (count-same (leads_at now j) (leads_at numbers j) y.class.after (λ n. leads-else j n b.0))

  pub owed-left : AreOwed rest now (λ k c. count_by (leads_at now k) x.followers)
  owed-left k y here =
      let a = was-there k y here in
      let c = s.counted k y a.1 in
      let link = count-same (leads_at now k) (leads_at numbers k) x.followers (λ n. leads-else k n a.0) ∙ s.linked k key y x a.0 a.1 at in
      let split = count-split (is_unmet rest now k y.class.block) (leads_at numbers key) (is_unmet nodes numbers k y.class.block) y.class.after (λ n. by k y a.0 n (find numbers n) refl) in
      omega arith
    where
      test : Nodes → ℕ → ℕ → Option ℕ → Bool
      test ns k b o = option_map_or (λ i. not (i == k) && not (is_at (ready_in b) ns i)) o false

      by : (k : ℕ) (y : Node) → k ≢ key → (n : ℕ) (o : Option ℕ) → find numbers n ≡ o
          → once (test rest k y.class.block (find now n)) + once (leads_at numbers key n) ≡ once (test nodes k y.class.block (find numbers n))
      by k y d n o there = elim (cases_Bool (leads_at numbers key n)) [
        | inl t ↦
            let none : find now n ≡ None = find-now n ∙ ap (λ b. if b then None else find numbers n) t in
            let a : once (test rest k y.class.block (find now n)) ≡ 0 = ap (λ o. once (test rest k y.class.block o)) none in
            let b : once (leads_at numbers key n) ≡ 1 = ap once t in
            let e : once (test nodes k y.class.block (find numbers n)) ≡ 1 = ap (λ o. once (test nodes k y.class.block o)) (leads-key numbers key n t)
            ∙ ap once (and_from _ _ (ap not (ne_eqb key k (λ e. d (sym e)))) (ap not (not-ready y.class.block))) in omega arith
        | inr t ↦
            let same : find now n ≡ find numbers n = find-now n ∙ ap (λ b. if b then None else find numbers n) t in
            let b : once (leads_at numbers key n) ≡ 0 = ap once t in
            let a : once (test rest k y.class.block (find now n)) ≡ once (test nodes k y.class.block (find numbers n)) =
            ap (λ o. once (test rest k y.class.block o)) same ∙ ap once (kept (find numbers n) t) in omega arith
      ]
        where
          kept : (o : Option ℕ) → option_map_or (λ i. i == key) o false ≡ false → test rest k y.class.block o ≡ test nodes k y.class.block o
          kept None u = refl
          kept (Some i) u = ap (λ b. not (i == k) && not b) (ap (λ o. option_map_or (ready_in y.class.block) o false) (gone-else i (λ e. both_ways _ u (eq-eqb i key e))))

  -- a test that the class in flight didn't pass
  test-left : (test : Node → Bool) → test x ≡ false → (k : ℕ) → is_at test rest k ≡ is_at test nodes k
  test-left test off k = elim (cases_eq k key) [
    | inl e ↦ rw e (ap (λ o. option_map_or test o false) gone-here ∙ sym (is-at test nodes key x at ∙ off))
    | inr d ↦ ap (λ o. option_map_or test o false) (gone-else k d)
  ]

  alike-left : (b : ℕ) → b ≢ block → AreAlike b nodes rest
  alike-left b d =
      let off : (x.class.block == b) ≡ false = ne_eqb x.class.block b (λ e. d (sym e ∙ eqb-true x.class.block block parts.0)) in
      record {
        due = test-left (due_in b) (and_left _ _ off);
        ready = test-left (ready_in b) (and_left _ _ off);
        flying = test-left (flying_in b) (and_left _ _ off);
        of = test-left (of_block b) off;
      }

  pub fewer : classes_of block rest + 1 ≡ classes_of block nodes
  fewer =
      let e = sum_by-set {X = Option Node} (λ o. cond (passes (of_block block) o) 1 0) nodes key None None (below-nodes nodes key x at) in
      let was : once (passes (of_block block) (node_at nodes key)) ≡ 1 = ap once (is-at (of_block block) nodes key x at ∙ parts.0) in
      let same : classes_of block rest ≡ classes_of block (slice_set nodes key None) = ap (classes_of block) is in
      omega (arith, e, was, same)

  listed-here : IsListed block rest p.left
  listed-here =
      let l = s.listed block in
      let c = p.loses.changed in
      let less = fewer in
      let counted = l.counted in
      let count : p.left.count ≡ (of_at before block).count - 1 = ap (λ o. o.count) c in
      let rr : p.left.room_ready ≡ (of_at before block).room_ready = ap (λ o. o.room_ready) c in
      let rf : p.left.room_flying ≡ (of_at before block).room_flying = ap (λ o. o.room_flying) c in
      let a = l.room_ready in
      let b = l.room_flying in
      record {
        due = λ k. ap (λ o. times o.ready k) c ∙ l.due k ∙ sym (ap once (test-left (due_in block) (and_right _ _ (and_left _ _ not-memory)) k));
        ready = λ k. ap (λ o. times (take o.done o.ready) k) c ∙ l.ready k ∙ sym (ap once (test-left (ready_in block) (sym (is-at (ready_in block) nodes key x at) ∙ not-ready block) k));
        flying = λ k.
            let h = l.flying k in
            let last : times (of_at before block).flying k ≡ times p.left.flying k + once (key == k) = ap (λ xs. times xs k) p.loses.was ∙ count-last (λ j. j == k) p.left.flying key in
            elim (cases_eq k key) [
              | inl e ↦
                  let one : once (key == k) ≡ 1 = ap once (eq-eqb key k (sym e)) in
                  let most = once-most (is_at (flying_in block) nodes k) in
                  let none : once (is_at (flying_in block) rest k) ≡ 0 = ap once (ap (λ j. is_at (flying_in block) rest j) e ∙ ap (λ o. option_map_or (flying_in block) o false) gone-here) in omega arith
              | inr d ↦
                  let z : once (key == k) ≡ 0 = ap once (ne_eqb key k (λ e. d (sym e))) in
                  let same : once (is_at (flying_in block) rest k) ≡ once (is_at (flying_in block) nodes k) = ap (λ o. once (option_map_or (flying_in block) o false)) (gone-else k d) in omega arith
            ];
        counted = omega arith;
        within = let w = l.within in let d : p.left.done ≡ (of_at before block).done = ap (λ o. o.done) c in let r : length p.left.ready ≡ length (of_at before block).ready = ap (λ o. length o.ready) c in omega arith;
        room_ready = omega arith;
        room_flying = omega arith;
      }
    where
      not-memory : marks_memory x.class.mark ≡ false
      not-memory = false_from_ne_true _ (λ t. both_ways _ (not-both x.class.mark t) parts.1)

  pub listed-left : AreListed rest blocks
  listed-left b = elim (cases_eq b block) [
    | inl e ↦ rw (e, p.changed.here) listed-here
    | inr d ↦ rw (p.changed.others b d) (listed-alike b nodes rest (of_at before b) (alike-left b d) (s.listed b))
  ]

  pub settled-left : AreSettled blocks
  settled-left = settled-all block before blocks p.left s.settled p.changed
      (let c = p.loses.changed in ap (λ o. o.done) c ∙ s.settled block ∙ sym (ap (λ o. length o.ready) c))

  pub forgotten-then : (new : Nodes) → KeepsBare rest new → IsForgotten key nodes new numbers now
  forgotten-then new k = record {
    none = elim (cases_option (node_at new key)) [
      | inl none ↦ none
      | inr y ↦
          let a : option_map bare (node_at new key) ≡ Some (bare y.0) = ap (option_map bare) y.1 in
          let b : option_map bare (node_at rest key) ≡ None = ap (option_map bare) gone-here in
          let e = k.bare key in absurd (cc)
    ];
    others = λ j d. k.bare j ∙ ap (option_map bare) (gone-else j d);
    numbers = find-now;
    long = k.long ∙ gone-long;
  }

  pub stands-left : (new : Nodes) (after : Blocks) → KeepsBare rest new → AreCounted new now → AreListed new after → AreSettled after → Stands new now after
  stands-left new after k counted listed settled = record {
    members = members-kept rest new now (bare-plain rest new k) members-left;
    linked = linked-kept rest new now k linked-left;
    counted = counted;
    listed = listed;
    settled = settled;
  }

pub stands-none : Stands [] [] []
stands-none = record {
  members = λ n key. refl;
  linked = λ key j x y apart at at2. absurd (cc);
  counted = λ key x at. absurd (cc);
  listed = λ b. record { due = λ k. refl; ready = λ k. refl; flying = λ k. refl; counted = refl; within = omega arith; room_ready = omega arith; room_flying = omega arith };
  settled = λ b. refl;
}

pub below-none : AreBelow 0 []
below-none key n t = absurd (cc)
