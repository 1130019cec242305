-- Ready sets that are put in flight.
use Rattle.std.proofs.Common.{◌≡◌, ℕ, zero, suc, ◌+◌, ◌<◌, ◌∙◌, inl, inr, Bool, true, false, List, [], ◌∷◌, length, refl, sym, ap, arith, subst, Option, Some, None, take, drop}
use Rattle.std.specs.Prelude.{◌==◌, ◌||◌, slice_get, slice_index_or, if◌then◌else◌}
use Rattle.std.specs.Option.{option_map}
use Rattle.std.proofs.lemmas.Bool.{cases_eq, eq-eqb, ne_eqb, and_parts}
use Rattle.patch_model.specs.Entry.{is_among}
use Rattle.patch_links.specs.State.{Node, Nodes, Numbers, node_at, is_at, changed_at}
use Rattle.patch_links.specs.Waiting.{of_block, ready_in, AreCounted, AreLinked, AreOwing, passed_by, raised, unreadied, passed_to, followers_at}
use Rattle.patch_links.specs.Lists.{times, once, HoldsJust}
use Rattle.patch_links.specs.Invariants.{KeepsRest, KeepsMarks}
use Rattle.patch_links.specs.MarkFlight.{flown_node, AreNodesFlown}
use Rattle.patch_links.proofs.Counts.{count-cons, once-most, once-true, once-false}
use Rattle.patch_links.proofs.Places.{is-at, at-is, changed-at}
use Rattle.patch_links.proofs.Waits.{raise-owing, passed_by-none, ready-passed, owing-unready, flipped-out}
use Rattle.patch_links.proofs.Passing.{rest-then, rest-same, passed-rest, changed-rest, followers-kept, drop-next, drop-last, drop-all}

-- so far: of the followers of a class, the first ones were told
pub record AreRaised (block from : ℕ) (numbers : Numbers) (old new : Nodes) (place : ℕ) : Type 0 where
  pub rest : KeepsRest block old new
  pub marks : KeepsMarks old new
  pub owing : AreOwing old numbers (passed_by numbers from block (followers_at old from)) → AreOwing new numbers (passed_by numbers from block (drop place (followers_at old from)))

pub raised-none : (block from : ℕ) (numbers : Numbers) (nodes : Nodes) → AreRaised block from numbers nodes nodes 0
raised-none block from numbers nodes = record { rest = rest-same block nodes; marks = λ b k. refl; owing = λ h. h }

pub raised-more : (block from : ℕ) (numbers : Numbers) (old mid : Nodes) (place n : ℕ) → AreRaised block from numbers old mid place → slice_get (followers_at mid from) place ≡ Some n
    → AreRaised block from numbers old (passed_to raised numbers from block mid n) (place + 1)
raised-more block from numbers old mid place n p at =
    let next : drop place (followers_at old from) ≡ n ∷ drop (place + 1) (followers_at old from) = drop-next (followers_at old from) place n (ap (λ xs. slice_get xs place) (sym (followers-kept old mid from p.rest.all)) ∙ at) in
    record {
      rest = rest-then block old mid (passed_to raised numbers from block mid n) p.rest (passed-rest raised numbers from block mid n (λ x. refl));
      marks = λ b k. ready-passed raised numbers from block mid n b k (λ x. refl) ∙ p.marks b k;
      owing = λ h. raise-owing numbers from block mid n (drop (place + 1) (followers_at old from)) (subst (λ xs. AreOwing mid numbers (passed_by numbers from block xs)) next (p.owing h));
    }

pub raised-skip : (block from : ℕ) (numbers : Numbers) (old mid : Nodes) (place : ℕ) → AreRaised block from numbers old mid place → slice_get (followers_at mid from) place ≡ None
    → AreRaised block from numbers old mid (place + 1)
raised-skip block from numbers old mid place p at =
    let next : drop (place + 1) (followers_at old from) ≡ drop place (followers_at old from) = drop-last (followers_at old from) place (ap (λ xs. slice_get xs place) (sym (followers-kept old mid from p.rest.all)) ∙ at) in
    record { rest = p.rest; marks = p.marks; owing = λ h. subst (λ xs. AreOwing mid numbers (passed_by numbers from block xs)) (sym next) (p.owing h) }

pub raised-all : (block from : ℕ) (numbers : Numbers) (old new : Nodes) (place : ℕ) → AreRaised block from numbers old new place → length (followers_at old from) ≡ place
    → AreOwing old numbers (passed_by numbers from block (followers_at old from)) → AreCounted new numbers
raised-all block from numbers old new place p all h key x at =
    let e = p.owing h key x at in
    let none : passed_by numbers from block (drop place (followers_at old from)) key x.class ≡ 0 =
    ap (λ xs. passed_by numbers from block xs key x.class) (drop-all (followers_at old from) place all) ∙ passed_by-none numbers from block key x.class in
    omega arith

pub ready-of : (block : ℕ) (nodes : Nodes) (key : ℕ) → is_at (ready_in block) nodes key ≡ true → is_at (of_block block) nodes key ≡ true
ready-of block nodes key t =
    let x = at-is (ready_in block) nodes key t in
    is-at (of_block block) nodes key x.0 x.1 ∙ (and_parts (x.0.class.block == block) x.0.ready x.2).0

-- what was owing once the class left the ready set, where its followers are read after that
pub owing-out : (nodes : Nodes) (numbers : Numbers) (key block : ℕ) → is_at (ready_in block) nodes key ≡ true → AreLinked nodes numbers → AreCounted nodes numbers
    → AreOwing (changed_at unreadied nodes key) numbers (passed_by numbers key block (followers_at (changed_at unreadied nodes key) key))
owing-out nodes numbers key block on linked counted =
    let of = ready-of block nodes key on in
    let same : followers_at (changed_at unreadied nodes key) key ≡ followers_at nodes key = followers-kept nodes (changed_at unreadied nodes key) key (changed-rest unreadied block nodes key (λ x. refl) of).all in
    subst (λ xs. AreOwing (changed_at unreadied nodes key) numbers (passed_by numbers key block xs)) (sym same) (owing-unready nodes numbers key block of on linked counted)

-- so far: the first of these are out of the ready set
pub record AreTakenOut (block : ℕ) (numbers : Numbers) (old new : Nodes) (ready : List ℕ) (place : ℕ) : Type 0 where
  pub rest : KeepsRest block old new
  pub left : HoldsJust (ready_in block) new (drop place ready)
  pub counted : AreCounted new numbers

pub taken-none : (block : ℕ) (numbers : Numbers) (nodes : Nodes) (ready : List ℕ) → HoldsJust (ready_in block) nodes ready → AreCounted nodes numbers → AreTakenOut block numbers nodes nodes ready 0
taken-none block numbers nodes ready h c = record { rest = rest-same block nodes; left = h; counted = c }

rest-of : (xs : List ℕ) (i n : ℕ) → i < length xs → slice_index_or xs i 0 ≡ n → drop i xs ≡ n ∷ drop (i + 1) xs
rest-of xs i n h at = by xs i h at ∙ ap (λ j. n ∷ drop j xs) (let e : suc i ≡ i + 1 = omega arith in e)
  where
    by : (ys : List ℕ) (j : ℕ) → j < length ys → slice_index_or ys j 0 ≡ n → drop j ys ≡ n ∷ drop (suc j) ys
    by [] j h2 at2 = absurd (omega arith)
    by (y ∷ ys) zero h2 at2 = ap (λ z. z ∷ ys) at2
    by (y ∷ ys) (suc j) h2 at2 = by ys j (omega arith) at2

-- the next of these is in the ready set still
pub taken-next : (block : ℕ) (numbers : Numbers) (old mid : Nodes) (ready : List ℕ) (place key : ℕ) → AreTakenOut block numbers old mid ready place → place < length ready
    → slice_index_or ready place 0 ≡ key → is_at (ready_in block) mid key ≡ true
taken-next block numbers old mid ready place key p h at =
    let next = rest-of ready place key h at in
    let l = p.left key in
    let a : times (drop place ready) key ≡ once (key == key) + times (drop (place + 1) ready) key = ap (λ xs. times xs key) next ∙ count-cons (λ j. j == key) key (drop (place + 1) ready) in
    let one : once (key == key) ≡ 1 = ap once (eq-eqb key key refl) in
    once-true _ (omega arith)

pub taken-more : (block : ℕ) (numbers : Numbers) (old mid new : Nodes) (ready : List ℕ) (place key : ℕ) → AreTakenOut block numbers old mid ready place → place < length ready
    → slice_index_or ready place 0 ≡ key → KeepsRest block mid new → KeepsMarks (changed_at unreadied mid key) new → AreCounted new numbers → AreTakenOut block numbers old new ready (place + 1)
taken-more block numbers old mid new ready place key p h at rest marks counted =
    let next = rest-of ready place key h at in
    let on = taken-next block numbers old mid ready place key p h at in
    let f = flipped-out mid key block (ready-of block mid key on) on in
    record {
      rest = rest-then block old mid new p.rest rest;
      left = λ k.
          let l = p.left k in
          let a : times (drop place ready) k ≡ once (key == k) + times (drop (place + 1) ready) k = ap (λ xs. times xs k) next ∙ count-cons (λ j. j == k) key (drop (place + 1) ready) in
          let m : once (is_at (ready_in block) new k) ≡ once (is_at (ready_in block) (changed_at unreadied mid key) k) = ap once (marks block k) in
          elim (cases_eq k key) [
            | inl e ↦
                let one : once (key == k) ≡ 1 = ap once (eq-eqb key k (sym e)) in
                let most = once-most (is_at (ready_in block) mid k) in
                let off : once (is_at (ready_in block) (changed_at unreadied mid key) k) ≡ 0 = ap once (ap (is_at (ready_in block) (changed_at unreadied mid key)) e ∙ f.off) in omega arith
            | inr n ↦
                let zero_ : once (key == k) ≡ 0 = ap once (ne_eqb key k (λ e. n (sym e))) in
                let same : once (is_at (ready_in block) mid k) ≡ once (is_at (ready_in block) (changed_at unreadied mid key) k) = ap once (f.rest block k (inl n)) in omega arith
          ];
      counted = counted;
    }

pub taken-all : (block : ℕ) (numbers : Numbers) (old new : Nodes) (ready : List ℕ) (place : ℕ) → AreTakenOut block numbers old new ready place → length ready ≡ place
    → (key : ℕ) → is_at (ready_in block) new key ≡ false
taken-all block numbers old new ready place p all key =
    let l = p.left key in
    let none : times (drop place ready) key ≡ 0 = ap (λ xs. times xs key) (drop-all ready place all) in
    once-false _ (omega arith)

among-more : (xs : List ℕ) (i k : ℕ) → i < length xs → is_among (take (suc i) xs) k ≡ (is_among (take i xs) k || slice_index_or xs i 0 == k)
among-more [] i k h = absurd (omega arith)
among-more (x ∷ xs) zero k h = by (x == k)
  where
    by : (b : Bool) → (b || false) ≡ (false || b)
    by true = refl
    by false = refl
among-more (x ∷ xs) (suc i) k h = ap (λ b. x == k || b) (among-more xs i k (omega arith)) ∙ by (x == k) (is_among (take i xs) k) (slice_index_or xs i 0 == k)
  where
    by : (a b c : Bool) → (a || (b || c)) ≡ ((a || b) || c)
    by true b c = refl
    by false b c = refl

pub flown-none : (ready : List ℕ) (nodes : Nodes) → AreNodesFlown (is_among (take 0 ready)) nodes nodes
flown-none ready nodes k = sym (by (node_at nodes k))
  where
    by : (o : Option Node) → option_map (λ x. x) o ≡ o
    by None = refl
    by (Some x) = refl

pub flown-more : (ready : List ℕ) (old mid : Nodes) (i key : ℕ) → AreNodesFlown (is_among (take i ready)) old mid → i < length ready → slice_index_or ready i 0 ≡ key
    → AreNodesFlown (is_among (take (i + 1) ready)) old (changed_at flown_node mid key)
flown-more ready old mid i key p h at k =
    let e : i + 1 ≡ suc i = omega arith in
    let more : is_among (take (i + 1) ready) k ≡ (is_among (take i ready) k || k == key) =
    ap (λ j. is_among (take j ready) k) e ∙ among-more ready i k h ∙ ap (λ j. is_among (take i ready) k || j == k) at ∙ ap (λ b. is_among (take i ready) k || b) (turn key k) in
    changed-at flown_node mid key k ∙ ap (option_map (λ x. if k == key then flown_node x else x)) (p k) ∙ by (is_among (take i ready) k) (k == key) (node_at old k)
    ∙ sym (ap (λ b. option_map (λ x. if b then flown_node x else x) (node_at old k)) more)
  where
    turn : (a b : ℕ) → (a == b) ≡ (b == a)
    turn a b = elim (cases_eq a b) [ inl e ↦ eq-eqb a b e ∙ sym (eq-eqb b a (sym e)) | inr n ↦ ne_eqb a b n ∙ sym (ne_eqb b a (λ e. n (sym e))) ]

    by : (a b : Bool) (o : Option Node) → option_map (λ x. if b then flown_node x else x) (option_map (λ x. if a then flown_node x else x) o) ≡ option_map (λ x. if a || b then flown_node x else x) o
    by a b None = refl
    by true true (Some x) = refl
    by true false (Some x) = refl
    by false b (Some x) = refl

pub flown-all : (ready : List ℕ) (old new : Nodes) (i : ℕ) → AreNodesFlown (is_among (take i ready)) old new → length ready ≡ i → AreNodesFlown (is_among ready) old new
flown-all ready old new i p all = subst (λ xs. AreNodesFlown (is_among xs) old new) (whole ready i all) p
  where
    whole : (xs : List ℕ) (j : ℕ) → length xs ≡ j → take j xs ≡ xs
    whole [] zero e = refl
    whole [] (suc j) e = refl
    whole (x ∷ xs) zero e = absurd (omega arith)
    whole (x ∷ xs) (suc j) e = ap (λ ys. x ∷ ys) (whole xs j (omega arith))
