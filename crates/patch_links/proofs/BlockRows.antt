-- What is kept of blocks, by rows of which some may not stand.
use Rattle.std.proofs.Common.{◌≡◌, ℕ, ◌<◌, ◌≤◌, ◌∙◌, inl, inr, Bool, false, List, [], length, refl, sym, ap, arith, subst, Option, Some, None, is_some, get_or, true≢false, set}
use Rattle.std.specs.Prelude.{◌==◌, ◌≢◌, ◌/◌, if◌then◌else◌}
use Rattle.std.proofs.lemmas.Bool.{cases_eq, cases_lt, eq-eqb, ne_eqb}
use Rattle.std.proofs.lemmas.List.{get_or-set_same, get_or-set_other, get_or_past, set_past}
use Rattle.std.proofs.Math.ListN.{get_or-map}
use Rattle.patch_model.specs.declared.limits.TheConstants.{MAX_CACHED}
use Rattle.patch_numbers.specs.BlockSets.{holds, HasRoom}
use Rattle.patch_links.specs.Lists.{OfBlock, Blocks, nothing, row_or_nothing, lists_of, of_at, is_open, AreNoted, ChangesOf, LetsGo}
use Rattle.patch_links.specs.Adding.{HasLists, IsRoomierOf, KeepsLists}

abbrev pub Rows : Type 0
Rows = List (Option OfBlock)

-- the row of the block, if it stands
abbrev pub row_of : Rows → ℕ → Option OfBlock
row_of rows block = get_or rows block None

pub of-row : (rows : Rows) (block : ℕ) → of_at (lists_of rows) block ≡ row_or_nothing (row_of rows block)
of-row rows block = get_or-map row_or_nothing rows block None

-- a row that stands is among them
pub row-low : (rows : Rows) (i : ℕ) (of : OfBlock) → Some of ≡ row_of rows i → i < length rows
row-low rows i of at = elim (cases_lt i (length rows)) [ inl h ↦ h | inr h ↦ absurd (true≢false (ap is_some (at ∙ get_or_past rows i None h))) ]

-- the row of each block once one was written
pub row-here : (rows : Rows) (i : ℕ) (row : Option OfBlock) → i < length rows → row_of (set rows i row) i ≡ row
row-here rows i row low = get_or-set_same rows i row None low

pub row-else : (rows : Rows) (i n : ℕ) (row : Option OfBlock) → n ≢ i → row_of (set rows i row) n ≡ row_of rows n
row-else rows i n row d = get_or-set_other rows i n row None d

-- what is kept of the block, as its row is lent
pub list-at : (seen : Blocks) (rows : Rows) (block i : ℕ) (row : Option OfBlock) → lists_of rows ≡ seen → i ≡ block → row ≡ row_of rows i → row_or_nothing row ≡ of_at seen block
list-at seen rows block i row same place is =
    ap row_or_nothing is ∙ ap (λ k. row_or_nothing (row_of rows k)) place ∙ sym (of-row rows block) ∙ ap (λ (xs : Blocks). of_at xs block) same

-- one block's lists were changed, among those that are seen
pub changes-in : (seen : Blocks) (rows : Rows) (block i : ℕ) (was of : OfBlock) → lists_of rows ≡ seen → i ≡ block → Some was ≡ row_of rows i → ChangesOf block seen (lists_of (set rows i (Some of))) of
changes-in seen rows block i was of same place is = record {
  here = of-row (set rows i (Some of)) block ∙ ap (λ k. row_or_nothing (row_of (set rows i (Some of)) k)) (sym place) ∙ ap row_or_nothing (row-here rows i (Some of) (row-low rows i was is));
  others = λ b d.
      of-row (set rows i (Some of)) b ∙ ap row_or_nothing (row-else rows i b (Some of) (λ e. d (e ∙ place))) ∙ sym (of-row rows b) ∙ ap (λ (xs : Blocks). of_at xs b) same;
}

-- the set has room for a block whose row stands
pub room-of : (words : List ℕ) (rows : Rows) (block i : ℕ) (was : OfBlock) → AreNoted words rows → i ≡ block → Some was ≡ row_of rows i → block < MAX_CACHED → HasRoom words block
room-of words rows block i was noted place is few = noted.room block (sym (ap is_some (is ∙ ap (row_of rows) place))) few

-- the set was told of the block's lists
pub noted-row : (words now : List ℕ) (rows : Rows) (block i : ℕ) (was of : OfBlock) (b : Bool) → AreNoted words rows → i ≡ block → Some was ≡ row_of rows i → b ≡ is_open of
    → ((n : ℕ) → n < MAX_CACHED → holds now n ≡ (if n == block then b else holds words n)) → length now ≡ length words → AreNoted now (set rows i (Some of))
noted-row words now rows block i was of b noted place is told tells long = record {
  just = λ n few. elim (cases_eq n i) [
    | inl e ↦
        let here : of_at (lists_of (set rows i (Some of))) n ≡ of = of-row (set rows i (Some of)) n ∙ ap (λ k. row_or_nothing (row_of (set rows i (Some of)) k)) e ∙ ap row_or_nothing (row-here rows i (Some of) (row-low rows i was is)) in
        tells n few ∙ ap (λ t. if t then b else holds words n) (eq-eqb n block (e ∙ place)) ∙ told ∙ sym (ap is_open here)
    | inr d ↦
        let other : of_at (lists_of (set rows i (Some of))) n ≡ of_at (lists_of rows) n = of-row (set rows i (Some of)) n ∙ ap row_or_nothing (row-else rows i n (Some of) d) ∙ sym (of-row rows n) in
        tells n few ∙ ap (λ t. if t then b else holds words n) (ne_eqb n block (λ e. d (e ∙ sym place))) ∙ noted.just n few ∙ sym (ap is_open other)
  ];
  room = λ n stands few. subst (λ k. n / 64 < k) (sym long) (noted.room n (elim (cases_eq n i) [
    | inl e ↦ sym (ap is_some (is ∙ ap (row_of rows) (sym e)))
    | inr d ↦ ap is_some (sym (row-else rows i n (Some of) d)) ∙ stands
  ]) few);
}

-- the set alone has changed, and has more room
pub noted-roomier : (words now : List ℕ) (rows : Rows) → AreNoted words rows → ((n : ℕ) → holds now n ≡ holds words n) → length words ≤ length now → AreNoted now rows
noted-roomier words now rows noted same long = record {
  just = λ n few. same n ∙ noted.just n few;
  room = λ n stands few. let room = noted.room n stands few in omega arith;
}

-- the same rows stand
pub noted-alike : (words : List ℕ) (rows after : Rows) → AreNoted words rows → ((n : ℕ) → row_of after n ≡ row_of rows n) → AreNoted words after
noted-alike words rows after noted same = record {
  just = λ n few. noted.just n few ∙ ap is_open (of-row rows n ∙ ap row_or_nothing (sym (same n)) ∙ sym (of-row after n));
  room = λ n stands few. noted.room n (ap is_some (sym (same n)) ∙ stands) few;
}

pub kept-alike : (rows after : Rows) → ((n : ℕ) → row_of after n ≡ row_of rows n) → KeepsLists (lists_of rows) (lists_of after)
kept-alike rows after same n =
    subst (IsRoomierOf (of_at (lists_of rows) n)) (of-row rows n ∙ ap row_or_nothing (sym (same n)) ∙ sym (of-row after n)) (record { same = refl; ready = omega arith; flying = omega arith })

-- the lists of one block have more room
pub kept-roomier : (rows : Rows) (i : ℕ) (was of : OfBlock) → Some was ≡ row_of rows i → IsRoomierOf was of → KeepsLists (lists_of rows) (lists_of (set rows i (Some of)))
kept-roomier rows i was of is more n = elim (cases_eq n i) [
  | inl e ↦
      subst (λ k. IsRoomierOf (of_at (lists_of rows) k) (of_at (lists_of (set rows i (Some of))) k)) (sym e)
      (subst (λ z. IsRoomierOf z (of_at (lists_of (set rows i (Some of))) i)) (sym (of-row rows i ∙ ap row_or_nothing (sym is)))
      (subst (IsRoomierOf was) (sym (of-row (set rows i (Some of)) i ∙ ap row_or_nothing (row-here rows i (Some of) (row-low rows i was is)))) more))
  | inr d ↦
      subst (IsRoomierOf (of_at (lists_of rows) n)) (of-row rows n ∙ ap row_or_nothing (sym (row-else rows i n (Some of) d)) ∙ sym (of-row (set rows i (Some of)) n))
      (record { same = refl; ready = omega arith; flying = omega arith })
]

-- which leaves open what was
pub noted-grown : (words : List ℕ) (rows : Rows) (i : ℕ) (was of : OfBlock) → AreNoted words rows → Some was ≡ row_of rows i → IsRoomierOf was of → AreNoted words (set rows i (Some of))
noted-grown words rows i was of noted is more = record {
  just = λ n few. noted.just n few ∙ sym (ap is_open ((kept-roomier rows i was of is more n).same));
  room = λ n stands few. noted.room n (elim (cases_eq n i) [
    | inl e ↦ sym (ap is_some (is ∙ ap (row_of rows) (sym e)))
    | inr d ↦ ap is_some (sym (row-else rows i n (Some of) d)) ∙ stands
  ]) few;
}

-- the block's lists have room for one class more
pub has-lists : (rows : Rows) (block i : ℕ) (of : OfBlock) → i ≡ block → i < length rows → (of.count < of.room_ready) × (of.count < of.room_flying) → HasLists block (lists_of (set rows i (Some of)))
has-lists rows block i of place low room =
    subst (λ z. (z.count < z.room_ready) × (z.count < z.room_flying))
    (sym (of-row (set rows i (Some of)) block ∙ ap (λ k. row_or_nothing (row_of (set rows i (Some of)) k)) (sym place) ∙ ap row_or_nothing (row-here rows i (Some of) low))) room

-- one block more has its lists, with room alone
pub kept-put : (rows : Rows) (i : ℕ) (of : OfBlock) → row_of rows i ≡ None → i < length rows → IsRoomierOf nothing of → KeepsLists (lists_of rows) (lists_of (set rows i (Some of)))
kept-put rows i of none low more n = elim (cases_eq n i) [
  | inl e ↦
      subst (λ k. IsRoomierOf (of_at (lists_of rows) k) (of_at (lists_of (set rows i (Some of))) k)) (sym e)
      (subst (λ z. IsRoomierOf z (of_at (lists_of (set rows i (Some of))) i)) (sym (of-row rows i ∙ ap row_or_nothing none))
      (subst (IsRoomierOf nothing) (sym (of-row (set rows i (Some of)) i ∙ ap row_or_nothing (row-here rows i (Some of) low))) more))
  | inr d ↦
      subst (IsRoomierOf (of_at (lists_of rows) n)) (of-row rows n ∙ ap row_or_nothing (sym (row-else rows i n (Some of) d)) ∙ sym (of-row (set rows i (Some of)) n))
      (record { same = refl; ready = omega arith; flying = omega arith })
]

pub noted-put : (words : List ℕ) (rows : Rows) (i : ℕ) (of : OfBlock) → AreNoted words rows → row_of rows i ≡ None → i < length rows → IsRoomierOf nothing of → (i < MAX_CACHED → HasRoom words i) → AreNoted words (set rows i (Some of))
noted-put words rows i of noted none low more room = record {
  just = λ n few. noted.just n few ∙ sym (ap is_open ((kept-put rows i of none low more n).same));
  room = λ n stands few. elim (cases_eq n i) [
    | inl e ↦ subst (HasRoom words) (sym e) (room (subst (λ k. k < MAX_CACHED) e few))
    | inr d ↦ noted.room n (ap is_some (sym (row-else rows i n (Some of) d)) ∙ stands) few
  ];
}

-- lists without a class, and with room alone
pub only-room : (of grown : OfBlock) → of.ready ≡ [] → of.done ≡ 0 → of.flying ≡ [] → of.count ≡ 0 → grown ≡ record of { room_ready = grown.room_ready; room_flying = grown.room_flying } → IsRoomierOf nothing grown
only-room of grown ready done flying count same = record {
  same = same ∙ ap (λ (r : List ℕ). record grown { ready = r; done = of.done; flying = of.flying; count = of.count }) ready
      ∙ ap (λ (d : ℕ). record grown { ready = []; done = d; flying = of.flying; count = of.count }) done
      ∙ ap (λ (f : List ℕ). record grown { ready = []; done = 0; flying = f; count = of.count }) flying ∙ ap (λ (n : ℕ). record grown { ready = []; done = 0; flying = []; count = n }) count;
  ready = omega arith;
  flying = omega arith;
}

-- a row was taken out
module _ (rows : Rows) (i : ℕ) where
  pub row-taken : row_of (set rows i None) i ≡ None
  row-taken = elim (cases_lt i (length rows)) [
    | inl low ↦ row-here rows i None low
    | inr past ↦ ap (λ (xs : Rows). row_of xs i) (set_past rows i None past) ∙ get_or_past rows i None past
  ]

  pub let-go : (of_at (lists_of rows) i).count ≡ 0 → LetsGo (lists_of rows) (lists_of (set rows i None))
  let-go none n = elim (cases_eq n i) [
    | inl e ↦ inr (ap (λ k. (of_at (lists_of rows) k).count) e ∙ none, of-row (set rows i None) n ∙ ap (λ k. row_or_nothing (row_of (set rows i None) k)) e ∙ ap row_or_nothing row-taken)
    | inr d ↦ inl (of-row (set rows i None) n ∙ ap row_or_nothing (row-else rows i n None d) ∙ sym (of-row rows n))
  ]

  pub noted-taken : (words : List ℕ) → AreNoted words rows → is_open (of_at (lists_of rows) i) ≡ false → AreNoted words (set rows i None)
  noted-taken words noted shut = record {
    just = λ n few. noted.just n few ∙ elim (cases_eq n i) [
      | inl e ↦ ap (λ k. is_open (of_at (lists_of rows) k)) e ∙ shut ∙ sym (ap is_open (of-row (set rows i None) n ∙ ap (λ k. row_or_nothing (row_of (set rows i None) k)) e ∙ ap row_or_nothing row-taken))
      | inr d ↦ ap is_open (of-row rows n ∙ ap row_or_nothing (sym (row-else rows i n None d)) ∙ sym (of-row (set rows i None) n))
    ];
    room = λ n stands few. noted.room n (elim (cases_eq n i) [
      | inl e ↦ absurd (true≢false (sym stands ∙ ap (λ k. is_some (row_of (set rows i None) k)) e ∙ ap is_some row-taken))
      | inr d ↦ ap is_some (sym (row-else rows i n None d)) ∙ stands
    ]) few;
  }
