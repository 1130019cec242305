-- What a trial says of the extents, and what one frame more makes of it.
use Rattle.std.proofs.Common.{◌≡◌, ◌≢◌, ℕ, ◌+◌, ◌<◌, ◌≤◌, ◌∙◌, inl, inr, Bool, true, false, List, [], ◌∷◌, length, refl, sym, ap, subst, arith, zero, suc, ◌-◌, get_or-set_same, get_or-set_other}
use Rattle.std.specs.Prelude.{◌==◌, ◌&&◌, not, filter, if◌then◌else◌, Option, Some, None, IfSome, option_map}
use Rattle.std.specs.Option.{option_or}
use Rattle.std.specs.List.{range_with_len}
use Rattle.std.proofs.lemmas.Bool.{cases_Bool, cases_eq}
use Rattle.std.proofs.lemmas.Bool.Decides.{nat_tests}
use Rattle.std.proofs.lemmas.List.{length-set}
use Rattle.patch_frame.specs.Frame.{Content, spelling}
use Rattle.patch_frame.specs.Geometry.{largest_pointer}
use Rattle.patch_recovery.specs.Change.{Point, Made}
use Rattle.patch_plans.specs.declared.records.Extent.{Extent}
use Rattle.patch_plans.specs.Extents.{Extents, extent_at, generation_at, offset_at, no_extent, pointed, after_point}
use Rattle.patch_plans.specs.Planning.{touched, parts, names_behind, append_plan}
use Rattle.patch_history.specs.Choosing.{has_room, current_for, first_of_any, empty_extents, extent_for_move}
use Rattle.patch_history.specs.Planning.{frame_plan, fill_plan}
use Rattle.patch_history.specs.Shelf.{Shelf, after_plan}
use Rattle.patch_history.specs.Shelf.{after_point as shelf_after_point}
use Rattle.patch_history.specs.ShelfLedger.{IsShelfOf, ShelvesAreKept}
use Rattle.patch_history.specs.Laws.{StandingsAgree}
use Rattle.patch_history.specs.History.{History, ledger_of}
use Rattle.patch_store.specs.Meaning.{Store, IsStoreOf}
use Rattle.patch_recovery.specs.Ledger.{Ledger}
use Rattle.patch_frame.specs.declared.geometries.Geometry.{Geometry}
use Rattle.patch_store.specs.declared.trials.Filled.{Filled}
use Rattle.patch_store.specs.declared.trials.Trial.{Trial}
use Rattle.patch_store.specs.Trials.{Alike, FindsRoom, IsFilled, IsPlace, empty_but, extent_of}
use Rattle.patch_store.proofs.Counted.{shelf_joined, parts_leave}
use Rattle.patch_store.proofs.Placing.{first_there, length-frame}

-- Where the frame goes.

-- where this extent is the current one, or none
abbrev within_current : Shelf → ℕ → Option ℕ → Option ℕ
within_current s len o = elim o [ Some extent ↦ if has_room s len extent then Some extent else None | None ↦ None ]

pub none_is_current : (s : Shelf) (t : Trial) (len : ℕ) → Alike s t → t.current ≡ None → None ≡ current_for s len
none_is_current s t len a is = sym (ap (within_current s len) (sym a.current ∙ ap (option_map extent_of) is))

filled_so : (s : Shelf) (t : Trial) (place : Filled) → Alike s t → t.current ≡ Some place → IsFilled s place
filled_so s t place a is = subst (λ o. IfSome o (IsFilled s)) is a.filled

current_is : (s : Shelf) (t : Trial) (place : Filled) → Alike s t → t.current ≡ Some place → s.current ≡ Some place.extent
current_is s t place a is = sym a.current ∙ ap (option_map extent_of) is

pub current_fits : (s : Shelf) (t : Trial) (len : ℕ) (place : Filled) → Alike s t → t.current ≡ Some place → place.offset + len ≤ t.largest
    → Some place.extent ≡ current_for s len
current_fits s t len place a is room =
    let offset = (filled_so s t place a is).offset in
    let largest = a.largest in
    let on : has_room s len place.extent ≡ true = grind (arith, nat_tests, room, offset, largest) in
    sym (ap (within_current s len) (current_is s t place a is) ∙ rw on refl)

pub current_full : (s : Shelf) (t : Trial) (len : ℕ) (place : Filled) → Alike s t → t.current ≡ Some place → t.largest < place.offset + len
    → None ≡ current_for s len
current_full s t len place a is full =
    let offset = (filled_so s t place a is).offset in
    let largest = a.largest in
    let off : has_room s len place.extent ≡ false = grind (arith, nat_tests, full, offset, largest) in
    sym (ap (within_current s len) (current_is s t place a is) ∙ rw off refl)

-- Which extents are empty then.

abbrev is_empty : Shelf → ℕ → Bool
is_empty s e = offset_at s.extents e == 0

abbrev other_than : ℕ → ℕ → Bool
other_than e k = not (k == e)

-- a test that is passed by the same numbers but one
without : (p q : ℕ → Bool) (e a n : ℕ) → ((k : ℕ) → a ≤ k → k < a + n → q k ≡ (p k && other_than e k))
    → filter q (range_with_len a n) ≡ filter (other_than e) (filter p (range_with_len a n))
without p q e a zero same = refl
without p q e a (suc n) same =
    let here = same a (omega arith) (omega arith) in
    let rest = without p q e (a + 1) n (λ k low high. same k (omega (arith, low)) (omega (arith, high))) in
    elim (cases_Bool (p a)) [
      | inl u ↦ elim (cases_Bool (other_than e a)) [
        | inl v ↦ let on : q a ≡ true = here ∙ rw (u, v) refl in rw (on, u) (rw v (ap (λ xs. a ∷ xs) rest))
        | inr v ↦ let off : q a ≡ false = here ∙ rw (u, v) refl in rw (off, u) (rw v rest)
      ]
      | inr u ↦ let off : q a ≡ false = here ∙ rw u refl in rw (off, u) rest
    ]

other_number : (k e : ℕ) → k ≢ e → other_than e k ≡ true
other_number k e other = let off : (k == e) ≡ false = grind (arith, nat_tests, other) in rw off refl

same_number : (k e : ℕ) → k ≡ e → other_than e k ≡ false
same_number k e same = let on : (k == e) ≡ true = grind (arith, nat_tests, same) in rw on refl

pub and_true : (b : Bool) → b ≡ (b && true)
and_true true = refl
and_true false = refl

and_false : (b : Bool) → false ≡ (b && false)
and_false true = refl
and_false false = refl

-- one that isn't empty is not among them
pub not_among : (s : Shelf) (e : ℕ) → 0 < offset_at s.extents e → empty_extents s ≡ empty_but s e
not_among s e some =
    without (is_empty s) (is_empty s) e 0 s.extents.geometry.extents (λ k low high. elim (cases_eq k e) [
      | inl same ↦
          let off : is_empty s e ≡ false = grind (arith, nat_tests, some) in
          let none : is_empty s k ≡ false = ap (is_empty s) same ∙ off in
          rw none refl
      | inr other ↦ and_true (is_empty s k) ∙ ap (λ b. is_empty s k && b) (sym (other_number k e other))
    ])

tail_alike : (x y : ℕ) (xs ys : List ℕ) → x ∷ xs ≡ y ∷ ys → xs ≡ ys
tail_alike x y xs ys is = cc

head_then : (p : ℕ → Bool) (a n i : ℕ) → first_of_any (filter p (range_with_len a n)) ≡ Some i
    → filter p (range_with_len a n) ≡ i ∷ filter p (range_with_len (i + 1) (a + n - (i + 1)))
head_then p a zero i is = absurd (let g : None ≡ Some i = is in cc)
head_then p a (suc n) i is = elim (cases_Bool (p a)) [
  | inl u ↦ (let g : Some a ≡ Some i = rw u at is in let same : a ≡ i = cc in
      let m : n ≡ a + suc n - (a + 1) = omega arith in
      rw u (ap (λ x. a ∷ filter p (range_with_len (a + 1) x)) m ∙ ap (λ x. x ∷ filter p (range_with_len (x + 1) (a + suc n - (x + 1)))) same))
  | inr u ↦ (let m : a + 1 + n ≡ a + suc n = omega arith in
      rw u (head_then p (a + 1) n i (rw u at is) ∙ ap (λ x. i ∷ filter p (range_with_len (i + 1) (x - (i + 1)))) m))
]

-- and behind the first of them there are the others
pub behind_first : (s : Shelf) (e : ℕ) (rest : List ℕ) → empty_extents s ≡ e ∷ rest → rest ≡ empty_but s e
behind_first s e rest is =
    let n = s.extents.geometry.extents in
    let p : ℕ → Bool = is_empty s in
    let m = 0 + n - (e + 1) in
    let split = head_then p 0 n e (ap first_of_any is) in
    let later : rest ≡ filter p (range_with_len (e + 1) m) = tail_alike e e rest (filter p (range_with_len (e + 1) m)) (sym is ∙ split) in
    let apart = without p p e (e + 1) m (λ k low high. and_true (p k) ∙ ap (λ b. p k && b) (sym (other_number k e (λ same. omega (arith, same, low))))) in
    let gone : other_than e e ≡ false = same_number e e (omega arith) in
    later ∙ apart ∙ ap (filter (other_than e)) (sym later) ∙ sym (ap (filter (other_than e)) is ∙ rw gone refl)

pub first_is : (s : Shelf) (e : ℕ) (rest : List ℕ) → empty_extents s ≡ e ∷ rest → (e < s.extents.geometry.extents) × (offset_at s.extents e ≡ 0)
first_is s e rest is =
    let there = first_there (is_empty s) 0 s.extents.geometry.extents e (ap first_of_any is) in
    let less = there.0 in
    let on = there.1 in
    (omega (arith, less), grind (arith, nat_tests, on))

moves_to_current : (s : Shelf) (len extent : ℕ) → current_for s len ≡ Some extent → extent_for_move s len ≡ Some extent
moves_to_current s len extent is = ap (λ o. option_or o (first_of_any (empty_extents s))) is

moves_to_empty : (s : Shelf) (len : ℕ) → current_for s len ≡ None → extent_for_move s len ≡ first_of_any (empty_extents s)
moves_to_empty s len is = ap (λ o. option_or o (first_of_any (empty_extents s))) is

-- The place of the frame.

pub to_current : (s : Shelf) (t : Trial) (len : ℕ) (place : Filled) → Alike s t → t.current ≡ Some place → Some place.extent ≡ current_for s len → IsPlace s len place t
to_current s t len place a is chosen =
    let filled = filled_so s t place a is in
    let some = filled.some in
    let offset = filled.offset in
    record {
      chosen = moves_to_current s len place.extent (sym chosen);
      known = filled.known;
      offset = filled.offset;
      largest = a.largest;
      left = a.empty ∙ not_among s place.extent (omega (arith, some, offset));
    }

pub to_empty : (s : Shelf) (t new : Trial) (len extent : ℕ) → Alike s t → None ≡ current_for s len → t.empty.now ≡ extent ∷ new.empty.now
    → new.largest ≡ t.largest → IsPlace s len (record { extent = extent; offset = 0 }) new
to_empty s t new len extent a none is largest =
    let empty = sym a.empty ∙ is in
    let first = first_is s extent new.empty.now empty in
    record {
      chosen = moves_to_empty s len (sym none) ∙ ap first_of_any empty;
      known = first.0;
      offset = sym first.1;
      largest = largest ∙ a.largest;
      left = behind_first s extent new.empty.now empty;
    }

pub to_none : (s : Shelf) (t : Trial) (len : ℕ) → Alike s t → None ≡ current_for s len → length t.empty.now ≡ 0 → extent_for_move s len ≡ None
to_none s t len a none is = moves_to_empty s len (sym none) ∙ ap first_of_any (sym a.empty ∙ no_number t.empty.now is)
  where
    no_number : (xs : List ℕ) → length xs ≡ 0 → xs ≡ []
    no_number [] is = refl
    no_number (x ∷ xs) is = absurd (omega (arith, is))

-- The shelf behind the frame.

record IsPointed (s : Shelf) (extent len : ℕ) (later : Shelf) : Type 0 where
  pub number : ℕ
  pub extents_are : later.extents ≡ after_point s.extents number extent (generation_at s.extents extent) (offset_at s.extents extent + len)
  pub current_is : later.current ≡ Some extent

pointed_on : (s : Shelf) (n extent slot : ℕ) (c : Content) → 0 < length (spelling c)
    → IsPointed s extent (length (spelling c)) (after_plan s n (frame_plan s n extent slot c))
pointed_on s n extent slot c some =
    let o = offset_at s.extents extent in
    let g = generation_at s.extents extent in
    let bytes : List ℕ = spelling c in
    let count = touched o (length bytes) in
    let names = names_behind s.extents extent [] in
    let first : List Made = parts extent o bytes names count in
    let point : Made = record { change = Point extent g (o + length bytes); after = range_with_len n count } in
    let fill : Made = fill_plan s n extent slot c in
    let k = n + length first in
    let m = n + length (append_plan s.extents n extent bytes []) in
    let far : (o + length bytes == 0) ≡ false = grind (arith, nat_tests, some) in
    let appended : after_plan s n (append_plan s.extents n extent bytes []) ≡ record s { extents = after_point s.extents k extent g (o + length bytes); current = Some extent } =
    shelf_joined s n first (point ∷ [])
    ∙ ap (λ t. shelf_after_point t k extent g (o + length bytes)) (parts_leave s n extent o bytes names (range_with_len 0 count))
    ∙ rw far refl in
    let all = shelf_joined s n (append_plan s.extents n extent bytes []) (fill ∷ []) ∙ ap (λ t. after_plan t m (fill ∷ [])) appended in
    record { number = k; extents_are = ap (λ (x : Shelf). x.extents) all; current_is = ap (λ (x : Shelf). x.current) all }

-- what is kept of each extent then
each_pointed : (s : Extents) (number e generation offset : ℕ) → length (after_point s number e generation offset).each ≡ length s.each
each_pointed s number e generation offset = length-set s.each e (pointed number generation offset (extent_at s e))

here_pointed : (s : Extents) (number e generation offset : ℕ) → e < length s.each → offset_at (after_point s number e generation offset) e ≡ offset
here_pointed s number e generation offset within =
    ap (λ (k : Extent). k.pointer.offset) (get_or-set_same s.each e (pointed number generation offset (extent_at s e)) no_extent within)

others_pointed : (s : Extents) (number e generation offset k : ℕ) → k ≢ e → offset_at (after_point s number e generation offset) k ≡ offset_at s k
others_pointed s number e generation offset k other =
    ap (λ (x : Extent). x.pointer.offset) (get_or-set_other s.each e k (pointed number generation offset (extent_at s e)) no_extent other)

-- the empty extents then
empty_behind : (s later : Shelf) (e len : ℕ) → 0 < len → e < length s.extents.each → IsPointed s e len later → empty_extents later ≡ empty_but s e
empty_behind s later e len some within is =
    let g = generation_at s.extents e in
    let o = offset_at s.extents e + len in
    let n = s.extents.geometry.extents in
    let moved : Extents = after_point s.extents is.number e g o in
    let here = here_pointed s.extents is.number e g o within in
    ap (λ (x : Extents). filter (λ k. offset_at x k == 0) (range_with_len 0 x.geometry.extents)) is.extents_are
    ∙ without (is_empty s) (λ k. offset_at moved k == 0) e 0 n (λ k low high. elim (cases_eq k e) [
      | inl same ↦
          let far : (offset_at moved e == 0) ≡ false = grind (arith, nat_tests, here, some) in
          ap (λ i. offset_at moved i == 0) same ∙ far ∙ and_false (is_empty s k) ∙ ap (λ b. is_empty s k && b) (sym (same_number k e same))
      | inr other ↦
          ap (λ x. x == 0) (others_pointed s.extents is.number e g o k other) ∙ and_true (is_empty s k)
          ∙ ap (λ b. is_empty s k && b) (sym (other_number k e other))
    ])

-- what becomes of a trial in which the frame is placed
pub record IsTried (place : Filled) (len : ℕ) (mid new : Trial) : Type 0 where
  pub current : new.current ≡ Some (record { extent = place.extent; offset = place.offset + len })
  pub empty : new.empty.now ≡ mid.empty.now
  pub largest : new.largest ≡ mid.largest

alike_behind : (s later : Shelf) (mid new : Trial) (place : Filled) (len : ℕ) → 0 < len → length s.extents.each ≡ s.extents.geometry.extents
    → IsPlace s len place mid → IsPointed s place.extent len later → IsTried place len mid new → Alike later new
alike_behind s later mid new place len some each at is tried =
    let e = place.extent in
    let g = generation_at s.extents e in
    let o = offset_at s.extents e + len in
    let known = at.known in
    let within : e < length s.extents.each = omega (arith, known, each) in
    let count : later.extents.geometry.extents ≡ s.extents.geometry.extents = ap (λ (x : Extents). x.geometry.extents) is.extents_are in
    let offset = at.offset in
    let here : offset_at later.extents e ≡ o = ap (λ (x : Extents). offset_at x e) is.extents_are ∙ here_pointed s.extents is.number e g o within in
    record {
      largest = tried.largest ∙ at.largest ∙ sym (ap (λ (x : Extents). largest_pointer x.geometry.format) is.extents_are);
      current = ap (option_map extent_of) tried.current ∙ sym is.current_is;
      filled = subst (λ x. IfSome x (IsFilled later)) (sym tried.current) (record {
        known = omega (arith, known, count);
        offset = omega (arith, offset, here);
        some = omega (arith, some);
      });
      empty = tried.empty ∙ at.left ∙ sym (empty_behind s later e len some within is);
      each = ap (λ (x : Extents). length x.each) is.extents_are ∙ each_pointed s.extents is.number e g o ∙ each ∙ sym count;
    }

pub finds_room : (s : Shelf) (mid new : Trial) (place : Filled) (len patches : ℕ) → 0 < len → length s.extents.each ≡ s.extents.geometry.extents
    → IsPlace s len place mid → IsTried place len mid new → patches ≡ touched place.offset len + 2 → FindsRoom s len patches new
finds_room s mid new place len patches some each at tried is = record {
  extent = place.extent;
  chosen = at.chosen;
  count = λ n slot c long.
      length-frame s n place.extent slot c ∙ ap (λ l. touched (offset_at s.extents place.extent) l + 2) long
      ∙ ap (λ o. touched o len + 2) (sym at.offset) ∙ sym is;
  behind = λ n slot c long.
      alike_behind s (after_plan s n (frame_plan s n place.extent slot c)) mid new place len some each at
      (subst (λ l. IsPointed s place.extent l (after_plan s n (frame_plan s n place.extent slot c))) long
      (pointed_on s n place.extent slot c (omega (arith, some, long)))) tried;
}

-- The trial of a store.
pub store_tried : (s : Shelf) (l : Ledger) (t : Trial) → IsShelfOf s l → s.extents.geometry ≡ l.geometry → t.largest ≡ largest_pointer s.extents.geometry.format
    → option_map extent_of t.current ≡ s.current → IfSome t.current (IsFilled s) → t.empty.now ≡ empty_extents s → Alike s t
store_tried s l t kept geometry largest current filled empty = record {
  largest = largest;
  current = current;
  filled = filled;
  empty = empty;
  each = kept.extents ∙ sym (ap (λ (g : Geometry). g.extents) geometry);
}

-- it has the current extent of the shelf, filled as far
abbrev pub IsCurrentOf : Shelf → Option Filled → Type 0
IsCurrentOf s t = (option_map extent_of t ≡ s.current) × IfSome t (λ f. (f.extent < s.extents.geometry.extents) × (f.offset ≡ offset_at s.extents f.extent))

filled_in : (s : Shelf) (t : Option Filled) → ((e : ℕ) → s.current ≡ Some e → 1 ≤ offset_at s.extents e) → IsCurrentOf s t → IfSome t (IsFilled s)
filled_in s None begun is = tt
filled_in s (Some f) begun is = record {
  known = is.1.0;
  offset = is.1.1;
  some = (let far = begun f.extent (sym is.0) in let at = is.1.1 in omega (arith, far, at));
}

pub trial_of : ShelvesAreKept → StandingsAgree → (h : History) (store now : Store) (t : Trial) → store ≡ now → t.largest ≡ largest_pointer store.shelf.extents.geometry.format
    → IsCurrentOf store.shelf t.current → t.empty.now ≡ empty_extents store.shelf → IsStoreOf now h → Alike now.shelf t
trial_of kept agree h store now t is largest current empty was =
    let stands = subst (λ s. IsStoreOf s h) (sym is) was in
    let shelf = subst (λ s. IsShelfOf s (ledger_of h)) (sym stands.shelf_is) (kept h) in
    subst (λ (s : Store). Alike s.shelf t) is (store_tried store.shelf (ledger_of h) t shelf shelf.geometry largest current.0
    (filled_in store.shelf t.current
    (subst (λ (s : Shelf). (e : ℕ) → s.current ≡ Some e → 1 ≤ offset_at s.extents e) (sym stands.shelf_is) (agree h stands.legal).begun) current) empty)
