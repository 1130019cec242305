-- The frames of an extent find room, where one is empty; and behind them and the reset so does a put.
use Rattle.std.proofs.Common.{◌≡◌, ◌≢◌, ℕ, zero, suc, ◌+◌, ◌<◌, ◌≤◌, ◌⊎◌, ◌∙◌, inl, inr, true, false, List, [], ◌∷◌}
use Rattle.std.proofs.Common.{◌++◌, length, Option, Some, None, refl, sym, ap, arith, subst}
use Rattle.std.specs.Prelude.{◌==◌, option_map}
use Rattle.std.specs.List.{range_with_len}
use Rattle.std.specs.Option.{option_or}
use Rattle.std.proofs.lemmas.Bool.{cases_Bool}
use Rattle.std.proofs.lemmas.Bool.Decides.{nat_tests}
use Rattle.patch_model.specs.Member.{In, In-filter, filter-In}
use Rattle.patch_frame.specs.declared.geometries.Geometry.{Geometry}
use Rattle.patch_frame.specs.Frame.{Content, spelling}
use Rattle.patch_frame.specs.Geometry.{largest_pointer}
use Rattle.patch_frame.specs.Slot.{SlotFields}
use Rattle.patch_recovery.specs.Change.{Made}
use Rattle.patch_plans.specs.Extents.{offset_at}
use Rattle.patch_history.specs.Choosing.{has_room, current_for, empty_extents, first_of_any, first_of_two, extent_for_put, extent_for_move}
use Rattle.patch_history.specs.Planning.{frame_plan, content_of, moves}
use Rattle.patch_history.specs.Shelf.{Shelf, not_current, after_plan}
use Rattle.patch_room.specs.Room.{bytes_of, extent_count, extent_bytes}
use Rattle.patch_room.proofs.Appending.{IsBehindAppend, IsBehindReset, appended, plan_append}
use Rattle.patch_room.proofs.Living.{EachFrame}

-- Which extents are empty.

into_range : (a n x : ℕ) → a ≤ x → x < a + n → In (range_with_len a n) x
into_range a zero x low high = absurd (omega (arith, low, high))
into_range a (suc n) x low high = elim (cases_Bool (a == x)) [
  | inl t ↦ inl (grind (arith, nat_tests))
  | inr t ↦ inr (into_range (a + 1) n x (let ne : a ≢ x = grind (arith, nat_tests) in omega (arith, low, ne)) (omega (arith, high)))
]

pub from_range : (a n x : ℕ) → In (range_with_len a n) x → x < a + n
from_range a zero x h = absurd h
from_range a (suc n) x (inl e) = omega (arith, e)
from_range a (suc n) x (inr h) = let r = from_range (a + 1) n x h in omega (arith, r)

pub into_empties : (s : Shelf) (x : ℕ) → x < extent_count s → offset_at s.extents x ≡ 0 → In (empty_extents s) x
into_empties s x known nought =
    In-filter (λ e. offset_at s.extents e == 0) (range_with_len 0 (extent_count s)) x
    (into_range 0 (extent_count s) x (omega arith) (omega (arith, known))) (grind (arith, nat_tests))

pub record IsEmptyOne (s : Shelf) (x : ℕ) : Type 0 where
  pub known : x < extent_count s
  pub nought : offset_at s.extents x ≡ 0

pub from_empties : (s : Shelf) (x : ℕ) → In (empty_extents s) x → IsEmptyOne s x
from_empties s x h =
    let there = filter-In (λ e. offset_at s.extents e == 0) (range_with_len 0 (extent_count s)) x h in
    let test = there.1 in record {
      known = (let r = from_range 0 (extent_count s) x there.0 in omega (arith, r));
      nought = (let z : offset_at s.extents x ≡ 0 = grind (arith, nat_tests) in z);
    }

first_there : (xs : List ℕ) (x : ℕ) → In xs x → (y : ℕ) × (first_of_any xs ≡ Some y) × In xs y
first_there [] x h = absurd h
first_there (y ∷ xs) x h = (y, refl, inl refl)

pub some_there : (xs : List ℕ) → xs ≢ [] → (y : ℕ) × In xs y
some_there [] h = absurd (h refl)
some_there (y ∷ xs) h = (y, inl refl)

two_there : (xs : List ℕ) (x y : ℕ) → In xs x → In xs y → x ≢ y → first_of_two xs ≢ None
two_there [] x y h k ne = absurd h
two_there (z ∷ []) x y (inl e) (inl f) ne = absurd (ne (sym e ∙ f))
two_there (z ∷ []) x y (inl e) (inr k) ne = absurd k
two_there (z ∷ []) x y (inr h) k ne = absurd h
two_there (z ∷ w ∷ xs) x y h k ne = λ none. let g : Some z ≡ None = none in cc

second : {X : Type 0} (a b : Option X) → option_or a b ≡ None → b ≡ None
second None b h = h
second (Some x) b h = absurd (let g : Some x ≡ None = h in cc)

-- Frames have the length that their slots say.

abbrev pub IsSized : List Content → ℕ × SlotFields → Type 0
IsSized entries f = length (spelling (content_of entries f.1)) ≡ f.1.length × 1 ≤ f.1.length

module _ (entries : List Content) (divided : Geometry) (e live : ℕ) where
  -- An extent is empty; or the current one, not the one that is won back, has room for what is left. No more was written to
  -- it than what has moved.
  abbrev pub HasRoom : Shelf → (left : ℕ) → Type 0
  HasRoom s left =
      ((x : ℕ) × IsEmptyOne s x × (left ≤ live))
      ⊎ ((c : ℕ) × (s.current ≡ Some c) × (c ≢ e) × (offset_at s.extents c + left ≤ live))

  pub record Goes (s : Shelf) (left : ℕ) : Type 0 where
    pub count : length s.extents.each ≡ extent_count s
    pub geometry : s.extents.geometry ≡ divided
    pub short : live ≤ extent_bytes s
    pub filled : 1 ≤ offset_at s.extents e
    pub current : (c : ℕ) → s.current ≡ Some c → (c < extent_count s) × (1 ≤ offset_at s.extents c) × (c ≢ e)
    pub room : HasRoom s left

  -- where the next frame goes
  record Chosen (s : Shelf) (len left : ℕ) : Type 0 where
    extent : ℕ
    is : extent_for_move s len ≡ Some extent
    known : extent < extent_count s
    apart : extent ≢ e
    further : (t : Shelf) → IsBehindAppend s t extent len → HasRoom t left

  chosen_current : (s : Shelf) (len left c : ℕ) → Goes s (len + left) → 1 ≤ len → current_for s len ≡ Some c
      → s.current ≡ Some c → Chosen s len left
  chosen_current s len left c goes some for at =
      let current = goes.current c at in record {
        extent = c;
        is = rw for refl;
        known = current.0;
        apart = current.2;
        further = λ t behind. elim (goes.room) [
          | inl empty ↦
              let x = empty.0 in
              let begun = current.1 in
              let nought = empty.1.nought in
              let ne : x ≢ c = (λ same. let z : offset_at s.extents c ≡ 0 = ap (offset_at s.extents) (sym same) ∙ nought in omega (arith, z, begun)) in
              let few = empty.2 in
              inl (
                x,
                record {
                  known = subst (λ g. x < g.extents) (sym behind.alike.geometry) empty.1.known;
                  nought = behind.elsewhere x ne ∙ nought;
                },
                omega (arith, few),
              )
          | inr fits ↦
              let same : fits.0 ≡ c = (let g : Some (fits.0) ≡ Some c = sym fits.1 ∙ at in cc) in
              let less : offset_at s.extents c + (len + left) ≤ live = subst (λ c. offset_at s.extents c + (len + left) ≤ live) same fits.3 in
              let there = behind.there in
              inr (c, behind.current, current.2, omega (arith, less, there))
        ];
      }

  chosen_empty : (s : Shelf) (len left : ℕ) → Goes s (len + left) → current_for s len ≡ None
      → (x : ℕ) → IsEmptyOne s x → len + left ≤ live → Chosen s len left
  chosen_empty s len left goes none x empty few =
      let first = first_there (empty_extents s) x (into_empties s x empty.known empty.nought) in
      let y = first.0 in
      let one = from_empties s y first.2 in
      let nought = one.nought in
      let filled = goes.filled in
      let apart : y ≢ e = (λ same. let z : offset_at s.extents e ≡ 0 = ap (offset_at s.extents) (sym same) ∙ nought in omega (arith, z, filled)) in record {
        extent = y;
        is = rw none first.1;
        known = one.known;
        apart = apart;
        further = λ t behind. inr (y, behind.current, apart, (let there = behind.there in omega (arith, there, nought, few)));
      }

  choose : (s : Shelf) (len left : ℕ) (o : Option ℕ) → Goes s (len + left) → 1 ≤ len → s.current ≡ o → Chosen s len left
  choose s len left None goes some at =
      let none : current_for s len ≡ None = rw at refl in elim (goes.room) [
        | inl empty ↦ chosen_empty s len left goes none empty.0 empty.1 empty.2
        | inr fits ↦ absurd (let g : None ≡ Some (fits.0) = sym at ∙ fits.1 in cc)
      ]
  choose s len left (Some c) goes some at = elim (cases_Bool (has_room s len c)) [
    | inl t ↦ chosen_current s len left c goes some (let u : current_for s len ≡ Some c = rw (at, t) refl in u) at
    | inr t ↦
        let none : current_for s len ≡ None = rw (at, t) refl in elim (goes.room) [
          | inl empty ↦ chosen_empty s len left goes none empty.0 empty.1 empty.2
          | inr fits ↦
              let same : fits.0 ≡ c = (let g : Some (fits.0) ≡ Some c = sym fits.1 ∙ at in cc) in
              let less : offset_at s.extents c + (len + left) ≤ live = subst (λ c. offset_at s.extents c + (len + left) ≤ live) same fits.3 in
              let short = goes.short in
              let within : offset_at s.extents c + len ≤ extent_bytes s = omega (arith, less, short) in
              let yes : has_room s len c ≡ true = grind (arith, nat_tests) in
              absurd (let no : false ≡ true = sym t ∙ yes in cc)
        ]
  ]

  go_further : (s t : Shelf) (len left : ℕ) (chosen : Chosen s len left) → Goes s (len + left) → 1 ≤ len
      → IsBehindAppend s t chosen.extent len → Goes t left
  go_further s t len left chosen goes some behind =
      let same = behind.alike.geometry in record {
        geometry = same ∙ goes.geometry;
        count = behind.alike.count ∙ goes.count ∙ ap (λ g. g.extents) (sym same);
        short = subst (λ g. live ≤ largest_pointer g.format) (sym same) goes.short;
        filled = subst (λ o. 1 ≤ o) (sym (behind.elsewhere e (λ h. chosen.apart (sym h)))) goes.filled;
        current = λ c at.
            let now : chosen.extent ≡ c = (let g : Some (chosen.extent) ≡ Some c = sym behind.current ∙ at in cc) in
            subst (λ c. (c < extent_count t) × (1 ≤ offset_at t.extents c) × (c ≢ e)) now (
              subst (λ g. chosen.extent < g.extents) (sym same) chosen.known,
              (let there = behind.there in omega (arith, there, some)),
              chosen.apart,
            );
        room = chosen.further t behind;
      }

  -- the plan of some frames, and how the shelf stands behind it
  pub record Gone (s : Shelf) (n : ℕ) (fs : List (ℕ × SlotFields)) (left : ℕ) : Type 0 where
    pub plan : List Made
    pub is : moves entries s n fs ≡ Some plan
    pub goes : Goes (after_plan s n plan) left

  moves_more : (s : Shelf) (n g : ℕ) (f : ℕ × SlotFields) (fs : List (ℕ × SlotFields)) (rest : List Made)
      → extent_for_move s f.1.length ≡ Some g
      → moves entries (after_plan s n (frame_plan s n g f.0 (content_of entries f.1))) (n + length (frame_plan s n g f.0 (content_of entries f.1))) fs ≡ Some rest
      → moves entries s n (f ∷ fs) ≡ Some (frame_plan s n g f.0 (content_of entries f.1) ++ rest)
  moves_more s n g f fs rest at h =
      rw (at, moves) (ap (option_map (λ rest. frame_plan s n g f.0 (content_of entries f.1) ++ rest)) h)

  pub all_go : (s : Shelf) (n : ℕ) (fs : List (ℕ × SlotFields)) → Goes s (bytes_of fs) → EachFrame (IsSized entries) fs
      → Gone s n fs 0
  all_go s n [] goes sized = record { plan = []; is = refl; goes = goes }
  all_go s n (f ∷ fs) goes sized =
      let len = f.1.length in
      let left = bytes_of fs in
      let chosen = choose s len left s.current goes sized.0.1 refl in
      let g = chosen.extent in
      let c = content_of entries f.1 in
      let p = frame_plan s n g f.0 c in
      let known : g < length s.extents.each = subst (λ k. g < k) (sym goes.count) chosen.known in
      let behind = appended s n g f.0 len c known sized.0.0 sized.0.1 in
      let rest = all_go (after_plan s n p) (n + length p) fs
      (go_further s (after_plan s n p) len left chosen goes sized.0.1 behind) sized.1 in record {
        plan = p ++ rest.plan;
        is = moves_more s n g f fs rest.plan chosen.is rest.is;
        goes = subst (λ t. Goes t 0) (sym (plan_append s n p rest.plan)) rest.goes;
      }

-- Behind the moves and the reset a frame finds an extent that fits beside the live ones.

not_left : (c e : ℕ) (o : Option ℕ) → o ≡ Some c → c ≢ e → not_current e o ≡ Some c
not_left c e o at ne = let off : (c == e) ≡ false = grind (arith, nat_tests) in rw (at, off) refl

pub put_fits : (entries : List Content) (divided : Geometry) (s t : Shelf) (e live len : ℕ) → e < extent_count s → 1 ≤ offset_at s.extents e
    → HasRoom entries divided e live s 0 → live + len ≤ extent_bytes s → IsBehindReset s t e → extent_for_put t len ≢ None
put_fits entries divided s t e live len known filled room small behind none = elim room [
  | inl empty ↦
      let x = empty.0 in
      let nought = empty.1.nought in
      let ne : x ≢ e = (λ same. let z : offset_at s.extents e ≡ 0 = ap (offset_at s.extents) (sym same) ∙ nought in omega (arith, z, filled)) in
      let same = behind.alike.geometry in
      two_there (empty_extents t) x e
      (into_empties t x (subst (λ g. x < g.extents) (sym same) empty.1.known) (behind.elsewhere x ne ∙ nought))
      (into_empties t e (subst (λ g. e < g.extents) (sym same) known) behind.there) ne
      (second (current_for t len) (first_of_two (empty_extents t)) none)
  | inr fits ↦
      let c = fits.0 in
      let at : t.current ≡ Some c = behind.current ∙ not_left c e s.current fits.1 fits.2 in
      let there = behind.elsewhere c fits.2 in
      let less = fits.3 in
      let large : extent_bytes t ≡ extent_bytes s = ap (λ g. largest_pointer g.format) behind.alike.geometry in
      let within : offset_at t.extents c + len ≤ extent_bytes t = omega (arith, there, less, large, small) in
      let yes : has_room t len c ≡ true = grind (arith, nat_tests) in
      let some : extent_for_put t len ≡ Some c = rw (at, yes) refl in
      let no : Some c ≡ None = sym some ∙ none in cc
]
