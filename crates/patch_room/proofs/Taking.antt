-- Frames that have together no more bytes than an extent take one empty extent at most.
use Rattle.std.proofs.Common.{◌≡◌, ◌≢◌, ℕ, zero, suc, ◌+◌, ◌<◌, ◌≤◌, ◌⊎◌, ◌∙◌, inl, inr, List, [], ◌∷◌, ◌++◌, length, take}
use Rattle.std.proofs.Common.{Option, Some, None, refl, sym, ap, arith, subst}
use Rattle.std.specs.Prelude.{◌==◌}
use Rattle.std.proofs.lemmas.Bool.{cases_Bool}
use Rattle.std.proofs.lemmas.Bool.Decides.{nat_tests}
use Rattle.std.proofs.lemmas.List.{get_or-set_other}
use Rattle.patch_model.specs.Member.{In}
use Rattle.patch_frame.specs.Frame.{Content}
use Rattle.patch_frame.specs.Geometry.{largest_pointer}
use Rattle.patch_frame.specs.Slot.{SlotFields}
use Rattle.patch_recovery.specs.Change.{Change, Data, Point, Fill, Clear, Widen, Made}
use Rattle.patch_plans.specs.Extents.{no_extent, pointed, extent_at, offset_at}
use Rattle.patch_history.specs.Choosing.{has_room, current_for, empty_extents, first_of_any, first_of_two, extent_for_move, live_frames}
use Rattle.patch_history.specs.History.{History, IsLegalHistory, standing_of}
use Rattle.patch_history.specs.Planning.{frame_plan, content_of, moves}
use Rattle.patch_history.specs.Shelf.{Shelf, after_change, after_plan}
use Rattle.patch_room.specs.Laws.{shelf_in}
use Rattle.patch_room.specs.LawsBelow.{Given}
use Rattle.patch_room.specs.Room.{bytes_of, extent_count, extent_bytes, live_in, HasEmpty}
use Rattle.patch_room.proofs.Appending.{IsBehindAppend, appended}
use Rattle.patch_room.proofs.Emptying.{plan_counts, has_one, second_there}
use Rattle.patch_room.proofs.Keys.{first_move}
use Rattle.patch_room.proofs.Living.{EachFrame, live_bytes_are}
use Rattle.patch_room.proofs.Moving.{IsSized, IsEmptyOne, from_empties}
use Rattle.patch_room.proofs.Staying.{Spares, AllSpare, frame_spares, Holds, moves_spare, bytes_take, each_take}
use Rattle.patch_room.proofs.Winning.{frames_sized, count, current_there}

-- Changes that leave the pointer of one extent.

abbrev Avoids : (x : ℕ) → Change → Type 0
Avoids x (Data extent offset bytes) = Unit {0}
Avoids x (Point extent generation offset) = x ≢ extent
Avoids x (Fill slot fields) = Unit {0}
Avoids x (Clear slot) = ⊥
Avoids x Widen = ⊥

abbrev AllAvoid : (x : ℕ) → List Made → Type 0
AllAvoid x [] = Unit {0}
AllAvoid x (m ∷ plan) = Avoids x m.change × AllAvoid x plan

avoid_append : (x : ℕ) (p q : List Made) → AllAvoid x p → AllAvoid x q → AllAvoid x (p ++ q)
avoid_append x [] q h k = k
avoid_append x (m ∷ p) q h k = (h.0, avoid_append x p q h.1 k)

avoid_take : (x k : ℕ) (p : List Made) → AllAvoid x p → AllAvoid x (take k p)
avoid_take x zero p h = tt
avoid_take x (suc k) [] h = tt
avoid_take x (suc k) (m ∷ p) h = (h.0, avoid_take x k p h.1)

-- those that set that of another one do
spared : (x c : ℕ) (change : Change) → x ≢ c → Spares c change → Avoids x change
spared x c (Data extent offset bytes) ne h = tt
spared x c (Point extent generation offset) ne h = λ same. ne (same ∙ h)
spared x c (Fill slot fields) ne h = tt
spared x c (Clear slot) ne h = absurd h
spared x c Widen ne h = absurd h

all_spared : (x c : ℕ) (p : List Made) → x ≢ c → AllSpare c p → AllAvoid x p
all_spared x c [] ne h = tt
all_spared x c (m ∷ p) ne h = (spared x c m.change ne h.0, all_spared x c p ne h.1)

change_avoids : (s : Shelf) (n x : ℕ) (change : Change) → Avoids x change
    → offset_at (after_change s n change).extents x ≡ offset_at s.extents x
change_avoids s n x (Data extent offset bytes) h = refl
change_avoids s n x (Point extent generation offset) h =
    ap (λ k. k.pointer.offset)
    (get_or-set_other s.extents.each extent x (pointed n generation offset (extent_at s.extents extent)) no_extent h)
change_avoids s n x (Fill slot fields) h = refl
change_avoids s n x (Clear slot) h = absurd h
change_avoids s n x Widen h = absurd h

plan_avoids : (s : Shelf) (n x : ℕ) (p : List Made) → AllAvoid x p → offset_at (after_plan s n p).extents x ≡ offset_at s.extents x
plan_avoids s n x [] h = refl
plan_avoids s n x (m ∷ p) h = plan_avoids (after_change s n m.change) (n + 1) x p h.1 ∙ change_avoids s n x m.change h.0

-- Where a frame goes.

first_in : (xs : List ℕ) (x : ℕ) → first_of_any xs ≡ Some x → In xs x
first_in [] x h = absurd (let no : None ≡ Some x = h in cc)
first_in (y ∷ xs) x h = inl (let g : Some y ≡ Some x = h in cc)

goes_to : (s : Shelf) (len x : ℕ) (o : Option ℕ) → s.current ≡ o → extent_for_move s len ≡ Some x
    → (s.current ≡ Some x) ⊎ In (empty_extents s) x
goes_to s len x None at h =
    let none : current_for s len ≡ None = rw at refl in
    let g : first_of_any (empty_extents s) ≡ Some x = rw none at h in inr (first_in (empty_extents s) x g)
goes_to s len x (Some c) at h = elim (cases_Bool (has_room s len c)) [
  | inl t ↦
      let some : current_for s len ≡ Some c = rw (at, t) refl in
      let g : Some c ≡ Some x = rw some at h in inl (at ∙ g)
  | inr t ↦
      let none : current_for s len ≡ None = rw (at, t) refl in
      let g : first_of_any (empty_extents s) ≡ Some x = rw none at h in inr (first_in (empty_extents s) x g)
]

-- Two extents are empty; the current one isn't.
record HasTwo (s : Shelf) (y z : ℕ) : Type 0 where
  apart : y ≢ z
  first : offset_at s.extents y ≡ 0
  second : offset_at s.extents z ≡ 0
  count : length s.extents.each ≡ extent_count s
  current : (c : ℕ) → s.current ≡ Some c → (c < extent_count s) × (1 ≤ offset_at s.extents c)

-- one of them is left
record OneStays (y z : ℕ) (plan : List Made) : Type 0 where
  stays : ℕ
  one : (stays ≡ y) ⊎ (stays ≡ z)
  avoids : AllAvoid stays plan

not_begun : (s : Shelf) (x c : ℕ) → offset_at s.extents x ≡ 0 → 1 ≤ offset_at s.extents c → x ≢ c
not_begun s x c nought begun same = let z : offset_at s.extents c ≡ 0 = ap (offset_at s.extents) (sym same) ∙ nought in omega (arith, z, begun)

has_two_behind : (s t : Shelf) (y z c len : ℕ) → HasTwo s y z → s.current ≡ Some c → IsBehindAppend s t c len → 1 ≤ len → HasTwo t y z
has_two_behind s t y z c len two at behind some =
    let current = two.current c at in
    let begun = current.1 in
    let there = behind.there in
    let same = behind.alike.geometry in record {
      apart = two.apart;
      first = behind.elsewhere y (not_begun s y c two.first begun) ∙ two.first;
      second = behind.elsewhere z (not_begun s z c two.second begun) ∙ two.second;
      count = behind.alike.count ∙ two.count ∙ ap (λ g. g.extents) (sym same);
      current = λ d is.
          let now : c ≡ d = (let g : Some c ≡ Some d = sym behind.current ∙ is in cc) in
          subst (λ d. (d < extent_count t) × (1 ≤ offset_at t.extents d)) now (
            subst (λ g. c < g.extents) (sym same) current.0,
            omega (arith, there, some),
          );
    }

other : (y z x : ℕ) → y ≢ z → (stays : ℕ) × ((stays ≡ y) ⊎ (stays ≡ z)) × (stays ≢ x)
other y z x ne = elim (cases_Bool (y == x)) [
  | inl t ↦ (let same : y ≡ x = grind (arith, nat_tests) in (z, inr refl, λ eq. ne (same ∙ sym eq)))
  | inr t ↦ (let off : y ≢ x = grind (arith, nat_tests) in (y, inl refl, off))
]

module _ (entries : List Content) where
  -- the frame takes an empty extent, which has room for all others
  takes_one : (s : Shelf) (n y z x : ℕ) (f : ℕ × SlotFields) (fs : List (ℕ × SlotFields)) (rest : List Made)
      → HasTwo s y z → In (empty_extents s) x → bytes_of (f ∷ fs) ≤ extent_bytes s → EachFrame (IsSized entries) (f ∷ fs)
      → moves entries (after_plan s n (frame_plan s n x f.0 (content_of entries f.1))) (n + length (frame_plan s n x f.0 (content_of entries f.1))) fs ≡ Some rest
      → OneStays y z (frame_plan s n x f.0 (content_of entries f.1) ++ rest)
  takes_one s n y z x f fs rest two empty few sized is =
      let len = f.1.length in
      let c = content_of entries f.1 in
      let p = frame_plan s n x f.0 c in
      let t = after_plan s n p in
      let one = from_empties s x empty in
      let nought = one.nought in
      let known : x < length s.extents.each = subst (λ k. x < k) (sym two.count) one.known in
      let behind = appended s n x f.0 len c known sized.0.0 sized.0.1 in
      let there = behind.there in
      let large : extent_bytes t ≡ extent_bytes s = ap (λ g. largest_pointer g.format) behind.alike.geometry in
      let holds : Holds t x (bytes_of fs) = record {
        current = behind.current;
        known = subst (λ k. x < k) (sym behind.alike.count) known;
        room = omega (arith, there, nought, large, few);
      } in
      let left = other y z x two.apart in record {
        stays = left.0;
        one = left.1;
        avoids =
            avoid_append left.0 p rest (all_spared left.0 x p left.2 (frame_spares s n x f.0 c))
            (all_spared left.0 x rest left.2 (moves_spare entries x fs t (n + length p) rest holds sized.1 is));
      }

  not_taken : (s : Shelf) (y z c stays : ℕ) → HasTwo s y z → s.current ≡ Some c → (stays ≡ y) ⊎ (stays ≡ z) → stays ≢ c
  not_taken s y z c stays two at (inl is) = λ same. not_begun s y c two.first (two.current c at).1 (sym is ∙ same)
  not_taken s y z c stays two at (inr is) = λ same. not_begun s z c two.second (two.current c at).1 (sym is ∙ same)

  moves_take_one : (fs : List (ℕ × SlotFields)) (s : Shelf) (n y z : ℕ) (plan : List Made) → HasTwo s y z
      → bytes_of fs ≤ extent_bytes s → EachFrame (IsSized entries) fs → moves entries s n fs ≡ Some plan → OneStays y z plan
  moves_take_one [] s n y z plan two few sized h =
      let none : [] ≡ plan = (let g : Some [] ≡ Some plan = h in cc) in
      record { stays = y; one = inl refl; avoids = subst (AllAvoid y) none tt }
  moves_take_one (f ∷ fs) s n y z plan two few sized h =
      let len = f.1.length in
      let move = first_move entries s n f fs plan (extent_for_move s len) refl h in
      let x = move.extent in
      let c = content_of entries f.1 in
      let p = frame_plan s n x f.0 c in
      let t = after_plan s n p in subst (OneStays y z) move.are (elim (goes_to s len x s.current refl move.chosen) [
        | inr empty ↦ takes_one s n y z x f fs move.rest two empty few sized move.go_on
        | inl at ↦
            let known : x < length s.extents.each = subst (λ k. x < k) (sym two.count) (two.current x at).0 in
            let behind = appended s n x f.0 len c known sized.0.0 sized.0.1 in
            let large : extent_bytes t ≡ extent_bytes s = ap (λ g. largest_pointer g.format) behind.alike.geometry in
            let fewer : bytes_of fs ≤ extent_bytes t = omega (arith, large, few) in
            let rest = moves_take_one fs t (n + length p) y z move.rest (has_two_behind s t y z x len two at behind sized.0.1) fewer sized.1 move.go_on in
            record {
              stays = rest.stays;
              one = rest.one;
              avoids =
                  avoid_append rest.stays p move.rest
                  (all_spared rest.stays x p (not_taken s y z x rest.stays two at rest.one) (frame_spares s n x f.0 c)) rest.avoids;
            }
      ])

-- Where two extents are empty, and what is live in an extent fits one.

first_of_more : (xs : List ℕ) → 2 ≤ length xs → (x : ℕ) × (first_of_two xs ≡ Some x) × In xs x
first_of_more [] more = absurd (omega (arith, more))
first_of_more (x ∷ []) more = absurd (omega (arith, more))
first_of_more (x ∷ y ∷ xs) more = (x, refl, inl refl)

module _ (given : Given) (h : History) (legal : IsLegalHistory h) (e : ℕ) where
  abbrev s : Shelf
  s = shelf_in h

  -- first patches of moves of first frames leave an empty extent
  pub one_is_left : (k j n : ℕ) (moved : List Made) → moves (standing_of h).map.entries s n (take k (live_frames s e)) ≡ Some moved
      → 2 ≤ length (empty_extents s) → live_in s e ≤ extent_bytes s → HasEmpty (after_plan s n (take j moved))
  one_is_left k j n moved is more short =
      let entries = (standing_of h).map.entries in
      let frames = live_frames s e in
      let first = first_of_more (empty_extents s) more in
      let next = second_there (λ x. offset_at s.extents x == 0) 0 (extent_count s) first.0 first.1 in
      let y = from_empties s first.0 first.2 in
      let z = from_empties s next.0 next.1 in
      let two : HasTwo s first.0 next.0 = record {
        apart = (λ same. next.2 (sym same));
        first = y.nought;
        second = z.nought;
        count = count given h legal;
        current = current_there given h legal;
      } in
      let bytes = live_bytes_are s e in
      let fewer = bytes_take k frames in
      let few : bytes_of (take k frames) ≤ extent_bytes s = omega (arith, bytes, fewer, short) in
      let left = moves_take_one entries (take k frames) s n first.0 next.0 moved two few
      (each_take (IsSized entries) k frames (frames_sized given h legal e)) is in
      let p = take j moved in
      let x = left.stays in
      let one : IsEmptyOne s x = elim (left.one) [ inl same ↦ subst (IsEmptyOne s) (sym same) y | inr same ↦ subst (IsEmptyOne s) (sym same) z ] in
      has_one (after_plan s n p) x
      (let a = (plan_counts s n p).1 in let b = one.known in omega (arith, a, b))
      (plan_avoids s n x p (avoid_take x j moved left.avoids) ∙ one.nought)
