-- Frames that the current extent has room for go there, and an empty extent stays empty.
use Rattle.std.proofs.Common.{◌≡◌, ◌≢◌, ℕ, zero, suc, ◌+◌, ◌-◌, ◌<◌, ◌≤◌, ◌∙◌, inl, inr, true, List, [], ◌∷◌, ◌++◌, length, map, take}
use Rattle.std.proofs.Common.{Option, Some, None, refl, sym, ap, arith, subst}
use Rattle.std.specs.Prelude.{◌==◌}
use Rattle.std.specs.List.{range_with_len}
use Rattle.std.proofs.lemmas.Bool.{cases_Bool}
use Rattle.std.proofs.lemmas.Bool.Decides.{nat_tests}
use Rattle.std.proofs.lemmas.List.{get_or-set_other}
use Rattle.patch_frame.specs.Frame.{Content, spelling}
use Rattle.patch_frame.specs.Geometry.{largest_pointer}
use Rattle.patch_frame.specs.Slot.{SlotFields}
use Rattle.patch_recovery.specs.Change.{Change, Data, Point, Fill, Clear, Widen, Made}
use Rattle.patch_plans.specs.Extents.{no_extent, pointed, extent_at, offset_at}
use Rattle.patch_plans.specs.Planning.{append_plan, touched, part, parts, names_behind}
use Rattle.patch_history.specs.Choosing.{has_room, empty_extents, extent_for_move, live_frames}
use Rattle.patch_history.specs.History.{History, IsLegalHistory, standing_of}
use Rattle.patch_history.specs.Planning.{fill_plan, frame_plan, content_of, moves}
use Rattle.patch_history.specs.Shelf.{Shelf, after_change, after_plan}
use Rattle.patch_room.specs.Ahead.{room_left}
use Rattle.patch_room.specs.Laws.{shelf_in}
use Rattle.patch_room.specs.LawsBelow.{Given}
use Rattle.patch_room.specs.Room.{bytes_of, extent_bytes, live_in, HasEmpty}
use Rattle.patch_room.proofs.Appending.{IsBehindAppend, appended}
use Rattle.patch_room.proofs.Emptying.{plan_counts, has_one}
use Rattle.patch_room.proofs.Keys.{first_move}
use Rattle.patch_room.proofs.Living.{EachFrame, each_live, live_bytes_are}
use Rattle.patch_room.proofs.Moving.{IsSized, from_empties, some_there}
use Rattle.patch_room.proofs.Winning.{no_frames, sized, frames_sized, count, current_there}

-- Changes that set the pointer of one extent leave those of the others.

abbrev pub Spares : (extent : ℕ) → Change → Type 0
Spares c (Data extent offset bytes) = Unit {0}
Spares c (Point extent generation offset) = extent ≡ c
Spares c (Fill slot fields) = Unit {0}
Spares c (Clear slot) = ⊥
Spares c Widen = ⊥

abbrev pub AllSpare : (extent : ℕ) → List Made → Type 0
AllSpare c [] = Unit {0}
AllSpare c (m ∷ plan) = Spares c m.change × AllSpare c plan

spare_append : (c : ℕ) (p q : List Made) → AllSpare c p → AllSpare c q → AllSpare c (p ++ q)
spare_append c [] q h k = k
spare_append c (m ∷ p) q h k = (h.0, spare_append c p q h.1 k)

spare_take : (c k : ℕ) (p : List Made) → AllSpare c p → AllSpare c (take k p)
spare_take c zero p h = tt
spare_take c (suc k) [] h = tt
spare_take c (suc k) (m ∷ p) h = (h.0, spare_take c k p h.1)

change_spares : (s : Shelf) (n x c : ℕ) (change : Change) → x ≢ c → Spares c change
    → offset_at (after_change s n change).extents x ≡ offset_at s.extents x
change_spares s n x c (Data extent offset bytes) ne h = refl
change_spares s n x c (Point extent generation offset) ne h =
    ap (λ k. k.pointer.offset)
    (get_or-set_other s.extents.each extent x (pointed n generation offset (extent_at s.extents extent)) no_extent (λ same. ne (same ∙ h)))
change_spares s n x c (Fill slot fields) ne h = refl
change_spares s n x c (Clear slot) ne h = absurd h
change_spares s n x c Widen ne h = absurd h

plan_spares : (s : Shelf) (n x c : ℕ) (p : List Made) → x ≢ c → AllSpare c p
    → offset_at (after_plan s n p).extents x ≡ offset_at s.extents x
plan_spares s n x c [] ne h = refl
plan_spares s n x c (m ∷ p) ne h =
    plan_spares (after_change s n m.change) (n + 1) x c p ne h.1 ∙ change_spares s n x c m.change ne h.0

parts_spare : (c extent offset : ℕ) (bytes names : List ℕ) (xs : List ℕ)
    → AllSpare c (map (λ k. record { change = part extent offset bytes k; after = names }) xs)
parts_spare c extent offset bytes names [] = tt
parts_spare c extent offset bytes names (x ∷ xs) = (tt, parts_spare c extent offset bytes names xs)

-- so does a frame that is appended there
pub frame_spares : (s : Shelf) (n extent slot : ℕ) (content : Content) → AllSpare extent (frame_plan s n extent slot content)
frame_spares s n extent slot content =
    let start = offset_at s.extents extent in
    let bytes = spelling content in
    let names = names_behind s.extents extent [] in
    let count = touched start (length bytes) in
    spare_append extent (append_plan s.extents n extent bytes []) (fill_plan s n extent slot content ∷ [])
    (spare_append extent (parts extent start bytes names count) _
    (parts_spare extent extent start bytes names (range_with_len 0 count)) (refl, tt)) (tt, tt)

-- The current extent is this one, and has room for so many bytes.
pub record Holds (s : Shelf) (c left : ℕ) : Type 0 where
  pub current : s.current ≡ Some c
  pub known : c < length s.extents.each
  pub room : offset_at s.extents c + left ≤ extent_bytes s

holds_first : (s : Shelf) (c len left : ℕ) → Holds s c (len + left) → extent_for_move s len ≡ Some c
holds_first s c len left holds =
    let at = holds.current in
    let room = holds.room in
    let within : offset_at s.extents c + len ≤ extent_bytes s = omega (arith, room) in
    let yes : has_room s len c ≡ true = grind (arith, nat_tests) in rw (at, yes) refl

holds_behind : (s t : Shelf) (c len left : ℕ) → Holds s c (len + left) → IsBehindAppend s t c len → Holds t c left
holds_behind s t c len left holds behind =
    let large : extent_bytes t ≡ extent_bytes s = ap (λ g. largest_pointer g.format) behind.alike.geometry in
    let there = behind.there in
    let many = behind.alike.count in
    let known = holds.known in
    let room = holds.room in record {
      current = behind.current;
      known = omega (arith, known, many);
      room = omega (arith, there, large, room);
    }

pub moves_spare : (entries : List Content) (c : ℕ) (fs : List (ℕ × SlotFields)) (s : Shelf) (n : ℕ) (plan : List Made)
    → Holds s c (bytes_of fs) → EachFrame (IsSized entries) fs → moves entries s n fs ≡ Some plan → AllSpare c plan
moves_spare entries c [] s n plan holds sized h = let none : [] ≡ plan = (let g : Some [] ≡ Some plan = h in cc) in subst (AllSpare c) none tt
moves_spare entries c (f ∷ fs) s n plan holds sized h =
    let len = f.1.length in
    let move = first_move entries s n f fs plan (extent_for_move s len) refl h in
    let x = move.extent in
    let content = content_of entries f.1 in
    let p = frame_plan s n x f.0 content in
    let same : x ≡ c = (let g : Some x ≡ Some c = sym move.chosen ∙ holds_first s c len (bytes_of fs) holds in cc) in
    let known : x < length s.extents.each = subst (λ c. c < length s.extents.each) (sym same) holds.known in
    let behind = subst (λ e. IsBehindAppend s (after_plan s n p) e len) same (appended s n x f.0 len content known sized.0.0 sized.0.1) in
    subst (AllSpare c) move.are
    (spare_append c p move.rest (subst (λ e. AllSpare e p) same (frame_spares s n x f.0 content))
    (moves_spare entries c fs (after_plan s n p) (n + length p) move.rest
    (holds_behind s (after_plan s n p) c len (bytes_of fs) holds behind) sized.1 move.go_on))

-- Of some frames the first ones.

pub bytes_take : (k : ℕ) (fs : List (ℕ × SlotFields)) → bytes_of (take k fs) ≤ bytes_of fs
bytes_take zero fs = omega arith
bytes_take (suc k) [] = omega arith
bytes_take (suc k) (f ∷ fs) = let rest = bytes_take k fs in omega (arith, rest)

pub each_take : (P : ℕ × SlotFields → Type 0) (k : ℕ) (fs : List (ℕ × SlotFields)) → EachFrame P fs → EachFrame P (take k fs)
each_take P zero fs all = tt
each_take P (suc k) [] all = tt
each_take P (suc k) (f ∷ fs) all = (all.0, each_take P k fs all.1)

take_none : {X : Type 0} (k : ℕ) (xs : List X) → xs ≡ [] → take k xs ≡ []
take_none zero xs none = refl
take_none (suc k) xs none = ap (take (suc k)) none

-- where there is none nothing moves
pub none_moved : (entries : List Content) (s : Shelf) (fs : List (ℕ × SlotFields)) (k j n : ℕ) (moved : List Made) → fs ≡ []
    → moves entries s n (take k fs) ≡ Some moved → after_plan s n (take j moved) ≡ s
none_moved entries s fs k j n moved none is =
    let first : take k fs ≡ [] = take_none k fs none in
    let g : Some [] ≡ Some moved = sym (ap (moves entries s n) first) ∙ is in
    let nothing : [] ≡ moved = cc in ap (after_plan s n) (take_none j moved (sym nothing))

-- nor where no byte is live
pub no_live : (given : Given) (h : History) → IsLegalHistory h → (e : ℕ) → live_in (shelf_in h) e ≡ 0 → live_frames (shelf_in h) e ≡ []
no_live given h legal e none =
    let s = shelf_in h in
    no_frames (live_frames s e) (each_live (λ f. 1 ≤ f.1.length) s e (λ slot f used. (sized given h legal slot f used).1)) (live_bytes_are s e ∙ none)

-- Where the current extent has room for what is live in an extent.

left_at : (s : Shelf) (o : Option ℕ) (live : ℕ) → s.current ≡ o → 1 ≤ live → live ≤ room_left s
    → (c : ℕ) × (s.current ≡ Some c) × (offset_at s.extents c + live ≤ extent_bytes s)
left_at s None live at some fits = let few : live ≤ 0 = rw at at fits in absurd (omega (arith, some, few))
left_at s (Some c) live at some fits =
    let few : live ≤ extent_bytes s - offset_at s.extents c = rw at at fits in (c, at, omega (arith, some, few))

module _ (given : Given) (h : History) (legal : IsLegalHistory h) (e : ℕ) (fits : live_in (shelf_in h) e ≤ room_left (shelf_in h)) where
  abbrev s : Shelf
  s = shelf_in h

  abbrev frames : List (ℕ × SlotFields)
  frames = live_frames s e

  stays_of_some : (k j n c : ℕ) (moved : List Made) → s.current ≡ Some c → offset_at s.extents c + live_in s e ≤ extent_bytes s
      → moves (standing_of h).map.entries s n (take k frames) ≡ Some moved → HasEmpty s → HasEmpty (after_plan s n (take j moved))
  stays_of_some k j n c moved at room is has =
      let there = current_there given h legal c at in
      let known = there.0 in
      let many = count given h legal in
      let bytes = live_bytes_are s e in
      let fewer = bytes_take k frames in
      let begun = there.1 in
      let p = take j moved in
      let holds : Holds s c (bytes_of (take k frames)) = record {
        current = at;
        known = omega (arith, known, many);
        room = omega (arith, room, bytes, fewer);
      } in
      let spare = spare_take c j moved (moves_spare (standing_of h).map.entries c (take k frames) s n moved holds
      (each_take (IsSized (standing_of h).map.entries) k frames (frames_sized given h legal e)) is) in
      let x = some_there (empty_extents s) has in
      let one = from_empties s x.0 x.1 in
      let nought = one.nought in
      let ne : x.0 ≢ c = (λ same. let z : offset_at s.extents c ≡ 0 = ap (offset_at s.extents) (sym same) ∙ nought in omega (arith, z, begun)) in
      has_one (after_plan s n p) x.0
      (let a = (plan_counts s n p).1 in let b = one.known in omega (arith, a, b))
      (plan_spares s n x.0 c p ne spare ∙ nought)

  -- first patches of moves of first frames leave an empty extent
  pub stays_empty : (k j n : ℕ) (moved : List Made) → moves (standing_of h).map.entries s n (take k frames) ≡ Some moved
      → HasEmpty s → HasEmpty (after_plan s n (take j moved))
  stays_empty k j n moved is has = elim (cases_Bool (live_in s e == 0)) [
    | inl t ↦
        let none : live_in s e ≡ 0 = grind (arith, nat_tests) in
        subst HasEmpty (sym (none_moved (standing_of h).map.entries s frames k j n moved (no_live given h legal e none) is)) has
    | inr t ↦
        let some : 1 ≤ live_in s e = grind (arith, nat_tests) in
        let current = left_at s s.current (live_in s e) refl some fits in
        stays_of_some k j n current.0 moved current.1 current.2 is has
  ]
