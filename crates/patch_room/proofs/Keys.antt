-- A reclaim leaves each slot its key.
use Rattle.std.proofs.Common.{◌≡◌, ℕ, zero, suc, ◌+◌, ◌∙◌, inl, inr, Bool, true, false, List, [], ◌∷◌, ◌++◌, length}
use Rattle.std.proofs.Common.{map, Option, Some, None, refl, sym, ap, subst}
use Rattle.std.specs.Prelude.{◌&&◌, is_none, option_map, slice_index_or, slice_set, if◌then◌else◌}
use Rattle.std.specs.List.{position_from, range_with_len}
use Rattle.std.specs.Option.{option_or}
use Rattle.std.specs.Str.{bytes_eq}
use Rattle.std.proofs.lemmas.Bool.{cases_Bool}
use Rattle.std.proofs.lemmas.Iterator.Adapters.{position_from-zero}
use Rattle.patch_frame.specs.Frame.{Content, spelling}
use Rattle.patch_frame.specs.Slot.{SlotFields}
use Rattle.patch_recovery.specs.Change.{Change, Data, Point, Fill, Clear, Widen, Made}
use Rattle.patch_recovery.specs.Reading.{has_key}
use Rattle.patch_plans.specs.Extents.{offset_at}
use Rattle.patch_plans.specs.Planning.{reset_plan, append_plan, touched, part, parts, names_behind}
use Rattle.patch_history.specs.Choosing.{slot_of, empty_slot, slot_for, extent_for_move, live_frames}
use Rattle.patch_history.specs.Planning.{fill_plan, frame_plan, content_of, moves, emptied}
use Rattle.patch_history.specs.Shelf.{Shelf, left_of, after_change, after_plan}
use Rattle.patch_room.proofs.Living.{EachFrame, each_live}

-- the keys of the slots
abbrev pub keys : List (Option SlotFields) → List (Option (List ℕ))
keys [] = []
keys (None ∷ slots) = None ∷ keys slots
keys (Some f ∷ slots) = Some f.key ∷ keys slots

abbrev pub HasKey : List (Option (List ℕ)) → ℕ → List ℕ → Type 0
HasKey ks slot key = slice_index_or ks slot None ≡ Some key

keys_at : (slots : List (Option SlotFields)) (slot : ℕ) (f : SlotFields) → slice_index_or slots slot None ≡ Some f
    → HasKey (keys slots) slot f.key
keys_at [] slot f h = absurd (let no : None ≡ Some f = h in cc)
keys_at (None ∷ slots) zero f h = absurd (let no : None ≡ Some f = h in cc)
keys_at (Some g ∷ slots) zero f h = let same : Some g ≡ Some f = h in let e : g ≡ f = cc in ap (λ g. Some g.key) e
keys_at (None ∷ slots) (suc slot) f h = keys_at slots slot f h
keys_at (Some g ∷ slots) (suc slot) f h = keys_at slots slot f h

keys_set : (slots : List (Option SlotFields)) (slot : ℕ) (f : SlotFields) → HasKey (keys slots) slot f.key
    → keys (slice_set slots slot (Some f)) ≡ keys slots
keys_set [] slot f h = absurd (let no : None ≡ Some f.key = h in cc)
keys_set (None ∷ slots) zero f h = absurd (let no : None ≡ Some f.key = h in cc)
keys_set (Some g ∷ slots) zero f h = ap (λ k. k ∷ keys slots) (sym h)
keys_set (None ∷ slots) (suc slot) f h = ap (λ ks. None ∷ ks) (keys_set slots slot f h)
keys_set (Some g ∷ slots) (suc slot) f h = ap (λ ks. Some g.key ∷ ks) (keys_set slots slot f h)

-- a change that leaves them: a slot is filled that has the key
abbrev pub Keeps : List (Option (List ℕ)) → Change → Type 0
Keeps ks (Data extent offset bytes) = Unit {0}
Keeps ks (Point extent generation offset) = Unit {0}
Keeps ks (Fill slot fields) = HasKey ks slot fields.key
Keeps ks (Clear slot) = ⊥
Keeps ks Widen = Unit {0}

abbrev pub AllKeep : List (Option (List ℕ)) → List Made → Type 0
AllKeep ks [] = Unit {0}
AllKeep ks (m ∷ plan) = Keeps ks m.change × AllKeep ks plan

keep_append : (ks : List (Option (List ℕ))) (p q : List Made) → AllKeep ks p → AllKeep ks q → AllKeep ks (p ++ q)
keep_append ks [] q h k = k
keep_append ks (m ∷ p) q h k = (h.0, keep_append ks p q h.1 k)

change_keeps : (s : Shelf) (n : ℕ) (c : Change) → Keeps (keys s.slots) c → keys (after_change s n c).slots ≡ keys s.slots
change_keeps s n (Data extent offset bytes) h = refl
change_keeps s n (Point extent generation offset) h = refl
change_keeps s n (Fill slot fields) h = keys_set s.slots slot fields h
change_keeps s n (Clear slot) h = absurd h
change_keeps s n Widen h = refl

plan_keeps : (s : Shelf) (n : ℕ) (p : List Made) → AllKeep (keys s.slots) p → keys (after_plan s n p).slots ≡ keys s.slots
plan_keeps s n [] h = refl
plan_keeps s n (m ∷ p) h =
    let one = change_keeps s n m.change h.0 in
    plan_keeps (after_change s n m.change) (n + 1) p (subst (λ ks. AllKeep ks p) (sym one) h.1) ∙ one

parts_keep : (ks : List (Option (List ℕ))) (extent offset : ℕ) (bytes names : List ℕ) (xs : List ℕ)
    → AllKeep ks (map (λ k. record { change = part extent offset bytes k; after = names }) xs)
parts_keep ks extent offset bytes names [] = tt
parts_keep ks extent offset bytes names (x ∷ xs) = (tt, parts_keep ks extent offset bytes names xs)

frame_keeps : (ks : List (Option (List ℕ))) (s : Shelf) (n extent slot : ℕ) (c : Content) → HasKey ks slot c.key
    → AllKeep ks (frame_plan s n extent slot c)
frame_keeps ks s n extent slot c h =
    keep_append ks (append_plan s.extents n extent (spelling c) []) (fill_plan s n extent slot c ∷ [])
    (keep_append ks (parts extent (offset_at s.extents extent) (spelling c) (names_behind s.extents extent [])
    (touched (offset_at s.extents extent) (length (spelling c)))) _
    (parts_keep ks extent (offset_at s.extents extent) (spelling c) (names_behind s.extents extent [])
    (range_with_len 0 (touched (offset_at s.extents extent) (length (spelling c))))) (tt, tt)) (h, tt)

-- the rest of the moves
rest_of : (p : List Made) (o : Option (List Made)) (plan : List Made) → option_map (λ rest. p ++ rest) o ≡ Some plan
    → (rest : List Made) × (o ≡ Some rest) × (p ++ rest ≡ plan)
rest_of p None plan h = absurd (let no : None ≡ Some plan = h in cc)
rest_of p (Some rest) plan h = (rest, refl, (let g : Some (p ++ rest) ≡ Some plan = h in cc))

-- the first of the moves, where all can be made
pub record IsMove (entries : List Content) (s : Shelf) (n : ℕ) (f : ℕ × SlotFields) (fs : List (ℕ × SlotFields)) (plan : List Made) : Type 0 where
  pub extent : ℕ
  pub chosen : extent_for_move s f.1.length ≡ Some extent
  pub rest : List Made
  pub go_on : moves entries (after_plan s n (frame_plan s n extent f.0 (content_of entries f.1))) (n + length (frame_plan s n extent f.0 (content_of entries f.1))) fs ≡ Some rest
  pub are : frame_plan s n extent f.0 (content_of entries f.1) ++ rest ≡ plan

pub first_move : (entries : List Content) (s : Shelf) (n : ℕ) (f : ℕ × SlotFields) (fs : List (ℕ × SlotFields)) (plan : List Made) (o : Option ℕ)
    → extent_for_move s f.1.length ≡ o → moves entries s n (f ∷ fs) ≡ Some plan → IsMove entries s n f fs plan
first_move entries s n f fs plan None at h = absurd (let no : None ≡ Some plan = rw (at, moves) at h in cc)
first_move entries s n f fs plan (Some extent) at h =
    let p = frame_plan s n extent f.0 (content_of entries f.1) in
    let rest = rest_of p (moves entries (after_plan s n p) (n + length p) fs) plan (rw (at, moves) at h) in
    record { extent = extent; chosen = at; rest = rest.0; go_on = rest.1; are = rest.2 }

moves_keep : (ks : List (Option (List ℕ))) (entries : List Content) (s : Shelf) (n : ℕ) (fs : List (ℕ × SlotFields)) (plan : List Made)
    → EachFrame (λ f. HasKey ks f.0 f.1.key) fs → moves entries s n fs ≡ Some plan → AllKeep ks plan
moves_keep ks entries s n [] plan all h = let none : [] ≡ plan = (let g : Some [] ≡ Some plan = h in cc) in subst (AllKeep ks) none tt
moves_keep ks entries s n (f ∷ fs) plan all h =
    let move = first_move entries s n f fs plan (extent_for_move s f.1.length) refl h in
    let p = frame_plan s n move.extent f.0 (content_of entries f.1) in
    subst (AllKeep ks) move.are (keep_append ks p move.rest (frame_keeps ks s n move.extent f.0 (content_of entries f.1) all.0)
    (moves_keep ks entries (after_plan s n p) (n + length p) fs move.rest all.1 move.go_on))

-- the slots of a shelf behind a reclaim have the keys that they had
pub reclaim_keeps : (entries : List Content) (s : Shelf) (n e : ℕ) (plan : List Made) → moves entries s n (live_frames s e) ≡ Some plan
    → keys (after_plan s n (emptied s n e plan)).slots ≡ keys s.slots
reclaim_keeps entries s n e plan h =
    let ks = keys s.slots in
    let named = each_live (λ f. HasKey ks f.0 f.1.key) s e (λ slot f used. keys_at s.slots slot f used) in
    plan_keeps s n (emptied s n e plan)
    (keep_append ks plan (reset_plan s.extents e (left_of (after_plan s n plan) e)) (moves_keep ks entries s n (live_frames s e) plan named h) (tt, tt))

-- Whether a key finds a slot is said by the keys.

abbrev none_by : {X : Type 0} → (X → Bool) → List X → Bool
none_by test [] = true
none_by test (x ∷ xs) = if test x then false else none_by test xs

abbrev lacks_key : List ℕ → List (Option (List ℕ)) → Bool
lacks_key key [] = true
lacks_key key (None ∷ ks) = lacks_key key ks
lacks_key key (Some k ∷ ks) = if bytes_eq k key then false else lacks_key key ks

abbrev lacks_place : List (Option (List ℕ)) → Bool
lacks_place [] = true
lacks_place (None ∷ ks) = false
lacks_place (Some k ∷ ks) = lacks_place ks

none_from : {X : Type 0} (test : X → Bool) (i : ℕ) (xs : List X) → is_none (position_from test i xs) ≡ none_by test xs
none_from test i [] = refl
none_from test i (x ∷ xs) = elim (cases_Bool (test x)) [
  | inl t ↦ rw t refl
  | inr t ↦ rw t (none_from test (i + 1) xs)
]

no_key : (key : List ℕ) (slots : List (Option SlotFields)) → none_by (has_key key) slots ≡ lacks_key key (keys slots)
no_key key [] = refl
no_key key (None ∷ slots) = no_key key slots
no_key key (Some f ∷ slots) = elim (cases_Bool (bytes_eq f.key key)) [ inl t ↦ rw t refl | inr t ↦ rw t (no_key key slots) ]

no_place : (slots : List (Option SlotFields)) → none_by is_none slots ≡ lacks_place (keys slots)
no_place [] = refl
no_place (None ∷ slots) = refl
no_place (Some f ∷ slots) = no_place slots

neither : (a b : Option ℕ) → is_none (option_or a b) ≡ (is_none a && is_none b)
neither None b = refl
neither (Some x) b = refl

no_slot : (s : Shelf) (key : List ℕ) → is_none (slot_for s key) ≡ (lacks_key key (keys s.slots) && lacks_place (keys s.slots))
no_slot s key =
    let at_key : is_none (slot_of s key) ≡ lacks_key key (keys s.slots) =
    ap is_none (position_from-zero (has_key key) s.slots) ∙ none_from (has_key key) 0 s.slots ∙ no_key key s.slots in
    let at_none : is_none (empty_slot s) ≡ lacks_place (keys s.slots) =
    ap is_none (position_from-zero is_none s.slots) ∙ none_from is_none 0 s.slots ∙ no_place s.slots in
    neither (slot_of s key) (empty_slot s) ∙ ap (λ a. a && is_none (empty_slot s)) at_key ∙ ap (λ b. lacks_key key (keys s.slots) && b) at_none

pub slots_alike : (s t : Shelf) (key : List ℕ) → keys t.slots ≡ keys s.slots → is_none (slot_for t key) ≡ is_none (slot_for s key)
slots_alike s t key same =
    no_slot t key ∙ ap (λ ks. lacks_key key ks && lacks_place ks) same ∙ sym (no_slot s key)
