-- Where a put goes, and why it is refused.
use Rattle.std.proofs.Common.{◌≡◌, ℕ, zero, suc, ◌+◌, ◌<◌, ◌≤◌, ◌⊎◌, ◌∙◌, inl, inr, Bool, true, false, List, [], ◌∷◌, ◌++◌, length, refl, sym, ap, subst, arith}
use Rattle.std.specs.Prelude.{◌==◌, nat_lt, is_none, if◌then◌else◌, Option, Some, None, filter, option_map, count_by, IfSome}
use Rattle.std.specs.Option.{option_or}
use Rattle.std.specs.List.{range_with_len}
use Rattle.std.proofs.lemmas.Bool.{cases_Bool}
use Rattle.std.proofs.lemmas.Bool.Decides.{nat_tests}
use Rattle.std.proofs.lemmas.List.{length-append, length-map}
use Rattle.std.proofs.lemmas.List.FromFn.{length-range_with_len}
use Rattle.std.proofs.lemmas.List.Quantifiers.{position-Some}
use Rattle.patch_model.specs.declared.limits.TheConstants.{MAX_PATCHES, MAX_LIVE}
use Rattle.patch_model.specs.declared.refusals.RefusalKind.TheVariants as kind
use Rattle.patch_model.specs.declared.refusals.Refusal.{Refusal}
use Rattle.patch_model.specs.Refusing.{bare}
use Rattle.patch_model.specs.Entry.{is_live}
use Rattle.patch_model.specs.State.{entries_of}
use Rattle.patch_frame.specs.declared.geometries.Format.{Format}
use Rattle.patch_frame.specs.declared.geometries.Format.TheVariants.{One, Two}
use Rattle.patch_frame.specs.Frame.{Content, Fits, spelling, length_of}
use Rattle.patch_frame.specs.Geometry.{IsFormat, value_limit, longest_frame, largest_pointer}
use Rattle.patch_recovery.specs.Change.{Made, Point}
use Rattle.patch_recovery.specs.Reading.{has_key}
use Rattle.patch_plans.specs.Extents.{generation_at, offset_at}
use Rattle.patch_plans.specs.Planning.{touched, parts, names_behind, part}
use Rattle.patch_plans.specs.Room.{why_no_room}
use Rattle.patch_history.specs.Choosing.{slot_of, empty_slot, slot_for, has_room, current_for, first_of_any, first_of_two, empty_extents, extent_for_put}
use Rattle.patch_history.specs.Fitting.{HasPlace}
use Rattle.patch_history.specs.ShelfLedger.{ShelvesAreKept}
use Rattle.patch_history.specs.Laws.{StandingsAgree}
use Rattle.patch_history.specs.Planning.{frame_plan, fill_plan}
use Rattle.patch_history.specs.Shelf.{Shelf}
use Rattle.patch_history.specs.StoreState.{Standing, made_by, live_of}
use Rattle.patch_history.specs.Refusing.{why_no_key, why_not_made, why_not_put}
use Rattle.patch_history.specs.History.{History, execution_of, standing_of}
use Rattle.patch_store.specs.Meaning.{Store, IsStoreOf, IsWhole}

-- What is chosen is there.

pub one_of : {X : Type 0} (a b : Option X) (x : X) → option_or a b ≡ Some x → (a ≡ Some x) ⊎ (b ≡ Some x)
one_of (Some y) b x is = inl is
one_of None b x is = inr is

pub slot_within : (s : Shelf) (key : List ℕ) (slot : ℕ) → slot_for s key ≡ Some slot → slot < length s.slots
slot_within s key slot is = elim (one_of (slot_of s key) (empty_slot s) slot is) [
  | inl own ↦ (position-Some (has_key key) s.slots slot None own).0
  | inr empty ↦ (position-Some is_none s.slots slot None empty).0
]

-- the current extent has room
pub has_current : (s : Shelf) (len extent : ℕ) (o : Option ℕ)
    → elim o [ Some e ↦ if has_room s len e then Some e else None | None ↦ None ] ≡ Some extent → (o ≡ Some extent) × (has_room s len extent ≡ true)
has_current s len extent None is = absurd (let g : None ≡ Some extent = is in cc)
has_current s len extent (Some e) is = elim (cases_Bool (has_room s len e)) [
  | inl u ↦ (let g : Some e ≡ Some extent = rw u at is in (g, (let same : e ≡ extent = cc in ap (has_room s len) (sym same) ∙ u)))
  | inr u ↦ absurd (let g : None ≡ Some extent = rw u at is in cc)
]

-- and an empty one is one of the disk's
pub first_there : (p : ℕ → Bool) (a n e : ℕ) → first_of_any (filter p (range_with_len a n)) ≡ Some e → (e < a + n) × (p e ≡ true)
first_there p a zero e is = absurd (let g : None ≡ Some e = is in cc)
first_there p a (suc n) e is = elim (cases_Bool (p a)) [
  | inl u ↦ (let g : Some a ≡ Some e = rw u at is in let same : a ≡ e = cc in (omega (arith, same), ap p (sym same) ∙ u))
  | inr u ↦ (let rest = first_there p (a + 1) n e (rw u at is) in let less = rest.0 in (omega (arith, less), rest.1))
]

pub of_two : (xs : List ℕ) (e : ℕ) → first_of_two xs ≡ Some e → first_of_any xs ≡ Some e
of_two [] e is = is
of_two (x ∷ []) e is = absurd (let g : None ≡ Some e = is in cc)
of_two (x ∷ y ∷ xs) e is = is

pub current_place : (s : Shelf) (len extent : ℕ) → IsWhole s → current_for s len ≡ Some extent → HasPlace s extent len
current_place s len extent whole is =
    let has = has_current s len extent s.current is in
    let room : offset_at s.extents extent + len ≤ largest_pointer s.extents.geometry.format = (let h = has.1 in grind (arith, nat_tests, h)) in
    record { known = subst (λ o. IfSome o (λ e. e < s.extents.geometry.extents)) has.0 whole.current; room = room }

pub empty_place : (s : Shelf) (len extent : ℕ) → len ≤ largest_pointer s.extents.geometry.format → first_of_any (empty_extents s) ≡ Some extent → HasPlace s extent len
empty_place s len extent short is =
    let there = first_there (λ e. offset_at s.extents e == 0) 0 s.extents.geometry.extents extent is in
    let less = there.0 in
    let zero_is : offset_at s.extents extent ≡ 0 = (let h = there.1 in grind (arith, nat_tests, h)) in
    record { known = omega (arith, less); room = omega (arith, zero_is, short) }

pub put_place : (s : Shelf) (len extent : ℕ) → IsWhole s → len ≤ largest_pointer s.extents.geometry.format → extent_for_put s len ≡ Some extent → HasPlace s extent len
put_place s len extent whole short is = elim (one_of (current_for s len) (first_of_two (empty_extents s)) extent is) [
  | inl current ↦ current_place s len extent whole current
  | inr empty ↦ empty_place s len extent short (of_two (empty_extents s) extent empty)
]

-- The frame of a put has its place.

abbrev pub FramesFit : Type 0
FramesFit =
    (f : Format) (c : Content) → IsFormat f → Fits (value_limit f) c
    → (17 ≤ length_of c) × (length_of c ≤ longest_frame f) × (length_of c ≤ largest_pointer f)

pub some_key : (key : List ℕ) (empty : Bool) → empty ≡ (length key == 0) → empty ≡ false → 0 < length key
some_key key empty is none = let e : (length key == 0) ≡ false = sym is ∙ none in grind (arith, nat_tests, e)

pub value_place : FramesFit → (s : Shelf) (key value : List ℕ) (extent : ℕ) → IsWhole s → 0 < length key → length key ≤ 32
    → length value ≤ value_limit s.extents.geometry.format → extent_for_put s (16 + length key + length value) ≡ Some extent
    → HasPlace s extent (16 + length key + length value)
value_place fit s key value extent whole some few short is =
    let fits : Fits (value_limit s.extents.geometry.format) (record { key = key; value = value }) = record { some_key = some; short_key = few; short_value = short } in
    put_place s (16 + length key + length value) extent whole (fit s.extents.geometry.format (record { key = key; value = value }) whole.geometry.format fits).2 is

-- no extent is as long as that
pub small_extents : (f : Format) → IsFormat f → largest_pointer f ≤ 262144
small_extents One is = omega arith
small_extents (Two len) is = let few = is.1 in omega (arith, few)

-- nor is a value
pub small_values : (f : Format) → IsFormat f → value_limit f ≤ 131072
small_values One is = omega arith
small_values (Two len) is = omega arith

-- How many patches a frame's plan has.

pub length-frame : (s : Shelf) (n extent slot : ℕ) (c : Content) → length (frame_plan s n extent slot c) ≡ touched (offset_at s.extents extent) (length (spelling c)) + 2
length-frame s n extent slot c =
    let o = offset_at s.extents extent in
    let count = touched o (length (spelling c)) in
    let names = names_behind s.extents extent [] in
    let bytes : List ℕ = spelling c in
    let first : List Made = parts extent o bytes names count in
    let point : Made = record { change = Point extent (generation_at s.extents extent) (o + length bytes); after = range_with_len n count } in
    let a = length-append (first ++ point ∷ []) (fill_plan s n extent slot c ∷ []) in
    let b = length-append first (point ∷ []) in
    let pick : ℕ → Made = λ k. record { change = part extent o bytes k; after = names } in
    let d = length-map (range_with_len 0 count) pick ∙ length-range_with_len 0 count in
    omega (arith, a, b, d)

-- Why a put is refused.

cause_key : (st : Standing) (key value : List ℕ) (cause : Refusal) → why_no_key key ≡ Some cause → why_not_put st key value ≡ Some cause
cause_key st key value cause is = rw is refl

cause_value : (st : Standing) (key value : List ℕ) → why_no_key key ≡ None → nat_lt (value_limit st.map.format) (length value) ≡ true
    → why_not_put st key value ≡ Some (bare kind.ValueLength)
cause_value st key value fits long = rw (fits, long) refl

cause_index : (st : Standing) (key value : List ℕ) → why_no_key key ≡ None → nat_lt (value_limit st.map.format) (length value) ≡ false
    → slot_for st.shelf key ≡ None → why_not_put st key value ≡ Some (bare kind.IndexFull)
cause_index st key value fits short none = rw (fits, short, none) refl

-- where there is a slot or not
abbrev chosen : Standing → Content → Option ℕ → Option Refusal
chosen st c slot =
    if is_none slot then Some (bare kind.IndexFull)
    else why_not_made st (bare kind.NoSpace) (elim slot [
      | None ↦ None
      | Some at ↦ option_map (λ e. frame_plan st.shelf (made_by st) e at c) (extent_for_put st.shelf (length_of c))
    ])

cause_plan : (st : Standing) (key value : List ℕ) (slot : ℕ) → why_no_key key ≡ None → nat_lt (value_limit st.map.format) (length value) ≡ false
    → slot_for st.shelf key ≡ Some slot → why_not_put st key value
    ≡ why_not_made st (bare kind.NoSpace) (option_map (λ e. frame_plan st.shelf (made_by st) e slot (record { key = key; value = value }))
    (extent_for_put st.shelf (16 + length key + length value)))
cause_plan st key value slot fits short at = rw (fits, short) (ap (chosen st (record { key = key; value = value })) at)

-- and where there is an extent
cause_space : (st : Standing) (key value : List ℕ) (slot : ℕ) → why_no_key key ≡ None → nat_lt (value_limit st.map.format) (length value) ≡ false
    → slot_for st.shelf key ≡ Some slot → extent_for_put st.shelf (16 + length key + length value) ≡ None → why_not_put st key value ≡ Some (bare kind.NoSpace)
cause_space st key value slot fits short at none =
    cause_plan st key value slot fits short at
    ∙ ap (λ o. why_not_made st (bare kind.NoSpace) (option_map (λ e. frame_plan st.shelf (made_by st) e slot (record { key = key; value = value })) o)) none

cause_room : (st : Standing) (key value : List ℕ) (slot extent : ℕ) → why_no_key key ≡ None → nat_lt (value_limit st.map.format) (length value) ≡ false
    → slot_for st.shelf key ≡ Some slot → extent_for_put st.shelf (16 + length key + length value) ≡ Some extent
    → length (spelling (record { key = key; value = value })) ≡ 16 + length key + length value
    → why_not_put st key value ≡ why_no_room (made_by st) (live_of st) (touched (offset_at st.shelf.extents extent) (16 + length key + length value) + 2)
cause_room st key value slot extent fits short at there long =
    cause_plan st key value slot fits short at
    ∙ ap (λ o. why_not_made st (bare kind.NoSpace) (option_map (λ e. frame_plan st.shelf (made_by st) e slot (record { key = key; value = value })) o)) there
    ∙ ap (why_no_room (made_by st) (live_of st)) (length-frame st.shelf (made_by st) extent slot (record { key = key; value = value }))
    ∙ ap (λ l. why_no_room (made_by st) (live_of st) (touched (offset_at st.shelf.extents extent) l + 2)) long

-- The same of a store that represents the history.

pub record IsJudged (h : History) (s : Store) : Type 0 where
  pub kept : ShelvesAreKept
  pub agree : StandingsAgree
  pub was : IsStoreOf s h

module _ (h : History) (s : Store) (j : IsJudged h s) (key value : List ℕ) (fits : why_no_key key ≡ None) where
  shelf : s.shelf ≡ (standing_of h).shelf
  shelf = j.was.shelf_is

  limit : value_limit (standing_of h).map.format ≡ value_limit s.shelf.extents.geometry.format
  limit =
      ap value_limit ((j.agree h j.was.legal).format ∙ sym (ap (λ g. g.format) (j.kept h).geometry) ∙ sym (ap (λ (x : Shelf). x.extents.geometry.format) shelf))

  pub value_so : value_limit s.shelf.extents.geometry.format < length value → why_not_put (standing_of h) key value ≡ Some (bare kind.ValueLength)
  value_so long =
      let l = limit in
      let yes : nat_lt (value_limit (standing_of h).map.format) (length value) ≡ true = grind (arith, nat_tests, l, long) in
      cause_value (standing_of h) key value fits yes

  module _ (short : length value ≤ value_limit s.shelf.extents.geometry.format) where
    not_long : nat_lt (value_limit (standing_of h).map.format) (length value) ≡ false
    not_long = let l = limit in grind (arith, nat_tests, l, short)

    pub index_so : slot_for s.shelf key ≡ None → why_not_put (standing_of h) key value ≡ Some (bare kind.IndexFull)
    index_so none = cause_index (standing_of h) key value fits not_long (ap (λ x. slot_for x key) (sym shelf) ∙ none)

    pub space_so : (slot : ℕ) → slot_for s.shelf key ≡ Some slot → extent_for_put s.shelf (16 + length key + length value) ≡ None
        → why_not_put (standing_of h) key value ≡ Some (bare kind.NoSpace)
    space_so slot at none =
        cause_space (standing_of h) key value slot fits not_long (ap (λ x. slot_for x key) (sym shelf) ∙ at)
        (ap (λ x. extent_for_put x (16 + length key + length value)) (sym shelf) ∙ none)

    pub room_so : (slot extent count : ℕ) → slot_for s.shelf key ≡ Some slot → extent_for_put s.shelf (16 + length key + length value) ≡ Some extent
        → length (spelling (record { key = key; value = value })) ≡ 16 + length key + length value
        → count ≡ touched (offset_at s.shelf.extents extent) (16 + length key + length value) + 2
        → why_not_put (standing_of h) key value
        ≡ why_no_room (length (entries_of (execution_of h))) (count_by is_live (entries_of (execution_of h))) count
    room_so slot extent count at there long is =
        let st = standing_of h in
        let a = j.agree h j.was.legal in
        let len = 16 + length key + length value in
        cause_room st key value slot extent fits not_long (ap (λ x. slot_for x key) (sym shelf) ∙ at) (ap (λ x. extent_for_put x len) (sym shelf) ∙ there) long
        ∙ ap (λ (x : Shelf). why_no_room (made_by st) (live_of st) (touched (offset_at x.extents extent) len + 2)) (sym shelf)
        ∙ ap (why_no_room (made_by st) (live_of st)) (sym is)
        ∙ ap (λ m. why_no_room m (live_of st) count) a.made ∙ ap (λ l. why_no_room (length (entries_of (execution_of h))) l count) a.live

-- Room for so many patches.

pub room_spent : (made live count : ℕ) → nat_lt MAX_PATCHES (made + count) ≡ true → why_no_room made live count ≡ Some (bare kind.NumbersSpent)
room_spent made live count is = rw is refl

pub room_full : (made live count : ℕ) → nat_lt MAX_PATCHES (made + count) ≡ false → nat_lt MAX_LIVE (live + count) ≡ true
    → why_no_room made live count ≡ Some (bare kind.TooManyLive)
room_full made live count few is = rw (few, is) refl

pub room_left : (made live count : ℕ) → nat_lt MAX_PATCHES (made + count) ≡ false → nat_lt MAX_LIVE (live + count) ≡ false
    → why_no_room made live count ≡ None
room_left made live count few is = rw (few, is) refl
