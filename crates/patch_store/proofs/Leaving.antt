-- Frames that move leave their extent, and the others are its live ones then.
use Rattle.std.proofs.Common.{◌≡◌, ◌≢◌, ℕ, suc, ◌+◌, ◌-◌, ◌<◌, ◌≤◌, ◌∙◌, inl, inr, Bool, true, false, List, [], ◌∷◌, ◌++◌, length, take, drop, refl, sym, ap, subst, arith}
use Rattle.std.specs.Prelude.{◌==◌, nat_le, not, ◌&&◌, Option, Some, None, slice_set}
use Rattle.std.specs.List.{range_with_len}
use Rattle.std.proofs.lemmas.Bool.{cases_Bool}
use Rattle.std.proofs.lemmas.Bool.Decides.{nat_tests}
use Rattle.std.proofs.lemmas.List.{get_or-set_other, length-map, take_all, take-append-drop, drop_all}
use Rattle.patch_model.specs.declared.refusals.RefusalKind.TheVariants as kind
use Rattle.patch_model.specs.declared.refusals.Refusal.{Refusal}
use Rattle.patch_model.specs.Refusing.{bare}
use Rattle.patch_model.specs.Step.{Step}
use Rattle.patch_frame.specs.Frame.{Content, spelling}
use Rattle.patch_frame.specs.Slot.{SlotFields}
use Rattle.patch_recovery.specs.Change.{Made, Point}
use Rattle.patch_plans.specs.declared.records.Extent.{Extent}
use Rattle.patch_plans.specs.Extents.{no_extent, pointed, extent_at, generation_at, offset_at}
use Rattle.patch_plans.specs.Planning.{touched, parts, names_behind, append_plan}
use Rattle.patch_history.specs.Choosing.{current_for, empty_extents, first_of_any, extent_for_move, live_from, placed, in_order, live_frames}
use Rattle.patch_history.specs.Planning.{frame_plan, fill_plan, fields_for, content_of, moves}
use Rattle.patch_history.specs.Refusing.{is_current, is_in_use, why_not_reclaimed}
use Rattle.patch_history.specs.Shelf.{Shelf, not_current, after_point, after_slot, after_plan}
use Rattle.patch_history.specs.StoreState.{Standing, made_by, creates}
use Rattle.patch_history.specs.History.{History, IsWhole, standing_of}
use Rattle.patch_store.specs.Meaning.{Store}
use Rattle.patch_store.specs.Framing.{StandsBehind}
use Rattle.patch_store.specs.HistoryLaws.{Given}
use Rattle.patch_store.specs.Moving.{live_slots, IsStanding, IsEmptied, IsReclaiming, HaveMoved}
use Rattle.patch_store.specs.declared.stepping.Reclaimed.TheVariants as told
use Rattle.patch_store.specs.Stepping.{told_of}
use Rattle.patch_store.proofs.Counted.{creates_all, shelf_joined, parts_leave}
use Rattle.patch_store.proofs.Moves.{some_plan, move_cases}
use Rattle.patch_store.proofs.Placing.{one_of, has_current, first_there}
use Rattle.patch_store.proofs.Reclaims.{all_moved, slots_kept}
use Rattle.patch_store.proofs.Tried.{and_true}

-- The first live slot names another extent.

abbrev pub Frames : Type 0
Frames = List (ℕ × SlotFields)

-- the live frames of the slots behind one of this number that says so, once the slot at a place says something else
abbrev live_with : (e k : ℕ) → List (Option SlotFields) → (i : ℕ) → SlotFields → Frames
live_with e k slots i fields = in_order (live_from e k (slice_set slots i (Some fields)))

-- the others are left
abbrev Leaves : (e k : ℕ) → List (Option SlotFields) → SlotFields → ℕ × SlotFields → Frames → Type 0
Leaves e k slots fields f rest = (k ≤ f.0) × (live_with e k slots (f.0 - k) fields ≡ rest)

-- a slot behind the one here
behind_here : (e k : ℕ) (o : Option SlotFields) (slots : List (Option SlotFields)) (f : ℕ × SlotFields) (rest tail : Frames) (fields : SlotFields)
    → ((later : List (Option SlotFields)) → in_order (live_from e (k + 1) later) ≡ tail → in_order (live_from e k (o ∷ later)) ≡ rest)
    → Leaves e (k + 1) slots fields f tail → Leaves e k (o ∷ slots) fields f rest
behind_here e k o slots f rest tail fields goes leaves =
    let low = leaves.0 in
    let at : f.0 - k ≡ suc (f.0 - (k + 1)) = omega (arith, low) in (
      omega (arith, low),
      ap (λ i. live_with e k (o ∷ slots) i fields) at ∙ goes (slice_set slots (f.0 - (k + 1)) (Some fields)) leaves.1,
    )

-- the one here
just_here : (e k : ℕ) (g : SlotFields) (slots : List (Option SlotFields)) (f : ℕ × SlotFields) (rest : Frames) (fields : SlotFields)
    → fields.extent ≢ e → (k, g) ≡ f → in_order (live_from e (k + 1) slots) ≡ rest → Leaves e k (Some g ∷ slots) fields f rest
just_here e k g slots f rest fields other same is =
    let off : (fields.extent == e) ≡ false = grind (arith, nat_tests, other) in
    let here : k ≡ f.0 = ap (λ (x : ℕ × SlotFields). x.0) same in
    let none : f.0 - k ≡ 0 = omega (arith, here) in
    (omega (arith, here), ap (λ i. live_with e k (Some g ∷ slots) i fields) none ∙ rw off is)

first_alike : (f g : ℕ × SlotFields) (fs gs : Frames) → f ∷ fs ≡ g ∷ gs → f ≡ g
first_alike f g fs gs is = cc

others_alike : (f g : ℕ × SlotFields) (fs gs : Frames) → f ∷ fs ≡ g ∷ gs → fs ≡ gs
others_alike f g fs gs is = cc

-- it is the first of the live ones, or one behind it is
placed_leaves : (e k : ℕ) (g : SlotFields) (slots : List (Option SlotFields)) (f : ℕ × SlotFields) (rest : Frames) (fields : SlotFields) (o : Frames)
    → fields.extent ≢ e → (g.extent == e) ≡ true → in_order (live_from e (k + 1) slots) ≡ o → placed (k, g) o ≡ f ∷ rest
    → ((h : ℕ × SlotFields) (hs : Frames) → o ≡ h ∷ hs → Leaves e (k + 1) slots fields h hs) → Leaves e k (Some g ∷ slots) fields f rest
placed_leaves e k g slots f rest fields [] other on is live goes =
    just_here e k g slots f rest fields other (first_alike (k, g) f [] rest live) (is ∙ others_alike (k, g) f [] rest live)
placed_leaves e k g slots f rest fields (h ∷ hs) other on is live goes = elim (cases_Bool (nat_le g.offset h.1.offset)) [
  | inl low ↦ (let all : (k, g) ∷ h ∷ hs ≡ f ∷ rest = rw low at live in
      just_here e k g slots f rest fields other (first_alike (k, g) f (h ∷ hs) rest all) (is ∙ others_alike (k, g) f (h ∷ hs) rest all))
  | inr high ↦ (let all : h ∷ placed (k, g) hs ≡ f ∷ rest = rw high at live in
      subst (λ x. Leaves e k (Some g ∷ slots) fields x rest) (first_alike h f (placed (k, g) hs) rest all)
      (behind_here e k (Some g) slots h rest hs fields
      (λ later same. rw on (ap (placed (k, g)) same) ∙ others_alike h f (placed (k, g) hs) rest all)
      (goes h hs refl)))
]

slot_leaves : (e k : ℕ) (slots : List (Option SlotFields)) (f : ℕ × SlotFields) (rest : Frames) (fields : SlotFields)
    → fields.extent ≢ e → in_order (live_from e k slots) ≡ f ∷ rest → Leaves e k slots fields f rest
slot_leaves e k [] f rest fields other live = absurd (let g : [] ≡ f ∷ rest = live in cc)
slot_leaves e k (None ∷ slots) f rest fields other live =
    behind_here e k None slots f rest rest fields (λ later same. same) (slot_leaves e (k + 1) slots f rest fields other live)
slot_leaves e k (Some g ∷ slots) f rest fields other live = elim (cases_Bool (g.extent == e)) [
  | inl on ↦ placed_leaves e k g slots f rest fields (in_order (live_from e (k + 1) slots)) other on refl (rw on at live)
      (λ h hs is. slot_leaves e (k + 1) slots h hs fields other is)
  | inr off ↦ behind_here e k (Some g) slots f rest rest fields (λ later same. rw off same)
      (slot_leaves e (k + 1) slots f rest fields other (rw off at live))
]

-- A frame goes into no extent that is neither current nor empty.

pub record IsApart (s : Shelf) (e : ℕ) : Type 0 where
  pub begun : offset_at s.extents e ≢ 0
  pub not_current : is_current s e ≡ false

chosen_elsewhere : (s : Shelf) (e len x : ℕ) → IsApart s e → extent_for_move s len ≡ Some x → x ≢ e
chosen_elsewhere s e len x apart is same = elim (one_of (current_for s len) (first_of_any (empty_extents s)) x is) [
  | inl current ↦
      let there : s.current ≡ Some x = (has_current s len x s.current current).0 in
      let not : is_current s e ≡ false = apart.not_current in
      let on : (x == e) ≡ false = rw there at not in
      grind (arith, nat_tests, on, same)
  | inr empty ↦
      let on = (first_there (λ i. offset_at s.extents i == 0) 0 s.extents.geometry.extents x empty).1 in
      let none : offset_at s.extents x ≡ 0 = grind (arith, nat_tests, on) in
      apart.begun (ap (offset_at s.extents) (sym same) ∙ none)
]

-- the shelf behind a frame
frame_shelf : (s : Shelf) (n x slot : ℕ) (c : Content) → (k : ℕ) × (m : ℕ)
    × (after_plan s n (frame_plan s n x slot c) ≡ after_slot (after_point s k x (generation_at s.extents x) (offset_at s.extents x + length (spelling c))) m slot (Some (fields_for s x c)))
frame_shelf s n x slot c =
    let bytes : List ℕ = spelling c in
    let o = offset_at s.extents x in
    let g = generation_at s.extents x in
    let count = touched o (length bytes) in
    let first : List Made = parts x o bytes (names_behind s.extents x []) count in
    let point : Made = record { change = Point x g (o + length bytes); after = range_with_len n count } in
    let append : List Made = append_plan s.extents n x bytes [] in
    let appended : after_plan s n append ≡ after_point s (n + length first) x g (o + length bytes) =
    shelf_joined s n first (point ∷ [])
    ∙ ap (λ t. after_point t (n + length first) x g (o + length bytes)) (parts_leave s n x o bytes (names_behind s.extents x []) (range_with_len 0 count)) in (
      n + length first,
      n + length append,
      shelf_joined s n append (fill_plan s n x slot c ∷ [])
          ∙ ap (λ t. after_slot t (n + length append) slot (Some (fields_for s x c))) appended,
    )

-- the current extent is this one
abbrev names : Option ℕ → ℕ → Bool
names o e = elim o [ Some c ↦ c == e | None ↦ false ]

none_current : (o : Option ℕ) (x e : ℕ) → names o e ≡ false → names (not_current x o) e ≡ false
none_current None x e other = refl
none_current (Some c) x e other = elim (cases_Bool (c == x)) [ inl u ↦ rw u refl | inr u ↦ rw u other ]

current_elsewhere : (s : Shelf) (k x e g o : ℕ) → x ≢ e → is_current s e ≡ false → is_current (after_point s k x g o) e ≡ false
current_elsewhere s k x e g o away other = elim (cases_Bool (o == 0)) [
  | inl none ↦ rw none (none_current s.current x e other)
  | inr far ↦ (let off : (x == e) ≡ false = grind (arith, nat_tests, away) in rw far off)
]

offset_elsewhere : (s : Shelf) (k x e g o : ℕ) → x ≢ e → offset_at (after_point s k x g o).extents e ≡ offset_at s.extents e
offset_elsewhere s k x e g o away =
    ap (λ (i : Extent). i.pointer.offset)
    (get_or-set_other s.extents.each x e (pointed k g o (extent_at s.extents x)) no_extent (λ same. away (sym same)))

frame_apart : (s : Shelf) (n x slot e : ℕ) (c : Content) → x ≢ e → IsApart s e → IsApart (after_plan s n (frame_plan s n x slot c)) e
frame_apart s n x slot e c away apart =
    let f = frame_shelf s n x slot c in
    let g = generation_at s.extents x in
    let o = offset_at s.extents x + length (spelling c) in
    record {
      begun = λ none. apart.begun (sym (offset_elsewhere s f.0 x e g o away) ∙ sym (ap (λ (t : Shelf). offset_at t.extents e) f.2) ∙ none);
      not_current = ap (λ t. is_current t e) f.2 ∙ current_elsewhere s f.0 x e g o away apart.not_current;
    }

-- the slot of the first live frame names another extent
frame_leaves : (s : Shelf) (n x e : ℕ) (f : ℕ × SlotFields) (rest : Frames) (c : Content) → x ≢ e → live_frames s e ≡ f ∷ rest
    → live_frames (after_plan s n (frame_plan s n x f.0 c)) e ≡ rest
frame_leaves s n x e f rest c away live =
    let at : f.0 ≡ f.0 - 0 = omega arith in
    ap (λ t. live_frames t e) (frame_shelf s n x f.0 c).2 ∙ ap (λ i. live_with e 0 s.slots i (fields_for s x c)) at
    ∙ (slot_leaves e 0 s.slots f rest (fields_for s x c) away live).1

-- Some first frames move.

pub moves_leave : (entries : List Content) (e : ℕ) (fs rest : Frames) (s : Shelf) (n : ℕ) (p : List Made) → IsApart s e
    → live_frames s e ≡ fs ++ rest → moves entries s n fs ≡ Some p → live_frames (after_plan s n p) e ≡ rest
moves_leave entries e [] rest s n p apart live h = ap (λ r. live_frames (after_plan s n r) e) (sym (some_plan [] p h)) ∙ live
moves_leave entries e (f ∷ fs) rest s n p apart live h =
    let move = move_cases entries s n f fs p (extent_for_move s f.1.length) refl h in
    let x = move.extent in
    let c : Content = content_of entries f.1 in
    let one : List Made = frame_plan s n x f.0 c in
    let away = chosen_elsewhere s e f.1.length x apart move.chosen in
    ap (λ r. live_frames (after_plan s n r) e) move.are
    ∙ ap (λ t. live_frames t e) (shelf_joined s n one move.others)
    ∙ moves_leave entries e fs rest (after_plan s n one) (n + length one) move.others (frame_apart s n x f.0 e c away apart)
    (frame_leaves s n x e f (fs ++ rest) c away live) move.go_on

-- No cause stands against a reclaim.

some_none : (r : Refusal) → Some r ≢ None
some_none r is = cc

begun_so : (st : Standing) (e : ℕ) → why_not_reclaimed st e ≡ None → (offset_at st.shelf.extents e ≢ 0) × (is_in_use st.shelf e ≡ false)
begun_so st e none = elim (cases_Bool (nat_le st.shelf.extents.geometry.extents e)) [
  | inl u ↦ absurd (some_none (bare kind.NoSuchExtent) (rw u at none))
  | inr known ↦ elim (cases_Bool (offset_at st.shelf.extents e == 0)) [
    | inl u ↦ absurd (some_none (bare kind.EmptyExtent) (rw (known, u) at none))
    | inr begun ↦ elim (cases_Bool (is_in_use st.shelf e)) [
      | inl u ↦ absurd (some_none (bare kind.OpenExtent) (rw (known, begun, u) at none))
      | inr unused ↦ ((λ is. grind (arith, nat_tests, begun, is)), unused)
    ]
  ]
]

-- no frame moves into the extent, where one of it is live
apart_so : (st : Standing) (e : ℕ) (f : ℕ × SlotFields) (rest : Frames) → why_not_reclaimed st e ≡ None → live_frames st.shelf e ≡ f ∷ rest → IsApart st.shelf e
apart_so st e f rest none live =
    let free = begun_so st e none in
    let unused : is_current st.shelf e && not (length (live_frames st.shelf e) == 0) ≡ false = free.1 in
    let long : length (live_frames st.shelf e) ≡ length rest + 1 = ap length live ∙ (let m : length (f ∷ rest) ≡ length rest + 1 = omega arith in m) in
    let some : (length (live_frames st.shelf e) == 0) ≡ false = grind (arith, nat_tests, long) in
    record { begun = free.0; not_current = and_true (is_current st.shelf e) ∙ rw some at unused }

-- the others are left
pub reclaim_leaves : (st : Standing) (e : ℕ) (fs rest : Frames) (p : List Made) → why_not_reclaimed st e ≡ None → live_frames st.shelf e ≡ fs ++ rest
    → moves st.map.entries st.shelf (made_by st) fs ≡ Some p → live_frames (after_plan st.shelf (made_by st) p) e ≡ rest
reclaim_leaves st e [] rest p none live h = ap (λ r. live_frames (after_plan st.shelf (made_by st) r) e) (sym (some_plan [] p h)) ∙ live
reclaim_leaves st e (f ∷ fs) rest p none live h =
    moves_leave st.map.entries e (f ∷ fs) rest st.shelf (made_by st) p (apart_so st e f (fs ++ rest) none live) live h

-- The store behind it.

-- its shelf is that behind all moves
shelf_moved : (st : Standing) (moved : List Made) (steps : List Step) (old new : Store) → IsWhole st moved steps
    → StandsBehind st None moved steps old new → new.shelf ≡ after_plan st.shelf (made_by st) moved
shelf_moved st moved steps old new whole stands =
    let count = creates_all st moved steps whole in
    stands.shelf_is ∙ ap (after_plan st.shelf (made_by st)) (take_all (creates steps) moved (omega (arith, count)))

-- there are as many slots as live frames
counted : (s : Shelf) (extent : ℕ) (slots : List ℕ) → slots ≡ live_slots s extent → length slots ≡ length (live_frames s extent)
counted s extent slots are = ap length are ∙ length-map (live_frames s extent) (λ (f : ℕ × SlotFields). f.0)

-- What is told of a step.

pub told_begun : (s : Shelf) (extent : ℕ) (slots : List ℕ) (most : ℕ) → slots ≡ live_slots s extent → most < length slots
    → told.Begun ≡ told_of most (live_frames s extent)
told_begun s extent slots most are less =
    let long = counted s extent slots are in
    let off : nat_le (length (live_frames s extent)) most ≡ false = grind (arith, nat_tests, long, less) in
    rw off refl

pub told_emptied : (s : Shelf) (extent : ℕ) (slots : List ℕ) (most : ℕ) → slots ≡ live_slots s extent → length slots ≤ most
    → told.Emptied ≡ told_of most (live_frames s extent)
told_emptied s extent slots most are enough =
    let long = counted s extent slots are in
    let on : nat_le (length (live_frames s extent)) most ≡ true = grind (arith, nat_tests, long, enough) in
    rw on refl

module _ (h : History) (extent : ℕ) (slots : List ℕ) (old : Store) (is : IsReclaiming h extent slots old) where
  abbrev live : Frames
  live = live_frames (standing_of h).shelf extent

  -- where so many first ones have moved the others are left
  pub others_left : (k : ℕ) (new : Store) → HaveMoved h (take k live) old new
      → live_frames new.shelf extent ≡ drop k (live_frames old.shelf extent)
  others_left k new m =
      let st = standing_of h in
      ap (λ s. live_frames s extent) (shelf_moved st m.moved m.steps old new m.whole m.stands)
      ∙ reclaim_leaves st extent (take k live) (drop k live) m.moved is.no_cause (sym (take-append-drop k live)) m.moved_is
      ∙ ap (λ s. drop k (live_frames s extent)) (sym is.represents.shelf_is)

  -- none is, behind all of them and the reset
  pub none_left : Given → (k most : ℕ) (mid new : Store) → length slots ≤ k → length slots ≤ most → HaveMoved h (take k live) old mid
      → ((at : Standing) → IsStanding at mid → IsEmptied at extent mid new)
      → live_frames new.shelf extent ≡ drop most (live_frames old.shelf extent)
  none_left given k most mid new end enough m empties =
      let long = counted (standing_of h).shelf extent slots is.slots_are in
      let same = ap (λ s. length (live_frames s extent)) is.represents.shelf_is in
      let all = all_moved given h extent slots old is k mid end m in
      ap (λ x. in_order (live_from extent 0 x)) (slots_kept given h extent slots old is mid all new empties)
      ∙ others_left k mid m ∙ drop_all k (live_frames old.shelf extent) (omega (arith, long, same, end))
      ∙ sym (drop_all most (live_frames old.shelf extent) (omega (arith, long, same, enough)))
