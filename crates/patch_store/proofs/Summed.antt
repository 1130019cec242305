-- How many patches the moves of a reclaim make, frame by frame.
use Rattle.std.proofs.Common.{◌≡◌, ℕ, zero, suc, ◌+◌, ◌∙◌, List, [], ◌∷◌, ◌++◌, length, drop, get_or, refl, sym, ap, arith}
use Rattle.std.specs.Prelude.{Option, Some, None, option_map}
use Rattle.std.specs.List.{slice_get}
use Rattle.std.proofs.lemmas.List.{length-append}
use Rattle.patch_frame.specs.Frame.{Content, spelling, length_of}
use Rattle.patch_frame.specs.Slot.{SlotFields}
use Rattle.patch_recovery.specs.Change.{Made}
use Rattle.patch_history.specs.Choosing.{extent_for_move, live_frames}
use Rattle.patch_history.specs.Planning.{frame_plan, content_of, moves}
use Rattle.patch_history.specs.Shelf.{Shelf, after_plan}
use Rattle.patch_history.specs.StoreState.{Standing, made_by}
use Rattle.patch_history.specs.Fitting.{FramesAreThere}
use Rattle.patch_history.specs.History.{History, standing_of}
use Rattle.patch_index.specs.declared.entries.Entry.{Entry}
use Rattle.patch_index.specs.Index.{fields_of}
use Rattle.patch_index.specs.Live.{slots_of, AreSaid}
use Rattle.patch_index.specs.Said.{said_behind}
use Rattle.patch_store.specs.declared.trials.Trial.{Trial}
use Rattle.patch_store.specs.Meaning.{Store, IsStoreOf}
use Rattle.patch_store.specs.Moving.{live_slots}
use Rattle.patch_store.specs.Trials.{Alike, Tries, moving_patches}

-- The next frame.

pub record IsNext (slots : List (Option SlotFields)) (frames : List (ℕ × SlotFields)) (at slot : ℕ) : Type 0 where
  pub frame : ℕ × SlotFields
  pub slot_is : frame.0 ≡ slot
  pub rest : drop at frames ≡ frame ∷ drop (at + 1) frames
  pub said : get_or slots slot None ≡ Some frame.1

pub next_is : (slots : List (Option SlotFields)) (frames : List (ℕ × SlotFields)) (at slot : ℕ) → AreSaid slots frames
    → slice_get (slots_of frames) at ≡ Some slot → IsNext slots frames at slot
next_is slots [] at slot said is = absurd (let g : None ≡ Some slot = is in cc)
next_is slots (f ∷ fs) zero slot said is =
    let same : f.0 ≡ slot = cc in
    record { frame = f; slot_is = same; rest = refl; said = ap (λ n. get_or slots n None) (sym same) ∙ said.0 }
next_is slots (f ∷ fs) (suc at) slot said is =
    let later = next_is slots fs at slot said.1 is in
    let e : suc at + 1 ≡ suc (at + 1) = omega arith in
    record { frame = later.frame; slot_is = later.slot_is; rest = later.rest ∙ ap (λ n. later.frame ∷ drop n (f ∷ fs)) (sym e); said = later.said }

-- the frame of a slot that is read, which is that of the history
pub record IsRead (h : History) (extent at len : ℕ) : Type 0 where
  pub frame : ℕ × SlotFields
  pub rest : drop at (live_frames (standing_of h).shelf extent) ≡ frame ∷ drop (at + 1) (live_frames (standing_of h).shelf extent)
  pub long : frame.1.length ≡ len
  pub spelled : length (spelling (content_of (standing_of h).map.entries frame.1)) ≡ len

some_fields : (f g : SlotFields) → Some f ≡ Some g → f ≡ g
some_fields f g is = cc

next_in : (h : History) (s : Store) (live : List ℕ) (extent at slot : ℕ) → IsStoreOf s h → live ≡ live_slots s.shelf extent
    → slice_get live at ≡ Some slot → IsNext (standing_of h).shelf.slots (live_frames (standing_of h).shelf extent) at slot
next_in h s live extent at slot was same is =
    let t = (standing_of h).shelf in
    next_is t.slots (live_frames t extent) at slot (said_behind t.slots extent 0)
    (sym (ap (λ xs. slice_get xs at) (same ∙ ap (λ x. live_slots x extent) was.shelf_is)) ∙ is)

slots_alike : (h : History) (s : Store) (slot : ℕ) → IsStoreOf s h → get_or s.shelf.slots slot None ≡ get_or (standing_of h).shelf.slots slot None
slots_alike h s slot was = ap (λ (x : Shelf). get_or x.slots slot None) was.shelf_is

pub never_empty : (h : History) (s : Store) (live : List ℕ) (extent at slot : ℕ) → IsStoreOf s h → live ≡ live_slots s.shelf extent
    → slice_get live at ≡ Some slot → None ≡ get_or s.shelf.slots slot None → ⊥
never_empty h s live extent at slot was same is none =
    let next = next_in h s live extent at slot was same is in
    let both : None ≡ Some next.frame.1 = none ∙ slots_alike h s slot was ∙ next.said in
    cc

pub is_read : FramesAreThere → ((c : Content) → length (spelling c) ≡ length_of c) → (h : History) (s : Store) (live : List ℕ) (extent at slot : ℕ) (e : Entry)
    → IsStoreOf s h → live ≡ live_slots s.shelf extent → slice_get live at ≡ Some slot → Some (fields_of e) ≡ get_or s.shelf.slots slot None
    → IsRead h extent at e.length
is_read there spells h s live extent at slot e was same is says =
    let next = next_in h s live extent at slot was same is in
    let fields = some_fields (fields_of e) next.frame.1 (says ∙ slots_alike h s slot was ∙ next.said) in
    let long : next.frame.1.length ≡ e.length = ap (λ (f : SlotFields). f.length) (sym fields) in
    let stands = there h slot next.frame.1 was.legal next.said in
    let c = content_of (standing_of h).map.entries next.frame.1 in
    record {
      frame = next.frame;
      rest = next.rest;
      long = long;
      spelled = spells c ∙ ap length_of (sym stands.content) ∙ stands.named.length ∙ long;
    }

-- The frames so far make so many patches; with those that are left they make all.
pub record AreTried (st : Standing) (extent : ℕ) (rest : List (ℕ × SlotFields)) (count : ℕ) (t : Trial) : Type 0 where
  pub shelf : Shelf
  pub next : ℕ
  pub alike : Alike shelf t
  pub go_on : moving_patches st extent ≡ option_map (λ k. count + k) (option_map length (moves st.map.entries shelf next rest))

with_none : (o : Option ℕ) → o ≡ option_map (λ k. 0 + k) o
with_none None = refl
with_none (Some k) = let e : k ≡ 0 + k = omega arith in ap (λ n. Some n) e

pub none_tried : (st : Standing) (extent : ℕ) (t : Trial) → Alike st.shelf t → AreTried st extent (live_frames st.shelf extent) 0 t
none_tried st extent t a = record { shelf = st.shelf; next = made_by st; alike = a; go_on = with_none (moving_patches st extent) }

-- the moves of a frame and of those behind it, where it goes so
abbrev moved_on : List Content → Shelf → ℕ → ℕ × SlotFields → List (ℕ × SlotFields) → Option ℕ → Option (List Made)
moved_on entries s n f fs o = elim o [
  | None ↦ None
  | Some extent ↦
      let plan = frame_plan s n extent f.0 (content_of entries f.1) in
      option_map (λ rest. plan ++ rest) (moves entries (after_plan s n plan) (n + length plan) fs)
]

counted_on : (count patches : ℕ) (plan : List Made) (o : Option (List Made)) → length plan ≡ patches
    → option_map (λ k. count + k) (option_map length (option_map (λ rest. plan ++ rest) o)) ≡ option_map (λ k. count + patches + k) (option_map length o)
counted_on count patches plan None is = refl
counted_on count patches plan (Some rest) is =
    let long = length-append plan rest in
    let e : count + length (plan ++ rest) ≡ count + patches + length rest = omega (arith, long, is) in
    ap (λ n. Some n) e

-- one frame more
pub more_tried : (st : Standing) (extent : ℕ) (f : ℕ × SlotFields) (rest : List (ℕ × SlotFields)) (count len patches : ℕ) (t new : Trial)
    → AreTried st extent (f ∷ rest) count t → f.1.length ≡ len → length (spelling (content_of st.map.entries f.1)) ≡ len
    → Tries len (Some patches) t new → AreTried st extent rest (count + patches) new
more_tried st extent f rest count len patches t new so_far is long tries =
    let entries = st.map.entries in
    let room = tries so_far.shelf so_far.alike in
    let c = content_of entries f.1 in
    let plan = frame_plan so_far.shelf so_far.next room.extent f.0 c in
    let to : extent_for_move so_far.shelf f.1.length ≡ Some room.extent = ap (extent_for_move so_far.shelf) is ∙ room.chosen in
    let later = after_plan so_far.shelf so_far.next plan in
    let n = so_far.next + length plan in
    record {
      shelf = later;
      next = n;
      alike = room.behind so_far.next f.0 c long;
      go_on = so_far.go_on
          ∙ ap (λ o. option_map (λ k. count + k) (option_map length (moved_on entries so_far.shelf so_far.next f rest o))) to
          ∙ counted_on count patches plan (moves entries later n rest) (room.count so_far.next f.0 c long);
    }

-- one that finds no room
pub no_room_left : (st : Standing) (extent : ℕ) (f : ℕ × SlotFields) (rest : List (ℕ × SlotFields)) (count len : ℕ) (t new : Trial)
    → AreTried st extent (f ∷ rest) count t → f.1.length ≡ len → Tries len None t new → None ≡ moving_patches st extent
no_room_left st extent f rest count len t new so_far is tries =
    let to : extent_for_move so_far.shelf f.1.length ≡ None = ap (extent_for_move so_far.shelf) is ∙ tries so_far.shelf so_far.alike in
    sym (so_far.go_on
    ∙ ap (λ o. option_map (λ k. count + k) (option_map length (moved_on st.map.entries so_far.shelf so_far.next f rest o))) to)

-- all
pub all_tried : (st : Standing) (extent count : ℕ) (t : Trial) → AreTried st extent [] count t → Some count ≡ moving_patches st extent
all_tried st extent count t so_far = let e : count ≡ count + 0 = omega arith in ap (λ n. Some n) e ∙ sym so_far.go_on
