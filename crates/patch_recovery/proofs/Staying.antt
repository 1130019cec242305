-- Frames stay as they are.
use Rattle.std.proofs.Common.{◌≡◌, ℕ, zero, suc, ◌+◌, ◌-◌, ◌%◌, ◌∙◌, true, List, [], ◌∷◌, length, take, drop, Some, Ok}
use Rattle.std.proofs.Common.{refl, sym, ap, subst}
use Rattle.std.specs.Prelude.{◌||◌}
use Rattle.patch_model.specs.Execution.{Execution}
use Rattle.patch_frame.specs.Frame.{Content, spelling}
use Rattle.patch_frame.specs.Slot.{SlotFields}
use Rattle.patch_recovery.specs.Change.{Change, Data, Fill, Made}
use Rattle.patch_recovery.specs.Ledger.{Ledger, after, after_all, after_those, frame_named}
use Rattle.patch_recovery.specs.Right.{IsSound}
use Rattle.patch_recovery.specs.Orders.{AreWellMade, comes_after}
use Rattle.patch_recovery.specs.Store.{IsOfStore}
use Rattle.patch_recovery.specs.Said.{Moves, value_read}
use Rattle.patch_recovery.specs.Putting.{pieces_within, made_in_order, Put, fields_put, pointer_put, slot_put}
use Rattle.patch_recovery.specs.Putting.{IsRightPut}
use Rattle.patch_recovery.proofs.Sound.{same_record, sound_those}
use Rattle.patch_recovery.proofs.LastSaid.{frame_kept}
use Rattle.patch_recovery.proofs.Held.{right_of}
use Rattle.patch_recovery.proofs.Opening.{opened}
use Rattle.patch_recovery.proofs.Closing.{all_held, all_kept, those_are_all}
use Rattle.patch_recovery.proofs.Putting.{Frames, put_well}

-- one more change
pub stays : (first : Ledger) → IsSound first → (made : Made) (earlier : List Made) → AreWellMade first (made ∷ earlier)
    → (slot : ℕ) (s : SlotFields) (c : Content)
    → (after_all first earlier).slot slot ≡ Some s → frame_named (after_all first earlier) s ≡ Ok c
    → frame_named (after_all first (made ∷ earlier)) s ≡ Ok c
stays first sound made earlier well slot s c at frame =
    let right = right_of first earlier well.1 in
    let same : after_those (λ n. true) first earlier ≡ after_all first earlier =
    those_are_all (λ n. true) first earlier (λ n less. refl) in
    let now : IsSound (after_those (λ n. true) first earlier) =
    sound_those (λ n. true) first earlier sound right (all_held first earlier) in
    subst (λ l. frame_named (after l made.change) s ≡ Ok c) same
    (frame_kept (λ n. true) first earlier right now made.change well.0.right
    (all_kept (λ k d. comes_after (after_all first earlier) made.change k d
    || same_record made.change d) first earlier) slot s
    (ap (λ l. l.slot slot) same ∙ at) c (ap (λ l. frame_named l s) same ∙ frame))

-- the changes before others are well made too
pub well_front : (first : Ledger) (names : List ℕ) (cs : List Change) (ms : List Made)
    → AreWellMade first (made_in_order names cs ms) → AreWellMade first ms
well_front first names [] ms well = well
well_front first names (c ∷ cs) ms well = (well_front first names cs (record { change = c; after = names } ∷ ms) well).1

-- the pieces of a put
pub stays_along : (first : Ledger) → IsSound first → (names : List ℕ) (e most offset : ℕ) (bytes : List ℕ)
    (ms : List Made) → AreWellMade first (made_in_order names (pieces_within most e offset bytes) ms)
    → (slot : ℕ) (s : SlotFields) (c : Content) → (after_all first ms).slot slot ≡ Some s
    → frame_named (after_all first ms) s ≡ Ok c
    → ((after_all first (made_in_order names (pieces_within most e offset bytes) ms)).slot slot ≡ Some s)
    × (frame_named (after_all first (made_in_order names (pieces_within most e offset bytes) ms)) s ≡ Ok c)
stays_along first sound names e zero offset bytes ms well slot s c at frame = (at, frame)
stays_along first sound names e (suc most) offset [] ms well slot s c at frame = (at, frame)
stays_along first sound names e (suc most) offset (byte ∷ bytes) ms well slot s c at frame =
    let piece : Made = record { change = Data e offset (take (4096 - offset % 4096) (byte ∷ bytes)); after = names } in
    let one : AreWellMade first (piece ∷ ms) = well_front first names
    (pieces_within most e (offset + (4096 - offset % 4096)) (drop (4096 - offset % 4096) (byte ∷ bytes)))
    (piece ∷ ms) well in
    stays_along first sound names e most (offset + (4096 - offset % 4096)) (drop (4096 - offset % 4096) (byte ∷ bytes))
    (piece ∷ ms) well slot s c at (stays first sound piece ms one slot s c at frame)

-- in an execution of a store
pub frames_stay : (run : Execution) (first : Ledger) (made : Made) (earlier : List Made) (slot : ℕ) (s : SlotFields)
    (c : Content) → IsOfStore run first (made ∷ earlier)
    → (after_all first earlier).slot slot ≡ Some s → frame_named (after_all first earlier) s ≡ Ok c
    → frame_named (after_all first (made ∷ earlier)) s ≡ Ok c
frames_stay run first made earlier slot s c store at frame =
    stays first (opened run.first first (λ b h. store.blocks b [] h) store.read).sound made earlier store.well_made slot
    s c at frame

-- a put of the content that the slot names is a move
pub puts_again : Frames → (run : Execution) (first : Ledger) (earlier : List Made) (put : Put) (s : SlotFields)
    → IsOfStore run first (slot_put first earlier put) → IsRightPut first earlier put
    → (after_all first earlier).slot put.slot ≡ Some s → frame_named (after_all first earlier) s ≡ Ok put.content
    → Moves (after_all first (pointer_put first earlier put)) (Fill put.slot (fields_put (after_all first earlier) put))
puts_again frames run first earlier put s store right at frame =
    let start = opened run.first first (λ b h. store.blocks b [] h) store.read in
    let well : AreWellMade first (pointer_put first earlier put) = store.well_made.1 in
    let before : AreWellMade first earlier = well_front first put.bytes_names
    (pieces_within (length (spelling put.content)) put.extent ((after_all first earlier).pointer put.extent).offset
    (spelling put.content)) earlier well.1 in
    let done = put_well frames first earlier put start.valid before right in
    let there = stays_along first start.sound put.bytes_names put.extent (length (spelling put.content))
    ((after_all first earlier).pointer put.extent).offset
    (spelling put.content) earlier well.1 put.slot s put.content at frame in
    (s, there.0, ap value_read done.frame ∙ sym (ap value_read there.1))
