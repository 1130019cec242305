-- What is reported of slots is the map.
use Rattle.std.proofs.Common.{◌≡◌, ℕ, zero, suc, ◌+◌, ◌-◌, ◌<◌, ◌≤◌, ◌∙◌, List, [], ◌∷◌, ◌++◌, length, map, get_or, refl, sym, ap, arith}
use Rattle.std.specs.Prelude.{Option, Some, None, flat_map, slice_get}
use Rattle.std.specs.List.{range_with_len}
use Rattle.std.proofs.lemmas.List.{map-append, length-map}
use Rattle.std.proofs.lemmas.List.FromFn.{length-range_with_len, get_or-map-range_with_len}
use Rattle.std.proofs.lemmas.Option.{slice_get-get_or, slice_get_past}
use Rattle.patch_frame.specs.Geometry.{slot_count}
use Rattle.patch_frame.specs.Slot.{SlotFields}
use Rattle.patch_recovery.specs.Ledger.{Ledger, entry_of, entry_read}
use Rattle.patch_recovery.specs.Right.{IsNamed}
use Rattle.patch_history.specs.History.{History, standing_of, ledger_of}
use Rattle.patch_history.specs.ShelfLedger.{ShelvesAreKept}
use Rattle.patch_history.specs.Laws.{HistoriesAreRead}
use Rattle.patch_history.specs.Shelf.{Shelf}
use Rattle.patch_index.specs.Reporting.{of_slots}
use Rattle.patch_store.specs.Checking.{of_content, extent_report, extent_reports, ListsMap}
use Rattle.patch_store.specs.Meaning.{Store, IsStoreOf}

-- what the slots tell is what the map has
abbrev AreNamed : Ledger → Type 0
AreNamed l = (slot : ℕ) (f : SlotFields) → l.slot slot ≡ Some f → IsNamed l f

one_told : (l : Ledger) (o : Option SlotFields) → ((f : SlotFields) → o ≡ Some f → IsNamed l f) → of_slots (o ∷ []) ≡ map of_content (entry_of l o)
one_told l None named = refl
one_told l (Some f) named =
    let is = named f refl in
    let c = is.content in
    let long : 16 + length c.key + length c.value ≡ f.length = is.length in
    let n : length c.key ≡ length f.key = ap length is.key in
    let value : length c.value ≡ f.length - 16 - length f.key = omega (arith, long, n) in
    ap (λ k. (k, f.length - 16 - length f.key) ∷ []) (sym is.key) ∙ ap (λ v. (c.key, v) ∷ []) (sym value)
    ∙ ap (λ r. map of_content (entry_read r)) (sym is.frame)

told_from : (l : Ledger) → AreNamed l → (start count : ℕ) → of_slots (map l.slot (range_with_len start count)) ≡ map of_content (flat_map (λ s. entry_of l (l.slot s)) (range_with_len start count))
told_from l named start zero = refl
told_from l named start (suc count) =
    first_told (l.slot start) (map l.slot (range_with_len (start + 1) count))
    ∙ ap (λ es. es ++ of_slots (map l.slot (range_with_len (start + 1) count))) (one_told l (l.slot start) (named start))
    ∙ ap (λ es. map of_content (entry_of l (l.slot start)) ++ es) (told_from l named (start + 1) count)
    ∙ sym (map-append of_content (entry_of l (l.slot start)) (flat_map (λ s. entry_of l (l.slot s)) (range_with_len (start + 1) count)))
  where
    first_told : (o : Option SlotFields) (slots : List (Option SlotFields)) → of_slots (o ∷ slots) ≡ of_slots (o ∷ []) ++ of_slots slots
    first_told None slots = refl
    first_told (Some f) slots = refl

-- the slots of a list, by their places
slots_are : (l : Ledger) (slots : List (Option SlotFields)) (start : ℕ) → ((i : ℕ) → i < length slots → get_or slots i None ≡ l.slot (start + i))
    → slots ≡ map l.slot (range_with_len start (length slots))
slots_are l [] start each = refl
slots_are l (o ∷ slots) start each =
    ap (λ x. x ∷ slots) (each 0 (omega arith) ∙ ap l.slot (omega arith))
    ∙ ap (λ xs. l.slot start ∷ xs) (slots_are l slots (start + 1) (λ i less. each (suc i) (omega (arith, less)) ∙ ap l.slot (omega arith)))

pub listed_so : ShelvesAreKept → HistoriesAreRead → (h : History) (s : Store) → IsStoreOf s h → (entries : List (List ℕ × ℕ)) → entries ≡ of_slots s.shelf.slots
    → ListsMap h entries
listed_so kept reads h s was entries is =
    let l = ledger_of h in
    let shelf = kept h in
    let opens = reads h was.legal in
    let slots = (standing_of h).shelf.slots in
    let long : length slots ≡ slot_count l.geometry = shelf.slots in
    record {
      listed =
          is ∙ ap (λ (x : Shelf). of_slots x.slots) was.shelf_is
          ∙ ap of_slots (slots_are l slots 0 (λ i less. shelf.slot i (omega (arith, less, long)) ∙ ap l.slot (omega arith)))
          ∙ ap (λ n. of_slots (map l.slot (range_with_len 0 n))) long ∙ told_from l opens.sound.named 0 (slot_count l.geometry);
      said = opens.tells;
    }

pub range_more : (a n : ℕ) → range_with_len a (suc n) ≡ range_with_len a n ++ (a + n) ∷ []
range_more a zero = ap (λ k. k ∷ []) (let e : a ≡ a + zero = omega arith in e)
range_more a (suc n) = ap (λ xs. a ∷ xs) (range_more (a + 1) n ∙ ap (λ k. range_with_len (a + 1) n ++ k ∷ []) (let e : a + 1 + n ≡ a + suc n = omega arith in e))

-- one extent more
pub more_extents : {X : Type 0} (f : ℕ → X) (n : ℕ) → map f (range_with_len 0 (n + 1)) ≡ map f (range_with_len 0 n) ++ f n ∷ []
more_extents f n =
    ap (λ k. map f (range_with_len 0 k)) (let e : n + 1 ≡ suc n = omega arith in e) ∙ ap (map f) (range_more 0 n)
    ∙ map-append f (range_with_len 0 n) ((0 + n) ∷ []) ∙ ap (λ k. map f (range_with_len 0 n) ++ f k ∷ []) (let e : 0 + n ≡ n = omega arith in e)

-- an extent among those that are reported, and what is behind the last one
pub extent_told : (s : Shelf) (extent : ℕ) → extent < s.extents.geometry.extents → slice_get (extent_reports s) extent ≡ Some (extent_report s extent)
extent_told s extent less =
    let count = s.extents.geometry.extents in
    let told = extent_report s in
    let long : length (extent_reports s) ≡ count = length-map (range_with_len 0 count) told ∙ length-range_with_len 0 count in
    slice_get-get_or (extent_reports s) extent (told extent) (omega (arith, less, long))
    ∙ ap (λ e. Some e) (get_or-map-range_with_len told 0 count extent extent (told extent) less (omega arith))

pub no_extent_told : (s : Shelf) (extent : ℕ) → s.extents.geometry.extents ≤ extent → slice_get (extent_reports s) extent ≡ None
no_extent_told s extent past =
    let count = s.extents.geometry.extents in
    let long : length (extent_reports s) ≡ count = length-map (range_with_len 0 count) (extent_report s) ∙ length-range_with_len 0 count in
    slice_get_past (extent_reports s) extent (omega (arith, past, long))
