-- A store that begins anew is one of the blocks as they were cached.
use Rattle.std.proofs.Common.{◌≡◌, ℕ, ◌+◌, ◌<◌, ◌∙◌, List, [], ◌++◌, length, map, take, drop, replicate, get_or, Result, Ok, Err, refl, sym, ap, subst, append-nil, arith}
use Rattle.std.specs.Prelude.{All, IfSome, Option, None, find, nat_le, ◌&&◌, slice_set}
use Rattle.std.specs.List.{range_with_len}
use Rattle.std.specs.Result.{result_map_both}
use Rattle.std.proofs.lemmas.List.{take_all, drop_all, get_or_default, length-map, length-replicate}
use Rattle.std.proofs.lemmas.List.Edits.{map_over_more}
use Rattle.std.proofs.lemmas.List.FromFn.{fill_by_all, get_or-map-range_with_len}
use Rattle.std.proofs.lemmas.Simd.{splat_is_map}
use Rattle.std.proofs.Math.ListN.{get_or-map}
use Rattle.std.proofs.Math.Seq.{take-append_seam}
use Rattle.patch_model.specs.Renewed.{cached_blocks, renewed}
use Rattle.patch_frame.specs.declared.geometries.Geometry.{Geometry}
use Rattle.patch_frame.specs.Field.{AreBytes}
use Rattle.patch_frame.specs.Frame.{Content}
use Rattle.patch_frame.specs.Geometry.{IsGeometry, slot_count, largest_pointer}
use Rattle.patch_frame.specs.Slot.{SlotFields}
use Rattle.patch_recovery.specs.Closed.{Opens}
use Rattle.patch_recovery.specs.Ledger.{Ledger, SaysSame, map_of, value_in}
use Rattle.patch_recovery.specs.Reading.{Fault}
use Rattle.patch_cache.specs.Meaning.{IsCacheOf}
use Rattle.patch_plans.specs.declared.records.Extent.{Extent}
use Rattle.patch_plans.specs.Extents.{Extents, no_extent}
use Rattle.patch_plans.specs.Groups.{no_groups}
use Rattle.patch_extent.specs.Renewing.{unpatched, unpatched_extent}
use Rattle.patch_history.specs.History.{History, execution_of, standing_of, ledger_of}
use Rattle.patch_history.specs.Laws.{HistoriesAreRead}
use Rattle.patch_history.specs.Shelf.{Shelf, opened, opened_extent, may_be_current}
use Rattle.patch_history.specs.ShelfLedger.{IsShelfOf, ShelvesAreKept}
use Rattle.patch_store.specs.Meaning.{Store, IsStoreOf}
use Rattle.patch_store.specs.Opening.{is_open}
use Rattle.patch_store.specs.Renewing.{shelf_on, renewed_shelf, MayBeginAnew, HasBegunAnew}
use Rattle.patch_store.proofs.Emptied.{none_left}
use Rattle.patch_store.proofs.Opened.{found_alike, shelf_with}
use Rattle.patch_store.proofs.Wholes.{IsWholeOn}

-- Lists that are cleared one after another.

abbrev nothing_in : List ℕ → List ℕ
nothing_in xs = []

-- the first ones have nothing in them, and the others are as they were
abbrev pub AreCleared : (i : ℕ) (old now : List (List ℕ)) → Type 0
AreCleared i old now = now ≡ map (λ _. []) (take i old) ++ drop i old

pub cleared_more : {V : Type 0} (items : V → List ℕ) (old : List (List ℕ)) (now : List V) (i : ℕ) (v : V) → i < length now → length (map items now) ≡ length old
    → items v ≡ [] → AreCleared i old (map items now) → AreCleared (i + 1) old (map items (slice_set now i v))
cleared_more items old now i v within long none so_far =
    let more = length-map now items in
    none_left items now i v none
    ∙ map_over_more nothing_in old (map items now) i (get_or (map items now) i []) (omega (arith, within, long, more)) so_far
    (get_or_default (map items now) i [] (get_or (map items now) i []) (omega (arith, within, more)))

pub cleared_all : (old now : List (List ℕ)) (i : ℕ) → i ≡ length old → AreCleared i old now → now ≡ replicate (length old) []
cleared_all old now i end so_far =
    so_far ∙ ap (λ xs. map nothing_in xs ++ drop i old) (take_all i old (omega (arith, end))) ∙ ap (λ xs. map nothing_in old ++ xs) (drop_all i old (omega (arith, end)))
    ∙ append-nil (map nothing_in old) ∙ sym (splat_is_map old (length old) [] refl)

-- all that is lent of a vector is cleared
pub lists_cleared : {V : Type 0} (items : V → List ℕ) (count many : ℕ) (lent new old : List V) → lent ≡ old → length lent ≡ count
    → map items new ≡ replicate (length lent) [] → length (map items old) ≡ many → map items (take count (new ++ drop (length new) old)) ≡ replicate many []
lists_cleared items count many lent new old same counted cleared long =
    let whole : length new ≡ count = sym (length-map new items) ∙ ap length cleared ∙ length-replicate (length lent) [] ∙ counted in
    ap (λ n. map items (take n (new ++ drop (length new) old))) (sym whole) ∙ ap (map items) (take-append_seam new (drop (length new) old))
    ∙ cleared ∙ ap (λ n. replicate n []) (ap length same ∙ sym (length-map old items) ∙ long)

-- The shelf.

-- its parts, as they are found one after another
pub shelf_is : (g : Geometry) (before extents : Extents) (slots : List (Option SlotFields)) (current : Option ℕ) (left : List (List ℕ)) → g ≡ before.geometry
    → extents ≡ unpatched before → current ≡ find (is_open extents) (range_with_len 0 g.extents) → left ≡ replicate g.extents []
    → shelf_with extents slots current left ≡ shelf_on (unpatched before) slots
shelf_is g before extents slots current left same now found cleared =
    let same_now : g ≡ extents.geometry = same ∙ sym (ap (λ (s : Extents). s.geometry) now) in
    ap (λ x. shelf_with extents slots x left) (found ∙ ap (λ (x : Geometry). find (is_open extents) (range_with_len 0 x.extents)) same_now)
    ∙ ap (shelf_with extents slots (find (is_open extents) (range_with_len 0 extents.geometry.extents))) (cleared ∙ ap (λ (x : Geometry). replicate x.extents []) same_now)
    ∙ ap (λ x. shelf_on x slots) now

-- it is whole
pub whole_anew : (g : Geometry) (s : Shelf) (extents : Extents) (current : Option ℕ) (left : List (List ℕ)) → IsWholeOn g s → extents ≡ unpatched s.extents
    → IfSome current (λ extent. extent < g.extents) → left ≡ replicate g.extents [] → IsWholeOn g (shelf_with extents s.slots current left)
whole_anew g s extents current left whole now known cleared =
    let kept : s.extents.geometry ≡ extents.geometry = sym (ap (λ (x : Extents). x.geometry) now) in
    let same : g ≡ extents.geometry = whole.0 ∙ kept in (
      same,
      record {
        geometry = subst IsGeometry kept whole.1.geometry;
        slots = whole.1.slots ∙ ap slot_count kept;
        left = ap length cleared ∙ length-replicate g.extents [] ∙ ap (λ (x : Geometry). x.extents) same;
        current = subst (λ (x : Geometry). IfSome current (λ extent. extent < x.extents)) same known;
      },
    )

abbrev divided_so : Geometry → List Extent → Extents
divided_so g each = record { geometry = g; each = each }

-- each extent is as at an opening
each_is : (s : Shelf) (says l : Ledger) → IsShelfOf s says → SaysSame l says
    → map unpatched_extent s.extents.each ≡ map (λ e. opened_extent (l.pointer e)) (range_with_len 0 l.geometry.extents)
each_is s says l kept same =
    let count = ap (λ (g : Geometry). g.extents) same.geometry in
    fill_by_all (λ e. opened_extent (l.pointer e)) (map unpatched_extent s.extents.each) l.geometry.extents no_extent
    (length-map s.extents.each unpatched_extent ∙ kept.extents ∙ sym count)
    (λ e less. get_or-map unpatched_extent s.extents.each e no_extent
    ∙ ap opened_extent (kept.pointer e (omega (arith, less, count)) ∙ sym (same.pointer e (omega (arith, less, count)))))

extents_are : (s : Shelf) (says l : Ledger) → IsShelfOf s says → SaysSame l says → unpatched s.extents ≡ (opened l).extents
extents_are s says l kept same =
    ap (λ each. divided_so s.extents.geometry each) (each_is s says l kept same) ∙ ap (λ g. divided_so g (opened l).extents.each) (kept.geometry ∙ sym same.geometry)

slots_are : (s : Shelf) (says l : Ledger) → IsShelfOf s says → SaysSame l says → s.slots ≡ (opened l).slots
slots_are s says l kept same =
    let count = ap slot_count same.geometry in
    fill_by_all l.slot s.slots (slot_count l.geometry) None (kept.slots ∙ sym count) (λ k less. kept.slot k (omega (arith, less, count)) ∙ sym (same.slot k))

-- the current extent is that of an opening
current_is : (l : Ledger) → find (is_open (opened l).extents) (range_with_len 0 l.geometry.extents) ≡ (opened l).current
current_is l = found_alike (is_open (opened l).extents) (may_be_current l) 0 l.geometry.extents (λ e low high.
    ap (λ (k : Extent). nat_le 1 k.pointer.offset && nat_le (k.pointer.offset + 17) (largest_pointer l.geometry.format))
    (get_or-map-range_with_len (λ k. opened_extent (l.pointer k)) 0 l.geometry.extents e e no_extent (omega (arith, high)) (omega arith)))

shelf_anew : (s : Shelf) (says l : Ledger) → IsShelfOf s says → SaysSame l says → renewed_shelf s ≡ opened l
shelf_anew s says l kept same =
    ap (λ extents. shelf_on extents s.slots) (extents_are s says l kept same) ∙ ap (shelf_on (opened l).extents) (slots_are s says l kept same)
    ∙ ap (λ current. record (opened l) { current = current }) (current_is l)

-- The map.

abbrev read_as : Result (List Content) Fault → List Content
read_as (Ok map) = map
read_as (Err fault) = []

same_map : (disk : List (List ℕ)) (says : Ledger) (value : List ℕ → Option (List ℕ)) (opens : Opens disk says value) → map_of opens.l ≡ map_of says
same_map disk says value opens = ap read_as (sym (ap (result_map_both map_of (λ fault. fault)) opens.read) ∙ opens.map)

-- The store.
pub begun_anew : HistoriesAreRead → ShelvesAreKept → (h : History) (old new : Store) → IsStoreOf old h → MayBeginAnew h
    → IsCacheOf new.cache (renewed (execution_of h)) → All AreBytes (cached_blocks (execution_of h)) → new.groups ≡ no_groups
    → new.shelf ≡ renewed_shelf old.shelf → new.left_out ≡ 0 → HasBegunAnew h new
begun_anew read kept h old new was may cache bytes groups shelf left_out =
    let opens = read h was.legal in
    let standing = standing_of h in
    record {
      may = may;
      ledger = opens.l;
      reads = opens.read;
      represents = record {
        legal = record { bytes = bytes; reads = opens.read; legal = cache.legal; right = tt };
        cache_is = cache;
        groups_are = groups;
        shelf_is = shelf ∙ ap renewed_shelf was.shelf_is ∙ shelf_anew standing.shelf (ledger_of h) opens.l (kept h) opens.same;
        left_out_is = left_out;
      };
      stays = opens.same;
      values = λ key. ap (λ entries. value_in entries key) (same_map _ _ _ opens) ∙ opens.tells key;
    }
