-- The numbers that a shelf keeps are the newest of their kinds.
use Rattle.std.proofs.Common.{◌≡◌, ◌≢◌, ◌<◌, ◌⊎◌, ◌+◌, ℕ, suc, List, [], ◌∷◌, ◌++◌, length, refl, sym, ap, ◌∙◌, arith}
use Rattle.std.proofs.Common.{inl, inr, subst}
use Rattle.std.proofs.lemmas.Bool.{cases_Bool}
use Rattle.std.proofs.lemmas.Bool.Decides.{nat_tests}
use Rattle.std.proofs.lemmas.List.{length-set, length-append, length-replicate, get_or-set_same, get_or-set_other}
use Rattle.std.proofs.lemmas.List.Folds.{list_any-append}
use Rattle.std.proofs.lemmas.List.FromFn.{get_or-map-range_with_len}
use Rattle.std.specs.Prelude.{true, false, ◌==◌, ◌&&◌, if◌then◌else◌, fold, Some, None, Option, take, IfSome, slice_set}
use Rattle.std.specs.Prelude.{slice_index_or}
use Rattle.std.specs.List.{list_any}
use Rattle.patch_model.specs.Entry.{is_among}
use Rattle.patch_frame.specs.Geometry.{slot_count}
use Rattle.patch_frame.specs.Slot.{SlotFields}
use Rattle.patch_recovery.specs.Change.{Change, Data, Point, Fill, Clear, Widen, Made}
use Rattle.patch_recovery.specs.Ledger.{Ledger, after, after_all}
use Rattle.patch_recovery.specs.Orders.{StandsIn, is_reset, takes_from, names_extent}
use Rattle.patch_recovery.specs.Naming.{newest, is_point}
use Rattle.patch_plans.specs.Extents.{no_extent, extent_at, pointed}
use Rattle.patch_history.specs.Shelf.{Shelf, slot_at, left_of, leaving, opened, opened_extent, after_change, after_plan}
use Rattle.patch_history.specs.StoreState.{creates, Standing, onto, at_opening, made_by, plan_of}
use Rattle.patch_history.specs.History.{History, Event, Call, Moved, after_event, standing_of}
use Rattle.patch_history.specs.ShelfLedger.{IsShelfOf, IsInIndex, KeepsNewest}
use Rattle.patch_history.proofs.Shelving.{after_change_is, opened_is}

pub equal : (a b : ℕ) → (a == b) ≡ true → a ≡ b
equal a b t = grind (arith, nat_tests)

pub unequal : (a b : ℕ) → (a == b) ≡ false → a ≢ b
unequal a b t = grind (arith, nat_tests)

same_test : (n : ℕ) → (n == n) ≡ true
same_test n = grind (arith, nat_tests)

-- One of some changes is the newest, or stands among the earlier ones.

abbrev tail_of : {X : Type 0} → List X → List X
tail_of [] = []
tail_of (x ∷ xs) = xs

abbrev head_or : {X : Type 0} → X → List X → X
head_or d [] = d
head_or d (x ∷ xs) = x

split : (m : Made) (earlier : List Made) (other : Made) (before : List Made) → StandsIn (m ∷ earlier) other before
    → ((m ≡ other) × (earlier ≡ before)) ⊎ StandsIn earlier other before
split m earlier other before h = go h.later h.are
  where
    go : (later : List Made) → m ∷ earlier ≡ later ++ other ∷ before
        → ((m ≡ other) × (earlier ≡ before)) ⊎ StandsIn earlier other before
    go [] e = inl (ap (head_or m) e, ap tail_of e)
    go (x ∷ later) e = inr (record { later = later; are = ap tail_of e })

pub shorter : (all : List Made) (other : Made) (before : List Made) → StandsIn all other before
    → length before < length all
shorter all other before h =
    let e : length all ≡ length h.later + length (other ∷ before) =
    ap length h.are ∙ length-append h.later (other ∷ before) in
    let f : length (other ∷ before) ≡ suc (length before) = refl in
    omega (arith, e, f)

-- What leaves an extent.

among-push : (xs : List ℕ) (n : ℕ) → is_among (xs ++ n ∷ []) n ≡ true
among-push xs n =
    list_any-append (λ m. m == n) xs (n ∷ [])
    ∙ (elim (cases_Bool (list_any (λ m. m == n) xs)) [ inl t ↦ rw t refl | inr t ↦ rw (t, same_test n) refl ])

among-more : (xs : List ℕ) (n k : ℕ) → is_among xs k ≡ true → is_among (xs ++ n ∷ []) k ≡ true
among-more xs n k t = list_any-append (λ m. m == k) xs (n ∷ []) ∙ rw t refl

leaves_new : (left : List (List ℕ)) (e n : ℕ) (o : Option SlotFields) → e < length left → names_extent e o ≡ true
    → is_among (slice_index_or (leaving left n o) e []) n ≡ true
leaves_new left e n None h t = absurd (cc)
leaves_new left e n (Some f) h t =
    let same : e ≡ f.extent = equal e f.extent t in
    let at = get_or-set_same left f.extent (slice_index_or left f.extent [] ++ n ∷ []) [] (omega (arith, h, same)) in
    rw (same, at) (among-push (slice_index_or left f.extent []) n)

leaves_old : (left : List (List ℕ)) (e n k : ℕ) (o : Option SlotFields) → e < length left
    → is_among (slice_index_or left e []) k ≡ true → is_among (slice_index_or (leaving left n o) e []) k ≡ true
leaves_old left e n k None h t = t
leaves_old left e n k (Some f) h t = elim (cases_Bool (e == f.extent)) [
  | inl u ↦ (let same : e ≡ f.extent = equal e f.extent u in
      let at = get_or-set_same left f.extent (slice_index_or left f.extent [] ++ n ∷ []) [] (omega (arith, h, same)) in
      ap (λ i. is_among (slice_index_or (slice_set left f.extent (slice_index_or left f.extent [] ++ n ∷ [])) i []) k) same
      ∙ ap (λ xs. is_among xs k) at
      ∙ among-more (slice_index_or left f.extent []) n k
      (ap (λ i. is_among (slice_index_or left i []) k) (sym same) ∙ t))
  | inr u ↦ ap (λ xs. is_among xs k) (get_or-set_other left f.extent e (slice_index_or left f.extent [] ++ n ∷ []) [] (unequal e f.extent u)) ∙ t
]

length-leaving : (left : List (List ℕ)) (n : ℕ) (o : Option SlotFields) → length (leaving left n o) ≡ length left
length-leaving left n None = refl
length-leaving left n (Some f) = length-set left f.extent (slice_index_or left f.extent [] ++ n ∷ [])

-- The geometry's counts stay.

after-extents : (l : Ledger) (c : Change) → (after l c).geometry.extents ≡ l.geometry.extents
after-extents l (Data extent offset bytes) = refl
after-extents l (Point extent generation offset) = refl
after-extents l (Fill slot fields) = refl
after-extents l (Clear slot) = refl
after-extents l Widen = refl

after-slots : (l : Ledger) (c : Change) → slot_count (after l c).geometry ≡ slot_count l.geometry
after-slots l (Data extent offset bytes) = refl
after-slots l (Point extent generation offset) = refl
after-slots l (Fill slot fields) = refl
after-slots l (Clear slot) = refl
after-slots l Widen = refl

-- The shelf is that of the changes, and keeps the newest.
pub record Holds (s : Shelf) (first : Ledger) (made : List Made) : Type 0 where
  pub shelf : IsShelfOf s (after_all first made)
  pub left : length s.left ≡ first.geometry.extents
  pub extents : (after_all first made).geometry.extents ≡ first.geometry.extents
  pub slots : slot_count (after_all first made).geometry ≡ slot_count first.geometry
  pub newest : KeepsNewest s first made

-- Each kind of change.

-- what a change takes is taken by whatever it is equal to
newest_takes : (first : Ledger) (m other : Made) (made before : List Made) (e : ℕ) → m ≡ other → made ≡ before
    → takes_from e (after_all first before) other.change ≡ true → takes_from e (after_all first made) m.change ≡ true
newest_takes first m other made before e mo eb t =
    ap (λ x. takes_from e (after_all first made) x.change) mo
    ∙ ap (λ b. takes_from e (after_all first b) other.change) eb ∙ t

-- a change that takes nothing isn't the one
keeps_old : (s : Shelf) (first : Ledger) (made : List Made) (m : Made) → Holds s first made
    → ((e : ℕ) → takes_from e (after_all first made) m.change ≡ false)
    → (e : ℕ) → e < first.geometry.extents → (other : Made) (before : List Made) → StandsIn (m ∷ made) other before
    → IsInIndex (slot_count first.geometry) other.change → takes_from e (after_all first before) other.change ≡ true
    → IfSome (newest (is_reset e) made) (λ n. n < length before)
    → is_among (left_of s e) (length before) ≡ true
keeps_old s first made m holds none e h other before stands inside t i = elim (split m made other before stands) [
  | inl both ↦ (let u : false ≡ true = sym (none e) ∙ newest_takes first m other made before e both.0 both.1 t in absurd (cc))
  | inr old ↦ holds.newest.left e h other before old inside t i
]

keeps_data : (s : Shelf) (first : Ledger) (made : List Made) (extent offset : ℕ) (bytes after : List ℕ)
    → Holds s first made
    → KeepsNewest (after_change s (length made) (Data extent offset bytes)) first (record { change = Data extent offset bytes; after = after } ∷ made)
keeps_data s first made extent offset bytes after holds = record {
  last_delete = holds.newest.last_delete;
  upgrade = holds.newest.upgrade;
  reset = holds.newest.reset;
  point = holds.newest.point;
  left = keeps_old s first made (record { change = Data extent offset bytes; after = after }) holds (λ e. refl);
}

keeps_widen : (s : Shelf) (first : Ledger) (made : List Made) (after : List ℕ) → Holds s first made
    → KeepsNewest (after_change s (length made) Widen) first (record { change = Widen; after = after } ∷ made)
keeps_widen s first made after holds = record {
  last_delete = holds.newest.last_delete;
  upgrade = refl;
  reset = holds.newest.reset;
  point = holds.newest.point;
  left = keeps_old s first made (record { change = Widen; after = after }) holds (λ e. refl);
}

-- a slot that named the extent
newest_left : (s : Shelf) (first : Ledger) (made : List Made) (e slot : ℕ) → Holds s first made
    → e < first.geometry.extents → slot < slot_count first.geometry
    → names_extent e ((after_all first made).slot slot) ≡ true
    → is_among (slice_index_or (leaving s.left (length made) (slot_at s slot)) e []) (length made) ≡ true
newest_left s first made e slot holds h k t =
    let l = holds.left in let c = holds.slots in
    leaves_new s.left e (length made) (slot_at s slot) (omega (arith, h, l)) (ap (names_extent e) (holds.shelf.slot slot (omega (arith, k, c))) ∙ t)

keeps_slot : (s : Shelf) (first : Ledger) (made : List Made) (m : Made) (slot : ℕ) → Holds s first made
    → ((e : ℕ) → takes_from e (after_all first made) m.change ≡ names_extent e ((after_all first made).slot slot))
    → (IsInIndex (slot_count first.geometry) m.change → slot < slot_count first.geometry)
    → (e : ℕ) → e < first.geometry.extents → (other : Made) (before : List Made) → StandsIn (m ∷ made) other before
    → IsInIndex (slot_count first.geometry) other.change → takes_from e (after_all first before) other.change ≡ true
    → IfSome (newest (is_reset e) made) (λ n. n < length before)
    → is_among (slice_index_or (leaving s.left (length made) (slot_at s slot)) e []) (length before) ≡ true
keeps_slot s first made m slot holds takes inside_m e h other before stands inside t i =
    elim (split m made other before stands) [
      | inl both ↦ (let u = sym (takes e) ∙ newest_takes first m other made before e both.0 both.1 t in
          let k = inside_m (subst (λ x. IsInIndex (slot_count first.geometry) x.change) (sym both.0) inside) in
          ap (λ b. is_among (slice_index_or (leaving s.left (length made) (slot_at s slot)) e []) (length b)) (sym both.1)
          ∙ newest_left s first made e slot holds h k u)
      | inr old ↦ (let l = holds.left in leaves_old s.left e (length made) (length before) (slot_at s slot) (omega (arith, h, l)) (holds.newest.left e h other before old inside t i))
    ]

keeps_fill : (s : Shelf) (first : Ledger) (made : List Made) (slot : ℕ) (fields : SlotFields) (after : List ℕ)
    → Holds s first made
    → KeepsNewest (after_change s (length made) (Fill slot fields)) first (record { change = Fill slot fields; after = after } ∷ made)
keeps_fill s first made slot fields after holds = record {
  last_delete = holds.newest.last_delete;
  upgrade = holds.newest.upgrade;
  reset = holds.newest.reset;
  point = holds.newest.point;
  left = keeps_slot s first made (record { change = Fill slot fields; after = after }) slot holds (λ e. refl) (λ k. k);
}

keeps_clear : (s : Shelf) (first : Ledger) (made : List Made) (slot : ℕ) (after : List ℕ) → Holds s first made
    → KeepsNewest (after_change s (length made) (Clear slot)) first (record { change = Clear slot; after = after } ∷ made)
keeps_clear s first made slot after holds = record {
  last_delete = refl;
  upgrade = holds.newest.upgrade;
  reset = holds.newest.reset;
  point = holds.newest.point;
  left = keeps_slot s first made (record { change = Clear slot; after = after }) slot holds (λ e. refl) (λ k. k);
}

-- the count of the extents kept
counted : (s : Shelf) (first : Ledger) (made : List Made) (e : ℕ) → Holds s first made → e < first.geometry.extents
    → e < length s.extents.each
counted s first made e holds h = let a = holds.shelf.extents in let b = holds.extents in omega (arith, h, a, b)

point_reset : (s : Shelf) (first : Ledger) (made : List Made) (at generation offset : ℕ) → Holds s first made
    → (e : ℕ) → e < first.geometry.extents
    → (extent_at (after_change s (length made) (Point at generation offset)).extents e).reset ≡ (if (e == at) && (offset == 0) then Some (length made) else newest (is_reset e) made)
point_reset s first made at generation offset holds e h =
    let new = pointed (length made) generation offset (extent_at s.extents at) in
    elim (cases_Bool (e == at)) [
      | inl t ↦ (let same : e ≡ at = equal e at t in
          let there =
          get_or-set_same s.extents.each at new no_extent
          (let k = counted s first made e holds h in omega (arith, k, same)) in
          ap (λ i. (extent_at (after_change s (length made) (Point at generation offset)).extents i).reset) same
          ∙ ap (λ k. k.reset) there ∙ elim (cases_Bool (offset == 0)) [
            | inl u ↦ rw (t, u) refl
            | inr u ↦ rw (t, u) (ap (λ i. (extent_at s.extents i).reset) (sym same) ∙ holds.newest.reset e h)
          ])
      | inr t ↦ ap (λ k. k.reset) (get_or-set_other s.extents.each at e new no_extent (unequal e at t)) ∙ (rw t (holds.newest.reset e h))
    ]

point_point : (s : Shelf) (first : Ledger) (made : List Made) (at generation offset : ℕ) → Holds s first made
    → (e : ℕ) → e < first.geometry.extents
    → (extent_at (after_change s (length made) (Point at generation offset)).extents e).point ≡ (if e == at then Some (length made) else newest (is_point e) made)
point_point s first made at generation offset holds e h =
    let new = pointed (length made) generation offset (extent_at s.extents at) in
    elim (cases_Bool (e == at)) [
      | inl t ↦ (let same : e ≡ at = equal e at t in
          let there =
          get_or-set_same s.extents.each at new no_extent
          (let k = counted s first made e holds h in omega (arith, k, same)) in
          ap (λ i. (extent_at (after_change s (length made) (Point at generation offset)).extents i).point) same
          ∙ ap (λ k. k.point) there ∙ rw t refl)
      | inr t ↦ ap (λ k. k.point) (get_or-set_other s.extents.each at e new no_extent (unequal e at t)) ∙ (rw t (holds.newest.point e h))
    ]

-- what left other extents stays, and an extent that is set back has none from before
point_left : (s : Shelf) (first : Ledger) (made : List Made) (at generation offset : ℕ) (after : List ℕ)
    → Holds s first made
    → (e : ℕ) → e < first.geometry.extents → (other : Made) (before : List Made)
    → StandsIn (record { change = Point at generation offset; after = after } ∷ made) other before
    → IsInIndex (slot_count first.geometry) other.change → takes_from e (after_all first before) other.change ≡ true
    → IfSome (if (e == at) && (offset == 0) then Some (length made) else newest (is_reset e) made) (λ n. n < length before)
    → is_among (slice_index_or (if offset == 0 then slice_set s.left at [] else s.left) e []) (length before) ≡ true
point_left s first made at generation offset after holds e h other before stands inside t i =
    let m : Made = record { change = Point at generation offset; after = after } in
    elim (split m made other before stands) [
      | inl both ↦ (let u : false ≡ true = newest_takes first m other made before e both.0 both.1 t in absurd (cc))
      | inr old ↦ elim (cases_Bool (offset == 0)) [
        | inl u ↦ elim (cases_Bool (e == at)) [
          | inl v ↦ (
              let late : length made < length before = rw (v, u) at i in
              let low = shorter made other before old in absurd (omega (arith, late, low)))
          | inr v ↦ (let j : IfSome (newest (is_reset e) made) (λ n. n < length before) = rw v at i in
              rw u (ap (λ xs. is_among xs (length before)) (get_or-set_other s.left at e [] [] (unequal e at v)) ∙ holds.newest.left e h other before old inside t j))
        ]
        | inr u ↦ elim (cases_Bool (e == at)) [
          | inl v ↦ (let j : IfSome (newest (is_reset e) made) (λ n. n < length before) = rw (v, u) at i in rw u (holds.newest.left e h other before old inside t j))
          | inr v ↦ (let j : IfSome (newest (is_reset e) made) (λ n. n < length before) = rw v at i in rw u (holds.newest.left e h other before old inside t j))
        ]
      ]
    ]

keeps_point : (s : Shelf) (first : Ledger) (made : List Made) (at generation offset : ℕ) (after : List ℕ)
    → Holds s first made
    → KeepsNewest (after_change s (length made) (Point at generation offset)) first (record { change = Point at generation offset; after = after } ∷ made)
keeps_point s first made at generation offset after holds = record {
  last_delete = holds.newest.last_delete;
  upgrade = holds.newest.upgrade;
  reset = point_reset s first made at generation offset holds;
  point = point_point s first made at generation offset holds;
  left = point_left s first made at generation offset after holds;
}

keeps : (s : Shelf) (first : Ledger) (made : List Made) (c : Change) (after : List ℕ) → Holds s first made
    → KeepsNewest (after_change s (length made) c) first (record { change = c; after = after } ∷ made)
keeps s first made (Data extent offset bytes) after holds = keeps_data s first made extent offset bytes after holds
keeps s first made (Point extent generation offset) after holds =
    keeps_point s first made extent generation offset after holds
keeps s first made (Fill slot fields) after holds = keeps_fill s first made slot fields after holds
keeps s first made (Clear slot) after holds = keeps_clear s first made slot after holds
keeps s first made Widen after holds = keeps_widen s first made after holds

length-left : (s : Shelf) (n : ℕ) (c : Change) → length (after_change s n c).left ≡ length s.left
length-left s n (Data extent offset bytes) = refl
length-left s n (Point extent generation offset) =
    elim (cases_Bool (offset == 0)) [ inl u ↦ rw u (length-set s.left extent []) | inr u ↦ rw u refl ]
length-left s n (Fill slot fields) = length-leaving s.left n (slot_at s slot)
length-left s n (Clear slot) = length-leaving s.left n (slot_at s slot)
length-left s n Widen = refl

pub holds-change : (s : Shelf) (first : Ledger) (made : List Made) (n : ℕ) (m : Made) → n ≡ length made
    → Holds s first made → Holds (after_change s n m.change) first (m ∷ made)
holds-change s first made n m e holds = rw e (record {
  shelf = after_change_is s (after_all first made) (length made) m.change holds.shelf;
  left = length-left s (length made) m.change ∙ holds.left;
  extents = after-extents (after_all first made) m.change ∙ holds.extents;
  slots = after-slots (after_all first made) m.change ∙ holds.slots;
  newest = keeps s first made m.change m.after holds;
})

pub holds-plan : (first : Ledger) (s : Shelf) (n : ℕ) (plan made : List Made) → n ≡ length made → Holds s first made
    → Holds (after_plan s n plan) first (onto plan made)
holds-plan first s n [] made e holds = holds
holds-plan first s n (m ∷ plan) made e holds =
    let next : n + 1 ≡ length (m ∷ made) = omega (arith, e) in
    holds-plan first (after_change s n m.change) (n + 1) plan (m ∷ made) next (holds-change s first made n m e holds)

holds-event : (first : Ledger) (st : Standing) (event : Event) → Holds st.shelf first st.made
    → Holds (after_event st event).shelf first (after_event st event).made
holds-event first st (Call writer command reply steps) holds =
    holds-plan first st.shelf (made_by st) (take (creates steps) (plan_of st writer command)) st.made refl holds
holds-event first st (Moved step) holds = holds

holds-events : (first : Ledger) (st : Standing) (events : List Event) → Holds st.shelf first st.made
    → Holds (fold after_event st events).shelf first (fold after_event st events).made
holds-events first st [] holds = holds
holds-events first st (event ∷ events) holds =
    holds-events first (after_event st event) events (holds-event first st event holds)

none_stands : (other : Made) (before : List Made) → StandsIn [] other before → ⊥
none_stands other before h =
    let e : 0 ≡ length h.later + length (other ∷ before) = ap length h.are ∙ length-append h.later (other ∷ before) in
    let f : length (other ∷ before) ≡ suc (length before) = refl in
    omega (arith, e, f)

pub holds-opened : (l : Ledger) → Holds (opened l) l []
holds-opened l = record {
  shelf = opened_is l;
  left = length-replicate l.geometry.extents [];
  extents = refl;
  slots = refl;
  newest = record {
    last_delete = refl;
    upgrade = refl;
    reset =
        λ e h. ap (λ k. k.reset)
        (get_or-map-range_with_len (λ e. opened_extent (l.pointer e)) 0 l.geometry.extents e e no_extent h (omega arith));
    point =
        λ e h. ap (λ k. k.point)
        (get_or-map-range_with_len (λ e. opened_extent (l.pointer e)) 0 l.geometry.extents e e no_extent h (omega arith));
    left = λ e h other before stands inside t i. absurd (none_stands other before stands);
  };
}

pub newest_are_kept : (h : History) → KeepsNewest (standing_of h).shelf h.first (standing_of h).made
newest_are_kept h = (holds-events h.first (at_opening h.opening h.first) h.events (holds-opened h.first)).newest
