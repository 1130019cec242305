-- A frame's plan is a put: its changes are well made.
use Rattle.std.proofs.Common.{◌≡◌, ◌≢◌, ℕ, zero, suc, ◌+◌, ◌-◌, ◌%◌, ◌<◌, ◌≤◌, ◌∙◌, inl, inr, Bool, true, false, List}
use Rattle.std.proofs.Common.{[], ◌∷◌}
use Rattle.std.proofs.Common.{◌++◌, length, map, Option, Some, None, refl, sym, ap, arith, subst}
use Rattle.std.specs.Prelude.{take, drop, ◌==◌, ◌||◌, if◌then◌else◌, IfSome, IsTrue, option_to_list, is_none}
use Rattle.std.specs.List.{range_with_len}
use Rattle.std.proofs.lemmas.Bool.{cases_Bool}
use Rattle.std.proofs.lemmas.Bool.Decides.{nat_tests}
use Rattle.std.proofs.lemmas.List.{length-map}
use Rattle.std.proofs.lemmas.List.Folds.{list_any-append}
use Rattle.std.proofs.lemmas.List.FromFn.{length-range_with_len}
use Rattle.patch_model.specs.Entry.{is_among}
use Rattle.patch_frame.specs.declared.pointers.Pointer.{Pointer}
use Rattle.patch_frame.specs.Geometry.{IsGeometry, slot_count, largest_pointer, value_limit}
use Rattle.patch_frame.specs.Slot.{SlotFields}
use Rattle.patch_frame.specs.Frame.{Content, Fits, spelling, length_of}
use Rattle.patch_recovery.specs.Change.{Change, Data, Point, Fill, Made}
use Rattle.patch_recovery.specs.Ledger.{Ledger, after_all}
use Rattle.patch_recovery.specs.Putting.{pieces_within, pieces, made_in_order, Put, fields_put, bytes_put, slot_put}
use Rattle.patch_recovery.specs.Putting.{IsRightPut, IsPutWell}
use Rattle.patch_history.specs.LawsBelow.{Given}
use Rattle.patch_plans.specs.Extents.{extent_at, generation_at, offset_at}
use Rattle.patch_plans.specs.Planning.{touched, part, parts}
use Rattle.patch_history.specs.Planning.{frame_plan, fill_plan}
use Rattle.patch_history.specs.Shelf.{Shelf, slot_at}
use Rattle.patch_history.specs.StoreState.{onto}
use Rattle.patch_history.proofs.Going.{Good, onto-++}
use Rattle.patch_history.proofs.Parts.{named, parts_are_pieces}

-- the frame's put
abbrev pub put_of : Shelf → (n extent slot : ℕ) → Content → Put
put_of s n extent slot c = record {
  slot = slot;
  content = c;
  extent = extent;
  bytes_names = option_to_list (extent_at s.extents extent).reset;
  pointer_names = range_with_len n (touched (offset_at s.extents extent) (length (spelling c)));
  slot_names = (fill_plan s n extent slot c).after;
}

made_parts : (names : List ℕ) (cs : List Change) (made : List Made)
    → onto (map (named names) cs) made ≡ made_in_order names cs made
made_parts names [] made = refl
made_parts names (c ∷ cs) made = made_parts names cs (record { change = c; after = names } ∷ made)

-- the changes of a put whose pieces are these, at an extent whose pointer is this
abbrev built : (p : Pointer) (len extent slot : ℕ) (c : Content) (cs : List Change) (bn pn sn : List ℕ) (made : List Made) → List Made
built p len extent slot c cs bn pn sn made =
    record { change = Fill slot (record { key = c.key; extent = extent; generation = p.generation; offset = p.offset; length = length_of c }); after = sn }
    ∷ record { change = Point extent p.generation (p.offset + len); after = pn } ∷ made_in_order bn cs made

spelled_some : Given → (c : Content) → 0 < length (spelling c)
spelled_some given c = let e = given.frames.long c in omega (arith, e)

pub frame_is : Given → (s : Shelf) (first : Ledger) (made : List Made) (n extent slot : ℕ) (c : Content)
    → Good s first made → extent < first.geometry.extents
    → onto (frame_plan s n extent slot c) made ≡ slot_put first made (put_of s n extent slot c)
frame_is given s first made n extent slot c good known =
    let bn = option_to_list (extent_at s.extents extent).reset in
    let pn = range_with_len n (touched (offset_at s.extents extent) (length (spelling c))) in
    let fill = fill_plan s n extent slot c in
    let point : Made =
    record { change = Point extent (generation_at s.extents extent) (offset_at s.extents extent + length (spelling c)); after = pn } in
    let bytes : List ℕ = spelling c in
    let count : ℕ = touched (offset_at s.extents extent) (length (spelling c)) in
    let parts_made : List Made = parts extent (offset_at s.extents extent) bytes bn count in
    let known_now : extent < (after_all first made).geometry.extents =
    (let e = good.holds.extents in omega (arith, known, e)) in
    let same = good.holds.shelf.pointer extent known_now in
    onto-++ (parts_made ++ point ∷ []) (fill ∷ []) made
    ∙ ap (λ ms. fill ∷ ms) (onto-++ parts_made (point ∷ []) made)
    ∙ ap (λ ms. fill ∷ point ∷ onto ms made)
    (parts_are_pieces extent (offset_at s.extents extent) (spelling c) bn (spelled_some given c))
    ∙ ap (λ ms. fill ∷ point ∷ ms) (made_parts bn (pieces extent (offset_at s.extents extent) (spelling c)) made)
    ∙ ap (λ len. built (extent_at s.extents extent).pointer len extent slot c (pieces extent (offset_at s.extents extent) (spelling c)) bn pn fill.after made) (given.frames.long c)
    ∙ ap (λ p. built p (length_of c) extent slot c (pieces extent p.offset (spelling c)) bn pn fill.after made) same

-- The frame fits, and its slot is the key's.
pub record FrameFits (first : Ledger) (made : List Made) (extent at : ℕ) (c : Content) : Type 0 where
  pub known : extent < first.geometry.extents
  pub slot : at < slot_count first.geometry
  pub content : Fits (value_limit (after_all first made).geometry.format) c
  pub room : ((after_all first made).pointer extent).offset + length_of c ≤ largest_pointer (after_all first made).geometry.format
  pub only : (other : ℕ) (t : SlotFields) → other ≢ at → (after_all first made).slot other ≡ Some t → t.key ≢ c.key
  pub same_key : (t : SlotFields) → (after_all first made).slot at ≡ Some t → t.key ≡ c.key

pub among_range : (a n k : ℕ) → a ≤ k → k < a + n → is_among (range_with_len a n) k ≡ true
among_range a zero k h j = absurd (omega (arith, h, j))
among_range a (suc n) k h j = elim (cases_Bool (a == k)) [
  | inl u ↦ rw u refl
  | inr u ↦ rw u (let ne : a ≢ k = grind (arith, nat_tests) in among_range (a + 1) n k (omega (arith, h, ne)) (omega (arith, j)))
]

pub among_itself : (n : ℕ) (xs : List ℕ) → is_among (n ∷ xs) n ≡ true
among_itself n xs = let e : (n == n) ≡ true = grind (arith, nat_tests) in rw e refl

or_second : (a b : Bool) → b ≡ true → (a || b) ≡ true
or_second true b h = refl
or_second false b h = h

pub among_later : (x n : ℕ) (xs : List ℕ) → is_among xs n ≡ true → is_among (x ∷ xs) n ≡ true
among_later x n xs h = or_second (x == n) (is_among xs n) h

pub among_front : (xs ys : List ℕ) (n : ℕ) → is_among xs n ≡ true → is_among (xs ++ ys) n ≡ true
among_front xs ys n h = list_any-append (λ m. m == n) xs ys ∙ rw h refl

pub among_back : (xs ys : List ℕ) (n : ℕ) → is_among ys n ≡ true → is_among (xs ++ ys) n ≡ true
among_back xs ys n h = list_any-append (λ m. m == n) xs ys ∙ or_second (is_among xs n) (is_among ys n) h

-- if there is such a number, it is there
pub has_kept : (names : List ℕ) (o : Option ℕ) → ((n : ℕ) → is_among (option_to_list o) n ≡ true
    → is_among names n ≡ true) → IfSome o (λ n. IsTrue (is_among names n))
has_kept names None h = tt
has_kept names (Some n) h = h n (among_itself n [])

length-in_order : (names : List ℕ) (cs : List Change) (made : List Made)
    → length (made_in_order names cs made) ≡ length made + length cs
length-in_order names [] made = omega arith
length-in_order names (c ∷ cs) made =
    let e = length-in_order names cs (record { change = c; after = names } ∷ made) in omega (arith, e)

length-pieces : (e o : ℕ) (bs : List ℕ) → 0 < length bs → length (pieces e o bs) ≡ touched o (length bs)
length-pieces e o bs some =
    let count : ℕ = touched o (length bs) in
    sym (length-map (pieces e o bs) (named [])) ∙ ap length (sym (parts_are_pieces e o bs [] some))
    ∙ length-map (range_with_len 0 count) (λ k. record { change = part e o bs k; after = [] })
    ∙ length-range_with_len 0 count

length-bytes : Given → (s : Shelf) (first : Ledger) (made : List Made) (n extent slot : ℕ) (c : Content)
    → Good s first made → extent < first.geometry.extents
    → length (bytes_put first made (put_of s n extent slot c)) ≡ length made + touched (offset_at s.extents extent) (length_of c)
length-bytes given s first made n extent slot c good known =
    let known_now : extent < (after_all first made).geometry.extents =
    (let e = good.holds.extents in omega (arith, known, e)) in
    let same = good.holds.shelf.pointer extent known_now in
    length-in_order (option_to_list (extent_at s.extents extent).reset) (pieces extent ((after_all first made).pointer extent).offset (spelling c)) made
    ∙ ap (λ k. length made + k)
    (length-pieces extent ((after_all first made).pointer extent).offset (spelling c) (spelled_some given c))
    ∙ ap (λ p. length made + touched p.offset (length (spelling c))) (sym same)
    ∙ ap (λ k. length made + touched (offset_at s.extents extent) k) (given.frames.long c)

pub right_put : Given → (s : Shelf) (first : Ledger) (made : List Made) (n extent slot : ℕ) (c : Content)
    → n ≡ length made → Good s first made → FrameFits first made extent slot c
    → IsRightPut first made (put_of s n extent slot c)
right_put given s first made n extent slot c e good fits =
    let known = fits.known in
    let at = fits.slot in
    let extents = good.holds.extents in
    let slots = good.holds.slots in
    let long = length-bytes given s first made n extent slot c good fits.known in
    let spelled = given.frames.long c in
    let newest = good.holds.newest in
    let at_now : slot < slot_count (after_all first made).geometry = omega (arith, at, slots) in
    let inner = (if is_none (slot_at s slot) then option_to_list s.last_delete else []) ++ option_to_list s.upgrade in
    record {
      known = omega (arith, known, extents);
      slot = at_now;
      content = fits.content;
      generation = good.few extent fits.known;
      room = fits.room;
      only = fits.only;
      same_key = fits.same_key;
      bytes_named =
          subst (λ o. IfSome o (λ k. IsTrue (is_among (option_to_list (extent_at s.extents extent).reset) k)))
          (newest.reset extent fits.known)
          (has_kept (option_to_list (extent_at s.extents extent).reset) (extent_at s.extents extent).reset (λ k t. t));
      pointer_named = λ k from to.
          among_range n (touched (offset_at s.extents extent) (length (spelling c))) k (omega (arith, e, from))
          (let t : touched (offset_at s.extents extent) (length (spelling c))
          ≡ touched (offset_at s.extents extent) (length_of c) =
          ap (touched (offset_at s.extents extent)) spelled in
          omega (arith, e, to, long, t));
      slot_named =
          subst (λ k. is_among (fill_plan s n extent slot c).after k ≡ true)
          (ap (λ k. k + touched (offset_at s.extents extent) (length_of c)) e ∙ sym long)
          (among_itself (n + touched (offset_at s.extents extent) (length_of c)) inner);
      upgrade_named =
          subst (λ o. IfSome o (λ k. IsTrue (is_among (fill_plan s n extent slot c).after k))) newest.upgrade
          (has_kept (fill_plan s n extent slot c).after s.upgrade (λ k t. among_later (n + touched (offset_at s.extents extent) (length_of c)) k inner
          (among_back (if is_none (slot_at s slot) then option_to_list s.last_delete else []) (option_to_list s.upgrade) k t)));
      cleared_named = λ none.
          let empty : slot_at s slot ≡ None = good.holds.shelf.slot slot at_now ∙ none in
          let deletes : (if is_none (slot_at s slot) then option_to_list s.last_delete else [])
          ≡ option_to_list s.last_delete =
          ap (λ o. if is_none o then option_to_list s.last_delete else []) empty in
          subst (λ o. IfSome o (λ k. IsTrue (is_among (fill_plan s n extent slot c).after k))) newest.last_delete
          (has_kept (fill_plan s n extent slot c).after s.last_delete (λ k t. among_later (n + touched (offset_at s.extents extent) (length_of c)) k inner
          (among_front (if is_none (slot_at s slot) then option_to_list s.last_delete else []) (option_to_list s.upgrade) k (ap (λ xs. is_among xs k) deletes ∙ t))));
    }

-- the plan's changes are well made, and so on
pub frame_well : Given → (s : Shelf) (first : Ledger) (made : List Made) (n extent slot : ℕ) (c : Content)
    → IsGeometry first.geometry → n ≡ length made → Good s first made → FrameFits first made extent slot c
    → IsPutWell first made (put_of s n extent slot c)
frame_well given s first made n extent slot c valid e good fits =
    given.puts first made (put_of s n extent slot c) valid good.well (right_put given s first made n extent slot c e good fits)

-- What a put leaves.

-- bytes change no pointer and no slot
record LeavesAll (k l : Ledger) : Type 0 where
  pub geometry : k.geometry ≡ l.geometry
  pub pointer : (e : ℕ) → k.pointer e ≡ l.pointer e
  pub slot : (s : ℕ) → k.slot s ≡ l.slot s

data_leave : (first : Ledger) (names : List ℕ) (e most offset : ℕ) (bytes : List ℕ) (made : List Made)
    → LeavesAll (after_all first (made_in_order names (pieces_within most e offset bytes) made)) (after_all first made)
data_leave first names e zero offset bytes made = record { geometry = refl; pointer = λ x. refl; slot = λ x. refl }
data_leave first names e (suc most) offset [] made = record { geometry = refl; pointer = λ x. refl; slot = λ x. refl }
data_leave first names e (suc most) offset (byte ∷ bytes) made =
    let rest = data_leave first names e most (offset + (4096 - offset % 4096))
    (drop (4096 - offset % 4096) (byte ∷ bytes))
    (record { change = Data e offset (take (4096 - offset % 4096) (byte ∷ bytes)); after = names } ∷ made) in
    record { geometry = rest.geometry; pointer = rest.pointer; slot = rest.slot }

-- the bytes of a put
put_leaves : (first : Ledger) (made : List Made) (put : Put)
    → LeavesAll (after_all first (bytes_put first made put)) (after_all first made)
put_leaves first made put =
    data_leave first put.bytes_names put.extent (length (spelling put.content))
    ((after_all first made).pointer put.extent).offset (spelling put.content) made

pub put_slot : (first : Ledger) (made : List Made) (put : Put) (x : ℕ)
    → (after_all first (slot_put first made put)).slot x ≡ (if x == put.slot then Some (fields_put (after_all first made) put) else (after_all first made).slot x)
put_slot first made put x =
    let same = put_leaves first made put in
    ap (λ o. if x == put.slot then Some (fields_put (after_all first made) put) else o) (same.slot x)

-- the pointer past its frame
abbrev pub pointer_after : Ledger → Put → Pointer
pointer_after l put = record {
  generation = (l.pointer put.extent).generation;
  offset = (l.pointer put.extent).offset + length_of put.content;
}

pub put_pointer : (first : Ledger) (made : List Made) (put : Put) (x : ℕ)
    → (after_all first (slot_put first made put)).pointer x
    ≡ (if x == put.extent then pointer_after (after_all first made) put else (after_all first made).pointer x)
put_pointer first made put x =
    let same = put_leaves first made put in
    ap (λ o. if x == put.extent then pointer_after (after_all first made) put else o) (same.pointer x)

pub put_geometry : (first : Ledger) (made : List Made) (put : Put)
    → (after_all first (slot_put first made put)).geometry ≡ (after_all first made).geometry
put_geometry first made put = (put_leaves first made put).geometry
