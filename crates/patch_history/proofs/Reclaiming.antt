-- The frames of an extent move, one after another.
use Rattle.std.proofs.Common.{Ok, ◌≡◌, ◌≢◌, ℕ, suc, ◌+◌, ◌<◌, ◌≤◌, ◌∙◌, inl, inr, true, false, List, [], ◌∷◌, ◌++◌}
use Rattle.std.proofs.Common.{length}
use Rattle.std.proofs.Common.{map, Some, refl, sym, ap, arith, subst}
use Rattle.std.specs.Prelude.{◌==◌, if◌then◌else◌, unwrap_or}
use Rattle.std.specs.List.{range_with_len}
use Rattle.std.specs.Str.{bytes_eq}
use Rattle.std.proofs.lemmas.Slice.Eq.{bytes_eq-Decides}
use Rattle.std.proofs.lemmas.Bool.{cases_Bool}
use Rattle.std.proofs.lemmas.Bool.Decides.{nat_tests}
use Rattle.patch_model.specs.Member.{In}
use Rattle.patch_frame.specs.declared.pointers.Pointer.{Pointer}
use Rattle.patch_frame.specs.Geometry.{IsGeometry, slot_count, largest_pointer, value_limit}
use Rattle.patch_frame.specs.Slot.{SlotFields}
use Rattle.patch_frame.specs.Frame.{Content, Fits, spelling, length_of}
use Rattle.patch_recovery.specs.Change.{Change, Data, Point, Fill, Clear, Widen, Made}
use Rattle.patch_recovery.specs.Ledger.{Ledger, after_all, bytes_at, value_in}
use Rattle.patch_recovery.specs.Right.{IsSound}
use Rattle.patch_recovery.specs.Orders.{AreWellMade}
use Rattle.patch_recovery.specs.Naming.{is_point}
use Rattle.patch_recovery.specs.Said.{last_said}
use Rattle.patch_recovery.specs.Putting.{pointer_put, fields_put, slot_put}
use Rattle.patch_history.specs.LawsBelow.{Given}
use Rattle.patch_recovery.specs.Wider.{format_kept}
use Rattle.patch_plans.specs.Extents.{offset_at}
use Rattle.patch_plans.specs.Planning.{append_plan, touched, part, parts, names_behind}
use Rattle.patch_history.specs.Choosing.{extent_for_move, current_for}
use Rattle.patch_history.specs.Planning.{frame_plan, fill_plan, content_of, moves}
use Rattle.patch_history.specs.Shelf.{Shelf, after_change, after_plan}
use Rattle.patch_history.specs.StoreState.{onto}
use Rattle.patch_history.proofs.Going.{Good, good-plan, onto-++, onto_length, still_current}
use Rattle.patch_history.proofs.Framing.{put_of, frame_is, FrameFits, right_put, frame_well, put_slot, put_pointer}
use Rattle.patch_history.proofs.Quiet.{AllQuiet, AllSilent, silent_changes, silent_append, silent_quiet, quiet_append}
use Rattle.patch_history.proofs.Quiet.{quiet_said}
use Rattle.patch_history.proofs.Living.{Distinct}
use Rattle.patch_history.proofs.Moving.{read_fits, Chosen, move_chosen, move_cases}
use Rattle.patch_history.proofs.Members.{some_number, some_fields}
use Rattle.patch_history.proofs.Moved.{HasStores, AllMoved, fills, silent_moved, moved_append}
use Rattle.patch_recovery.specs.Said.{Moves}
use Rattle.std.proofs.lemmas.List.{length-append}
use Rattle.patch_history.specs.Fitting.{IsThere}

pub shelf_plan-++ : (s : Shelf) (n : ℕ) (p q : List Made)
    → after_plan s n (p ++ q) ≡ after_plan (after_plan s n p) (n + length p) q
shelf_plan-++ s n [] q = let e : n + 0 ≡ n = omega arith in rw e refl
shelf_plan-++ s n (m ∷ p) q =
    shelf_plan-++ (after_change s n m.change) (n + 1) p q
    ∙ ap (λ k. after_plan (after_plan (after_change s n m.change) (n + 1) p) k q) (let e : n + 1 + length p ≡ n + suc (length p) = omega arith in e)

-- the plan makes no patch of this extent's pointer
abbrev AllOther : ℕ → List Made → Type 0
AllOther r [] = Unit {0}
AllOther r (m ∷ plan) = (is_point r m.change ≡ false) × AllOther r plan

other_append : (r : ℕ) (p q : List Made) → AllOther r p → AllOther r q → AllOther r (p ++ q)
other_append r [] q h k = k
other_append r (m ∷ p) q h k = (h.0, other_append r p q h.1 k)

other_changes : (r : ℕ) (names : List ℕ) (f : ℕ → Change) (xs : List ℕ) → ((x : ℕ) → is_point r (f x) ≡ false)
    → AllOther r (map (λ k. record { change = f k; after = names }) xs)
other_changes r names f [] h = tt
other_changes r names f (x ∷ xs) h = (h x, other_changes r names f xs h)

other_change : (r : ℕ) (s : Shelf) (n : ℕ) (c : Change) → is_point r c ≡ false → s.current ≢ Some r
    → (after_change s n c).current ≢ Some r
other_change r s n (Data extent offset bytes) off ne = ne
other_change r s n (Point extent generation offset) off ne = λ h. elim (cases_Bool (offset == 0)) [
  | inl u ↦ ne (still_current extent r s.current (rw u at h))
  | inr u ↦ (
      let g : Some extent ≡ Some r = rw u at h in
      let same = some_number extent r g in
      let on : (r == extent) ≡ true = grind (arith, nat_tests) in
      let no : false ≡ true = sym off ∙ on in cc)
]
other_change r s n (Fill slot fields) off ne = ne
other_change r s n (Clear slot) off ne = ne
other_change r s n Widen off ne = ne

other_current : (r : ℕ) (s : Shelf) (n : ℕ) (plan : List Made) → AllOther r plan → s.current ≢ Some r
    → (after_plan s n plan).current ≢ Some r
other_current r s n [] h ne = ne
other_current r s n (m ∷ plan) h ne =
    other_current r (after_change s n m.change) (n + 1) plan h.1 (other_change r s n m.change h.0 ne)

other_frame : (r : ℕ) (s : Shelf) (n extent slot : ℕ) (c : Content) → extent ≢ r
    → AllOther r (frame_plan s n extent slot c)
other_frame r s n extent slot c ne =
    let off : (r == extent) ≡ false = grind (arith, nat_tests) in
    other_append r (append_plan s.extents n extent (spelling c) []) (fill_plan s n extent slot c ∷ [])
    (other_append r (parts extent (offset_at s.extents extent) (spelling c) (names_behind s.extents extent [])
    (touched (offset_at s.extents extent) (length (spelling c)))) _
    (other_changes r (names_behind s.extents extent []) (part extent (offset_at s.extents extent) (spelling c))
    (range_with_len 0 (touched (offset_at s.extents extent) (length (spelling c)))) (λ x. refl)) (off, tt))
    (refl, tt)

-- a frame's bytes and pointer say nothing
pub silent_append_plan : (s : Shelf) (n extent : ℕ) (bytes : List ℕ)
    → AllSilent (append_plan s.extents n extent bytes [])
silent_append_plan s n extent bytes =
    silent_append (parts extent (offset_at s.extents extent) bytes (names_behind s.extents extent [])
    (touched (offset_at s.extents extent) (length bytes))) _
    (silent_changes (names_behind s.extents extent []) (part extent (offset_at s.extents extent) bytes)
    (range_with_len 0 (touched (offset_at s.extents extent) (length bytes))) (λ x. tt)) (tt, tt)

abbrev head_or : Made → List Made → Made
head_or d [] = d
head_or d (m ∷ ms) = m

abbrev tail_of : List Made → List Made
tail_of [] = []
tail_of (m ∷ ms) = ms

-- A slot that names a frame with the value that its key has says nothing new either.
quiet_frame : Given → (s : Shelf) (first : Ledger) (made : List Made) (n extent slot : ℕ) (c : Content)
    → IsGeometry first.geometry → n ≡ length made → Good s first made → FrameFits first made extent slot c
    → last_said (λ number. true) first made c.key ≡ Some c.value → AllQuiet first made (frame_plan s n extent slot c)
quiet_frame given s first made n extent slot c valid e good fits had =
    let front = append_plan s.extents n extent (spelling c) [] in
    let fill = fill_plan s n extent slot c in
    let put = put_of s n extent slot c in
    let whole : fill ∷ onto front made ≡ slot_put first made put =
    sym (onto-++ front (fill ∷ []) made) ∙ frame_is given s first made n extent slot c good fits.known in
    let well = frame_well given s first made n extent slot c valid e good fits in
    let bytes = silent_quiet first front made (silent_append_plan s n extent (spelling c)) in
    quiet_append first front (fill ∷ []) made bytes (
      record {
        said = λ key.
            let before = quiet_said first front made key bytes in
            ap (λ ms. last_said (λ number. true) first ms key) whole ∙ well.values key
            ∙ (elim (cases_Bool (bytes_eq c.key key)) [
              | inl u ↦ rw u (sym had ∙ ap (last_said (λ number. true) first made) ((bytes_eq-Decides c.key key).0 u))
              | inr u ↦ rw u refl
            ]) ∙ sym before;
        geometry = refl;
      },
      tt,
    )

-- The shelf before the moves of these slots from the extent r.
pub record Ready (first : Ledger) (entries : List Content) (r : ℕ) (at_first : Pointer) (s : Shelf) (made : List Made) (fs : List (ℕ × SlotFields)) : Type 0 where
  pub good : Good s first made
  pub filled : ((after_all first made).pointer r).offset ≢ 0
  pub kept : (after_all first made).pointer r ≡ at_first
  pub current : (f : ℕ × SlotFields) → In fs f → s.current ≢ Some r
  pub said : (key : List ℕ) → value_in entries key ≡ last_said (λ number. true) first made key
  pub waits : (f : ℕ × SlotFields) → In fs f
      → (f.0 < slot_count first.geometry) × ((after_all first made).slot f.0 ≡ Some f.1)
  pub apart : Distinct fs
  pub rest : (x : ℕ) (g : SlotFields) → (after_all first made).slot x ≡ Some g → g.extent ≡ r → In fs (x, g)

module _ (given : Given) (first : Ledger) (sound : IsSound first) (valid : IsGeometry first.geometry)
    (stores : HasStores first) (entries : List Content) (r : ℕ) (at_first : Pointer)
    (r_known : r < first.geometry.extents) where
  pub content_is : (s : Shelf) (made : List Made) (fs : List (ℕ × SlotFields)) → Ready first entries r at_first s made fs
      → (f : ℕ × SlotFields) → In fs f → IsThere (after_all first made) entries f.1
  content_is s made fs ready f i =
      let at = (ready.waits f i).1 in
      let lasts = given.last first made sound ready.good.well in
      let n = lasts.sound.named f.0 f.1 at in
      let value : value_in entries f.1.key ≡ Some n.content.value =
      ready.said f.1.key ∙ lasts.tells.has f.0 f.1 n.content at n.frame in
      let same : n.content ≡ content_of entries f.1 =
      ap (λ k. record { key = k; value = n.content.value }) n.key
      ∙ ap (λ o. record { key = f.1.key; value = unwrap_or o [] }) (sym value) in
      record { named = n; content = same }

  geometry_now : (s : Shelf) (made : List Made) → Good s first made
      → s.extents.geometry ≡ (after_all first made).geometry
  geometry_now s made good = good.holds.shelf.geometry

  not_itself : (s : Shelf) (made : List Made) (f : ℕ × SlotFields) (fs : List (ℕ × SlotFields)) (e : ℕ)
      → Ready first entries r at_first s made (f ∷ fs) → Chosen s f.1.length e → e ≢ r
  not_itself s made f fs e ready chosen same = elim (chosen.which) [
    | inl cur ↦ ready.current f (inl refl) (cur.0 ∙ ap (λ x. Some x) same)
    | inr nought ↦
        let known : r < (after_all first made).geometry.extents =
        (let x = ready.good.holds.extents in omega (arith, x, r_known)) in
        ready.filled (sym (ap (λ p. p.offset) (ready.good.holds.shelf.pointer r known)) ∙ ap (offset_at s.extents) (sym same) ∙ nought)
  ]

  pub move_fits : (s : Shelf) (made : List Made) (f : ℕ × SlotFields) (fs : List (ℕ × SlotFields)) (e : ℕ)
      → Ready first entries r at_first s made (f ∷ fs) → Chosen s f.1.length e
      → FrameFits first made e f.0 (content_of entries f.1)
  move_fits s made f fs e ready chosen =
      let good = ready.good in
      let c = content_of entries f.1 in
      let has = content_is s made (f ∷ fs) ready f (inl refl) in
      let fit : Fits (value_limit (after_all first made).geometry.format) c =
      subst (Fits (value_limit (after_all first made).geometry.format)) has.content
      (read_fits (value_limit (after_all first made).geometry.format) (bytes_at (after_all first made) f.1.extent f.1.offset f.1.length) has.named.content has.named.frame) in
      let long : length_of c ≡ f.1.length = ap length_of (sym has.content) ∙ has.named.length in
      let sizes =
      given.frames.fit (after_all first made).geometry.format c
      (format_kept first.geometry (after_all first made).geometry valid.format (given.last first made sound good.well).geometry) fit in
      let geometry = good.holds.shelf.geometry in
      let known : e < first.geometry.extents = elim (chosen.known) [
        | inl k ↦ (
            let x = good.holds.extents in
            let y : s.extents.geometry.extents ≡ (after_all first made).geometry.extents = ap (λ g. g.extents) geometry in omega (arith, k, x, y))
        | inr cur ↦ good.current e cur
      ] in
      let known_now : e < (after_all first made).geometry.extents =
      (let x = good.holds.extents in omega (arith, known, x)) in
      let offset : offset_at s.extents e ≡ ((after_all first made).pointer e).offset =
      ap (λ p. p.offset) (good.holds.shelf.pointer e known_now) in
      let largest : largest_pointer s.extents.geometry.format
      ≡ largest_pointer (after_all first made).geometry.format =
      ap (λ g. largest_pointer g.format) geometry in
      let at = (ready.waits f (inl refl)).1 in
      record {
        known = known;
        slot = (ready.waits f (inl refl)).0;
        content = fit;
        room = elim (chosen.which) [
          | inl cur ↦ (
              let test = cur.1 in
              let le : offset_at s.extents e + f.1.length ≤ largest_pointer s.extents.geometry.format = grind (arith, nat_tests) in omega (arith, le, long, offset, largest))
          | inr nought ↦ (let small = sizes.2 in omega (arith, nought, offset, small))
        ];
        only =
            λ other t ne there same. ne
            ((given.last first made sound good.well).sound.single other f.0 t f.1 there at same);
        same_key = λ t there. ap (λ g. g.key) (some_fields t f.1 (sym there ∙ at));
      }

  -- the slot's patch of a move
  move_moved : (s : Shelf) (made : List Made) (n : ℕ) (f : ℕ × SlotFields) (fs : List (ℕ × SlotFields)) (e : ℕ)
      → n ≡ length made → Ready first entries r at_first s made (f ∷ fs) → Chosen s f.1.length e
      → AllMoved fills first made (frame_plan s n e f.0 (content_of entries f.1))
  move_moved s made n f fs e count ready chosen =
      let good = ready.good in
      let c = content_of entries f.1 in
      let put = put_of s n e f.0 c in
      let front = append_plan s.extents n e (spelling c) [] in
      let fill = fill_plan s n e f.0 c in
      let fits = move_fits s made f fs e ready chosen in
      let has = content_is s made (f ∷ fs) ready f (inl refl) in
      let whole : fill ∷ onto front made ≡ slot_put first made put =
      sym (onto-++ front (fill ∷ []) made) ∙ frame_is given s first made n e f.0 c good fits.known in
      let done = frame_well given s first made n e f.0 c valid count good fits in
      let right = right_put given s first made n e f.0 c count good fits in
      let store = stores (slot_put first made put) done.well_made in
      let at = (ready.waits f (inl refl)).1 in
      let moves_it = given.again store.0 first made put f.1 store.1 right at (has.named.frame ∙ ap Ok has.content) in
      let change : fill.change ≡ Fill put.slot (fields_put (after_all first made) put) =
      ap (λ ms. (head_or fill ms).change) whole in
      moved_append fills first front (fill ∷ []) made
      (silent_moved first front made (silent_append_plan s n e (spelling c))) (
        (λ t.
            subst (λ ms. Moves (after_all first ms) fill.change) (sym (ap tail_of whole))
            (subst (Moves (after_all first (pointer_put first made put))) (sym change) moves_it)),
        tt,
      )

  move_ready : (s : Shelf) (made : List Made) (n : ℕ) (f : ℕ × SlotFields) (fs : List (ℕ × SlotFields)) (e : ℕ)
      → n ≡ length made → Ready first entries r at_first s made (f ∷ fs) → Chosen s f.1.length e
      → AreWellMade first (onto (frame_plan s n e f.0 (content_of entries f.1)) made) × AllQuiet first made (frame_plan s n e f.0 (content_of entries f.1))
      × Ready first entries r at_first (after_plan s n (frame_plan s n e f.0 (content_of entries f.1))) (onto (frame_plan s n e f.0 (content_of entries f.1)) made) fs
  move_ready s made n f fs e count ready chosen =
      let good = ready.good in
      let c = content_of entries f.1 in
      let put = put_of s n e f.0 c in
      let plan = frame_plan s n e f.0 c in
      let ne = not_itself s made f fs e ready chosen in
      let fits = move_fits s made f fs e ready chosen in
      let has = content_is s made (f ∷ fs) ready f (inl refl) in
      let at = (ready.waits f (inl refl)).1 in
      let is : onto plan made ≡ slot_put first made put = frame_is given s first made n e f.0 c good fits.known in
      let done = frame_well given s first made n e f.0 c valid count good fits in
      let well : AreWellMade first (onto plan made) = subst (AreWellMade first) (sym is) done.well_made in
      let had : last_said (λ number. true) first made c.key ≡ Some c.value =
      (given.last first made sound good.well).tells.has f.0 f.1 has.named.content at has.named.frame
      ∙ ap (λ c. Some c.value) has.content in
      let quiet = quiet_frame given s first made n e f.0 c valid count good fits had in
      let slots : (x : ℕ) → (after_all first (onto plan made)).slot x ≡ (if x == f.0 then Some (fields_put (after_all first made) put) else (after_all first made).slot x) =
      λ x. ap (λ ms. (after_all first ms).slot x) is ∙ put_slot first made put x in
      let off : (r == e) ≡ false = grind (arith, nat_tests) in
      let pointer : (after_all first (onto plan made)).pointer r ≡ (after_all first made).pointer r =
      ap (λ ms. (after_all first ms).pointer r) is ∙ put_pointer first made put r ∙ (rw off refl) in (
        well,
        quiet,
        record {
          good = good-plan first s n plan made count good well;
          filled = λ nought. ready.filled (sym (ap (λ p. p.offset) pointer) ∙ nought);
          kept = pointer ∙ ready.kept;
          current = λ g i. other_current r s n plan (other_frame r s n e f.0 c ne) (ready.current f (inl refl));
          said = λ key. ready.said key ∙ sym (quiet_said first plan made key quiet);
          waits = λ g i.
              let there = ready.waits g (inr i) in
              let apart : (g.0 == f.0) ≡ false = (let different = ready.apart.0 g i in grind (arith, nat_tests)) in
              (there.0, slots g.0 ∙ (rw apart (there.1)));
          apart = ready.apart.1;
          rest = λ x g says named. elim (cases_Bool (x == f.0)) [
            | inl u ↦ (
                let old = slots x in
                let new : (after_all first (onto plan made)).slot x ≡ Some (fields_put (after_all first made) put) =
                rw u at old in
                let now : Some (fields_put (after_all first made) put) ≡ Some g = sym new ∙ says in
                let same = some_fields (fields_put (after_all first made) put) g now in absurd (ne (ap (λ g. g.extent) same ∙ named)))
            | inr u ↦ (
                let old = slots x in
                let new : (after_all first (onto plan made)).slot x ≡ (after_all first made).slot x = rw u at old in
                let before : (after_all first made).slot x ≡ Some g = sym new ∙ says in elim (ready.rest x g before named) [
                  | inl same ↦ (
                      let eq : f.0 ≡ x = ap (λ p. p.0) same in
                      let on : (x == f.0) ≡ true = grind (arith, nat_tests) in absurd (let no : false ≡ true = sym u ∙ on in cc))
                  | inr there ↦ there
                ])
          ];
        },
      )

  pub record MovedWell (later : List (ℕ × SlotFields)) (s : Shelf) (made : List Made) (n : ℕ) (plan : List Made)
      : Type 0 where
    pub well : AreWellMade first (onto plan made)
    pub quiet : AllQuiet first made plan
    pub moved : AllMoved fills first made plan
    pub ready : Ready first entries r at_first (after_plan s n plan) (onto plan made) later

  no_plan : (plan : List Made) → Some [] ≡ Some plan → [] ≡ plan
  no_plan plan h = cc

  -- the moves of some frames, behind which others are ready to move
  pub moves_well : (fs later : List (ℕ × SlotFields)) (s : Shelf) (made : List Made) (n : ℕ) (plan : List Made)
      → n ≡ length made → Ready first entries r at_first s made (fs ++ later) → moves entries s n fs ≡ Some plan
      → MovedWell later s made n plan
  moves_well [] later s made n plan count ready h =
      subst (MovedWell later s made n) (no_plan plan h)
      (record { well = ready.good.well; quiet = tt; moved = tt; ready = ready })
  moves_well (f ∷ fs) later s made n plan count ready h =
      let case = move_cases entries s n f fs plan (extent_for_move s f.1.length) refl h in
      let e = case.extent in
      let p = frame_plan s n e f.0 (content_of entries f.1) in
      let chosen = move_chosen s f.1.length e (current_for s f.1.length) refl case.chosen in
      let one = move_ready s made n f (fs ++ later) e count ready chosen in
      let moved_one = move_moved s made n f (fs ++ later) e count ready chosen in
      let length_now : n + length p ≡ length (onto p made) = ap (λ k. k + length p) count ∙ sym (onto_length p made) in
      let others =
      moves_well fs later (after_plan s n p) (onto p made) (n + length p) case.others length_now one.2 case.go_on in
      subst (MovedWell later s made n) (sym case.are) (record {
        well = subst (AreWellMade first) (sym (onto-++ p case.others made)) others.well;
        quiet = quiet_append first p case.others made one.1 others.quiet;
        moved = moved_append fills first p case.others made moved_one others.moved;
        ready =
            subst (λ ms. Ready first entries r at_first (after_plan s n (p ++ case.others)) ms later)
            (sym (onto-++ p case.others made))
            (subst (λ t. Ready first entries r at_first t (onto case.others (onto p made)) later)
            (sym (shelf_plan-++ s n p case.others)) others.ready);
      })

-- Where all of some frames move, the last ones move behind the first.
pub moves_rest : (entries : List Content) (before fs : List (ℕ × SlotFields)) (s : Shelf) (n : ℕ) (plan p : List Made)
    → moves entries s n (before ++ fs) ≡ Some plan → moves entries s n before ≡ Some p
    → (q : List Made) × (moves entries (after_plan s n p) (n + length p) fs ≡ Some q)
moves_rest entries [] fs s n plan p h k =
    let none : [] ≡ p = cc in
    subst (λ p. (q : List Made) × (moves entries (after_plan s n p) (n + length p) fs ≡ Some q)) none
    (plan, ap (λ m. moves entries s m fs) (let e : n + 0 ≡ n = omega arith in e) ∙ h)
moves_rest entries (f ∷ before) fs s n plan p h k =
    let all = move_cases entries s n f (before ++ fs) plan (extent_for_move s f.1.length) refl h in
    let some = move_cases entries s n f before p (extent_for_move s f.1.length) refl k in
    let same : all.extent ≡ some.extent = some_number all.extent some.extent (sym all.chosen ∙ some.chosen) in
    let one = frame_plan s n some.extent f.0 (content_of entries f.1) in
    let go_on = subst (λ e. moves entries (after_plan s n (frame_plan s n e f.0 (content_of entries f.1)))
    (n + length (frame_plan s n e f.0 (content_of entries f.1))) (before ++ fs) ≡ Some all.others) same all.go_on in
    let rest = moves_rest entries before fs (after_plan s n one) (n + length one) all.others some.others go_on some.go_on in
    let long = length-append one some.others in (
      rest.0,
      ap (λ p. moves entries (after_plan s n p) (n + length p) fs) some.are
          ∙ ap (λ t. moves entries t (n + length (one ++ some.others)) fs) (shelf_plan-++ s n one some.others)
          ∙ ap (λ m. moves entries (after_plan (after_plan s n one) (n + length one) some.others) m fs)
          (let e : n + length (one ++ some.others) ≡ n + length one + length some.others = omega (arith, long) in e)
          ∙ rest.1,
    )
