-- Reclaims of legal histories, as their shelves stand.
use Rattle.std.proofs.Common.{◌≡◌, ◌≢◌, ℕ, ◌+◌, ◌<◌, ◌≤◌, ◌∙◌, inl, inr, true, false, List, [], ◌∷◌, ◌++◌, length}
use Rattle.std.proofs.Common.{Option, Some, None, refl, sym, ap, arith, subst}
use Rattle.std.specs.Prelude.{◌==◌, nat_le, option_map}
use Rattle.std.proofs.lemmas.Bool.{cases_Bool}
use Rattle.std.proofs.lemmas.Bool.Decides.{nat_tests}
use Rattle.patch_model.specs.Step.{Step}
use Rattle.patch_model.specs.declared.refusals.RefusalKind.TheVariants as kind
use Rattle.patch_model.specs.Refusing.{bare}
use Rattle.patch_frame.specs.Geometry.{largest_pointer}
use Rattle.patch_frame.specs.Frame.{Content, spelling, length_of}
use Rattle.patch_frame.specs.Slot.{SlotFields}
use Rattle.patch_recovery.specs.Change.{Made}
use Rattle.patch_plans.specs.Extents.{generation_at, offset_at}
use Rattle.patch_plans.specs.Planning.{reset_plan}
use Rattle.patch_history.specs.Choosing.{empty_extents, extent_for_put, live_frames}
use Rattle.patch_history.specs.Command.{Reclaim, Done}
use Rattle.patch_history.specs.History.{History, Call, IsLegalHistory, IsRight, standing_of}
use Rattle.patch_history.specs.Planning.{content_of, moves, emptied}
use Rattle.patch_history.specs.Refusing.{is_current, is_in_use, why_not_made, why_not_reclaimed}
use Rattle.patch_history.specs.Shelf.{Shelf, slot_at, left_of, after_plan}
use Rattle.patch_history.specs.StoreState.{made_by, plan_for}
use Rattle.patch_room.specs.Laws.{shelf_in, CanBeWon, with_reclaim}
use Rattle.patch_room.specs.LawsBelow.{Given}
use Rattle.patch_room.specs.Room.{bytes_of, extent_count, extent_bytes, live_in, HasEmpty, MayBeWon}
use Rattle.patch_room.proofs.Appending.{emptied_one, plan_append}
use Rattle.patch_room.proofs.Doing.{done_shelf}
use Rattle.patch_room.proofs.Living.{EachFrame, each_live, live_bytes_are}
use Rattle.patch_room.proofs.Moving.{IsEmptyOne, IsSized, HasRoom, Goes, all_go, put_fits, from_empties, some_there}

-- What stands against a reclaim of an extent that may be won back: that its frames find no room, or that its patches don't.

pub no_frames : (fs : List (ℕ × SlotFields)) → EachFrame (λ f. 1 ≤ f.1.length) fs → bytes_of fs ≡ 0 → fs ≡ []
no_frames [] all none = refl
no_frames (f ∷ fs) all none = let some = all.0 in absurd (omega (arith, some, none))

pub is_current_is : (s : Shelf) (e : ℕ) (o : Option ℕ) → s.current ≡ o → is_current s e ≡ true → s.current ≡ Some e
is_current_is s e None at t = absurd (let no : false ≡ true = rw at at t in cc)
is_current_is s e (Some c) at t =
    let on : (c == e) ≡ true = rw at at t in
    let same : c ≡ e = grind (arith, nat_tests) in at ∙ ap (λ x. Some x) same

pub not_current_is : (s : Shelf) (e : ℕ) → is_current s e ≡ false → s.current ≢ Some e
not_current_is s e t at =
    let u : (e == e) ≡ false = rw at at t in
    let on : (e == e) ≡ true = grind (arith, nat_tests) in
    let no : false ≡ true = sym u ∙ on in cc

module _ (given : Given) (h : History) (legal : IsLegalHistory h) where
  abbrev pub s : Shelf
  s = (standing_of h).shelf

  abbrev pub entries : List Content
  entries = (standing_of h).map.entries

  pub sized : (slot : ℕ) (f : SlotFields) → slot_at s slot ≡ Some f → IsSized entries (slot, f)
  sized slot f used =
      let there = given.frames h slot f legal used in
      let long : length (spelling (content_of entries f)) ≡ f.length =
      given.long (content_of entries f) ∙ ap length_of (sym there.content) ∙ there.named.length in
      let length_is : length_of (content_of entries f) ≡ f.length =
      ap length_of (sym there.content) ∙ there.named.length in
      (long, omega (arith, length_is))

  pub frames_sized : (e : ℕ) → EachFrame (IsSized entries) (live_frames s e)
  frames_sized e = each_live (IsSized entries) s e sized

  -- the extents are kept as the disk is divided
  pub count : length s.extents.each ≡ extent_count s
  count = (given.extents h legal).whole.count

  pub current_there : (c : ℕ) → s.current ≡ Some c → (c < extent_count s) × (1 ≤ offset_at s.extents c)
  current_there c at =
      let agree = given.agree h legal in
      let same = ap (λ g. g.extents) (given.kept h).geometry in
      (let known = agree.current c at in omega (arith, known, same), agree.begun c at)

  module _ (e : ℕ) (won : MayBeWon s e) where
    idle : is_in_use s e ≡ false
    idle = elim (cases_Bool (is_current s e)) [
      | inl t ↦
          let none = no_frames (live_frames s e) (each_live (λ f. 1 ≤ f.1.length) s e (λ slot f used. (sized slot f used).1))
          (live_bytes_are s e ∙ won.idle (is_current_is s e s.current refl t)) in
          let zero : (length (live_frames s e) == 0) ≡ true = rw none refl in rw (t, zero) refl
      | inr t ↦ rw t refl
    ]

    pub why_is : why_not_reclaimed (standing_of h) e ≡ why_not_made (standing_of h) (bare kind.NoSpace) (plan_for (standing_of h) (Reclaim e))
    why_is =
        let known = won.known in
        let begun = won.begun in
        let fresh = won.fresh in
        let a : nat_le (extent_count s) e ≡ false = grind (arith, nat_tests) in
        let b : (offset_at s.extents e == 0) ≡ false = grind (arith, nat_tests) in
        let d : (generation_at s.extents e == 4294967295) ≡ false = grind (arith, nat_tests) in
        rw (a, b, idle, d) refl

    -- where an extent is empty
    module _ (has : HasEmpty s) (fits : live_in s e ≤ extent_bytes s) where
      abbrev pub live : ℕ
      live = live_in s e

      empty_one : (x : ℕ) × IsEmptyOne s x
      empty_one = let x = some_there (empty_extents s) has in (x.0, from_empties s x.0 x.1)

      -- the moves, and how the shelf stands behind them
      pub record Moved : Type 0 where
        pub plan : List Made
        pub is : moves entries s (made_by (standing_of h)) (live_frames s e) ≡ Some plan
        pub geometry : (after_plan s (made_by (standing_of h)) plan).extents.geometry ≡ s.extents.geometry
        pub count_is : length (after_plan s (made_by (standing_of h)) plan).extents.each ≡ length s.extents.each
        pub filled : 1 ≤ offset_at (after_plan s (made_by (standing_of h)) plan).extents e
        pub room : HasRoom entries s.extents.geometry e live (after_plan s (made_by (standing_of h)) plan) 0

      moved_none : live_frames s e ≡ [] → Moved
      moved_none none = record {
        plan = [];
        is = rw none refl;
        geometry = refl;
        count_is = refl;
        filled = won.begun;
        room = inl (empty_one.0, empty_one.1, omega arith);
      }

      moved_some : s.current ≢ Some e → Moved
      moved_some ne =
          let bytes = live_bytes_are s e in
          let begin : Goes entries s.extents.geometry e live s (bytes_of (live_frames s e)) = record {
            count = count;
            geometry = refl;
            short = fits;
            filled = won.begun;
            current = λ c at. ((current_there c at).0, (current_there c at).1, λ same. ne (at ∙ ap (λ x. Some x) same));
            room = inl (empty_one.0, empty_one.1, omega (arith, bytes));
          } in
          let gone = all_go entries s.extents.geometry e live s (made_by (standing_of h)) (live_frames s e) begin (frames_sized e) in record {
            plan = gone.plan;
            is = gone.is;
            geometry = gone.goes.geometry;
            count_is = gone.goes.count ∙ ap (λ g. g.extents) gone.goes.geometry ∙ sym count;
            filled = gone.goes.filled;
            room = gone.goes.room;
          }

      moved : Moved
      moved = elim (cases_Bool (is_current s e)) [
        | inl t ↦ moved_none (no_frames (live_frames s e) (each_live (λ f. 1 ≤ f.1.length) s e (λ slot f used. (sized slot f used).1))
            (live_bytes_are s e ∙ won.idle (is_current_is s e s.current refl t)))
        | inr t ↦ moved_some (not_current_is s e t)
      ]

      plan_is : plan_for (standing_of h) (Reclaim e) ≡ Some (emptied s (made_by (standing_of h)) e moved.plan)
      plan_is = ap (option_map (emptied s (made_by (standing_of h)) e)) moved.is

      pub can_be_won : CanBeWon (standing_of h) e
      can_be_won = record {
        moved = moved.plan;
        moved_is = moved.is;
        why = why_is ∙ ap (why_not_made (standing_of h) (bare kind.NoSpace)) plan_is;
      }

      pub put_fits_behind : (writer len : ℕ) (steps : List Step) → live_in s e + len ≤ extent_bytes s
          → IsRight (standing_of h) (Call writer (Reclaim e) Done steps)
          → extent_for_put (shelf_in (with_reclaim h writer e steps)) len ≢ None
      put_fits_behind writer len steps small right =
          let n = made_by (standing_of h) in
          let p = moved.plan in
          let t = after_plan s n p in
          let names = left_of t e in
          let reset = reset_plan s.extents e names in
          let is : shelf_in (with_reclaim h writer e steps) ≡ after_plan t (n + length p) reset =
          done_shelf h writer (Reclaim e) steps (p ++ reset) right plan_is ∙ plan_append s n p reset in
          let within : e < length t.extents.each = (let known = won.known in let a = moved.count_is in omega (arith, known, a, count)) in
          let behind = emptied_one t (n + length p) e s.extents names within in
          let same = moved.geometry in
          subst (λ u. extent_for_put u len ≢ None) (sym is)
          (put_fits entries s.extents.geometry t (after_plan t (n + length p) reset) e live len
          (subst (λ g. e < g.extents) (sym same) won.known) moved.filled moved.room
          (subst (λ g. live + len ≤ largest_pointer g.format) (sym same) small) behind)
