-- Each command, as it is answered or given up, keeps a store.
use Rattle.std.proofs.Common.{◌≡◌, ℕ, ◌+◌, ◌<◌, ◌^◌, ◌∙◌, inl, inr, true, false, List, [], ◌∷◌, ◌++◌, length, Some}
use Rattle.std.proofs.Common.{None, refl, sym, ap, arith, subst}
use Rattle.std.specs.Prelude.{◌==◌, ◌&&◌, not, if◌then◌else◌, MatchBool, option_to_list, unwrap_or, take}
use Rattle.std.specs.Str.{bytes_eq}
use Rattle.std.proofs.lemmas.Bool.{cases_Bool}
use Rattle.std.proofs.lemmas.Bool.Decides.{nat_tests}
use Rattle.std.proofs.lemmas.List.{length-append}
use Rattle.patch_model.specs.Step.{Step, Create, Merge, Send, Complete}
use Rattle.patch_frame.specs.declared.geometries.Format.TheVariants.{One}
use Rattle.patch_frame.specs.Geometry.{IsGeometry, slot_count, value_limit}
use Rattle.patch_frame.specs.Frame.{Content, Fits, spelling}
use Rattle.patch_recovery.specs.Change.{Point, Clear, Widen, Made}
use Rattle.patch_recovery.specs.Ledger.{Ledger, after_all, value_in}
use Rattle.patch_recovery.specs.Right.{IsSound}
use Rattle.patch_recovery.specs.Orders.{IsWellMade, AreWellMade}
use Rattle.patch_recovery.specs.Said.{last_said}
use Rattle.patch_recovery.specs.Store.{makes_nothing}
use Rattle.patch_recovery.specs.Reading.{has_key}
use Rattle.patch_history.specs.LawsBelow.{Given}
use Rattle.patch_plans.specs.Extents.{generation_at}
use Rattle.patch_plans.specs.Planning.{append_plan}
use Rattle.patch_plans.specs.Writing.{written, steps_by, named_plan}
use Rattle.patch_history.specs.Choosing.{slot_of, slot_for, live_frames}
use Rattle.patch_history.specs.Command.{Command, Reply, Put, Get, Delete, Reclaim, Upgrade, Group, Engage, Disengage}
use Rattle.patch_history.specs.Command.{Depend, CloseGroup, Pending, Done, is_refused, may_be_cut}
use Rattle.patch_history.specs.History.{Event, Call, Moved, after_event, IsWhole, IsCut, IsRight, is_write}
use Rattle.patch_history.specs.Steps.{EndsPlainly, IsFirst}
use Rattle.patch_history.specs.Planning.{frame_plan, fill_plan, moves, emptied}
use Rattle.patch_history.specs.Refusing.{reply_of, is_current, why_not_put, why_not_deleted, why_not_reclaimed}
use Rattle.patch_history.specs.Refusing.{why_not_upgraded}
use Rattle.patch_history.specs.Shelf.{left_of, after_plan}
use Rattle.patch_history.specs.StoreState.{creates, Standing, made_by, plan_for, plan_of, after_call, onto}
use Rattle.patch_history.proofs.Cutting.{cuts_are_first}
use Rattle.patch_history.proofs.Framing.{FrameFits, frame_is, frame_well, put_of, put_geometry}
use Rattle.patch_history.proofs.Going.{onto-++}
use Rattle.patch_history.proofs.Judged.{no_cause, put_done, delete_done, IsReclaimed, reclaim_done, upgrade_done}
use Rattle.patch_history.proofs.Living.{live_are, live_all, live_apart}
use Rattle.patch_history.proofs.Mapping.{value_with, value_without}
use Rattle.patch_history.proofs.Places.{slot_found}
use Rattle.patch_history.proofs.Quiet.{AllQuiet, quiet_take, quiet_append, silent_quiet, silent_named, silent_take}
use Rattle.patch_history.proofs.Reclaiming.{Ready, moves_well, silent_append_plan}
use Rattle.patch_history.proofs.Richer.{richer_well, richer_said, richer_ledger}
use Rattle.patch_history.proofs.Stepping.{ends_plainly, ends_named, take_front, length-named_plan, length-written}
use Rattle.patch_history.proofs.Stepping.{richer_named, named_none, well_cut}
use Rattle.patch_history.proofs.Whole.{put_cases, put_fits, clear_well, reset_well}
use Rattle.patch_history.proofs.Events.{Stood, whole_take, cut_steps, cut_take, stood_after, stood_quiet, stood_nothing}
use Rattle.patch_history.proofs.Events.{refused_same, done_is, emptying, clearing, some_in, is_current_of}
use Rattle.patch_history.specs.Closed.{moves_entry}
use Rattle.patch_history.proofs.Moved.{HasStores, AllMoved, fills, silent_moved, moved_append, moved_take, moved_none}
use Rattle.std.proofs.lemmas.List.{append-nil}
use Rattle.patch_frame.specs.Frame.{length_of}
use Rattle.patch_history.specs.Choosing.{extent_for_put}
use Rattle.patch_history.specs.Planning.{put_plan}

module _ (given : Given) (first : Ledger) (sound : IsSound first) (valid : IsGeometry first.geometry)
    (stores : HasStores first) where
  -- Put.

  pub record IsReadyPut (st : Standing) (writer : ℕ) (key value : List ℕ) : Type 0 where
    pub slot : ℕ
    pub extent : ℕ
    pub slot_is : slot_for st.shelf key ≡ Some slot
    pub extent_is : extent_for_put st.shelf (length_of (record { key = key; value = value })) ≡ Some extent
    pub is : put_plan st.shelf (made_by st) (record { key = key; value = value })
        ≡ Some (frame_plan st.shelf (made_by st) extent slot (record { key = key; value = value }))
    pub short : Fits (value_limit st.map.format) (record { key = key; value = value })
    pub fits : FrameFits first st.made extent slot (record { key = key; value = value })
    pub plan_is : plan_of st writer (Put key value) ≡ named_plan st.groups (Some writer) (made_by st) (frame_plan st.shelf (made_by st) extent slot (record { key = key; value = value }))

  pub put_ready : (st : Standing) (writer : ℕ) (key value : List ℕ) → Stood first st
      → is_refused (reply_of st writer (Put key value)) ≡ false → IsReadyPut st writer key value
  put_ready st writer key value stood answered =
      let c : Content = record { key = key; value = value } in
      let why = put_done st key value (no_cause (why_not_put st key value) Done answered) in
      let plan = why.1.0 in
      let put = put_cases st.shelf (made_by st) c plan (slot_for st.shelf key) refl why.1.1 in
      let fit : Fits (value_limit (after_all first st.made).geometry.format) c =
      subst (λ f. Fits (value_limit f) c) stood.format why.0 in
      record {
        slot = put.slot;
        extent = put.extent;
        slot_is = put.slot_is;
        extent_is = put.extent_is;
        is = why.1.1 ∙ ap (λ plan. Some plan) put.are;
        short = why.0;
        fits = put_fits given first sound valid st.shelf st.made (made_by st) c plan stood.good fit put;
        plan_is =
            ap (λ o. named_plan st.groups (Some writer) (made_by st) (unwrap_or o [])) why.1.1
            ∙ ap (named_plan st.groups (Some writer) (made_by st)) put.are;
      }

  put_well_named : (st : Standing) (writer : ℕ) (extent slot : ℕ) (c : Content) → Stood first st
      → FrameFits first st.made extent slot c
      → AreWellMade first (onto (named_plan st.groups (Some writer) (made_by st) (frame_plan st.shelf (made_by st) extent slot c)) st.made)
  put_well_named st writer extent slot c stood fits =
      let plan = frame_plan st.shelf (made_by st) extent slot c in
      let is = frame_is given st.shelf first st.made (made_by st) extent slot c stood.good fits.known in
      let done = frame_well given st.shelf first st.made (made_by st) extent slot c valid refl stood.good fits in
      richer_well first (onto plan st.made) (onto (named_plan st.groups (Some writer) (made_by st) plan) st.made) (richer_named st.groups (Some writer) (made_by st) plan st.made)
      (subst (AreWellMade first) (sym is) done.well_made)

  put_whole : (st : Standing) (writer : ℕ) (key value : List ℕ) (reply : Reply) (steps : List Step) → Stood first st
      → is_refused reply ≡ false → is_refused (reply_of st writer (Put key value)) ≡ false
      → IsWhole st (plan_of st writer (Put key value)) steps
      → Stood first (after_call st writer (Put key value) reply steps)
  put_whole st writer key value reply steps stood ok answered whole =
      let c : Content = record { key = key; value = value } in
      let ready = put_ready st writer key value stood answered in
      let plan = frame_plan st.shelf (made_by st) ready.extent ready.slot c in
      let put = put_of st.shelf (made_by st) ready.extent ready.slot c in
      let named_one = named_plan st.groups (Some writer) (made_by st) plan in
      let is =
      frame_is given st.shelf first st.made (made_by st) ready.extent ready.slot c stood.good ready.fits.known in
      let done =
      frame_well given st.shelf first st.made
      (made_by st) ready.extent ready.slot c valid refl stood.good ready.fits in
      let richer = richer_named st.groups (Some writer) (made_by st) plan st.made in
      let steps_are : steps ≡ steps_by whole.0 (written st.shelf.extents (made_by st) named_one) =
      whole.1 ∙ ap (λ p. steps_by whole.0 (written st.shelf.extents (made_by st) p)) ready.plan_is in
      let same_map = done_is st.map (Put key value) reply ok in
      stood_after given first sound st writer (Put key value) reply steps named_one whole.0 stood
      (whole_take whole.0 st.shelf.extents (made_by st) named_one steps steps_are ∙ ap (take (creates steps)) (sym ready.plan_is))
      steps_are
      (put_well_named st writer ready.extent ready.slot c stood ready.fits)
      (ap (λ h. h.format) same_map ∙ stood.format
      ∙ ap (λ g. g.format) (sym (put_geometry first st.made put)
      ∙ ap (λ ms. (after_all first ms).geometry) (sym is)
      ∙ ap (λ l. l.geometry) (sym (richer_ledger first _ _ richer))))
      (λ k. ap (λ h. value_in h.entries k) same_map ∙ value_with st.map.entries key value k
      ∙ ap (λ o. if bytes_eq key k then Some value else o) (stood.said k)
      ∙ sym (done.values k) ∙ ap (λ ms. last_said (λ number. true) first ms k) (sym is)
      ∙ sym (richer_said first _ _ k richer))

  put_cut : (st : Standing) (writer : ℕ) (key value : List ℕ) (reply : Reply) (steps : List Step) → Stood first st
      → is_refused reply ≡ true → is_refused (reply_of st writer (Put key value)) ≡ false
      → IsCut st (plan_of st writer (Put key value)) steps
      → Stood first (after_call st writer (Put key value) reply steps)
  put_cut st writer key value reply steps stood lost answered cut =
      let c : Content = record { key = key; value = value } in
      let n = made_by st in
      let ready = put_ready st writer key value stood answered in
      let front = append_plan st.shelf.extents n ready.extent (spelling c) [] in
      let fill = fill_plan st.shelf n ready.extent ready.slot c in
      let named_one = named_plan st.groups (Some writer) n (frame_plan st.shelf n ready.extent ready.slot c) in
      let plain : EndsPlainly (written st.shelf.extents n named_one) =
      ends_named st.shelf.extents st.groups (Some writer) n front fill (λ s n. refl) in
      let all_steps = cut.2.1 ∙ ap (λ p. steps_by cut.2.0 (written st.shelf.extents n p)) ready.plan_is in
      let some_first : IsFirst (written st.shelf.extents n named_one) steps =
      cuts_are_first cut.2.0 (written st.shelf.extents n named_one) steps cut.0 plain cut.1 all_steps in
      let long_one : length named_one ≡ length (written st.shelf.extents n named_one) =
      sym (length-written st.shelf.extents n named_one) in
      let long : length named_one ≡ length front + 1 =
      length-named_plan st.groups (Some writer) n (front ++ fill ∷ []) ∙ length-append front (fill ∷ []) in
      let less = some_first.2 in
      let taken : take some_first.1 named_one ≡ take some_first.1 (named_plan st.groups (Some writer) n front) =
      take_front some_first.1 st.groups (Some writer) n front (fill ∷ []) (omega (arith, long, long_one, less)) in
      let silent = silent_take some_first.1 (named_plan st.groups (Some writer) n front)
      (silent_named st.groups (Some writer) n front (silent_append_plan st.shelf n ready.extent (spelling c))) in
      let quiet : AllQuiet first st.made (take some_first.1 named_one) = subst (AllQuiet first st.made) (sym taken)
      (silent_quiet first (take some_first.1 (named_plan st.groups (Some writer) n front)) st.made silent) in
      stood_quiet given first sound st writer (Put key value) reply steps (take some_first.1 named_one) some_first.0 stood
      (cut_take some_first.0 st.shelf.extents n some_first.1 named_one steps (omega (arith, less, long_one)) some_first.3 ∙ ap (take (creates steps)) (sym ready.plan_is))
      (cut_steps some_first.0 st.shelf.extents n some_first.1 named_one steps some_first.3)
      (well_cut first some_first.1 named_one st.made (put_well_named st writer ready.extent ready.slot c stood ready.fits))
      quiet (refused_same st.map (Put key value) reply lost)

  -- Delete.

  delete_whole : (st : Standing) (writer : ℕ) (key : List ℕ) (reply : Reply) (steps : List Step) → Stood first st
      → is_refused reply ≡ false → is_refused (reply_of st writer (Delete key)) ≡ false
      → IsWhole st (plan_of st writer (Delete key)) steps → Stood first (after_call st writer (Delete key) reply steps)
  delete_whole st writer key reply steps stood ok answered whole =
      let why = delete_done st key (no_cause (why_not_deleted st key) Done answered) in
      let clear = clearing st key why.0 (slot_of st.shelf key) refl why.1 in
      let one : Made = record { change = Clear clear.slot; after = option_to_list st.shelf.last_delete } in
      let named_one = named_plan st.groups (Some writer) (made_by st) (one ∷ []) in
      let plan_is : plan_of st writer (Delete key) ≡ named_one =
      ap (λ o. named_plan st.groups (Some writer) (made_by st) (unwrap_or o [])) why.1
      ∙ ap (named_plan st.groups (Some writer) (made_by st)) clear.are in
      let found = slot_found st.shelf key clear.slot clear.slot_is in
      let well : IsWellMade first one st.made =
      clear_well given first sound valid st.shelf st.made clear.slot found.1.0 stood.good found.0 found.1.1 in
      let richer = richer_named st.groups (Some writer) (made_by st) (one ∷ []) st.made in
      let steps_are : steps ≡ steps_by whole.0 (written st.shelf.extents (made_by st) named_one) =
      whole.1 ∙ ap (λ p. steps_by whole.0 (written st.shelf.extents (made_by st) p)) plan_is in
      let same_map = done_is st.map (Delete key) reply ok in
      let low : clear.slot < slot_count (after_all first st.made).geometry =
      (let counts = stood.good.holds.shelf.slots in
      let less = found.0 in omega (arith, counts, less)) in
      let says : (after_all first st.made).slot clear.slot ≡ Some found.1.0 =
      sym (stood.good.holds.shelf.slot clear.slot low) ∙ found.1.1 in
      stood_after given first sound st writer (Delete key) reply steps named_one whole.0 stood
      (whole_take whole.0 st.shelf.extents (made_by st) named_one steps steps_are ∙ ap (take (creates steps)) (sym plan_is))
      steps_are
      (richer_well first (one ∷ st.made) (onto named_one st.made) richer (well, stood.good.well))
      (ap (λ h. h.format) same_map ∙ stood.format)
      (λ k. ap (λ h. value_in h.entries k) same_map ∙ value_without st.map.entries key k
      ∙ ap (λ o. if bytes_eq key k then None else o) (stood.said k)
      ∙ ap (λ x. if bytes_eq x k then None else last_said (λ number. true) first st.made k) (sym found.1.2)
      ∙ ap (λ o. if has_key k o then None else last_said (λ number. true) first st.made k) (sym says))

  -- Upgrade.

  upgrade_whole : (st : Standing) (writer : ℕ) (reply : Reply) (steps : List Step) → Stood first st
      → is_refused reply ≡ false → is_refused (reply_of st writer Upgrade) ≡ false
      → IsWhole st (plan_of st writer Upgrade) steps → Stood first (after_call st writer Upgrade reply steps)
  upgrade_whole st writer reply steps stood ok answered whole =
      let one : Made = record { change = Widen; after = [] } in
      let narrow : (after_all first st.made).geometry.format ≡ One =
      sym stood.format ∙ upgrade_done st (no_cause (why_not_upgraded st) Done answered) in
      let well : IsWellMade first one st.made = given.names first one st.made stood.good.well narrow tt in
      let same_map = done_is st.map Upgrade reply ok in
      stood_after given first sound st writer Upgrade reply steps (one ∷ []) whole.0 stood
      (whole_take whole.0 st.shelf.extents (made_by st) (one ∷ []) steps whole.1)
      whole.1
      (well, stood.good.well)
      (ap (λ h. h.format) same_map)
      (λ k. ap (λ h. value_in h.entries k) same_map ∙ stood.said k)

  -- Reclaim.

  record IsReadyReclaim (st : Standing) (writer extent : ℕ) : Type 0 where
    pub moved : List Made
    pub plan_is : plan_of st writer (Reclaim extent) ≡ emptied st.shelf (made_by st) extent moved
    pub well : AreWellMade first (onto (emptied st.shelf (made_by st) extent moved) st.made)
    pub quiet : AllQuiet first st.made (emptied st.shelf (made_by st) extent moved)
    pub all_moved : AllMoved fills first st.made (emptied st.shelf (made_by st) extent moved)

  pub reclaim_start : (st : Standing) (extent : ℕ) → Stood first st → IsReclaimed st extent
      → Ready first st.map.entries extent ((after_all first st.made).pointer extent) st.shelf st.made (live_frames st.shelf extent)
  reclaim_start st extent stood can =
      let good = stood.good in
      let shelf = good.holds.shelf in
      let geometry : st.shelf.extents.geometry.extents ≡ (after_all first st.made).geometry.extents =
      ap (λ g. g.extents) shelf.geometry in
      let known = can.known in
      let known_now : extent < (after_all first st.made).geometry.extents = omega (arith, known, geometry) in
      let slots = good.holds.slots in
      let counts = shelf.slots in
      let now = (given.last first st.made sound good.well).sound in
      record {
        good = good;
        filled = λ nought. can.filled (ap (λ p. p.offset) (shelf.pointer extent known_now) ∙ nought);
        kept = refl;
        current = λ f i at.
            let some = some_in (live_frames st.shelf extent) f i in
            let a : is_current st.shelf extent ≡ true = is_current_of st.shelf extent st.shelf.current refl at in
            let b : (length (live_frames st.shelf extent) == 0) ≡ false = grind (arith, nat_tests) in
            let opens : (is_current st.shelf extent && not (length (live_frames st.shelf extent) == 0)) ≡ true =
            rw (a, b) refl in
            let no : false ≡ true = sym can.not_open ∙ opens in cc;
        said = stood.said;
        waits = λ f i.
            let are = live_are st.shelf extent f i in
            let less = are.0 in
            let low : f.0 < slot_count (after_all first st.made).geometry = omega (arith, less, counts) in
            (omega (arith, less, counts, slots), sym (shelf.slot f.0 low) ∙ are.1);
        apart = live_apart st.shelf extent;
        rest = λ x g says named.
            let low = now.known x g says in
            live_all st.shelf extent x g (shelf.slot x low ∙ says) named;
      }

  reclaim_ready : (st : Standing) (writer extent : ℕ) → Stood first st
      → is_refused (reply_of st writer (Reclaim extent)) ≡ false → IsReadyReclaim st writer extent
  reclaim_ready st writer extent stood answered =
      let can = reclaim_done st extent (no_cause (why_not_reclaimed st extent) Done answered) in
      let n = made_by st in
      let emptying_one =
      emptying st extent can.plan (moves st.map.entries st.shelf n (live_frames st.shelf extent)) refl can.is in
      let moved = emptying_one.moved in
      let good = stood.good in
      let shelf = good.holds.shelf in
      let geometry : st.shelf.extents.geometry.extents ≡ (after_all first st.made).geometry.extents =
      ap (λ g. g.extents) shelf.geometry in
      let known = can.known in
      let extents = good.holds.extents in
      let known_now : extent < (after_all first st.made).geometry.extents = omega (arith, known, geometry) in
      let known_first : extent < first.geometry.extents = omega (arith, known, geometry, extents) in
      let start = reclaim_start st extent stood can in
      let went =
      moves_well given first sound valid stores st.map.entries extent
      ((after_all first st.made).pointer extent) known_first
      (live_frames st.shelf extent) [] st.shelf st.made n moved refl
      (subst (Ready first st.map.entries extent ((after_all first st.made).pointer extent) st.shelf st.made)
      (sym (append-nil (live_frames st.shelf extent))) start) emptying_one.moves_are in
      let few = good.few extent known_first in
      let spent = can.generation in
      let generation : generation_at st.shelf.extents extent ≡ ((after_all first st.made).pointer extent).generation =
      ap (λ p. p.generation) (shelf.pointer extent known_now) in
      let raised : generation_at st.shelf.extents extent + 1 ≡ ((after_all first (onto moved st.made)).pointer extent).generation + 1 =
      ap (λ g. g + 1) (generation ∙ ap (λ p. p.generation) (sym went.ready.kept)) in
      let small : generation_at st.shelf.extents extent + 1 < 2 ^ 32 = omega (arith, few, spent, generation) in
      let reset : Made =
      record { change = Point extent (generation_at st.shelf.extents extent + 1) 0; after = left_of (after_plan st.shelf n moved) extent } in
      let one : IsWellMade first reset (onto moved st.made) = reset_well given first sound valid (after_plan st.shelf n moved) (onto moved st.made) extent (generation_at st.shelf.extents extent + 1)
      went.ready.good known_first small raised (λ slot f says named. went.ready.rest slot f says named) in
      record {
        moved = moved;
        plan_is =
            named_none st.groups n (unwrap_or (plan_for st (Reclaim extent)) []) ∙ ap (λ o. unwrap_or o []) can.is
            ∙ emptying_one.are;
        well = subst (AreWellMade first) (sym (onto-++ moved (reset ∷ []) st.made)) (one, went.well);
        quiet =
            quiet_append first moved (reset ∷ []) st.made went.quiet
            (record { said = λ key. refl; geometry = refl }, tt);
        all_moved = moved_append fills first moved (reset ∷ []) st.made went.moved
            (silent_moved first (reset ∷ []) (onto moved st.made) (tt, tt));
      }

  reclaim_whole : (st : Standing) (writer extent : ℕ) (reply : Reply) (steps : List Step) → Stood first st
      → is_refused reply ≡ false → is_refused (reply_of st writer (Reclaim extent)) ≡ false
      → IsWhole st (plan_of st writer (Reclaim extent)) steps
      → Stood first (after_call st writer (Reclaim extent) reply steps)
  reclaim_whole st writer extent reply steps stood ok answered whole =
      let ready = reclaim_ready st writer extent stood answered in
      let plan = emptied st.shelf (made_by st) extent ready.moved in
      let steps_are : steps ≡ steps_by whole.0 (written st.shelf.extents (made_by st) plan) =
      whole.1 ∙ ap (λ p. steps_by whole.0 (written st.shelf.extents (made_by st) p)) ready.plan_is in
      stood_quiet given first sound st writer (Reclaim extent) reply steps plan whole.0 stood
      (whole_take whole.0 st.shelf.extents (made_by st) plan steps steps_are ∙ ap (take (creates steps)) (sym ready.plan_is))
      steps_are ready.well ready.quiet (done_is st.map (Reclaim extent) reply ok)

  reclaim_cut : (st : Standing) (writer extent : ℕ) (reply : Reply) (steps : List Step) → Stood first st
      → is_refused reply ≡ true → is_refused (reply_of st writer (Reclaim extent)) ≡ false
      → IsCut st (plan_of st writer (Reclaim extent)) steps
      → Stood first (after_call st writer (Reclaim extent) reply steps)
  reclaim_cut st writer extent reply steps stood lost answered cut =
      let n = made_by st in
      let ready = reclaim_ready st writer extent stood answered in
      let plan = emptied st.shelf n extent ready.moved in
      let plain : EndsPlainly (written st.shelf.extents n plan) =
      ends_plainly st.shelf.extents n ready.moved _ (λ s n. refl) in
      let all_steps = cut.2.1 ∙ ap (λ p. steps_by cut.2.0 (written st.shelf.extents n p)) ready.plan_is in
      let some_first : IsFirst (written st.shelf.extents n plan) steps =
      cuts_are_first cut.2.0 (written st.shelf.extents n plan) steps cut.0 plain cut.1 all_steps in
      let less = some_first.2 in
      let long = length-written st.shelf.extents n plan in
      stood_quiet given first sound st writer (Reclaim extent) reply steps (take some_first.1 plan) some_first.0 stood
      (cut_take some_first.0 st.shelf.extents n some_first.1 plan steps (omega (arith, less, long)) some_first.3 ∙ ap (take (creates steps)) (sym ready.plan_is))
      (cut_steps some_first.0 st.shelf.extents n some_first.1 plan steps some_first.3)
      (well_cut first some_first.1 plan st.made ready.well)
      (quiet_take first some_first.1 plan st.made ready.quiet)
      (refused_same st.map (Reclaim extent) reply lost)

  -- Any command.

  whole_stood : (st : Standing) (writer : ℕ) (command : Command) (reply : Reply) (steps : List Step) → Stood first st
      → is_refused reply ≡ false → is_refused (reply_of st writer command) ≡ false
      → IsWhole st (plan_of st writer command) steps → Stood first (after_call st writer command reply steps)
  whole_stood st writer (Put key value) reply steps stood ok answered whole =
      put_whole st writer key value reply steps stood ok answered whole
  whole_stood st writer (Delete key) reply steps stood ok answered whole =
      delete_whole st writer key reply steps stood ok answered whole
  whole_stood st writer (Reclaim extent) reply steps stood ok answered whole =
      reclaim_whole st writer extent reply steps stood ok answered whole
  whole_stood st writer Upgrade reply steps stood ok answered whole =
      upgrade_whole st writer reply steps stood ok answered whole
  whole_stood st writer (Get key) reply steps stood ok answered whole =
      stood_nothing given first sound st writer (Get key) reply steps stood whole.1
      (done_is st.map (Get key) reply ok)
  whole_stood st writer Group reply steps stood ok answered whole =
      stood_nothing given first sound st writer Group reply steps stood whole.1 (done_is st.map Group reply ok)
  whole_stood st writer (Engage group) reply steps stood ok answered whole =
      stood_nothing given first sound st writer (Engage group) reply steps stood whole.1
      (done_is st.map (Engage group) reply ok)
  whole_stood st writer (Disengage group) reply steps stood ok answered whole =
      stood_nothing given first sound st writer (Disengage group) reply steps stood whole.1
      (done_is st.map (Disengage group) reply ok)
  whole_stood st writer (Depend group on) reply steps stood ok answered whole =
      stood_nothing given first sound st writer (Depend group on) reply steps stood whole.1
      (done_is st.map (Depend group on) reply ok)
  whole_stood st writer (CloseGroup group) reply steps stood ok answered whole =
      stood_nothing given first sound st writer (CloseGroup group) reply steps stood whole.1
      (done_is st.map (CloseGroup group) reply ok)
  whole_stood st writer (Pending group) reply steps stood ok answered whole =
      stood_nothing given first sound st writer (Pending group) reply steps stood whole.1
      (done_is st.map (Pending group) reply ok)

  cut_stood : (st : Standing) (writer : ℕ) (command : Command) (reply : Reply) (steps : List Step) → Stood first st
      → is_refused reply ≡ true → is_refused (reply_of st writer command) ≡ false
      → MatchBool (may_be_cut command) (IsCut st (plan_of st writer command) steps) (steps ≡ [])
      → Stood first (after_call st writer command reply steps)
  cut_stood st writer (Put key value) reply steps stood lost answered cut =
      put_cut st writer key value reply steps stood lost answered cut
  cut_stood st writer (Reclaim extent) reply steps stood lost answered cut =
      reclaim_cut st writer extent reply steps stood lost answered cut
  cut_stood st writer (Delete key) reply steps stood lost answered cut =
      stood_nothing given first sound st writer (Delete key) reply steps stood cut
      (refused_same st.map (Delete key) reply lost)
  cut_stood st writer Upgrade reply steps stood lost answered cut =
      stood_nothing given first sound st writer Upgrade reply steps stood cut (refused_same st.map Upgrade reply lost)
  cut_stood st writer (Get key) reply steps stood lost answered cut =
      stood_nothing given first sound st writer (Get key) reply steps stood cut
      (refused_same st.map (Get key) reply lost)
  cut_stood st writer Group reply steps stood lost answered cut =
      stood_nothing given first sound st writer Group reply steps stood cut (refused_same st.map Group reply lost)
  cut_stood st writer (Engage group) reply steps stood lost answered cut =
      stood_nothing given first sound st writer (Engage group) reply steps stood cut
      (refused_same st.map (Engage group) reply lost)
  cut_stood st writer (Disengage group) reply steps stood lost answered cut =
      stood_nothing given first sound st writer (Disengage group) reply steps stood cut
      (refused_same st.map (Disengage group) reply lost)
  cut_stood st writer (Depend group on) reply steps stood lost answered cut =
      stood_nothing given first sound st writer (Depend group on) reply steps stood cut
      (refused_same st.map (Depend group on) reply lost)
  cut_stood st writer (CloseGroup group) reply steps stood lost answered cut =
      stood_nothing given first sound st writer (CloseGroup group) reply steps stood cut
      (refused_same st.map (CloseGroup group) reply lost)
  cut_stood st writer (Pending group) reply steps stood lost answered cut =
      stood_nothing given first sound st writer (Pending group) reply steps stood cut
      (refused_same st.map (Pending group) reply lost)

  -- Which of its patches move entries.

  reclaim_moved : (st : Standing) (writer extent : ℕ) (steps : List Step) → Stood first st
      → is_refused (reply_of st writer (Reclaim extent)) ≡ false
      → AllMoved fills first st.made (take (creates steps) (plan_of st writer (Reclaim extent)))
  reclaim_moved st writer extent steps stood answered =
      let ready = reclaim_ready st writer extent stood answered in
      subst (λ plan. AllMoved fills first st.made (take (creates steps) plan)) (sym ready.plan_is)
      (moved_take fills first (creates steps) (emptied st.shelf (made_by st) extent ready.moved) st.made ready.all_moved)

  reclaim_marked : (st : Standing) (writer extent : ℕ) (reply : Reply) (steps : List Step) → Stood first st
      → IsRight st (Call writer (Reclaim extent) reply steps)
      → AllMoved fills first st.made (take (creates steps) (plan_of st writer (Reclaim extent)))
  reclaim_marked st writer extent reply steps stood (inl answered) = elim (cases_Bool (is_refused reply)) [
    | inl u ↦
        let made = answered.1 in
        let none : steps ≡ [] = rw u at made in
        subst (λ all. AllMoved fills first st.made (take (creates all) (plan_of st writer (Reclaim extent))))
        (sym none) tt
    | inr u ↦ reclaim_moved st writer extent steps stood (ap is_refused (sym answered.0) ∙ u)
  ]
  reclaim_marked st writer extent reply steps stood (inr lacked) =
      reclaim_moved st writer extent steps stood lacked.no_cause

  pub call_marked : (st : Standing) (writer : ℕ) (command : Command) (reply : Reply) (steps : List Step)
      → Stood first st
      → IsRight st (Call writer command reply steps)
      → AllMoved (moves_entry command) first st.made (take (creates steps) (plan_of st writer command))
  call_marked st writer (Reclaim extent) reply steps stood right =
      reclaim_marked st writer extent reply steps stood right
  call_marked st writer (Put key value) reply steps stood right =
      moved_none (moves_entry (Put key value)) first (λ m. refl) _ st.made
  call_marked st writer (Get key) reply steps stood right =
      moved_none (moves_entry (Get key)) first (λ m. refl) _ st.made
  call_marked st writer (Delete key) reply steps stood right =
      moved_none (moves_entry (Delete key)) first (λ m. refl) _ st.made
  call_marked st writer Upgrade reply steps stood right =
      moved_none (moves_entry Upgrade) first (λ m. refl) _ st.made
  call_marked st writer Group reply steps stood right =
      moved_none (moves_entry Group) first (λ m. refl) _ st.made
  call_marked st writer (Engage group) reply steps stood right =
      moved_none (moves_entry (Engage group)) first (λ m. refl) _ st.made
  call_marked st writer (Disengage group) reply steps stood right =
      moved_none (moves_entry (Disengage group)) first (λ m. refl) _ st.made
  call_marked st writer (Depend group on) reply steps stood right =
      moved_none (moves_entry (Depend group on)) first (λ m. refl) _ st.made
  call_marked st writer (CloseGroup group) reply steps stood right =
      moved_none (moves_entry (CloseGroup group)) first (λ m. refl) _ st.made
  call_marked st writer (Pending group) reply steps stood right =
      moved_none (moves_entry (Pending group)) first (λ m. refl) _ st.made

  write_makes_nothing : (step : Step) → is_write step ≡ true → makes_nothing step ≡ true
  write_makes_nothing (Create block start bytes after undo) h = h
  write_makes_nothing (Merge a b) h = refl
  write_makes_nothing (Send block) h = refl
  write_makes_nothing (Complete block) h = refl

  pub event_stood : (st : Standing) (event : Event) → Stood first st → IsRight st event
      → Stood first (after_event st event)
  event_stood st (Call writer command reply steps) stood (inl answered) = elim (cases_Bool (is_refused reply)) [
    | inl u ↦ (let made = answered.1 in stood_nothing given first sound st writer command reply steps stood (rw u at made) (refused_same st.map command reply u))
    | inr u ↦ (let made = answered.1 in whole_stood st writer command reply steps stood u (ap is_refused (sym answered.0) ∙ u) (rw u at made))
  ]
  event_stood st (Call writer command reply steps) stood (inr given) =
      cut_stood st writer command reply steps stood (ap is_refused given.reply_is) given.no_cause given.cut
  event_stood st (Moved step) stood right =
      record { store = given.others st.run first st.made step (write_makes_nothing step right) stood.store; good = stood.good; format = stood.format; said = stood.said }
