-- What is known of a put or a reclaim that isn't refused.
use Rattle.std.proofs.Common.{◌≡◌, ℕ, ◌<◌, ◌∙◌, inl, inr, List, [], ◌∷◌, ◌++◌, length, Some, None, refl, sym, ap}
use Rattle.std.proofs.Common.{arith, subst}
use Rattle.std.specs.Prelude.{unwrap_or}
use Rattle.std.proofs.lemmas.Bool.{cases_lt}
use Rattle.std.proofs.lemmas.List.{get_or_past}
use Rattle.patch_frame.specs.Geometry.{slot_count, largest_pointer}
use Rattle.patch_frame.specs.Frame.{Content, length_of}
use Rattle.patch_recovery.specs.Change.{Made}
use Rattle.patch_recovery.specs.Ledger.{Ledger, after_all, value_in}
use Rattle.patch_plans.specs.Extents.{offset_at}
use Rattle.patch_history.specs.Command.{Done}
use Rattle.patch_history.specs.Choosing.{current_for, extent_for_move, live_frames}
use Rattle.patch_history.specs.Planning.{moves}
use Rattle.patch_history.specs.Shelf.{Shelf}
use Rattle.patch_history.specs.StoreState.{made_by, onto}
use Rattle.patch_history.specs.Refusing.{why_not_reclaimed}
use Rattle.patch_history.specs.History.{standing_of}
use Rattle.patch_history.specs.Fitting.{HasPlace, PutsFit, FramesAreThere, ReclaimsGoOn, shelf_behind, next_behind}
use Rattle.patch_history.specs.LawsBelow.{Given}
use Rattle.patch_history.proofs.Bridging.{stood_all, opened_by, stores_of}
use Rattle.patch_history.proofs.Calls.{put_ready, reclaim_start}
use Rattle.patch_history.proofs.Events.{emptying}
use Rattle.patch_history.proofs.Framing.{FrameFits}
use Rattle.patch_history.proofs.Going.{Good}
use Rattle.patch_history.proofs.Judged.{no_cause, reclaim_done}
use Rattle.patch_history.proofs.Moving.{move_cases, move_chosen}
use Rattle.patch_history.proofs.Reclaiming.{Ready, moves_well, moves_rest, content_is, move_fits}

-- a frame that fits has its place
place_of : (s : Shelf) (first : Ledger) (made : List Made) (extent slot : ℕ) (c : Content) → Good s first made
    → FrameFits first made extent slot c → HasPlace s extent (length_of c)
place_of s first made extent slot c good fits =
    let geometry = good.holds.shelf.geometry in
    let same : s.extents.geometry.extents ≡ (after_all first made).geometry.extents = ap (λ g. g.extents) geometry in
    let extents = good.holds.extents in
    let known = fits.known in
    let room = fits.room in
    let pointer : offset_at s.extents extent ≡ ((after_all first made).pointer extent).offset =
    ap (λ p. p.offset) (good.holds.shelf.pointer extent (omega (arith, known, extents))) in
    let largest : largest_pointer s.extents.geometry.format ≡ largest_pointer (after_all first made).geometry.format =
    ap (λ g. largest_pointer g.format) geometry in
    record { known = omega (arith, known, extents, same); room = omega (arith, room, pointer, largest) }

module _ (given : Given) where
  pub puts_fit : PutsFit
  puts_fit h writer c l answered =
      let st = standing_of h in
      let stood = stood_all given h l in
      let start = opened_by given h l in
      let ready =
      put_ready given h.first start.sound start.valid (stores_of given h l) st writer c.key c.value stood answered in
      let counts = stood.good.holds.shelf.slots in
      let slots = stood.good.holds.slots in
      let within = ready.fits.slot in
      record {
        slot = ready.slot;
        extent = ready.extent;
        slot_is = ready.slot_is;
        extent_is = ready.extent_is;
        plan_is = ready.is;
        within = omega (arith, within, counts, slots);
        place = place_of st.shelf h.first st.made ready.extent ready.slot c stood.good ready.fits;
        fits = ready.short;
      }

  pub frames_are_there : FramesAreThere
  frames_are_there h slot f l at =
      let st = standing_of h in
      let stood = stood_all given h l in
      let lasts = given.last h.first st.made (opened_by given h l).sound stood.good.well in
      let shelf = stood.good.holds.shelf in
      let counts = shelf.slots in
      let within : slot < length st.shelf.slots = elim (cases_lt slot (length st.shelf.slots)) [
        | inl less ↦ less
        | inr past ↦ absurd (let none : None ≡ Some f = sym (get_or_past st.shelf.slots slot None past) ∙ at in cc)
      ] in
      let says = sym (shelf.slot slot (omega (arith, within, counts))) ∙ at in
      let n = lasts.sound.named slot f says in
      let value : value_in st.map.entries f.key ≡ Some n.content.value =
      stood.said f.key ∙ lasts.tells.has slot f n.content says n.frame in
      record {
        named = n;
        content = ap (λ k. record { key = k; value = n.content.value }) n.key
            ∙ ap (λ o. record { key = f.key; value = unwrap_or o [] }) (sym value);
      }

  pub reclaims_go_on : ReclaimsGoOn
  reclaims_go_on h writer extent before f rest moved l answered are some_moved =
      let st = standing_of h in
      let n = made_by (standing_of h) in
      let stood = stood_all given h l in
      let start = opened_by given h l in
      let stores = stores_of given h l in
      let entries = (standing_of h).map.entries in
      let at_first = (after_all h.first (standing_of h).made).pointer extent in
      let can = reclaim_done st extent (no_cause (why_not_reclaimed st extent) Done answered) in
      let all = emptying st extent can.plan (moves entries st.shelf n (live_frames st.shelf extent)) refl can.is in
      let all_moved : moves entries st.shelf n (before ++ f ∷ rest) ≡ Some all.moved =
      ap (moves entries st.shelf n) (sym are) ∙ all.moves_are in
      let ready = subst (Ready h.first entries extent at_first st.shelf st.made) are
      (reclaim_start given h.first start.sound start.valid stores st extent stood can) in
      let known = can.known in
      let geometry : st.shelf.extents.geometry.extents ≡ (after_all h.first st.made).geometry.extents =
      ap (λ g. g.extents) stood.good.holds.shelf.geometry in
      let extents = stood.good.holds.extents in
      let known_first : extent < h.first.geometry.extents = omega (arith, known, geometry, extents) in
      let went = moves_well given h.first start.sound start.valid stores entries extent at_first known_first before
      (f ∷ rest) st.shelf st.made n moved refl ready some_moved in
      let s = shelf_behind h moved in
      let made = onto moved (standing_of h).made in
      let good = went.ready.good in
      let there = content_is given h.first start.sound start.valid stores entries extent at_first known_first s made
      (f ∷ rest) went.ready f (inl refl) in
      let go_on = moves_rest entries before (f ∷ rest) st.shelf n all.moved moved all_moved some_moved in
      let case =
      move_cases entries s (next_behind h moved) f rest go_on.0 (extent_for_move s f.1.length) refl go_on.1 in
      let chosen = move_chosen s f.1.length case.extent (current_for s f.1.length) refl case.chosen in
      let fits = move_fits given h.first start.sound start.valid stores entries extent at_first known_first s made f rest
      case.extent went.ready chosen in
      let long = ap length_of (sym there.content) ∙ there.named.length in
      let waits = went.ready.waits f (inl refl) in
      let low = waits.0 in
      let counts = good.holds.shelf.slots in
      let slots = good.holds.slots in
      let now : f.0 < slot_count (after_all h.first made).geometry = omega (arith, low, slots) in
      record {
        there = there;
        within = omega (arith, now, counts);
        used = good.holds.shelf.slot f.0 now ∙ waits.1;
        extent = case.extent;
        extent_is = case.chosen;
        place = subst (HasPlace s case.extent) long (place_of s h.first made case.extent f.0 _ good fits);
        plan = go_on.0;
        plan_is = go_on.1;
      }
