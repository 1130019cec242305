-- A legal history is that of a store.
use Rattle.std.proofs.Common.{◌∙◌, ◌++◌, Bool, map, sym, ap, take, ◌≡◌, ℕ, ◌+◌, ◌<◌, ◌^◌, List, [], ◌∷◌, length, refl}
use Rattle.std.proofs.Common.{◌≤◌, true, false, arith, subst}
use Rattle.std.specs.Prelude.{◌&&◌, nat_le}
use Rattle.std.proofs.lemmas.Bool.Decides.{nat_tests}
use Rattle.patch_frame.specs.declared.pointers.Pointer.{Pointer}
use Rattle.std.specs.Prelude.{fold, drop, All, ◌-◌}
use Rattle.std.specs.List.{range_with_len}
use Rattle.std.proofs.lemmas.List.{length-take, length-drop}
use Rattle.std.proofs.lemmas.List.Elements.{All-take, All-drop}
use Rattle.patch_model.specs.declared.blocks.TheConstants.{BLOCK}
use Rattle.patch_frame.specs.Geometry.{largest_pointer, pointer_block, pointer_start}
use Rattle.patch_recovery.specs.Reading.{block_on, record_at}
use Rattle.patch_recovery.specs.Store.{IsOfStore}
use Rattle.patch_recovery.specs.Lasting.{IsReadAs}
use Rattle.patch_history.specs.History.{History, Event, AreRight, IsLegalHistory, after_event, standing_of}
use Rattle.patch_history.specs.Shelf.{may_be_current}
use Rattle.patch_history.specs.StoreState.{Standing, at_opening}
use Rattle.patch_history.specs.Laws.{HistoriesAreOfStores, MapsAreSaid}
use Rattle.patch_history.specs.LawsBelow.{Given}
use Rattle.patch_history.proofs.Members.{from_range}
use Rattle.patch_history.proofs.Calls.{event_stood}
use Rattle.patch_history.proofs.Events.{Stood}
use Rattle.patch_history.proofs.Extending.{standings_run}
use Rattle.patch_history.proofs.Keeping.{holds-opened}
use Rattle.patch_history.proofs.Places.{find_in, find_passes}
use Rattle.std.proofs.lemmas.List.{append_assoc, append-nil, length-append, length-map}
use Rattle.patch_recovery.specs.Said.{AreMoves}
use Rattle.patch_history.specs.Closed.{HistoriesMove, marks_in, marks_from, moves_entry}
use Rattle.patch_history.specs.History.{Call, Moved, IsRight}
use Rattle.patch_history.specs.StoreState.{creates, plan_of}
use Rattle.patch_history.proofs.Calls.{call_marked}
use Rattle.patch_history.proofs.Going.{onto_length}
use Rattle.patch_history.proofs.Moved.{HasStores, has_stores, marked, marked_plan}
use Rattle.std.specs.Prelude.{count_by}
use Rattle.patch_model.specs.Entry.{is_live}
use Rattle.patch_model.specs.State.{entries_of}
use Rattle.patch_frame.specs.declared.geometries.Geometry.{Geometry}
use Rattle.patch_recovery.specs.Change.{Made, patch_of, patches_of}
use Rattle.patch_history.specs.History.{execution_of}
use Rattle.patch_history.specs.Laws.{StandingsAgree}

first_holds : (a b : Bool) → (a && b) ≡ true → a ≡ true
first_holds true b is = refl
first_holds false b is = absurd (let g : false ≡ true = is in cc)

module _ (given : Given) where
  pub opened_by : (h : History) → IsLegalHistory h → IsReadAs h.opening h.first
  opened_by h l = given.read h.opening h.first l.legal.blocks l.reads

  -- each pointer record at first has a generation of 32 bits
  first_few : (h : History) → IsLegalHistory h → (e : ℕ) → e < h.first.geometry.extents
      → (h.first.pointer e).generation < 2 ^ 32
  first_few h l e less =
      let start = opened_by h l in
      let count = start.count in
      let few = start.valid.few_extents in
      let at = pointer_block h.first.geometry in
      let inside : pointer_block h.first.geometry < length h.opening = omega arith in
      let block = block_on h.opening (pointer_block h.first.geometry) in
      let long : length (block_on h.opening (pointer_block h.first.geometry)) ≡ BLOCK = l.legal.blocks at [] inside in
      let dropped = length-drop (pointer_start e) (block_on h.opening (pointer_block h.first.geometry)) in
      let cut = length-take (pointer_start e + 8 - pointer_start e)
      (drop (pointer_start e) (block_on h.opening (pointer_block h.first.geometry))) in
      let eight : length (record_at h.first.geometry h.opening e) ≡ 8 = omega arith in
      let bytes : All (λ byte. byte < 256) (record_at h.first.geometry h.opening e) =
      All-take (λ byte. byte < 256) (pointer_start e + 8 - pointer_start e) _
      (All-drop (λ byte. byte < 256) (pointer_start e) block (l.bytes at [] inside)) in
      (given.pointers.spelled (largest_pointer h.first.geometry.format) (record_at h.first.geometry h.opening e)
      (h.first.pointer e) bytes eight (start.points e less)).0.generation

  stood_first : (h : History) → IsLegalHistory h → Stood h.first (at_opening h.opening h.first)
  stood_first h l = record {
    store = record { blocks = l.legal.blocks; read = l.reads; patches = refl; well_made = tt };
    good = record {
      holds = holds-opened h.first;
      well = tt;
      current = λ e at.
          let found = find_in (may_be_current h.first) (range_with_len 0 h.first.geometry.extents) e at in
          let within = (from_range 0 h.first.geometry.extents e found).1 in
          omega arith;
      begun = λ e at.
          let test = find_passes (may_be_current h.first) (range_with_len 0 h.first.geometry.extents) e at in
          let low : nat_le 1 (h.first.pointer e).offset ≡ true = first_holds _ _ test in
          grind (arith, nat_tests, low);
      few = first_few h l;
    };
    format = refl;
    said = λ key. refl;
  }

  pub stores_of : (h : History) → IsLegalHistory h → HasStores h.first
  stores_of h l = has_stores given.begin given.grow h.opening h.first l.legal.blocks l.reads

  stood_on : (h : History) → IsLegalHistory h → (events : List Event) (st : Standing) → Stood h.first st
      → AreRight st events → Stood h.first (fold after_event st events)
  stood_on h l [] st stood right = stood
  stood_on h l (event ∷ events) st stood right =
      let start = opened_by h l in
      stood_on h l events (after_event st event)
      (event_stood given h.first start.sound start.valid (stores_of h l) st event stood right.0) right.1

  pub stood_all : (h : History) → IsLegalHistory h → Stood h.first (standing_of h)
  stood_all h l = stood_on h l h.events (at_opening h.opening h.first) (stood_first h l) l.right

  pub histories_are_of_stores : HistoriesAreOfStores
  histories_are_of_stores h l =
      subst (λ run. IsOfStore run h.first (standing_of h).made) (standings_run h) (stood_all h l).store

  pub maps_are_said : MapsAreSaid
  maps_are_said h key l = (stood_all h l).said key

  -- Which patches move entries.

  event_marked : (h : History) → IsLegalHistory h → (event : Event) (st : Standing) (marks : List Bool)
      → Stood h.first st → IsRight st event → length marks ≡ length st.made → AreMoves (marked marks) h.first st.made
      → (length (marks ++ marks_in st event) ≡ length (after_event st event).made)
      × AreMoves (marked (marks ++ marks_in st event)) h.first (after_event st event).made
  event_marked h l (Call writer command reply steps) st marks stood right count are =
      let start = opened_by h l in
      let done = take (creates steps) (plan_of st writer command) in
      let moved =
      call_marked given h.first start.sound start.valid (stores_of h l) st writer command reply steps stood right in
      let long = length-append marks (map (moves_entry command) done) in
      let each = length-map done (moves_entry command) in
      let made = onto_length done st.made in
      (omega (arith, long, each, made, count), marked_plan (moves_entry command) h.first done st.made marks count are moved)
  event_marked h l (Moved step) st marks stood right count are =
      (ap length (append-nil marks) ∙ count, subst (λ ms. AreMoves (marked ms) h.first st.made) (sym (append-nil marks)) are)

  marked_on : (h : History) → IsLegalHistory h → (events : List Event) (st : Standing) (marks : List Bool)
      → Stood h.first st → AreRight st events → length marks ≡ length st.made → AreMoves (marked marks) h.first st.made
      → AreMoves (marked (marks ++ marks_from st events)) h.first (fold after_event st events).made
  marked_on h l [] st marks stood right count are =
      subst (λ ms. AreMoves (marked ms) h.first st.made) (sym (append-nil marks)) are
  marked_on h l (event ∷ events) st marks stood right count are =
      let start = opened_by h l in
      let one = event_marked h l event st marks stood right.0 count are in
      let now = event_stood given h.first start.sound start.valid (stores_of h l) st event stood right.0 in
      subst (λ ms. AreMoves (marked ms) h.first (fold after_event (after_event st event) events).made)
      (append_assoc marks (marks_in st event) (marks_from (after_event st event) events))
      (marked_on h l events (after_event st event) (marks ++ marks_in st event) now right.1 one.0 one.1)

  pub histories_move : HistoriesMove
  histories_move h l =
      marked_on h l h.events (at_opening h.opening h.first) [] (stood_first h l) l.right refl tt

  -- What a standing says.

  length-patches_of : (g : Geometry) (ms : List Made) → length (patches_of g ms) ≡ length ms
  length-patches_of g [] = refl
  length-patches_of g (m ∷ ms) =
      let rest = length-patches_of g ms in
      let all = length-append (patches_of g ms) (patch_of g (length ms) m ∷ []) in
      omega (arith, rest, all)

  pub standings_agree : StandingsAgree
  standings_agree h l =
      let stood = stood_all h l in
      let store = histories_are_of_stores h l in
      let lasts = given.last h.first (standing_of h).made (opened_by h l).sound store.well_made in
      record {
        format = stood.format;
        made = sym (length-patches_of h.first.geometry (standing_of h).made) ∙ ap length (sym store.patches)
            ∙ length-map (entries_of (execution_of h)) (λ e. e.patch);
        live = ap (λ run. count_by is_live (entries_of run)) (standings_run h);
        tells = record {
          has = λ slot f c at frame. stood.said f.key ∙ lasts.tells.has slot f c at frame;
          only = λ key v told. lasts.tells.only key v (sym (stood.said key) ∙ told);
        };
        current = λ e at.
            let known = stood.good.current e at in
            let extents = stood.good.holds.extents in
            omega (arith, known, extents);
        begun = λ e at.
            let known = stood.good.current e at in
            let extents = stood.good.holds.extents in
            subst (λ (p : Pointer). 1 ≤ p.offset) (sym (stood.good.holds.shelf.pointer e (omega (arith, known, extents)))) (stood.good.begun e at);
      }
