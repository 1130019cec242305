-- One event more on a tape.
use Rattle.std.proofs.Common.{◌≡◌, ◌∙◌, ℕ, suc, ◌-◌, List, [], ◌∷◌, ◌++◌, Some, None, length, refl, sym, subst, arith}
use Rattle.std.specs.Prelude.{slice_get, slice_set}
use Rattle.patch_model.specs.declared.blocks.TheConstants.{BLOCK}
use Rattle.patch_device.specs.Blocks.{AreWhole}
use Rattle.patch_device.specs.Device.{Elapses, LandsOrNot, LeavesNoMore, LeavesJust}
use Rattle.patch_device.specs.Writes.{after_writes}
use Rattle.patch_device.specs.Cuts.{Event, Cached, MayLand, MayBeLeft, after_event, after_events, cached_behind, written_behind, left_behind, left_now, counted_more, whole_more, written_more, written_synced, elapses_behind, lands_behind, lasts_behind, no_more_behind}

-- a write

pub written_then : (first : List (List ℕ)) (es now : List Event) (w : ℕ × List ℕ) → now ≡ es ++ Some w ∷ [] → written_behind first now ≡ slice_set (written_behind first es) w.0 w.1
written_then first es now w more = rw more (written_more first es w)

pub counted_then : (first : List (List ℕ)) (es now : List Event) (w : ℕ × List ℕ) → now ≡ es ++ Some w ∷ [] → length (written_behind first now) ≡ length (written_behind first es)
counted_then first es now w more = rw more (counted_more first es w)

pub whole_then : (first : List (List ℕ)) (es now : List Event) (w : ℕ × List ℕ) → now ≡ es ++ Some w ∷ [] → length w.1 ≡ BLOCK → AreWhole (written_behind first es)
    → AreWhole (written_behind first now)
whole_then first es now w more long whole = rw more (whole_more first es w long whole)

pub lands_then : (first : List (List ℕ)) (es now : List Event) (w : ℕ × List ℕ) → now ≡ es ++ Some w ∷ []
    → LandsOrNot (left_behind first es (length es)) w.0 w.1 (left_behind first now (length now))
lands_then first es now w more = rw more (lands_behind first es w)

-- a write or a barrier
pub elapses_then : (first : List (List ℕ)) (es now : List Event) (e : Event) → now ≡ es ++ e ∷ []
    → Elapses (length es) (length now) (left_behind first es) (left_behind first now)
elapses_then first es now e more = rw more (elapses_behind first es e)

-- a barrier

pub synced_then : (first : List (List ℕ)) (es now : List Event) → now ≡ es ++ None ∷ [] → written_behind first now ≡ written_behind first es
synced_then first es now more = rw more (written_synced first es)

pub no_more_then : (first : List (List ℕ)) (es now : List Event) → now ≡ es ++ None ∷ []
    → LeavesNoMore (left_behind first es (length es)) (left_behind first now (length now))
no_more_then first es now more = rw more (no_more_behind first es)

pub lasts_then : (first : List (List ℕ)) (es now : List Event) → now ≡ es ++ None ∷ [] → LeavesJust (written_behind first now) (left_behind first now (length now))
lasts_then first es now more = rw more (λ disk left. lasts_behind first es disk left ∙ sym (written_synced first es))

-- or none, since none is needed: where the last event is no write, no write is loose

some_last : (e : Event) (es : List Event) → slice_get (e ∷ es) (length es) ≡ None → ⊥
some_last e [] none = cc
some_last e (f ∷ es) none = some_last f es none

ends_synced : (state : Cached) (e : Event) (es : List Event) → slice_get (e ∷ es) (length es) ≡ Some None → (after_events state (e ∷ es)).loose ≡ []
ends_synced state None [] last = refl
ends_synced state (Some w) [] last = absurd (cc)
ends_synced state e (f ∷ es) last = ends_synced (after_event state e) f es last

pub none_loose : (first : List (List ℕ)) (es : List Event) → slice_get es (length es - 1) ≡ Some None → (cached_behind first es).loose ≡ []
none_loose first [] last = refl
none_loose first (e ∷ es) last =
    let place : suc (length es) - 1 ≡ length es = omega arith in
    ends_synced (record { lasting = first; loose = [] }) e es (subst (λ n. slice_get (e ∷ es) n ≡ Some None) place last)

-- or where there is none
pub none_at_all : (first : List (List ℕ)) (es : List Event) → slice_get es (length es - 1) ≡ None → (cached_behind first es).loose ≡ []
none_at_all first [] none = refl
none_at_all first (e ∷ es) none =
    let place : suc (length es) - 1 ≡ length es = omega arith in
    absurd (some_last e es (subst (λ n. slice_get (e ∷ es) n ≡ None) place none))

just_there : (state : Cached) (disk : List (List ℕ)) → state.loose ≡ [] → MayBeLeft state disk → disk ≡ after_writes state.lasting state.loose
just_there state disk none left =
    subst (λ ws. MayLand state.lasting ws disk → disk ≡ after_writes state.lasting ws) (sym none) (λ is. is) left

pub lasts_still : (first : List (List ℕ)) (es : List Event) → (cached_behind first es).loose ≡ [] → LeavesJust (written_behind first es) (left_behind first es (length es))
lasts_still first es none disk left =
    just_there (cached_behind first es) disk none (subst (λ (now : List (List ℕ) → Type 0). now disk) (left_now first es) left)
