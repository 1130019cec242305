-- A file after a write that was tried, and after a sync.
use Rattle.std.proofs.Common.{◌≡◌, ℕ, List, [], ◌∷◌, ◌++◌, Option, Some, None, Bool, true, length, refl, sym, ap, arith, ◌∙◌}
use Rattle.std.specs.Prelude.{slice_get, slice_set, IsNone, MatchOption}
use Rattle.std.specs.Option.{ForSome}
use Rattle.patch_model.specs.declared.blocks.TheConstants.{BLOCK}
use Rattle.patch_device.specs.Blocks.{AreWhole}
use Rattle.patch_device.specs.Device.{LandsOrNot, LeavesNoMore, LeavesJust}
use Rattle.patch_device.specs.Cuts.{Event, written_behind, left_of, written_more, written_synced, counted_more, whole_more, lands_of, no_more_behind, lasts_behind}

pub written_then : (first first' : List (List ℕ)) (es es' : List Event) (w : ℕ × List ℕ) → first' ≡ first → es' ≡ es ++ Some w ∷ []
    → written_behind first' es' ≡ slice_set (written_behind first es) w.0 w.1
written_then first first' es es' w same more = rw (same, more) (written_more first es w)

pub counted_then : (first first' : List (List ℕ)) (es es' : List Event) (w : ℕ × List ℕ) (count : ℕ) → first' ≡ first → es' ≡ es ++ Some w ∷ []
    → length (written_behind first es) ≡ count → length (written_behind first' es') ≡ count
counted_then first first' es es' w count same more counted = rw (same, more) (counted_more first es w ∙ counted)

pub whole_then : (first first' : List (List ℕ)) (es es' : List Event) (w : ℕ × List ℕ) → first' ≡ first → es' ≡ es ++ Some w ∷ [] → length w.1 ≡ BLOCK
    → AreWhole (written_behind first es) → AreWhole (written_behind first' es')
whole_then first first' es es' w same more long whole = rw (same, more) (whole_more first es w long whole)

pub lands_then : (synced synced' : Bool) (first first' : List (List ℕ)) (es es' : List Event) (w : ℕ × List ℕ) → synced' ≡ synced → first' ≡ first → es' ≡ es ++ Some w ∷ []
    → LandsOrNot (left_of synced first es (length es)) w.0 w.1 (left_of synced' first' es' (length es'))
lands_then synced synced' first first' es es' w as_before same more = rw (as_before, same, more) (lands_of synced first es w)

pub synced_then : (first first' : List (List ℕ)) (es es' : List Event) → first' ≡ first → es' ≡ es ++ None ∷ [] → written_behind first' es' ≡ written_behind first es
synced_then first first' es es' same more = rw (same, more) (written_synced first es)

pub no_more_then : (synced synced' : Bool) (first first' : List (List ℕ)) (es es' : List Event) → synced ≡ true → synced' ≡ true → first' ≡ first → es' ≡ es ++ None ∷ []
    → LeavesNoMore (left_of synced first es (length es)) (left_of synced' first' es' (length es'))
no_more_then synced synced' first first' es es' on still_on same more = rw (on, still_on, same, more) (no_more_behind first es)

pub lasts_then : (synced : Bool) (first first' : List (List ℕ)) (es es' : List Event) → synced ≡ true → first' ≡ first → es' ≡ es ++ None ∷ []
    → LeavesJust (written_behind first' es') (left_of synced first' es' (length es'))
lasts_then synced first first' es es' on same more = rw (on, same, more) (λ disk left. lasts_behind first es disk left ∙ sym (written_synced first es))

-- what is read as it is remembered is what the file holds
pub read_as_remembered : (remembered contents : List (List ℕ)) (n : ℕ) (block into : List ℕ) → remembered ≡ contents → slice_get remembered n ≡ Some block → into ≡ block
    → slice_get contents n ≡ Some into
read_as_remembered remembered contents n block into is there same = rw (← is, same) there

-- what is remembered is put as it is written
pub remembered_then : {V : Type 0} (items : V → List (List ℕ)) (before now : Option V) (old new : List (List ℕ)) (w : ℕ × List ℕ)
    → MatchOption before (IsNone now) (λ b. MatchOption now ⊥ (λ a. items a ≡ slice_set (items b) w.0 w.1))
    → new ≡ slice_set old w.0 w.1 → ForSome before (λ b. items b ≡ old) → ForSome now (λ a. items a ≡ new)
remembered_then items None None old new w put more was a is = cc
remembered_then items None (Some kept) old new w put more was a is = cc
remembered_then items (Some before) None old new w put more was a is = cc
remembered_then items (Some before) (Some kept) old new w put more was a is = grind (arith, put, more, was before refl, is)
