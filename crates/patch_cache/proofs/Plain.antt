-- Asks that leave the device alone.
use Rattle.std.proofs.Common.{ℕ, Bool, true, false, List}
use Rattle.std.specs.Prelude.{if◌then◌else◌}
use Rattle.patch_model.specs.declared.patches.Undo.{Undo}
use Rattle.patch_model.specs.Execution.{Execution}
use Rattle.patch_cache.specs.Asks.{Ask, Answer, Create, Merge, View, is_refused, step_for, extended_by, after}
use Rattle.patch_cache.specs.Flights.{AreFlightsOf}
use Rattle.patch_cache.specs.declared.asks.Move.{Move}
use Rattle.patch_cache.specs.declared.flights.Flight.{Flight}
use Rattle.patch_cache.proofs.HeldFlights.{StatesExtend, StayMade, StayMerged, ImagesStay, held_create, held_merge}

-- what holds of the execution, and with the ask's step, holds after the ask
pub either : (P : Execution → Type 0) (run : Execution) (ask : Ask) (b : Bool) → P run → P (extended_by run (step_for ask)) → P (if b then run else extended_by run (step_for ask))
either P run ask true p q = p
either P run ask false p q = q

pub create_held : {A : Type 0} → StatesExtend → StayMade → ImagesStay → (run : Execution) (block start : ℕ) (bytes named : List ℕ) (undo : Undo) (answer : Answer) (held : List (Flight A))
    → AreFlightsOf run held → AreFlightsOf (after run (Create block start bytes named undo) answer) held
create_held extend made stay run block start bytes named undo answer held are =
    either (λ r. AreFlightsOf r held) run (Create block start bytes named undo) (is_refused answer) are (held_create extend made stay run block start bytes named undo held are)

pub merge_held : {A : Type 0} → StatesExtend → StayMerged → ImagesStay → (run : Execution) (a b : ℕ) (answer : Answer) (held : List (Flight A))
    → AreFlightsOf run held → AreFlightsOf (after run (Merge a b) answer) held
merge_held extend merged stay run a b answer held are =
    either (λ r. AreFlightsOf r held) run (Merge a b) (is_refused answer) are (held_merge extend merged stay run a b held are)

-- a view adds no step
pub view_kept : (P : Execution → Type 0) (run : Execution) (block : ℕ) (moves : List Move) (start len : ℕ) (answer : Answer) → P run → P (after run (View block moves start len) answer)
view_kept P run block moves start len answer p = either P run (View block moves start len) (is_refused answer) p p
