-- Writes on their way to the disk.
use Rattle.std.specs.Prelude.{ℕ, Bool, true, false, ◌≡◌, ◌≤◌, MatchOption, List, Option, Some, None, Contains, slice_get, IsTrue, IsFalse}
use Rattle.patch_model.specs.Execution.{Execution, extended}
use Rattle.patch_model.specs.Step.{Send, Complete}
use Rattle.patch_model.specs.Ready.{ready}
use Rattle.patch_model.specs.State.{entries_of, state_of, has_flight, flying_of, numbers_of}
use Rattle.patch_model.specs.History.{history_of, image}
use Rattle.patch_model.specs.Refusing.{why_not_sent}
use Rattle.patch_model.specs.Member.{In}
use Rattle.patch_cache.specs.Contents.{Contents, Write}
use Rattle.patch_cache.specs.Meaning.{IsCacheBy}
use Rattle.patch_cache.specs.declared.flights.Flight.{Flight}
use Rattle.patch_cache.specs.declared.flights.Landed.{Landed}
use Rattle.patch_cache.specs.declared.writes.Done.{Done}

-- the least block of which a write can begin, if there is one
abbrev pub IsLeastReady : Execution → Option ℕ → Type 0
IsLeastReady run least =
    MatchOption least ((b : ℕ) → why_not_sent run b ≡ None → ⊥) (λ block. (why_not_sent run block ≡ None) × ((b : ℕ) → why_not_sent run b ≡ None → block ≤ b))

-- the write of the block that begins next: how many began before it, all that is ready, and the block's image with it
pub record IsSent {A : Type 0} (run : Execution) (block : ℕ) (flight : Flight A) : Type 0 where
  pub block_is : flight.block ≡ block
  pub sequence_is : flight.sequence ≡ (state_of run).sends
  pub numbers_are : flight.numbers ≡ numbers_of (ready (entries_of run) block)
  pub image_is : flight.image ≡ image (history_of (extended run (Send block)) block)

-- a write of the block may begin, and takes these patches
abbrev pub MaySend : Execution → (block : ℕ) → List ℕ → Type 0
MaySend run block numbers = (why_not_sent run block ≡ None) × (numbers ≡ numbers_of (ready (entries_of run) block))

-- it is begun, and the cache has it under way
abbrev pub IsBegunBy : {A : Type 0} → (whole : Bool) → Execution → (block : ℕ) → Flight A → Contents → Type 0
IsBegunBy whole run block flight c = IsSent run block flight × IsCacheBy whole c (extended run (Send block))

abbrev pub IsBegun : {A : Type 0} → Execution → (block : ℕ) → Flight A → Contents → Type 0
IsBegun run block flight c = IsBegunBy true run block flight c

-- a write that was begun and not completed, with what is in flight of its block, and the block's image
pub record IsFlightOf {A : Type 0} (run : Execution) (flight : Flight A) : Type 0 where
  pub known : Contains (state_of run).flights (flight.block, flight.sequence)
  pub numbers_are : flight.numbers ≡ numbers_of (flying_of (entries_of run) flight.block)
  pub image_is : flight.image ≡ image (history_of run flight.block)

-- These are writes of the execution that were begun and not completed, each once; and where no others are held elsewhere, all of
-- them.
pub record AreFlightsBeside {A : Type 0} (others : Bool) (run : Execution) (held : List (Flight A)) : Type 0 where
  pub each : (flight : Flight A) → In held flight → IsFlightOf run flight
  pub all : IsFalse others → (block : ℕ) → IsTrue (has_flight (state_of run) block)
      → (flight : Flight A) × In held flight × (flight.block ≡ block)
  pub once : (i j : ℕ) (f g : Flight A) → slice_get held i ≡ Some f → slice_get held j ≡ Some g → f.block ≡ g.block → i ≡ j

-- these are all of them
abbrev pub AreFlightsOf : {A : Type 0} → Execution → List (Flight A) → Type 0
AreFlightsOf run held = AreFlightsBeside false run held

-- the block's write is ended: it was under way, and what was in flight of the block is durable in the cache
abbrev pub IsEndedBy : {A : Type 0} → (whole : Bool) → Execution → Landed → Done A → Contents → Type 0
IsEndedBy whole run landed done c =
    Contains (state_of run).flights (landed.block, landed.sequence)
    × (done.block ≡ landed.block)
    × (done.numbers ≡ numbers_of (flying_of (entries_of run) landed.block))
    × IsCacheBy whole c (extended run (Complete landed.block))

abbrev pub IsEnded : {A : Type 0} → Execution → Landed → Done A → Contents → Type 0
IsEnded run landed done c = IsEndedBy true run landed done c

-- a block's write, if it has this number, was taken out
abbrev pub IsWithdrawn : Option Write → ℕ → Option Write → Option Write → Type 0
IsWithdrawn old sequence None new = (new ≡ old) × ((write : Write) → old ≡ Some write → write.sequence ≡ sequence → ⊥)
IsWithdrawn old sequence (Some write) new = (old ≡ Some write) × (write.sequence ≡ sequence) × (new ≡ None)
