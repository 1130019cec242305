-- Writes that a store begins and ends.
use Rattle.std.specs.Prelude.{ℕ, ◌≡◌, ◌≤◌, MatchOption, Contains, Option, None}
use Rattle.patch_model.specs.Step.{Send, Complete}
use Rattle.patch_model.specs.State.{entries_of, state_of, flying_of, numbers_of}
use Rattle.patch_model.specs.Refusing.{why_not_sent}
use Rattle.patch_cache.specs.Flights.{IsSent}
use Rattle.patch_cache.specs.declared.flights.Flight.{Flight}
use Rattle.patch_cache.specs.declared.flights.Landed.{Landed}
use Rattle.patch_cache.specs.declared.writes.Done.{Done}
use Rattle.patch_history.specs.History.{History, Moved, execution_of}
use Rattle.patch_store.specs.Meaning.{Store, HasGained}

-- a write was begun of the least block of which one can begin, and takes all that is ready of it
pub record HasBegun {A : Type 0} (h : History) (flight : Flight A) (old new : Store) : Type 0 where
  pub can : why_not_sent (execution_of h) flight.block ≡ None
  pub least : (b : ℕ) → why_not_sent (execution_of h) b ≡ None → flight.block ≤ b
  pub sent : IsSent (execution_of h) flight.block flight
  pub gained : HasGained h (Moved (Send flight.block)) old new

-- or there is no block of which one can begin
abbrev pub HasSent : {A : Type 0} → History → Option (Flight A) → (old new : Store) → Type 0
HasSent h sent old new =
    MatchOption sent ((b : ℕ) → why_not_sent (execution_of h) b ≡ None → ⊥) (λ flight. HasBegun h flight old new)

-- the block's write was under way and is ended, and what was in flight of the block is durable
pub record HasEnded {A : Type 0} (h : History) (landed : Landed) (done : Done A) (old new : Store) : Type 0 where
  pub known : Contains (state_of (execution_of h)).flights (landed.block, landed.sequence)
  pub block_is : done.block ≡ landed.block
  pub numbers_are : done.numbers ≡ numbers_of (flying_of (entries_of (execution_of h)) landed.block)
  pub gained : HasGained h (Moved (Complete landed.block)) old new
