-- What the calls of a book add to it.
use Rattle.std.specs.Prelude.{ℕ, List, [], ◌∷◌, ◌++◌, ◌+◌, ◌≡◌, ◌≤◌, length, slice_index_or, slice_set, Option, None, MatchOption, Contains}
use Rattle.patch_model.specs.Step.{Step, Send, Complete}
use Rattle.patch_model.specs.State.{entries_of, state_of, flying_of, numbers_of}
use Rattle.patch_model.specs.Refusing.{why_not_sent}
use Rattle.patch_cache.specs.Flights.{IsSent}
use Rattle.patch_cache.specs.declared.flights.Flight.{Flight}
use Rattle.patch_cache.specs.declared.flights.Landed.{Landed}
use Rattle.patch_cache.specs.declared.writes.Done.{Done}
use Rattle.patch_history.specs.Command.{Command, Reply}
use Rattle.patch_shared.specs.declared.actors.Actor.{Actor}
use Rattle.patch_shared.specs.declared.actors.Actor.TheVariants.{Writer, Flusher, Completer}
use Rattle.patch_shared.specs.declared.actors.Counts.{Counts}
use Rattle.patch_shared.specs.Books.{Book, run_of}

abbrev pub IsWriter : Actor → Type 0
IsWriter (Writer n) = Unit {0}
IsWriter Flusher = ⊥
IsWriter Completer = ⊥

-- with one call more of this actor, and of no other
abbrev pub raised : Counts → Actor → Counts
raised c (Writer n) = record c { writers = slice_set c.writers n (slice_index_or c.writers n 0 + 1) }
raised c Flusher = record c { flusher = c.flusher + 1 }
raised c Completer = record c { completer = c.completer + 1 }

-- a call adds its own steps and its entry
pub record AddsCall (old new : Book) (actor : Actor) (command : Command) (reply : Reply) : Type 0 where
  pub run : List Step
  pub opening : new.opening ≡ old.opening
  pub steps : new.store.cache.trace ≡ old.store.cache.trace ++ run
  pub calls : new.calls ≡ old.calls ++ record { actor = actor; command = command; reply = reply; before = length old.store.cache.trace; after = length new.store.cache.trace } ∷ []
  pub counts : new.counts ≡ raised old.counts actor

-- one step, between the calls
pub record AddsStep (old new : Book) (actor : Actor) (step : Step) : Type 0 where
  pub opening : new.opening ≡ old.opening
  pub steps : new.store.cache.trace ≡ old.store.cache.trace ++ step ∷ []
  pub calls : new.calls ≡ old.calls
  pub counts : new.counts ≡ raised old.counts actor

-- A write was begun of the least block of which one can begin: it takes all that is ready of the block, and has its image.
pub record HasBegun {A : Type 0} (old new : Book) (actor : Actor) (flight : Flight A) : Type 0 where
  pub can : why_not_sent (run_of old) flight.block ≡ None
  pub least : (b : ℕ) → why_not_sent (run_of old) b ≡ None → flight.block ≤ b
  pub sent : IsSent (run_of old) flight.block flight
  pub adds : AddsStep old new actor (Send flight.block)

-- there is no block of which a write can begin, and nothing was done
pub record BeginsNone (old new : Book) : Type 0 where
  pub none : (b : ℕ) → why_not_sent (run_of old) b ≡ None → ⊥
  pub same : new ≡ old

abbrev pub HasSent : {A : Type 0} → (old new : Book) → Actor → Option (Flight A) → Type 0
HasSent old new actor sent = MatchOption sent (BeginsNone old new) (HasBegun old new actor)

-- the block's write of just this number was under way, and is ended: what was in flight of the block is durable
pub record HasEnded {A : Type 0} (old new : Book) (actor : Actor) (landed : Landed) (done : Done A) : Type 0 where
  pub known : Contains (state_of (run_of old)).flights (landed.block, landed.sequence)
  pub block_is : done.block ≡ landed.block
  pub numbers_are : done.numbers ≡ numbers_of (flying_of (entries_of (run_of old)) landed.block)
  pub adds : AddsStep old new actor (Complete landed.block)

-- no write of just this number is under way on its block
abbrev pub IsStranger : Book → Landed → Type 0
IsStranger b landed = Contains (state_of (run_of b)).flights (landed.block, landed.sequence) → ⊥
