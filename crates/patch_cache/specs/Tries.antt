-- How often the write of each flight is tried, and that no flight is lost.
use Rattle.std.specs.Prelude.{ℕ, Bool, false, ◌≡◌, ◌==◌, ◌+◌, ◌≤◌, List, [], ◌∷◌, count_by}
use Rattle.patch_model.specs.Step.{Step, Create, Merge, Send, Complete}
use Rattle.patch_device.specs.Device.{IsOldOrNew}
use Rattle.patch_device.specs.SameDevice.{IsSameDevice}
use Rattle.patch_device.specs.declared.devices.Device.{Ghosts}
use Rattle.patch_cache.specs.Running.{held_by}
use Rattle.patch_cache.specs.declared.flights.Flights.{Flights}
use Rattle.patch_cache.specs.declared.flights.Flight.{Flight}
use Rattle.patch_cache.specs.declared.landing.TheConstants.{TRIES}

-- the write of this flight was tried, at most so often, and nothing else was done
pub record IsTried {A D : Type 0} (g : Ghosts D) (flight : Flight A) (before now : D) : Type 0 where
  pub same : IsSameDevice g before now
  pub tries : g.moment now ≤ g.moment before + TRIES
  pub either : g.is_honest before → IsOldOrNew (g.contents before) flight.block flight.image (g.contents now)

-- so these were, one after another
abbrev pub AreTried : {A D : Type 0} → Ghosts D → List (Flight A) → (before now : D) → Type 0
AreTried g [] before now = before ≡ now
AreTried {D = D} g (flight ∷ flights) before now = (mid : D) × IsTried g flight before mid × AreTried g flights mid now

-- and behind them the device was synced, once at most, which changes none of its blocks
pub record IsWave {A D : Type 0} (g : Ghosts D) (flights : List (Flight A)) (before now : D) : Type 0 where
  pub mid : D
  pub tried : AreTried g flights before mid
  pub same : IsSameDevice g mid now
  pub sync : g.moment now ≤ g.moment mid + 1
  pub contents : g.is_honest mid → g.contents now ≡ g.contents mid

-- waves, one after another
abbrev pub AreWaves : {A D : Type 0} → Ghosts D → List (List (Flight A)) → (before now : D) → Type 0
AreWaves g [] before now = before ≡ now
AreWaves {D = D} g (wave ∷ waves) before now = (mid : D) × IsWave g wave before mid × AreWaves g waves mid now

abbrev pub is_of : {A : Type 0} → ℕ → Flight A → Bool
is_of block flight = flight.block == block

-- the step begins a write of the block
abbrev pub begins : ℕ → Step → Bool
begins block (Send b) = b == block
begins block (Complete b) = false
begins block (Create b start bytes after undo) = false
begins block (Merge a b) = false

-- or ends one
abbrev pub ends : ℕ → Step → Bool
ends block (Send b) = false
ends block (Complete b) = b == block
ends block (Create b start bytes after undo) = false
ends block (Merge a c) = false

-- how many flights of waves are of the block
abbrev pub tried_of : {A : Type 0} → ℕ → List (List (Flight A)) → ℕ
tried_of block [] = 0
tried_of block (wave ∷ waves) = count_by (is_of block) wave + tried_of block waves

-- No flight is tried by what another one left over: waves went out, and of each block as many flights as were held, or were begun by
-- the steps.
pub record EachTried {A D : Type 0} (g : Ghosts D) (steps : List Step) (held : List (Flight A)) (before now : D) : Type 0 where
  pub waves : List (List (Flight A))
  pub each : (block : ℕ) → tried_of block waves ≡ count_by (is_of block) held + count_by (begins block) steps
  pub went : AreWaves g waves before now

-- The steps have begun the writes of the flights that are held more, and have ended none.
pub record HoldsMore {A : Type 0} (steps : List Step) (old now : Flights A) (block : ℕ) : Type 0 where
  pub held : count_by (is_of block) (held_by now) ≡ count_by (is_of block) (held_by old) + count_by (begins block) steps
  pub none_ended : count_by (ends block) steps ≡ 0

-- No flight is lost: of each block, what is held and what the steps have ended is what was held and what they have begun.
abbrev pub NoneLost : {A : Type 0} → List Step → (old now : Flights A) → Type 0
NoneLost steps old now = (block : ℕ) → count_by (is_of block) (held_by now) + count_by (ends block) steps ≡ count_by (is_of block) (held_by old) + count_by (begins block) steps
