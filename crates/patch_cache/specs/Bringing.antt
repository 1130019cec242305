-- Asks of a cache that hasn't all its blocks: one that an ask names is read from the device before the ask is answered.
use Rattle.std.specs.Prelude.{ℕ, false, ◌≡◌, List, Option, Some, None}
use Rattle.patch_model.specs.Execution.{Execution}
use Rattle.patch_device.specs.declared.devices.Device.{Ghosts}
use Rattle.patch_cache.specs.Contents.{Contents}
use Rattle.patch_cache.specs.Paging.{why_not_resident}
use Rattle.patch_cache.specs.Asks.{Ask, Answer, after, after_all}
use Rattle.patch_cache.specs.Running.{RunsOnBy, IsServedBy, HasRunBy, CountFaults, HaveAllWritten, LeavesSafe}
use Rattle.patch_cache.specs.Waves.{HoldImages}
use Rattle.patch_cache.specs.declared.flights.Flights.{Flights}

-- the named block is resident, or isn't one of the cache's
abbrev pub HasNamed : Contents → Option ℕ → Type 0
HasNamed c None = Unit {0}
HasNamed c (Some block) = why_not_resident c block ≡ None

-- The cache represents the execution and has some of its blocks, its flights are the held ones, and an honest device has these blocks,
-- and the image of each that has no write under way.
pub record RunsOnImages {A D : Type 0} (g : Ghosts D) (cache : Contents) (flights : Flights A) (device : D) (run : Execution) : Type 0 where
  pub on : RunsOnBy g false cache flights device run
  pub honest : g.is_honest device
  pub images : HoldImages run (g.contents device)

-- What an ask has done that was served so: the images are there still.
pub record IsServedOnImages {A D : Type 0} (g : Ghosts D) (run : Execution) (ask : Ask) (answer : Answer) (cache : Contents) (flights : Flights A) (before now : D) : Type 0 where
  pub served : IsServedBy g false run ask answer cache flights before now
  pub images : HoldImages (after run ask answer) (g.contents now)

-- And what a list of them has done.
pub record HasRunOnImages {A D : Type 0} (g : Ghosts D) (run : Execution) (asks : List Ask) (answers : List Answer) (cache : Contents) (flights : Flights A) (before now : D) : Type 0 where
  pub ran : HasRunBy false run asks answers cache flights
  pub faults : CountFaults answers (g.fault_count before) (g.fault_count now)
  pub written : HaveAllWritten g run asks answers before now
  pub crash : LeavesSafe g run (after_all run asks answers) before now
  pub images : HoldImages (after_all run asks answers) (g.contents now)
