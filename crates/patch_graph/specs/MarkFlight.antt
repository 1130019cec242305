-- Classes put in flight.
use Rattle.std.specs.Prelude.{ℕ, List, map}
use Rattle.patch_model.specs.Entry.{Entry}
use Rattle.patch_model.specs.Orderly.{IsOrderly}
use Rattle.patch_model.specs.Ready.{ready}
use Rattle.patch_model.specs.State.{sent}
use Rattle.patch_graph.specs.Meaning.{IsGraphOf}
use Rattle.patch_graph.specs.State.{Graph}
use Rattle.patch_graph.specs.Between.{HasNoRing}

-- the patches with those that a send of the block takes in flight
abbrev pub with_sent : List Entry → ℕ → List Entry
with_sent all block = map (sent (ready all block)) all

-- the one graph's patches are the other's, with what a send of the block takes in flight
abbrev pub PutsInFlight : Graph → Graph → ℕ → Type 0
PutsInFlight old new block = (all : List Entry) → IsGraphOf old all → HasNoRing all → IsOrderly (with_sent all block) → IsGraphOf new (with_sent all block)
