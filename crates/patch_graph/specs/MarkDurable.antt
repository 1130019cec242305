-- Classes made durable, and so forgotten.
use Rattle.std.specs.Prelude.{ℕ, List, map}
use Rattle.patch_model.specs.Entry.{Entry}
use Rattle.patch_model.specs.Orderly.{IsOrderly}
use Rattle.patch_model.specs.State.{landed}
use Rattle.patch_graph.specs.Meaning.{IsGraphOf}
use Rattle.patch_graph.specs.State.{Graph}

-- the one graph's patches are the other's, with those in flight of the block durable
abbrev pub MakesDurable : Graph → Graph → ℕ → Type 0
MakesDurable old new block = (all : List Entry) → IsGraphOf old all → IsOrderly (map (landed block) all) → IsGraphOf new (map (landed block) all)
