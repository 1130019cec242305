-- Appends and resets on a new disk of one index block and two extents.
use Rattle.std.specs.Prelude.{ℕ, List, [], ◌∷◌, length, map, replicate, Option}
use Rattle.patch_model.specs.Step.{Step, Create, Merge, Send, Complete}
use Rattle.patch_frame.specs.declared.geometries.Format.{Format}
use Rattle.patch_recovery.specs.Change.{Made}
use Rattle.patch_plans.specs.Extents.{Extents, no_extent}
use Rattle.patch_plans.specs.Planning.{append_plan, reset_plan}
use Rattle.patch_plans.specs.Writing.{after_plan, Written}

abbrev pub at_first : Format → Extents
at_first format = record { geometry = record { index = 1; extents = 2; format = format }; each = no_extent ∷ no_extent ∷ [] }

abbrev pub sevens : ℕ → List ℕ
sevens n = replicate n 7

-- a patch without its bytes, of which the length is told: its block, its start, how many bytes, and what it names
abbrev pub outline : Step → List ℕ
outline (Create block start bytes after undo) = block ∷ start ∷ length bytes ∷ after
outline (Merge a b) = []
outline (Send block) = []
outline (Complete block) = []

abbrev pub outlines : List Written → List (List ℕ)
outlines ws = map (λ w. outline w.create) ws

abbrev pub merges : List Written → List (Option Step)
merges ws = map (λ w. w.merge) ws

abbrev pub bytes_in : Step → List ℕ
bytes_in (Create block start bytes after undo) = bytes
bytes_in (Merge a b) = []
bytes_in (Send block) = []
bytes_in (Complete block) = []

-- the bytes of the last patch
abbrev pub last_bytes : List Written → List ℕ
last_bytes [] = []
last_bytes (w ∷ []) = bytes_in w.create
last_bytes (w ∷ v ∷ ws) = last_bytes (v ∷ ws)

-- 5,000 bytes, then 10, then a reset, then one byte
abbrev pub first_plan : Format → List Made
first_plan f = append_plan (at_first f) 0 0 (sevens 5000) []

abbrev pub second : Format → Extents
second f = after_plan (at_first f) 0 (first_plan f)

abbrev pub second_plan : Format → List Made
second_plan f = append_plan (second f) 3 0 (sevens 10) []

abbrev pub third : Format → Extents
third f = after_plan (second f) 3 (second_plan f)

abbrev pub third_plan : Format → List Made
third_plan f = reset_plan (third f) 0 []

abbrev pub fourth : Format → Extents
fourth f = after_plan (third f) 5 (third_plan f)

abbrev pub fourth_plan : Format → List Made
fourth_plan f = append_plan (fourth f) 6 0 (sevens 1) []

abbrev pub fifth : Format → Extents
fifth f = after_plan (fourth f) 6 (fourth_plan f)
