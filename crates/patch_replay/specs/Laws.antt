-- Laws of replays.
use Rattle.std.specs.Prelude.{ℕ, ◌≡◌, List}
use Rattle.patch_replay.specs.World.{World}
use Rattle.patch_replay.specs.Replay.{IsReplayText}

-- A script has one text. In which order a sync ends the writes that are under way is left open, and shows in no answer.
abbrev pub TextsAreSingle : Type 0
TextsAreSingle = (w : World) (script a b : List ℕ) → IsReplayText w script a → IsReplayText w script b → a ≡ b
