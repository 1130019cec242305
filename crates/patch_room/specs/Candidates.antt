-- Which of two candidates is won back.
use Rattle.std.specs.Prelude.{Option, Some, None, nat_le, if◌then◌else◌}
use Rattle.patch_room.specs.declared.choosing.Candidate.{Candidate}

-- the first one, if there is one and it has no more live bytes
abbrev pub cheaper : Option Candidate → Candidate → Candidate
cheaper None second = second
cheaper (Some first) second = if nat_le first.live second.live then first else second
