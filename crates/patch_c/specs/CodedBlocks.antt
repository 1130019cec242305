-- How the logic stores what a file holds.
use Rattle.std.specs.Prelude.{ℕ, List}
use Rattle.std.specs.Coded.{coded_list, coded_ℕ}
use base.Stored.{Coded}

abbrev pub blocks_coded : Coded (List (List ℕ))
blocks_coded = coded_list (coded_list coded_ℕ)
