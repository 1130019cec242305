-- How the logic stores what a file held and what was done to it.
use Rattle.std.specs.Prelude.{ℕ, List}
use Rattle.std.specs.Coded.{coded_list, coded_option, coded×, coded_ℕ}
use Rattle.patch_device.specs.Cuts.{Event}
use base.Stored.{Coded}

abbrev pub blocks_coded : Coded (List (List ℕ))
blocks_coded = coded_list (coded_list coded_ℕ)

abbrev pub events_coded : Coded (List Event)
events_coded = coded_list (coded_option (coded× coded_ℕ (coded_list coded_ℕ)))
