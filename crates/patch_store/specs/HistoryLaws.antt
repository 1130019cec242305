-- What the laws of histories say that a reclaim rests on.
use Rattle.patch_history.specs.Fitting.{FramesAreThere, ReclaimsGoOn}
use Rattle.patch_history.specs.ShelfLedger.{ShelvesAreKept}
use Rattle.patch_history.specs.Laws.{HistoriesExtend, StandingsRun, HistoriesAreRead, StandingsAgree, ExtentsAreKept}
use Rattle.patch_history.specs.Steps.{ShelvesGoOn, WholesJoin, CutsJoin, WholesAreCuts}

pub record Given : Type 0 where
  pub extends : HistoriesExtend
  pub runs : StandingsRun
  pub kept : ShelvesAreKept
  pub read : HistoriesAreRead
  pub agree : StandingsAgree
  pub extents : ExtentsAreKept
  pub shelves : ShelvesGoOn
  pub joins : WholesJoin
  pub cuts : CutsJoin
  pub stopped : WholesAreCuts
  pub frames : FramesAreThere
  pub goes : ReclaimsGoOn
