-- What rows end as, where a `&mut` to one of them is returned.
use Rattle.std.specs.Prelude.{ℕ, Option}
use Rattle.std.specs.Borrow.{Fml, Lends, LendsIf, MutBor, RattleType}
use Rattle.std.specs.declared.alloc.Allocator.{Ghosts}
use Rattle.patch_rows.specs.Rows.{Rows, with_row}
use Rattle.patch_rows.specs.contracts.rows.Rows.{the_row}

module _ (T A : RattleType) (alloc : Ghosts A.Denot) (r : MutBor (Rows T.Denot)) (number : ℕ) where
  -- once the borrow ends, the number has the last row written through it, and at `None` the rows stay as they are
  abbrev pub lends_row : Option (MutBor T.Denot) → Fml
  lends_row lent = LendsIf (the_row T A alloc) T r lent (with_row r.now number) r.now

  -- the same of a row that stands
  abbrev pub lends_standing : MutBor T.Denot → Fml
  lends_standing lent = Lends (the_row T A alloc) T r lent (with_row r.now number)
