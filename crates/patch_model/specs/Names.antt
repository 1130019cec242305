-- What a patch names.
use Rattle.std.specs.Prelude.{ℕ, List}
use Rattle.patch_model.specs.Runs.{numbers_in}
use Rattle.patch_model.specs.declared.names.Named.{Named}
use Rattle.patch_model.specs.declared.names.Named.TheVariants as lent
use Rattle.patch_model.specs.declared.names.Held.{Held}
use Rattle.patch_model.specs.declared.names.Held.TheVariants.{Few, Listed, InRuns}

-- the numbers that are lent
abbrev pub numbers_named : Named → List ℕ
numbers_named (lent.Listed numbers) = numbers.now
numbers_named (lent.InRuns runs) = numbers_in runs.now

-- the numbers that are held
abbrev pub numbers_held : {A : Type 0} → Held A → List ℕ
numbers_held (Few numbers) = numbers.items
numbers_held (Listed numbers) = numbers
numbers_held (InRuns runs) = numbers_in runs.items
