-- What a reader of the code answers, beside what a definition reads.
use Rattle.std.specs.Prelude.{◌≡◌, Option, Some, None, Result, Ok, Err}
use Rattle.patch_script.specs.declared.line_error.LineError.{LineError}
use Rattle.patch_script.specs.declared.line_error.LineError.TheVariants.{Unreadable, OutOfMemory}

-- unreadable where nothing is read, and no memory at any time
abbrev pub Fails : {A : Type 0} → LineError → Option A → Type 0
Fails (Unreadable defect) read = read ≡ None
Fails OutOfMemory read = Unit {0}

-- the value that is read, unless memory runs out
abbrev pub Gives : {A : Type 0} → Result A LineError → Option A → Type 0
Gives (Ok x) read = read ≡ Some x
Gives (Err e) read = Fails e read
