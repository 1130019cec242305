-- A patch has one mark: the lemmas of every crate's proofs.
use Rattle.std.proofs.Common.{◌≡◌, true, false, not, refl}
use Rattle.patch_model.specs.declared.patches.Mark.{Mark}
use Rattle.patch_model.specs.declared.patches.Mark.TheVariants.{Memory, Flight, Durable}
use Rattle.patch_model.specs.Entry.{marks_memory, marks_flight, marks_durable}

pub only_memory : (m : Mark) → marks_memory m ≡ true → m ≡ Memory
only_memory Memory h = refl
only_memory Flight h = absurd (cc)
only_memory Durable h = absurd (cc)

pub memory_live : (m : Mark) → marks_memory m ≡ true → not (marks_durable m) ≡ true
memory_live Memory h = refl
memory_live Flight h = absurd (cc)
memory_live Durable h = absurd (cc)

pub flight_live : (m : Mark) → marks_flight m ≡ true → not (marks_durable m) ≡ true
flight_live Memory h = absurd (cc)
flight_live Flight h = refl
flight_live Durable h = absurd (cc)

pub memory-not_durable : (m : Mark) → marks_memory m ≡ true → marks_durable m ≡ false
memory-not_durable Memory h = refl
memory-not_durable Flight h = absurd (cc)
memory-not_durable Durable h = absurd (cc)

pub durable-not_memory : (m : Mark) → marks_durable m ≡ true → marks_memory m ≡ false
durable-not_memory Memory h = absurd (cc)
durable-not_memory Flight h = refl
durable-not_memory Durable h = refl

pub flight-not_memory : (m : Mark) → marks_flight m ≡ true → marks_memory m ≡ false
flight-not_memory Memory h = absurd (cc)
flight-not_memory Flight h = refl
flight-not_memory Durable h = absurd (cc)
