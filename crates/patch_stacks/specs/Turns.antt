-- What a take and a put back of one class make of a block's records, and what they are refused for.
use Rattle.std.specs.Prelude.{ℕ, true, false, ◌≡◌, Some, None, Result, MatchResult}
use Rattle.patch_records.specs.declared.classes.Turn.TheVariants.{Take, PutBack}
use Rattle.patch_stacks.specs.declared.refusals.TakeRefusal.{TakeRefusal}
use Rattle.patch_stacks.specs.declared.refusals.TakeRefusal.TheVariants.{Unknown, InFlight, Hard, AlreadyTaken, DependentApplied}
use Rattle.patch_stacks.specs.declared.refusals.PutBackRefusal.{PutBackRefusal}
use Rattle.patch_stacks.specs.declared.refusals.PutBackRefusal.TheVariants.{NotTaken, DependencyTaken}
use Rattle.patch_stacks.specs.State.{Block, class_at, place_of, hinders, IsLeast, exchanged_at}

-- the class of the number stands here; it is in memory, and keeps bytes to be taken back
pub record IsSoftAt (b : Block) (number at : ℕ) : Type 0 where
  pub place : place_of b number ≡ Some at
  pub memory : (class_at b at).flying ≡ false
  pub soft : (class_at b at).hard ≡ false

-- the class of the number wasn't taken, each that follows it is, and now it is taken
pub record IsTakenAt (old : Block) (number at : ℕ) (new : Block) : Type 0 where
  pub stands : IsSoftAt old number at
  pub applied : (class_at old at).taken ≡ false
  pub free : IsLeast (hinders Take old at) old None
  pub is : new ≡ exchanged_at old at Take

-- what a take is refused for, the first of these that applies
abbrev pub RefusesTake : Block → ℕ → TakeRefusal → Type 0
RefusesTake b number Unknown = place_of b number ≡ None
RefusesTake b number InFlight = (at : ℕ) × (place_of b number ≡ Some at) × ((class_at b at).flying ≡ true)
RefusesTake b number Hard = (at : ℕ) × (place_of b number ≡ Some at) × ((class_at b at).flying ≡ false) × ((class_at b at).hard ≡ true)
RefusesTake b number AlreadyTaken = (at : ℕ) × IsSoftAt b number at × ((class_at b at).taken ≡ true)
RefusesTake b number (DependentApplied n) =
    (at : ℕ) × IsSoftAt b number at × ((class_at b at).taken ≡ false) × IsLeast (hinders Take b at) b (Some n)

-- the class of the number was taken, none that it follows is, and now it is put back
pub record IsPutBackAt (old : Block) (number at : ℕ) (new : Block) : Type 0 where
  pub place : place_of old number ≡ Some at
  pub taken : (class_at old at).taken ≡ true
  pub free : IsLeast (hinders PutBack old at) old None
  pub is : new ≡ exchanged_at old at PutBack

-- and a put back likewise
abbrev pub RefusesPutBack : Block → ℕ → PutBackRefusal → Type 0
RefusesPutBack b number NotTaken = (at : ℕ) → place_of b number ≡ Some at → (class_at b at).taken ≡ false
RefusesPutBack b number (DependencyTaken n) =
    (at : ℕ) × (place_of b number ≡ Some at) × ((class_at b at).taken ≡ true) × IsLeast (hinders PutBack b at) b (Some n)

-- a take answers that, or why not
abbrev pub IsTakeOf : {X : Type 0} → Block → ℕ → Block → Result X TakeRefusal → Type 0
IsTakeOf old number new result = MatchResult result (λ _. (at : ℕ) × IsTakenAt old number at new) (λ refusal. RefusesTake old number refusal)

abbrev pub IsPutBackOf : {X : Type 0} → Block → ℕ → Block → Result X PutBackRefusal → Type 0
IsPutBackOf old number new result = MatchResult result (λ _. (at : ℕ) × IsPutBackAt old number at new) (λ refusal. RefusesPutBack old number refusal)
