-- Why an ask is refused: the first cause of its list that holds, and the number that goes with it.
use Rattle.std.specs.Prelude.{ℕ, Bool, false, ◌+◌, ◌≤◌, ◌⊎◌, ◌==◌, ◌&&◌, ◌||◌, not, min, nat_lt, nat_le, if◌then◌else◌, List, [], ◌∷◌, length, map, filter, fold, find, count_by, slice_get, Option, Some, None}
use Rattle.std.specs.List.{list_any}
use Rattle.patch_model.specs.declared.blocks.TheConstants.{BLOCK}
use Rattle.patch_model.specs.declared.limits.TheConstants.{MAX_PATCHES, MAX_LIVE}
use Rattle.patch_model.specs.declared.refusals.Refusal.{Refusal}
use Rattle.patch_model.specs.declared.refusals.RefusalKind.{RefusalKind}
use Rattle.patch_model.specs.declared.refusals.RefusalKind.TheVariants as kind
use Rattle.patch_model.specs.Execution.{Execution}
use Rattle.patch_model.specs.Entry.{Entry, is_memory, is_live, is_flight, is_among}
use Rattle.patch_model.specs.Dependency.{class_depends, LiesBetween}
use Rattle.patch_model.specs.Ready.{ready}
use Rattle.patch_model.specs.State.{class_of, has_flight, state_of, entries_of}
use Rattle.patch_model.specs.Legal.{touch, block_of_patch}
use Rattle.patch_model.specs.History.{History}

-- a refusal that carries no number
abbrev pub bare : RefusalKind → Refusal
bare k = record { kind = k; number = None }

abbrev pub with_number : RefusalKind → ℕ → Refusal
with_number k n = record { kind = k; number = Some n }

-- the least of some numbers
abbrev pub least : List ℕ → Option ℕ
least [] = None
least (n ∷ ns) = Some (fold min n ns)

-- why a patch isn't made, where there are so many blocks
abbrev pub why_not_made : ℕ → List Entry → (block start : ℕ) (bytes after : List ℕ) → Option Refusal
why_not_made blocks all block start bytes after =
    if nat_le blocks block then Some (bare kind.NoSuchBlock)
    else if length bytes == 0 then Some (bare kind.EmptyPatch)
    else if nat_lt BLOCK (start + length bytes) then Some (bare kind.OutOfBlock)
    else if list_any (λ n. nat_le (length all) n) after then Some (bare kind.UnknownDependency)
    else if nat_le MAX_PATCHES (length all) then Some (bare kind.NumbersSpent)
    else if nat_le MAX_LIVE (count_by is_live all) then Some (bare kind.TooManyLive)
    else None

-- the patch of this number is in memory
abbrev pub is_memory_at : List Entry → ℕ → Bool
is_memory_at all n = elim (slice_get all n) [ Some e ↦ is_memory e | None ↦ false ]

-- the patch of this number is hard
abbrev pub is_hard_at : List Entry → ℕ → Bool
is_hard_at all n = elim (slice_get all n) [ Some e ↦ e.hard | None ↦ false ]

-- why the classes of two patches aren't merged, but for a third class between them
abbrev pub why_no_pair : List Entry → (a b : ℕ) → Option Refusal
why_no_pair all a b =
    if nat_le (length all) a || nat_le (length all) b then Some (bare kind.Unknown)
    else if not (is_memory_at all a) then Some (with_number kind.NotInMemory a)
    else if not (is_memory_at all b) then Some (with_number kind.NotInMemory b)
    else if class_of all a == class_of all b then Some (bare kind.Same)
    else if not (block_of_patch all a == block_of_patch all b) then Some (bare kind.OtherBlock)
    else if is_hard_at all a then Some (with_number kind.Hard a)
    else if is_hard_at all b then Some (with_number kind.Hard b)
    else if not (touch all (class_of all a) (class_of all b)) then Some (bare kind.Apart)
    else None

-- the class of this name lies between those of two patches, one way or the other
abbrev pub IsBetween : List Entry → (a b c : ℕ) → Type 0
IsBetween all a b c = LiesBetween all (class_of all a) (class_of all b) c ⊎ LiesBetween all (class_of all b) (class_of all a) c

-- the least name of a class between those of two patches
pub record IsLeastThird (all : List Entry) (a b n : ℕ) : Type 0 where
  pub is : IsBetween all a b n
  pub least : (m : ℕ) → IsBetween all a b m → n ≤ m

-- why no write of a block begins
abbrev pub why_not_sent : Execution → ℕ → Option Refusal
why_not_sent run block =
    if nat_le (length run.first) block then Some (bare kind.NoSuchBlock)
    else if has_flight (state_of run) block then Some (bare kind.AlreadyInFlight)
    else if length (ready (entries_of run) block) == 0 then Some (bare kind.NothingReady)
    else None

-- why a span of a block isn't shown
abbrev pub why_not_shown : (blocks block start len : ℕ) → Option Refusal
why_not_shown blocks block start len =
    if nat_le blocks block then Some (bare kind.NoSuchBlock)
    else if nat_lt BLOCK (start + len) then Some (bare kind.OutOfBlock)
    else None

-- the names of the live classes of the block that depend directly on the class c and aren't taken
abbrev pub applied_dependents : History → List ℕ → ℕ → List ℕ
applied_dependents h taken c = filter (λ n. class_depends h.entries n c && not (is_among taken n)) (map (λ e. e.class) (filter is_live h.entries))

-- the names of the taken classes on which the class c depends directly
abbrev pub taken_dependencies : History → List ℕ → ℕ → List ℕ
taken_dependencies h taken c = filter (λ n. class_depends h.entries c n) taken

-- the number that stands in the way, if one does
abbrev pub hindered_by : RefusalKind → Option ℕ → Option Refusal
hindered_by k None = None
hindered_by k (Some n) = Some (with_number k n)

abbrev pub why_class_not_taken : History → List ℕ → Entry → Option Refusal
why_class_not_taken h taken e =
    if is_flight e then Some (bare kind.InFlight)
    else if e.hard then Some (bare kind.Hard)
    else if is_among taken e.class then Some (bare kind.AlreadyTaken)
    else hindered_by kind.DependentApplied (least (applied_dependents h taken e.class))

-- why the class of a patch of the block isn't taken back, where these are taken
abbrev pub why_not_taken : History → List ℕ → ℕ → Option Refusal
why_not_taken h taken number = elim (find (λ e. e.patch.no == number && is_live e) h.entries) [
  | None ↦ Some (bare kind.Unknown)
  | Some e ↦ why_class_not_taken h taken e
]

-- why the class of a patch of the block isn't put back, where these are taken
abbrev pub why_not_put_back : History → List ℕ → ℕ → Option Refusal
why_not_put_back h taken number = elim (find (λ e. e.patch.no == number && is_among taken e.class) h.entries) [
  | None ↦ Some (bare kind.NotTaken)
  | Some e ↦ hindered_by kind.DependencyTaken (least (taken_dependencies h taken e.class))
]

-- the name of the class of a patch of the block
abbrev pub class_named : History → ℕ → ℕ
class_named h number = elim (find (λ e. e.patch.no == number) h.entries) [ None ↦ number | Some e ↦ e.class ]
