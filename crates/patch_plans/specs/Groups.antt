-- Groups of patches, and in which order they go to the disk.
use Rattle.std.specs.Prelude.{ℕ, Bool, true, false, ◌≡◌, ◌==◌, ◌&&◌, ◌||◌, not, nat_le, if◌then◌else◌, List, [], ◌∷◌, ◌++◌, length, map, filter, fold, count_by, slice_get, slice_set, slice_index_or, Option, Some, None}
use Rattle.std.specs.List.{list_any, flat_map, AllPairs}
use Rattle.patch_model.specs.declared.refusals.RefusalKind.TheVariants as kind
use Rattle.patch_model.specs.Entry.{Entry, is_live}
use Rattle.patch_model.specs.declared.patches.Undo.{Undo}
use Rattle.patch_model.specs.Step.{Step, Create}
use Rattle.patch_model.specs.Execution.{Execution}
use Rattle.patch_model.specs.State.{entries_of}
use Rattle.patch_model.specs.declared.refusals.Refusal.{Refusal}
use Rattle.patch_model.specs.Refusing.{bare, why_not_made}
use Rattle.patch_plans.specs.declared.limits.TheConstants.{MAX_GROUPS}
use Rattle.patch_plans.specs.Rising.{rising}

-- whether it was ever engaged, whether a group depends on it, whether it was closed; all groups before it, on which it depends
-- directly or through others; and its patches, in order of making
pub record Group : Type 0 where
  pub started : Bool
  pub sealed : Bool
  pub closed : Bool
  pub before : List ℕ
  pub patches : List ℕ

-- the groups by their numbers, and which writer has engaged which group, the oldest engagement first
pub record Groups : Type 0 where
  pub groups : List Group
  pub engaged : List (ℕ × ℕ)

abbrev pub no_groups : Groups
no_groups = record { groups = []; engaged = [] }

-- a group as it is made
abbrev pub fresh : Group
fresh = record { started = false; sealed = false; closed = false; before = []; patches = [] }

abbrev pub group_at : Groups → ℕ → Group
group_at gs g = slice_index_or gs.groups g fresh

-- all groups before this one
abbrev pub before : Groups → ℕ → List ℕ
before gs g = (group_at gs g).before

-- the patches of a group
abbrev pub patches_of : Groups → ℕ → List ℕ
patches_of gs g = (group_at gs g).patches

-- there is a group of this number, and it wasn't closed
abbrev pub is_open : Groups → ℕ → Bool
is_open gs g = elim (slice_get gs.groups g) [ Some group ↦ not group.closed | None ↦ false ]

-- the writer has engaged the group
abbrev pub is_engaged_by : Groups → ℕ → ℕ → Bool
is_engaged_by gs writer g = list_any (λ e. e.0 == writer && e.1 == g) gs.engaged

-- some writer has
abbrev pub is_engaged : Groups → ℕ → Bool
is_engaged gs g = list_any (λ e. e.1 == g) gs.engaged

-- no engagement stands there twice
abbrev pub AreApart : List (ℕ × ℕ) → Type 0
AreApart es = AllPairs (λ d e. d ≡ e → ⊥) es

-- the groups that the writer has engaged
abbrev pub engaged_by : Groups → ℕ → List ℕ
engaged_by gs writer = map (λ e. e.1) (filter (λ e. e.0 == writer) gs.engaged)

-- all patches of all groups before these, in order of making
abbrev pub patches_before : Groups → List ℕ → List ℕ
patches_before gs names = rising (flat_map (patches_of gs) (flat_map (before gs) names))

-- what a patch of this writer names: all patches of all groups before those that it has engaged
abbrev pub after_of : Groups → ℕ → List ℕ
after_of gs writer = patches_before gs (engaged_by gs writer)

-- Why a call is refused: the first cause of its list.

abbrev pub why_not_begun : Groups → Option Refusal
why_not_begun gs = if nat_le MAX_GROUPS (length gs.groups) then Some (bare kind.TooManyGroups) else None

abbrev pub why_not_engaged : Groups → (writer group : ℕ) → Option Refusal
why_not_engaged gs writer group =
    if not (is_open gs group) then Some (bare kind.NoSuchGroup)
    else if (group_at gs group).sealed then Some (bare kind.Sealed)
    else if is_engaged_by gs writer group then Some (bare kind.Engaged)
    else None

abbrev pub why_not_disengaged : Groups → (writer group : ℕ) → Option Refusal
why_not_disengaged gs writer group =
    if not (is_open gs group) then Some (bare kind.NoSuchGroup)
    else if not (is_engaged_by gs writer group) then Some (bare kind.NotEngaged)
    else None

-- why the group isn't made to depend on the other
abbrev pub why_not_ordered : Groups → (group on : ℕ) → Option Refusal
why_not_ordered gs group on =
    if not (is_open gs group) || not (is_open gs on) then Some (bare kind.NoSuchGroup)
    else if group == on then Some (bare kind.SameGroup)
    else if (group_at gs group).sealed then Some (bare kind.Sealed)
    else if (group_at gs group).started then Some (bare kind.Started)
    else if is_engaged gs on then Some (bare kind.Engaged)
    else None

abbrev pub why_not_closed : Groups → ℕ → Option Refusal
why_not_closed gs group =
    if not (is_open gs group) then Some (bare kind.NoSuchGroup)
    else if is_engaged gs group then Some (bare kind.Engaged)
    else None

abbrev pub why_not_counted : Groups → ℕ → Option Refusal
why_not_counted gs group = if not (is_open gs group) then Some (bare kind.NoSuchGroup) else None

-- What an accepted call leaves.

-- the groups with one of them in another state
abbrev pub with_group : Groups → ℕ → Group → Groups
with_group gs g group = record gs { groups = slice_set gs.groups g group }

-- one more group, whose number is the count of those before it
abbrev pub begun : Groups → Groups
begun gs = record gs { groups = gs.groups ++ fresh ∷ [] }

abbrev pub engaged : Groups → (writer group : ℕ) → Groups
engaged gs writer group = record {
  groups = slice_set gs.groups group (record (group_at gs group) { started = true });
  engaged = gs.engaged ++ (writer, group) ∷ [];
}

abbrev pub disengaged : Groups → (writer group : ℕ) → Groups
disengaged gs writer group = record gs { engaged = filter (λ e. not (e.0 == writer && e.1 == group)) gs.engaged }

-- the other and all that is before it are before the group, and the other is sealed
abbrev pub ordered : Groups → (group on : ℕ) → Groups
ordered gs group on =
    let after = record (group_at gs group) { before = rising (before gs group ++ on ∷ before gs on) } in
    let sealed = record (group_at gs on) { sealed = true } in
    record gs { groups = slice_set (slice_set gs.groups group after) on sealed }

abbrev pub closed : Groups → ℕ → Groups
closed gs group = with_group gs group (record (group_at gs group) { closed = true })

-- How patches join.

-- the groups with the patch in each of these
abbrev pub entered : List Group → List ℕ → ℕ → List Group
entered groups names n =
    fold (λ all g. let group = slice_index_or all g fresh in slice_set all g (record group { patches = group.patches ++ n ∷ [] })) groups names

-- a patch of this writer joins all groups that it has engaged; one of no writer joins none
abbrev pub with_patch : Groups → Option ℕ → ℕ → Groups
with_patch gs None n = gs
with_patch gs (Some writer) n = record gs { groups = entered gs.groups (engaged_by gs writer) n }

-- what the patch of a writer depends on by name, or that of no writer
abbrev pub named : Groups → Option ℕ → List ℕ → List ℕ
named gs None after = after
named gs (Some writer) after = after ++ after_of gs writer

-- the patch of this number was made and isn't durable
abbrev pub is_pending : List Entry → ℕ → Bool
is_pending all n = list_any (λ e. e.patch.no == n && is_live e) all

-- how many patches of the group aren't durable
abbrev pub pending : List Entry → Groups → ℕ → ℕ
pending all gs g = count_by (is_pending all) (patches_of gs g)

-- Patches that writers make, and those that none makes.

-- the step that makes it
abbrev pub patch_of : Groups → Option ℕ → (block start : ℕ) (bytes after : List ℕ) → Undo → Step
patch_of gs writer block start bytes after undo = Create block start bytes (named gs writer after) undo

-- the first cause against it
abbrev pub why_not_patched : Execution → Groups → Option ℕ → (block start : ℕ) (bytes after : List ℕ) → Option Refusal
why_not_patched run gs writer block start bytes after = why_not_made (length run.first) (entries_of run) block start bytes (named gs writer after)
