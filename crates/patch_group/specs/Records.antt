-- Groups as the code keeps them.
use Rattle.std.specs.Prelude.{ℕ, true, false, ◌+◌, ◌-◌, ◌<◌, ◌==◌, min, max, List, map, filter, length, slice_index_or, vec_len, vec_capacity, All, Contains, ◌≡◌}
use Rattle.std.specs.List.{flat_map, range_with_len}
use Rattle.patch_model.specs.Runs.{numbers_in}
use Rattle.patch_plans.specs.Rising.{rising}
use Rattle.patch_plans.specs.Groups.{Group, Groups, group_at, before, engaged_by, is_engaged, after_of}
use Rattle.patch_model.specs.declared.runs.Run.{Run}
use Rattle.patch_group.specs.declared.records.Record.{Record}
use Rattle.patch_group.specs.declared.records.Before.{Before}

-- the least number of a run
abbrev pub first_of : Run → ℕ
first_of r = min r.first r.last

-- those that are not below this one
abbrev pub numbers_from : ℕ → Run → List ℕ
numbers_from next r = range_with_len (max (first_of r) next) (r.last + 1 - max (first_of r) next)

abbrev pub group_of : {A : Type 0} → Record A → Group
group_of g = record { started = g.started; sealed = g.sealed; closed = g.closed; before = g.before.items; patches = numbers_in g.runs.items }

abbrev pub groups_of : {A : Type 0} → List (Record A) → List (ℕ × ℕ) → Groups
groups_of records engagements = record { groups = map group_of records; engaged = engagements }

-- the groups before those that the writer has engaged, in order
abbrev pub groups_before : Groups → ℕ → List ℕ
groups_before gs writer = rising (flat_map (before gs) (engaged_by gs writer))

-- what is kept of writers is what their patches come after
abbrev pub AreBefore : {A : Type 0} → Groups → List (Before A) → Type 0
AreBefore gs kept = All (λ k. numbers_in k.runs.items ≡ after_of gs k.writer) kept

-- a group that stands before another is sealed, and a sealed one isn't engaged: so no group before another takes a patch
pub record AreSealed (gs : Groups) : Type 0 where
  pub sealed : (q p : ℕ) → Contains (before gs q) p → (group_at gs p).sealed ≡ true
  pub free : (g : ℕ) → (group_at gs g).sealed ≡ true → is_engaged gs g ≡ false

-- the groups of the writer's engagements
abbrev pub names_of : List (ℕ × ℕ) → ℕ → List ℕ
names_of es writer = map (λ e. e.1) (filter (λ e. e.0 == writer) es)

-- the group, if it is there, has room for one run more
abbrev pub HasRoomAt : {A : Type 0} → List (Record A) → ℕ → Type 0
HasRoomAt {A} records k = (r : Record A) → k < length records → vec_len (slice_index_or records k r).runs < vec_capacity (slice_index_or records k r).runs

abbrev pub HaveRoom : {A : Type 0} → List (Record A) → List ℕ → Type 0
HaveRoom records names = (k : ℕ) → Contains names k → HasRoomAt records k
