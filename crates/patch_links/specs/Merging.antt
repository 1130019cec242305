-- Two classes made one.
use Rattle.std.specs.Prelude.{ℕ, Bool, true, false, ◌≡◌, ◌≢◌, ◌++◌, ◌&&◌, ◌==◌, not, min, max, if◌then◌else◌, List, Some, None}
use Rattle.std.specs.Option.{option_map, option_map_or}
use Rattle.patch_model.specs.Entry.{is_among, marks_memory}
use Rattle.patch_links.specs.State.{Class, Links, Slots, Numbers, find, class_at}

-- the class with another one's patches
abbrev pub joined_class : Class → Class → Class
joined_class c d = record c {
  name = min c.name d.name;
  members = c.members ++ d.members;
  start = min c.start d.start;
  stop = max c.stop d.stop;
  after = c.after ++ d.after;
}

-- the numbers that are among these lead to the key, and the others where they led
abbrev pub AreRedirected : List ℕ → ℕ → Numbers → Numbers → Type 0
AreRedirected members key old new = (n : ℕ) → find new n ≡ (if is_among members n then option_map (λ k. key) (find old n) else find old n)

-- the class that was at the one key is part of that at the other
pub record IsJoined (keep gone : ℕ) (c d : Class) (old_slots new_slots : Slots) (old new : Numbers) : Type 0 where
  pub here : class_at new_slots keep ≡ Some (joined_class c d)
  pub none : class_at new_slots gone ≡ None
  pub others : (k : ℕ) → k ≢ keep → k ≢ gone → class_at new_slots k ≡ class_at old_slots k
  pub numbers : AreRedirected d.members keep old new

-- both are in memory, of one block
abbrev pub may_join : Class → Class → Bool
may_join c d = marks_memory c.mark && marks_memory d.mark && c.block == d.block

-- the class that was at the one key is part of that at the other, where both are in memory and of one block
abbrev pub HasJoined : ℕ → ℕ → Links → Links → Type 0
HasJoined keep gone old new =
    (c d : Class) → keep ≢ gone → class_at old.slots keep ≡ Some c → class_at old.slots gone ≡ Some d → may_join c d ≡ true → IsJoined keep gone c d old.slots new.slots old.numbers new.numbers

-- the two classes may be made one
abbrev pub may_join_at : ℕ → ℕ → Slots → Bool
may_join_at keep gone slots = not (keep == gone) && option_map_or (λ c. option_map_or (may_join c) (class_at slots gone) false) (class_at slots keep) false
