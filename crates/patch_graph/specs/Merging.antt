-- Two classes made one.
use Rattle.std.specs.Prelude.{ℕ, Bool, true, false, map, ◌≡◌, ◌≢◌, min, List, Some}
use Rattle.std.specs.Option.{option_map_or}
use Rattle.patch_model.specs.Entry.{Entry, is_memory}
use Rattle.patch_model.specs.Member.{In}
use Rattle.patch_model.specs.Legal.{IsLegalMerge}
use Rattle.patch_model.specs.Orderly.{IsOrderly}
use Rattle.patch_model.specs.State.{class_of, joined}
use Rattle.patch_graph.specs.Meaning.{IsGraphOf}
use Rattle.patch_links.specs.State.{Class, Slots, Numbers, find, class_at}
use Rattle.patch_links.specs.Merging.{IsJoined, may_join, may_join_at}
use Rattle.patch_graph.specs.State.{Graph}

-- the graph with the class that was at the one key part of that at the other, where both are in memory and of one block
abbrev pub HasJoined : ℕ → ℕ → Graph → Graph → Type 0
HasJoined keep gone old new =
    (c d : Class) → keep ≢ gone → class_at old.slots keep ≡ Some c → class_at old.slots gone ≡ Some d → may_join c d ≡ true → IsJoined keep gone c d old.slots new.slots old.numbers new.numbers

-- the patches after a merge of the classes of two of them
abbrev pub merged : List Entry → ℕ → ℕ → List Entry
merged all a b = map (joined (class_of all a) (class_of all b)) all

-- the name of the class that a merge leaves
abbrev pub merged_name : List Entry → ℕ → ℕ → ℕ
merged_name all a b = min (class_of all a) (class_of all b)

-- the one graph's patches are the other's after a legal merge, and their class has this name
abbrev pub Merges : Graph → Graph → ℕ → ℕ → ℕ → Type 0
Merges old new a b name = (all : List Entry) → IsGraphOf old all → IsLegalMerge all a b → IsOrderly (merged all a b)
    → IsGraphOf new (merged all a b) × (name ≡ merged_name all a b)

-- the two numbers are of patches in memory, of one block
pub record AreOfOneBlock (all : List Entry) (a b : ℕ) : Type 0 where
  pub e : Entry
  pub f : Entry
  pub in_e : In all e
  pub in_f : In all f
  pub of_a : e.patch.no ≡ a
  pub of_b : f.patch.no ≡ b
  pub memory_e : is_memory e ≡ true
  pub memory_f : is_memory f ≡ true
  pub block : e.patch.block ≡ f.patch.block

-- they aren't, so nothing can be merged
abbrev pub CantBeOne : List Entry → ℕ → ℕ → Type 0
CantBeOne all a b = AreOfOneBlock all a b → ⊥

-- the numbers lead to two classes in memory, of one block
abbrev pub may_be_one : Slots → Numbers → ℕ → ℕ → Bool
may_be_one slots numbers a b = option_map_or (λ k. option_map_or (λ j. may_join_at k j slots) (find numbers b) false) (find numbers a) false
