-- What one more patch adds.
use Rattle.std.specs.Prelude.{ℕ, Bool, true, false, ◌≡◌, ◌≢◌, ◌⊎◌, ◌<◌, ◌+◌, ◌==◌, ◌&&◌, List, [], ◌∷◌, ◌++◌, Some, None}
use Rattle.std.specs.List.{list_all}
use Rattle.std.specs.Option.{option_map_or}
use Rattle.patch_model.specs.Patch.{Patch}
use Rattle.patch_model.specs.Entry.{Entry}
use Rattle.patch_model.specs.Orderly.{IsOrderly}
use Rattle.patch_model.specs.State.{fresh}
use Rattle.patch_model.specs.Pile.{end}
use Rattle.patch_model.specs.declared.patches.Mark.TheVariants.{Memory}
use Rattle.patch_model.specs.declared.patches.Undo.{Undo}
use Rattle.patch_model.specs.declared.patches.Undo.TheVariants.{Keep, MayDrop}
use Rattle.patch_model.specs.Member.{In}
use Rattle.patch_graph.specs.Skyline.{IsLaidOn, spans_of}
use Rattle.patch_skyline.specs.Skyline.{IsTopWithin}
use Rattle.patch_graph.specs.declared.graphs.Added.{Added}
use Rattle.patch_graph.specs.Meaning.{IsGraphOf}
use Rattle.patch_graph.specs.Naming.{IsCovered, IsNamedBelow}
use Rattle.patch_links.specs.declared.nodes.Reach.{Reach}
use Rattle.patch_links.specs.State.{Class, Slots, Numbers, IsInReach, find, class_at}
use Rattle.patch_links.specs.Adding.{IsNew}
use Rattle.patch_graph.specs.State.{Graph}

-- of the patches that were made, enough of those that a patch of this span names to cover them all, and those that wrote a
-- byte of it last
pub record AreDependencies (g : Graph) (block start stop : ℕ) (after deps : List ℕ) : Type 0 where
  pub are_made : (n : ℕ) → In deps n → n < g.made
  pub named : (n : ℕ) → IsNamedBelow g.made after n → IsCovered g.slots g.numbers deps n
  pub last : (n : ℕ) → IsTopWithin (spans_of g.tops block) start stop n → n < g.made → In deps n
  pub only : (n : ℕ) → In deps n → In after n ⊎ IsTopWithin (spans_of g.tops block) start stop n

-- the number isn't live, or that of a hard class of the block
abbrev pub lets_drop : Slots → Numbers → ℕ → ℕ → Bool
lets_drop slots numbers block n = option_map_or (λ k. option_map_or (λ c. c.hard && c.block == block) (class_at slots k) false) (find numbers n) true

abbrev pub is_hard : Slots → Numbers → ℕ → Undo → List ℕ → Bool
is_hard slots numbers block Keep deps = false
is_hard slots numbers block MayDrop deps = list_all (lets_drop slots numbers block) deps

abbrev pub new_class : ℕ → ℕ → ℕ → ℕ → List ℕ → Reach → Bool → Class
new_class number block start stop deps reach hard =
    record { name = number; members = number ∷ []; block = block; mark = Memory; hard = hard; start = start; stop = stop; after = deps; reach = reach }

-- the graph with one more class
pub record IsAdded (old new : Graph) (key : ℕ) (c : Class) : Type 0 where
  pub made : new.made ≡ old.made + 1
  pub laid : IsLaidOn old.tops new.tops c.block (record { start = c.start; stop = c.stop; no = old.made })
  pub vacant : class_at old.slots key ≡ None
  pub here : class_at new.slots key ≡ Some c
  pub others : (k : ℕ) → k ≢ key → class_at new.slots k ≡ class_at old.slots k
  pub number : find new.numbers old.made ≡ Some key
  pub rest : (n : ℕ) → n ≢ old.made → find new.numbers n ≡ find old.numbers n

-- the class of one more patch, which reaches some numbers in a row that it names
pub record IsDrawnUp (g : Graph) (block start stop : ℕ) (undo : Undo) (after : List ℕ) (c : Class) : Type 0 where
  pub deps : List ℕ
  pub reach : Reach
  pub are : AreDependencies g block start stop after deps
  pub reached : (n : ℕ) → IsInReach reach n → IsNamedBelow g.made after n
  pub is : c ≡ new_class g.made block start stop deps reach (is_hard g.slots g.numbers block undo deps)

-- the class may be put in: it has the next number and a byte, is in memory and alone, and depends on earlier patches
pub record MayBePutIn (g : Graph) (c : Class) : Type 0 where
  pub number : c.name ≡ g.made
  pub some : c.start < c.stop
  pub new : IsNew g.made c

-- a patch of this number, span and order
pub record IsPatch (p : Patch) (number block start stop : ℕ) (after : List ℕ) (undo : Undo) : Type 0 where
  pub no : p.no ≡ number
  pub block_is : p.block ≡ block
  pub start_is : p.start ≡ start
  pub end_is : end p ≡ stop
  pub after_is : p.after ≡ after
  pub undo_is : p.undo ≡ undo

-- the patches with one more
abbrev pub with_patch : List Entry → Patch → List Entry
with_patch all p = all ++ fresh all p ∷ []

-- the one graph's patches are the other's and one more, of which this is told
abbrev pub Adds : Graph → Graph → ℕ → ℕ → ℕ → List ℕ → Undo → Added → Type 0
Adds old new block start stop after undo added = (all : List Entry) (p : Patch)
    → IsGraphOf old all → IsPatch p old.made block start stop after undo → IsOrderly (with_patch all p)
    → IsGraphOf new (with_patch all p) × (added.no ≡ p.no) × (added.hard ≡ (fresh all p).hard)

-- of a patch that was drawn up as this class its number is told, and whether it is hard
abbrev pub Tells : Graph → ℕ → ℕ → ℕ → List ℕ → Undo → Class → Type 0
Tells g block start stop after undo c = (all : List Entry) (p : Patch)
    → IsGraphOf g all → IsPatch p g.made block start stop after undo → IsOrderly (with_patch all p)
    → (c.name ≡ p.no) × (c.hard ≡ (fresh all p).hard)

-- the one graph's patches are the other's and the one that was drawn up as this class
abbrev pub PutsIn : Graph → Graph → Class → Type 0
PutsIn old new c = (all : List Entry) (p : Patch) (block start stop : ℕ) (after : List ℕ) (undo : Undo)
    → IsDrawnUp old block start stop undo after c
    → IsGraphOf old all → IsPatch p old.made block start stop after undo → IsOrderly (with_patch all p)
    → IsGraphOf new (with_patch all p)
