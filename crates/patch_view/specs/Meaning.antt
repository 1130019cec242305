-- Which histories a block's records represent.
use Rattle.std.specs.Prelude.{ℕ, true, false, ◌≡◌, ◌+◌, ◌-◌, ◌<◌, ◌≤◌, ◌==◌, ◌&&◌, not, List, [], length, slice_index, if◌then◌else◌}
use Rattle.std.specs.List.{list_any}
use Rattle.patch_model.specs.declared.blocks.TheConstants.{BLOCK}
use Rattle.patch_model.specs.Entry.{is_durable, is_among, is_memory, Entry}
use Rattle.patch_model.specs.Dependency.{class_depends}
use Rattle.patch_model.specs.Member.{In}
use Rattle.patch_model.specs.History.{History, HoldsDependents, without}
use Rattle.patch_view.specs.History.{IsCoherent, class_covers, class_names, top, below}
use Rattle.patch_records.specs.Records.{Class, spans, may_be_taken}
use Rattle.patch_stacks.specs.State.{Block, class_at}

-- the record is that of a live class of the history, where these classes are taken back
pub record IsClassOf (h : History) (taken : List ℕ) (c : Class) : Type 0 where
  pub known : list_any (λ e. e.class == c.name) h.entries ≡ true
  pub named_by_member : is_among c.members c.name ≡ true
  pub members : (n : ℕ) → is_among c.members n ≡ list_any (λ e. e.patch.no == n && e.class == c.name) h.entries
  pub after : (n : ℕ) → is_among c.after n ≡ true → class_names h c.name n ≡ true
  pub marked : (e : Entry) → In h.entries e → e.class ≡ c.name → (is_durable e ≡ false) × (is_memory e ≡ not c.flying) × (e.hard ≡ c.hard)
  pub span : (x : ℕ) → spans c x ≡ class_covers h c.name x
  pub flag : c.taken ≡ is_among taken c.name
  pub some : c.start < c.stop
  pub fits : c.stop ≤ BLOCK
  pub long : may_be_taken c ≡ true → c.start + length c.saved ≡ c.stop
  pub no_saved : may_be_taken c ≡ false → c.saved ≡ []
  pub saved : may_be_taken c ≡ true → (x : ℕ) → spans c x ≡ true
      → slice_index c.saved (x - c.start) ≡ (if c.taken then top h c.name x else below h c.name x)

-- Of the numbers that a record's class names, it has those of all members of the records.
abbrev pub NamesLive : Block → History → Type 0
NamesLive b h =
    (i j n : ℕ) → i < length b.classes → j < length b.classes → is_among (class_at b j).members n ≡ true
    → class_names h (class_at b i).name n ≡ true → is_among (class_at b i).after n ≡ true

-- The block's bytes and records are those of the history, with these classes taken back. No class depends directly on one
-- whose record stands above its own.
pub record IsBlockOf (b : Block) (taken : List ℕ) (h : History) : Type 0 where
  pub coherent : IsCoherent h
  pub holds : HoldsDependents h taken
  pub bytes : b.bytes ≡ without h taken
  pub classes : (i : ℕ) → i < length b.classes → IsClassOf h taken (class_at b i)
  pub complete : (e : Entry) → In h.entries e → is_durable e ≡ false → list_any (λ c. c.name == e.class) b.classes ≡ true
  pub distinct : (i j : ℕ) → i < length b.classes → j < length b.classes → (class_at b i).name ≡ (class_at b j).name → i ≡ j
  pub ordered : (i j : ℕ) → i < j → j < length b.classes → class_depends h.entries (class_at b i).name (class_at b j).name ≡ false
  pub named : NamesLive b h
