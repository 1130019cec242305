-- What has become of the patches of one block.
use Rattle.std.specs.Prelude.{ℕ, Bool, ◌≡◌, ◌≤◌, ◌<◌, ◌==◌, ◌&&◌, ◌||◌, not, nat_lt, true, false, List, [], ◌∷◌, ◌++◌, length, map, filter, slice_index, if◌then◌else◌}
use Rattle.std.specs.List.{list_any, list_all}
use Rattle.patch_model.specs.declared.blocks.TheConstants.{BLOCK}
use Rattle.patch_model.specs.declared.patches.Undo.{Undo}
use Rattle.patch_model.specs.declared.patches.Mark.{Mark}
use Rattle.patch_model.specs.Pile.{end, covers}
use Rattle.patch_model.specs.Entry.{Entry, is_durable, is_memory, is_flight, is_among, is_undoable}
use Rattle.patch_model.specs.Dependency.{depends_directly}
use Rattle.patch_model.specs.Ready.{has}
use Rattle.patch_model.specs.State.{fresh, joined}
use Rattle.patch_model.specs.Member.{In}
use Rattle.patch_model.specs.History.{History, pile_of}

-- a block with no patch yet
abbrev pub unpatched : List ℕ → History
unpatched first = record { first = first; entries = [] }

-- the block with one more patch
abbrev pub laid : History → Entry → History
laid h e = record h { entries = h.entries ++ e ∷ [] }

-- a patch as it is made, and hard or not as the block is told
abbrev pub made : (number block start : ℕ) (bytes after : List ℕ) (undo : Undo) (hard : Bool) → Entry
made number block start bytes after undo hard =
    record (fresh [] (record { no = number; block = block; start = start; bytes = bytes; after = after; undo = undo })) { hard = hard }

-- a patch of the class changes the byte
abbrev pub class_covers : History → ℕ → ℕ → Bool
class_covers h c x = list_any (λ e. e.class == c && covers e.patch x) h.entries

-- a patch of the class names the number
abbrev pub class_names : History → ℕ → ℕ → Bool
class_names h c n = list_any (λ e. e.class == c && is_among e.patch.after n) h.entries

-- the patch was made before each patch of the class that changes the byte
abbrev pub comes_before : History → ℕ → ℕ → Entry → Bool
comes_before h c x e = list_all (λ f. not (f.class == c && covers f.patch x) || nat_lt e.patch.no f.patch.no) h.entries

-- the byte under the class, and the byte that the class put there
abbrev pub below : History → ℕ → ℕ → ℕ
below h c x = slice_index (pile_of h (comes_before h c x)) x

abbrev pub top : History → ℕ → ℕ → ℕ
top h c x = slice_index (pile_of h (λ e. e.class == c || comes_before h c x e)) x

-- What is true of a block's patches, also while a write of them begins or ends class by class.
pub record IsCoherent (h : History) : Type 0 where
  pub long : length h.first ≡ BLOCK
  pub fits : (e : Entry) → In h.entries e → end e.patch ≤ BLOCK
  pub some : (e : Entry) → In h.entries e → 0 < length e.patch.bytes
  pub one_block : (e f : Entry) → In h.entries e → In h.entries f → e.patch.block ≡ f.patch.block
  pub numbers : (e f : Entry) → In h.entries e → In h.entries f → e.patch.no ≡ f.patch.no → e ≡ f
  pub named_earlier : (e : Entry) (n : ℕ) → In h.entries e → is_among e.patch.after n ≡ true → n < e.patch.no
  pub class_first : (e : Entry) → In h.entries e → e.class ≤ e.patch.no
  pub one_mark : (e f : Entry) → In h.entries e → In h.entries f → e.class ≡ f.class → (e.mark ≡ f.mark) × (e.hard ≡ f.hard)
  pub durable_first : (e f : Entry) → In h.entries e → In h.entries f → depends_directly e.patch f.patch ≡ true → is_durable e ≡ true → is_memory f ≡ false

-- the patch may be made next
pub record IsNext (h : History) (e : Entry) : Type 0 where
  pub newest : (f : Entry) → In h.entries f → f.patch.no < e.patch.no
  pub coherent : IsCoherent (laid h e)

-- the class's patches with this mark
abbrev pub re_marked : Mark → ℕ → Entry → Entry
re_marked m c e = if e.class == c then record e { mark = m } else e

abbrev pub with_mark : History → Mark → ℕ → History
with_mark h m c = record h { entries = map (re_marked m c) h.entries }

-- the class is in flight, and nothing on which it depends directly is in memory
pub record MayLand (h : History) (c : ℕ) : Type 0 where
  pub flying : (e : Entry) → In h.entries e → e.class ≡ c → is_flight e ≡ true
  pub first : (e f : Entry) → In h.entries e → In h.entries f → e.class ≡ c → depends_directly e.patch f.patch ≡ true → is_memory f ≡ false

-- these are the classes of the set, which are in memory
pub record MayDepart (h : History) (numbers : List ℕ) (set : List Entry) : Type 0 where
  pub named : (e : Entry) → In h.entries e → is_among numbers e.class ≡ has set e
  pub memory : (e : Entry) → In h.entries e → has set e ≡ true → is_memory e ≡ true

-- the block's patches with two classes as one
abbrev pub with_joined : History → ℕ → ℕ → History
with_joined h c d = record h { entries = map (joined c d) h.entries }

-- the names of the block's classes that may be taken back
abbrev pub undoable_classes : History → List ℕ
undoable_classes h = map (λ e. e.class) (filter is_undoable h.entries)
