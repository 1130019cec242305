-- Which patches and classes depend on which.
use Rattle.std.specs.Prelude.{ℕ, Bool, ◌≢◌, ◌==◌, ◌&&◌, ◌||◌, not, min, max, nat_lt, IsTrue, List}
use Rattle.std.specs.List.{list_any}
use Rattle.patch_model.specs.Patch.{Patch}
use Rattle.patch_model.specs.Pile.{end}
use Rattle.patch_model.specs.Entry.{Entry, is_live, is_among}

-- the two change a common byte of one block: the later start lies before the earlier end
abbrev pub shares_byte : Patch → Patch → Bool
shares_byte p q = p.block == q.block && nat_lt (max p.start q.start) (min (end p) (end q))

-- p names q, or q is earlier and shares a byte with it
abbrev pub depends_directly : Patch → Patch → Bool
depends_directly p q = is_among p.after q.no || (nat_lt q.no p.no && shares_byte p q)

-- a member of the class a depends directly on a member of b, which is another class
abbrev pub class_depends : List Entry → ℕ → ℕ → Bool
class_depends all a b =
    not (a == b) && list_any (λ e. e.class == a && list_any (λ f. f.class == b && depends_directly e.patch f.patch) all) all

-- a chain of direct dependencies from one class to another
pub data Path (all : List Entry) : ℕ → ℕ → Type 0 where
  one : {a b : ℕ} → IsTrue (class_depends all a b) → Path all a b
  onward : {a b c : ℕ} → IsTrue (class_depends all a b) → Path all b c → Path all a c

-- the class of this name has a live patch
abbrev pub has_live : List Entry → ℕ → Bool
has_live all a = list_any (λ e. e.class == a && is_live e) all

-- the class c, a third and live one, lies on a path from a to b
pub record LiesBetween (all : List Entry) (a b c : ℕ) : Type 0 where
  pub live : IsTrue (has_live all c)
  pub not_first : c ≢ a
  pub not_last : c ≢ b
  pub from : Path all a c
  pub to : Path all c b
