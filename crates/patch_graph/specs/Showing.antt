-- What a graph shows of a live class.
use Rattle.std.specs.Prelude.{ℕ, false, ◌≡◌, ◌==◌, ◌&&◌, nat_le, nat_lt, List}
use Rattle.std.specs.List.{list_any}
use Rattle.patch_model.specs.Pile.{covers}
use Rattle.patch_model.specs.Entry.{Entry, is_durable}
use Rattle.patch_model.specs.Member.{In}
use Rattle.patch_links.specs.State.{Class}
use Rattle.patch_graph.specs.declared.classes.LiveClass.{LiveClass}

abbrev pub shown : Class → LiveClass
shown c = record { name = c.name; block = c.block; mark = c.mark; hard = c.hard; start = c.start; stop = c.stop }

-- it is the class of the live patch of this number: what the patch is, and the bytes that its class's patches change
pub record IsShown (all : List Entry) (no : ℕ) (c : LiveClass) : Type 0 where
  pub patch : Entry
  pub inside : In all patch
  pub number : patch.patch.no ≡ no
  pub live : is_durable patch ≡ false
  pub name : patch.class ≡ c.name
  pub mark : patch.mark ≡ c.mark
  pub block : patch.patch.block ≡ c.block
  pub hard : patch.hard ≡ c.hard
  pub span : (x : ℕ) → (nat_le c.start x && nat_lt x c.stop) ≡ list_any (λ e. e.class == c.name && covers e.patch x) all
