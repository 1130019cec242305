-- Which keys of a store are listed, in which order, and by which text.
use Rattle.std.specs.Prelude.{ℕ, Bool, true, ◌≡◌, ◌++◌, ◌&&◌, ◌↔◌, not, nat_eq, if◌then◌else◌, List, [], ◌∷◌, flat_map, codes, decimal, AllPairs, Contains, Option, Ok}
use Rattle.std.specs.Io.KnownBytes.{Appends}
use Rattle.std.specs.List.{starts_with}
use Rattle.hex.specs.Hex.{encode_lower}
use Rattle.patch_frame.specs.Frame.{Content}
use Rattle.patch_recovery.specs.Ledger.{Ledger, map_of}
use Rattle.patch_recovery.specs.Reading.{reading}
use Rattle.patch_history.specs.History.{History, ledger_of}
use Rattle.patch_index.specs.Keys.{is_key_before}
use Rattle.patch_store.specs.Checking.{of_content}
use Rattle.patch_store.specs.Meaning.{Store, IsStoreOf}
use Rattle.patch_listing.specs.declared.listing.Wanted.{Wanted}

-- the key begins with the prefix
abbrev pub begins_with : (prefix key : List ℕ) → Bool
begins_with prefix key = starts_with nat_eq key prefix

-- the key is wanted: it doesn't come before the least one, and begins as is asked for
abbrev pub is_wanted : Wanted → List ℕ → Bool
is_wanted w key = not (is_key_before key w.from.now) && begins_with w.prefix.now key

-- a value behind a space, if it has bytes
abbrev pub value_text : List ℕ → List ℕ
value_text [] = []
value_text (byte ∷ more) = codes " " ++ encode_lower (byte ∷ more)

-- a key, and the length of its value in bytes
abbrev pub entry_text : List ℕ × ℕ → List ℕ
entry_text it = encode_lower it.0 ++ (codes " " ++ decimal it.1)

-- The line of a key: these, and the value where values are wanted.
abbrev pub line_of : (values : Bool) → Content → List ℕ
line_of values c = entry_text (of_content c) ++ (if values then value_text c.value else []) ++ 10 ∷ []

-- Of the keys of a map, with their values, just those that are wanted, each before all behind it.
pub record AreListed (w : Wanted) (map : List Content) (listed : List Content) : Type 0 where
  pub rising : AllPairs (λ one other. is_key_before one.key other.key ≡ true) listed
  pub just : (c : Content) → Contains listed c ↔ (Contains map c × (is_wanted w c.key ≡ true))

-- their lines were written
pub record WritesLines (w : Wanted) (map : List Content) (old new : Option (List ℕ)) : Type 0 where
  pub listed : List Content
  pub are : AreListed w map listed
  pub written : Appends old new (flat_map (line_of w.values) listed)

-- The blocks are read as a store's, and the lines of its map's keys were written.
pub record HasListed (w : Wanted) (contents : List (List ℕ)) (old new : Option (List ℕ)) : Type 0 where
  pub ledger : Ledger
  pub reads : reading contents ≡ Ok ledger
  pub lines : WritesLines w (map_of ledger) old new

-- On the way.

-- this is said of the key, with its value, that the store reports so
abbrev pub OfContent : Store → (it : List ℕ × ℕ) → (Content → Type 0) → Type 0
OfContent store it Said =
    (h : History) → IsStoreOf store h → (c : Content) → Contains (map_of (ledger_of h)) c → of_content c ≡ it → Said c

-- and of the value of a key
abbrev pub OfValue : Store → (key : List ℕ) → (List ℕ → Type 0) → Type 0
OfValue store key Said = (h : History) → IsStoreOf store h → (c : Content) → Contains (map_of (ledger_of h)) c → c.key ≡ key → Said c.value

-- what is written of a key: its line, or nothing where it begins otherwise
abbrev pub text_for : Wanted → Content → List ℕ
text_for w c = if begins_with w.prefix.now c.key then line_of w.values c else []
