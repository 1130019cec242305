-- Sets of block numbers, one bit each in words of 64.
use Rattle.std.specs.Prelude.{ℕ, Bool, true, false, not, ◌≡◌, ◌≢◌, ◌<◌, ◌≤◌, ◌==◌, ◌&&◌, ◌||◌, ◌*◌, ◌/◌, ◌%◌, Option, Some, None, List, length, slice_index_or}
use Rattle.std.specs.Int.{bit_at}

-- the number is in the set
abbrev pub holds : List ℕ → ℕ → Bool
holds words n = bit_at (slice_index_or words (n / 64) 0) (n % 64) == 1

-- the words reach to the number
abbrev pub HasRoom : List ℕ → ℕ → Type 0
HasRoom words n = n / 64 < length words

-- the least bit that is set, from a place on
abbrev pub IsLowestFrom : ℕ → ℕ → Option ℕ → Type 0
IsLowestFrom word from None = (i : ℕ) → from ≤ i → bit_at word i ≡ 0
IsLowestFrom word from (Some bit) = (from ≤ bit) × (bit < 64) × (bit_at word bit ≡ 1) × ((i : ℕ) → from ≤ i → i < bit → bit_at word i ≡ 0)

-- the least number from one on of those whose bit is in the same word
abbrev pub IsLeastInWord : List ℕ → ℕ → Option ℕ → Type 0
IsLeastInWord words from None = IsLowestFrom (slice_index_or words (from / 64) 0) (from % 64) None
IsLeastInWord words from (Some least) = (least / 64 ≡ from / 64) × IsLowestFrom (slice_index_or words (from / 64) 0) (from % 64) (Some (least % 64))

-- the least number of the set, from one on
abbrev pub IsLeastFrom : List ℕ → ℕ → Option ℕ → Type 0
IsLeastFrom words from None = (n : ℕ) → from ≤ n → holds words n ≡ false
IsLeastFrom words from (Some least) = (from ≤ least) × (least < 16777216) × (holds words least ≡ true) × ((n : ℕ) → from ≤ n → n < least → holds words n ≡ false)

-- the words of a set before and after the bit of a number is set
pub record IsPutIn (old new : List ℕ) (number : ℕ) : Type 0 where
  pub numbers : (n : ℕ) → holds new n ≡ (n == number || holds old n)
  pub others : (place : ℕ) → place ≢ number / 64 → slice_index_or new place 0 ≡ slice_index_or old place 0
  pub long : length new ≡ length old

-- the words of a set before and after the bit of a number is cleared
pub record IsTakenOut (old new : List ℕ) (number : ℕ) : Type 0 where
  pub numbers : (n : ℕ) → holds new n ≡ (not (n == number) && holds old n)
  pub others : (place : ℕ) → place ≢ number / 64 → slice_index_or new place 0 ≡ slice_index_or old place 0
  pub long : length new ≡ length old

-- the set above has the places of just those words that aren't 0
abbrev pub IsSummary : List ℕ → List ℕ → Type 0
IsSummary above words = (place : ℕ) → holds above place ≡ not (slice_index_or words place 0 == 0)

-- four levels of words, each but the lowest with the places of those below it that aren't 0
pub record AreLevels (words rows sheets top : List ℕ) : Type 0 where
  pub few_words : length words ≤ 262144
  pub few_rows : length rows ≤ 4096
  pub covered : length words ≤ 64 * length rows
  pub of_words : IsSummary rows words
  pub of_rows : IsSummary sheets rows
  pub of_sheets : IsSummary top sheets
