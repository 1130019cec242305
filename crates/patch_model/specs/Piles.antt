-- What is true of piles.
use Rattle.std.specs.Prelude.{ℕ, ◌≡◌, ◌-◌, ◌≤◌, IsTrue, IsFalse, List, [], ◌∷◌, ◌++◌, length, slice_index, take, drop}
use Rattle.std.specs.List.{AllByRecursion}
use Rattle.patch_model.specs.Patch.{Patch}
use Rattle.patch_model.specs.Pile.{end, lay, pile, covers}

-- the patches fit in a block of this length
abbrev pub Fit : ℕ → List Patch → Type 0
Fit bytes patches = AllByRecursion (λ p. end p ≤ bytes) patches

-- no byte is in both spans
abbrev pub IsApart : Patch → Patch → Type 0
IsApart p q = (place : ℕ) → IsTrue (covers p place) → IsFalse (covers q place)

-- lists of patches, of which one becomes the other as neighbours that share no byte change places
pub data Rearranged : List Patch → List Patch → Type 0 where
  unchanged : {ps : List Patch} → Rearranged ps ps
  exchange : {ps : List Patch} (before : List Patch) (p q : Patch) (later : List Patch)
      → IsApart p q → Rearranged (before ++ q ∷ p ∷ later) ps → Rearranged (before ++ p ∷ q ∷ later) ps

-- two neighbours that share no byte may change places
abbrev pub NeighboursCommute : Type 0
NeighboursCommute =
    (first : List ℕ) (before : List Patch) (p q : Patch) (later : List Patch)
    → Fit (length first) (before ++ p ∷ q ∷ later) → IsApart p q
    → pile first (before ++ p ∷ q ∷ later) ≡ pile first (before ++ q ∷ p ∷ later)

-- and so may any number of them, one pair after another
abbrev pub RearrangedAlike : Type 0
RearrangedAlike =
    (first : List ℕ) (patches others : List Patch)
    → Fit (length first) patches → Rearranged patches others → pile first patches ≡ pile first others

-- a patch that shares no byte with a later one may come last
abbrev pub MayComeLast : Type 0
MayComeLast =
    (first : List ℕ) (before : List Patch) (p : Patch) (later : List Patch)
    → Fit (length first) (before ++ p ∷ later) → AllByRecursion (IsApart p) later
    → pile first (before ++ p ∷ later) ≡ pile first (before ++ later ++ p ∷ [])

-- a byte that no patch covers is that of the block beneath
abbrev pub UncoveredByte : Type 0
UncoveredByte =
    (first : List ℕ) (patches : List Patch) (place : ℕ)
    → Fit (length first) patches → AllByRecursion (λ p. IsFalse (covers p place)) patches
    → slice_index (pile first patches) place ≡ slice_index first place

-- any other byte is that of the last patch that covers it
abbrev pub CoveredByte : Type 0
CoveredByte =
    (first : List ℕ) (before : List Patch) (p : Patch) (later : List Patch) (place : ℕ)
    → Fit (length first) (before ++ p ∷ later)
    → IsTrue (covers p place) → AllByRecursion (λ q. IsFalse (covers q place)) later
    → slice_index (pile first (before ++ p ∷ later)) place ≡ slice_index p.bytes (place - p.start)

-- the bytes of a block in a patch's span
abbrev pub under : List ℕ → Patch → List ℕ
under block p = take (length p.bytes) (drop p.start block)

-- a patch that shares no byte with a later one is taken back by the bytes that it was laid over
abbrev pub TakenBack : Type 0
TakenBack =
    (first : List ℕ) (before : List Patch) (p : Patch) (later : List Patch)
    → Fit (length first) (before ++ p ∷ later) → AllByRecursion (IsApart p) later
    → lay (pile first (before ++ p ∷ later)) (record p { bytes = under (pile first before) p }) ≡ pile first (before ++ later)
