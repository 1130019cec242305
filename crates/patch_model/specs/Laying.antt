-- A patch laid on a block, byte by byte: the lemmas of every crate's proofs.
use Rattle.std.proofs.Common.{◌≡◌, ℕ, ◌-◌, ◌<◌, ◌≤◌, ◌⊎◌, inl, inr, List, length, get_or, arith}
use Rattle.std.proofs.lemmas.List.{places}
use Rattle.std.proofs.lemmas.Bool.Decides.{nat_tests}
use Rattle.std.specs.Prelude.{IsTrue, IsFalse}
use Rattle.patch_model.specs.Patch.{Patch}
use Rattle.patch_model.specs.Pile.{end, lay, covers}

pub length-lay : (b : List ℕ) (p : Patch) → end p ≤ length b → length (lay b p) ≡ length b
length-lay b p fits = grind (arith, places)

pub lay-before : (b : List ℕ) (p : Patch) (i d : ℕ) → end p ≤ length b → i < p.start → get_or (lay b p) i d ≡ get_or b i d
lay-before b p i d fits before = grind (arith, places)

pub lay-inside : (b : List ℕ) (p : Patch) (i d : ℕ) → end p ≤ length b → p.start ≤ i → i < end p → get_or (lay b p) i d ≡ get_or p.bytes (i - p.start) d
lay-inside b p i d fits from to = grind (arith, places)

pub lay-behind : (b : List ℕ) (p : Patch) (i d : ℕ) → end p ≤ length b → end p ≤ i → get_or (lay b p) i d ≡ get_or b i d
lay-behind b p i d fits behind = grind (arith, places)

pub covers-from : (p : Patch) (i : ℕ) → IsTrue (covers p i) → (p.start ≤ i) × (i < end p)
covers-from p i h = grind (arith, nat_tests)

pub covers-to : (p : Patch) (i : ℕ) → p.start ≤ i → i < end p → IsTrue (covers p i)
covers-to p i from to = grind (arith, nat_tests)

pub uncovered : (p : Patch) (i : ℕ) → IsFalse (covers p i) → (i < p.start) ⊎ (end p ≤ i)
uncovered p i h = grind (arith, nat_tests)

pub lay-uncovered : (b : List ℕ) (p : Patch) (i d : ℕ) → end p ≤ length b → IsFalse (covers p i) → get_or (lay b p) i d ≡ get_or b i d
lay-uncovered b p i d fits off = elim (uncovered p i off) [ inl before ↦ lay-before b p i d fits before | inr behind ↦ lay-behind b p i d fits behind ]

pub lay-covered : (b : List ℕ) (p : Patch) (i d : ℕ) → end p ≤ length b → IsTrue (covers p i) → get_or (lay b p) i d ≡ get_or p.bytes (i - p.start) d
lay-covered b p i d fits on = let both = covers-from p i on in lay-inside b p i d fits both.0 both.1
