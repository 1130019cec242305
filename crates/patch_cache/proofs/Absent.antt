-- Causes that tell of a block that isn't resident, and caches of which all or some blocks are.
use Rattle.std.proofs.Common.{◌≡◌, ℕ, ◌<◌, ◌≤◌, inl, inr, Bool, true, false, List, Option, Some, None, length, refl, ap, arith}
use Rattle.std.specs.Prelude.{nat_lt}
use Rattle.std.proofs.lemmas.Bool.{cases_lt, le-ltb, lt-ltb}
use Rattle.patch_model.specs.declared.refusals.Refusal.{Refusal}
use Rattle.patch_model.specs.declared.refusals.RefusalKind.TheVariants as kind
use Rattle.patch_model.specs.Refusing.{with_number}
use Rattle.patch_model.specs.Execution.{Execution}
use Rattle.patch_cache.specs.Contents.{Contents, is_resident}
use Rattle.patch_cache.specs.Meaning.{Shows, IsCacheOf}
use Rattle.patch_cache.specs.Paging.{why_not_resident, first_cause, if_resident}
use Rattle.patch_cache.proofs.Residency.{resident_within}

-- a block that is resident adds no cause
pub alone : (c : Contents) (block : ℕ) (why : Option Refusal) → is_resident c block ≡ true → if_resident c block why ≡ why
alone c block why is = let in_blocks : nat_lt block (length c.blocks) ≡ true = lt-ltb block (length c.blocks) (resident_within c block is) in rw (in_blocks, is) refl

-- nor does one that there isn't
pub beyond : (c : Contents) (block : ℕ) (why : Option Refusal) → length c.blocks ≤ block → if_resident c block why ≡ why
beyond c block why past = let none : nat_lt block (length c.blocks) ≡ false = le-ltb block (length c.blocks) past in rw none refl

pub absent : (c : Contents) (block : ℕ) (why : Option Refusal) → block < length c.blocks → is_resident c block ≡ false → if_resident c block why ≡ Some (with_number kind.NotResident block)
absent c block why known not_there = let in_blocks : nat_lt block (length c.blocks) ≡ true = lt-ltb block (length c.blocks) known in rw (in_blocks, not_there) refl

-- so where all are resident there is no such cause
pub whole_alone : (c : Contents) (run : Execution) (block : ℕ) (why : Option Refusal) → IsCacheOf c run → if_resident c block why ≡ why
whole_alone c run block why at = elim (cases_lt block (length c.blocks)) [
  | inl known ↦ alone c block why (at.resident refl block (let count = at.count in omega (arith, known, count)))
  | inr past ↦ beyond c block why past
]

-- where a block isn't missed it adds none
pub unmissed : (c : Contents) (block : ℕ) (why : Option Refusal) → why_not_resident c block ≡ None → if_resident c block why ≡ why
unmissed c block why none = ap (λ first. first_cause first why) none

-- a block that isn't missed is resident, or there is none such
pub resident_missed : (c : Contents) (block : ℕ) → is_resident c block ≡ true → why_not_resident c block ≡ None
resident_missed c block is = let in_blocks : nat_lt block (length c.blocks) ≡ true = lt-ltb block (length c.blocks) (resident_within c block is) in rw (in_blocks, is) refl

pub beyond_missed : (c : Contents) (block : ℕ) → length c.blocks ≤ block → why_not_resident c block ≡ None
beyond_missed c block past = let none : nat_lt block (length c.blocks) ≡ false = le-ltb block (length c.blocks) past in rw none refl

pub absent_missed : (c : Contents) (block : ℕ) → block < length c.blocks → is_resident c block ≡ false → why_not_resident c block ≡ None → ⊥
absent_missed c block known not_there none = let told = absent c block None known not_there in let same = unmissed c block None none in absurd (cc)

pub whole_missed : (c : Contents) (run : Execution) (block : ℕ) → IsCacheOf c run → why_not_resident c block ≡ None
whole_missed c run block at = elim (cases_lt block (length c.blocks)) [
  | inl known ↦ resident_missed c block (at.resident refl block (let count = at.count in omega (arith, known, count)))
  | inr past ↦ beyond_missed c block past
]

-- what is said of a cache that has all its blocks and of one that has some is said of either
pub by_whole : (whole : Bool) (P : Bool → Type 0) → P true → P false → P whole
by_whole true P all some = all
by_whole false P all some = some

-- a cache of which all blocks are resident is one of which some are
pub in_part : (whole : Bool) (c : Contents) (taken : ℕ → List ℕ) (run : Execution) → Shows whole c taken run → Shows false c taken run
in_part whole c taken run s = record {
  legal = s.legal;
  count = s.count;
  blocks = s.blocks;
  absent = s.absent;
  resident = λ all. absurd (cc);
  writes = s.writes;
  graph = s.graph;
  sends = s.sends;
  live = s.live;
}
