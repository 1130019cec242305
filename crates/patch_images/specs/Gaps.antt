-- What lies between the bytes that a block's classes saved.
use Rattle.std.specs.Prelude.{ℕ, Bool, true, false, ◌≡◌, ◌≢◌, ◌<◌, ◌≤◌, ◌+◌, ◌-◌, ◌&&◌, nat_le, min, List, length, slice_index_or, if◌then◌else◌}
use Rattle.patch_model.specs.declared.blocks.TheConstants.{BLOCK}
use Rattle.patch_records.specs.Records.{Class, no_class, is_takeable, saves_any, saved_end}
use Rattle.patch_images.specs.declared.gaps.Gap.{Gap}

-- the whole block, of no class
abbrev pub no_gap : Gap
no_gap = record { count = 0; start = 0; stop = BLOCK; misses = 0 }

-- without the classes from one place up to another: of the first ones those are left that don't lie there
abbrev pub without_places : Gap → ℕ → ℕ → Gap
without_places g from to = record g { count = g.count - (min g.count to - min g.count from) }

-- a class more departed elsewhere, as far as a usize counts
abbrev pub missed : Gap → Gap
missed g = record g { misses = min (g.misses + 1) 18446744073709551615 }

abbrev pub has_bytes : Gap → ℕ → ℕ → Bool
has_bytes g start stop = nat_le g.start start && nat_le stop g.stop

-- the gap itself where these bytes lie in it, else the whole block
abbrev pub begun_gap : Gap → ℕ → ℕ → Gap
begun_gap g start stop = if has_bytes g start stop then g else no_gap

abbrev pub IsRound : Gap → ℕ → ℕ → Type 0
IsRound g start stop = (g.start ≤ start) × (stop ≤ g.stop)

-- the class, where it may be taken, saved no byte from one place up to another
pub record IsBeside (c : Class) (start stop : ℕ) : Type 0 where
  pub fits : saved_end c ≤ BLOCK
  pub off : is_takeable c ≡ true → saves_any c start stop ≡ false

-- the gap without what one class more saved, and still round these bytes
pub record IsNarrowed (old : Gap) (c : Class) (start stop : ℕ) (new : Gap) : Type 0 where
  pub low : old.start ≤ new.start
  pub high : new.stop ≤ old.stop
  pub round : IsRound new start stop
  pub beside : IsBeside c new.start new.stop

-- each of the first so many is beside it
pub record IsGap (g : Gap) (cs : List Class) : Type 0 where
  pub within : g.count ≤ length cs
  pub beside : (k : ℕ) → k < g.count → IsBeside (slice_index_or cs k no_class) g.start g.stop

-- of the first n each but the one at a place is beside these bytes
abbrev pub AreBeside : List Class → ℕ → ℕ → ℕ → ℕ → Type 0
AreBeside cs at n start stop = (k : ℕ) → k < n → k ≢ at → IsBeside (slice_index_or cs k no_class) start stop

-- it is round the bytes that the class at the place saved, and each other class is beside it
pub record IsGapRound (g : Gap) (cs : List Class) (at : ℕ) : Type 0 where
  pub all : g.count ≡ length cs
  pub fits : saved_end (slice_index_or cs at no_class) ≤ BLOCK
  pub round : IsRound g (slice_index_or cs at no_class).start (saved_end (slice_index_or cs at no_class))
  pub beside : AreBeside cs at (length cs) g.start g.stop

-- each of the first so many but the class at the place is beside it
pub record IsGapBut (g : Gap) (cs : List Class) (at : ℕ) : Type 0 where
  pub within : g.count ≤ length cs
  pub beside : AreBeside cs at g.count g.start g.stop
