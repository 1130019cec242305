-- Spans of blocks, and why they aren't shown.
use Rattle.std.proofs.Common.{◌≡◌, ◌<◌, ◌≤◌, ℕ, ◌+◌, ◌∙◌, true, false, Some, None, Result, Ok, Err, List, [], length, slice_index_or, refl, ap, subst, arith}
use Rattle.std.specs.Prelude.{◌↔◌, IfErr, OnOk, IsErrOf, is_err, nat_le, nat_lt, slice_get}
use Rattle.std.proofs.lemmas.Bool.Decides.{nat_tests}
use Rattle.std.proofs.lemmas.List.Elements.{All-get_or}
use Rattle.std.proofs.lemmas.Option.{get_or_from_slice_get, slice_get_within}
use Rattle.patch_model.specs.declared.blocks.TheConstants.{BLOCK}
use Rattle.patch_model.specs.declared.refusals.RefusalKind.TheVariants as kind
use Rattle.patch_model.specs.Refusing.{bare, why_not_shown}
use Rattle.patch_device.specs.declared.refusals.DeviceRefusal.{DeviceRefusal}
use Rattle.patch_device.specs.declared.refusals.DeviceRefusal.TheVariants.{NoSuchBlock}
use Rattle.patch_device.specs.MemDevice.{contents_of, blocks_whole_law}
use Rattle.patch_replay.specs.World.{World}
use Rattle.patch_replay.specs.CachedDisk.{IsAt}
use Rattle.patch_replay.specs.declared.cached_disk.CachedDisk.{CachedDisk}

-- a device in memory refuses a block that there isn't, and nothing else
pub missing : {T : Type 0} (r : Result T DeviceRefusal) (count n : ℕ) → is_err r ≡ true → IfErr r (λ e. e ≡ NoSuchBlock) → (IsErrOf r NoSuchBlock ↔ (count ≤ n)) → count ≤ n
missing (Ok x) count n err is iff = absurd (cc)
missing (Err e) count n err is iff = iff.0 (ap Err is)

pub no_block : (blocks block start len : ℕ) → blocks ≤ block → why_not_shown blocks block start len ≡ Some (bare kind.NoSuchBlock)
no_block blocks block start len none = let t : nat_le blocks block ≡ true = grind (arith, nat_tests, none) in rw t refl

pub no_bytes : (blocks block start len : ℕ) → block < blocks → BLOCK < start + len → why_not_shown blocks block start len ≡ Some (bare kind.OutOfBlock)
no_bytes blocks block start len known over =
    let f : nat_le blocks block ≡ false = grind (arith, nat_tests, known) in
    let t : nat_lt BLOCK (start + len) ≡ true = grind (arith, nat_tests, over) in rw (f, t) refl

pub shown : (blocks block start len : ℕ) → block < blocks → start + len ≤ BLOCK → why_not_shown blocks block start len ≡ None
shown blocks block start len known fits =
    let f : nat_le blocks block ≡ false = grind (arith, nat_tests, known) in
    let g : nat_lt BLOCK (start + len) ≡ false = grind (arith, nat_tests, fits) in rw (f, g) refl

-- what a device shows where it has the block
pub on_ok : {T E : Type 0} (r : Result T E) (P : Type 0) → is_err r ≡ false → OnOk r P → P
on_ok (Ok x) P e h = h
on_ok (Err x) P e h = absurd (cc)

-- the block of this number is on the disk, and holds these bytes
pub record IsOnDisk (w : World) (block : ℕ) (bytes : List ℕ) : Type 0 where
  pub known : block < length w.run.first
  pub is : slice_index_or w.disk block [] ≡ bytes
  pub whole : length bytes ≡ BLOCK

-- a block that was read is on the disk
pub on_disk : (core : CachedDisk) (w : World) → IsAt core w → (n block : ℕ) (bytes : List ℕ) → n ≡ block → slice_get (contents_of core.device) n ≡ Some bytes → IsOnDisk w block bytes
on_disk core w at n block bytes same read =
    let here : slice_get w.disk block ≡ Some bytes = subst (λ k. slice_get w.disk k ≡ Some bytes) same (subst (λ d. slice_get d n ≡ Some bytes) at.disk read) in
    let within : n < length (contents_of core.device) = slice_get_within (contents_of core.device) n bytes read in
    let as_many : length (contents_of core.device) ≡ length w.run.first = ap length at.disk ∙ at.images.count in record {
      known = omega (arith, within, same, as_many);
      is = get_or_from_slice_get w.disk block bytes [] here;
      whole = subst (λ (x : List ℕ). length x ≡ BLOCK) (get_or_from_slice_get (contents_of core.device) n bytes [] read)
          (All-get_or (λ (x : List ℕ). length x ≡ BLOCK) (contents_of core.device) n [] within (blocks_whole_law core.device tt));
    }
