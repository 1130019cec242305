-- A device before and after some calls.
use Rattle.std.specs.Prelude.{ℕ, List, ◌≡◌, ◌≤◌, ◌↔◌}
use Rattle.std.proofs.Common.{refl, ◌∙◌, arith}
use Rattle.patch_device.specs.Device.{Elapses, LeavesJust, elapses_still, elapses_both}
use Rattle.patch_device.specs.declared.devices.Device.{Ghosts}

-- It stays the same device: as honest as it was, of as many blocks, with each fault that it had, spent if it was, and what a cut at
-- an earlier moment would have left is as it was.
pub record IsSameDevice {D : Type 0} (g : Ghosts D) (old new : D) : Type 0 where
  pub honesty : g.is_honest old ↔ g.is_honest new
  pub count : g.block_count new ≡ g.block_count old
  pub faults : g.fault_count old ≤ g.fault_count new
  pub spent : g.is_spent old → g.is_spent new
  pub time : Elapses (g.moment old) (g.moment new) (g.left_at old) (g.left_at new)

-- So it does where nothing is done,
pub same_still : {D : Type 0} (g : Ghosts D) (device : D) → IsSameDevice g device device
same_still g device = record {
  honesty = (λ h. h, λ h. h);
  count = refl;
  faults = omega arith;
  spent = λ h. h;
  time = elapses_still (g.moment device) (g.left_at device);
}

-- and over some calls and then some more.
pub same_both : {D : Type 0} (g : Ghosts D) (old mid new : D) → IsSameDevice g old mid → IsSameDevice g mid new → IsSameDevice g old new
same_both g old mid new first second = record {
  honesty = (λ h. second.honesty.0 (first.honesty.0 h), λ h. first.honesty.1 (second.honesty.1 h));
  count = second.count ∙ first.count;
  faults = let a = first.faults in let b = second.faults in omega (arith, a, b);
  spent = λ h. second.spent (first.spent h);
  time = elapses_both (g.moment old) (g.moment mid) (g.moment new) (g.left_at old) (g.left_at mid) (g.left_at new) first.time second.time;
}

-- What a cut of the power at this moment may leave of it.
abbrev pub may_leave : {D : Type 0} → Ghosts D → D → List (List ℕ) → Type 0
may_leave g device = g.left_at device (g.moment device)

-- It lasts as it stands: a cut leaves its contents.
abbrev pub IsLasting : {D : Type 0} → Ghosts D → D → Type 0
IsLasting g device = LeavesJust (g.contents device) (may_leave g device)

-- This is said of whatever a cut at this moment may leave.
abbrev pub LeavesOnly : {D : Type 0} → Ghosts D → D → (List (List ℕ) → Type 0) → Type 0
LeavesOnly g device Said = (disk : List (List ℕ)) → may_leave g device disk → Said disk
