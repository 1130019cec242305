-- What a handle stands for.
use Rattle.std.specs.Prelude.{◌≡◌, false, IsFalse, IfSome, None}
use denote.RawPtr.{null_ptr}
use Rattle.patch_c.specs.declared.handle.Handle.{Handle}
use Rattle.patch_c.specs.declared.opened.Opened.{Opened}

-- zeros
pub record IsZeros (h : Handle) : Type 0 where
  pub not_open : h.is_open ≡ false
  pub null : h.sealed.at ≡ null_ptr
  pub nothing : h.sealed.opened ≡ None

-- where it was closed it still is, all zeros
abbrev pub StaysClosed : Handle → Handle → Type 0
StaysClosed old new = IsFalse old.is_open → IsZeros new

-- but for its store what is open is as it was: the tape, with what the file holds, the file's number, whether it is synced at barriers, how
-- extents are won back, what its syncs have done, and whether one was refused
pub record KeepsRest (before after : Opened) : Type 0 where
  pub device : after.device ≡ before.device
  pub file : after.file ≡ before.file
  pub barriers : after.barriers ≡ before.barriers
  pub manual : after.manual ≡ before.manual
  pub tally : after.tally ≡ before.tally
  pub spent : after.is_spent ≡ before.is_spent

-- this is said of the store that the handle stood for before a call, and of the one that it stands for behind it
abbrev pub Between : Handle → Handle → (Opened → Opened → Type 0) → Type 0
Between old new Said = IfSome old.sealed.opened (λ before. IfSome new.sealed.opened (λ after. Said before after))
