-- What a handle stands for.
use Rattle.std.specs.Prelude.{◌≡◌, false, IsFalse, IfSome, None}
use Rattle.std.specs.Global.{Global}
use denote.RawPtr.{null_ptr}
use Rattle.patch_engine.specs.declared.engines.Engine.{Engine}
use Rattle.patch_engine_c.specs.declared.handle.Handle.{Handle}

-- zeros
pub record IsZeros (h : Handle) : Type 0 where
  pub not_open : h.is_open ≡ false
  pub null : h.sealed.at ≡ null_ptr
  pub nothing : h.sealed.opened ≡ None

-- where it was closed it still is, all zeros
abbrev pub StaysClosed : Handle → Handle → Type 0
StaysClosed old new = IsFalse old.is_open → IsZeros new

-- this is said of the engine that the handle stood for before a call, and of the one that it stands for behind it
abbrev pub Between : Handle → Handle → (Engine Global → Engine Global → Type 0) → Type 0
Between old new Said = IfSome old.sealed.opened (λ before. IfSome new.sealed.opened (λ after. Said before.engine after.engine))

-- this is said of the engine that the handle stands for
abbrev pub OfCache : Handle → (Engine Global → Type 0) → Type 0
OfCache handle Said = IfSome handle.sealed.opened (λ opened. Said opened.engine)
