-- Why a call of groups is refused, from what was tested.
use Rattle.std.proofs.Common.{◌≡◌, ℕ, true, false, Some, None, refl}
use Rattle.std.specs.Prelude.{◌==◌}
use Rattle.patch_model.specs.declared.refusals.RefusalKind.TheVariants as kind
use Rattle.patch_model.specs.Refusing.{bare}
use Rattle.patch_plans.specs.Groups.{Groups, group_at, is_open, is_engaged, is_engaged_by, why_not_engaged, why_not_closed, why_not_counted, why_not_ordered}

-- A group isn't closed.

pub unclosed-shut : (gs : Groups) (group : ℕ) → is_open gs group ≡ false → why_not_closed gs group ≡ Some (bare kind.NoSuchGroup)
unclosed-shut gs group a = rw a refl

pub unclosed-engaged : (gs : Groups) (group : ℕ) → is_open gs group ≡ true → is_engaged gs group ≡ true → why_not_closed gs group ≡ Some (bare kind.Engaged)
unclosed-engaged gs group a b = rw (a, b) refl

-- A group isn't counted.

pub uncounted-shut : (gs : Groups) (group : ℕ) → is_open gs group ≡ false → why_not_counted gs group ≡ Some (bare kind.NoSuchGroup)
uncounted-shut gs group a = rw a refl

-- A writer doesn't engage a group.

module _ (gs : Groups) (writer group : ℕ) where
  pub unengaged-shut : is_open gs group ≡ false → Some (bare kind.NoSuchGroup) ≡ why_not_engaged gs writer group
  unengaged-shut a = rw a refl

  pub unengaged-sealed : is_open gs group ≡ true → (group_at gs group).sealed ≡ true → Some (bare kind.Sealed) ≡ why_not_engaged gs writer group
  unengaged-sealed a b = rw (a, b) refl

  pub unengaged-engaged : is_open gs group ≡ true → (group_at gs group).sealed ≡ false → is_engaged_by gs writer group ≡ true → Some (bare kind.Engaged) ≡ why_not_engaged gs writer group
  unengaged-engaged a b d = rw (a, b, d) refl

  pub engaged-free : is_open gs group ≡ true → (group_at gs group).sealed ≡ false → is_engaged_by gs writer group ≡ false → None ≡ why_not_engaged gs writer group
  engaged-free a b d = rw (a, b, d) refl

-- A group doesn't depend on another.

module _ (gs : Groups) (group on : ℕ) where
  pub unordered-shut : is_open gs group ≡ false → Some (bare kind.NoSuchGroup) ≡ why_not_ordered gs group on
  unordered-shut a = rw a refl

  pub unordered-shut_on : is_open gs group ≡ true → is_open gs on ≡ false → Some (bare kind.NoSuchGroup) ≡ why_not_ordered gs group on
  unordered-shut_on a b = rw (a, b) refl

  module _ (a : is_open gs group ≡ true) (b : is_open gs on ≡ true) where
    pub unordered-same : (group == on) ≡ true → Some (bare kind.SameGroup) ≡ why_not_ordered gs group on
    unordered-same d = rw (a, b, d) refl

    pub unordered-sealed : (group == on) ≡ false → (group_at gs group).sealed ≡ true → Some (bare kind.Sealed) ≡ why_not_ordered gs group on
    unordered-sealed d e = rw (a, b, d, e) refl

    pub unordered-started : (group == on) ≡ false → (group_at gs group).sealed ≡ false → (group_at gs group).started ≡ true → Some (bare kind.Started) ≡ why_not_ordered gs group on
    unordered-started d e f = rw (a, b, d, e, f) refl

    pub unordered-engaged : (group == on) ≡ false → (group_at gs group).sealed ≡ false → (group_at gs group).started ≡ false → is_engaged gs on ≡ true
        → Some (bare kind.Engaged) ≡ why_not_ordered gs group on
    unordered-engaged d e f h = rw (a, b, d, e, f, h) refl

    pub ordered-free : (group == on) ≡ false → (group_at gs group).sealed ≡ false → (group_at gs group).started ≡ false → is_engaged gs on ≡ false → None ≡ why_not_ordered gs group on
    ordered-free d e f h = rw (a, b, d, e, f, h) refl
